use Rattle.std.proofs.Common.{◌≡◌, take, length, filter}
use Rattle.cxx_model.specs.Facts.Declarations.{graph_at}
use Rattle.cxx_candidates.specs.Shapes.{conversions_at, AreConversionsKnown}
use Rattle.cxx_candidates.specs.Sources as definition
use Rattle.cxx_candidates.proofs.conversions.members_of.Given as goal

abbrev pub invariant-loop-one : goal.invariant-loop-one
invariant-loop-one l = record { is : conversions_at l.types l.list.items ≡ filter (definition.is_member (graph_at l.types l.graph) l.class.0) (conversions_at l.types (take l.one-index l.all)); known : AreConversionsKnown l.graph (length l.types) l.list.items }
