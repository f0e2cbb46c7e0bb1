use Rattle.std.proofs.Common.{take, map, length}
use Rattle.cxx_meaning.specs.Conversions.Kinds.{value_kind}
use Rattle.cxx_meaning.specs.Conversions.Sizes.{referred}
use Rattle.cxx_candidates.specs.Shapes.{conversions_at, AreAdded, AreFoundKnown}
use Rattle.cxx_candidates.proofs.letters.add_conversions.Given as goal

abbrev pub invariant-loop-one : goal.invariant-loop-one
invariant-loop-one l = record { is : AreAdded l.types l.initial.found l.found (map (λ one. value_kind (referred one.of)) (conversions_at l.types (take l.one-index l.all))); known : AreFoundKnown l.graph (length l.types) l.found }
