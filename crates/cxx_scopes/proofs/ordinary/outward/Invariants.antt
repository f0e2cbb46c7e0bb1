use Rattle.std.proofs.Common.{◌≡◌, [], drop, map}
use Rattle.cxx_model.specs.Facts.Declarations.{name_at}
use Rattle.cxx_meaning.specs.Lookups.Ordinary.{ordinary_in}
use Rattle.cxx_members.specs.Views.{graph_of, wanted_at}
use Rattle.cxx_scopes.specs.Views.{shown_of}
use Rattle.cxx_scopes.proofs.ordinary.outward.Given as goal

abbrev pub invariant-loop-scope : goal.invariant-loop-scope
invariant-loop-scope g l = ordinary_in (graph_of l.looking) (wanted_at l.sought.wanted) (name_at l.looking.types.now l.sought.name.now) l.cut (map shown_of l.shown.items) (drop l.scope-index l.scopes) ≡ ordinary_in (graph_of l.looking) (wanted_at l.sought.wanted) (name_at l.looking.types.now l.sought.name.now) l.cut [] l.scopes
