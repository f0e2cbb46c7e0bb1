use Rattle.std.proofs.Common.{◌≡◌, ◌++◌, drop, length, map}
use Rattle.cxx_model.specs.Facts.Declarations.{name_at}
use Rattle.cxx_members.specs.Views.{graph_of, wanted_at}
use Rattle.cxx_members.specs.Sighted.{AreBelow, sighting_at}
use Rattle.cxx_meaning.specs.Lookups.Qualified.{standing_in}
use Rattle.cxx_scopes.proofs.qualified.add_standing_in.Given as goal

abbrev pub invariant-loop-space : goal.invariant-loop-space
invariant-loop-space g l = record { rest : map (sighting_at l.looking.types.now) l.found.items ++ standing_in (graph_of l.looking) l.cut (wanted_at l.sought.wanted) (name_at l.looking.types.now l.sought.name.now) (drop l.space-index l.spaces) ≡ map (sighting_at l.looking.types.now) l.fn.found.items ++ standing_in (graph_of l.looking) l.cut (wanted_at l.sought.wanted) (name_at l.looking.types.now l.sought.name.now) l.spaces; below : AreBelow (length l.looking.types.now) l.fn.found.items → AreBelow (length l.looking.types.now) l.found.items }
