use Rattle.std.proofs.Common.{◌≡◌, ◌++◌, drop, length, map}
use Rattle.cxx_model.specs.Facts.Declarations.{name_at}
use Rattle.cxx_members.specs.Views.{graph_of, wanted_at}
use Rattle.cxx_scopes.specs.Views.{shown_of}
use Rattle.cxx_members.specs.Sighted.{AreBelow, sighting_at}
use Rattle.cxx_meaning.specs.Lookups.Ordinary.{standing_shown}
use Rattle.cxx_scopes.proofs.ordinary.add_shown_standing.Given as goal

abbrev pub invariant-loop-one : goal.invariant-loop-one
invariant-loop-one g l = record { rest : map (sighting_at l.looking.types.now) l.found.items ++ standing_shown (graph_of l.looking) l.cut (wanted_at l.sought.wanted) (name_at l.looking.types.now l.sought.name.now) l.scope (map shown_of (drop l.one-index l.shown)) ≡ map (sighting_at l.looking.types.now) l.fn.found.items ++ standing_shown (graph_of l.looking) l.cut (wanted_at l.sought.wanted) (name_at l.looking.types.now l.sought.name.now) l.scope (map shown_of l.shown); below : AreBelow (length l.looking.types.now) l.fn.found.items → AreBelow (length l.looking.types.now) l.found.items }
