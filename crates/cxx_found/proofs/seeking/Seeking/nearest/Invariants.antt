use Rattle.std.proofs.Common.{◌≡◌, ◌-◌, map}
use Rattle.cxx_meaning.specs.Lookups.Ordinary.{ordinary, ordinary_in}
use Rattle.cxx_meaning.specs.Lookups.Scopes.{up}
use Rattle.cxx_found.specs.Views.{cut_of, facts_of, graph_of, name_of, shown_of, wanted_of}
use Rattle.cxx_found.proofs.seeking.Seeking.nearest.Given as goal

abbrev pub invariant-loop-turn : goal.invariant-loop-turn
invariant-loop-turn l = ordinary_in (graph_of l.self) (wanted_of l.self) (name_of l.self) (cut_of l.self) (map shown_of l.shown.items) (up (facts_of l.self) (l.fn.scope.0 - l.turn) l.now) ≡ ordinary (graph_of l.self) (wanted_of l.self) l.fn.scope (name_of l.self) (cut_of l.self)
