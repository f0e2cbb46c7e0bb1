use Rattle.std.proofs.Common.{◌≡◌, ◌-◌}
use Rattle.cxx_meaning.specs.Lookups.Scopes.{first_space, home, up}
use Rattle.cxx_adl.specs.Views.{facts_of}
use Rattle.cxx_adl.proofs.asking.Asking.home.Given as goal

abbrev pub invariant-loop-turn : goal.invariant-loop-turn
invariant-loop-turn l = first_space (facts_of l.self) (up (facts_of l.self) (l.fn.scope.0 - l.turn) l.now) ≡ home (facts_of l.self) l.fn.scope
