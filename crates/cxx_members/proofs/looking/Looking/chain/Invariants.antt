use Rattle.std.proofs.Common.{◌≡◌, ◌++◌, ◌-◌}
use Rattle.cxx_meaning.specs.Lookups.Scopes.{up}
use Rattle.cxx_members.specs.Views.{facts_of}
use Rattle.cxx_members.proofs.looking.Looking.chain.Given as goal

abbrev pub invariant-loop-turn : goal.invariant-loop-turn
invariant-loop-turn l = l.scopes.items ++ up (facts_of l.self) (l.fn.scope.0 - l.turn) l.now ≡ up (facts_of l.self) l.fn.scope.0 l.fn.scope
