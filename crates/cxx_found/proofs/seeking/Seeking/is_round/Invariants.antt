use Rattle.std.proofs.Common.{◌≡◌, ◌-◌}
use Rattle.cxx_meaning.specs.Lookups.Gathered.{holds_scope}
use Rattle.cxx_meaning.specs.Lookups.Scopes.{chain, up}
use Rattle.cxx_found.specs.Views.{facts_of}
use Rattle.cxx_found.proofs.seeking.Seeking.is_round.Given as goal

abbrev pub invariant-loop-turn : goal.invariant-loop-turn
invariant-loop-turn l = holds_scope (up (facts_of l.self) (l.fn.inner.0 - l.turn) l.now) l.fn.scope ≡ holds_scope (chain (facts_of l.self) l.fn.inner) l.fn.scope
