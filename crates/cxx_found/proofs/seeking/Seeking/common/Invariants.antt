use Rattle.std.proofs.Common.{◌≡◌, ◌&&◌, ◌-◌}
use Rattle.std.specs.List.{find}
use Rattle.cxx_model.specs.Facts.Entities.{is_space}
use Rattle.cxx_meaning.specs.Lookups.Gathered.{holds_scope}
use Rattle.cxx_meaning.specs.Lookups.Scopes.{chain, kind_of, up}
use Rattle.cxx_found.specs.Views.{facts_of}
use Rattle.cxx_found.proofs.seeking.Seeking.common.Given as goal

abbrev pub invariant-loop-turn : goal.invariant-loop-turn
invariant-loop-turn l = find (λ one. is_space (kind_of (facts_of l.self) one) && holds_scope (chain (facts_of l.self) l.fn.space) one) (up (facts_of l.self) (l.fn.scope.0 - l.turn) l.now) ≡ find (λ one. is_space (kind_of (facts_of l.self) one) && holds_scope (chain (facts_of l.self) l.fn.space) one) (chain (facts_of l.self) l.fn.scope)
