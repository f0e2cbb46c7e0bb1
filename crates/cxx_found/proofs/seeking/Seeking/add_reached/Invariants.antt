use Rattle.std.proofs.Common.{◌≡◌, ◌++◌, drop, map}
use Rattle.cxx_meaning.specs.Lookups.Directives.{shown_from}
use Rattle.cxx_meaning.specs.Lookups.Scopes.{chain}
use Rattle.cxx_found.specs.Views.{facts_of, shown_of}
use Rattle.cxx_found.proofs.seeking.Seeking.add_reached.Given as goal

abbrev pub invariant-loop-space : goal.invariant-loop-space
invariant-loop-space l = map shown_of l.shown.items ++ map (shown_from (facts_of l.self) (chain (facts_of l.self) l.fn.scope)) (drop l.space-index l.reached) ≡ map shown_of l.fn.shown.items ++ map (shown_from (facts_of l.self) (chain (facts_of l.self) l.fn.scope)) l.reached
