use Rattle.std.proofs.Common.{◌≡◌, ◌++◌, map, drop}
use Rattle.cxx_meaning.specs.Lookups.Directives.{shown_from}
use Rattle.cxx_members.specs.Views.{facts_of}
use Rattle.cxx_scopes.specs.Views.{shown_of}
use Rattle.cxx_scopes.proofs.directives.add_shown.Given as goal

abbrev pub invariant-loop-space : goal.invariant-loop-space
invariant-loop-space g l = map shown_of l.shown.items ++ map (shown_from (facts_of l.looking) l.chain.items) (drop l.space-index l.space-items) ≡ map shown_of l.fn.shown.items ++ map (shown_from (facts_of l.looking) l.chain.items) l.space-items
