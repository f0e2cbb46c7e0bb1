use Rattle.std.proofs.Common.{◌≡◌, drop}
use Rattle.cxx_meaning.specs.Lookups.Gathered.{with_scopes}
use Rattle.cxx_found.proofs.shown.add_scopes.Given as goal

abbrev pub invariant-loop-scope : goal.invariant-loop-scope
invariant-loop-scope l = with_scopes l.scopes.keys (drop l.scope-index l.others) ≡ with_scopes l.fn.scopes.keys l.others
