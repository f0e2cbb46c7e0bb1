use Rattle.std.proofs.Common.{◌≡◌, drop}
use Rattle.std.specs.List.{list_any}
use Rattle.cxx_meaning.specs.Lookups.Gathered.{same_scope}
use Rattle.cxx_members.proofs.lists.holds_scope.Given as goal

abbrev pub invariant-loop-other : goal.invariant-loop-other
invariant-loop-other l = list_any (same_scope l.scope) (drop l.other-index l.scopes) ≡ list_any (same_scope l.scope) l.scopes
