use Rattle.std.proofs.Common.{◌≡◌, ◌-◌, length}
use Rattle.cxx_meaning.specs.Lookups.Directives.{nominated, reached}
use Rattle.cxx_meaning.specs.Lookups.Gathered.{spread}
use Rattle.cxx_members.specs.Views.{facts_of}
use Rattle.cxx_scopes.proofs.directives.reached.Given as goal

abbrev pub invariant-loop-place : goal.invariant-loop-place
invariant-loop-place g l = spread (nominated (facts_of l.looking) l.cut) (length (facts_of l.looking) - l.place) l.place l.found.items ≡ reached (facts_of l.looking) l.cut l.fn.scope
