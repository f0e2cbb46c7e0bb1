use Rattle.std.proofs.Common.{◌≡◌, ◌-◌, length}
use Rattle.cxx_meaning.specs.Lookups.Directives.{nominated, reached}
use Rattle.cxx_meaning.specs.Lookups.Gathered.{spread}
use Rattle.cxx_found.specs.Views.{cut_of, facts_of}
use Rattle.cxx_found.proofs.seeking.Seeking.reached.Given as goal

abbrev pub invariant-loop-place : goal.invariant-loop-place
invariant-loop-place l = spread (nominated (facts_of l.self) (cut_of l.self)) (length (facts_of l.self) - l.place) l.place l.found.keys ≡ reached (facts_of l.self) (cut_of l.self) l.fn.scope
