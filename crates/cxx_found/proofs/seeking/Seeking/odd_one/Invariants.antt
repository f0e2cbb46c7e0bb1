use Rattle.std.proofs.Common.{◌≡◌, drop, not}
use Rattle.std.specs.List.{find}
use Rattle.cxx_meaning.specs.Lookups.Sightings.{both_functions}
use Rattle.cxx_found.specs.Views.{graph_of}
use Rattle.cxx_found.proofs.seeking.Seeking.odd_one.Given as goal

abbrev pub invariant-loop-two : goal.invariant-loop-two
invariant-loop-two l = find (λ two. not (both_functions (graph_of l.self) l.one two)) (drop l.two-index l.others) ≡ find (λ two. not (both_functions (graph_of l.self) l.one two)) l.others
