use Rattle.std.proofs.Common.{◌≡◌, ◌+◌, drop}
use Rattle.cxx_adl.specs.Places.{fact_place_in}
use Rattle.cxx_adl.proofs.facts.fact_place_of.Given as goal

abbrev pub invariant-loop-other : goal.invariant-loop-other
invariant-loop-other l = record { so_far : l.place ≡ l.other-index; rest : fact_place_in l.fact (drop l.other-index l.facts) + l.place ≡ fact_place_in l.fact l.facts }
