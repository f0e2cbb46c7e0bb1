use Rattle.std.proofs.Common.{◌≡◌, ◌+◌, drop}
use Rattle.cxx_members.specs.Places.{place_in}
use Rattle.cxx_inherited.proofs.rows.place_of.Given as goal

abbrev pub invariant-loop-other : goal.invariant-loop-other
invariant-loop-other l = record { so_far : l.place ≡ l.other-index; rest : place_in l.fact (drop l.other-index l.facts) + l.place ≡ place_in l.fact l.facts }
