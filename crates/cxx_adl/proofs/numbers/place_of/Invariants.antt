use Rattle.std.proofs.Common.{◌≡◌, ◌+◌, drop}
use Rattle.cxx_adl.specs.Places.{place_in}
use Rattle.cxx_adl.proofs.numbers.place_of.Given as goal

abbrev pub invariant-loop-other : goal.invariant-loop-other
invariant-loop-other l = record { so_far : l.place ≡ l.other-index; rest : place_in l.number (drop l.other-index l.numbers) + l.place ≡ place_in l.number l.numbers }
