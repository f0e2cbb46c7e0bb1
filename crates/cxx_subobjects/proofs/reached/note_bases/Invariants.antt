use Rattle.std.proofs.Common.{◌≡◌, ◌<◌, ℕ, true, take}
use Rattle.cxx_subobjects.specs.Reached.{AreAllBelow, has}
use Rattle.cxx_subobjects.proofs.Walking.{among}
use Rattle.cxx_subobjects.proofs.reached.note_bases.Given as goal

abbrev pub invariant-loop-number : goal.invariant-loop-number
invariant-loop-number l = record {
  below : AreAllBelow l.before l.waiting.keys;
  kept : (j : ℕ) → has l.fn.waiting.keys j ≡ true → has l.waiting.keys j ≡ true;
  noted : (j : ℕ) → j < l.before → among (take l.number-index l.numbers) j ≡ true → has l.waiting.keys j ≡ true;
}
