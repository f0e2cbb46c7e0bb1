use Rattle.std.proofs.Common.{◌≡◌, ℕ, Bool, ◌||◌, take}
use Rattle.std.specs.List.{list_any}
use Rattle.cxx_inherited.specs.Reached.{AreAllBelow, passes_below}
use Rattle.cxx_inherited.proofs.bases.note_all.Given as goal

abbrev pub invariant-loop-number : goal.invariant-loop-number
invariant-loop-number l = record {
  below : AreAllBelow l.before l.waiting.keys;
  noted : (good : ℕ → Bool) → list_any good l.waiting.keys ≡ (list_any good l.fn.waiting.keys || list_any (passes_below l.before good) (take l.number-index l.numbers));
}
