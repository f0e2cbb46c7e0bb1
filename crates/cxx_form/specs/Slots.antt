-- Numbers by number, all of them 0 but for finitely many.
use Rattle.std.specs.Prelude.{ℕ, ◌≡◌, List, slice_index_or}

abbrev pub slot_at : List ℕ → ℕ → ℕ
slot_at slots n = slice_index_or slots n 0

-- the numbers are the same
abbrev pub AreSameSlots : List ℕ → List ℕ → Type 0
AreSameSlots old new = (n : ℕ) → slot_at new n ≡ slot_at old n

-- one number is another one
pub record IsSlotSet (old new : List ℕ) (n value : ℕ) : Type 0 where
  pub here : slot_at new n ≡ value
  pub others : (k : ℕ) → (k ≡ n → ⊥) → slot_at new k ≡ slot_at old k
