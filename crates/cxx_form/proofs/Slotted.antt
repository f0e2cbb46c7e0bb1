-- What becomes of numbers by number at each step.
use Rattle.std.specs.Prelude.{ℕ, zero, suc, ◌≡◌, ◌<◌, ◌≤◌, List, [], ◌∷◌, ◌++◌, length, refl}
use Rattle.std.proofs.Common.{ap, ◌∙◌, arith, set, get_or-set_other, get_or-set_same}
use Rattle.cxx_form.specs.Slots.{slot_at, AreSameSlots, IsSlotSet}

one_more : (slots : List ℕ) (k : ℕ) → slot_at (slots ++ 0 ∷ []) k ≡ slot_at slots k
one_more [] zero = refl
one_more [] (suc k) = refl
one_more (n ∷ slots) zero = refl
one_more (n ∷ slots) (suc k) = one_more slots k

pub slots_reached : (old slots all : List ℕ) → AreSameSlots old slots → all ≡ slots ++ 0 ∷ [] → AreSameSlots old all
slots_reached old slots all same are k = ap (λ (xs : List ℕ). slot_at xs k) are ∙ one_more slots k ∙ same k

pub slot_set : (old slots : List ℕ) (n value : ℕ) → AreSameSlots old slots → n < length slots → IsSlotSet old (set slots n value) n value
slot_set old slots n value same within = record {
  here = get_or-set_same slots n value 0 within;
  others = λ k other. get_or-set_other slots n k value 0 other ∙ same k;
}

pub slot_past : (slots : List ℕ) (n : ℕ) → length slots ≤ n → slot_at slots n ≡ 0
slot_past [] n past = refl
slot_past (m ∷ slots) zero past = absurd (omega arith)
slot_past (m ∷ slots) (suc n) past = slot_past slots n (omega arith)
