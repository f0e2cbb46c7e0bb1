-- The numbers of names, one name after another.
use Rattle.std.proofs.Common.{◌≡◌, ℕ, zero, suc, ◌+◌, Bool, true, false, cond, eqb, List, [], ◌∷◌, ◌++◌, length, refl, ap, sym, ◌∙◌, arith, length-append}
use Rattle.std.specs.Prelude.{nat_eq, ◌||◌}
use Rattle.std.specs.List.{list_any}
use Rattle.std.proofs.lemmas.Bool.{eqb-true, eq-eqb}
use Rattle.std.proofs.lemmas.List.Folds.{list_any-append}
use Rattle.cxx_reading.specs.TextOrder.{number_in, with_new}
use Rattle.cxx_form.specs.Numbered.{IsNumbering, slot_of}
use Rattle.cxx_form.specs.Slots.{slot_at, IsSlotSet}

turned : (a b : ℕ) (t : Bool) → eqb a b ≡ t → eqb b a ≡ t
turned a b true e = eq-eqb b a (sym (eqb-true a b e))
turned a b false e = by (eqb b a) refl
  where
    by : (t : Bool) → eqb b a ≡ t → eqb b a ≡ false
    by true h = (let wrong : true ≡ false = sym (eq-eqb a b (sym (eqb-true b a h))) ∙ e in cc)
    by false h = h

number_old : (order others : List ℕ) (k : ℕ) → list_any (nat_eq k) order ≡ true → number_in (order ++ others) k ≡ number_in order k
number_old [] others k e = cc
number_old (first ∷ order) others k e = by (eqb first k) refl (number_old order others k)
  where
    by : (t : Bool) → eqb first k ≡ t → (list_any (nat_eq k) order ≡ true → number_in (order ++ others) k ≡ number_in order k) → number_in (first ∷ order ++ others) k ≡ number_in (first ∷ order) k
    by true h more = rw h refl
    by false h more =
        let rest : list_any (nat_eq k) order ≡ true = sym (ap (λ t. t || list_any (nat_eq k) order) (turned first k false h)) ∙ e in
        rw h (ap (λ n. suc n) (more rest))

number_absent : (order others : List ℕ) (k : ℕ) → list_any (nat_eq k) order ≡ false → number_in (order ++ others) k ≡ length order + number_in others k
number_absent [] others k e = omega arith
number_absent (first ∷ order) others k e = by (eqb first k) refl (number_absent order others k)
  where
    by : (t : Bool) → eqb first k ≡ t → (list_any (nat_eq k) order ≡ false → number_in (order ++ others) k ≡ length order + number_in others k) → number_in (first ∷ order ++ others) k ≡ length (first ∷ order) + number_in others k
    by true h more = (let wrong : true ≡ false = sym (ap (λ t. t || list_any (nat_eq k) order) (turned first k true h)) ∙ e in cc)
    by false h more =
        let rest : list_any (nat_eq k) order ≡ false = sym (ap (λ t. t || list_any (nat_eq k) order) (turned first k false h)) ∙ e in
        let left : number_in (order ++ others) k ≡ length order + number_in others k = more rest in
        rw h (omega arith)

number_past : (order : List ℕ) (k : ℕ) → list_any (nat_eq k) order ≡ false → number_in order k ≡ length order + 1
number_past [] k e = refl
number_past (first ∷ order) k e = by (eqb first k) refl (number_past order k)
  where
    by : (t : Bool) → eqb first k ≡ t → (list_any (nat_eq k) order ≡ false → number_in order k ≡ length order + 1) → number_in (first ∷ order) k ≡ length (first ∷ order) + 1
    by true h more = (let wrong : true ≡ false = sym (ap (λ t. t || list_any (nat_eq k) order) (turned first k true h)) ∙ e in cc)
    by false h more =
        let rest : list_any (nat_eq k) order ≡ false = sym (ap (λ t. t || list_any (nat_eq k) order) (turned first k false h)) ∙ e in
        let left : number_in order k ≡ length order + 1 = more rest in
        rw h (omega arith)

positive : (order : List ℕ) (k : ℕ) → number_in order k ≡ 0 → ⊥
positive [] k e = cc
positive (first ∷ order) k e = by (eqb first k) e
  where
    by : (t : Bool) → cond t (suc zero) (suc (number_in order k)) ≡ 0 → ⊥
    by true h = cc
    by false h = cc

-- ---- slots

slot_there : (order : List ℕ) (k : ℕ) → list_any (nat_eq k) order ≡ true → slot_of order k ≡ number_in order k
slot_there order k e = rw e refl

slot_absent : (order : List ℕ) (k : ℕ) → list_any (nat_eq k) order ≡ false → slot_of order k ≡ 0
slot_absent order k e = rw e refl

there : (order : List ℕ) (k : ℕ) → (slot_of order k ≡ 0 → ⊥) → list_any (nat_eq k) order ≡ true
there order k some = by (list_any (nat_eq k) order) refl
  where
    by : (t : Bool) → list_any (nat_eq k) order ≡ t → list_any (nat_eq k) order ≡ true
    by true e = e
    by false e = absurd (some (slot_absent order k e))

absent : (order : List ℕ) (k : ℕ) → slot_of order k ≡ 0 → list_any (nat_eq k) order ≡ false
absent order k none = by (list_any (nat_eq k) order) refl
  where
    by : (t : Bool) → list_any (nat_eq k) order ≡ t → list_any (nat_eq k) order ≡ false
    by true e = absurd (positive order k (sym (slot_there order k e) ∙ none))
    by false e = e

slot_here : (order : List ℕ) (n : ℕ) → list_any (nat_eq n) order ≡ false → slot_of (order ++ n ∷ []) n ≡ length order + 1
slot_here order n e =
    let same : eqb n n ≡ true = eq-eqb n n refl in
    let held : list_any (nat_eq n) (order ++ n ∷ []) ≡ true = list_any-append (nat_eq n) order (n ∷ []) ∙ (rw e (rw same refl)) in
    let first : number_in (n ∷ []) n ≡ 1 = rw same refl in
    slot_there (order ++ n ∷ []) n held ∙ number_absent order (n ∷ []) n e ∙ ap (λ m. length order + m) first

slot_other : (order : List ℕ) (n k : ℕ) → (k ≡ n → ⊥) → slot_of (order ++ n ∷ []) k ≡ slot_of order k
slot_other order n k other = by (list_any (nat_eq k) order) refl
  where
    apart : (t : Bool) → eqb k n ≡ t → eqb k n ≡ false
    apart true e = absurd (other (eqb-true k n e))
    apart false e = e

    by : (t : Bool) → list_any (nat_eq k) order ≡ t → slot_of (order ++ n ∷ []) k ≡ slot_of order k
    by true e =
        let held : list_any (nat_eq k) (order ++ n ∷ []) ≡ true = list_any-append (nat_eq k) order (n ∷ []) ∙ rw e refl in
        slot_there (order ++ n ∷ []) k held ∙ number_old order (n ∷ []) k e ∙ sym (slot_there order k e)
    by false e =
        let not_it : eqb k n ≡ false = apart (eqb k n) refl in
        let held : list_any (nat_eq k) (order ++ n ∷ []) ≡ false = list_any-append (nat_eq k) order (n ∷ []) ∙ (rw e (rw not_it refl)) in
        slot_absent (order ++ n ∷ []) k held ∙ sym (slot_absent order k e)

old_order : (order : List ℕ) (n : ℕ) → list_any (nat_eq n) order ≡ true → with_new order n ≡ order
old_order order n e = rw e refl

new_order : (order : List ℕ) (n : ℕ) → list_any (nat_eq n) order ≡ false → with_new order n ≡ order ++ n ∷ []
new_order order n e = rw e refl

-- ---- numberings

pub none_numbered : (count : ℕ) (slots : List ℕ) → count ≡ 0 → slots ≡ [] → IsNumbering [] count slots
none_numbered count slots nothing none = record {
  count = nothing;
  each = λ n. ap (λ (xs : List ℕ). slot_at xs n) none;
}

pub numbered_before : (order : List ℕ) (count : ℕ) (slots : List ℕ) (n : ℕ) → IsNumbering order count slots → (slot_at slots n ≡ 0 → ⊥) → IsNumbering (with_new order n) count slots
numbered_before order count slots n is some =
    let same : with_new order n ≡ order = old_order order n (there order n (λ none. some (is.each n ∙ none))) in
    rw same is

pub one_numbered : (order : List ℕ) (count : ℕ) (old new : List ℕ) (n : ℕ) → IsNumbering order count old → slot_at old n ≡ 0 → IsSlotSet old new n (count + 1) → IsNumbering (with_new order n) (count + 1) new
one_numbered order count old new n is none set =
    let not_there : list_any (nat_eq n) order ≡ false = absent order n (sym (is.each n) ∙ none) in
    let same : with_new order n ≡ order ++ n ∷ [] = new_order order n not_there in
    let before : count ≡ length order = is.count in
    rw same (record {
      count = omega (arith, length-append order (n ∷ []));
      each = λ k. at k (eqb k n) refl before not_there;
    })
  where
    at : (k : ℕ) (t : Bool) → eqb k n ≡ t → count ≡ length order → list_any (nat_eq n) order ≡ false → slot_at new k ≡ slot_of (order ++ n ∷ []) k
    at k true e before not_there =
        let it : k ≡ n = eqb-true k n e in
        rw it (set.here ∙ ap (λ m. m + 1) before ∙ sym (slot_here order n not_there))
    at k false e before not_there =
        let other : k ≡ n → ⊥ = λ it. (let wrong : true ≡ false = sym (eq-eqb k n it) ∙ e in cc) in
        set.others k other ∙ is.each k ∙ sym (slot_other order n k other)

pub number_read : (order : List ℕ) (count : ℕ) (slots : List ℕ) (n : ℕ) → IsNumbering order count slots → (slot_at slots n ≡ 0 → ⊥) → slot_at slots n ≡ number_in order n
number_read order count slots n is some = is.each n ∙ slot_there order n (there order n (λ none. some (is.each n ∙ none)))

pub number_none : (order : List ℕ) (count : ℕ) (slots : List ℕ) (n : ℕ) → IsNumbering order count slots → slot_at slots n ≡ 0 → count + 1 ≡ number_in order n
number_none order count slots n is none =
    let not_there : list_any (nat_eq n) order ≡ false = absent order n (sym (is.each n) ∙ none) in
    let past : number_in order n ≡ length order + 1 = number_past order n not_there in
    let before : count ≡ length order = is.count in
    omega arith
