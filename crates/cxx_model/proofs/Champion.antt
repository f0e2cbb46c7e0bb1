-- The best of several functions, in words.
use Rattle.std.proofs.Common.{◌≡◌, ◌≢◌, ℕ, zero, suc, Bool, true, false, cond, ◌&&◌, ◌||◌, eqb, List, [], ◌∷◌, Option, Some, refl, sym, ap, subst, ◌∙◌, ◌⊎◌, inl, inr, arith}
use Rattle.std.specs.List.{Contains, find, list_all}
use Rattle.std.proofs.lemmas.Bool.{eqb-true}
use Rattle.std.proofs.lemmas.List.Elements.{Contains-append_right, Contains-append_cases}
use Rattle.cxx_model.specs.Choice.Better.{best, beats_if_other, IsBest}

pub and_true : (a b : Bool) → (a && b) ≡ true → (a ≡ true) × (b ≡ true)
and_true true b e = (refl, e)
and_true false b e = absurd cc

pub or_false : (a b : Bool) → (a || b) ≡ true → a ≡ false → b ≡ true
or_false true b e h = absurd cc
or_false false b e h = e

pub eqb_of_other : (a b : ℕ) → a ≢ b → eqb a b ≡ false
eqb_of_other a b ne = by (eqb a b) (eqb-true a b)
  where
    by : (t : Bool) → (t ≡ true → a ≡ b) → t ≡ false
    by true h = absurd (ne (h refl))
    by false h = refl

-- ---- elements

pub first_of : {X : Type 0} (x : X) (xs : List X) → Contains (x ∷ xs) x
first_of x xs = (0, omega arith, refl)

pub later_of : {X : Type 0} (x : X) (xs : List X) (y : X) → Contains xs y → Contains (x ∷ xs) y
later_of x xs y m = Contains-append_right (x ∷ []) xs y m

only_of : {X : Type 0} (x y : X) → Contains (x ∷ []) y → x ≡ y
only_of x y (zero, lt, e) = e
only_of x y (suc k, lt, e) = absurd (omega arith)

pub first_or_later : {X : Type 0} (x : X) (xs : List X) (y : X) → Contains (x ∷ xs) y → (x ≡ y) ⊎ Contains xs y
first_or_later x xs y m =
    elim (Contains-append_cases (x ∷ []) xs y m) [
      | inl here ↦ inl (only_of x y here)
      | inr there ↦ inr there
    ]

pub all_pass : {X : Type 0} (p : X → Bool) (xs : List X) → list_all p xs ≡ true → (y : X) → Contains xs y → p y ≡ true
all_pass p [] h y m = absurd (omega (arith, m.1))
all_pass p (x ∷ xs) h y m =
    let both = and_true (p x) (list_all p xs) h in
    elim (first_or_later x xs y m) [
      | inl here ↦ ap p (sym here) ∙ both.0
      | inr there ↦ all_pass p xs both.1 y there
    ]

found_at : {X : Type 0} (b : Bool) (x : X) (o : Option X) (y : X) → cond b (Some x) o ≡ Some y → ((b ≡ true) × (x ≡ y)) ⊎ (o ≡ Some y)
found_at true x o y e = inl (refl, cc)
found_at false x o y e = inr e

pub find_some : {X : Type 0} (p : X → Bool) (xs : List X) (y : X) → find p xs ≡ Some y → Contains xs y × (p y ≡ true)
find_some p [] y e = absurd cc
find_some p (x ∷ xs) y e =
    elim (found_at (p x) x (find p xs) y e) [
      | inl here ↦ (subst (λ z. Contains (x ∷ xs) z) here.1 (first_of x xs), ap p (sym here.1) ∙ here.0)
      | inr there ↦ let h = find_some p xs y there in (later_of x xs y h.0, h.1)
    ]

-- ---- the best

pub best_is_best : {F : Type 0} (number : F → ℕ) (beats : F → F → Bool) (contenders : List F) (f : F) → best number beats contenders ≡ Some f → IsBest number beats contenders f
best_is_best number beats contenders f e =
    let s = find_some (λ f. list_all (beats_if_other number beats f) contenders) contenders f e in
    record {
      member = s.0;
      beats_others = λ g m other. or_false (eqb (number g) (number f)) (beats f g) (all_pass (beats_if_other number beats f) contenders s.1 g m) (eqb_of_other (number g) (number f) other);
    }
