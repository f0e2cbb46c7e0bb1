-- One more byte at the end of a run.
use Rattle.std.proofs.Common.{◌≡◌, ◌≤◌, ℕ, ◌+◌, true, false, ◌==◌, List, [], ◌∷◌, ◌++◌, length, ⊎_elim, refl, arith}
use Rattle.std.proofs.lemmas.Bool.{and_from, and_parts, cases_Bool}
use Rattle.cxx_model.specs.declared.place.Place.{Place}
use Rattle.cxx_model.specs.Text.Lexemes.{after, past}
use Rattle.cxx_model.specs.Text.Spelling.{is_number_rest}
use Rattle.cxx_model.specs.Text.Continuing.{number_goes_on, last_of}
use Rattle.cxx_model.proofs.Readings.{past_append}

pub last_of_push : (first : ℕ) (text : List ℕ) (b : ℕ) → last_of first (text ++ b ∷ []) ≡ b
last_of_push first [] b = refl
last_of_push first (c ∷ text) b = last_of_push c text b

pub number_rest_push : (first : ℕ) (text : List ℕ) (b : ℕ) → is_number_rest first text ≡ true → number_goes_on (last_of first text) b ≡ true → is_number_rest first (text ++ b ∷ []) ≡ true
number_rest_push first [] b all here = and_from _ _ here refl
number_rest_push first (c ∷ text) b all here =
    let parts = and_parts (number_goes_on first c) (is_number_rest c text) all in
    and_from _ _ parts.0 (number_rest_push c text b parts.1 here)

pub past_push : (text : List ℕ) (b : ℕ) (place : Place) → past (text ++ b ∷ []) place ≡ after b (past text place)
past_push text b place = past_append text (b ∷ []) place

pub after_line : (b : ℕ) (place : Place) → (after b place).line ≤ place.line + 1
after_line b place = ⊎_elim (λ (e : (b == 10) ≡ true). rw e (omega arith)) (λ (e : (b == 10) ≡ false). rw e (omega arith)) (cases_Bool (b == 10))

pub after_column : (b : ℕ) (place : Place) → (after b place).column ≤ place.column + 1
after_column b place = ⊎_elim (λ (e : (b == 10) ≡ true). rw e (omega arith)) (λ (e : (b == 10) ≡ false). rw e (omega arith)) (cases_Bool (b == 10))

pub past_line : (text : List ℕ) (place : Place) → (past text place).line ≤ place.line + length text
past_line [] place = omega arith
past_line (b ∷ text) place = omega (arith, past_line text (after b place), after_line b place)

pub past_column : (text : List ℕ) (place : Place) → (past text place).column ≤ place.column + length text
past_column [] place = omega arith
past_column (b ∷ text) place = omega (arith, past_column text (after b place), after_column b place)
