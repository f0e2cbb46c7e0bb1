-- A number put in its place among ascending ones.
use Rattle.std.proofs.Common.{◌≡◌, ◌≢◌, ℕ, suc, ◌<◌, ◌≤◌, Bool, true, false, cond, eqb, ltb, List, [], ◌∷◌, ◌++◌, length, get_or, refl, ap, sym, ◌∙◌, arith, eq-eqb}
use Rattle.std.specs.List.{insert}
use Rattle.std.proofs.lemmas.Bool.{eqb-true, false≢true}
use Rattle.cxx_meaning.specs.Lookups.Associated.{with_number}
use Rattle.cxx_adl.specs.Places.{place_in}

eqb-of : (m n : ℕ) → m ≡ n → eqb m n ≡ true
eqb-of m n e = eq-eqb m n e

pub place_within : (number : ℕ) (xs : List ℕ) → place_in number xs ≤ length xs
place_within number [] = omega arith
place_within number (x ∷ xs) = by (ltb x number) (place_within number xs)
  where
    by : (t : Bool) → place_in number xs ≤ length xs → cond t (suc (place_in number xs)) 0 ≤ suc (length xs)
    by true rest = omega arith
    by false rest = omega arith

-- where all are before it, it comes last
pub comes_last : (number : ℕ) (xs : List ℕ) → place_in number xs ≡ length xs → with_number number xs ≡ xs ++ number ∷ []
comes_last number [] e = refl
comes_last number (x ∷ xs) e = by (ltb x number) (comes_last number xs) e
  where
    by : (t : Bool) → (place_in number xs ≡ length xs → with_number number xs ≡ xs ++ number ∷ []) → cond t (suc (place_in number xs)) 0 ≡ suc (length xs) → cond t (x ∷ with_number number xs) (cond (eqb x number) (x ∷ xs) (number ∷ x ∷ xs)) ≡ x ∷ (xs ++ number ∷ [])
    by true rest e = let r : place_in number xs ≡ length xs = omega arith in ap (λ ys. x ∷ ys) (rest r)
    by false rest e = absurd (omega arith)

-- it is there
pub is_there : (number : ℕ) (xs : List ℕ) (d : ℕ) → place_in number xs < length xs → (get_or xs (place_in number xs) d) ≡ number → with_number number xs ≡ xs
is_there number [] d lt e = absurd (omega arith)
is_there number (x ∷ xs) d lt e = by (ltb x number) (is_there number xs d) lt e
  where
    same : (t : Bool) → eqb x number ≡ t → x ≡ number → cond t (x ∷ xs) (number ∷ x ∷ xs) ≡ x ∷ xs
    same true h e = refl
    same false h e = absurd (false≢true (sym h ∙ eqb-of x number e))

    by : (t : Bool) → (place_in number xs < length xs → (get_or xs (place_in number xs) d) ≡ number → with_number number xs ≡ xs) → cond t (suc (place_in number xs)) 0 < suc (length xs) → (get_or (x ∷ xs) (cond t (suc (place_in number xs)) 0) d) ≡ number → cond t (x ∷ with_number number xs) (cond (eqb x number) (x ∷ xs) (number ∷ x ∷ xs)) ≡ x ∷ xs
    by true rest lt e = let r : place_in number xs < length xs = omega arith in ap (λ ys. x ∷ ys) (rest r e)
    by false rest lt e = same (eqb x number) refl e

-- it is not there
pub goes_in : (number : ℕ) (xs : List ℕ) (d : ℕ) → place_in number xs < length xs → (get_or xs (place_in number xs) d) ≢ number → with_number number xs ≡ insert xs (place_in number xs) number
goes_in number [] d lt ne = absurd (omega arith)
goes_in number (x ∷ xs) d lt ne = by (ltb x number) (goes_in number xs d) lt ne
  where
    other : (t : Bool) → eqb x number ≡ t → x ≢ number → cond t (x ∷ xs) (number ∷ x ∷ xs) ≡ number ∷ x ∷ xs
    other true h ne = absurd (ne (eqb-true x number h))
    other false h ne = refl

    by : (t : Bool) → (place_in number xs < length xs → (get_or xs (place_in number xs) d) ≢ number → with_number number xs ≡ insert xs (place_in number xs) number) → cond t (suc (place_in number xs)) 0 < suc (length xs) → (get_or (x ∷ xs) (cond t (suc (place_in number xs)) 0) d) ≢ number → cond t (x ∷ with_number number xs) (cond (eqb x number) (x ∷ xs) (number ∷ x ∷ xs)) ≡ insert (x ∷ xs) (cond t (suc (place_in number xs)) 0) number
    by true rest lt ne = let r : place_in number xs < length xs = omega arith in ap (λ ys. x ∷ ys) (rest r ne)
    by false rest lt ne = other (eqb x number) refl ne

pub is_there_at : (number : ℕ) (xs : List ℕ) (p : ℕ) (d : ℕ) → p ≡ place_in number xs → p < length xs → d ≡ get_or xs p d → d ≡ number → xs ≡ with_number number xs
is_there_at number xs p d e lt at same =
    let l : place_in number xs < length xs = omega arith in
    sym (is_there number xs d l (ap (λ k. get_or xs k d) (sym e) ∙ (ap (λ x. x) (sym at) ∙ same)))

pub goes_in_at : (number : ℕ) (xs : List ℕ) (p : ℕ) (d : ℕ) → p ≡ place_in number xs → p < length xs → d ≡ get_or xs p d → d ≢ number → insert xs p number ≡ with_number number xs
goes_in_at number xs p d e lt at ne =
    let l : place_in number xs < length xs = omega arith in
    let n : (get_or xs (place_in number xs) d) ≢ number = λ s. ne (ap (λ x. x) at ∙ (ap (λ k. get_or xs k d) e ∙ s)) in
    ap (λ k. insert xs k number) e ∙ sym (goes_in number xs d l n)
