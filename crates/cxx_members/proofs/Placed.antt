-- A fact put in its place among ascending ones.
use Rattle.std.proofs.Common.{◌≡◌, ◌≢◌, ℕ, suc, ◌<◌, ◌≤◌, Bool, true, false, cond, eqb, ltb, List, [], ◌∷◌, ◌++◌, length, get_or, refl, ap, sym, ◌∙◌, arith, eq-eqb}
use Rattle.std.specs.List.{insert}
use Rattle.std.proofs.lemmas.Bool.{eqb-true, false≢true}
use Rattle.cxx_model.specs.declared.types.FactId.{FactId}
use Rattle.cxx_meaning.specs.Lookups.Gathered.{with_fact}
use Rattle.cxx_members.specs.Places.{place_in}

eqb-of : (m n : ℕ) → m ≡ n → eqb m n ≡ true
eqb-of m n e = eq-eqb m n e

pub place_within : (fact : FactId) (xs : List FactId) → place_in fact xs ≤ length xs
place_within fact [] = omega arith
place_within fact (x ∷ xs) = by (ltb x.0 fact.0) (place_within fact xs)
  where
    by : (t : Bool) → place_in fact xs ≤ length xs → cond t (suc (place_in fact xs)) 0 ≤ suc (length xs)
    by true rest = omega arith
    by false rest = omega arith

-- where all are before it, it comes last
pub comes_last : (fact : FactId) (xs : List FactId) → place_in fact xs ≡ length xs → with_fact fact xs ≡ xs ++ fact ∷ []
comes_last fact [] e = refl
comes_last fact (x ∷ xs) e = by (ltb x.0 fact.0) (comes_last fact xs) e
  where
    by : (t : Bool) → (place_in fact xs ≡ length xs → with_fact fact xs ≡ xs ++ fact ∷ []) → cond t (suc (place_in fact xs)) 0 ≡ suc (length xs) → cond t (x ∷ with_fact fact xs) (cond (eqb x.0 fact.0) (x ∷ xs) (fact ∷ x ∷ xs)) ≡ x ∷ (xs ++ fact ∷ [])
    by true rest e = let r : place_in fact xs ≡ length xs = omega arith in ap (λ ys. x ∷ ys) (rest r)
    by false rest e = absurd (omega arith)

-- it is there
pub is_there : (fact : FactId) (xs : List FactId) (d : FactId) → place_in fact xs < length xs → (get_or xs (place_in fact xs) d).0 ≡ fact.0 → with_fact fact xs ≡ xs
is_there fact [] d lt e = absurd (omega arith)
is_there fact (x ∷ xs) d lt e = by (ltb x.0 fact.0) (is_there fact xs d) lt e
  where
    same : (t : Bool) → eqb x.0 fact.0 ≡ t → x.0 ≡ fact.0 → cond t (x ∷ xs) (fact ∷ x ∷ xs) ≡ x ∷ xs
    same true h e = refl
    same false h e = absurd (false≢true (sym h ∙ eqb-of x.0 fact.0 e))

    by : (t : Bool) → (place_in fact xs < length xs → (get_or xs (place_in fact xs) d).0 ≡ fact.0 → with_fact fact xs ≡ xs) → cond t (suc (place_in fact xs)) 0 < suc (length xs) → (get_or (x ∷ xs) (cond t (suc (place_in fact xs)) 0) d).0 ≡ fact.0 → cond t (x ∷ with_fact fact xs) (cond (eqb x.0 fact.0) (x ∷ xs) (fact ∷ x ∷ xs)) ≡ x ∷ xs
    by true rest lt e = let r : place_in fact xs < length xs = omega arith in ap (λ ys. x ∷ ys) (rest r e)
    by false rest lt e = same (eqb x.0 fact.0) refl e

-- it is not there
pub goes_in : (fact : FactId) (xs : List FactId) (d : FactId) → place_in fact xs < length xs → (get_or xs (place_in fact xs) d).0 ≢ fact.0 → with_fact fact xs ≡ insert xs (place_in fact xs) fact
goes_in fact [] d lt ne = absurd (omega arith)
goes_in fact (x ∷ xs) d lt ne = by (ltb x.0 fact.0) (goes_in fact xs d) lt ne
  where
    other : (t : Bool) → eqb x.0 fact.0 ≡ t → x.0 ≢ fact.0 → cond t (x ∷ xs) (fact ∷ x ∷ xs) ≡ fact ∷ x ∷ xs
    other true h ne = absurd (ne (eqb-true x.0 fact.0 h))
    other false h ne = refl

    by : (t : Bool) → (place_in fact xs < length xs → (get_or xs (place_in fact xs) d).0 ≢ fact.0 → with_fact fact xs ≡ insert xs (place_in fact xs) fact) → cond t (suc (place_in fact xs)) 0 < suc (length xs) → (get_or (x ∷ xs) (cond t (suc (place_in fact xs)) 0) d).0 ≢ fact.0 → cond t (x ∷ with_fact fact xs) (cond (eqb x.0 fact.0) (x ∷ xs) (fact ∷ x ∷ xs)) ≡ insert (x ∷ xs) (cond t (suc (place_in fact xs)) 0) fact
    by true rest lt ne = let r : place_in fact xs < length xs = omega arith in ap (λ ys. x ∷ ys) (rest r ne)
    by false rest lt ne = other (eqb x.0 fact.0) refl ne

pub is_there_at : (fact : FactId) (xs : List FactId) (p : ℕ) (d : FactId) → p ≡ place_in fact xs → p < length xs → d ≡ get_or xs p d → d.0 ≡ fact.0 → xs ≡ with_fact fact xs
is_there_at fact xs p d e lt at same =
    let l : place_in fact xs < length xs = omega arith in
    sym (is_there fact xs d l (ap (λ k. (get_or xs k d).0) (sym e) ∙ (ap (λ x. x.0) (sym at) ∙ same)))

pub goes_in_at : (fact : FactId) (xs : List FactId) (p : ℕ) (d : FactId) → p ≡ place_in fact xs → p < length xs → d ≡ get_or xs p d → d.0 ≢ fact.0 → insert xs p fact ≡ with_fact fact xs
goes_in_at fact xs p d e lt at ne =
    let l : place_in fact xs < length xs = omega arith in
    let n : (get_or xs (place_in fact xs) d).0 ≢ fact.0 = λ s. ne (ap (λ x. x.0) at ∙ (ap (λ k. (get_or xs k d).0) e ∙ s)) in
    ap (λ k. insert xs k fact) e ∙ sym (goes_in fact xs d l n)
