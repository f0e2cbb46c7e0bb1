-- What becomes of rows of numbers at each step.
use Rattle.std.specs.Prelude.{ℕ, zero, suc, ◌≡◌, ◌<◌, List, [], ◌∷◌, ◌++◌, length, map, refl}
use Rattle.std.specs.Global.{Vec}
use Rattle.std.proofs.Common.{ap, sym, ◌∙◌, arith, set, get_or, get_or-set_other, get_or-set_same}
use Rattle.std.proofs.Math.ListN.{length-map}
use Rattle.std.proofs.lemmas.List.{get_or-map}
use Rattle.cxx_model.specs.declared.types.FactId.{FactId}
use Rattle.cxx_form.specs.Rows.{row_at, AreSameRows, IsRowMore}

abbrev pub rows_of : List (Vec FactId) → List (List FactId)
rows_of rows = map (λ row. row.items) rows

one-more-row : (rows : List (List FactId)) (k : ℕ) → row_at (rows ++ [] ∷ []) k ≡ row_at rows k
one-more-row [] zero = refl
one-more-row [] (suc k) = refl
one-more-row (r ∷ rs) zero = refl
one-more-row (r ∷ rs) (suc k) = one-more-row rs k

rows-more : (rows : List (Vec FactId)) (row : Vec FactId) → rows_of (rows ++ row ∷ []) ≡ rows_of rows ++ row.items ∷ []
rows-more [] row = refl
rows-more (r ∷ rs) row = ap (λ (xs : List (List FactId)). r.items ∷ xs) (rows-more rs row)

pub reached : (old : List (List FactId)) (rows all : List (Vec FactId)) (row : Vec FactId) → AreSameRows old (rows_of rows) → row.items ≡ [] → all ≡ rows ++ row ∷ [] → AreSameRows old (rows_of all)
reached old rows all row same empty are k =
    ap (λ (xs : List (Vec FactId)). row_at (rows_of xs) k) are ∙ ap (λ (xs : List (List FactId)). row_at xs k) (rows-more rows row ∙ ap (λ (r : List FactId). rows_of rows ++ r ∷ []) empty) ∙ one-more-row (rows_of rows) k ∙ same k

rows-set : (rows : List (Vec FactId)) (n : ℕ) (row : Vec FactId) → rows_of (set rows n row) ≡ set (rows_of rows) n row.items
rows-set [] n row = refl
rows-set (r ∷ rs) zero row = refl
rows-set (r ∷ rs) (suc n) row = ap (λ (xs : List (List FactId)). r.items ∷ xs) (rows-set rs n row)

module _ (rows : List (Vec FactId)) (n : ℕ) (row now : Vec FactId) (within : n < length (rows_of rows)) (is : row ≡ get_or rows n row) where
  before : row.items ≡ row_at (rows_of rows) n
  before =
      let inside : n < length rows = omega (arith, length-map rows (λ (r : Vec FactId). r.items)) in
      ap (λ (r : Vec FactId). r.items) is ∙ sym (get_or-map (λ (r : Vec FactId). r.items) rows n row [] inside)

  here-now : row_at (rows_of (set rows n now)) n ≡ now.items
  here-now = ap (λ (xs : List (List FactId)). row_at xs n) (rows-set rows n now) ∙ get_or-set_same (rows_of rows) n now.items [] within

  other-now : (k : ℕ) → (k ≡ n → ⊥) → row_at (rows_of (set rows n now)) k ≡ row_at (rows_of rows) k
  other-now k other = ap (λ (xs : List (List FactId)). row_at xs k) (rows-set rows n now) ∙ get_or-set_other (rows_of rows) n k now.items [] other

  pub pushed : (old mid : List (List FactId)) (number : FactId) → AreSameRows old mid → rows_of rows ≡ mid → now.items ≡ row.items ++ number ∷ [] → IsRowMore old (rows_of (set rows n now)) n number
  pushed old mid number same are more = record {
    here = here-now ∙ more ∙ ap (λ (xs : List FactId). xs ++ number ∷ []) (before ∙ ap (λ (xs : List (List FactId)). row_at xs n) are ∙ same n);
    others = λ k other. other-now k other ∙ ap (λ (xs : List (List FactId)). row_at xs k) are ∙ same k;
  }
