-- What becomes of rows of numbers at each step.
use Rattle.std.specs.Prelude.{ℕ, zero, suc, ◌≡◌, ◌<◌, Bool, true, false, List, [], ◌∷◌, ◌++◌, length, map, nat_eq, refl, Result, Ok, Err, OnErr}
use Rattle.std.specs.Global.{Vec}
use Rattle.std.proofs.Common.{ap, sym, subst, ◌∙◌, arith, set, get_or, get_or-set_other, get_or-set_same}
use Rattle.std.proofs.Math.ListN.{length-map}
use Rattle.std.proofs.lemmas.Bool.{eqb-true, eq-eqb}
use Rattle.std.proofs.lemmas.List.{get_or-map}
use Rattle.cxx_model.specs.declared.types.ClassId.{ClassId}
use Rattle.cxx_implicit.specs.Rows.{row_at, AreSameRows, IsRowMore}

abbrev pub rows_of : List (Vec ClassId) → List (List ClassId)
rows_of rows = map (λ row. row.items) rows

one-more-row : (rows : List (List ClassId)) (k : ℕ) → row_at (rows ++ [] ∷ []) k ≡ row_at rows k
one-more-row [] zero = refl
one-more-row [] (suc k) = refl
one-more-row (r ∷ rs) zero = refl
one-more-row (r ∷ rs) (suc k) = one-more-row rs k

rows-more : (rows : List (Vec ClassId)) (row : Vec ClassId) → rows_of (rows ++ row ∷ []) ≡ rows_of rows ++ row.items ∷ []
rows-more [] row = refl
rows-more (r ∷ rs) row = ap (λ (xs : List (List ClassId)). r.items ∷ xs) (rows-more rs row)

pub reached : (old : List (List ClassId)) (rows all : List (Vec ClassId)) (row : Vec ClassId) → AreSameRows old (rows_of rows) → row.items ≡ [] → all ≡ rows ++ row ∷ [] → AreSameRows old (rows_of all)
reached old rows all row same empty are k =
    ap (λ (xs : List (Vec ClassId)). row_at (rows_of xs) k) are ∙ ap (λ (xs : List (List ClassId)). row_at xs k) (rows-more rows row ∙ ap (λ (r : List ClassId). rows_of rows ++ r ∷ []) empty) ∙ one-more-row (rows_of rows) k ∙ same k

rows-set : (rows : List (Vec ClassId)) (n : ℕ) (row : Vec ClassId) → rows_of (set rows n row) ≡ set (rows_of rows) n row.items
rows-set [] n row = refl
rows-set (r ∷ rs) zero row = refl
rows-set (r ∷ rs) (suc n) row = ap (λ (xs : List (List ClassId)). r.items ∷ xs) (rows-set rs n row)

module _ (rows : List (Vec ClassId)) (n : ℕ) (row now : Vec ClassId) (within : n < length (rows_of rows)) (is : row ≡ get_or rows n row) where
  before : row.items ≡ row_at (rows_of rows) n
  before =
      let inside : n < length rows = omega (arith, length-map rows (λ (r : Vec ClassId). r.items)) in
      ap (λ (r : Vec ClassId). r.items) is ∙ sym (get_or-map (λ (r : Vec ClassId). r.items) rows n row [] inside)

  here-now : row_at (rows_of (set rows n now)) n ≡ now.items
  here-now = ap (λ (xs : List (List ClassId)). row_at xs n) (rows-set rows n now) ∙ get_or-set_same (rows_of rows) n now.items [] within

  other-now : (k : ℕ) → (k ≡ n → ⊥) → row_at (rows_of (set rows n now)) k ≡ row_at (rows_of rows) k
  other-now k other = ap (λ (xs : List (List ClassId)). row_at xs k) (rows-set rows n now) ∙ get_or-set_other (rows_of rows) n k now.items [] other

  pub pushed : (old mid : List (List ClassId)) (number : ClassId) → AreSameRows old mid → rows_of rows ≡ mid → now.items ≡ row.items ++ number ∷ [] → IsRowMore old (rows_of (set rows n now)) n number
  pushed old mid number same are more = record {
    here = here-now ∙ more ∙ ap (λ (xs : List ClassId). xs ++ number ∷ []) (before ∙ ap (λ (xs : List (List ClassId)). row_at xs n) are ∙ same n);
    others = λ k other. other-now k other ∙ ap (λ (xs : List (List ClassId)). row_at xs k) are ∙ same k;
  }

  pub unpushed : (old mid : List (List ClassId)) → AreSameRows old mid → rows_of rows ≡ mid → now.items ≡ row.items → AreSameRows old (rows_of (set rows n now))
  unpushed old mid same are none k = by (nat_eq k n) refl
    where
      by : (b : Bool) → nat_eq k n ≡ b → row_at (rows_of (set rows n now)) k ≡ row_at old k
      by true e =
          let equal : k ≡ n = eqb-true k n e in
          subst (λ (m : ℕ). row_at (rows_of (set rows n now)) m ≡ row_at old m) (sym equal) (here-now ∙ none ∙ before ∙ ap (λ (xs : List (List ClassId)). row_at xs n) are ∙ same n)
      by false e = other-now k (λ equal. (let wrong : true ≡ false = sym (eq-eqb k n equal) ∙ e in cc)) ∙ ap (λ (xs : List (List ClassId)). row_at xs k) are ∙ same k

pub on_err : {T E : Type 0} {P : Type 0} (r : Result T E) → P → OnErr r P
on_err (Ok x) p = tt
on_err (Err e) p = p
