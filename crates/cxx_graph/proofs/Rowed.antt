-- What becomes of rows of numbers at each step.
use Rattle.std.specs.Prelude.{ℕ, zero, suc, ◌≡◌, ◌<◌, Bool, true, false, List, [], ◌∷◌, ◌++◌, length, map, nat_eq, refl, Option, Some, None, IsSome, ◌↔◌, Result, Ok, Err, OnErr}
use Rattle.std.specs.Global.{Vec}
use Rattle.std.specs.Option.{option_to_list}
use Rattle.std.proofs.Common.{ap, sym, subst, ◌∙◌, arith, length-append, vec_len, set, get_or, get_or-set_other, get_or-set_same}
use Rattle.std.proofs.Math.ListN.{length-map}
use Rattle.std.proofs.lemmas.Bool.{eqb-true, eq-eqb}
use Rattle.std.proofs.lemmas.List.{get_or-map}
use Rattle.cxx_model.specs.declared.types.FactId.{FactId}
use Rattle.cxx_graph.specs.Rows.{row_at, AreSameRows, IsRowMore}

abbrev pub rows_of : List (Vec FactId) → List (List FactId)
rows_of rows = map (λ row. row.items) rows

one-more-row : (rows : List (List FactId)) (k : ℕ) → row_at (rows ++ [] ∷ []) k ≡ row_at rows k
one-more-row [] zero = refl
one-more-row [] (suc k) = refl
one-more-row (r ∷ rs) zero = refl
one-more-row (r ∷ rs) (suc k) = one-more-row rs k

rows-more : (rows : List (Vec FactId)) (row : Vec FactId) → rows_of (rows ++ row ∷ []) ≡ rows_of rows ++ row.items ∷ []
rows-more [] row = refl
rows-more (r ∷ rs) row = ap (λ (xs : List (List FactId)). r.items ∷ xs) (rows-more rs row)

pub reached : (old : List (List FactId)) (rows all : List (Vec FactId)) (row : Vec FactId) → AreSameRows old (rows_of rows) → row.items ≡ [] → all ≡ rows ++ row ∷ [] → AreSameRows old (rows_of all)
reached old rows all row same empty are k =
    ap (λ (xs : List (Vec FactId)). row_at (rows_of xs) k) are ∙ ap (λ (xs : List (List FactId)). row_at xs k) (rows-more rows row ∙ ap (λ (r : List FactId). rows_of rows ++ r ∷ []) empty) ∙ one-more-row (rows_of rows) k ∙ same k

rows-set : (rows : List (Vec FactId)) (n : ℕ) (row : Vec FactId) → rows_of (set rows n row) ≡ set (rows_of rows) n row.items
rows-set [] n row = refl
rows-set (r ∷ rs) zero row = refl
rows-set (r ∷ rs) (suc n) row = ap (λ (xs : List (List FactId)). r.items ∷ xs) (rows-set rs n row)

module _ (rows : List (Vec FactId)) (n : ℕ) (row now : Vec FactId) (within : n < length (rows_of rows)) (is : row ≡ get_or rows n row) where
  before : row.items ≡ row_at (rows_of rows) n
  before =
      let inside : n < length rows = omega (arith, length-map rows (λ (r : Vec FactId). r.items)) in
      ap (λ (r : Vec FactId). r.items) is ∙ sym (get_or-map (λ (r : Vec FactId). r.items) rows n row [] inside)

  here-now : row_at (rows_of (set rows n now)) n ≡ now.items
  here-now = ap (λ (xs : List (List FactId)). row_at xs n) (rows-set rows n now) ∙ get_or-set_same (rows_of rows) n now.items [] within

  other-now : (k : ℕ) → (k ≡ n → ⊥) → row_at (rows_of (set rows n now)) k ≡ row_at (rows_of rows) k
  other-now k other = ap (λ (xs : List (List FactId)). row_at xs k) (rows-set rows n now) ∙ get_or-set_other (rows_of rows) n k now.items [] other

  pub pushed : (old mid : List (List FactId)) (number : FactId) → AreSameRows old mid → rows_of rows ≡ mid → now.items ≡ row.items ++ number ∷ [] → IsRowMore old (rows_of (set rows n now)) n number
  pushed old mid number same are more = record {
    here = here-now ∙ more ∙ ap (λ (xs : List FactId). xs ++ number ∷ []) (before ∙ ap (λ (xs : List (List FactId)). row_at xs n) are ∙ same n);
    others = λ k other. other-now k other ∙ ap (λ (xs : List (List FactId)). row_at xs k) are ∙ same k;
  }

  pub unpushed : (old mid : List (List FactId)) → AreSameRows old mid → rows_of rows ≡ mid → now.items ≡ row.items → AreSameRows old (rows_of (set rows n now))
  unpushed old mid same are none k = by (nat_eq k n) refl
    where
      by : (b : Bool) → nat_eq k n ≡ b → row_at (rows_of (set rows n now)) k ≡ row_at old k
      by true e =
          let equal : k ≡ n = eqb-true k n e in
          subst (λ (m : ℕ). row_at (rows_of (set rows n now)) m ≡ row_at old m) (sym equal) (here-now ∙ none ∙ before ∙ ap (λ (xs : List (List FactId)). row_at xs n) are ∙ same n)
      by false e = other-now k (λ equal. (let wrong : true ≡ false = sym (eq-eqb k n equal) ∙ e in cc)) ∙ ap (λ (xs : List (List FactId)). row_at xs k) are ∙ same k

last-cancels : (xs ys : List FactId) (x y : FactId) → xs ++ x ∷ [] ≡ ys ++ y ∷ [] → xs ≡ ys
last-cancels [] [] x y e = refl
last-cancels [] (b ∷ []) x y e = cc
last-cancels [] (b ∷ c ∷ ys) x y e = cc
last-cancels (a ∷ []) [] x y e = cc
last-cancels (a ∷ c ∷ xs) [] x y e = cc
last-cancels (a ∷ xs) (b ∷ ys) x y e =
    let first : a ≡ b = cc in
    let rest : xs ++ x ∷ [] ≡ ys ++ y ∷ [] = cc in
    let same : xs ≡ ys = last-cancels xs ys x y rest in
    cc

pub popped : (rows : List (Vec FactId)) (n : ℕ) (row now : Vec FactId) → n < length (rows_of rows) → row ≡ get_or rows n row → (before : List (List FactId)) (fact x : FactId) → IsRowMore before (rows_of rows) n fact → row.items ≡ now.items ++ x ∷ [] → AreSameRows before (rows_of (set rows n now))
popped rows n row now within is old fact x more are k = by (nat_eq k n) refl
  where
    by : (b : Bool) → nat_eq k n ≡ b → row_at (rows_of (set rows n now)) k ≡ row_at old k
    by true e =
        let equal : k ≡ n = eqb-true k n e in
        let whole : now.items ++ x ∷ [] ≡ row_at old n ++ fact ∷ [] = sym are ∙ before rows n row now within is ∙ more.here in
        subst (λ (m : ℕ). row_at (rows_of (set rows n now)) m ≡ row_at old m) (sym equal) (here-now rows n row now within is ∙ last-cancels now.items (row_at old n) x fact whole)
    by false e = (let apart : k ≡ n → ⊥ = λ equal. (let wrong : true ≡ false = sym (eq-eqb k n equal) ∙ e in cc) in other-now rows n row now within is k apart ∙ more.others k apart)

pub on_err : {T E : Type 0} {P : Type 0} (r : Result T E) → P → OnErr r P
on_err (Ok x) p = tt
on_err (Err e) p = p

pub popped_by : (rows : List (Vec FactId)) (n : ℕ) (row now : Vec FactId) (result : Option FactId) → n < length (rows_of rows) → row ≡ get_or rows n row → row.items ≡ now.items ++ option_to_list result → IsSome result ↔ (0 < vec_len row) → (before : List (List FactId)) (fact : FactId) → IsRowMore before (rows_of rows) n fact → AreSameRows before (rows_of (set rows n now))
popped_by rows n row now (Some x) within is are some old fact more = popped rows n row now within is old fact x more are
popped_by rows n row now None within is are some old fact more =
    let count : length (row_at old n ++ fact ∷ []) ≡ length row.items = ap (λ (xs : List FactId). length xs) (sym more.here ∙ sym (before rows n row now within is)) in
    let filled : 0 < vec_len row = omega (arith, row.ok.0, length-append (row_at old n) (fact ∷ [])) in
    let wrong : IsSome {T = FactId} None = some.1 filled in
    absurd (cc)
