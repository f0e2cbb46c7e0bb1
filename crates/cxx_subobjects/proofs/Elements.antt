-- Elements of lists, and the paths through one fact.
use Rattle.std.proofs.Common.{ℕ, zero, suc, ◌≡◌, ◌<◌, Bool, true, false, nat_eq, List, [], ◌∷◌, map, length, Option, Some, None, refl, ap, sym, subst, ◌⊎◌, inl, inr, arith}
use Rattle.std.specs.Prelude.{if◌then◌else◌, slice_index_or}
use Rattle.std.specs.List.{Contains, slice_get}
use Rattle.std.proofs.lemmas.Bool.{eq-eqb, eqb-true, false≢true}
use Rattle.std.proofs.lemmas.List.Elements.{Contains-append_cases, Contains-append_right}
use Rattle.cxx_model.specs.declared.facts.Access.{Access}
use Rattle.cxx_model.specs.declared.types.ClassId.{ClassId}
use Rattle.cxx_model.specs.Facts.Declarations as facts
use Rattle.cxx_model.specs.Facts.Declarations.{CxxFact, Declares}
use Rattle.cxx_subobjects.specs.Paths.{behind_all, through_fact}

-- ---- elements

pub none_in : {A : Type 0} (x : A) → Contains [] x → ⊥
none_in x m = omega (arith, m.1)

pub first_of : {A : Type 0} (x : A) (xs : List A) → Contains (x ∷ xs) x
first_of x xs = (0, omega arith, refl)

pub only_of : {A : Type 0} (x y : A) → Contains (x ∷ []) y → x ≡ y
only_of x y (zero, lt, e) = e
only_of x y (suc k, lt, e) = absurd (omega arith)

pub first_or_later : {A : Type 0} (x : A) (xs : List A) (y : A) → Contains (x ∷ xs) y → (x ≡ y) ⊎ Contains xs y
first_or_later x xs y m = elim (Contains-append_cases (x ∷ []) xs y m) [
  | inl here ↦ inl (only_of x y here)
  | inr there ↦ inr there
]

pub in_map : {A B : Type 0} (f : A → B) (xs : List A) (y : B) → Contains (map f xs) y → (x : A) × Contains xs x × (f x ≡ y)
in_map f [] y m = absurd (none_in y m)
in_map f (x ∷ xs) y m = elim (first_or_later (f x) (map f xs) y m) [
  | inl here ↦ (x, first_of x xs, here)
  | inr there ↦ let r = in_map f xs y there in (r.0, Contains-append_right (x ∷ []) xs r.0 r.1, r.2)
]

pub mapped : {A B : Type 0} (f : A → B) (xs : List A) (x : A) → Contains xs x → Contains (map f xs) (f x)
mapped f [] x m = absurd (none_in x m)
mapped f (y ∷ ys) x m = elim (first_or_later y ys x m) [
  | inl here ↦ subst (λ z. Contains (f y ∷ map f ys) (f z)) here (first_of (f y) (map f ys))
  | inr there ↦ Contains-append_right (f y ∷ []) (map f ys) (f x) (mapped f ys x there)
]

pub get_is_in : {A : Type 0} (xs : List A) (n : ℕ) (x : A) → slice_get xs n ≡ Some x → Contains xs x
get_is_in [] n x e = absurd cc
get_is_in (y ∷ ys) zero x e = subst (λ z. Contains (y ∷ ys) z) (some_is y x e) (first_of y ys)
  where
    some_is : {A : Type 0} (a b : A) → Some a ≡ Some b → a ≡ b
    some_is a b e = cc
get_is_in (y ∷ ys) (suc n) x e = Contains-append_right (y ∷ []) ys x (get_is_in ys n x e)

pub get_at : {A : Type 0} (xs : List A) (n : ℕ) (x : A) → n < length xs → slice_index_or xs n x ≡ x → slice_get xs n ≡ Some x
get_at [] n x lt e = absurd (omega arith)
get_at (y ∷ ys) zero x lt e = ap (λ z. Some z) e
get_at (y ∷ ys) (suc n) x lt e = get_at ys n x (omega arith) e

-- ---- the paths through one fact

pub record Through (paths : ℕ → List (List ℕ)) (class : ℕ) (fact : Option CxxFact) (path : List ℕ) : Type 0 where
  pub one : CxxFact
  pub derived : ClassId
  pub parent : ClassId
  pub index : ℕ
  pub access : Access
  pub rest : List ℕ
  pub there : fact ≡ Some one
  pub is : one.what ≡ facts.ancestor derived parent index access
  pub same : derived.0 ≡ class
  pub further : Contains (paths parent.0) rest
  pub whole : index ∷ rest ≡ path

pub in_through : (paths : ℕ → List (List ℕ)) (class : ℕ) (fact : Option CxxFact) (path : List ℕ) → Contains (through_fact paths class fact) path → Through paths class fact path
in_through paths class None path m = absurd (none_in path m)
in_through paths class (Some fact) path m = by fact.what refl m
  where
    taken : (derived parent : ClassId) (index : ℕ) (access : Access) → fact.what ≡ facts.ancestor derived parent index access → (b : Bool) → nat_eq derived.0 class ≡ b → Contains (if b then behind_all index (paths parent.0) else []) path → Through paths class (Some fact) path
    taken derived parent index access is true e k =
        let r = in_map (λ rest. index ∷ rest) (paths parent.0) path k in
        record { one = fact; derived = derived; parent = parent; index = index; access = access; rest = r.0; there = refl; is = is; same = eqb-true derived.0 class e; further = r.1; whole = r.2 }
    taken derived parent index access is false e k = absurd (none_in path k)

    by : (what : Declares) → fact.what ≡ what → Contains (through_fact paths class (Some (record fact { what = what }))) path → Through paths class (Some fact) path
    by (facts.ancestor derived parent index access) is k = taken derived parent index access is (nat_eq derived.0 class) refl k
    by _ is k = absurd (none_in path k)

pub new_through : (paths : ℕ → List (List ℕ)) (fact : CxxFact) (derived parent : ClassId) (index : ℕ) (access : Access) (rest : List ℕ) → fact.what ≡ facts.ancestor derived parent index access → Contains (paths parent.0) rest → Contains (through_fact paths derived.0 (Some fact)) (index ∷ rest)
new_through paths fact derived parent index access rest is m =
    subst (λ (what : Declares). Contains (through_fact paths derived.0 (Some (record fact { what = what }))) (index ∷ rest)) (sym is) (by (nat_eq derived.0 derived.0) (eq-eqb derived.0 derived.0 refl))
  where
    by : (b : Bool) → b ≡ true → Contains (if b then behind_all index (paths parent.0) else []) (index ∷ rest)
    by true e = mapped (λ path. index ∷ path) (paths parent.0) rest m
    by false e = absurd (false≢true e)
