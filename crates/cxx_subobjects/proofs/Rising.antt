-- The paths are counted in their order.
use Rattle.std.proofs.Common.{ℕ, zero, suc, ◌≡◌, ◌<◌, Bool, true, false, nat_eq, List, [], ◌∷◌, ◌++◌, length, Option, Some, None, refl, ap, sym, subst, ◌∙◌, inl, inr, arith}
use Rattle.std.specs.Prelude.{if◌then◌else◌}
use Rattle.std.specs.List.{Contains, slice_get}
use Rattle.std.proofs.lemmas.List.Elements.{Contains-append_cases, Contains-append_right}
use Rattle.cxx_model.specs.declared.facts.Access.{Access}
use Rattle.cxx_model.specs.declared.types.ClassId.{ClassId}
use Rattle.cxx_model.specs.Facts.Declarations as facts
use Rattle.cxx_model.specs.Facts.Declarations.{CxxFact, Declares}
use Rattle.cxx_subobjects.specs.Laws.{AreInOrder, PathsAreInOrder, PositionsRise, Precedes}
use Rattle.cxx_subobjects.specs.Paths.{base_paths, base_paths_before, behind_all, own_path, through_fact}
use Rattle.cxx_subobjects.proofs.Elements.{first_of, in_map, in_through, none_in, only_of}

in_order_both : (xs ys : List (List ℕ)) → AreInOrder xs → AreInOrder ys → ((path other : List ℕ) → Contains xs path → Contains ys other → Precedes path other) → AreInOrder (xs ++ ys)
in_order_both [] ys one two cross = two
in_order_both (x ∷ xs) ys one two cross = (
  (λ other m. elim (Contains-append_cases xs ys other m) [
    | inl near ↦ one.0 other near
    | inr far ↦ cross x other (first_of x xs) far
  ]),
  in_order_both xs ys one.1 two (λ path other m k. cross path other (Contains-append_right (x ∷ []) xs path m) k),
)

in_order_behind : (index : ℕ) (xs : List (List ℕ)) → AreInOrder xs → AreInOrder (behind_all index xs)
in_order_behind index [] one = tt
in_order_behind index (x ∷ xs) one =
    ((λ other m. let r = in_map (λ path. index ∷ path) xs other m in subst (λ (path : List ℕ). Precedes (index ∷ x) path) r.2 (inr (refl, one.0 r.0 r.1))), in_order_behind index xs one.1)

in_order_through : (paths : ℕ → List (List ℕ)) (class : ℕ) (fact : Option CxxFact) → ((parent : ℕ) → AreInOrder (paths parent)) → AreInOrder (through_fact paths class fact)
in_order_through paths class None each = tt
in_order_through paths class (Some fact) each = by fact.what
  where
    taken : (parent : ClassId) (index : ℕ) (b : Bool) → AreInOrder (if b then behind_all index (paths parent.0) else [])
    taken parent index true = in_order_behind index (paths parent.0) (each parent.0)
    taken parent index false = tt

    by : (what : Declares) → AreInOrder (through_fact paths class (Some (record fact { what = what })))
    by (facts.ancestor derived parent index access) = taken parent index (nat_eq derived.0 class)
    by _ = tt

-- a path begins with the position of a base that was named
record Begins (all : List CxxFact) (n class first : ℕ) : Type 0 where
  k : ℕ
  below : k < n
  one : CxxFact
  derived : ClassId
  parent : ClassId
  access : Access
  there : slice_get all k ≡ Some one
  is : one.what ≡ facts.ancestor derived parent first access
  same : derived.0 ≡ class

own_empty : (class base first : ℕ) (path : List ℕ) → Contains (own_path class base) (first ∷ path) → (P : Type 0) → P
own_empty class base first path m P = by (nat_eq class base) m
  where
    by : (b : Bool) → Contains (if b then [] ∷ [] else []) (first ∷ path) → P
    by true k = (let e : [] ≡ first ∷ path = only_of [] (first ∷ path) k in absurd cc)
    by false k = absurd (none_in (first ∷ path) k)

begins : (all : List CxxFact) (base n class first : ℕ) (path : List ℕ) → Contains (base_paths_before all n class base) (first ∷ path) → Begins all n class first
begins all base zero class first path m = own_empty class base first path m _
begins all base (suc n) class first path m =
    let paths : ℕ → List (List ℕ) = λ parent. base_paths_before all n parent base in
    elim (Contains-append_cases (paths class) (through_fact paths class (slice_get all n)) (first ∷ path) m) [
      | inl before ↦ (let r = begins all base n class first path before in record { k = r.k; below = omega (arith, r.below); one = r.one; derived = r.derived; parent = r.parent; access = r.access; there = r.there; is = r.is; same = r.same })
      | inr here ↦ (
          let t = in_through paths class (slice_get all n) (first ∷ path) here in
          let e : t.index ≡ first = head t.index first t.rest path t.whole in
          record { k = n; below = omega arith; one = t.one; derived = t.derived; parent = t.parent; access = t.access; there = t.there; is = t.is ∙ ap (λ (i : ℕ). facts.ancestor t.derived t.parent i t.access) e; same = t.same }
          )
    ]
  where
    head : (x y : ℕ) (xs ys : List ℕ) → x ∷ xs ≡ y ∷ ys → x ≡ y
    head x y xs ys e = cc

own_in_order : (class base : ℕ) → AreInOrder (own_path class base)
own_in_order class base = by (nat_eq class base)
  where
    by : (b : Bool) → AreInOrder (if b then [] ∷ [] else [])
    by true = ((λ other m. absurd (none_in other m)), tt)
    by false = tt

crosses : (all : List CxxFact) (base n class : ℕ) → PositionsRise all → (path other : List ℕ) → Contains (base_paths_before all n class base) path → Contains (through_fact (λ parent. base_paths_before all n parent base) class (slice_get all n)) other → Precedes path other
crosses all base n class rise [] other m k =
    let t = in_through (λ parent. base_paths_before all n parent base) class (slice_get all n) other k in
    subst (λ (p : List ℕ). Precedes [] p) t.whole tt
crosses all base n class rise (first ∷ path) other m k =
    let t = in_through (λ parent. base_paths_before all n parent base) class (slice_get all n) other k in
    let r = begins all base n class first path m in
    let derived : r.derived ≡ t.derived = ap (λ (i : ℕ). let c : ClassId = record { 0 = i } in c) (r.same ∙ sym t.same) in
    let before : r.one.what ≡ facts.ancestor t.derived r.parent first r.access = r.is ∙ ap (λ (c : ClassId). facts.ancestor c r.parent first r.access) derived in
    let lt : first < t.index = rise r.k n r.one t.one t.derived r.parent t.parent first t.index r.access t.access r.below r.there t.there before t.is in
    subst (λ (p : List ℕ). Precedes (first ∷ path) p) t.whole (inl lt)

in_order : (all : List CxxFact) (base : ℕ) → PositionsRise all → (n class : ℕ) → AreInOrder (base_paths_before all n class base)
in_order all base rise zero class = own_in_order class base
in_order all base rise (suc n) class =
    let paths : ℕ → List (List ℕ) = λ parent. base_paths_before all n parent base in
    in_order_both (paths class) (through_fact paths class (slice_get all n)) (in_order all base rise n class) (in_order_through paths class (slice_get all n) (in_order all base rise n)) (crosses all base n class rise)

pub paths_are_in_order : PathsAreInOrder
unfolding base_paths
paths_are_in_order graph class base rise = in_order graph.facts base rise (length graph.facts) class
