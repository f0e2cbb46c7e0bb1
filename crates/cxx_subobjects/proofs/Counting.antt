-- What is counted as a path is one, and each path is counted.
use Rattle.std.proofs.Common.{ℕ, zero, suc, ◌≡◌, ◌<◌, ◌≤◌, Bool, true, false, not, ◌&&◌, ◌||◌, nat_eq, List, [], ◌∷◌, ◌++◌, length, take, Option, Some, None, refl, ap, sym, subst, ◌∙◌, inl, inr, append_assoc, arith}
use Rattle.std.specs.Prelude.{if◌then◌else◌}
use Rattle.std.specs.List.{Contains, list_any, slice_get}
use Rattle.std.proofs.lemmas.Bool.{cases_Bool, cases_eq, eq-eqb, eqb-true, false≢true, ne_eqb, or_cases}
use Rattle.std.proofs.lemmas.List.{append-nil}
use Rattle.std.proofs.lemmas.List.Elements.{Contains-append_cases, Contains-append_left, Contains-append_right}
use Rattle.cxx_model.specs.declared.facts.Access.{Access}
use Rattle.cxx_model.specs.declared.types.ClassId.{ClassId}
use Rattle.cxx_model.specs.Facts.Declarations as facts
use Rattle.cxx_model.specs.Facts.Declarations.{CxxFact, CxxGraph, Declares}
use Rattle.cxx_meaning.specs.Conversions.Derived.{has_base, is_derived, is_derived_before}
use Rattle.cxx_meaning.specs.Lookups.Member.{BasesInOrder, Ends, Goes, IsPath, StandsInOrder, Way, ends, is_ended, is_nothing}
use Rattle.cxx_subobjects.specs.Laws.{DerivedHasPaths, EachIsPath, EachPathIsThere, IsOnlyItself, IsPathTo}
use Rattle.cxx_subobjects.specs.Paths.{base_paths, base_paths_before, behind_all, own_path, through_fact}
use Rattle.cxx_subobjects.proofs.Elements.{first_of, get_at, get_is_in, in_through, new_through, none_in, only_of}

-- the empty path, where it leads there
abbrev own_by : Bool → List (List ℕ)
own_by b = if b then [] ∷ [] else []

-- ---- each is a path

own_is : (graph : CxxGraph) (class base : ℕ) (path : List ℕ) → Contains (own_path class base) path → IsPathTo graph class base path
own_is graph class base path m = by (nat_eq class base) refl m
  where
    by : (b : Bool) → nat_eq class base ≡ b → Contains (own_by b) path → IsPathTo graph class base path
    by true e k =
        let empty : [] ≡ path = only_of [] path k in
        let same : class ≡ base = eqb-true class base e in
        subst (λ (p : List ℕ). IsPathTo graph class base p) empty (subst (λ (n : ℕ). IsPathTo graph class n []) same (Ends (record { 0 = class })))
    by false e k = absurd (none_in path k)

is_path : (graph : CxxGraph) (base n class : ℕ) (path : List ℕ) → Contains (base_paths_before graph.facts n class base) path → IsPathTo graph class base path
is_path graph base zero class path m = own_is graph class base path m
is_path graph base (suc n) class path m =
    let paths : ℕ → List (List ℕ) = λ parent. base_paths_before graph.facts n parent base in
    elim (Contains-append_cases (paths class) (through_fact paths class (slice_get graph.facts n)) path m) [
      | inl before ↦ is_path graph base n class path before
      | inr here ↦ (
          let t = in_through paths class (slice_get graph.facts n) path here in
          let further = is_path graph base n t.parent.0 t.rest t.further in
          let goes = Goes t.one t.derived t.parent t.index t.access (record { path = t.rest; holder = record { 0 = base } }) (get_is_in graph.facts n t.one t.there) t.is further in
          subst (λ (p : List ℕ). IsPathTo graph class base p) t.whole (subst (λ (k : ℕ). IsPathTo graph k base (t.index ∷ t.rest)) t.same goes)
          )
    ]

pub each_is_path : EachIsPath
unfolding base_paths
each_is_path graph class base path m = is_path graph base (length graph.facts) class path m

-- ---- bases in order

in_order_at : (before all : List CxxFact) → BasesInOrder before all → (k : ℕ) (fact : CxxFact) → slice_get all k ≡ Some fact → StandsInOrder (before ++ take k all) fact.what
in_order_at before [] order k fact at = absurd cc
in_order_at before (one ∷ later) order zero fact at =
    subst (λ (f : CxxFact). StandsInOrder (before ++ []) f.what) (some_is one fact at) (subst (λ (xs : List CxxFact). StandsInOrder xs one.what) (sym (append-nil before)) order.0)
  where
    some_is : (x y : CxxFact) → Some x ≡ Some y → x ≡ y
    some_is x y e = cc
in_order_at before (one ∷ later) order (suc k) fact at =
    subst (λ (xs : List CxxFact). StandsInOrder xs fact.what) (append_assoc before (one ∷ []) (take k later)) (in_order_at (before ++ one ∷ []) later order.1 k fact at)

-- the fact at a place is that of a base: the base has ended before it, and the class has not
stands : (all : List CxxFact) (k : ℕ) (fact : CxxFact) (derived parent : ClassId) (index : ℕ) (access : Access) → BasesInOrder [] all → slice_get all k ≡ Some fact → fact.what ≡ facts.ancestor derived parent index access → (is_ended (take k all) parent ≡ true) × (is_ended (take k all) derived ≡ false)
stands all k fact derived parent index access order at is = subst (StandsInOrder (take k all)) is (in_order_at [] all order k fact at)

any_later : {A : Type 0} (p : A → Bool) (xs : List A) (k n : ℕ) → k ≤ n → list_any p (take k xs) ≡ true → list_any p (take n xs) ≡ true
any_later p xs zero n le h = absurd (false≢true h)
any_later p [] (suc k) n le h = absurd (false≢true h)
any_later p (x ∷ xs) (suc k) zero le h = absurd (omega arith)
any_later p (x ∷ xs) (suc k) (suc n) le h = by (p x) (any_later p xs k n (omega arith)) h
  where
    by : (b : Bool) → (list_any p (take k xs) ≡ true → list_any p (take n xs) ≡ true) → (b || list_any p (take k xs)) ≡ true → (b || list_any p (take n xs)) ≡ true
    by true rest e = refl
    by false rest e = rest e

ended_later : (all : List CxxFact) (class : ClassId) (k n : ℕ) → k ≤ n → is_ended (take k all) class ≡ true → is_ended (take n all) class ≡ true
ended_later all class k n le h = any_later (λ fact. ends class fact.what) all k n le h

through_nothing : (paths : ℕ → List (List ℕ)) (class : ℕ) (fact : Option CxxFact) → ((one : CxxFact) (derived parent : ClassId) (index : ℕ) (access : Access) → fact ≡ Some one → one.what ≡ facts.ancestor derived parent index access → derived.0 ≡ class → ⊥) → through_fact paths class fact ≡ []
through_nothing paths class None none = refl
through_nothing paths class (Some fact) none = by fact.what refl
  where
    taken : (derived parent : ClassId) (index : ℕ) (access : Access) → fact.what ≡ facts.ancestor derived parent index access → (b : Bool) → nat_eq derived.0 class ≡ b → (if b then behind_all index (paths parent.0) else []) ≡ []
    taken derived parent index access is true e = absurd (none fact derived parent index access refl is (eqb-true derived.0 class e))
    taken derived parent index access is false e = refl

    by : (what : Declares) → fact.what ≡ what → through_fact paths class (Some (record fact { what = what })) ≡ []
    by (facts.ancestor derived parent index access) is = taken derived parent index access is (nat_eq derived.0 class) refl
    by _ is = refl

-- a class that has ended has no more bases
settled : (all : List CxxFact) (base k : ℕ) (class : ClassId) → BasesInOrder [] all → is_ended (take k all) class ≡ true → (n : ℕ) → k ≤ n → base_paths_before all n class.0 base ≡ base_paths_before all k class.0 base
settled all base k class order ended zero le =
    let same : 0 ≡ k = omega arith in
    ap (λ (i : ℕ). base_paths_before all i class.0 base) same
settled all base k class order ended (suc n) le = elim (cases_eq (suc n) k) [
  | inl same ↦ ap (λ (i : ℕ). base_paths_before all i class.0 base) same
  | inr other ↦ (
      let paths : ℕ → List (List ℕ) = λ parent. base_paths_before all n parent base in
      let none : through_fact paths class.0 (slice_get all n) ≡ [] = through_nothing paths class.0 (slice_get all n) (λ one derived parent index access there is same.
      let open_one : is_ended (take n all) derived ≡ false = (stands all n one derived parent index access order there is).1 in
      let here : is_ended (take n all) class ≡ true = ended_later all class k n (omega arith) ended in
      let closed : is_ended (take n all) derived ≡ true = subst (λ (i : ℕ). is_ended (take n all) (record { 0 = i }) ≡ true) (sym same) here in
      false≢true (sym open_one ∙ closed)) in
      ap (λ (more : List (List ℕ)). paths class.0 ++ more) none ∙ append-nil (paths class.0) ∙ settled all base k class order ended n (omega arith)
      )
]

-- ---- each path is counted

still_in : (all : List CxxFact) (class base k : ℕ) (path : List ℕ) → Contains (base_paths_before all k class base) path → (n : ℕ) → k ≤ n → Contains (base_paths_before all n class base) path
still_in all class base k path m zero le =
    let same : k ≡ 0 = omega arith in
    subst (λ (i : ℕ). Contains (base_paths_before all i class base) path) same m
still_in all class base k path m (suc n) le = elim (cases_eq k (suc n)) [
  | inl same ↦ subst (λ (i : ℕ). Contains (base_paths_before all i class base) path) same m
  | inr other ↦ Contains-append_left (base_paths_before all n class base) (through_fact (λ parent. base_paths_before all n parent base) class (slice_get all n)) path (still_in all class base k path m n (omega arith))
]

own_there : (class : ℕ) → Contains (own_path class class) []
own_there class = by (nat_eq class class) (eq-eqb class class refl)
  where
    by : (b : Bool) → b ≡ true → Contains (own_by b) []
    by true e = first_of [] []
    by false e = absurd (false≢true e)

is_there : (graph : CxxGraph) → BasesInOrder [] graph.facts → (class : ClassId) (way : Way) → IsPath graph class way → Contains (base_paths_before graph.facts (length graph.facts) class.0 way.holder.0) way.path
is_there graph order _ _ (Ends class) = still_in graph.facts class.0 class.0 0 [] (own_there class.0) (length graph.facts) (omega arith)
is_there graph order _ _ (Goes fact derived parent index access way m is further) =
    let all = graph.facts in
    let base = way.holder.0 in
    let at : slice_get all m.0 ≡ Some fact = get_at all m.0 fact m.1 m.2 in
    let paths : ℕ → List (List ℕ) = λ class. base_paths_before all m.0 class base in
    let rest = is_there graph order parent way further in
    let same : base_paths_before all (length all) parent.0 base ≡ paths parent.0 = settled all base m.0 parent order (stands all m.0 fact derived parent index access order at is).0 (length all) (omega (arith, m.1)) in
    let before : Contains (paths parent.0) way.path = subst (λ (ps : List (List ℕ)). Contains ps way.path) same rest in
    let here : Contains (through_fact paths derived.0 (slice_get all m.0)) (index ∷ way.path) = subst (λ (o : Option CxxFact). Contains (through_fact paths derived.0 o) (index ∷ way.path)) (sym at) (new_through paths fact derived parent index access way.path is before) in
    still_in all derived.0 base (suc m.0) (index ∷ way.path) (Contains-append_right (paths derived.0) (through_fact paths derived.0 (slice_get all m.0)) (index ∷ way.path) here) (length all) (omega (arith, m.1))

pub each_path_is_there : EachPathIsThere
unfolding base_paths
each_path_is_there graph class base path order is = is_there graph order (record { 0 = class }) (record { path = path; holder = record { 0 = base } }) is

-- ---- derived classes

some_of : (xs ys : List (List ℕ)) → not (is_nothing (xs ++ ys)) ≡ (not (is_nothing xs) || not (is_nothing ys))
some_of [] ys = refl
some_of (x ∷ xs) ys = refl

some_behind : (index : ℕ) (xs : List (List ℕ)) → not (is_nothing (behind_all index xs)) ≡ not (is_nothing xs)
some_behind index [] = refl
some_behind index (x ∷ xs) = refl

some_through : (paths : ℕ → List (List ℕ)) (test : ℕ → Bool) (class : ℕ) (fact : Option CxxFact) → ((parent : ℕ) → not (is_nothing (paths parent)) ≡ test parent) → not (is_nothing (through_fact paths class fact)) ≡ has_base test class fact
some_through paths test class None same = refl
some_through paths test class (Some fact) same = by fact.what
  where
    taken : (parent : ClassId) (index : ℕ) (b : Bool) → not (is_nothing (if b then behind_all index (paths parent.0) else [])) ≡ (b && test parent.0)
    taken parent index true = some_behind index (paths parent.0) ∙ same parent.0
    taken parent index false = refl

    by : (what : Declares) → not (is_nothing (through_fact paths class (Some (record fact { what = what })))) ≡ has_base test class (Some (record fact { what = what }))
    by (facts.ancestor derived parent index access) = taken parent index (nat_eq derived.0 class)
    by _ = refl

either : (e d h : Bool) → ((e || d) || h) ≡ (e || (h || d))
either true d h = refl
either false true true = refl
either false true false = refl
either false false true = refl
either false false false = refl

own_some : (class base : ℕ) → not (is_nothing (own_path class base)) ≡ (nat_eq class base || false)
own_some class base = by (nat_eq class base)
  where
    by : (b : Bool) → not (is_nothing (own_by b)) ≡ (b || false)
    by true = refl
    by false = refl

some_before : (all : List CxxFact) (base n class : ℕ) → not (is_nothing (base_paths_before all n class base)) ≡ (nat_eq class base || is_derived_before all n class base)
some_before all base zero class = own_some class base
some_before all base (suc n) class =
    let paths : ℕ → List (List ℕ) = λ parent. base_paths_before all n parent base in
    let test : ℕ → Bool = λ parent. nat_eq parent base || is_derived_before all n parent base in
    some_of (paths class) (through_fact paths class (slice_get all n)) ∙ ap (λ b. b || not (is_nothing (through_fact paths class (slice_get all n)))) (some_before all base n class) ∙ ap (λ b. (nat_eq class base || is_derived_before all n class base) || b) (some_through paths test class (slice_get all n) (some_before all base n)) ∙ either (nat_eq class base) (is_derived_before all n class base) (has_base test class (slice_get all n))

pub derived_has_paths : DerivedHasPaths
unfolding base_paths is_derived
derived_has_paths graph class base apart =
    let all = graph.facts in
    ap (λ b. b || is_derived_before all (length all) class base) (sym (ne_eqb class base apart)) ∙ sym (some_before all base (length all) class)

-- ---- no class is derived from itself

record Names (test : ℕ → Bool) (class : ℕ) (fact : Option CxxFact) : Type 0 where
  one : CxxFact
  derived : ClassId
  parent : ClassId
  index : ℕ
  access : Access
  there : fact ≡ Some one
  is : one.what ≡ facts.ancestor derived parent index access
  same : derived.0 ≡ class
  passes : test parent.0 ≡ true

names : (test : ℕ → Bool) (class : ℕ) (fact : Option CxxFact) → has_base test class fact ≡ true → Names test class fact
names test class None h = absurd (false≢true h)
names test class (Some fact) h = by fact.what refl h
  where
    taken : (derived parent : ClassId) (index : ℕ) (access : Access) → fact.what ≡ facts.ancestor derived parent index access → (b c : Bool) → nat_eq derived.0 class ≡ b → test parent.0 ≡ c → (b && c) ≡ true → Names test class (Some fact)
    taken derived parent index access is true true e p k = record { one = fact; derived = derived; parent = parent; index = index; access = access; there = refl; is = is; same = eqb-true derived.0 class e; passes = p }
    taken derived parent index access is true false e p k = absurd (false≢true k)
    taken derived parent index access is false c e p k = absurd (false≢true k)

    by : (what : Declares) → fact.what ≡ what → has_base test class (Some (record fact { what = what })) ≡ true → Names test class (Some fact)
    by (facts.ancestor derived parent index access) is k = taken derived parent index access is (nat_eq derived.0 class) (test parent.0) refl refl k
    by _ is k = absurd (false≢true k)

-- the base has ended where the class has not
record IsBefore (all : List CxxFact) (n class base : ℕ) : Type 0 where
  k : ℕ
  below : k < n
  ended : is_ended (take k all) (record { 0 = base }) ≡ true
  open_one : is_ended (take k all) (record { 0 = class }) ≡ false

ended_base : (all : List CxxFact) (base n class : ℕ) → BasesInOrder [] all → is_derived_before all n class base ≡ true → IsBefore all n class base
ended_base all base zero class order h = absurd (false≢true h)
ended_base all base (suc n) class order h =
    let test : ℕ → Bool = λ parent. nat_eq parent base || is_derived_before all n parent base in
    elim (or_cases (has_base test class (slice_get all n)) (is_derived_before all n class base) h) [
      | inl here ↦ (
          let t = names test class (slice_get all n) here in
          let both = stands all n t.one t.derived t.parent t.index t.access order t.there t.is in
          let denied : is_ended (take n all) (record { 0 = class }) ≡ false = subst (λ (i : ℕ). is_ended (take n all) (record { 0 = i }) ≡ false) t.same both.1 in
          elim (or_cases (nat_eq t.parent.0 base) (is_derived_before all n t.parent.0 base) t.passes) [
            | inl itself ↦ record { k = n; below = omega arith; ended = subst (λ (i : ℕ). is_ended (take n all) (record { 0 = i }) ≡ true) (eqb-true t.parent.0 base itself) both.0; open_one = denied }
            | inr further ↦ (let r = ended_base all base n t.parent.0 order further in record { k = n; below = omega arith; ended = ended_later all (record { 0 = base }) r.k n (omega (arith, r.below)) r.ended; open_one = denied })
          ]
          )
      | inr before ↦ (let r = ended_base all base n class order before in record { k = r.k; below = omega (arith, r.below); ended = r.ended; open_one = r.open_one })
    ]

underived : (all : List CxxFact) (n class : ℕ) → BasesInOrder [] all → is_derived_before all n class class ≡ false
underived all n class order = elim (cases_Bool (is_derived_before all n class class)) [
  | inl is ↦ (let r = ended_base all class n class order is in absurd (false≢true (sym r.open_one ∙ r.ended)))
  | inr is_not ↦ is_not
]

nothing_is : (xs : List (List ℕ)) → not (is_nothing xs) ≡ false → xs ≡ []
nothing_is [] h = refl
nothing_is (x ∷ xs) h = absurd (false≢true (sym h))

alone : (all : List CxxFact) (n class : ℕ) → BasesInOrder [] all → base_paths_before all n class class ≡ [] ∷ []
alone all zero class order = by (nat_eq class class) (eq-eqb class class refl)
  where
    by : (b : Bool) → b ≡ true → own_by b ≡ [] ∷ []
    by true e = refl
    by false e = absurd (false≢true e)
alone all (suc n) class order =
    let paths : ℕ → List (List ℕ) = λ parent. base_paths_before all n parent class in
    let test : ℕ → Bool = λ parent. nat_eq parent class || is_derived_before all n parent class in
    let none : has_base test class (slice_get all n) ≡ false = first_false (has_base test class (slice_get all n)) (is_derived_before all n class class) (underived all (suc n) class order) in
    let nothing : through_fact paths class (slice_get all n) ≡ [] = nothing_is (through_fact paths class (slice_get all n)) (some_through paths test class (slice_get all n) (some_before all class n) ∙ none) in
    ap (λ (more : List (List ℕ)). paths class ++ more) nothing ∙ append-nil (paths class) ∙ alone all n class order
  where
    first_false : (a b : Bool) → (a || b) ≡ false → a ≡ false
    first_false true b e = e
    first_false false b e = refl

pub is_only_itself : IsOnlyItself
unfolding base_paths is_derived
is_only_itself graph class order = record { path = alone graph.facts (length graph.facts) class order; underived = underived graph.facts (length graph.facts) class order }
