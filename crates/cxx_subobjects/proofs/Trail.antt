-- The facts that a walk reached say all of the paths.
use Rattle.std.proofs.Common.{ℕ, zero, suc, ◌≡◌, ◌<◌, ◌+◌, ◌-◌, Bool, true, false, nat_eq, List, [], ◌∷◌, ◌++◌, length, get_or, drop, Option, Some, None, refl, ap, sym, subst, ◌∙◌, inl, inr, arith}
use Rattle.std.specs.Prelude.{if◌then◌else◌, Result, Ok, Err, IfOk}
use Rattle.std.specs.List.{slice_get}
use Rattle.std.specs.Option.{option_map}
use Rattle.std.proofs.lemmas.Bool.{cases_eq, cases_Bool, eq-eqb, eqb-true, false≢true, or_cases, or_left, or_right}
use Rattle.std.proofs.lemmas.List.{append-nil, drop_more}
use Rattle.cxx_model.specs.declared.facts.Entity.{Entity}
use Rattle.cxx_model.specs.declared.facts.Entity.TheVariants as entity
use Rattle.cxx_model.specs.declared.facts.Fact.{Fact}
use Rattle.cxx_model.specs.Facts.Declarations.{declares_at, fact_at, facts_at, graph_at}
use Rattle.cxx_model.specs.Facts.Graph.{Graph}
use Rattle.cxx_model.specs.Types.Trees.{CxxType}
use Rattle.cxx_subobjects.specs.declared.direct.DirectBase.{DirectBase}
use Rattle.cxx_subobjects.specs.Direct.{direct_base_at, direct_base_in, direct_base_named, through_base}
use Rattle.cxx_subobjects.specs.Paths.{base_paths, base_paths_before, behind_all, first_two, subobjects, through_fact}
use Rattle.cxx_subobjects.specs.Reached.{AreNoted, Descends, IsFollowed, IsFollowedBy, IsTrail, along, has, is_of}

-- ---- one fact

get_at : (types : List CxxType) (facts : List Fact) (n : ℕ) → slice_get (facts_at types facts) n ≡ option_map (fact_at types) (slice_get facts n)
get_at types [] n = refl
get_at types (fact ∷ facts) zero = refl
get_at types (fact ∷ facts) (suc n) = get_at types facts n

through_is : (types : List CxxType) (paths : ℕ → List (List ℕ)) (class : ℕ) (fact : Option Fact) → through_fact paths class (option_map (fact_at types) fact) ≡ through_base paths class (direct_base_in fact)
through_is types paths class None = refl
through_is types paths class (Some fact) = by fact.what
  where
    by : (what : Entity) → through_fact paths class (Some (record (fact_at types fact) { what = declares_at types what })) ≡ through_base paths class (direct_base_named what)
    by (entity.Ancestor derived parent index access) = refl
    by _ = refl

through_at : (types : List CxxType) (facts : List Fact) (paths : ℕ → List (List ℕ)) (class n : ℕ) → through_fact paths class (slice_get (facts_at types facts) n) ≡ through_base paths class (direct_base_at facts n)
through_at types facts paths class n = ap (through_fact paths class) (get_at types facts n) ∙ through_is types paths class (slice_get facts n)

through_none : (paths : ℕ → List (List ℕ)) (class : ℕ) (direct : Option DirectBase) → is_of class direct ≡ false → through_base paths class direct ≡ []
through_none paths class None h = refl
through_none paths class (Some direct) h = by (nat_eq direct.class.0 class) h
  where
    by : (b : Bool) → b ≡ false → (if b then behind_all direct.index (paths direct.parent.0) else []) ≡ []
    by true e = absurd (false≢true (sym e))
    by false e = refl

through_same : (one two : ℕ → List (List ℕ)) (class : ℕ) (direct : Option DirectBase) → ((parent : DirectBase) → direct ≡ Some parent → one parent.parent.0 ≡ two parent.parent.0) → through_base one class direct ≡ through_base two class direct
through_same one two class None same = refl
through_same one two class (Some direct) same = ap (λ (paths : List (List ℕ)). if nat_eq direct.class.0 class then behind_all direct.index paths else []) (same direct refl)

-- ---- all that were reached

before_none : (types : List CxxType) (facts : List Fact) (base m class : ℕ) → is_of class (direct_base_at facts m) ≡ false → base_paths_before (facts_at types facts) (suc m) class base ≡ base_paths_before (facts_at types facts) m class base
before_none types facts base m class h =
    let paths : ℕ → List (List ℕ) = λ parent. base_paths_before (facts_at types facts) m parent base in
    ap (λ (more : List (List ℕ)). paths class ++ more) (through_at types facts paths class m ∙ through_none paths class (direct_base_at facts m) h) ∙ append-nil (paths class)

followed_at : (facts : List Fact) (test : ℕ → Bool) (k : ℕ) (direct : DirectBase) → direct_base_at facts k ≡ Some direct → IsFollowed facts test k → AreNoted facts test direct.parent.0 k
followed_at facts test k direct is h = subst (λ (d : Option DirectBase). IsFollowedBy facts test k d) is h

-- What is left of a trail below a number: it holds each number that passes the test, and no other.
record IsRest (test : ℕ → Bool) (m : ℕ) (ks : List ℕ) : Type 0 where
  below : (k : ℕ) → has ks k ≡ true → k < m
  passes : (k : ℕ) → has ks k ≡ true → test k ≡ true
  all : (k : ℕ) → k < m → test k ≡ true → has ks k ≡ true
  descends : Descends ks

has_first : (k : ℕ) (ks : List ℕ) → has (k ∷ ks) k ≡ true
has_first k ks = or_left (nat_eq k k) (has ks k) (eq-eqb k k refl)

has_later : (j k : ℕ) (ks : List ℕ) → has ks j ≡ true → has (k ∷ ks) j ≡ true
has_later j k ks h = or_right (nat_eq j k) (has ks j) h

rest_other : (test : ℕ → Bool) (m : ℕ) (ks : List ℕ) → IsRest test (suc m) ks → (has ks m ≡ true → ⊥) → IsRest test m ks
rest_other test m ks rest apart = record {
  below = λ k h. elim (cases_eq k m) [
    | inl same ↦ absurd (apart (subst (λ (i : ℕ). has ks i ≡ true) same h))
    | inr other ↦ (let lt : k < suc m = rest.below k h in omega arith)
  ];
  passes = rest.passes;
  all = λ k lt t. rest.all k (omega arith) t;
  descends = rest.descends;
}

rest_taken : (test : ℕ → Bool) (m k : ℕ) (ks : List ℕ) → IsRest test (suc m) (k ∷ ks) → k ≡ m → IsRest test m ks
rest_taken test m k ks rest same = record {
  below = λ j h. (let lt : j < k = rest.descends.0 j h in omega arith);
  passes = λ j h. rest.passes j (has_later j k ks h);
  all = λ j lt t. elim (or_cases (nat_eq j k) (has ks j) (rest.all j (omega arith) t)) [
    | inl here ↦ (let e : j ≡ k = eqb-true j k here in absurd (omega arith))
    | inr there ↦ there
  ];
  descends = rest.descends.1;
}

-- the greatest of a rest is the number below, or the number below is not in it
not_first : (test : ℕ → Bool) (m k : ℕ) (ks : List ℕ) → IsRest test (suc m) (k ∷ ks) → (k ≡ m → ⊥) → has (k ∷ ks) m ≡ true → ⊥
not_first test m k ks rest apart h = elim (or_cases (nat_eq m k) (has ks m) h) [
  | inl here ↦ apart (sym (eqb-true m k here))
  | inr there ↦ (let lt : m < k = rest.descends.0 m there in let le : k < suc m = rest.below k (has_first k ks) in omega arith)
]

no_base : (facts : List Fact) (test : ℕ → Bool) (m class : ℕ) (ks : List ℕ) → IsRest test (suc m) ks → AreNoted facts test class (suc m) → (has ks m ≡ true → ⊥) → is_of class (direct_base_at facts m) ≡ false
no_base facts test m class ks rest noted apart = elim (cases_Bool (is_of class (direct_base_at facts m))) [
  | inl is ↦ absurd (apart (rest.all m (omega arith) (noted m (omega arith) is)))
  | inr is_not ↦ is_not
]

along_is : (types : List CxxType) (facts : List Fact) (base : ℕ) (test : ℕ → Bool) → ((k : ℕ) → test k ≡ true → IsFollowed facts test k) → (m : ℕ) (ks : List ℕ) → IsRest test m ks → (class : ℕ) → AreNoted facts test class m → along facts base ks class ≡ base_paths_before (facts_at types facts) m class base
along_is types facts base test closed zero [] rest class noted = refl
along_is types facts base test closed zero (k ∷ ks) rest class noted = (let lt : k < 0 = rest.below k (has_first k ks) in absurd (omega arith))
along_is types facts base test closed (suc m) [] rest class noted =
    along_is types facts base test closed m [] (rest_other test m [] rest (λ h. false≢true h)) class (λ j lt. noted j (omega arith)) ∙ sym (before_none types facts base m class (no_base facts test m class [] rest noted (λ h. false≢true h)))
along_is types facts base test closed (suc m) (k ∷ ks) rest class noted = elim (cases_eq k m) [
  | inl same ↦ (
      let left : IsRest test m ks = rest_taken test m k ks rest same in
      let paths : ℕ → List (List ℕ) = λ parent. base_paths_before (facts_at types facts) m parent base in
      let own : along facts base ks class ≡ paths class = along_is types facts base test closed m ks left class (λ j lt. noted j (omega arith)) in
      let is : test m ≡ true = subst (λ (i : ℕ). test i ≡ true) same (rest.passes k (has_first k ks)) in
      let of_base : (direct : DirectBase) → direct_base_at facts m ≡ Some direct → along facts base ks direct.parent.0 ≡ paths direct.parent.0 = λ direct at. along_is types facts base test closed m ks left direct.parent.0 (followed_at facts test m direct at (closed m is)) in
      ap (λ (i : ℕ). along facts base ks class ++ through_base (along facts base ks) class (direct_base_at facts i)) same ∙ ap (λ (before : List (List ℕ)). before ++ through_base (along facts base ks) class (direct_base_at facts m)) own ∙ ap (λ (more : List (List ℕ)). paths class ++ more) (through_same (along facts base ks) paths class (direct_base_at facts m) of_base ∙ sym (through_at types facts paths class m))
      )
  | inr other ↦ (
      let apart : has (k ∷ ks) m ≡ true → ⊥ = not_first test m k ks rest other in
      along_is types facts base test closed m (k ∷ ks) (rest_other test m (k ∷ ks) rest apart) class (λ j lt. noted j (omega arith)) ∙ sym (before_none types facts base m class (no_base facts test m class (k ∷ ks) rest noted apart))
      )
]

length_kept : (types : List CxxType) (facts : List Fact) → length (facts_at types facts) ≡ length facts
length_kept types [] = refl
length_kept types (fact ∷ facts) = ap suc (length_kept types facts)

-- the first two paths by what was reached are those by all facts
pub reached_all : (types : List CxxType) (graph : Graph) (class base : ℕ) (order : List ℕ) → IsTrail graph.facts class order → first_two (along graph.facts base order class) ≡ subobjects (graph_at types graph) class base
unfolding subobjects base_paths
reached_all types graph class base order trail =
    let rest : IsRest (has order) (length graph.facts) order = record { below = trail.inside; passes = λ k h. h; all = λ k lt h. h; descends = trail.descends } in
    ap first_two (along_is types graph.facts base (has order) trail.each (length graph.facts) order rest class trail.start ∙ ap (λ (n : ℕ). base_paths_before (facts_at types graph.facts) n class base) (sym (length_kept types graph.facts)))

-- ---- one fact more

pub drop_one : (order : List ℕ) (done d : ℕ) → done < length order → drop (length order - (done + 1)) order ≡ get_or order (length order - 1 - done) d ∷ drop (length order - done) order
drop_one order done d lt =
    let i : length order - (done + 1) ≡ length order - 1 - done = omega arith in
    let n : (length order - 1 - done) + 1 ≡ length order - done = omega arith in
    let more : drop (length order - 1 - done) order ≡ get_or order (length order - 1 - done) d ∷ drop ((length order - 1 - done) + 1) order = drop_more order (length order - 1 - done) d (omega arith) in
    ap (λ (k : ℕ). drop k order) i ∙ more ∙ ap (λ (k : ℕ). get_or order (length order - 1 - done) d ∷ drop k order) n

pub is_also : {A E : Type 0} (result : Result A E) (one two : A) → one ≡ two → IfOk result (λ x. x ≡ one) → IfOk result (λ x. x ≡ two)
is_also (Ok x) one two same h = h ∙ same
is_also (Err e) one two same h = tt
