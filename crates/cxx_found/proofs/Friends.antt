-- What friend declarations declare, class by class, is what all of them declare in order (11.4, 3.4.2).
use Rattle.std.proofs.Common.{◌≡◌, ℕ, zero, suc, ◌+◌, ◌<◌, Bool, true, false, ◌||◌, ltb, cond, eqb, List, [], ◌∷◌, ◌++◌, length, map, Option, Some, None, refl, ap, sym, ◌∙◌, append_assoc, arith}
use Rattle.std.specs.Prelude.{filter}
use Rattle.std.specs.List.{slice_get, list_any}
use Rattle.std.specs.Option.{option_to_list}
use Rattle.cxx_model.specs.declared.facts.Entity.{Entity}
use Rattle.cxx_model.specs.declared.facts.Entity.TheVariants as entity
use Rattle.cxx_model.specs.declared.facts.Fact.{Fact}
use Rattle.cxx_model.specs.declared.types.ClassId.{ClassId}
use Rattle.cxx_model.specs.declared.types.FactId.{FactId}
use Rattle.cxx_model.specs.Facts.Declarations as facts
use Rattle.cxx_model.specs.Facts.Declarations.{CxxFact, CxxGraph, CxxName, Declares, declares_at, fact_at, facts_at}
use Rattle.cxx_model.specs.Facts.Entities.{CxxEntity, of_fact, of_space, of_type}
use Rattle.cxx_model.specs.Types.Trees.{CxxType}
use Rattle.cxx_meaning.specs.Lookups.Associated.{befriended, functions_among, target_by, target_of}
use Rattle.cxx_meaning.specs.Lookups.Gathered.{before, gathered, with_fact, with_facts}
use Rattle.cxx_meaning.specs.Lookups.Sightings.{Sighting, entities, entity_meant, named_by, number_id}
use Rattle.cxx_meaning.specs.Lookups.Wanted.{is_function}
use Rattle.cxx_members.specs.declared.sightings.Sighting.{Sighting as OneSeen}
use Rattle.cxx_members.specs.Sighted.{Adds, sighting_at}
use Rattle.cxx_names.specs.Index.{friend_by, friends_of, of_class}
use Rattle.cxx_found.specs.Associated.{befriended_in, friends_in, friends_of_class}
use Rattle.cxx_found.proofs.Leading.{gathered_nothing}
use Rattle.cxx_found.proofs.Rows.{before_first}

-- ---- growing

pub friend_more : (types : List CxxType) (graph : CxxGraph) (name : CxxName) (old new : List OneSeen) (target : FactId) (others : List FactId) → Adds types old new (befriended_in graph name (target ∷ [])) → map (sighting_at types) old ++ befriended_in graph name (target ∷ others) ≡ map (sighting_at types) new ++ befriended_in graph name others
friend_more types graph name old new target others adds =
    ap (λ xs. map (sighting_at types) old ++ xs) (before_first (target_by graph name (Some target)) (befriended_in graph name others)) ∙ (sym (append_assoc (map (sighting_at types) old) (befriended_in graph name (target ∷ [])) (befriended_in graph name others)) ∙ ap (λ xs. xs ++ befriended_in graph name others) (sym adds.seen))

pub class_more : (types : List CxxType) (graph : CxxGraph) (name : CxxName) (facts : List Fact) (old new : List OneSeen) (class : ℕ) (others : List ℕ) → Adds types old new (friends_of_class graph name facts class) → map (sighting_at types) old ++ friends_in graph name facts (class ∷ others) ≡ map (sighting_at types) new ++ friends_in graph name facts others
class_more types graph name facts old new class others adds =
    sym (append_assoc (map (sighting_at types) old) (friends_of_class graph name facts class) (friends_in graph name facts others)) ∙ ap (λ xs. xs ++ friends_in graph name facts others) (sym adds.seen)

-- ---- a fact among ascending ones

data Compared (m n : ℕ) : Type 0 where
  less : m < n → Compared m n
  same : m ≡ n → Compared m n
  more : n < m → Compared m n

compared : (m n : ℕ) → Compared m n
compared m n = by (ltb m n) refl (ltb n m) refl
  where
    by : (s : Bool) → ltb m n ≡ s → (t : Bool) → ltb n m ≡ t → Compared m n
    by true e t f = less (grind arith)
    by false e true f = more (grind arith)
    by false e false f = same (grind arith)

put_less : (a x : FactId) (xs : List FactId) → x.0 < a.0 → with_fact a (x ∷ xs) ≡ x ∷ with_fact a xs
put_less a x xs lt =
    let k : ltb x.0 a.0 ≡ true = grind arith in
    rw k refl

put_same : (a x : FactId) (xs : List FactId) → x.0 ≡ a.0 → with_fact a (x ∷ xs) ≡ x ∷ xs
put_same a x xs e =
    let k : ltb x.0 a.0 ≡ false = grind arith in
    let s : eqb x.0 a.0 ≡ true = grind arith in
    rw (k, s) refl

put_more : (a x : FactId) (xs : List FactId) → a.0 < x.0 → with_fact a (x ∷ xs) ≡ a ∷ x ∷ xs
put_more a x xs gt =
    let k : ltb x.0 a.0 ≡ false = grind arith in
    let s : eqb x.0 a.0 ≡ false = grind arith in
    rw (k, s) refl

less_same : (a b x : FactId) (xs : List FactId) → x.0 < a.0 → x.0 ≡ b.0 → with_fact a (with_fact b (x ∷ xs)) ≡ with_fact b (with_fact a (x ∷ xs))
less_same a b x xs la eb = ap (with_fact a) (put_same b x xs eb) ∙ (put_less a x xs la ∙ (sym (put_same b x (with_fact a xs) eb) ∙ ap (with_fact b) (sym (put_less a x xs la))))

less_more : (a b x : FactId) (xs : List FactId) → x.0 < a.0 → b.0 < x.0 → with_fact a (with_fact b (x ∷ xs)) ≡ with_fact b (with_fact a (x ∷ xs))
less_more a b x xs la gb = ap (with_fact a) (put_more b x xs gb) ∙ (put_less a b (x ∷ xs) (omega arith) ∙ (ap (λ ys. b ∷ ys) (put_less a x xs la) ∙ (sym (put_more b x (with_fact a xs) gb) ∙ ap (with_fact b) (sym (put_less a x xs la)))))

same_more : (a b x : FactId) (xs : List FactId) → x.0 ≡ a.0 → b.0 < x.0 → with_fact a (with_fact b (x ∷ xs)) ≡ with_fact b (with_fact a (x ∷ xs))
same_more a b x xs ea gb = ap (with_fact a) (put_more b x xs gb) ∙ (put_less a b (x ∷ xs) (omega arith) ∙ (ap (λ ys. b ∷ ys) (put_same a x xs ea) ∙ (sym (put_more b x xs gb) ∙ ap (with_fact b) (sym (put_same a x xs ea)))))

numbered_same : (a b : FactId) (xs : List FactId) → a.0 ≡ b.0 → b ∷ xs ≡ a ∷ xs
numbered_same a b xs e = ap (λ (n : ℕ). record { 0 = n } ∷ xs) (sym e)

-- before the same list
both_first : (a b : FactId) (xs : List FactId) → with_fact a xs ≡ a ∷ xs → with_fact b xs ≡ b ∷ xs → with_fact a (with_fact b xs) ≡ with_fact b (with_fact a xs)
both_first a b xs ea eb = ap (with_fact a) eb ∙ (by (compared a.0 b.0) ∙ ap (with_fact b) (sym ea))
  where
    by : Compared a.0 b.0 → with_fact a (b ∷ xs) ≡ with_fact b (a ∷ xs)
    by (less lt) = put_more a b xs lt ∙ (ap (λ ys. a ∷ ys) (sym eb) ∙ sym (put_less b a xs lt))
    by (same e) = put_same a b xs (sym e) ∙ (numbered_same a b xs e ∙ sym (put_same b a xs e))
    by (more gt) = put_less a b xs gt ∙ (ap (λ ys. b ∷ ys) ea ∙ sym (put_more b a xs gt))

commutes : (a b : FactId) (xs : List FactId) → with_fact a (with_fact b xs) ≡ with_fact b (with_fact a xs)
commutes a b [] = both_first a b [] refl refl
commutes a b (x ∷ xs) = by (compared x.0 a.0) (compared x.0 b.0) (commutes a b xs)
  where
    by : Compared x.0 a.0 → Compared x.0 b.0 → with_fact a (with_fact b xs) ≡ with_fact b (with_fact a xs) → with_fact a (with_fact b (x ∷ xs)) ≡ with_fact b (with_fact a (x ∷ xs))
    by (less la) (less lb) rest =
        ap (with_fact a) (put_less b x xs lb) ∙ (put_less a x (with_fact b xs) la ∙ (ap (λ ys. x ∷ ys) rest ∙ (sym (put_less b x (with_fact a xs) lb) ∙ ap (with_fact b) (sym (put_less a x xs la)))))
    by (less la) (same eb) rest = less_same a b x xs la eb
    by (less la) (more gb) rest = less_more a b x xs la gb
    by (same ea) (less lb) rest = sym (less_same b a x xs lb ea)
    by (same ea) (same eb) rest = ap (with_fact a) (put_same b x xs eb) ∙ (put_same a x xs ea ∙ (sym (put_same b x xs eb) ∙ ap (with_fact b) (sym (put_same a x xs ea))))
    by (same ea) (more gb) rest = same_more a b x xs ea gb
    by (more ga) (less lb) rest = sym (less_more b a x xs lb ga)
    by (more ga) (same eb) rest = sym (same_more b a x xs eb ga)
    by (more ga) (more gb) rest = both_first a b (x ∷ xs) (put_more a x xs ga) (put_more b x xs gb)

again : (a : FactId) (xs : List FactId) → with_fact a (with_fact a xs) ≡ with_fact a xs
again a [] = put_same a a [] refl
again a (x ∷ xs) = by (compared x.0 a.0) (again a xs)
  where
    by : Compared x.0 a.0 → with_fact a (with_fact a xs) ≡ with_fact a xs → with_fact a (with_fact a (x ∷ xs)) ≡ with_fact a (x ∷ xs)
    by (less la) rest = ap (with_fact a) (put_less a x xs la) ∙ (put_less a x (with_fact a xs) la ∙ (ap (λ ys. x ∷ ys) rest ∙ sym (put_less a x xs la)))
    by (same ea) rest = ap (with_fact a) (put_same a x xs ea)
    by (more ga) rest = ap (with_fact a) (put_more a x xs ga) ∙ (put_same a a (x ∷ xs) refl ∙ sym (put_more a x xs ga))

-- ---- a fact, where there is one

abbrev taking : Option FactId → List FactId → List FactId
taking None xs = xs
taking (Some a) xs = with_fact a xs

with_before : (o : Option FactId) (xs ys : List FactId) → with_facts xs (before o ys) ≡ with_facts (taking o xs) ys
unfolding with_facts
with_before None xs ys = refl
with_before (Some a) xs ys = refl

fact_later : (a : FactId) (xs ys : List FactId) → with_facts (with_fact a xs) ys ≡ with_fact a (with_facts xs ys)
unfolding with_facts
fact_later a xs [] = refl
fact_later a xs (y ∷ ys) = ap (λ zs. with_facts zs ys) (commutes y a xs) ∙ fact_later a (with_fact y xs) ys

taken_later : (o : Option FactId) (xs ys : List FactId) → with_facts (taking o xs) ys ≡ taking o (with_facts xs ys)
taken_later None xs ys = refl
taken_later (Some a) xs ys = fact_later a xs ys

taken_twice : (o : Option FactId) (xs : List FactId) → taking o (taking o xs) ≡ taking o xs
taken_twice None xs = refl
taken_twice (Some a) xs = again a xs

with_both : (xs ys zs : List FactId) → with_facts xs (ys ++ zs) ≡ with_facts (with_facts xs ys) zs
unfolding with_facts
with_both xs [] zs = refl
with_both xs (y ∷ ys) zs = with_both (with_fact y xs) ys zs

abbrev given_if : {A : Type 0} → Bool → Option A → Option A
given_if true o = o
given_if false o = None

-- what is in one of two lists is in the first or the second
in_either : (s t : Bool) (o : Option FactId) (rs ps qs : List FactId) → ((xs : List FactId) → with_facts xs rs ≡ with_facts (with_facts xs ps) qs) → (xs : List FactId)
    → with_facts xs (before (given_if (s || t) o) rs) ≡ with_facts (with_facts xs (before (given_if s o) ps)) (before (given_if t o) qs)
in_either false false o rs ps qs rest xs = rest xs
in_either true false o rs ps qs rest xs = with_before o xs rs ∙ (rest (taking o xs) ∙ ap (λ ys. with_facts ys qs) (sym (with_before o xs ps)))
in_either false true o rs ps qs rest xs =
    with_before o xs rs ∙ (rest (taking o xs) ∙ (ap (λ ys. with_facts ys qs) (taken_later o xs ps) ∙ sym (with_before o (with_facts xs ps) qs)))
in_either true true o rs ps qs rest xs =
    with_before o xs rs ∙ (rest (taking o xs) ∙ (ap (λ ys. with_facts ys qs) (ap (λ ys. with_facts ys ps) (sym (taken_twice o xs)) ∙ (taken_later o (taking o xs) ps ∙ ap (taking o) (sym (with_before o xs ps)))) ∙ sym (with_before o (with_facts xs (before o ps)) qs)))

-- ---- functions are named by their first declarations

abbrev entity_number : CxxEntity → FactId
entity_number (of_fact n) = number_id n
entity_number (of_type t) = number_id zero
entity_number (of_space n) = number_id zero

abbrev number_if : Bool → Sighting → Option FactId
number_if true one = Some (entity_number (entity_meant one))
number_if false one = None

abbrev function_number : CxxGraph → Option Sighting → Option FactId
function_number graph None = None
function_number graph (Some one) = number_if (is_function graph one.what) one

-- the numbers of the functions among some declarations
abbrev numbers_among : CxxGraph → List Sighting → List FactId
numbers_among graph [] = []
numbers_among graph (one ∷ others) = before (number_if (is_function graph one.what) one) (numbers_among graph others)

named_so : (graph : CxxGraph) (all : List Sighting) (one : Sighting) (what : Declares) → one.what ≡ what → is_function graph what ≡ true → named_by all one ≡ entity_number (entity_meant one)
unfolding named_by
named_so graph all one (facts.function of member flags defaults first) e is = rw e refl
named_so graph all one (facts.template template member defaults is_explicit first) e is = rw e refl
named_so graph all one (facts.scope parent kind) e is = absurd cc
named_so graph all one (facts.object of member is_mutable value first) e is = absurd cc
named_so graph all one (facts.value_parameter depth index of) e is = absurd cc
named_so graph all one (facts.injected class) e is = absurd cc
named_so graph all one (facts.class class is_union) e is = absurd cc
named_so graph all one (facts.complete class) e is = absurd cc
named_so graph all one (facts.passed class) e is = absurd cc
named_so graph all one (facts.ancestor class parent index access) e is = absurd cc
named_so graph all one (facts.enumeration n) e is = absurd cc
named_so graph all one (facts.enumerator n value) e is = absurd cc
named_so graph all one (facts.synonym of) e is = absurd cc
named_so graph all one (facts.namespace inner) e is = absurd cc
named_so graph all one (facts.directive nominated) e is = absurd cc
named_so graph all one (facts.using target) e is = absurd cc
named_so graph all one (facts.friend class target) e is = absurd cc

numbers_are : (graph : CxxGraph) (all xs : List Sighting) → map (named_by all) (functions_among graph xs) ≡ numbers_among graph xs
numbers_are graph all [] = refl
numbers_are graph all (one ∷ xs) = by (is_function graph one.what) refl (numbers_are graph all xs)
  where
    by : (t : Bool) → is_function graph one.what ≡ t → map (named_by all) (functions_among graph xs) ≡ numbers_among graph xs → map (named_by all) (functions_among graph (one ∷ xs)) ≡ numbers_among graph (one ∷ xs)
    by true e rest = rw e (ap (λ n. n ∷ map (named_by all) (functions_among graph xs)) (named_so graph all one one.what refl e) ∙ ap (λ ns. entity_number (entity_meant one) ∷ ns) rest)
    by false e rest = rw e rest

entities_are : (graph : CxxGraph) (xs : List Sighting) → entities (functions_among graph xs) ≡ with_facts [] (numbers_among graph xs)
unfolding entities
entities_are graph xs = ap (with_facts []) (numbers_are graph (functions_among graph xs) xs)

numbers_before : (graph : CxxGraph) (o : Option Sighting) (xs : List Sighting) → numbers_among graph (before o xs) ≡ before (function_number graph o) (numbers_among graph xs)
numbers_before graph None xs = refl
numbers_before graph (Some one) xs = refl

before_both : {A : Type 0} (o : Option A) (xs ys : List A) → before o xs ++ ys ≡ before o (xs ++ ys)
before_both None xs ys = refl
before_both (Some x) xs ys = refl

numbers_both : (graph : CxxGraph) (xs ys : List Sighting) → numbers_among graph (xs ++ ys) ≡ numbers_among graph xs ++ numbers_among graph ys
numbers_both graph [] ys = refl
numbers_both graph (one ∷ xs) ys = ap (before (number_if (is_function graph one.what) one)) (numbers_both graph xs ys) ∙ sym (before_both (number_if (is_function graph one.what) one) (numbers_among graph xs) (numbers_among graph ys))

-- ---- friends of several classes

module _ (graph : CxxGraph) (name : CxxName) where
  -- those of the friend declarations of some classes
  abbrev numbers_of : List ℕ → ℕ → List CxxFact → List FactId
  numbers_of classes number all = numbers_among graph (gathered (befriended graph name classes) number all)

  abbrev one_of : List ℕ → Declares → Option FactId
  one_of classes what = function_number graph (target_by graph name (target_of classes what))

  numbers_step : (classes : List ℕ) (number : ℕ) (fact : CxxFact) (all : List CxxFact) → numbers_of classes number (fact ∷ all) ≡ before (one_of classes fact.what) (numbers_of classes (number + 1) all)
  unfolding befriended
  numbers_step classes number fact all = numbers_before graph (target_by graph name (target_of classes fact.what)) (gathered (befriended graph name classes) (number + 1) all)

  abbrev own : Declares → Option FactId
  own (facts.friend class target) = function_number graph (target_by graph name (Some target))
  own _ = None

  abbrev is_of : List ℕ → Declares → Bool
  is_of classes (facts.friend class target) = list_any (eqb class.0) classes
  is_of classes _ = false

  target_if : (t : Bool) (target : FactId) → function_number graph (target_by graph name (cond t (Some target) None)) ≡ given_if t (function_number graph (target_by graph name (Some target)))
  target_if true target = refl
  target_if false target = refl

  one_is : (classes : List ℕ) (what : Declares) → one_of classes what ≡ given_if (is_of classes what) (own what)
  one_is classes (facts.friend class target) = target_if (list_any (eqb class.0) classes) target
  one_is classes (facts.scope parent kind) = refl
  one_is classes (facts.object of member is_mutable value first) = refl
  one_is classes (facts.function of member flags defaults first) = refl
  one_is classes (facts.template template member defaults is_explicit first) = refl
  one_is classes (facts.value_parameter depth index of) = refl
  one_is classes (facts.injected class) = refl
  one_is classes (facts.class class is_union) = refl
  one_is classes (facts.complete class) = refl
  one_is classes (facts.passed class) = refl
  one_is classes (facts.ancestor class parent index access) = refl
  one_is classes (facts.enumeration n) = refl
  one_is classes (facts.enumerator n value) = refl
  one_is classes (facts.synonym of) = refl
  one_is classes (facts.namespace inner) = refl
  one_is classes (facts.directive nominated) = refl
  one_is classes (facts.using target) = refl

  or_false : (t : Bool) → (t || false) ≡ t
  or_false true = refl
  or_false false = refl

  is_of_either : (class : ℕ) (classes : List ℕ) (what : Declares) → is_of (class ∷ classes) what ≡ (is_of (class ∷ []) what || is_of classes what)
  is_of_either class classes (facts.friend other target) = ap (λ t. t || list_any (eqb other.0) classes) (sym (or_false (eqb other.0 class)))
  is_of_either class classes (facts.scope parent kind) = refl
  is_of_either class classes (facts.object of member is_mutable value first) = refl
  is_of_either class classes (facts.function of member flags defaults first) = refl
  is_of_either class classes (facts.template template member defaults is_explicit first) = refl
  is_of_either class classes (facts.value_parameter depth index of) = refl
  is_of_either class classes (facts.injected other) = refl
  is_of_either class classes (facts.class other is_union) = refl
  is_of_either class classes (facts.complete other) = refl
  is_of_either class classes (facts.passed other) = refl
  is_of_either class classes (facts.ancestor other parent index access) = refl
  is_of_either class classes (facts.enumeration n) = refl
  is_of_either class classes (facts.enumerator n value) = refl
  is_of_either class classes (facts.synonym of) = refl
  is_of_either class classes (facts.namespace inner) = refl
  is_of_either class classes (facts.directive nominated) = refl
  is_of_either class classes (facts.using target) = refl

  -- those of one class and those of the others
  split : (class : ℕ) (classes : List ℕ) (number : ℕ) (all : List CxxFact) (xs : List FactId) → with_facts xs (numbers_of (class ∷ classes) number all) ≡ with_facts (with_facts xs (numbers_of (class ∷ []) number all)) (numbers_of classes number all)
  unfolding with_facts
  split class classes number [] xs = refl
  split class classes number (fact ∷ all) xs =
      ap (with_facts xs) (numbers_step (class ∷ classes) number fact all ∙ ap (λ o. before o (numbers_of (class ∷ classes) (number + 1) all)) (one_is (class ∷ classes) fact.what ∙ ap (λ t. given_if t (own fact.what)) (is_of_either class classes fact.what)))
      ∙ (in_either (is_of (class ∷ []) fact.what) (is_of classes fact.what) (own fact.what) (numbers_of (class ∷ classes) (number + 1) all) (numbers_of (class ∷ []) (number + 1) all) (numbers_of classes (number + 1) all) (split class classes (number + 1) all) xs
      ∙ (ap (λ ys. with_facts (with_facts xs ys) (before (given_if (is_of classes fact.what) (own fact.what)) (numbers_of classes (number + 1) all))) (sym (numbers_step (class ∷ []) number fact all ∙ ap (λ o. before o (numbers_of (class ∷ []) (number + 1) all)) (one_is (class ∷ []) fact.what)))
      ∙ ap (with_facts (with_facts xs (numbers_of (class ∷ []) number (fact ∷ all)))) (sym (numbers_step classes number fact all ∙ ap (λ o. before o (numbers_of classes (number + 1) all)) (one_is classes fact.what)))))

  -- ---- those of one class

  class_target : (t : Bool) (target : FactId) (xs : List FactId) → before (target_by graph name (cond (t || false) (Some target) None)) (befriended_in graph name xs) ≡ befriended_in graph name (cond t (target ∷ xs) xs)
  class_target true target xs = refl
  class_target false target xs = refl

  class_step : (types : List CxxType) (class : ℕ) (what : Entity) (xs : List (ClassId × FactId)) → before (target_by graph name (target_of (class ∷ []) (declares_at types what))) (befriended_in graph name (of_class (record { 0 = class }) xs)) ≡ befriended_in graph name (of_class (record { 0 = class }) (option_to_list (friend_by what) ++ xs))
  class_step types class (entity.Friend other target) xs = class_target (eqb other.0 class) target (of_class (record { 0 = class }) xs)
  class_step types class _ xs = refl

  class_friends : (types : List CxxType) (class number : ℕ) (all : List Fact) → gathered (befriended graph name (class ∷ [])) number (facts_at types all) ≡ friends_of_class graph name all class
  unfolding befriended
  class_friends types class number [] = refl
  class_friends types class number (fact ∷ all) =
      ap (before (target_by graph name (target_of (class ∷ []) (declares_at types fact.what)))) (class_friends types class (number + 1) all)
      ∙ class_step types class fact.what (friends_of all)

  -- ---- those of each class

  each_class : (types : List CxxType) (all : List Fact) (classes : List ℕ) (xs : List FactId) → with_facts xs (numbers_among graph (friends_in graph name all classes)) ≡ with_facts xs (numbers_of classes zero (facts_at types all))
  each_class types all [] xs = ap (λ ones. with_facts xs (numbers_among graph ones)) (sym (gathered_nothing graph name zero (facts_at types all)))
  each_class types all (class ∷ classes) xs =
      let one : List FactId = numbers_among graph (friends_of_class graph name all class) in
      ap (with_facts xs) (numbers_both graph (friends_of_class graph name all class) (friends_in graph name all classes))
      ∙ (with_both xs one (numbers_among graph (friends_in graph name all classes))
      ∙ (each_class types all classes (with_facts xs one)
      ∙ (ap (λ ones. with_facts (with_facts xs (numbers_among graph ones)) (numbers_of classes zero (facts_at types all))) (sym (class_friends types class zero all))
      ∙ sym (split class classes zero (facts_at types all) xs))))

  pub befriended_are : (types : List CxxType) (all : List Fact) (classes : List ℕ) (found : List Sighting) → entities (functions_among graph (found ++ friends_in graph name all classes)) ≡ entities (functions_among graph (found ++ gathered (befriended graph name classes) zero (facts_at types all)))
  befriended_are types all classes found =
      entities_are graph (found ++ friends_in graph name all classes)
      ∙ (ap (with_facts []) (numbers_both graph found (friends_in graph name all classes))
      ∙ (with_both [] (numbers_among graph found) (numbers_among graph (friends_in graph name all classes))
      ∙ (each_class types all classes (with_facts [] (numbers_among graph found))
      ∙ (sym (with_both [] (numbers_among graph found) (numbers_of classes zero (facts_at types all)))
      ∙ (ap (with_facts []) (sym (numbers_both graph found (gathered (befriended graph name classes) zero (facts_at types all))))
      ∙ sym (entities_are graph (found ++ gathered (befriended graph name classes) zero (facts_at types all))))))))
