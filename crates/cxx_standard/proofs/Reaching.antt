-- What the noted facts lead to is what the class is derived from.
use Rattle.std.specs.Prelude.{ℕ, zero, suc, ◌≡◌, ◌<◌, ◌≤◌, ◌+◌, Bool, true, false, ◌&&◌, ◌||◌, nat_eq, nat_lt, if◌then◌else◌, List, [], ◌∷◌, ◌++◌, length, Option, Some, None, refl}
use Rattle.std.specs.List.{slice_get, list_any}
use Rattle.std.specs.BTreeSet.{insert_key}
use Rattle.std.specs.declared.cmp.Ordering.{Ordering}
use Rattle.std.specs.declared.cmp.Ordering.TheVariants.{Less, Equal, Greater}
use Rattle.std.specs.Cmp.{ranks}
use Rattle.std.specs.Ordering.{nat_cmp, match_ordering, MatchOrdering}
use Rattle.std.specs.Option.{option_map}
use Rattle.std.proofs.lemmas.Map.Views.{All-insert_key}
use Rattle.std.proofs.lemmas.List.Folds.{list_any-append, list_any_more}
use Rattle.std.proofs.Math.Seq.{get_or-append_seam}
use Rattle.std.proofs.Common.{take_all, ap, sym, subst, ◌∙◌, arith, get_or, take, length-append}
use Rattle.cxx_model.specs.declared.facts.Entity.{Entity}
use Rattle.cxx_model.specs.declared.facts.Entity.TheVariants as entity
use Rattle.cxx_model.specs.declared.facts.Fact.{Fact}
use Rattle.cxx_model.specs.declared.types.ClassId.{ClassId}
use Rattle.cxx_model.specs.declared.types.FactId.{FactId}
use Rattle.cxx_model.specs.Facts.Declarations.{CxxFact, declares_at, fact_at, facts_at, graph_at}
use Rattle.cxx_model.specs.Types.Trees.{CxxType}
use Rattle.cxx_meaning.specs.Conversions.Derived.{has_base, is_derived, is_derived_before}
use Rattle.cxx_meaning.specs.Conversions.Enumerations.{promoted, values_in}
use Rattle.cxx_meaning.specs.Conversions.Pointers.{ends, is_complete}
use Rattle.cxx_model.specs.Facts.Graph.{Graph, completes, is_complete as is_complete_in, values_of}
use Rattle.cxx_model.specs.Types.Integral.{promoted_of_values}
use Rattle.cxx_graph.specs.Numbered.{is_ancestor_of, numbers_from, numbers_of}
use Rattle.cxx_standard.specs.Reached.{AreAllBelow, IsStep, passes_below, names_base, parent_at, parent_in, reaches}

-- ---- booleans

either_swap : (a b c : Bool) → (a || (b || c)) ≡ (b || (a || c))
either_swap true true c = refl
either_swap true false c = refl
either_swap false b c = refl

either_last : (a b : Bool) → (a || b) ≡ (b || a)
either_last true true = refl
either_last true false = refl
either_last false true = refl
either_last false false = refl

-- ---- the facts that pass a test, by their numbers and by their places

hit : (Fact → Bool) → Bool → Option Fact → Bool
hit test b None = false
hit test b (Some fact) = test fact && b

found : (Fact → Bool) → (ℕ → Bool) → ℕ → List Fact → ℕ → Bool
found test good i facts zero = false
found test good i facts (suc m) = hit test (good (i + m)) (slice_get facts m) || found test good i facts m

found-none : (test : Fact → Bool) (good : ℕ → Bool) (i m : ℕ) → found test good i [] m ≡ false
unfolding found hit
found-none test good i zero = refl
found-none test good i (suc m) = found-none test good i m

found-first : (test : Fact → Bool) (good : ℕ → Bool) (i : ℕ) (fact : Fact) (facts : List Fact) (m : ℕ) → found test good i (fact ∷ facts) (suc m) ≡ (hit test (good i) (Some fact) || found test good (suc i) facts m)
unfolding found
found-first test good i fact facts zero =
    let here : i + 0 ≡ i = omega arith in
    ap (λ (k : ℕ). hit test (good k) (Some fact) || false) here
found-first test good i fact facts (suc m) =
    let next : i + suc m ≡ suc i + m = omega arith in
    let a : Bool = hit test (good (i + suc m)) (slice_get facts m) in
    ap (λ (b : Bool). a || b) (found-first test good i fact facts m) ∙ either_swap a (hit test (good i) (Some fact)) (found test good (suc i) facts m) ∙ ap (λ (k : ℕ). hit test (good i) (Some fact) || (hit test (good k) (slice_get facts m) || found test good (suc i) facts m)) next

lt-false : (i n : ℕ) → n ≤ i → nat_lt i n ≡ false
lt-false i n h = grind arith

lt-true : (i n : ℕ) → i < n → nat_lt i n ≡ true
lt-true i n h = grind arith

first-any : (test : Fact → Bool) (good : FactId → Bool) (i : ℕ) (fact : Fact) (facts : List Fact) → list_any good (numbers_from i test (fact ∷ facts)) ≡ ((test fact && good (record { 0 = i })) || list_any good (numbers_from (suc i) test facts))
first-any test good i fact facts = by (test fact)
  where
    by : (b : Bool) → list_any good (if b then record { 0 = i } ∷ numbers_from (suc i) test facts else numbers_from (suc i) test facts) ≡ ((b && good (record { 0 = i })) || list_any good (numbers_from (suc i) test facts))
    by true = refl
    by false = refl

none-below : (test : Fact → Bool) (good : ℕ → Bool) (n i : ℕ) (facts : List Fact) → n ≤ i → list_any (passes_below n good) (numbers_from i test facts) ≡ false
none-below test good n i [] h = refl
none-below test good n i (fact ∷ facts) h =
    let no : passes_below n good (record { 0 = i }) ≡ false = ap (λ b. b && good i) (lt-false i n h) in
    let rest : list_any (passes_below n good) (numbers_from (suc i) test facts) ≡ false = none-below test good n (suc i) facts (omega arith) in
    first-any test (passes_below n good) i fact facts ∙ ap (λ b. (test fact && b) || list_any (passes_below n good) (numbers_from (suc i) test facts)) no ∙ ap (λ b. (test fact && false) || b) rest ∙ and-false (test fact)
  where
    and-false : (b : Bool) → ((b && false) || false) ≡ false
    and-false true = refl
    and-false false = refl

found-from : (test : Fact → Bool) (good : ℕ → Bool) (i : ℕ) (facts : List Fact) (m : ℕ) → found test good i facts m ≡ list_any (passes_below (i + m) good) (numbers_from i test facts)
unfolding hit found
found-from test good i [] m = found-none test good i m
found-from test good i (fact ∷ facts) zero = sym (none-below test good (i + 0) i (fact ∷ facts) (omega arith))
found-from test good i (fact ∷ facts) (suc m) =
    let next : suc i + m ≡ i + suc m = omega arith in
    let yes : passes_below (i + suc m) good (record { 0 = i }) ≡ good i = ap (λ b. b && good i) (lt-true i (i + suc m) (omega arith)) in
    let rest : found test good (suc i) facts m ≡ list_any (passes_below (i + suc m) good) (numbers_from (suc i) test facts) = (
    found-from test good (suc i) facts m ∙ ap (λ (n : ℕ). list_any (passes_below n good) (numbers_from (suc i) test facts)) next
    ) in
    found-first test good i fact facts m ∙ ap (λ b. (test fact && good i) || b) rest ∙ sym (first-any test (passes_below (i + suc m) good) i fact facts ∙ ap (λ b. (test fact && b) || list_any (passes_below (i + suc m) good) (numbers_from (suc i) test facts)) yes)

-- ---- a class and the facts of its bases

get-at : (types : List CxxType) (facts : List Fact) (n : ℕ) → slice_get (facts_at types facts) n ≡ option_map (fact_at types) (slice_get facts n)
get-at types [] n = refl
get-at types (fact ∷ facts) zero = refl
get-at types (fact ∷ facts) (suc n) = get-at types facts n

base-hit : (types : List CxxType) (test : ℕ → Bool) (class : ℕ) (fact : Option Fact) → has_base test class (option_map (fact_at types) fact) ≡ hit (is_ancestor_of class) (names_base test (option_map (fact_at types) fact)) fact
unfolding hit
base-hit types test class None = refl
base-hit types test class (Some fact) = by fact.what
  where
    by : (what : Entity) → has_base test class (Some (record (fact_at types fact) { what = declares_at types what })) ≡ (is_ancestor_of class (record fact { what = what }) && names_base test (Some (record (fact_at types fact) { what = declares_at types what })))
    by (entity.Ancestor number parent index access) = refl
    by _ = refl

derived-found : (types : List CxxType) (facts : List Fact) (class base n : ℕ) → is_derived_before (facts_at types facts) n class base ≡ found (is_ancestor_of class) (reaches (facts_at types facts) base) 0 facts n
unfolding found
derived-found types facts class base zero = refl
derived-found types facts class base (suc n) =
    let all : List CxxFact = facts_at types facts in
    let test : ℕ → Bool = λ parent. nat_eq parent base || is_derived_before all n parent base in
    let here : has_base test class (slice_get all n) ≡ hit (is_ancestor_of class) (reaches all base n) (slice_get facts n) = (
    ap (has_base test class) (get-at types facts n) ∙ base-hit types test class (slice_get facts n) ∙ ap (λ (f : Option CxxFact). hit (is_ancestor_of class) (names_base test f) (slice_get facts n)) (sym (get-at types facts n))
    ) in
    let zeroth : n ≡ 0 + n = omega arith in
    ap (λ b. b || is_derived_before all n class base) here ∙ ap (λ (k : ℕ). hit (is_ancestor_of class) (reaches all base k) (slice_get facts n) || is_derived_before all n class base) zeroth ∙ ap (λ b. hit (is_ancestor_of class) (reaches all base (0 + n)) (slice_get facts n) || b) (derived-found types facts class base n)

-- 10: a class is derived from what the facts of its bases lead to
pub derived_any : (types : List CxxType) (facts : List Fact) (class base n : ℕ) → is_derived_before (facts_at types facts) n class base ≡ list_any (passes_below n (reaches (facts_at types facts) base)) (numbers_of (is_ancestor_of class) facts)
derived_any types facts class base n =
    let zeroth : 0 + n ≡ n = omega arith in
    derived-found types facts class base n ∙ found-from (is_ancestor_of class) (reaches (facts_at types facts) base) 0 facts n ∙ ap (λ (k : ℕ). list_any (passes_below k (reaches (facts_at types facts) base)) (numbers_of (is_ancestor_of class) facts)) zeroth

-- ---- what waits

pub any_last : (good : ℕ → Bool) (keys rest : List ℕ) (n : ℕ) → keys ≡ rest ++ n ∷ [] → list_any good keys ≡ (list_any good rest || good n)
any_last good keys rest n is = ap (list_any good) is ∙ list_any-append good rest (n ∷ []) ∙ ap (λ b. list_any good rest || b) (last (good n))
  where
    last : (b : Bool) → (b || false) ≡ b
    last true = refl
    last false = refl

pub last_below : (count : ℕ) (keys rest : List ℕ) (n : ℕ) → AreAllBelow count keys → keys ≡ rest ++ n ∷ [] → n < count
last_below count keys rest n all is =
    let whole : AreAllBelow count (rest ++ n ∷ []) = subst (λ (ks : List ℕ). AreAllBelow count ks) is all in
    let within : length rest < length (rest ++ n ∷ []) = grind (arith, length-append) in
    let at : get_or (rest ++ n ∷ []) (length rest) 0 ≡ n = get_or-append_seam rest n [] 0 in
    let P : ℕ → Type 0 = λ k. k < count in
    subst P at (whole (length rest) 0 within)

either_assoc : (a b c : Bool) → (a || (b || c)) ≡ ((a || b) || c)
either_assoc true b c = refl
either_assoc false b c = refl

either_same : (a b c : Bool) → c ≡ a → (a || b) ≡ ((a || b) || c)
either_same true b c is = refl
either_same false true c is = refl
either_same false false c is = sym is

inserted : (good : ℕ → Bool) (x n : ℕ) (xs more : List ℕ) (r : Ordering) → MatchOrdering r (n < x) (n ≡ x) (x < n) → list_any good more ≡ (list_any good xs || good n) → list_any good (match_ordering r (n ∷ x ∷ xs) (x ∷ xs) (x ∷ more)) ≡ ((good x || list_any good xs) || good n)
inserted good x n xs more Less h rest = either_last (good n) (good x || list_any good xs)
inserted good x n xs more Equal h rest = either_same (good x) (list_any good xs) (good n) (ap good h)
inserted good x n xs more Greater h rest = ap (λ b. good x || b) rest ∙ either_assoc (good x) (list_any good xs) (good n)

any_inserted : (good : ℕ → Bool) (keys : List ℕ) (n : ℕ) → list_any good (insert_key nat_cmp keys n) ≡ (list_any good keys || good n)
any_inserted good [] n = either_last (good n) false
any_inserted good (x ∷ xs) n = inserted good x n xs (insert_key nat_cmp xs n) (nat_cmp n x) (ranks n x) (any_inserted good xs n)

-- a number before the count is noted, and another is not
pub noted_one : (good : ℕ → Bool) (old new : List ℕ) (number before : ℕ) → number < before → new ≡ insert_key nat_cmp old number → list_any good new ≡ (list_any good old || (nat_lt number before && good number))
noted_one good old new number before h is = ap (list_any good) is ∙ any_inserted good old number ∙ ap (λ b. list_any good old || (b && good number)) (sym (lt-true number before h))

pub noted_more : (good : ℕ → Bool) (initial now new : List ℕ) (numbers : List FactId) (i before : ℕ) (number d : FactId) → i < length numbers → number ≡ get_or numbers i d → list_any good now ≡ (list_any good initial || list_any (passes_below before good) (take i numbers)) → list_any good new ≡ (list_any good now || (nat_lt number.0 before && good number.0)) → list_any good new ≡ (list_any good initial || list_any (passes_below before good) (take (i + 1) numbers))
noted_more good initial now new numbers i before number d within is so_far step =
    let more : list_any (passes_below before good) (take (i + 1) numbers) ≡ (list_any (passes_below before good) (take i numbers) || passes_below before good (get_or numbers i d)) = list_any_more (passes_below before good) numbers i d within in
    step ∙ ap (λ b. b || passes_below before good number) so_far ∙ sym (either_assoc (list_any good initial) (list_any (passes_below before good) (take i numbers)) (passes_below before good number)) ∙ ap (λ b. list_any good initial || (list_any (passes_below before good) (take i numbers) || b)) (ap (passes_below before good) is) ∙ ap (λ b. list_any good initial || b) (sym more)

-- ---- one fact

pub reached_none : (types : List CxxType) (facts : List Fact) (base k : ℕ) → parent_at facts k ≡ None → reaches (facts_at types facts) base k ≡ false
reached_none types facts base k none = ap (names_base test) (get-at types facts k) ∙ by (slice_get facts k) none
  where
    test : ℕ → Bool
    test parent = nat_eq parent base || is_derived_before (facts_at types facts) k parent base

    what : (fact : Fact) (e : Entity) → parent_in (Some (record fact { what = e })) ≡ None → names_base test (Some (record (fact_at types fact) { what = declares_at types e })) ≡ false
    what fact (entity.Ancestor class parent index access) denied = absurd (cc)
    what fact _ denied = refl

    by : (f : Option Fact) → parent_in f ≡ None → names_base test (option_map (fact_at types) f) ≡ false
    by None denied = refl
    by (Some fact) denied = what fact fact.what denied

pub reached_parent : (types : List CxxType) (facts : List Fact) (base k : ℕ) (parent : ClassId) → parent_at facts k ≡ Some parent → reaches (facts_at types facts) base k ≡ (nat_eq parent.0 base || is_derived_before (facts_at types facts) k parent.0 base)
reached_parent types facts base k parent some = ap (names_base test) (get-at types facts k) ∙ by (slice_get facts k) some
  where
    test : ℕ → Bool
    test other = nat_eq other base || is_derived_before (facts_at types facts) k other base

    what : (fact : Fact) (e : Entity) → parent_in (Some (record fact { what = e })) ≡ Some parent → names_base test (Some (record (fact_at types fact) { what = declares_at types e })) ≡ test parent.0
    what fact (entity.Ancestor class other index access) is = (let same : other ≡ parent = cc in ap (λ (c : ClassId). test c.0) same)
    what fact _ is = absurd (cc)

    by : (f : Option Fact) → parent_in f ≡ Some parent → names_base test (option_map (fact_at types) f) ≡ test parent.0
    by None is = absurd (cc)
    by (Some fact) is = what fact fact.what is

pub step_true : (types : List CxxType) (facts : List Fact) (base k : ℕ) (parent : ClassId) → parent_at facts k ≡ Some parent → parent.0 ≡ base → reaches (facts_at types facts) base k ≡ true
step_true types facts base k parent some is =
    reached_parent types facts base k parent some ∙ ap (λ b. b || is_derived_before (facts_at types facts) k parent.0 base) (same-true parent.0 base is)
  where
    same-true : (m n : ℕ) → m ≡ n → nat_eq m n ≡ true
    same-true m n h = grind arith

pub step_false : (types : List CxxType) (facts : List Fact) (base k : ℕ) (parent : ClassId) (old new : List ℕ) → parent_at facts k ≡ Some parent → (parent.0 ≡ base → ⊥) → list_any (reaches (facts_at types facts) base) new ≡ (list_any (reaches (facts_at types facts) base) old || is_derived_before (facts_at types facts) k parent.0 base) → list_any (reaches (facts_at types facts) base) new ≡ (list_any (reaches (facts_at types facts) base) old || reaches (facts_at types facts) base k)
step_false types facts base k parent old new some denied noted =
    let here : reaches (facts_at types facts) base k ≡ is_derived_before (facts_at types facts) k parent.0 base = (
    reached_parent types facts base k parent some ∙ ap (λ b. b || is_derived_before (facts_at types facts) k parent.0 base) (same-false parent.0 base denied)
    ) in
    noted ∙ ap (λ b. list_any (reaches (facts_at types facts) base) old || b) (sym here)
  where
    same-false : (m n : ℕ) → (m ≡ n → ⊥) → nat_eq m n ≡ false
    same-false m n h = grind arith

pub step_none : (types : List CxxType) (facts : List Fact) (base k : ℕ) (old : List ℕ) → parent_at facts k ≡ None → list_any (reaches (facts_at types facts) base) old ≡ (list_any (reaches (facts_at types facts) base) old || reaches (facts_at types facts) base k)
step_none types facts base k old none =
    or-false (list_any (reaches (facts_at types facts) base) old) ∙ ap (λ b. list_any (reaches (facts_at types facts) base) old || b) (sym (reached_none types facts base k none))
  where
    or-false : (b : Bool) → b ≡ (b || false)
    or-false true = refl
    or-false false = refl

pub below_inserted : (count : ℕ) (old new : List ℕ) (n : ℕ) → AreAllBelow count old → n < count → new ≡ insert_key nat_cmp old n → AreAllBelow count new
below_inserted count old new n all within is =
    let P : ℕ → Type 0 = λ k. k < count in
    subst (λ (ks : List ℕ). AreAllBelow count ks) (sym is) (All-insert_key nat_cmp n P old all within)

-- ---- the loop

pub went_on : (good : ℕ → Bool) (before rest new : List ℕ) (n : ℕ) (target : Bool) → before ≡ rest ++ n ∷ [] → list_any good before ≡ target → list_any good new ≡ (list_any good rest || good n) → list_any good new ≡ target
went_on good before rest new n target is so_far step = step ∙ sym (any_last good before rest n is) ∙ so_far

pub was_reached : (good : ℕ → Bool) (before rest : List ℕ) (n : ℕ) (target : Bool) → before ≡ rest ++ n ∷ [] → list_any good before ≡ target → good n ≡ true → true ≡ target
was_reached good before rest n target is so_far reached = sym (any_last good before rest n is ∙ ap (λ b. list_any good rest || b) reached ∙ or-true (list_any good rest)) ∙ so_far
  where
    or-true : (b : Bool) → (b || true) ≡ true
    or-true true = refl
    or-true false = refl

pub was_not_reached : (good : ℕ → Bool) (before : List ℕ) (target : Bool) → before ≡ [] → list_any good before ≡ target → false ≡ target
was_not_reached good before target none so_far = sym (ap (list_any good) none) ∙ so_far

pub noted_all : (types : List CxxType) (facts : List Fact) (class base before : ℕ) (initial now : List ℕ) (numbers : List FactId) (i : ℕ) → length numbers ≤ i → numbers ≡ numbers_of (is_ancestor_of class) facts → list_any (reaches (facts_at types facts) base) now ≡ (list_any (reaches (facts_at types facts) base) initial || list_any (passes_below before (reaches (facts_at types facts) base)) (take i numbers)) → list_any (reaches (facts_at types facts) base) now ≡ (list_any (reaches (facts_at types facts) base) initial || is_derived_before (facts_at types facts) before class base)
noted_all types facts class base before initial now numbers i past is so_far =
    let good : ℕ → Bool = reaches (facts_at types facts) base in
    let whole : take i numbers ≡ numbers_of (is_ancestor_of class) facts = take_all i numbers past ∙ is in
    so_far ∙ ap (λ (ns : List FactId). list_any good initial || list_any (passes_below before good) ns) whole ∙ ap (λ b. list_any good initial || b) (sym (derived_any types facts class base before))

pub step_taken : (good : ℕ → Bool) (old new : List ℕ) (n : ℕ) (reached : Bool) → IsStep good old new n reached → reached ≡ true → good n ≡ true
step_taken good old new n true step is = step
step_taken good old new n false step is = absurd (cc)

pub step_left : (good : ℕ → Bool) (old new : List ℕ) (n : ℕ) (reached : Bool) → IsStep good old new n reached → reached ≡ false → list_any good new ≡ (list_any good old || good n)
step_left good old new n true step is = absurd (cc)
step_left good old new n false step is = step

length-kept : (types : List CxxType) (facts : List Fact) → length (facts_at types facts) ≡ length facts
length-kept types [] = refl
length-kept types (fact ∷ facts) = ap suc (length-kept types facts)

pub derived_whole : (types : List CxxType) (graph : Graph) (class base : ℕ) → is_derived_before (facts_at types graph.facts) (length graph.facts) class base ≡ is_derived (graph_at types graph) class base
unfolding is_derived
derived_whole types graph class base = ap (λ (n : ℕ). is_derived_before (facts_at types graph.facts) n class base) (sym (length-kept types graph.facts))

-- ---- enumerations and the ends of classes

pub values_kept : (types : List CxxType) (facts : List Fact) (n : ℕ) → values_in n (facts_at types facts) ≡ values_of facts n
values_kept types [] n = refl
values_kept types (fact ∷ facts) n = by fact.what (values_kept types facts n)
  where
    by : (what : Entity) → values_in n (facts_at types facts) ≡ values_of facts n → values_in n (record (fact_at types fact) { what = declares_at types what } ∷ facts_at types facts) ≡ values_of (record fact { what = what } ∷ facts) n
    by (entity.Enumerator number value) same = split (nat_eq number.0 n) refl
      where
        split : (b : Bool) → nat_eq number.0 n ≡ b → values_in n (record (fact_at types fact) { what = declares_at types (entity.Enumerator number value) } ∷ facts_at types facts) ≡ values_of (record fact { what = entity.Enumerator number value } ∷ facts) n
        split true e = rw e (ap (λ vs. value ∷ vs) same)
        split false e = rw e same
    by _ same = same

pub promoted_kept : (types : List CxxType) (graph : Graph) (n : ℕ) → promoted_of_values (values_of graph.facts n) ≡ promoted (graph_at types graph) n
unfolding promoted
promoted_kept types graph n = ap promoted_of_values (sym (values_kept types graph.facts n))

pub ends_kept : (types : List CxxType) (facts : List Fact) (n : ℕ) → list_any (λ fact. ends n fact.what) (facts_at types facts) ≡ is_complete_in facts n
ends_kept types [] n = refl
ends_kept types (fact ∷ facts) n = by fact.what (ends_kept types facts n)
  where
    by : (what : Entity) → list_any (λ fact. ends n fact.what) (facts_at types facts) ≡ is_complete_in facts n → (ends n (declares_at types what) || list_any (λ fact. ends n fact.what) (facts_at types facts)) ≡ (completes n (record fact { what = what }) || is_complete_in facts n)
    by (entity.Complete class) same = ap (λ b. nat_eq class.0 n || b) same
    by _ same = same

pub complete_kept : (types : List CxxType) (graph : Graph) (n : ℕ) → is_complete_in graph.facts n ≡ is_complete (graph_at types graph) n
complete_kept types graph n = sym (ends_kept types graph.facts n)
