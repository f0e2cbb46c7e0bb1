-- The declarations that a lookup sees, scope by scope outward, and what it finds in them (3.3.7, 3.4.1).
use Rattle.std.proofs.Common.{arith, ◌≡◌, ◌⊎◌, inl, inr, ℕ, zero, suc, ◌+◌, Bool, true, false, not, cond, ◌&&◌, ◌||◌, nat_lt, List, [], ◌∷◌, ◌++◌, length, map, Option, Some, None, Ok, Err, refl, sym, ap, subst, ◌∙◌, ◌<◌, nat_eq}
use Rattle.std.proofs.lemmas.Bool.{cases_order, eq-eqb, eqb-false, eqb-true, ltb-false, ltb-true}
use Rattle.std.proofs.lemmas.Option.{same_Some, slice_get_within}
use Rattle.std.specs.List.{find, AllByRecursion, Contains, filter, list_any, slice_get}
use Rattle.cxx_model.specs.declared.facts.ScopeKind.{ScopeKind}
use Rattle.cxx_model.specs.declared.facts.ScopeKind.TheVariants as scope_kind
use Rattle.cxx_model.specs.declared.lookup.Found.{Found}
use Rattle.cxx_model.specs.declared.lookup.Found.TheVariants as found
use Rattle.cxx_model.specs.declared.lookup.Hit.{Hit}
use Rattle.cxx_model.specs.declared.lookup.MemberFound.{MemberFound}
use Rattle.cxx_model.specs.declared.lookup.MemberFound.TheVariants as member
use Rattle.cxx_model.specs.declared.types.ClassId.{ClassId}
use Rattle.cxx_model.specs.declared.types.FactId.{FactId}
use Rattle.cxx_model.specs.declared.types.ScopeId.{ScopeId}
use Rattle.cxx_model.specs.Facts.Declarations as facts
use Rattle.cxx_model.specs.Facts.Declarations.{CxxFact, CxxGraph, CxxName, CxxPattern, CxxSpecialisation, Declares}
use Rattle.cxx_model.specs.Facts.Entities.{CxxEntity, Meant, is_seen, meant_by, of_fact, of_space, of_type, same_entity, scope_kinds}
use Rattle.cxx_model.specs.Facts.Pending.{begins_or_ends, defining_classes, is_defined_since, is_pending}
use Rattle.cxx_model.proofs.Champion.{find_some, first_of, first_or_later, later_of}
use Rattle.cxx_meaning.specs.Lookups.Directives.{Shown, shows}
use Rattle.cxx_meaning.specs.Lookups.Gathered.{before, gathered, same_scope, with_fact, with_facts}
use Rattle.cxx_meaning.specs.Lookups.Member.{Way, breaks, clash, class_of_scope, declared_in, declares_member, first_nonstatic, has_nonstatic, hit, is_brought, is_nothing, is_of_class, is_one_nonstatic, is_redeclared, is_redeclared_by, member as member_named, member_by, member_in, member_of, members_in, not_redeclared, own_ways, same_class, same_lists, second_shown, through, ways, ways_after, with_base}
use Rattle.cxx_meaning.specs.Lookups.Ordinary.{Here, IsFirst, Nowhere, Outside, found_in_member, found_in_scope, found_in_sightings, member_found, sightings_at, standing_if, standing_shown}
use Rattle.cxx_meaning.specs.Lookups.Pending.{Asked}
use Rattle.cxx_meaning.specs.Lookups.Scopes.{kind_of}
use Rattle.cxx_meaning.specs.Lookups.Sightings.{Sighting, both_functions, entities, entity_meant, found_of, is_by_friend, is_hidden_among, is_hidden_by, is_named, least_of, looked_up, named_by, odd_pair, sighting_in, sighting_of, standing, unhidden, wanted_one, when}
use Rattle.cxx_meaning.specs.Lookups.Wanted.{Wanted, hides_types, is_hideable, is_wanted}
use Rattle.cxx_meaning.proofs.Nearest.{nothing_is_none}
use Rattle.cxx_meaning.proofs.Subobjects.{ways_are_paths}
use Rattle.cxx_meaning.proofs.Ways.{each_is_way}
use Rattle.cxx_language_laws.specs.Told.{AreApart, IsMemberBy}
use Rattle.cxx_language_laws.proofs.Scopes.{AreSound, IsSound, none_is_past}

-- ---- lists

abbrev pub IsSome : {A : Type 0} → List A → Type 0
IsSome [] = ⊥
IsSome (x ∷ xs) = Unit {0}

pub beside_all : {A : Type 0} (P : A → Type 0) (xs ys : List A) → AllByRecursion P xs → AllByRecursion P ys → AllByRecursion P (xs ++ ys)
beside_all P [] ys all more = more
beside_all P (x ∷ xs) ys all more = (all.0, beside_all P xs ys all.1 more)

pub all_of : {A : Type 0} (P : A → Type 0) (xs : List A) → AllByRecursion P xs → (x : A) → Contains xs x → P x
all_of P [] all x m = absurd (omega (arith, m.1))
all_of P (y ∷ ys) all x m = elim (first_or_later y ys x m) [
  | inl here ↦ subst P here all.0
  | inr there ↦ all_of P ys all.1 x there
]

mapped_all : {A B : Type 0} (P : A → Type 0) (Q : B → Type 0) (f : A → B) → ((x : A) → P x → Q (f x)) → (xs : List A) → AllByRecursion P xs → AllByRecursion Q (map f xs)
mapped_all P Q f go [] all = tt
mapped_all P Q f go (x ∷ xs) all = (go x all.0, mapped_all P Q f go xs all.1)

pub filtered_all : {A : Type 0} (P : A → Type 0) (test : A → Bool) (xs : List A) → AllByRecursion P xs → AllByRecursion P (filter test xs)
filtered_all P test [] all = tt
filtered_all P test (x ∷ xs) all = by (test x) (filtered_all P test xs all.1)
  where
    by : (b : Bool) → AllByRecursion P (filter test xs) → AllByRecursion P (cond b (x ∷ filter test xs) (filter test xs))
    by true more = (all.0, more)
    by false more = more

pub none_left : {A : Type 0} (xs ys : List A) → xs ++ ys ≡ [] → xs ≡ []
none_left [] ys e = refl
none_left (x ∷ xs) ys e = absurd cc

-- ---- what is gathered

pub gathered_all : {A : Type 0} (Q : A → Type 0) (give : ℕ → CxxFact → Option A) (all : List CxxFact) (number : ℕ) → ((i : ℕ) (fact : CxxFact) (x : A) → slice_get all i ≡ Some fact → give (number + i) fact ≡ Some x → Q x) → AllByRecursion Q (gathered give number all)
gathered_all Q give [] number each = tt
gathered_all {A = A} Q give (fact ∷ others) number each = by (give number fact) refl (gathered_all Q give others (number + 1) (λ i one x there is. let at : number + 1 + i ≡ number + suc i = omega arith in each (suc i) one x there (ap (λ n. give n one) (sym at) ∙ is)))
  where
    by : (o : Option A) → give number fact ≡ o → AllByRecursion Q (gathered give (number + 1) others) → AllByRecursion Q (before o (gathered give (number + 1) others))
    by None is later = later
    by (Some x) is later = let at : number + 0 ≡ number = omega arith in (each 0 fact x refl (ap (λ n. give n fact) at ∙ is), later)

-- ---- declarations that lookups see

-- a declaration of the graph, as it is wanted
pub record IsOne (graph : CxxGraph) (wanted : Wanted) (one : Sighting) : Type 0 where
  pub number : ℕ
  pub fact : CxxFact
  pub stands : slice_get graph.facts number ≡ Some fact
  pub meant : one.meant.0 ≡ number
  pub what : one.what ≡ fact.what
  pub is_wanted_so : is_wanted graph wanted one.what ≡ true
  pub itself : one.itself.0 < length graph.facts

-- what a declaration stands for, which there is (7.3.3)
record MeantThere (all : List CxxFact) (meant : Meant) : Type 0 where
  fact : CxxFact
  stands : slice_get all meant.number ≡ Some fact
  what : meant.what ≡ fact.what

meant_there : (all : List CxxFact) (number : ℕ) (fact : CxxFact) → slice_get all number ≡ Some fact → (what : Declares) → what ≡ fact.what → IsSound all what → MeantThere all (meant_by all number what)
meant_there all number fact at (facts.using target) e is = by (slice_get all target.0) refl
  where
    by : (o : Option CxxFact) → slice_get all target.0 ≡ o → MeantThere all (meant_by all number (facts.using target))
    by None none = absurd (none_is_past all target.0 is none)
    by (Some one) there = rw there (record { fact = one; stands = there; what = refl })
meant_there all number fact at _ e is = record { fact = fact; stands = at; what = e }

when_some : (t : Bool) (x y : Sighting) → when t x ≡ Some y → (t ≡ true) × (x ≡ y)
when_some true x y e = (refl, same_Some x y e)
when_some false x y e = absurd cc

pub if_some : (t : Bool) (o : Option Sighting) (y : Sighting) → cond t o None ≡ Some y → o ≡ Some y
if_some true o y e = e
if_some false o y e = absurd cc

-- what is wanted of a declaration is one
pub one_wanted : (graph : CxxGraph) (wanted : Wanted) (number : ℕ) (fact : CxxFact) (one : Sighting) → AreSound graph.facts → slice_get graph.facts number ≡ Some fact → wanted_one graph wanted (sighting_of graph.facts number fact) ≡ Some one → IsOne graph wanted one
one_wanted graph wanted number fact one sound at e =
    let kept = when_some (is_wanted graph wanted (sighting_of graph.facts number fact).what) (sighting_of graph.facts number fact) one e in
    let there = meant_there graph.facts number fact at fact.what refl (sound number fact at) in
    record {
      number = (meant_by graph.facts number fact.what).number;
      fact = there.fact;
      stands = there.stands;
      meant = sym (ap (λ (s : Sighting). s.meant.0) kept.1);
      what = sym (ap (λ (s : Sighting). s.what) kept.1) ∙ there.what;
      is_wanted_so = subst (λ (s : Sighting). is_wanted graph wanted s.what ≡ true) kept.1 kept.0;
      itself = subst (λ (s : Sighting). s.itself.0 < length graph.facts) kept.1 (slice_get_within graph.facts number fact at);
    }

one_seen : (graph : CxxGraph) (cut : ℕ) (wanted : Wanted) (name : CxxName) (scope : ScopeId) (number : ℕ) (fact : CxxFact) (one : Sighting) → AreSound graph.facts → slice_get graph.facts number ≡ Some fact → sighting_in graph cut wanted name scope number fact ≡ Some one → IsOne graph wanted one
unfolding sighting_in
one_seen graph cut wanted name scope number fact one sound at e = one_wanted graph wanted number fact one sound at (if_some _ (wanted_one graph wanted (sighting_of graph.facts number fact)) one e)

pub each_seen : (graph : CxxGraph) (cut : ℕ) (wanted : Wanted) (name : CxxName) (scope : ScopeId) → AreSound graph.facts → AllByRecursion (IsOne graph wanted) (standing graph cut wanted name scope)
unfolding standing
each_seen graph cut wanted name scope sound = gathered_all (IsOne graph wanted) (sighting_in graph cut wanted name scope) graph.facts 0 (λ i fact one there is. one_seen graph cut wanted name scope i fact one sound there (ap (λ n. sighting_in graph cut wanted name scope n fact) (no_more i) ∙ is))
  where
    no_more : (i : ℕ) → i ≡ 0 + i
    no_more i = omega arith

shown_seen : (graph : CxxGraph) (cut : ℕ) (wanted : Wanted) (name : CxxName) (scope : ScopeId) (shown : List Shown) → AreSound graph.facts → AllByRecursion (IsOne graph wanted) (standing_shown graph cut wanted name scope shown)
unfolding standing_shown
shown_seen graph cut wanted name scope [] sound = tt
shown_seen graph cut wanted name scope (one ∷ others) sound = beside_all (IsOne graph wanted) (standing_if graph cut wanted name scope one) (standing_shown graph cut wanted name scope others) (by (same_scope one.there scope)) (shown_seen graph cut wanted name scope others sound)
  where
    by : (b : Bool) → AllByRecursion (IsOne graph wanted) (cond b (standing graph cut wanted name one.space) [])
    by true = each_seen graph cut wanted name one.space sound
    by false = tt

pub sightings_seen : (graph : CxxGraph) (cut : ℕ) (wanted : Wanted) (name : CxxName) (shown : List Shown) (scope : ScopeId) → AreSound graph.facts → AllByRecursion (IsOne graph wanted) (sightings_at graph cut wanted name shown scope)
unfolding sightings_at
sightings_seen graph cut wanted name shown scope sound = beside_all (IsOne graph wanted) (standing graph cut wanted name scope) (standing_shown graph cut wanted name scope shown) (each_seen graph cut wanted name scope sound) (shown_seen graph cut wanted name scope shown sound)

-- ---- their entities

-- of the number by which an entity is named
pub record IsSo (P : ℕ → Type 0) (one : Sighting) : Type 0 where
  pub meant : P one.meant.0
  pub first : (n : ℕ) → entity_meant one ≡ of_fact n → P n

least_so : (P : ℕ → Type 0) (entity : CxxEntity) (least : FactId) (all : List Sighting) → P least.0 → AllByRecursion (IsSo P) all → P (least_of entity least all).0
unfolding least_of
least_so P entity least [] is each = is
least_so P entity least (one ∷ others) is each = least_so P entity (cond (same_entity entity (entity_meant one) && nat_lt one.meant.0 least.0) one.meant least) others (by (same_entity entity (entity_meant one) && nat_lt one.meant.0 least.0)) each.1
  where
    by : (b : Bool) → P (cond b one.meant least).0
    by true = each.0.meant
    by false = is

named_so : (P : ℕ → Type 0) (all : List Sighting) → AllByRecursion (IsSo P) all → (one : Sighting) → IsSo P one → P (named_by all one).0
unfolding named_by
named_so P all each one is = by (entity_meant one) refl
  where
    by : (e : CxxEntity) → entity_meant one ≡ e → P (named_by all one).0
    by (of_fact n) e = rw e (is.first n e)
    by (of_type t) e = rw e (least_so P (of_type t) one.meant all is.meant each)
    by (of_space n) e = rw e (least_so P (of_space n) one.meant all is.meant each)

-- ---- the list of entities

all_placed : (P : FactId → Type 0) (one x : FactId) (xs more : List FactId) (t u : Bool) → P one → AllByRecursion P (x ∷ xs) → AllByRecursion P more → AllByRecursion P (cond t (x ∷ more) (cond u (x ∷ xs) (one ∷ x ∷ xs)))
all_placed P one x xs more true u is all rest = (all.0, rest)
all_placed P one x xs more false true is all rest = all
all_placed P one x xs more false false is all rest = (is, all)

all_with_fact : (P : FactId → Type 0) (one : FactId) (xs : List FactId) → P one → AllByRecursion P xs → AllByRecursion P (with_fact one xs)
all_with_fact P one [] is all = (is, tt)
all_with_fact P one (x ∷ xs) is all = all_placed P one x xs (with_fact one xs) _ _ is all (all_with_fact P one xs is all.1)

all_with_facts : (P : FactId → Type 0) (xs ys : List FactId) → AllByRecursion P xs → AllByRecursion P ys → AllByRecursion P (with_facts xs ys)
unfolding with_facts
all_with_facts P xs [] all more = all
all_with_facts P xs (y ∷ ys) all more = all_with_facts P (with_fact y xs) ys (all_with_fact P y xs more.0 all) more.1

some_placed : (one x : FactId) (xs more : List FactId) (t u : Bool) → IsSome (cond t (x ∷ more) (cond u (x ∷ xs) (one ∷ x ∷ xs)))
some_placed one x xs more true u = tt
some_placed one x xs more false true = tt
some_placed one x xs more false false = tt

some_with_fact : (one : FactId) (xs : List FactId) → IsSome (with_fact one xs)
some_with_fact one [] = tt
some_with_fact one (x ∷ xs) = some_placed one x xs (with_fact one xs) _ _

some_with_facts : (xs ys : List FactId) → IsSome xs → IsSome (with_facts xs ys)
unfolding with_facts
some_with_facts xs [] is = is
some_with_facts xs (y ∷ ys) is = some_with_facts (with_fact y xs) ys (some_with_fact y xs)

-- they are ascending, each once
abbrev pub Above : ℕ → List FactId → Type 0
Above n all = AllByRecursion (λ one. n < one.0) all

abbrev pub Rising : List FactId → Type 0
Rising [] = Unit {0}
Rising (x ∷ xs) = Above x.0 xs × Rising xs

above_less : (m n : ℕ) (all : List FactId) → m < n → Above n all → Above m all
above_less m n [] less are = tt
above_less m n (x ∷ xs) less are = let first = are.0 in (omega (arith, less, first), above_less m n xs less are.1)

above_with : (n : ℕ) (one : FactId) (xs : List FactId) → n < one.0 → Above n xs → Above n (with_fact one xs)
above_with n one [] less are = (less, tt)
above_with n one (x ∷ xs) less are = all_placed (λ y. n < y.0) one x xs (with_fact one xs) (nat_lt x.0 one.0) (nat_eq x.0 one.0) less are (above_with n one xs less are.1)

rising_with : (one : FactId) (xs : List FactId) → Rising xs → Rising (with_fact one xs)
rising_with one [] are = (tt, tt)
rising_with one (x ∷ xs) are = by (nat_lt x.0 one.0) refl (nat_eq x.0 one.0) refl (rising_with one xs are.1)
  where
    greater : nat_lt x.0 one.0 ≡ false → nat_eq x.0 one.0 ≡ false → one.0 < x.0
    greater less same = by_cases (cases_order x.0 one.0)
      where
        by_cases : (x.0 ≡ one.0) ⊎ ((x.0 < one.0) ⊎ (one.0 < x.0)) → one.0 < x.0
        by_cases (inl equal) = absurd (eqb-false x.0 one.0 same equal)
        by_cases (inr (inl below)) = let no_less = ltb-false x.0 one.0 less in absurd (omega (arith, no_less, below))
        by_cases (inr (inr above)) = above

    by : (less : Bool) → nat_lt x.0 one.0 ≡ less → (same : Bool) → nat_eq x.0 one.0 ≡ same → Rising (with_fact one xs) → Rising (cond less (x ∷ with_fact one xs) (cond same (x ∷ xs) (one ∷ x ∷ xs)))
    by true less same is later = (above_with x.0 one xs (ltb-true x.0 one.0 less) are.0, later)
    by false less true is later = are
    by false less false is later = let below = greater less is in ((below, above_less one.0 x.0 xs below are.0), are)

rising_with_facts : (xs ys : List FactId) → Rising xs → Rising (with_facts xs ys)
unfolding with_facts
rising_with_facts xs [] are = are
rising_with_facts xs (y ∷ ys) are = rising_with_facts (with_fact y xs) ys (rising_with y xs are)

entities_rising : (all : List Sighting) → Rising (entities all)
unfolding entities
entities_rising all = rising_with_facts [] (map (named_by all) all) tt

abbrev pub OfNumber : (ℕ → Type 0) → FactId → Type 0
OfNumber P one = P one.0

pub entities_so : (P : ℕ → Type 0) (all : List Sighting) → AllByRecursion (IsSo P) all → AllByRecursion (OfNumber P) (entities all)
unfolding entities
entities_so P all each = all_with_facts (OfNumber P) [] (map (named_by all) all) tt (mapped_all (IsSo P) (OfNumber P) (named_by all) (λ one is. named_so P all each one is) all each)

entities_some : (all : List Sighting) → IsSome all → IsSome (entities all)
unfolding entities with_facts
entities_some [] is = is
entities_some (one ∷ others) is = some_with_facts (with_fact (named_by (one ∷ others) one) []) (map (named_by (one ∷ others)) others) (some_with_fact (named_by (one ∷ others) one) [])

-- ---- 3.3.7: not everything is hidden

hides_no_hideable : (graph : CxxGraph) (what : Declares) → hides_types graph what ≡ true → is_hideable what ≡ false
hides_no_hideable graph (facts.class _ _) e = absurd cc
hides_no_hideable graph (facts.injected _) e = absurd cc
hides_no_hideable graph (facts.enumeration _) e = absurd cc
hides_no_hideable graph _ e = refl

-- the one that hides another
hider_in : (graph : CxxGraph) (one : Sighting) (all : List Sighting) → list_any (is_hidden_by graph one) all ≡ true → (two : Sighting) × Contains all two × (hides_types graph two.what ≡ true)
hider_in graph one [] e = absurd cc
hider_in graph one (x ∷ xs) e = by (hides_types graph x.what) refl (same_scope one.scope x.scope) e (hider_in graph one xs)
  where
    later : ((two : Sighting) × Contains xs two × (hides_types graph two.what ≡ true)) → (two : Sighting) × Contains (x ∷ xs) two × (hides_types graph two.what ≡ true)
    later found = (found.0, later_of x xs found.0 found.1, found.2)

    by : (hides : Bool) → hides_types graph x.what ≡ hides → (same : Bool) → ((hides && same) || list_any (is_hidden_by graph one) xs) ≡ true → (list_any (is_hidden_by graph one) xs ≡ true → (two : Sighting) × Contains xs two × (hides_types graph two.what ≡ true)) → (two : Sighting) × Contains (x ∷ xs) two × (hides_types graph two.what ≡ true)
    by true hides true e further = (x, first_of x xs, hides)
    by true hides false e further = later (further e)
    by false hides same e further = later (further e)

filter_some : {A : Type 0} (test : A → Bool) (all : List A) (x : A) → Contains all x → test x ≡ true → IsSome (filter test all)
filter_some test [] x m is = absurd (omega (arith, m.1))
filter_some test (y ∷ ys) x m is = by (test y) refl (first_or_later y ys x m) (filter_some test ys x)
  where
    no_both : false ≡ true → ⊥
    no_both e = cc

    by : (b : Bool) → test y ≡ b → (y ≡ x) ⊎ Contains ys x → (Contains ys x → test x ≡ true → IsSome (filter test ys)) → IsSome (cond b (y ∷ filter test ys) (filter test ys))
    by true e m later = tt
    by false e (inl here) later = absurd (no_both (sym e ∙ (ap test here ∙ is)))
    by false e (inr there) later = later there is

unhidden_some : (graph : CxxGraph) (all : List Sighting) → IsSome all → IsSome (unhidden graph all)
unfolding unhidden
unhidden_some graph [] is = is
unhidden_some graph (x ∷ xs) is = by (is_hideable x.what) refl (list_any (is_hidden_by graph x) (x ∷ xs)) refl
  where
    keeps : Sighting → Bool
    keeps one = not (is_hidden_among graph (x ∷ xs) one)

    by : (hideable : Bool) → is_hideable x.what ≡ hideable → (hidden : Bool) → list_any (is_hidden_by graph x) (x ∷ xs) ≡ hidden → IsSome (filter keeps (x ∷ xs))
    by false e hidden h = filter_some keeps (x ∷ xs) x (first_of x xs) (ap (λ (b : Bool). not (b && list_any (is_hidden_by graph x) (x ∷ xs))) e)
    by true e false h = filter_some keeps (x ∷ xs) x (first_of x xs) (ap (λ (b : Bool). not (b && list_any (is_hidden_by graph x) (x ∷ xs))) e ∙ ap not h)
    by true e true h = let two = hider_in graph x (x ∷ xs) h in filter_some keeps (x ∷ xs) two.0 two.1 (ap (λ (b : Bool). not (b && list_any (is_hidden_by graph two.0) (x ∷ xs))) (hides_no_hideable graph two.0.what two.2))

-- ---- what is found

-- two that are no overloads
pub record IsTwo (P : ℕ → Type 0) (graph : CxxGraph) (one two : FactId) : Type 0 where
  pub apart : one.0 < two.0
  pub declared : P two.0
  pub no_overloads : both_functions graph one two ≡ false

-- an ambiguity, or a set of declarations that there are, members of a class or not, where there is something
pub data IsLooked (P : ℕ → Type 0) (graph : CxxGraph) : Found → Type 0 where
  set_looked : (one : FactId) (others : List FactId) → P one.0 → IsLooked P graph (found.Set (one ∷ others))
  two_looked : (one two : FactId) → IsTwo P graph one two → IsLooked P graph (found.Ambiguous one two)
  member_looked : (class : ClassId) (one : FactId) (others : List FactId) (path : List ℕ) → P one.0 → IsLooked P graph (found.Member class (member.Set (one ∷ others) path))
  clash_looked : (class : ClassId) (one two : Hit) → IsLooked P graph (found.Member class (member.Ambiguous one two))

found_two : (P : ℕ → Type 0) (graph : CxxGraph) (one two : FactId) (others : List FactId) → Above one.0 others → AllByRecursion (OfNumber P) others → find (λ two. not (both_functions graph one two)) others ≡ Some two → IsTwo P graph one two
found_two P graph one two [] above each e = absurd cc
found_two P graph one two (x ∷ xs) above each e = by (both_functions graph one x) refl e (found_two P graph one two xs above.1 each.1)
  where
    same : FactId → FactId → Type 0
    same m n = Some m ≡ Some n

    is_it : same x two → x ≡ two
    is_it e = cc

    by : (b : Bool) → both_functions graph one x ≡ b → cond (not b) (Some x) (find (λ two. not (both_functions graph one two)) xs) ≡ Some two → (find (λ two. not (both_functions graph one two)) xs ≡ Some two → IsTwo P graph one two) → IsTwo P graph one two
    by true is e later = later e
    by false is e later = subst (IsTwo P graph one) (is_it e) (record { apart = above.0; declared = each.0; no_overloads = is })

found_of_so : (P : ℕ → Type 0) (graph : CxxGraph) (all : List FactId) → IsSome all → AllByRecursion (OfNumber P) all → Rising all → IsLooked P graph (found_of graph all)
unfolding found_of odd_pair
found_of_so P graph [] is each rising = absurd is
found_of_so P graph (one ∷ others) is each rising = by (find (λ two. not (both_functions graph one two)) others) refl
  where
    by : (o : Option FactId) → find (λ two. not (both_functions graph one two)) others ≡ o → IsLooked P graph (found_of graph (one ∷ others))
    by None e = rw e (set_looked one others each.0)
    by (Some two) e = rw e (two_looked one two (found_two P graph one two others rising.0 each.1 e))

pub looked_so : (P : ℕ → Type 0) (graph : CxxGraph) (all : List Sighting) → IsSome all → AllByRecursion (IsSo P) all → IsLooked P graph (looked_up graph all)
unfolding unhidden
looked_so P graph all is each = found_of_so P graph (entities (unhidden graph all)) (entities_some (unhidden graph all) (unhidden_some graph all is)) (entities_so P (unhidden graph all) (filtered_all (IsSo P) (λ one. not (is_hidden_among graph all one)) all each)) (entities_rising (unhidden graph all))

-- ---- scopes of no class

pub scope_finds : (graph : CxxGraph) (wanted : Wanted) (name : CxxName) (cut : ℕ) (shown : List Shown) (scope : ScopeId) → class_of_scope graph.facts scope ≡ None → found_in_scope graph wanted name cut shown scope ≡ Ok (found_in_sightings graph (sightings_at graph cut wanted name shown scope))
unfolding found_in_scope
scope_finds graph wanted name cut shown scope none = rw none refl

-- ---- scopes of classes (10.2)

member_seen : (graph : CxxGraph) (wanted : Wanted) (name : CxxName) (class : ClassId) (number : ℕ) (fact : CxxFact) (one : Sighting) → AreSound graph.facts → slice_get graph.facts number ≡ Some fact → member_in graph wanted name class number fact ≡ Some one → IsOne graph wanted one
unfolding member_in
member_seen graph wanted name class number fact one sound at e = one_wanted graph wanted number fact one sound at (if_some _ (wanted_one graph wanted (sighting_of graph.facts number fact)) one e)

members_seen : (graph : CxxGraph) (wanted : Wanted) (name : CxxName) (class : ClassId) → AreSound graph.facts → AllByRecursion (IsOne graph wanted) (members_in graph wanted name class)
unfolding members_in
members_seen graph wanted name class sound = gathered_all (IsOne graph wanted) (member_in graph wanted name class) graph.facts 0 (λ i fact one there is. member_seen graph wanted name class i fact one sound there (ap (λ n. member_in graph wanted name class n fact) (no_more i) ∙ is))
  where
    no_more : (i : ℕ) → i ≡ 0 + i
    no_more i = omega arith

-- the class that begins with a scope is not pending
begun_of : (all : List CxxFact) (n : ℕ) (class : ClassId) → slice_get (scope_kinds all) n ≡ Some (scope_kind.Class class) → list_any (λ fact. begins_or_ends class.0 fact.what) all ≡ true
begun_of [] n class e = absurd cc
begun_of (fact ∷ others) n class e = by fact.what (begun_of others) n e
  where
    further : (b : Bool) → list_any (λ fact. begins_or_ends class.0 fact.what) others ≡ true → (b || list_any (λ fact. begins_or_ends class.0 fact.what) others) ≡ true
    further true is = refl
    further false is = is

    begins : (one : ClassId) → one ≡ class → (nat_eq one.0 class.0 || list_any (λ fact. begins_or_ends class.0 fact.what) others) ≡ true
    begins one is = ap (λ (b : Bool). b || list_any (λ fact. begins_or_ends class.0 fact.what) others) (eq-eqb one.0 class.0 (ap (λ (c : ClassId). c.0) is))

    class_in : ScopeKind → ClassId
    class_in (scope_kind.Class one) = one
    class_in _ = class

    first : (kind : ScopeKind) (parent : Option ScopeId) → kind ≡ scope_kind.Class class → (begins_or_ends class.0 (facts.scope parent kind) || list_any (λ fact. begins_or_ends class.0 fact.what) others) ≡ true
    first (scope_kind.Class one) parent is = begins one (ap class_in is)
    first scope_kind.Space parent is = absurd cc
    first scope_kind.Parameters parent is = absurd cc
    first (scope_kind.Block function) parent is = absurd cc

    by : (what : Declares) → ((n : ℕ) (class : ClassId) → slice_get (scope_kinds others) n ≡ Some (scope_kind.Class class) → list_any (λ fact. begins_or_ends class.0 fact.what) others ≡ true) → (n : ℕ) → slice_get (scope_kinds (record fact { what = what } ∷ others)) n ≡ Some (scope_kind.Class class)
        → list_any (λ fact. begins_or_ends class.0 fact.what) (record fact { what = what } ∷ others) ≡ true
    by (facts.scope parent kind) later zero e = first kind parent (same_Some kind (scope_kind.Class class) e)
    by (facts.scope parent kind) later (suc n) e = further (begins_or_ends class.0 (facts.scope parent kind)) (later n class e)
    by (facts.complete number) later n e = further (begins_or_ends class.0 (facts.complete number)) (later n class e)
    by _ later n e = later n class e

-- the class of which a scope is, by its kind
abbrev pub class_in_kind : Option ScopeKind → Option ClassId
class_in_kind (Some (scope_kind.Class class)) = Some class
class_in_kind _ = None

pub class_by_kind : (all : List CxxFact) (scope : ScopeId) → class_of_scope all scope ≡ class_in_kind (kind_of all scope)
class_by_kind all scope = by (kind_of all scope) refl
  where
    by : (o : Option ScopeKind) → kind_of all scope ≡ o → class_of_scope all scope ≡ class_in_kind o
    by None e = rw e refl
    by (Some scope_kind.Space) e = rw e refl
    by (Some scope_kind.Parameters) e = rw e refl
    by (Some (scope_kind.Block function)) e = rw e refl
    by (Some (scope_kind.Class class)) e = rw e refl

class_kind : (class : ClassId) (o : Option ScopeKind) → class_in_kind o ≡ Some class → o ≡ Some (scope_kind.Class class)
class_kind class None is = absurd cc
class_kind class (Some scope_kind.Space) is = absurd cc
class_kind class (Some scope_kind.Parameters) is = absurd cc
class_kind class (Some (scope_kind.Block function)) is = absurd cc
class_kind class (Some (scope_kind.Class one)) is = ap (λ (c : ClassId). Some (scope_kind.Class c)) (same_Some one class is)

never_pending : (graph : CxxGraph) (scope : ScopeId) (class : ClassId) → class_of_scope graph.facts scope ≡ Some class → is_pending graph class.0 ≡ false
unfolding is_pending
never_pending graph scope class is = by (slice_get graph.classes class.0) refl
  where
    begun : list_any (λ fact. begins_or_ends class.0 fact.what) graph.facts ≡ true
    begun = begun_of graph.facts scope.0 class (class_kind class (kind_of graph.facts scope) (sym (class_by_kind graph.facts scope) ∙ is))

    by : (o : Option (Option CxxSpecialisation)) → slice_get graph.classes class.0 ≡ o → is_pending graph class.0 ≡ false
    by None e = rw e refl
    by (Some None) e = rw e refl
    by (Some (Some of)) e = rw e (rw begun refl)

-- clause 14: without templates no class is pending
none_defined : (class : ℕ) (all : List CxxFact) → is_defined_since [] class false all ≡ false
none_defined class [] = refl
none_defined class (fact ∷ later) = by fact.what (none_defined class later)
  where
    by : (what : Declares) → is_defined_since [] class false later ≡ false → is_defined_since [] class false (record fact { what = what } ∷ later) ≡ false
    by (facts.complete number) e = e
    by (facts.passed number) e = e
    by _ e = e

and_false : (b : Bool) → (b && false) ≡ false
and_false true = refl
and_false false = refl

none_pending : (graph : CxxGraph) (class : ClassId) → graph.patterns ≡ [] → is_pending graph class.0 ≡ false
unfolding is_pending
none_pending graph class none = by (slice_get graph.classes class.0) refl
  where
    defined : (template : ℕ) → is_defined_since (defining_classes graph template) class.0 false graph.facts ≡ false
    defined template = ap (λ (all : List ℕ). is_defined_since all class.0 false graph.facts) (ap (λ (ps : List CxxPattern). defining_classes (record graph { patterns = ps }) template) none) ∙ none_defined class.0 graph.facts

    by : (o : Option (Option CxxSpecialisation)) → slice_get graph.classes class.0 ≡ o → is_pending graph class.0 ≡ false
    by None e = rw e refl
    by (Some None) e = rw e refl
    by (Some (Some of)) e = rw e (rw (defined of.template) (and_false (not (list_any (λ fact. begins_or_ends class.0 fact.what) graph.facts))))

-- what a class has of a name, by the subobjects that declare it
abbrev members_found : CxxGraph → Wanted → CxxName → ClassId → MemberFound
members_found graph wanted name class = member_of graph wanted name (ways graph wanted name class)

class_answers : (graph : CxxGraph) (wanted : Wanted) (name : CxxName) (class : ClassId) → is_pending graph class.0 ≡ false → member_named graph wanted class name ≡ Ok (members_found graph wanted name class)
unfolding member_named
class_answers graph wanted name class ready = ap (λ (b : Bool). cond b (Err class) (Ok (members_found graph wanted name class))) ready

class_has : (graph : CxxGraph) (wanted : Wanted) (name : CxxName) (scope : ScopeId) (class : ClassId) → class_of_scope graph.facts scope ≡ Some class → member_named graph wanted class name ≡ Ok (members_found graph wanted name class)
class_has graph wanted name scope class is = class_answers graph wanted name class (never_pending graph scope class is)

abbrev MemberAnswers : Asked MemberFound → Asked MemberFound → Type 0
MemberAnswers one two = one ≡ two

-- a class that is not pending has what is found of a name
class_found : (graph : CxxGraph) (wanted : Wanted) (name : CxxName) (class : ClassId) (x : MemberFound) → member_named graph wanted class name ≡ Ok x → members_found graph wanted name class ≡ x
unfolding member_named
class_found graph wanted name class x e = by (is_pending graph class.0) e
  where
    found : (one two : MemberFound) → MemberAnswers (Ok one) (Ok two) → one ≡ two
    found one two e = cc

    by : (pending : Bool) → MemberAnswers (cond pending (Err class) (Ok (members_found graph wanted name class))) (Ok x) → members_found graph wanted name class ≡ x
    by true e = absurd cc
    by false e = found (members_found graph wanted name class) x e

class_finds : (graph : CxxGraph) (wanted : Wanted) (name : CxxName) (cut : ℕ) (shown : List Shown) (scope : ScopeId) (class : ClassId) → class_of_scope graph.facts scope ≡ Some class → found_in_scope graph wanted name cut shown scope ≡ Ok (member_found class (members_found graph wanted name class))
unfolding found_in_scope
class_finds graph wanted name cut shown scope class is = rw is (ap (found_in_member class) (class_has graph wanted name scope class is))

-- one that is not brought, and hides what is (7.3.3)
own_in : (one : Sighting) (all : List Sighting) → list_any (is_redeclared_by one) all ≡ true → (two : Sighting) × Contains all two × (is_brought two ≡ false)
own_in one [] e = absurd cc
own_in one (x ∷ xs) e = by (is_brought x) refl (same_lists one.what x.what) e (own_in one xs)
  where
    later : ((two : Sighting) × Contains xs two × (is_brought two ≡ false)) → (two : Sighting) × Contains (x ∷ xs) two × (is_brought two ≡ false)
    later found = (found.0, later_of x xs found.0 found.1, found.2)

    by : (brought : Bool) → is_brought x ≡ brought → (same : Bool) → ((not brought && same) || list_any (is_redeclared_by one) xs) ≡ true → (list_any (is_redeclared_by one) xs ≡ true → (two : Sighting) × Contains xs two × (is_brought two ≡ false)) → (two : Sighting) × Contains (x ∷ xs) two × (is_brought two ≡ false)
    by false own true e further = (x, first_of x xs, own)
    by false own false e further = later (further e)
    by true own same e further = later (further e)

not_redeclared_some : (all : List Sighting) → IsSome all → IsSome (not_redeclared all)
unfolding not_redeclared
not_redeclared_some [] is = is
not_redeclared_some (x ∷ xs) is = by (is_brought x) refl (list_any (is_redeclared_by x) (x ∷ xs)) refl
  where
    keeps : Sighting → Bool
    keeps one = not (is_redeclared (x ∷ xs) one)

    by : (brought : Bool) → is_brought x ≡ brought → (hidden : Bool) → list_any (is_redeclared_by x) (x ∷ xs) ≡ hidden → IsSome (filter keeps (x ∷ xs))
    by false e hidden h = filter_some keeps (x ∷ xs) x (first_of x xs) (ap (λ (b : Bool). not (b && list_any (is_redeclared_by x) (x ∷ xs))) e)
    by true e false h = filter_some keeps (x ∷ xs) x (first_of x xs) (ap (λ (b : Bool). not (b && list_any (is_redeclared_by x) (x ∷ xs))) e ∙ ap not h)
    by true e true h = let two = own_in x (x ∷ xs) h in filter_some keeps (x ∷ xs) two.0 two.1 (ap (λ (b : Bool). not (b && list_any (is_redeclared_by two.0) (x ∷ xs))) two.2)

-- ---- what a scope answers

abbrev pub ScopeAnswers : Asked (Option Found) → Asked (Option Found) → Type 0
ScopeAnswers one two = one ≡ two

pub in_sightings : (P : ℕ → Type 0) (graph : CxxGraph) (all : List Sighting) (x : Found) → AllByRecursion (IsSo P) all → ScopeAnswers (Ok (found_in_sightings graph all)) (Ok (Some x)) → IsLooked P graph x
in_sightings P graph [] x each e = absurd cc
in_sightings P graph (one ∷ others) x each e = subst (IsLooked P graph) (by e) (looked_so P graph (one ∷ others) tt each)
  where
    by : ScopeAnswers (Ok (Some (looked_up graph (one ∷ others)))) (Ok (Some x)) → looked_up graph (one ∷ others) ≡ x
    by e = cc

pub each_so : (P : ℕ → Type 0) (graph : CxxGraph) (wanted : Wanted) → ((one : Sighting) → IsOne graph wanted one → IsSo P one) → (all : List Sighting) → AllByRecursion (IsOne graph wanted) all → AllByRecursion (IsSo P) all
each_so P graph wanted each [] are = tt
each_so P graph wanted each (one ∷ others) are = (each one are.0, each_so P graph wanted each others are.1)

-- ---- members (10.2)

-- a class that declares the name has a declaration that is not hidden
declared_some : (graph : CxxGraph) (wanted : Wanted) (name : CxxName) (class : ClassId) → declares_member graph wanted name class ≡ true → IsSome (declared_in graph wanted name class)
unfolding declares_member declared_in
declared_some graph wanted name class e = by (members_in graph wanted name class) e
  where
    by : (all : List Sighting) → not (is_nothing all) ≡ true → IsSome (unhidden graph (not_redeclared all))
    by [] e = absurd cc
    by (one ∷ others) e = unhidden_some graph (not_redeclared (one ∷ others)) (not_redeclared_some (one ∷ others) tt)

declared_all : (Q : Sighting → Type 0) (graph : CxxGraph) (wanted : Wanted) (name : CxxName) (class : ClassId) → AllByRecursion Q (members_in graph wanted name class) → AllByRecursion Q (declared_in graph wanted name class)
unfolding declared_in unhidden not_redeclared
declared_all Q graph wanted name class each =
    let all = members_in graph wanted name class in
    let own = not_redeclared all in
    filtered_all Q (λ one. not (is_hidden_among graph own one)) own (filtered_all Q (λ one. not (is_redeclared all one)) all each)

-- the last class of a way declares the name
holder_declares : (graph : CxxGraph) (wanted : Wanted) (name : CxxName) (class : ClassId) (way : Way) → Contains (ways graph wanted name class) way → declares_member graph wanted name way.holder ≡ true
holder_declares graph wanted name class way m = (ways_are_paths graph wanted name class way (each_is_way graph wanted name class way m)).1

-- what is found of a name as a member of a class: nothing, a declaration that there is, or two that do not go together
data IsMember (P : ℕ → Type 0) (graph : CxxGraph) (wanted : Wanted) (name : CxxName) (class : ClassId) : MemberFound → Type 0 where
  member_none : IsMember P graph wanted name class member.Empty
  member_some : (one : FactId) (others : List FactId) (path : List ℕ) → P one.0 → IsMember P graph wanted name class (member.Set (one ∷ others) path)
  member_two : (one two : Hit) → AreApart graph wanted name class one two → IsMember P graph wanted name class (member.Ambiguous one two)

set_of_members : (P : ℕ → Type 0) (graph : CxxGraph) (wanted : Wanted) (name : CxxName) (class : ClassId) (all : List FactId) (path : List ℕ) → IsSome all → AllByRecursion (OfNumber P) all → IsMember P graph wanted name class (member.Set all path)
set_of_members P graph wanted name class [] path is each = absurd is
set_of_members P graph wanted name class (one ∷ others) path is each = member_some one others path each.0

-- a member that one of the ways leads to
by_way : (graph : CxxGraph) (wanted : Wanted) (name : CxxName) (class : ClassId) (way : Way) (one : Sighting) → AreSound graph.facts → Contains (ways graph wanted name class) way → Contains (declared_in graph wanted name way.holder) one → IsMemberBy graph wanted name class (hit way one)
by_way graph wanted name class way one sound leads m = record {
  way = way;
  leads = each_is_way graph wanted name class way leads;
  sighting = one;
  stands = m;
  is = refl;
  declared = (all_of (IsOne graph wanted) (declared_in graph wanted name way.holder) (declared_all (IsOne graph wanted) graph wanted name way.holder (members_seen graph wanted name way.holder sound)) one m).itself;
}

nonstatic_in : (one : Sighting) (others : List Sighting) → Contains (one ∷ others) (first_nonstatic one others)
nonstatic_in one others = by (find is_one_nonstatic (one ∷ others)) refl
  where
    by : (o : Option Sighting) → find is_one_nonstatic (one ∷ others) ≡ o → Contains (one ∷ others) (first_nonstatic one others)
    by None e = rw e (first_of one others)
    by (Some two) e = rw e ((find_some is_one_nonstatic (one ∷ others) two e).0)

shown_in : (same : Bool) (first second : Sighting) (seconds : List Sighting) → Contains (second ∷ seconds) (second_shown same first second seconds)
shown_in same first second seconds = by (same && not (is_one_nonstatic first))
  where
    by : (b : Bool) → Contains (second ∷ seconds) (cond b (first_nonstatic second seconds) second)
    by true = nonstatic_in second seconds
    by false = first_of second seconds

clashing : (P : ℕ → Type 0) (graph : CxxGraph) (wanted : Wanted) (name : CxxName) (class : ClassId) (one two : Way) (firsts seconds : List Sighting) → AreSound graph.facts → Contains (ways graph wanted name class) one → Contains (ways graph wanted name class) two → breaks (has_nonstatic (declared_in graph wanted name one.holder)) one two ≡ true
    → declared_in graph wanted name one.holder ≡ firsts → declared_in graph wanted name two.holder ≡ seconds → IsSome firsts → IsSome seconds → IsMember P graph wanted name class (clash one firsts two seconds)
unfolding clash by_way
clashing P graph wanted name class one two [] seconds sound m n e f g is so = absurd is
clashing P graph wanted name class one two (first ∷ firsts) [] sound m n e f g is so = absurd so
clashing P graph wanted name class one two (first ∷ firsts) (second ∷ seconds) sound m n e f g is so =
    let other = second_shown (same_class one.holder two.holder) first second seconds in
    member_two (hit one first) (hit two other) (record {
      first = by_way graph wanted name class one first sound m (subst (λ (all : List Sighting). Contains all first) (sym f) (first_of first firsts));
      second = by_way graph wanted name class two other sound n (subst (λ (all : List Sighting). Contains all other) (sym g) (shown_in (same_class one.holder two.holder) first second seconds));
      apart = e;
    })

member_by_ways : (P : ℕ → Type 0) (graph : CxxGraph) (wanted : Wanted) (name : CxxName) (class : ClassId) → AreSound graph.facts → ((one : Sighting) → IsOne graph wanted one → IsSo P one) → (all : List Way) → ((way : Way) → Contains all way → Contains (ways graph wanted name class) way) → IsMember P graph wanted name class (member_of graph wanted name all)
unfolding member_of member_by
member_by_ways P graph wanted name class sound each [] among = member_none
member_by_ways P graph wanted name class sound each (one ∷ others) among = by (find (breaks (has_nonstatic (declared_in graph wanted name one.holder)) one) others) refl
  where
    test : Way → Bool
    test two = breaks (has_nonstatic (declared_in graph wanted name one.holder)) one two

    some_of : (way : Way) → Contains (ways graph wanted name class) way → IsSome (declared_in graph wanted name way.holder)
    some_of way m = declared_some graph wanted name way.holder (holder_declares graph wanted name class way m)

    here : Contains (ways graph wanted name class) one
    here = among one (first_of one others)

    by : (o : Option Way) → find test others ≡ o → IsMember P graph wanted name class (member_by graph wanted name one o)
    by None e =
        let own = declared_in graph wanted name one.holder in
        set_of_members P graph wanted name class (entities own) one.path (entities_some own (some_of one here)) (entities_so P own (declared_all (IsSo P) graph wanted name one.holder (each_so P graph wanted each (members_in graph wanted name one.holder) (members_seen graph wanted name one.holder sound))))
    by (Some two) e =
        let found = find_some test others two e in
        let there = among two (later_of one others two found.0) in
        clashing P graph wanted name class one two (declared_in graph wanted name one.holder) (declared_in graph wanted name two.holder) sound here there found.1 refl refl (some_of one here) (some_of two there)

member_is : (P : ℕ → Type 0) (graph : CxxGraph) (wanted : Wanted) (name : CxxName) (class : ClassId) → AreSound graph.facts → ((one : Sighting) → IsOne graph wanted one → IsSo P one) → IsMember P graph wanted name class (members_found graph wanted name class)
member_is P graph wanted name class sound each = member_by_ways P graph wanted name class sound each (ways graph wanted name class) (λ way m. m)

in_members : (P : ℕ → Type 0) (graph : CxxGraph) (wanted : Wanted) (name : CxxName) (class : ClassId) (of : MemberFound) (x : Found) → IsMember P graph wanted name class of → ScopeAnswers (Ok (member_found class of)) (Ok (Some x)) → IsLooked P graph x
in_members P graph wanted name class _ x member_none e = absurd cc
in_members P graph wanted name class _ x (member_some one others path so) e = subst (IsLooked P graph) (is_it e) (member_looked class one others path so)
  where
    is_it : ScopeAnswers (Ok (Some (found.Member class (member.Set (one ∷ others) path)))) (Ok (Some x)) → found.Member class (member.Set (one ∷ others) path) ≡ x
    is_it e = cc
in_members P graph wanted name class _ x (member_two one two are) e = subst (IsLooked P graph) (is_it e) (clash_looked class one two)
  where
    is_it : ScopeAnswers (Ok (Some (found.Member class (member.Ambiguous one two)))) (Ok (Some x)) → found.Member class (member.Ambiguous one two) ≡ x
    is_it e = cc

-- what is found of a name as a member of a class
pub in_class : (P : ℕ → Type 0) (graph : CxxGraph) (wanted : Wanted) (name : CxxName) (class : ClassId) → AreSound graph.facts → ((one : Sighting) → IsOne graph wanted one → IsSo P one) → (all : List FactId) (path : List ℕ) → member_named graph wanted class name ≡ Ok (member.Set all path) → IsLooked P graph (found.Member class (member.Set all path))
in_class P graph wanted name class sound each all path e = by (members_found graph wanted name class) (member_is P graph wanted name class sound each) (class_found graph wanted name class (member.Set all path) e)
  where
    by : (of : MemberFound) → IsMember P graph wanted name class of → of ≡ member.Set all path → IsLooked P graph (found.Member class (member.Set all path))
    by _ member_none e = absurd cc
    by _ (member_some one others bases so) e = subst (λ (of : MemberFound). IsLooked P graph (found.Member class of)) e (member_looked class one others bases so)
    by _ (member_two one two are) e = absurd cc

-- 3.4.3.1: what a class answers where there are no templates: nothing, or something
pub data ClassAnswers (P : ℕ → Type 0) (graph : CxxGraph) (wanted : Wanted) (name : CxxName) (class : ClassId) : Type 0 where
  class_without : member_named graph wanted class name ≡ Ok member.Empty → ClassAnswers P graph wanted name class
  class_with : (of : MemberFound) → member_named graph wanted class name ≡ Ok of → IsLooked P graph (found.Member class of) → ClassAnswers P graph wanted name class

pub class_looked : (P : ℕ → Type 0) (graph : CxxGraph) (wanted : Wanted) (name : CxxName) (class : ClassId) → AreSound graph.facts → graph.patterns ≡ [] → ((one : Sighting) → IsOne graph wanted one → IsSo P one) → ClassAnswers P graph wanted name class
class_looked P graph wanted name class sound none each = by (members_found graph wanted name class) (member_is P graph wanted name class sound each) (class_answers graph wanted name class (none_pending graph class none))
  where
    by : (of : MemberFound) → IsMember P graph wanted name class of → member_named graph wanted class name ≡ Ok of → ClassAnswers P graph wanted name class
    by _ member_none e = class_without e
    by _ (member_some one others path so) e = class_with (member.Set (one ∷ others) path) e (member_looked class one others path so)
    by _ (member_two one two are) e = class_with (member.Ambiguous one two) e (clash_looked class one two)

-- two that are found do not go together
abbrev Anyhow : ℕ → Type 0
Anyhow n = Unit {0}

any_member : (graph : CxxGraph) (wanted : Wanted) (name : CxxName) (class : ClassId) → AreSound graph.facts → IsMember Anyhow graph wanted name class (members_found graph wanted name class)
any_member graph wanted name class sound = member_is Anyhow graph wanted name class sound (λ one is. record { meant = tt; first = λ n e. tt })

apart_by : (graph : CxxGraph) (wanted : Wanted) (name : CxxName) (class : ClassId) (of : MemberFound) (one two : Hit) → IsMember Anyhow graph wanted name class of → of ≡ member.Ambiguous one two → AreApart graph wanted name class one two
apart_by graph wanted name class _ one two member_none e = absurd cc
apart_by graph wanted name class _ one two (member_some n others path so) e = absurd cc
apart_by graph wanted name class _ one two (member_two m n are) e = subst (λ (x : Hit). AreApart graph wanted name class x two) (ap first_in e) (subst (λ (y : Hit). AreApart graph wanted name class m y) (ap second_in e) are)
  where
    first_in : MemberFound → Hit
    first_in (member.Ambiguous m n) = m
    first_in _ = one

    second_in : MemberFound → Hit
    second_in (member.Ambiguous m n) = n
    second_in _ = two

pub class_apart : (graph : CxxGraph) (wanted : Wanted) (name : CxxName) (class : ClassId) (one two : Hit) → AreSound graph.facts → member_named graph wanted class name ≡ Ok (member.Ambiguous one two) → AreApart graph wanted name class one two
class_apart graph wanted name class one two sound e = apart_by graph wanted name class (members_found graph wanted name class) one two (any_member graph wanted name class sound) (class_found graph wanted name class (member.Ambiguous one two) e)

-- the same in the scope of a class
pub scope_apart : (graph : CxxGraph) (wanted : Wanted) (name : CxxName) (cut : ℕ) (shown : List Shown) (scope : ScopeId) (other class : ClassId) (one two : Hit) → AreSound graph.facts → class_of_scope graph.facts scope ≡ Some other → found_in_scope graph wanted name cut shown scope ≡ Ok (Some (found.Member class (member.Ambiguous one two)))
    → AreApart graph wanted name class one two
scope_apart graph wanted name cut shown scope other class one two sound is e = by (members_found graph wanted name other) refl (sym (class_finds graph wanted name cut shown scope other is) ∙ e)
  where
    same : (m n : Hit) → members_found graph wanted name other ≡ member.Ambiguous m n → found.Member other (member.Ambiguous m n) ≡ found.Member class (member.Ambiguous one two) → AreApart graph wanted name class one two
    same m n is e = subst (λ (c : ClassId). AreApart graph wanted name c one two) (ap class_in e) (apart_by graph wanted name other (members_found graph wanted name other) one two (any_member graph wanted name other sound) (is ∙ ap member_in_found e))
      where
        class_in : Found → ClassId
        class_in (found.Member one of) = one
        class_in _ = other

        member_in_found : Found → MemberFound
        member_in_found (found.Member one of) = of
        member_in_found _ = member.Ambiguous m n

    by : (of : MemberFound) → members_found graph wanted name other ≡ of → ScopeAnswers (Ok (member_found other of)) (Ok (Some (found.Member class (member.Ambiguous one two)))) → AreApart graph wanted name class one two
    by member.Empty is e = absurd cc
    by (member.Set all path) is e = absurd cc
    by (member.Ambiguous m n) is e = same m n is (it_is e)
      where
        it_is : ScopeAnswers (Ok (Some (found.Member other (member.Ambiguous m n)))) (Ok (Some (found.Member class (member.Ambiguous one two)))) → found.Member other (member.Ambiguous m n) ≡ found.Member class (member.Ambiguous one two)
        it_is e = cc

-- what declares the name itself has no more of it by its bases
own_kept : (declares : ClassId → Bool) (later : List CxxFact) (now : ClassId → List Way) (class : ClassId) → declares class ≡ true → ways_after declares now later class ≡ now class
unfolding ways_after with_base
own_kept declares [] now class own = refl
own_kept declares (fact ∷ later) now class own = own_kept declares later (with_base declares fact now) class own ∙ by fact.what
  where
    kept : (b : Bool) (more less : List Way) → cond (b && false) more less ≡ less
    kept true more less = refl
    kept false more less = refl

    by : (what : Declares) → with_base declares (record fact { what = what }) now class ≡ now class
    by (facts.ancestor derived parent index access) = ap (λ (b : Bool). cond (same_class derived class && not b) (now class ++ map (through index) (now parent)) (now class)) own ∙ kept (same_class derived class) (now class ++ map (through index) (now parent)) (now class)
    by _ = refl

-- the class itself, where it declares the name
abbrev itself_alone : ClassId → List Way
itself_alone class = record { path = []; holder = class } ∷ []

own_way : (graph : CxxGraph) (wanted : Wanted) (name : CxxName) (class : ClassId) → declares_member graph wanted name class ≡ true → ways graph wanted name class ≡ itself_alone class
unfolding ways own_ways
own_way graph wanted name class own = own_kept (declares_member graph wanted name) graph.facts (own_ways graph wanted name) class own ∙ ap (λ (b : Bool). cond b (itself_alone class) []) own

own_found : (graph : CxxGraph) (wanted : Wanted) (name : CxxName) (class : ClassId) → member_of graph wanted name (itself_alone class) ≡ member.Set (entities (declared_in graph wanted name class)) []
unfolding member_of member_by
own_found graph wanted name class = refl

-- so where nothing is found the class has no declaration of it
none_declared : (graph : CxxGraph) (wanted : Wanted) (name : CxxName) (class : ClassId) → members_found graph wanted name class ≡ member.Empty → members_in graph wanted name class ≡ []
unfolding declares_member
none_declared graph wanted name class e = by (members_in graph wanted name class) refl
  where
    apart : (all : List FactId) → member.Set all [] ≡ member.Empty → ⊥
    apart all e = cc

    by : (all : List Sighting) → members_in graph wanted name class ≡ all → members_in graph wanted name class ≡ []
    by [] is = is
    by (one ∷ others) is =
        let own = own_way graph wanted name class (ap (λ (all : List Sighting). not (is_nothing all)) is) in
        absurd (apart (entities (declared_in graph wanted name class)) (sym (own_found graph wanted name class) ∙ (ap (member_of graph wanted name) (sym own) ∙ e)))

-- what a scope has, of a class or of none
pub in_scope : (P : ℕ → Type 0) (graph : CxxGraph) (wanted : Wanted) (name : CxxName) (cut : ℕ) (shown : List Shown) (scope : ScopeId) (x : Found) → AreSound graph.facts → ((one : Sighting) → IsOne graph wanted one → IsSo P one) → found_in_scope graph wanted name cut shown scope ≡ Ok (Some x) → IsLooked P graph x
in_scope P graph wanted name cut shown scope x sound each e = by (class_of_scope graph.facts scope) refl
  where
    by : (o : Option ClassId) → class_of_scope graph.facts scope ≡ o → IsLooked P graph x
    by None none = in_sightings P graph (sightings_at graph cut wanted name shown scope) x (each_so P graph wanted each (sightings_at graph cut wanted name shown scope) (sightings_seen graph cut wanted name shown scope sound)) (sym (scope_finds graph wanted name cut shown scope none) ∙ e)
    by (Some class) is = in_members P graph wanted name class (members_found graph wanted name class) x (member_is P graph wanted name class sound each) (sym (class_finds graph wanted name cut shown scope class is) ∙ e)

-- each scope answers
pub scope_answers : (graph : CxxGraph) (wanted : Wanted) (name : CxxName) (cut : ℕ) (shown : List Shown) (scope : ScopeId) → AreSound graph.facts → (x : Option Found) × (found_in_scope graph wanted name cut shown scope ≡ Ok x)
scope_answers graph wanted name cut shown scope sound = by (class_of_scope graph.facts scope) refl
  where
    by : (o : Option ClassId) → class_of_scope graph.facts scope ≡ o → (x : Option Found) × (found_in_scope graph wanted name cut shown scope ≡ Ok x)
    by None none = (_, scope_finds graph wanted name cut shown scope none)
    by (Some class) is = (_, class_finds graph wanted name cut shown scope class is)

-- ---- outward

-- what a scope has, of what is wanted
abbrev pub HasNone : CxxGraph → Wanted → CxxName → ℕ → ScopeId → Type 0
HasNone graph wanted name cut scope = standing graph cut wanted name scope ≡ []

-- 10.2: nor has the class of which it is
abbrev pub HasNoMember : CxxGraph → Wanted → CxxName → ScopeId → Type 0
HasNoMember graph wanted name scope = (class : ClassId) → class_of_scope graph.facts scope ≡ Some class → member_named graph wanted class name ≡ Ok member.Empty

pub record HasNothing (graph : CxxGraph) (wanted : Wanted) (name : CxxName) (cut : ℕ) (scope : ScopeId) : Type 0 where
  pub none : HasNone graph wanted name cut scope
  pub no_member : HasNoMember graph wanted name scope

-- what gives nothing where another gives nothing
none_gathered : {A B : Type 0} (one : ℕ → CxxFact → Option A) (two : ℕ → CxxFact → Option B) → ((n : ℕ) (fact : CxxFact) → one n fact ≡ None → two n fact ≡ None) → (number : ℕ) (all : List CxxFact) → gathered one number all ≡ [] → gathered two number all ≡ []
none_gathered one two each number [] e = refl
none_gathered {A = A} {B = B} one two each number (fact ∷ others) e = by (one number fact) refl e (none_gathered one two each (number + 1) others)
  where
    none : (o : Option B) → o ≡ None → gathered two (number + 1) others ≡ [] → before o (gathered two (number + 1) others) ≡ []
    none None is later = later
    none (Some x) is later = absurd cc

    by : (o : Option A) → one number fact ≡ o → before o (gathered one (number + 1) others) ≡ [] → (gathered one (number + 1) others ≡ [] → gathered two (number + 1) others ≡ []) → gathered two number (fact ∷ others) ≡ []
    by None is e later = none (two number fact) (each number fact is) (later e)
    by (Some x) is e later = absurd cc

-- a class that has no member of a name has no declaration of it in its scope
no_member_none : (graph : CxxGraph) (cut : ℕ) (wanted : Wanted) (name : CxxName) (scope : ScopeId) (class : ClassId) (number : ℕ) (fact : CxxFact) → class_of_scope graph.facts scope ≡ Some class → member_in graph wanted name class number fact ≡ None → sighting_in graph cut wanted name scope number fact ≡ None
unfolding member_in sighting_in
no_member_none graph cut wanted name scope class number fact is e = by (nat_eq fact.scope scope.0) refl (is_named name fact) refl (is_seen graph.facts cut number fact && not (is_by_friend graph.facts number fact)) e
  where
    seen : Option Sighting
    seen = wanted_one graph wanted (sighting_of graph.facts number fact)

    of_class : nat_eq fact.scope scope.0 ≡ true → is_of_class class (class_of_scope graph.facts (record { 0 = fact.scope })) ≡ true
    of_class here = ap (λ (n : ℕ). is_of_class class (class_of_scope graph.facts (record { 0 = n }))) (eqb-true fact.scope scope.0 here) ∙ (ap (is_of_class class) is ∙ eq-eqb class.0 class.0 refl)

    none : (b c : Bool) → c ≡ true → cond c seen None ≡ None → cond b seen None ≡ None
    none false c is e = refl
    none true true is e = e
    none true false is e = absurd cc

    by : (here : Bool) → nat_eq fact.scope scope.0 ≡ here → (named : Bool) → is_named name fact ≡ named → (others : Bool) → cond (named && is_of_class class (class_of_scope graph.facts (record { 0 = fact.scope }))) seen None ≡ None → cond (here && (named && others)) seen None ≡ None
    by false here named n others e = refl
    by true here false n others e = refl
    by true here true n others e = none others (is_of_class class (class_of_scope graph.facts (record { 0 = fact.scope }))) (of_class here) e

nothing_found : (class : ClassId) (of : MemberFound) → ScopeAnswers (Ok (member_found class of)) (Ok None) → of ≡ member.Empty
nothing_found class member.Empty e = refl
nothing_found class (member.Set all path) e = absurd cc
nothing_found class (member.Ambiguous one two) e = absurd cc

has_nothing : (graph : CxxGraph) (wanted : Wanted) (name : CxxName) (cut : ℕ) (shown : List Shown) (scope : ScopeId) → AreSound graph.facts → found_in_scope graph wanted name cut shown scope ≡ Ok None → HasNothing graph wanted name cut scope
unfolding sightings_at standing members_in
has_nothing graph wanted name cut shown scope sound e = by (class_of_scope graph.facts scope) refl
  where
    no_class : (class : ClassId) → class_of_scope graph.facts scope ≡ None → class_of_scope graph.facts scope ≡ Some class → ⊥
    no_class class none is = apart (sym none ∙ is)
      where
        apart : None ≡ Some class → ⊥
        apart e = cc

    without : (class : ClassId) → class_of_scope graph.facts scope ≡ Some class → members_found graph wanted name class ≡ member.Empty
    without class is = nothing_found class (members_found graph wanted name class) (sym (class_finds graph wanted name cut shown scope class is) ∙ e)

    by : (o : Option ClassId) → class_of_scope graph.facts scope ≡ o → HasNothing graph wanted name cut scope
    by None none = record {
      none = none_left (standing graph cut wanted name scope) (standing_shown graph cut wanted name scope shown) (nothing_is_none graph wanted name cut shown scope none e);
      no_member = λ class is. absurd (no_class class none is);
    }
    by (Some class) is = record {
      none = standing_none class is;
      no_member = λ one so. class_has graph wanted name scope one so ∙ ap (λ (of : MemberFound). Ok of) (without one so);
    }
      where
        standing_none : (class : ClassId) → class_of_scope graph.facts scope ≡ Some class → standing graph cut wanted name scope ≡ []
        standing_none class is = none_gathered (member_in graph wanted name class) (sighting_in graph cut wanted name scope) (λ n fact none. no_member_none graph cut wanted name scope class n fact is none) 0 graph.facts (none_declared graph wanted name class (without class is))

pub has_none : (graph : CxxGraph) (wanted : Wanted) (name : CxxName) (cut : ℕ) (shown : List Shown) (scope : ScopeId) → AreSound graph.facts → found_in_scope graph wanted name cut shown scope ≡ Ok None → HasNone graph wanted name cut scope
has_none graph wanted name cut shown scope sound e = (has_nothing graph wanted name cut shown scope sound e).none

-- what is found, or no scope has anything
pub data Outward (P : ℕ → Type 0) (graph : CxxGraph) (wanted : Wanted) (name : CxxName) (cut : ℕ) (scopes : List ScopeId) : Found → Type 0 where
  none_outward : AllByRecursion (HasNothing graph wanted name cut) scopes → Outward P graph wanted name cut scopes found.Empty
  some_outward : (x : Found) → IsLooked P graph x → Outward P graph wanted name cut scopes x

pub outward : (P : ℕ → Type 0) (graph : CxxGraph) (wanted : Wanted) (name : CxxName) (cut : ℕ) → AreSound graph.facts → ((one : Sighting) → IsOne graph wanted one → IsSo P one) → (shown : List Shown) (scopes : List ScopeId) (x : Found) → IsFirst graph wanted name cut shown scopes x → Outward P graph wanted name cut scopes x
outward P graph wanted name cut sound each shown scopes x (Here _ scope outer _ e) = some_outward x (in_scope P graph wanted name cut (shown ++ shows graph.facts cut scope) scope x sound each e)
outward P graph wanted name cut sound each shown scopes x (Outside _ scope outer _ none further) = by x (outward P graph wanted name cut sound each (shown ++ shows graph.facts cut scope) outer x further)
  where
    by : (x : Found) → Outward P graph wanted name cut outer x → Outward P graph wanted name cut (scope ∷ outer) x
    by _ (none_outward are) = none_outward (has_nothing graph wanted name cut (shown ++ shows graph.facts cut scope) scope sound none, are)
    by x (some_outward _ is) = some_outward x is
outward P graph wanted name cut sound each shown scopes x (Nowhere _) = none_outward tt
