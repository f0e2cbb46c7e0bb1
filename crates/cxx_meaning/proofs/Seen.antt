-- What lookups see, and the entities of what they see.
use Rattle.std.proofs.Common.{◌≡◌, ℕ, suc, ◌+◌, Bool, true, false, cond, not, ◌&&◌, List, [], ◌∷◌, map, Option, Some, None, refl, ap, sym, ◌∙◌, subst, inl, inr, arith}
use Rattle.std.specs.List.{Contains, slice_get, filter}
use Rattle.cxx_model.specs.declared.lookup.Found.TheVariants as found
use Rattle.cxx_model.specs.declared.types.FactId.{FactId}
use Rattle.cxx_model.specs.declared.types.ScopeId.{ScopeId}
use Rattle.cxx_model.specs.Facts.Declarations.{CxxFact, CxxGraph, CxxName}
use Rattle.cxx_model.specs.Facts.Entities.{is_seen}
use Rattle.cxx_model.proofs.Champion.{first_of, first_or_later, later_of}
use Rattle.cxx_meaning.specs.Lookups.Gathered.{before, gathered, with_fact, with_facts}
use Rattle.cxx_meaning.specs.Lookups.Sightings.{EachIsOfOne, EachIsSeen, IsSeenIn, Sighting, entities, found_of, is_by_friend, is_hidden_among, is_named, named_by, odd_pair, sighting_in, sighting_of, standing, unhidden, wanted_one, when}
use Rattle.cxx_meaning.specs.Lookups.Wanted.{Wanted, is_wanted}

none_in : {A : Type 0} (x : A) → Contains [] x → ⊥
none_in x m = omega (arith, m.1)

-- ---- what is gathered

abbrev Given : {A : Type 0} → (ℕ → CxxFact → Option A) → ℕ → List CxxFact → A → Type 0
Given give first facts x = (i : ℕ) × (fact : CxxFact) × (slice_get facts i ≡ Some fact) × (give (first + i) fact ≡ Some x)

given_later : {A : Type 0} (give : ℕ → CxxFact → Option A) (first : ℕ) (fact : CxxFact) (facts : List CxxFact) (x : A) → Given give (first + 1) facts x → Given give first (fact ∷ facts) x
given_later give first fact facts x h = (let e : first + 1 + h.0 ≡ first + suc h.0 = omega arith in (suc h.0, h.1, h.2, ap (λ n. give n h.1) (sym e) ∙ h.3))

given_first : {A : Type 0} (give : ℕ → CxxFact → Option A) (first : ℕ) (fact : CxxFact) (facts : List CxxFact) (x : A) → give first fact ≡ Some x → Given give first (fact ∷ facts) x
given_first give first fact facts x h = (let e : first + 0 ≡ first = omega arith in (0, fact, refl, ap (λ n. give n fact) e ∙ h))

given_in : {A : Type 0} (give : ℕ → CxxFact → Option A) (first : ℕ) (fact : CxxFact) (facts : List CxxFact) (x : A) → (Contains (gathered give (first + 1) facts) x → Given give (first + 1) facts x) → (o : Option A) → give first fact ≡ o → Contains (before o (gathered give (first + 1) facts)) x → Given give first (fact ∷ facts) x
given_in give first fact facts x later None e m = given_later give first fact facts x (later m)
given_in give first fact facts x later (Some y) e m = elim (first_or_later y (gathered give (first + 1) facts) x m) [
  | inl here ↦ given_first give first fact facts x (e ∙ ap Some here)
  | inr there ↦ given_later give first fact facts x (later there)
]

gathered_given : {A : Type 0} (give : ℕ → CxxFact → Option A) (facts : List CxxFact) (first : ℕ) (x : A) → Contains (gathered give first facts) x → Given give first facts x
gathered_given give [] first x m = absurd (none_in x m)
gathered_given give (fact ∷ facts) first x m = given_in give first fact facts x (λ h. gathered_given give facts (first + 1) x h) (give first fact) refl m

-- ---- what is seen

all_four : (a b c d : Bool) → (a && (b && (c && not d))) ≡ true → (a ≡ true) × (b ≡ true) × (c ≡ true) × (d ≡ false)
all_four false b c d e = absurd cc
all_four true false c d e = absurd cc
all_four true true false d e = absurd cc
all_four true true true true e = absurd cc
all_four true true true false e = (refl, refl, refl, refl)

when_some : {A : Type 0} (t : Bool) (x y : A) → when t x ≡ Some y → (t ≡ true) × (x ≡ y)
when_some true x y e = (refl, cc)
when_some false x y e = absurd cc

if_some : {A : Type 0} (t : Bool) (o : Option A) (y : A) → cond t o None ≡ Some y → (t ≡ true) × (o ≡ Some y)
if_some true o y e = (refl, e)
if_some false o y e = absurd cc

seen_in : (graph : CxxGraph) (cut : ℕ) (wanted : Wanted) (name : CxxName) (scope : ScopeId) (number : ℕ) (fact : CxxFact) (one : Sighting) → slice_get graph.facts number ≡ Some fact → sighting_in graph cut wanted name scope number fact ≡ Some one → IsSeenIn graph cut wanted name scope one
unfolding sighting_in
seen_in graph cut wanted name scope number fact one at e =
    let both = if_some _ (wanted_one graph wanted (sighting_of graph.facts number fact)) one e in
    let four = all_four _ (is_named name fact) (is_seen graph.facts cut number fact) (is_by_friend graph.facts number fact) both.0 in
    let kept = when_some (is_wanted graph wanted (sighting_of graph.facts number fact).what) (sighting_of graph.facts number fact) one both.1 in
    record {
      number = number;
      fact = fact;
      stands = at;
      within = four.0;
      named = four.1;
      seen = four.2;
      no_friend = four.3;
      kind = subst (λ (x : Sighting). is_wanted graph wanted x.what ≡ true) kept.1 kept.0;
      itself = kept.1;
    }

pub each_is_seen : EachIsSeen
unfolding standing
each_is_seen graph cut wanted name scope one m =
    let given = gathered_given (sighting_in graph cut wanted name scope) graph.facts 0 one m in
    let e : 0 + given.0 ≡ given.0 = omega arith in
    seen_in graph cut wanted name scope given.0 given.1 one given.2 (ap (λ n. sighting_in graph cut wanted name scope n given.1) (sym e) ∙ given.3)

-- ---- entities

abbrev AllAre : (FactId → Type 0) → List FactId → Type 0
AllAre p xs = (n : FactId) → Contains xs n → p n

all_with : (p : FactId → Type 0) (x : FactId) (xs : List FactId) → p x → AllAre p xs → AllAre p (x ∷ xs)
all_with p x xs h all n m = elim (first_or_later x xs n m) [
  | inl here ↦ subst p here h
  | inr there ↦ all n there
]

all_placed : (p : FactId → Type 0) (one x : FactId) (xs more : List FactId) (t u : Bool) → p one → AllAre p (x ∷ xs) → AllAre p more → AllAre p (cond t (x ∷ more) (cond u (x ∷ xs) (one ∷ x ∷ xs)))
all_placed p one x xs more true u h all rest = all_with p x more (all x (first_of x xs)) rest
all_placed p one x xs more false true h all rest = all
all_placed p one x xs more false false h all rest = all_with p one (x ∷ xs) h all

all_with_fact : (p : FactId → Type 0) (one : FactId) (xs : List FactId) → p one → AllAre p xs → AllAre p (with_fact one xs)
all_with_fact p one [] h all = all_with p one [] h all
all_with_fact p one (x ∷ xs) h all = all_placed p one x xs (with_fact one xs) _ _ h all (all_with_fact p one xs h (λ n m. all n (later_of x xs n m)))

all_with_facts : (p : FactId → Type 0) (xs ys : List FactId) → AllAre p xs → AllAre p ys → AllAre p (with_facts xs ys)
unfolding with_facts
all_with_facts p xs [] all more = all
all_with_facts p xs (y ∷ ys) all more = all_with_facts p (with_fact y xs) ys (all_with_fact p y xs (more y (first_of y ys)) all) (λ n m. more n (later_of y ys n m))

mapped : {A B : Type 0} (f : A → B) (xs : List A) (y : B) → Contains (map f xs) y → (x : A) × Contains xs x × (f x ≡ y)
mapped f [] y m = absurd (none_in y m)
mapped f (x ∷ xs) y m = elim (first_or_later (f x) (map f xs) y m) [
  | inl here ↦ (x, first_of x xs, here)
  | inr there ↦ let r = mapped f xs y there in (r.0, later_of x xs r.0 r.1, r.2)
]

entity_of_one : (sightings : List Sighting) (fact : FactId) → Contains (entities sightings) fact → (one : Sighting) × Contains sightings one × (named_by sightings one ≡ fact)
unfolding entities
entity_of_one sightings fact m = all_with_facts (λ n. (one : Sighting) × Contains sightings one × (named_by sightings one ≡ n)) [] (map (named_by sightings) sightings) (λ n h. absurd (none_in n h)) (λ n h. mapped (named_by sightings) sightings n h) fact m

kept_in : (test : Sighting → Bool) (xs : List Sighting) (x : Sighting) → Contains (filter test xs) x → Contains xs x × (test x ≡ true)
kept_in test [] x m = absurd (none_in x m)
kept_in test (y ∷ ys) x m = by (test y) refl m (kept_in test ys x)
  where
    by : (t : Bool) → test y ≡ t → Contains (cond t (y ∷ filter test ys) (filter test ys)) x → (Contains (filter test ys) x → Contains ys x × (test x ≡ true)) → Contains (y ∷ ys) x × (test x ≡ true)
    by false e h later = let r = later h in (later_of y ys x r.0, r.1)
    by true e h later = elim (first_or_later y (filter test ys) x h) [
      | inl here ↦ (subst (λ z. Contains (y ∷ ys) z) here (first_of y ys), subst (λ z. test z ≡ true) here e)
      | inr there ↦ let r = later there in (later_of y ys x r.0, r.1)
    ]

not_true : (t : Bool) → not t ≡ true → t ≡ false
not_true true e = cc
not_true false e = refl

set_is : (graph : CxxGraph) (facts : List FactId) (o : Option (FactId × FactId)) (set : List FactId) → odd_pair graph facts ≡ o → found_of graph facts ≡ found.Set set → facts ≡ set
unfolding found_of
set_is graph [] o set e h = absurd cc
set_is graph (one ∷ others) None set e h = (let is = rw e at h in cc)
set_is graph (one ∷ others) (Some odd) set e h = (let is = rw e at h in absurd cc)

pub each_is_of_one : EachIsOfOne
unfolding unhidden
each_is_of_one graph sightings facts fact e m =
    let same = set_is graph (entities (unhidden graph sightings)) (odd_pair graph (entities (unhidden graph sightings))) facts refl e in
    let one = entity_of_one (unhidden graph sightings) fact (subst (λ (xs : List FactId). Contains xs fact) (sym same) m) in
    let kept = kept_in (λ x. not (is_hidden_among graph sightings x)) sightings one.0 one.1 in
    (one.0, kept.0, not_true (is_hidden_among graph sightings one.0) kept.1, one.2)
