-- Each way of a class is counted.
use Rattle.std.proofs.Common.{◌≡◌, ℕ, Bool, true, false, cond, not, ◌&&◌, ◌||◌, List, [], ◌∷◌, ◌++◌, map, refl, ap, sym, ◌∙◌, subst, inl, inr, append_assoc, arith}
use Rattle.std.specs.List.{Contains, list_any}
use Rattle.std.proofs.lemmas.Bool.{eq-eqb}
use Rattle.std.proofs.lemmas.List.{append-nil}
use Rattle.std.proofs.lemmas.List.Elements.{Contains-append_cases, Contains-append_left, Contains-append_right}
use Rattle.std.proofs.lemmas.List.Folds.{list_any-append}
use Rattle.cxx_model.specs.declared.facts.Access.{Access}
use Rattle.cxx_model.specs.declared.types.ClassId.{ClassId}
use Rattle.cxx_model.specs.Facts.Declarations as facts
use Rattle.cxx_model.specs.Facts.Declarations.{CxxFact, CxxGraph, CxxName, Declares}
use Rattle.cxx_model.proofs.Champion.{first_of, first_or_later, later_of}
use Rattle.cxx_meaning.specs.Lookups.Member.{BasesInOrder, EachWayIsCounted, IsWay, Itself, StandsInOrder, Through, Way, declares_member, ends, is_ended, own_ways, same_class, through, ways, ways_after, with_base}
use Rattle.cxx_meaning.specs.Lookups.Wanted.{Wanted}

none_in : {A : Type 0} (x : A) → Contains [] x → ⊥
none_in x m = omega (arith, m.1)

-- a way by some facts
data Leads (declares : ClassId → Bool) (all : List CxxFact) : ClassId → Way → Type 0 where
  Own : (class : ClassId) → declares class ≡ true → Leads declares all class (record { path = []; holder = class })
  Along : (fact : CxxFact) (derived parent : ClassId) (index : ℕ) (access : Access) (way : Way) → Contains all fact → fact.what ≡ facts.ancestor derived parent index access → declares derived ≡ false → Leads declares all parent way → Leads declares all derived (through index way)

leads : (graph : CxxGraph) (wanted : Wanted) (name : CxxName) (class : ClassId) (way : Way) → IsWay graph wanted name class way → Leads (declares_member graph wanted name) graph.facts class way
leads graph wanted name _ _ (Itself class e) = Own class e
leads graph wanted name _ _ (Through fact derived parent index access way there is none further) = Along fact derived parent index access way there is none (leads graph wanted name parent way further)

abbrev Closed : List CxxFact → Type 0
Closed all = (fact : CxxFact) (derived parent : ClassId) (index : ℕ) (access : Access) → Contains all fact → fact.what ≡ facts.ancestor derived parent index access → is_ended all parent ≡ true

abbrev Counts : (ClassId → Bool) → List CxxFact → (ClassId → List Way) → Type 0
Counts declares all now = (class : ClassId) (way : Way) → Leads declares all class way → Contains (now class) way

or_left : (a b : Bool) → a ≡ true → (a || b) ≡ true
or_left true b e = refl
or_left false b e = absurd cc

ended_more : (all : List CxxFact) (fact : CxxFact) (class : ClassId) → is_ended all class ≡ true → is_ended (all ++ fact ∷ []) class ≡ true
ended_more all fact class e = list_any-append (λ one. ends class one.what) all (fact ∷ []) ∙ or_left (is_ended all class) (list_any (λ one. ends class one.what) (fact ∷ [])) e

-- the new fact is that of a base: it stands in order
in_order : (all : List CxxFact) (fact : CxxFact) (derived parent : ClassId) (index : ℕ) (access : Access) → StandsInOrder all fact.what → fact.what ≡ facts.ancestor derived parent index access → (is_ended all parent ≡ true) × (is_ended all derived ≡ false)
in_order all fact derived parent index access order is = subst (StandsInOrder all) is order

last_one : (all : List CxxFact) (fact one : CxxFact) → Contains (fact ∷ []) one → fact ≡ one
last_one all fact one m = elim (first_or_later fact [] one m) [
  | inl here ↦ here
  | inr there ↦ absurd (none_in one there)
]

parent_ended : (all : List CxxFact) (fact one : CxxFact) (derived parent : ClassId) (index : ℕ) (access : Access) → Closed all → StandsInOrder all fact.what → Contains (all ++ fact ∷ []) one → one.what ≡ facts.ancestor derived parent index access → is_ended all parent ≡ true
parent_ended all fact one derived parent index access closed order m is = elim (Contains-append_cases all (fact ∷ []) one m) [
  | inl before ↦ closed one derived parent index access before is
  | inr last ↦ (in_order all fact derived parent index access order (ap (λ (x : CxxFact). x.what) (last_one all fact one last) ∙ is)).0
]

closed_more : (all : List CxxFact) (fact : CxxFact) → Closed all → StandsInOrder all fact.what → Closed (all ++ fact ∷ [])
closed_more all fact closed order one derived parent index access m is = ended_more all fact parent (parent_ended all fact one derived parent index access closed order m is)

-- a base of a class that has ended was there before
base_before : (all : List CxxFact) (fact one : CxxFact) (derived parent : ClassId) (index : ℕ) (access : Access) → StandsInOrder all fact.what → is_ended all derived ≡ true → Contains (all ++ fact ∷ []) one → one.what ≡ facts.ancestor derived parent index access → Contains all one
base_before all fact one derived parent index access order ended m is = elim (Contains-append_cases all (fact ∷ []) one m) [
  | inl before ↦ before
  | inr last ↦ (let open_one = (in_order all fact derived parent index access order (ap (λ (x : CxxFact). x.what) (last_one all fact one last) ∙ is)).1 in let no : true ≡ false = sym ended ∙ open_one in absurd cc)
]

-- the ways of a class that has ended are those of before
leads_before : (declares : ClassId → Bool) (all : List CxxFact) (fact : CxxFact) (class : ClassId) (way : Way) → Closed all → StandsInOrder all fact.what → is_ended all class ≡ true → Leads declares (all ++ fact ∷ []) class way → Leads declares all class way
leads_before declares all fact _ _ closed order ended (Own class e) = Own class e
leads_before declares all fact _ _ closed order ended (Along one derived parent index access way m is none further) =
    Along one derived parent index access way (base_before all fact one derived parent index access order ended m is) is none (leads_before declares all fact parent way closed order (parent_ended all fact one derived parent index access closed order m is) further)

-- ---- one fact more

in_either : (t : Bool) (xs ys : List Way) (way : Way) → Contains xs way → Contains (cond t (xs ++ ys) xs) way
in_either true xs ys way m = Contains-append_left xs ys way m
in_either false xs ys way m = m

still : (declares : ClassId → Bool) (fact : CxxFact) (what : Declares) (now : ClassId → List Way) (class : ClassId) (way : Way) → Contains (now class) way → Contains (with_base declares (record fact { what = what }) now class) way
unfolding with_base
still declares fact (facts.ancestor derived parent index access) now class way m = in_either _ (now class) (map (through index) (now parent)) way m
still declares fact _ now class way m = m

same_itself : (class : ClassId) → same_class class class ≡ true
same_itself class = eq-eqb class.0 class.0 refl

mapped : {A B : Type 0} (f : A → B) (xs : List A) (x : A) → Contains xs x → Contains (map f xs) (f x)
mapped f [] x m = absurd (none_in x m)
mapped f (y ∷ ys) x m = elim (first_or_later y ys x m) [
  | inl here ↦ subst (λ z. Contains (f y ∷ map f ys) (f z)) here (first_of (f y) (map f ys))
  | inr there ↦ later_of (f y) (map f ys) (f x) (mapped f ys x there)
]

taken : (t u : Bool) (xs ys : List Way) (way : Way) → t ≡ true → u ≡ false → Contains ys way → Contains (cond (t && not u) (xs ++ ys) xs) way
taken true false xs ys way e f m = Contains-append_right xs ys way m
taken true true xs ys way e f m = absurd cc
taken false u xs ys way e f m = absurd cc

new_one : (declares : ClassId → Bool) (fact : CxxFact) (what : Declares) (now : ClassId → List Way) (derived parent : ClassId) (index : ℕ) (access : Access) (way : Way) → facts.ancestor derived parent index access ≡ what → declares derived ≡ false → Contains (now parent) way → Contains (with_base declares (record fact { what = what }) now derived) (through index way)
unfolding with_base
new_one declares fact what now derived parent index access way is none m =
    subst (λ (w : Declares). Contains (with_base declares (record fact { what = w }) now derived) (through index way)) is
    (taken (same_class derived derived) (declares derived) (now derived) (map (through index) (now parent)) (through index way) (same_itself derived) none (mapped (through index) (now parent) way m))

counts_more : (declares : ClassId → Bool) (all : List CxxFact) (fact : CxxFact) (now : ClassId → List Way) → Closed all → StandsInOrder all fact.what → Counts declares all now → Counts declares (all ++ fact ∷ []) (with_base declares fact now)
counts_more declares all fact now closed order counts _ _ (Own class e) = still declares fact fact.what now class (record { path = []; holder = class }) (counts class (record { path = []; holder = class }) (Own class e))
counts_more declares all fact now closed order counts _ _ (Along one derived parent index access way m is none further) =
    let before = leads_before declares all fact parent way closed order (parent_ended all fact one derived parent index access closed order m is) further in
    elim (Contains-append_cases all (fact ∷ []) one m) [
      | inl there ↦ still declares fact fact.what now derived (through index way) (counts derived (through index way) (Along one derived parent index access way there is none before))
      | inr last ↦ new_one declares fact fact.what now derived parent index access way (sym is ∙ sym (ap (λ (x : CxxFact). x.what) (last_one all fact one last))) none (counts parent way before)
    ]

counts_after : (declares : ClassId → Bool) (later all : List CxxFact) (now : ClassId → List Way) → BasesInOrder all later → Closed all → Counts declares all now → Counts declares (all ++ later) (ways_after declares now later)
unfolding ways_after
counts_after declares [] all now order closed counts = subst (λ xs. Counts declares xs now) (sym (append-nil all)) counts
counts_after declares (fact ∷ later) all now order closed counts =
    subst (λ xs. Counts declares xs (ways_after declares (with_base declares fact now) later)) (append_assoc all (fact ∷ []) later) (counts_after declares later (all ++ fact ∷ []) (with_base declares fact now) order.1 (closed_more all fact closed order.0) (counts_more declares all fact now closed order.0 counts))

own_counted : (graph : CxxGraph) (wanted : Wanted) (name : CxxName) → Counts (declares_member graph wanted name) [] (own_ways graph wanted name)
unfolding own_ways
own_counted graph wanted name _ _ (Own class e) = rw e (first_of (record { path = []; holder = class }) [])
own_counted graph wanted name _ _ (Along one derived parent index access way m is none further) = absurd (none_in one m)

pub each_way_is_counted : EachWayIsCounted
unfolding ways
each_way_is_counted graph wanted name class way order is =
    counts_after (declares_member graph wanted name) graph.facts [] (own_ways graph wanted name) order (λ fact derived parent index access m e. absurd (none_in fact m)) (own_counted graph wanted name) class way (leads graph wanted name class way is)
