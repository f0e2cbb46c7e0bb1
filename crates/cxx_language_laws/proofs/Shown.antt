-- Where a lookup finds nothing, the namespaces that directives reach have nothing either (7.3.4).
use Rattle.std.proofs.Common.{arith, ◌≡◌, ◌⊎◌, inl, inr, ℕ, zero, suc, ◌<◌, ◌≤◌, Bool, true, false, cond, ◌&&◌, nat_eq, List, [], ◌∷◌, ◌++◌, length, map, Option, Some, None, refl, sym, ap, subst, ◌∙◌}
use Rattle.std.proofs.lemmas.Bool.{eq-eqb, eqb-true}
use Rattle.std.proofs.lemmas.List.Elements.{Contains-append_left, Contains-append_right}
use Rattle.std.proofs.lemmas.Option.{same_Some}
use Rattle.std.specs.List.{Contains, find, slice_get}
use Rattle.cxx_model.specs.declared.facts.ScopeKind.{ScopeKind}
use Rattle.cxx_model.specs.declared.facts.ScopeKind.TheVariants as scope_kind
use Rattle.cxx_model.specs.declared.lookup.Found.{Found}
use Rattle.cxx_model.specs.declared.lookup.Found.TheVariants as found
use Rattle.cxx_model.specs.declared.types.ScopeId.{ScopeId}
use Rattle.cxx_model.specs.Facts.Conflicts.{scope_facts}
use Rattle.cxx_model.specs.Facts.Declarations.{CxxFact, CxxGraph, CxxName}
use Rattle.cxx_model.specs.Facts.Entities.{is_space}
use Rattle.cxx_model.proofs.Champion.{first_of, first_or_later, later_of}
use Rattle.cxx_meaning.specs.Lookups.Directives.{Shown, reached, shown_from, shows}
use Rattle.cxx_meaning.specs.Lookups.Gathered.{holds_scope, same_scope}
use Rattle.cxx_meaning.specs.Lookups.Member.{class_of_scope}
use Rattle.cxx_meaning.specs.Lookups.Ordinary.{Here, IsFirst, Outside, sightings_at, standing_if, standing_shown}
use Rattle.cxx_meaning.specs.Lookups.Scopes.{chain, first_common, kind_of, parent_of as parent_in, up, unit_scope}
use Rattle.cxx_meaning.specs.Lookups.Sightings.{standing}
use Rattle.cxx_meaning.specs.Lookups.Wanted.{Wanted}
use Rattle.cxx_meaning.proofs.Nearest.{nothing_is_none}
use Rattle.cxx_language_laws.proofs.Outward.{HasNone, IsLooked, clash_looked, class_by_kind, class_in_kind, in_scope, member_looked, set_looked, two_looked}
use Rattle.cxx_language_laws.proofs.Scopes.{AreHeld, AreSound, UnitIsSpace, none_is_past}

-- ---- lists

mapped_in : {A B : Type 0} (f : A → B) (xs : List A) (x : A) → Contains xs x → Contains (map f xs) (f x)
mapped_in f [] x m = absurd (omega (arith, m.1))
mapped_in f (y ∷ ys) x m = elim (first_or_later y ys x m) [
  | inl here ↦ subst (λ z. Contains (f y ∷ map f ys) (f z)) here (first_of (f y) (map f ys))
  | inr there ↦ later_of (f y) (map f ys) (f x) (mapped_in f ys x there)
]

-- what is looked for is one of a list, or not there
pub find_in : {A : Type 0} (test : A → Bool) (xs : List A) (x : A) → find test xs ≡ Some x → Contains xs x
find_in test [] x e = absurd cc
find_in {A = A} test (y ∷ ys) x e = by (test y) e (find_in test ys x)
  where
    same : A → A → Type 0
    same one two = Some one ≡ Some two

    is_it : same y x → y ≡ x
    is_it e = cc

    by : (b : Bool) → cond b (Some y) (find test ys) ≡ Some x → (find test ys ≡ Some x → Contains ys x) → Contains (y ∷ ys) x
    by true e later = subst (λ z. Contains (y ∷ ys) z) (is_it e) (first_of y ys)
    by false e later = later_of y ys x (later e)

pub right_none : {A : Type 0} (xs ys : List A) → xs ++ ys ≡ [] → ys ≡ []
right_none [] ys e = e
right_none (x ∷ xs) ys e = absurd cc

left_none : {A : Type 0} (xs ys : List A) → xs ++ ys ≡ [] → xs ≡ []
left_none [] ys e = refl
left_none (x ∷ xs) ys e = absurd cc

-- ---- chains

pub parent_in_below : (all : List CxxFact) (scope : ScopeId) → scope.0 < length (scope_facts all) → AreHeld (scope_facts all) → ((parent_in all scope).0 ≡ 0) ⊎ ((parent_in all scope).0 < scope.0)
parent_in_below all scope within held = by (slice_get (scope_facts all) scope.0) refl
  where
    by : (o : Option CxxFact) → slice_get (scope_facts all) scope.0 ≡ o → ((parent_in all scope).0 ≡ 0) ⊎ ((parent_in all scope).0 < scope.0)
    by None none = absurd (none_is_past (scope_facts all) scope.0 within none)
    by (Some fact) is = rw is (held scope.0 fact is)

-- the scope of the unit is the last one
pub unit_in : (all : List CxxFact) → AreHeld (scope_facts all) → (room : ℕ) (scope : ScopeId) → scope.0 ≤ room → scope.0 < length (scope_facts all) → Contains (up all room scope) unit_scope
unfolding up
unit_in all held zero scope le within = let none : scope.0 ≡ 0 = omega (arith, le) in subst (λ (n : ℕ). Contains (scope ∷ []) (record { 0 = n })) none (first_of scope [])
unit_in all held (suc room) scope le within = by (nat_eq scope.0 0) refl (λ l w. unit_in all held room (parent_in all scope) l w)
  where
    by : (b : Bool) → nat_eq scope.0 0 ≡ b → ((parent_in all scope).0 ≤ room → (parent_in all scope).0 < length (scope_facts all) → Contains (up all room (parent_in all scope)) unit_scope) → Contains (scope ∷ cond b [] (up all room (parent_in all scope))) unit_scope
    by true is further = subst (λ (n : ℕ). Contains (scope ∷ []) (record { 0 = n })) (eqb-true scope.0 0 is) (first_of scope [])
    by false is further = later_of scope (up all room (parent_in all scope)) unit_scope (elim (parent_in_below all scope within held) [
      | inl none ↦ further (omega (arith, none)) (omega (arith, none, within))
      | inr below ↦ further (omega (arith, below, le)) (omega (arith, below, within))
    ])

-- with more room nothing is lost
up_more : (all : List CxxFact) (less more : ℕ) (scope one : ScopeId) → less ≤ more → Contains (up all less scope) one → Contains (up all more scope) one
unfolding up
up_more all zero zero scope one le m = m
up_more all zero (suc more) scope one le m = elim (first_or_later scope [] one m) [
  | inl here ↦ subst (λ (x : ScopeId). Contains (scope ∷ cond (nat_eq scope.0 0) [] (up all more (parent_in all scope))) x) here (first_of scope (cond (nat_eq scope.0 0) [] (up all more (parent_in all scope))))
  | inr there ↦ absurd (omega (arith, there.1))
]
up_more all (suc less) zero scope one le m = absurd (omega (arith, le))
up_more all (suc less) (suc more) scope one le m = elim (first_or_later scope (cond (nat_eq scope.0 0) [] (up all less (parent_in all scope))) one m) [
  | inl here ↦ subst (λ (x : ScopeId). Contains (scope ∷ cond (nat_eq scope.0 0) [] (up all more (parent_in all scope))) x) here (first_of scope (cond (nat_eq scope.0 0) [] (up all more (parent_in all scope))))
  | inr there ↦ later_of scope (cond (nat_eq scope.0 0) [] (up all more (parent_in all scope))) one (by (nat_eq scope.0 0) there (up_more all less more (parent_in all scope) one (omega (arith, le))))
]
  where
    by : (b : Bool) → Contains (cond b [] (up all less (parent_in all scope))) one → (Contains (up all less (parent_in all scope)) one → Contains (up all more (parent_in all scope)) one) → Contains (cond b [] (up all more (parent_in all scope))) one
    by true m further = m
    by false m further = further m

-- 7.3.4: what encloses both is further out
common_in : (all : List CxxFact) → AreHeld (scope_facts all) → (room : ℕ) (scope : ScopeId) (others : List ScopeId) → scope.0 ≤ room → scope.0 < length (scope_facts all) → Contains (up all room scope) (first_common all (chain all scope) others)
unfolding first_common
common_in all held room scope others le within = by (find test (chain all scope)) refl
  where
    test : ScopeId → Bool
    test one = is_space (kind_of all one) && holds_scope others one

    by : (o : Option ScopeId) → find test (chain all scope) ≡ o → Contains (up all room scope) (first_common all (chain all scope) others)
    by None e = rw e (unit_in all held room scope le within)
    by (Some one) e = rw e (up_more all scope.0 room scope one le (find_in test (chain all scope) one e))

-- and that is a namespace, or the unit
found_true : {A : Type 0} (test : A → Bool) (xs : List A) (x : A) → find test xs ≡ Some x → test x ≡ true
found_true test [] x e = absurd cc
found_true {A = A} test (y ∷ ys) x e = by (test y) refl e (found_true test ys x)
  where
    by : (b : Bool) → test y ≡ b → cond b (Some y) (find test ys) ≡ Some x → (find test ys ≡ Some x → test x ≡ true) → test x ≡ true
    by true is e later = subst (λ z. test z ≡ true) (same_Some y x e) is
    by false is e later = later e

space_plain : (all : List CxxFact) (scope : ScopeId) → is_space (kind_of all scope) ≡ true → class_of_scope all scope ≡ None
space_plain all scope is = class_by_kind all scope ∙ by (kind_of all scope) is
  where
    by : (o : Option ScopeKind) → is_space o ≡ true → class_in_kind o ≡ None
    by None is = refl
    by (Some scope_kind.Space) is = refl
    by (Some scope_kind.Parameters) is = refl
    by (Some (scope_kind.Block function)) is = refl
    by (Some (scope_kind.Class class)) is = absurd cc

common_plain : (all : List CxxFact) → UnitIsSpace all → (ones others : List ScopeId) → class_of_scope all (first_common all ones others) ≡ None
unfolding first_common
common_plain all unit ones others = by (find test ones) refl
  where
    test : ScopeId → Bool
    test one = is_space (kind_of all one) && holds_scope others one

    both : (a b : Bool) → (a && b) ≡ true → a ≡ true
    both true b e = refl
    both false b e = absurd cc

    unit_plain : class_of_scope all unit_scope ≡ None
    unit_plain = class_by_kind all unit_scope ∙ ap class_in_kind unit

    by : (o : Option ScopeId) → find test ones ≡ o → class_of_scope all (first_common all ones others) ≡ None
    by None e = rw e unit_plain
    by (Some one) e = rw e (space_plain all one (both (is_space (kind_of all one)) (holds_scope others one) (found_true test ones one e)))

-- ---- scopes without anything

abbrev Anything : ℕ → Type 0
Anything n = Unit {0}

-- a lookup that finds nothing has passed the first of its scopes
record IsPassed (graph : CxxGraph) (wanted : Wanted) (name : CxxName) (cut : ℕ) (shown : List Shown) (scope : ScopeId) (outer : List ScopeId) : Type 0 where
  none : class_of_scope graph.facts scope ≡ None → sightings_at graph cut wanted name (shown ++ shows graph.facts cut scope) scope ≡ []
  further : IsFirst graph wanted name cut (shown ++ shows graph.facts cut scope) outer found.Empty

passed : (graph : CxxGraph) (wanted : Wanted) (name : CxxName) (cut : ℕ) → AreSound graph.facts → (shown : List Shown) (scope : ScopeId) (outer : List ScopeId) (x : Found) → x ≡ found.Empty → IsFirst graph wanted name cut shown (scope ∷ outer) x → IsPassed graph wanted name cut shown scope outer
passed graph wanted name cut sound shown scope outer x e (Here _ _ _ _ is) = absurd (no_looked (subst (IsLooked Anything graph) e (in_scope Anything graph wanted name cut (shown ++ shows graph.facts cut scope) scope x sound (λ one are. record { meant = tt; first = λ n e. tt }) is)))
  where
    no_looked : IsLooked Anything graph found.Empty → ⊥
    no_looked is = by found.Empty refl is
      where
        by : (y : Found) → y ≡ found.Empty → IsLooked Anything graph y → ⊥
        by _ e (set_looked one others so) = absurd cc
        by _ e (two_looked one two so) = absurd cc
        by _ e (member_looked class one others path so) = absurd cc
        by _ e (clash_looked class one two) = absurd cc
passed graph wanted name cut sound shown scope outer x e (Outside _ _ _ _ none further) = record {
  none = λ plain. nothing_is_none graph wanted name cut (shown ++ shows graph.facts cut scope) scope plain none;
  further = subst (IsFirst graph wanted name cut (shown ++ shows graph.facts cut scope) outer) e further;
}

entry_none : (graph : CxxGraph) (wanted : Wanted) (name : CxxName) (cut : ℕ) (scope : ScopeId) (entries : List Shown) (entry : Shown) → standing_shown graph cut wanted name scope entries ≡ [] → Contains entries entry → entry.there ≡ scope → HasNone graph wanted name cut entry.space
unfolding standing_shown
entry_none graph wanted name cut scope [] entry e m at = absurd (omega (arith, m.1))
entry_none graph wanted name cut scope (one ∷ others) entry e m at = elim (first_or_later one others entry m) [
  | inl here ↦ let stands : same_scope one.there scope ≡ true = eq-eqb one.there.0 scope.0 (ap (λ (s : Shown). s.there.0) here ∙ ap (λ (s : ScopeId). s.0) at) in
      subst (λ (s : Shown). HasNone graph wanted name cut s.space) here (ap (λ (b : Bool). cond b (standing graph cut wanted name one.space) []) (sym stands) ∙ left_none (standing_if graph cut wanted name scope one) (standing_shown graph cut wanted name scope others) e)
  | inr there ↦ entry_none graph wanted name cut scope others entry (right_none (standing_if graph cut wanted name scope one) (standing_shown graph cut wanted name scope others) e) there at
]

-- what shows in one of the scopes has nothing
shown_none : (graph : CxxGraph) (wanted : Wanted) (name : CxxName) (cut : ℕ) → AreSound graph.facts → (scopes : List ScopeId) (shown : List Shown) → IsFirst graph wanted name cut shown scopes found.Empty → (entry : Shown) → class_of_scope graph.facts entry.there ≡ None → Contains shown entry → Contains scopes entry.there → HasNone graph wanted name cut entry.space
unfolding sightings_at
shown_none graph wanted name cut sound [] shown first entry plain m at = absurd (omega (arith, at.1))
shown_none graph wanted name cut sound (scope ∷ outer) shown first entry plain m at =
    let now = shown ++ shows graph.facts cut scope in
    let is = passed graph wanted name cut sound shown scope outer found.Empty refl first in
    let among = Contains-append_left shown (shows graph.facts cut scope) entry m in
    elim (first_or_later scope outer entry.there at) [
      | inl here ↦ entry_none graph wanted name cut scope now entry (right_none (standing graph cut wanted name scope) (standing_shown graph cut wanted name scope now) (is.none (subst (λ (one : ScopeId). class_of_scope graph.facts one ≡ None) (sym here) plain))) among (sym here)
      | inr there ↦ shown_none graph wanted name cut sound outer now is.further entry plain among there
    ]

-- what the directives of the first of them reach
reached_first : (graph : CxxGraph) (wanted : Wanted) (name : CxxName) (cut : ℕ) → AreSound graph.facts → UnitIsSpace graph.facts → (scope : ScopeId) (outer : List ScopeId) (shown : List Shown) → IsFirst graph wanted name cut shown (scope ∷ outer) found.Empty
    → ((others : List ScopeId) → Contains (scope ∷ outer) (first_common graph.facts (chain graph.facts scope) others)) → (space : ScopeId) → Contains (reached graph.facts cut scope) space → HasNone graph wanted name cut space
unfolding sightings_at shows
reached_first graph wanted name cut sound unit scope outer shown first at space is =
    let now = shown ++ shows graph.facts cut scope in
    let past = passed graph wanted name cut sound shown scope outer found.Empty refl first in
    let entry = shown_from graph.facts (chain graph.facts scope) space in
    let plain : class_of_scope graph.facts entry.there ≡ None = common_plain graph.facts unit (chain graph.facts scope) (chain graph.facts space) in
    let among : Contains now entry = Contains-append_right shown (shows graph.facts cut scope) entry (mapped_in (shown_from graph.facts (chain graph.facts scope)) (reached graph.facts cut scope) space is) in
    elim (first_or_later scope outer entry.there (at (chain graph.facts space))) [
      | inl here ↦ entry_none graph wanted name cut scope now entry (right_none (standing graph cut wanted name scope) (standing_shown graph cut wanted name scope now) (past.none (subst (λ (one : ScopeId). class_of_scope graph.facts one ≡ None) (sym here) plain))) among (sym here)
      | inr there ↦ shown_none graph wanted name cut sound outer now past.further entry plain among there
    ]

-- 7.3.4: nor has what a directive of one of them reaches
pub reached_none : (graph : CxxGraph) (wanted : Wanted) (name : CxxName) (cut : ℕ) → AreSound graph.facts → UnitIsSpace graph.facts → AreHeld (scope_facts graph.facts) → (room : ℕ) (scope : ScopeId) → scope.0 ≤ room → scope.0 < length (scope_facts graph.facts)
    → (shown : List Shown) → IsFirst graph wanted name cut shown (up graph.facts room scope) found.Empty → (one space : ScopeId) → Contains (up graph.facts room scope) one → Contains (reached graph.facts cut one) space → HasNone graph wanted name cut space
unfolding up
reached_none graph wanted name cut sound unit held zero scope le within shown first one space m is = by (first_or_later scope [] one m)
  where
    by : (scope ≡ one) ⊎ Contains [] one → HasNone graph wanted name cut space
    by (inl here) = reached_first graph wanted name cut sound unit scope [] shown first (λ others. common_in graph.facts held zero scope others le within) space (subst (λ (s : ScopeId). Contains (reached graph.facts cut s) space) (sym here) is)
    by (inr there) = absurd (omega (arith, there.1))
reached_none graph wanted name cut sound unit held (suc room) scope le within shown first one space m is =
    by (first_or_later scope (cond (nat_eq scope.0 0) [] (up graph.facts room (parent_in graph.facts scope))) one m) (passed graph wanted name cut sound shown scope (cond (nat_eq scope.0 0) [] (up graph.facts room (parent_in graph.facts scope))) found.Empty refl first).further
    (λ l w next there. reached_none graph wanted name cut sound unit held room (parent_in graph.facts scope) l w (shown ++ shows graph.facts cut scope) next one space there is)
  where
    below : ((parent_in graph.facts scope).0 ≤ room) × ((parent_in graph.facts scope).0 < length (scope_facts graph.facts))
    below = elim (parent_in_below graph.facts scope within held) [
      | inl none ↦ (omega (arith, none), omega (arith, none, within))
      | inr less ↦ (omega (arith, less, le), omega (arith, less, within))
    ]

    outward : (b : Bool) → Contains (cond b [] (up graph.facts room (parent_in graph.facts scope))) one → IsFirst graph wanted name cut (shown ++ shows graph.facts cut scope) (cond b [] (up graph.facts room (parent_in graph.facts scope))) found.Empty
        → ((parent_in graph.facts scope).0 ≤ room → (parent_in graph.facts scope).0 < length (scope_facts graph.facts) → IsFirst graph wanted name cut (shown ++ shows graph.facts cut scope) (up graph.facts room (parent_in graph.facts scope)) found.Empty → Contains (up graph.facts room (parent_in graph.facts scope)) one → HasNone graph wanted name cut space) → HasNone graph wanted name cut space
    outward true there next further = absurd (omega (arith, there.1))
    outward false there next further = further below.0 below.1 next there

    by : (scope ≡ one) ⊎ Contains (cond (nat_eq scope.0 0) [] (up graph.facts room (parent_in graph.facts scope))) one → IsFirst graph wanted name cut (shown ++ shows graph.facts cut scope) (cond (nat_eq scope.0 0) [] (up graph.facts room (parent_in graph.facts scope))) found.Empty
        → ((parent_in graph.facts scope).0 ≤ room → (parent_in graph.facts scope).0 < length (scope_facts graph.facts) → IsFirst graph wanted name cut (shown ++ shows graph.facts cut scope) (up graph.facts room (parent_in graph.facts scope)) found.Empty → Contains (up graph.facts room (parent_in graph.facts scope)) one → HasNone graph wanted name cut space) → HasNone graph wanted name cut space
    by (inl here) next further = reached_first graph wanted name cut sound unit scope (cond (nat_eq scope.0 0) [] (up graph.facts room (parent_in graph.facts scope))) shown first (λ others. common_in graph.facts held (suc room) scope others le within) space (subst (λ (s : ScopeId). Contains (reached graph.facts cut s) space) (sym here) is)
    by (inr there) next further = outward (nat_eq scope.0 0) there next further
