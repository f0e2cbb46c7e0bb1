-- Each scope is held by an earlier one (3.3), each namespace stands in the scope where it was opened first (7.3.1), and each
-- declaration names an earlier first one (3.5).
use Rattle.std.proofs.Common.{arith, ◌≡◌, ◌⊎◌, inl, inr, ℕ, zero, suc, ◌<◌, ◌≤◌, ◌+◌, Bool, true, false, List, [], ◌∷◌, ◌++◌, length, Option, Some, None, refl, sym, ap, subst, ◌∙◌}
use Rattle.std.specs.Prelude.{if◌then◌else◌}
use Rattle.std.specs.List.{slice_get}
use Rattle.std.proofs.lemmas.Bool.{eq-eqb, eqb-true}
use Rattle.std.proofs.lemmas.List.{append-nil, length-append}
use Rattle.std.proofs.lemmas.Option.{same_Some}
use Rattle.cxx_model.specs.declared.facts.Access.TheVariants.{Public}
use Rattle.cxx_model.specs.declared.facts.ScopeKind.{ScopeKind}
use Rattle.cxx_model.specs.declared.facts.ScopeKind.TheVariants as scope_kind
use Rattle.cxx_model.specs.declared.types.FactId.{FactId}
use Rattle.cxx_model.specs.Facts.Conflicts.{has_name, scope_facts}
use Rattle.cxx_model.specs.Facts.Declarations as facts
use Rattle.cxx_model.specs.Facts.Declarations.{CxxFact, CxxGraph, Declares, unnamed}
use Rattle.cxx_model.specs.Facts.Entities.{scope_kinds}
use Rattle.cxx_reading.specs.Declaring.{with_fact, at_scope, scope_count, place_of_scope}
use Rattle.cxx_reading.specs.Seen.{scope_of_option, parent_of}
use Rattle.cxx_reading.specs.Paths.{space_in}
use Rattle.cxx_reading.specs.Spaces.{first_opening, is_number}
use Rattle.cxx_reading.specs.State.{CxxState, first_state, unit_scope}

-- ---- scopes in a list of facts

scopes_last : (all : List CxxFact) (fact : CxxFact) → scope_facts (all ++ fact ∷ []) ≡ scope_facts all ++ scope_facts (fact ∷ [])
scopes_last [] fact = refl
scopes_last (x ∷ xs) fact = by x.what (scopes_last xs fact)
  where
    by : (what : Declares) → scope_facts (xs ++ fact ∷ []) ≡ scope_facts xs ++ scope_facts (fact ∷ []) → scope_facts (record x { what = what } ∷ (xs ++ fact ∷ [])) ≡ scope_facts (record x { what = what } ∷ xs) ++ scope_facts (fact ∷ [])
    by (facts.scope parent kind) e = ap (λ (fs : List CxxFact). record x { what = facts.scope parent kind } ∷ fs) e
    by _ e = e

pub scopes_counted : (all : List CxxFact) → length (scope_kinds all) ≡ length (scope_facts all)
scopes_counted [] = refl
scopes_counted (x ∷ xs) = by x.what (scopes_counted xs)
  where
    by : (what : Declares) → length (scope_kinds xs) ≡ length (scope_facts xs) → length (scope_kinds (record x { what = what } ∷ xs)) ≡ length (scope_facts (record x { what = what } ∷ xs))
    by (facts.scope parent kind) e = omega (arith, e)
    by _ e = e

-- the last of a list, or one before it
last_or_sooner : (xs : List CxxFact) (last : CxxFact) (n : ℕ) (fact : CxxFact) → slice_get (xs ++ last ∷ []) n ≡ Some fact → (slice_get xs n ≡ Some fact) ⊎ ((n ≡ length xs) × (last ≡ fact))
last_or_sooner [] last zero fact e = inr (refl, same_Some last fact e)
last_or_sooner [] last (suc n) fact e = absurd cc
last_or_sooner (x ∷ xs) last zero fact e = inl e
last_or_sooner (x ∷ xs) last (suc n) fact e = elim (last_or_sooner xs last n fact e) [
  | inl sooner ↦ inl sooner
  | inr here ↦ let at = here.0 in inr (omega (arith, at), here.1)
]

-- what stands in a list stands there with more behind it
pub still_there : {A : Type 0} (xs ys : List A) (n : ℕ) (x : A) → slice_get xs n ≡ Some x → slice_get (xs ++ ys) n ≡ Some x
still_there [] ys n x e = absurd cc
still_there (y ∷ xs) ys zero x e = e
still_there (y ∷ xs) ys (suc n) x e = still_there xs ys n x e

-- the last of a list, or one before it, of a list of anything
last_or_before : {A : Type 0} (xs : List A) (last : A) (n : ℕ) (x : A) → slice_get (xs ++ last ∷ []) n ≡ Some x → (slice_get xs n ≡ Some x) ⊎ (last ≡ x)
last_or_before [] last zero x e = inr (same_Some last x e)
last_or_before [] last (suc n) x e = absurd cc
last_or_before (y ∷ xs) last zero x e = inl e
last_or_before (y ∷ xs) last (suc n) x e = last_or_before xs last n x e

pub scopes_beside : (xs ys : List CxxFact) → scope_facts (xs ++ ys) ≡ scope_facts xs ++ scope_facts ys
scopes_beside [] ys = refl
scopes_beside (x ∷ xs) ys = by x.what (scopes_beside xs ys)
  where
    by : (what : Declares) → scope_facts (xs ++ ys) ≡ scope_facts xs ++ scope_facts ys → scope_facts (record x { what = what } ∷ (xs ++ ys)) ≡ scope_facts (record x { what = what } ∷ xs) ++ scope_facts ys
    by (facts.scope parent kind) e = ap (λ (fs : List CxxFact). record x { what = facts.scope parent kind } ∷ fs) e
    by _ e = e

-- the kinds of scopes, with more facts behind
kinds_beside : (xs ys : List CxxFact) → scope_kinds (xs ++ ys) ≡ scope_kinds xs ++ scope_kinds ys
kinds_beside [] ys = refl
kinds_beside (x ∷ xs) ys = by x.what (kinds_beside xs ys)
  where
    by : (what : Declares) → scope_kinds (xs ++ ys) ≡ scope_kinds xs ++ scope_kinds ys → scope_kinds (record x { what = what } ∷ (xs ++ ys)) ≡ scope_kinds (record x { what = what } ∷ xs) ++ scope_kinds ys
    by (facts.scope parent kind) e = ap (λ (kinds : List ScopeKind). kind ∷ kinds) e
    by _ e = e

-- 3.3.5: the scope of the unit is that of a namespace
abbrev pub UnitIsSpace : List CxxFact → Type 0
UnitIsSpace all = slice_get (scope_kinds all) 0 ≡ Some scope_kind.Space

unit_still : (xs ys : List CxxFact) → UnitIsSpace xs → UnitIsSpace (xs ++ ys)
unit_still xs ys is = ap (λ (kinds : List ScopeKind). slice_get kinds 0) (kinds_beside xs ys) ∙ still_there (scope_kinds xs) (scope_kinds ys) 0 scope_kind.Space is

-- ---- what facts say

-- 3: the first declaration of an entity is one
abbrev pub IsFirstThere : ℕ → Option FactId → Type 0
IsFirstThere count None = Unit {0}
IsFirstThere count (Some first) = first.0 < count

-- nothing is declared but what is read so far, and no template
abbrev pub IsSound : List CxxFact → Declares → Type 0
IsSound all (facts.scope parent kind) = Unit {0}
IsSound all (facts.injected class) = Unit {0}
IsSound all (facts.complete class) = Unit {0}
IsSound all (facts.object of member is_mutable value first) = IsFirstThere (length all) first
IsSound all (facts.function of member flags defaults first) = IsFirstThere (length all) first
IsSound all (facts.class n is_union) = Unit {0}
IsSound all (facts.enumeration n) = Unit {0}
IsSound all (facts.enumerator n value) = Unit {0}
IsSound all (facts.synonym of) = Unit {0}
IsSound all (facts.namespace inner) = inner.0 < length (scope_facts all)
IsSound all (facts.directive nominated) = Unit {0}
IsSound all (facts.using target) = target.0 < length all
IsSound all (facts.ancestor derived base position access) = Unit {0}
IsSound all (facts.friend class target) = Unit {0}
IsSound all _ = ⊥

abbrev pub AreSound : List CxxFact → Type 0
AreSound all = (n : ℕ) (fact : CxxFact) → slice_get all n ≡ Some fact → IsSound all fact.what

first_still : (count more : ℕ) → count ≤ more → (first : Option FactId) → IsFirstThere count first → IsFirstThere more first
first_still count more le None is = tt
first_still count more le (Some first) is = omega (arith, le, is)

length_more : (xs : List CxxFact) (x : CxxFact) → length xs ≤ length (xs ++ x ∷ [])
length_more xs x = let e = length-append xs (x ∷ []) in omega (arith, e)

scopes_length : (xs : List CxxFact) (x : CxxFact) → length (scope_facts xs) ≤ length (scope_facts (xs ++ x ∷ []))
scopes_length xs x = let e = ap (λ (fs : List CxxFact). length fs) (scopes_beside xs (x ∷ [])) in let f = length-append (scope_facts xs) (scope_facts (x ∷ [])) in omega (arith, e, f)

sound_still : (xs : List CxxFact) (x : CxxFact) (what : Declares) → IsSound xs what → IsSound (xs ++ x ∷ []) what
sound_still xs x (facts.scope parent kind) is = tt
sound_still xs x (facts.object of member is_mutable value first) is = first_still (length xs) (length (xs ++ x ∷ [])) (length_more xs x) first is
sound_still xs x (facts.function of member flags defaults first) is = first_still (length xs) (length (xs ++ x ∷ [])) (length_more xs x) first is
sound_still xs x (facts.class n is_union) is = tt
sound_still xs x (facts.enumeration n) is = tt
sound_still xs x (facts.enumerator n value) is = tt
sound_still xs x (facts.synonym of) is = tt
sound_still xs x (facts.namespace inner) is = let more = scopes_length xs x in omega (arith, is, more)
sound_still xs x (facts.directive nominated) is = tt
sound_still xs x (facts.using target) is = let more = length_more xs x in omega (arith, is, more)
sound_still xs x (facts.template _ _ _ _ _) is = absurd is
sound_still xs x (facts.value_parameter _ _ _) is = absurd is
sound_still xs x (facts.injected _) is = tt
sound_still xs x (facts.complete _) is = tt
sound_still xs x (facts.passed _) is = absurd is
sound_still xs x (facts.ancestor _ _ _ _) is = tt
sound_still xs x (facts.friend _ _) is = tt

sound_more : (xs : List CxxFact) (last : CxxFact) → AreSound xs → IsSound xs last.what → AreSound (xs ++ last ∷ [])
sound_more xs last are is n fact e = elim (last_or_before xs last n fact e) [
  | inl sooner ↦ sound_still xs last fact.what (are n fact sooner)
  | inr here ↦ subst (λ (f : CxxFact). IsSound (xs ++ last ∷ []) f.what) here (sound_still xs last last.what is)
]

-- ---- where namespaces stand

-- the scope that holds one, in a list of scopes
abbrev pub round_of : List CxxFact → ℕ → ℕ
round_of all scope = scope_of_option scope (slice_get (scope_facts all) scope)

-- 7.3.1: a namespace stands in the scope of its first opening, and one without a name in that of each of them
abbrev pub AreOpened : List CxxFact → Type 0
AreOpened all = (inner : ℕ) (first : CxxFact) → first_opening inner all ≡ Some first → round_of all inner ≡ first.scope

abbrev pub AreUnnamed : List CxxFact → Type 0
AreUnnamed all = (n inner : ℕ) (fact : CxxFact) → slice_get all n ≡ Some fact → has_name fact.name ≡ false → space_in fact.what ≡ Some inner → round_of all inner ≡ fact.scope

-- a further declaration of a namespace with a name
pub record IsFurther (all : List CxxFact) (fact : CxxFact) (inner : ℕ) : Type 0 where
  pub named : has_name fact.name ≡ true
  pub first : CxxFact
  pub opened : first_opening inner all ≡ Some first

-- a new fact that a list may have behind it
pub record MayStand (all : List CxxFact) (fact : CxxFact) : Type 0 where
  pub sound : IsSound all fact.what
  pub placed : (inner : ℕ) → space_in fact.what ≡ Some inner → (round_of all inner ≡ fact.scope) ⊎ IsFurther all fact inner

-- what is no namespace
pub may_stand : (all : List CxxFact) (fact : CxxFact) → space_in fact.what ≡ None → IsSound all fact.what → MayStand all fact
may_stand all fact none is = record { sound = is; placed = λ inner e. absurd (no_some inner (sym none ∙ e)) }
  where
    no_some : (inner : ℕ) → None ≡ Some inner → ⊥
    no_some inner e = cc

pub none_is_past : (scopes : List CxxFact) (scope : ℕ) → scope < length scopes → slice_get scopes scope ≡ None → ⊥
none_is_past [] scope within none = absurd (omega (arith, within))
none_is_past (x ∷ xs) zero within none = absurd cc
none_is_past (x ∷ xs) (suc scope) within none = none_is_past xs scope (omega (arith, within)) none

within_of : (all : List CxxFact) (n : ℕ) → n < length (scope_facts all) → (fact : CxxFact) × (slice_get (scope_facts all) n ≡ Some fact)
within_of all n within = by (slice_get (scope_facts all) n) refl
  where
    by : (o : Option CxxFact) → slice_get (scope_facts all) n ≡ o → (fact : CxxFact) × (slice_get (scope_facts all) n ≡ Some fact)
    by None none = absurd (none_is_past (scope_facts all) n within none)
    by (Some fact) is = (fact, is)

-- the scope round one is the same with more behind
pub round_still : (xs ys : List CxxFact) (n : ℕ) → n < length (scope_facts xs) → round_of (xs ++ ys) n ≡ round_of xs n
round_still xs ys n within =
    let one = within_of xs n within in
    let there : slice_get (scope_facts (xs ++ ys)) n ≡ Some one.0 = ap (λ (fs : List CxxFact). slice_get fs n) (scopes_beside xs ys) ∙ still_there (scope_facts xs) (scope_facts ys) n one.0 one.1 in
    ap (scope_of_option n) (there ∙ sym one.1)

-- the first opening of some
pub opened_of : (all : List CxxFact) (n inner : ℕ) (fact : CxxFact) → slice_get all n ≡ Some fact → space_in fact.what ≡ Some inner → (first : CxxFact) × (first_opening inner all ≡ Some first)
opened_of [] n inner fact e is = absurd cc
opened_of (x ∷ xs) n inner fact e is = by (is_number inner (space_in x.what)) refl n e (λ m e. opened_of xs m inner fact e is)
  where
    same : (m : ℕ) → is_number m (Some m) ≡ true
    same m = eq-eqb m m refl

    by : (b : Bool) → is_number inner (space_in x.what) ≡ b → (n : ℕ) → slice_get (x ∷ xs) n ≡ Some fact → ((m : ℕ) → slice_get xs m ≡ Some fact → (first : CxxFact) × (first_opening inner xs ≡ Some first)) → (first : CxxFact) × ((if b then Some x else first_opening inner xs) ≡ Some first)
    by true is_one n e later = (x, refl)
    by false is_no zero e later = absurd (no_both (sym is_no ∙ (ap (λ (f : CxxFact). is_number inner (space_in f.what)) (same_Some x fact e) ∙ (ap (is_number inner) is ∙ same inner))))
      where
        no_both : false ≡ true → ⊥
        no_both e = cc
    by false is_no (suc n) e later = later n e

-- with one more behind, the first opening is the same, or that one
data FirstOf (inner : ℕ) (xs : List CxxFact) (last first : CxxFact) : Type 0 where
  opened_before : first_opening inner xs ≡ Some first → FirstOf inner xs last first
  opened_last : last ≡ first → space_in last.what ≡ Some inner → first_opening inner xs ≡ None → FirstOf inner xs last first

number_is : (inner : ℕ) (o : Option ℕ) → is_number inner o ≡ true → o ≡ Some inner
number_is inner None e = absurd cc
number_is inner (Some m) e = ap Some (eqb-true m inner e)

first_of_more : (inner : ℕ) (xs : List CxxFact) (last first : CxxFact) → first_opening inner (xs ++ last ∷ []) ≡ Some first → FirstOf inner xs last first
first_of_more inner [] last first e = by (is_number inner (space_in last.what)) refl e
  where
    by : (b : Bool) → is_number inner (space_in last.what) ≡ b → (if b then Some last else None) ≡ Some first → FirstOf inner [] last first
    by true is e = opened_last (same_Some last first e) (number_is inner (space_in last.what) is) refl
    by false is e = absurd cc
first_of_more inner (x ∷ xs) last first e = by (is_number inner (space_in x.what)) refl e (first_of_more inner xs last first)
  where
    further : is_number inner (space_in x.what) ≡ false → FirstOf inner xs last first → FirstOf inner (x ∷ xs) last first
    further is_no (opened_before is) = opened_before (ap (λ (b : Bool). if b then Some x else first_opening inner xs) is_no ∙ is)
    further is_no (opened_last is space none) = opened_last is space (ap (λ (b : Bool). if b then Some x else first_opening inner xs) is_no ∙ none)

    by : (b : Bool) → is_number inner (space_in x.what) ≡ b → (if b then Some x else first_opening inner (xs ++ last ∷ [])) ≡ Some first → (first_opening inner (xs ++ last ∷ []) ≡ Some first → FirstOf inner xs last first) → FirstOf inner (x ∷ xs) last first
    by true is e later = opened_before (ap (λ (b : Bool). if b then Some x else first_opening inner xs) is ∙ e)
    by false is e later = further is (later e)

-- ---- scopes in a state

-- the scope of the unit holds itself, and each other one is held by an earlier one
abbrev pub AreHeld : List CxxFact → Type 0
AreHeld scopes = (n : ℕ) (fact : CxxFact) → slice_get scopes n ≡ Some fact → (fact.scope ≡ 0) ⊎ (fact.scope < n)

pub record InScopes (state : CxxState) : Type 0 where
  pub within : state.here.scope < length (scope_facts state.graph.facts)
  pub held : AreHeld (scope_facts state.graph.facts)
  pub sound : AreSound state.graph.facts
  pub opened : AreOpened state.graph.facts
  pub unnamed : AreUnnamed state.graph.facts
  pub unit : UnitIsSpace state.graph.facts
  -- clause 14: there are no templates
  pub patterns : state.graph.patterns ≡ []

-- by the facts and the scope in which the reader stands
abbrev StandsIn : List CxxFact → ℕ → Type 0
StandsIn all scope = scope < length (scope_facts all)

pub scopes_same : (old new : CxxState) → new.graph ≡ old.graph → new.here.scope ≡ old.here.scope → InScopes old → InScopes new
scopes_same old new graph here is =
    let all = sym (ap (λ (g : CxxGraph). g.facts) graph) in
    record {
      within = subst (λ (fs : List CxxFact). StandsIn fs new.here.scope) all (subst (StandsIn old.graph.facts) (sym here) is.within);
      held = subst (λ (fs : List CxxFact). AreHeld (scope_facts fs)) all is.held;
      sound = subst AreSound all is.sound;
      opened = subst AreOpened all is.opened;
      unnamed = subst AreUnnamed all is.unnamed;
      unit = subst UnitIsSpace all is.unit;
      patterns = ap (λ (g : CxxGraph). g.patterns) graph ∙ is.patterns;
    }

held_last : (scopes : List CxxFact) (last : CxxFact) → last.scope < length scopes → AreHeld scopes → AreHeld (scopes ++ last ∷ [])
held_last scopes last below held n fact e = elim (last_or_sooner scopes last n fact e) [
  | inl sooner ↦ held n fact sooner
  | inr here ↦ let at = here.0 in let same = ap (λ (f : CxxFact). f.scope) here.1 in inr (omega (arith, at, same, below))
]

-- the scopes with one more fact in one of them
held_more : (all : List CxxFact) (fact : CxxFact) → fact.scope < length (scope_facts all) → AreHeld (scope_facts all) → AreHeld (scope_facts (all ++ fact ∷ []))
held_more all fact below held = subst AreHeld (sym (scopes_last all fact)) (by fact.what)
  where
    by : (what : Declares) → AreHeld (scope_facts all ++ scope_facts (record fact { what = what } ∷ []))
    by (facts.scope parent kind) = held_last (scope_facts all) (record fact { what = facts.scope parent kind }) below held
    by _ = subst AreHeld (sym (append-nil (scope_facts all))) held

-- a namespace of the list
pub space_within : (all : List CxxFact) (what : Declares) (inner : ℕ) → IsSound all what → space_in what ≡ Some inner → inner < length (scope_facts all)
space_within all (facts.namespace one) inner is e = subst (λ (n : ℕ). n < length (scope_facts all)) (same_Some one.0 inner e) is
space_within all (facts.scope _ _) inner is e = absurd cc
space_within all (facts.object _ _ _ _ _) inner is e = absurd cc
space_within all (facts.function _ _ _ _ _) inner is e = absurd cc
space_within all (facts.enumeration _) inner is e = absurd cc
space_within all (facts.enumerator _ _) inner is e = absurd cc
space_within all (facts.synonym _) inner is e = absurd cc
space_within all (facts.directive _) inner is e = absurd cc
space_within all _ inner is e = absurd cc

-- a first opening is one of the list
opening_of : (inner : ℕ) (xs : List CxxFact) (first : CxxFact) → first_opening inner xs ≡ Some first → (n : ℕ) × (slice_get xs n ≡ Some first) × (space_in first.what ≡ Some inner)
opening_of inner [] first e = absurd cc
opening_of inner (x ∷ xs) first e = by (is_number inner (space_in x.what)) refl e (opening_of inner xs first)
  where
    by : (b : Bool) → is_number inner (space_in x.what) ≡ b → (if b then Some x else first_opening inner xs) ≡ Some first → (first_opening inner xs ≡ Some first → (n : ℕ) × (slice_get xs n ≡ Some first) × (space_in first.what ≡ Some inner)) → (n : ℕ) × (slice_get (x ∷ xs) n ≡ Some first) × (space_in first.what ≡ Some inner)
    by true is e later = (0, e, subst (λ (f : CxxFact). space_in f.what ≡ Some inner) (same_Some x first e) (number_is inner (space_in x.what) is))
    by false is e later = let one = later e in (suc one.0, one.1, one.2)

pub opened_within : (all : List CxxFact) (inner : ℕ) (first : CxxFact) → AreSound all → first_opening inner all ≡ Some first → inner < length (scope_facts all)
opened_within all inner first sound e = let one = opening_of inner all first e in space_within all first.what inner (sound one.0 first one.1) one.2

opened_more : (all : List CxxFact) (fact : CxxFact) → AreSound all → MayStand all fact → AreOpened all → AreOpened (all ++ fact ∷ [])
opened_more all fact sound may are inner first e = by (first_of_more inner all fact first e)
  where
    by : FirstOf inner all fact first → round_of (all ++ fact ∷ []) inner ≡ first.scope
    by (opened_before is) = round_still all (fact ∷ []) inner (opened_within all inner first sound is) ∙ are inner first is
    by (opened_last is space none) = elim (may.placed inner space) [
      | inl here ↦ round_still all (fact ∷ []) inner (space_within all fact.what inner may.sound space) ∙ (here ∙ ap (λ (f : CxxFact). f.scope) is)
      | inr further ↦ absurd (no_first further.first (sym none ∙ further.opened))
    ]
      where
        no_first : (one : CxxFact) → None ≡ Some one → ⊥
        no_first one e = cc

unnamed_more : (all : List CxxFact) (fact : CxxFact) → AreSound all → MayStand all fact → AreUnnamed all → AreUnnamed (all ++ fact ∷ [])
unnamed_more all fact sound may are n inner one e no_name space = elim (last_or_before all fact n one e) [
  | inl sooner ↦ round_still all (fact ∷ []) inner (space_within all one.what inner (sound n one sooner) space) ∙ are n inner one sooner no_name space
  | inr here ↦ let own = subst (λ (f : CxxFact). space_in f.what ≡ Some inner) (sym here) space in
      round_still all (fact ∷ []) inner (space_within all fact.what inner may.sound own) ∙ (stands (subst (λ (f : CxxFact). has_name f.name ≡ false) (sym here) no_name) (may.placed inner own) ∙ ap (λ (f : CxxFact). f.scope) here)
]
  where
    no_both : false ≡ true → ⊥
    no_both e = cc

    stands : has_name fact.name ≡ false → (round_of all inner ≡ fact.scope) ⊎ IsFurther all fact inner → round_of all inner ≡ fact.scope
    stands none (inl is) = is
    stands none (inr further) = absurd (no_both (sym none ∙ further.named))

-- a fact behind which each scope is held
scopes_so : (state : CxxState) (fact : CxxFact) → AreHeld (scope_facts (state.graph.facts ++ fact ∷ [])) → MayStand state.graph.facts fact → InScopes state → InScopes (with_fact fact state)
scopes_so state fact held may is =
    let all = state.graph.facts in
    let within = is.within in
    let more = scopes_length all fact in
    record {
      within = omega (arith, within, more);
      held = held;
      sound = sound_more all fact is.sound may.sound;
      opened = opened_more all fact is.sound may is.opened;
      unnamed = unnamed_more all fact is.sound may is.unnamed;
      unit = unit_still all (fact ∷ []) is.unit;
      patterns = is.patterns;
    }

-- a fact in a scope
pub scopes_put : (state : CxxState) (fact : CxxFact) → fact.scope < length (scope_facts state.graph.facts) → MayStand state.graph.facts fact → InScopes state → InScopes (with_fact fact state)
scopes_put state fact there may is = scopes_so state fact (held_more state.graph.facts fact there is.held) may is

-- one with which no scope begins, wherever it stands
pub scopes_beside_it : (state : CxxState) (fact : CxxFact) → scope_facts (fact ∷ []) ≡ [] → MayStand state.graph.facts fact → InScopes state → InScopes (with_fact fact state)
scopes_beside_it state fact none may is = scopes_so state fact (subst AreHeld (sym same) is.held) may is
  where
    same : scope_facts (state.graph.facts ++ fact ∷ []) ≡ scope_facts state.graph.facts
    same = scopes_last state.graph.facts fact ∙ (ap (λ (fs : List CxxFact). scope_facts state.graph.facts ++ fs) none ∙ append-nil (scope_facts state.graph.facts))

-- one in the scope where the reader stands
pub scopes_added : (state : CxxState) (fact : CxxFact) → fact.scope ≡ state.here.scope → MayStand state.graph.facts fact → InScopes state → InScopes (with_fact fact state)
scopes_added state fact here may is = scopes_put state fact (subst (λ (n : ℕ). n < length (scope_facts state.graph.facts)) (sym here) is.within) may is

-- 3.3.2: a scope of parameters, or a block, where the reader stands
abbrev pub scope_within : ScopeKind → CxxState → CxxFact
scope_within kind state = record {
  place = place_of_scope state.graph state.here.scope;
  scope = state.here.scope;
  name = unnamed;
  access = Public;
  what = facts.scope (Some (record { 0 = state.here.scope })) kind;
}

-- it begins, and the reader stands in it then
abbrev pub entered : ScopeKind → CxxState → CxxState
entered kind state = at_scope (scope_count state.graph) (with_fact (scope_within kind state) state)

-- the reader stands in another scope that there is
pub scopes_at : (scope : ℕ) (state : CxxState) → scope < scope_count state.graph → InScopes state → InScopes (at_scope scope state)
scopes_at scope state there is =
    let counted = scopes_counted state.graph.facts in
    record { within = omega (arith, counted, there); held = is.held; sound = is.sound; opened = is.opened; unnamed = is.unnamed; unit = is.unit; patterns = is.patterns }

pub scopes_entered : (kind : ScopeKind) (state : CxxState) → InScopes state → InScopes (entered kind state)
scopes_entered kind state is =
    let last = scope_within kind state in
    let more : length (scope_facts (state.graph.facts ++ last ∷ [])) ≡ length (scope_facts state.graph.facts) + 1 = ap (λ (fs : List CxxFact). length fs) (scopes_last state.graph.facts last) ∙ length-append (scope_facts state.graph.facts) (last ∷ []) in
    let counted = scopes_counted state.graph.facts in
    let now = scopes_counted (state.graph.facts ++ last ∷ []) in
    scopes_at (scope_count state.graph) (with_fact last state) (omega (arith, more, counted, now)) (scopes_added state last refl (may_stand state.graph.facts last refl tt) is)

pub scope_is_there : (state : CxxState) → InScopes state → state.here.scope < scope_count state.graph
scope_is_there state is =
    let counted = scopes_counted state.graph.facts in
    let within = is.within in
    omega (arith, counted, within)

-- the scope that holds another
pub parent_below : (scopes : List CxxFact) (scope : ℕ) → scope < length scopes → AreHeld scopes → (scope_of_option scope (slice_get scopes scope) ≡ 0) ⊎ (scope_of_option scope (slice_get scopes scope) < scope)
parent_below scopes scope within held = by (slice_get scopes scope) refl
  where
    by : (o : Option CxxFact) → slice_get scopes scope ≡ o → (scope_of_option scope o ≡ 0) ⊎ (scope_of_option scope o < scope)
    by None none = absurd (none_is_past scopes scope within none)
    by (Some fact) is = held scope fact is

-- 3.3: it ends, and the reader stands in the scope round it
pub scopes_left : (state : CxxState) → InScopes state → InScopes (at_scope (parent_of state.graph state.here.scope) state)
scopes_left state is =
    let scopes = scope_facts state.graph.facts in
    let within = is.within in
    let counted = scopes_counted state.graph.facts in
    scopes_at (parent_of state.graph state.here.scope) state (elim (parent_below scopes state.here.scope is.within is.held) [
      | inl none ↦ omega (arith, none, within, counted)
      | inr below ↦ omega (arith, below, within, counted)
    ]) is

pub scopes_first : InScopes first_state
scopes_first = record { within = omega arith; held = held; sound = sound; opened = opened; unnamed = none_unnamed; unit = refl; patterns = refl }
  where
    held : AreHeld (scope_facts first_state.graph.facts)
    held zero fact e = inl (sym (ap (λ (o : Option CxxFact). scope_of_option 0 o) e))
    held (suc n) fact e = absurd cc

    sound : AreSound first_state.graph.facts
    sound zero fact e = subst (λ (f : CxxFact). IsSound first_state.graph.facts f.what) (same_Some unit_scope fact e) tt
    sound (suc n) fact e = absurd cc

    opened : AreOpened first_state.graph.facts
    opened inner first e = absurd cc

    none_unnamed : AreUnnamed first_state.graph.facts
    none_unnamed zero inner fact e no_name space = absurd (no_space (subst (λ (f : CxxFact). space_in f.what ≡ Some inner) (sym (same_Some unit_scope fact e)) space))
      where
        no_space : space_in unit_scope.what ≡ Some inner → ⊥
        no_space e = cc
    none_unnamed (suc n) inner fact e no_name space = absurd cc
