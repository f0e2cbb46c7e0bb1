-- Enumerations and classes by their numbers, one declaration after another.
use Rattle.std.proofs.Common.{◌≡◌, ℕ, zero, suc, ◌+◌, Bool, true, false, cond, eqb, List, [], ◌∷◌, length, drop, Option, Some, None, refl, ap, sym, ◌∙◌, add-one, arith}
use Rattle.std.specs.List.{slice_get}
use Rattle.std.proofs.lemmas.List.{at_drop_all}
use Rattle.cxx_model.specs.declared.facts.Access.{Access}
use Rattle.cxx_model.specs.declared.facts.Fact.{Fact}
use Rattle.cxx_model.specs.declared.place.Place.{Place}
use Rattle.cxx_model.specs.declared.types.FactId.{FactId}
use Rattle.cxx_model.specs.Types.Trees.{CxxType}
use Rattle.cxx_model.specs.Facts.Declarations as facts
use Rattle.cxx_model.specs.Facts.Declarations.{CxxFact, CxxName, Declares, fact_at, facts_at}
use Rattle.cxx_meaning.specs.Lookups.Gathered.{before, gathered}
use Rattle.cxx_reading.specs.Plain.{number_of_enumeration}
use Rattle.cxx_reading.specs.TextOrder.{enumerators_of, is_enumerator_of}
use Rattle.cxx_form.specs.Giving.{declared_or, enumerator_given, holder_by, if_held, named_by, AreDeclared, AreFirst, HasDeclared, HasFirst, HasNamed}
use Rattle.cxx_form.specs.Lines.{number_in, numbers_in}
use Rattle.cxx_form.specs.Order.{class_in, named_or, number_of_class}
use Rattle.cxx_form.specs.Slots.{slot_at}

-- ---- where enumerations are declared

next_by : (n number : ℕ) (place : Place) (scope : ℕ) (name : CxxName) (rights : Access) (what : Declares) (others : List CxxFact) → number_of_enumeration n number (record { place = place; scope = scope; name = name; access = rights; what = what } ∷ others) ≡ named_or n number (named_by what) (number_of_enumeration n (suc number) others)
next_by n number place scope name rights (facts.scope parent kind) others = refl
next_by n number place scope name rights (facts.object of member is_mutable value first) others = refl
next_by n number place scope name rights (facts.function of member flags defaults first) others = refl
next_by n number place scope name rights (facts.template template member defaults is_explicit first) others = refl
next_by n number place scope name rights (facts.value_parameter depth index of) others = refl
next_by n number place scope name rights (facts.injected class) others = refl
next_by n number place scope name rights (facts.class class is_union) others = refl
next_by n number place scope name rights (facts.complete class) others = refl
next_by n number place scope name rights (facts.passed class) others = refl
next_by n number place scope name rights (facts.ancestor class parent index access) others = refl
next_by n number place scope name rights (facts.enumeration m) others = refl
next_by n number place scope name rights (facts.enumerator m value) others = refl
next_by n number place scope name rights (facts.synonym of) others = refl
next_by n number place scope name rights (facts.namespace inner) others = refl
next_by n number place scope name rights (facts.directive nominated) others = refl
next_by n number place scope name rights (facts.using target) others = refl
next_by n number place scope name rights (facts.friend class target) others = refl

next_named : (n number : ℕ) (fact : CxxFact) (others : List CxxFact) → number_of_enumeration n number (fact ∷ others) ≡ named_or n number (named_by fact.what) (number_of_enumeration n (number + 1) others)
next_named n number fact others = next_by n number fact.place fact.scope fact.name fact.access fact.what others ∙ ap (λ m. named_or n number (named_by fact.what) (number_of_enumeration n m others)) (sym (add-one number))

-- with one declaration more, by what it names
named_on : (find : ℕ → ℕ → List CxxFact → ℕ) (by : Declares → Option ℕ) → ((n number : ℕ) (fact : CxxFact) (others : List CxxFact) → find n number (fact ∷ others) ≡ named_or n number (by fact.what) (find n (number + 1) others))
    → (types : List CxxType) (all : List Fact) (number : ℕ) (fact : Fact) (old new : List ℕ) (named : Option ℕ) → slice_get (facts_at types all) number ≡ Some (fact_at types fact) → named ≡ by (fact_at types fact).what → HasNamed old new number named
    → (n : ℕ) → declared_or (slot_at new n) (find n (number + 1) (facts_at types (drop (number + 1) all))) ≡ declared_or (slot_at old n) (find n number (facts_at types (drop number all)))
named_on find by next types all number fact old new named at is has n =
    let rest : ℕ = find n (number + 1) (facts_at types (drop (number + 1) all)) in
    let first : find n number (facts_at types (drop number all)) ≡ named_or n number (by (fact_at types fact).what) rest = ap (find n number) (first_is types all number fact at ∙ ap (λ m. fact_at types fact ∷ facts_at types (drop m all)) (sym (add-one number))) ∙ next n number (fact_at types fact) (facts_at types (drop (number + 1) all)) in
    has n rest ∙ ap (λ o. declared_or (slot_at old n) (named_or n number o rest)) is ∙ ap (declared_or (slot_at old n)) (sym first)
  where
    first_is : (types : List CxxType) (all : List Fact) (number : ℕ) (fact : Fact) → slice_get (facts_at types all) number ≡ Some (fact_at types fact) → facts_at types (drop number all) ≡ fact_at types fact ∷ facts_at types (drop (suc number) all)
    first_is types [] number fact at = cc
    first_is types (f ∷ fs) zero fact at = (let same : fact_at types f ≡ fact_at types fact = cc in ap (λ (x : CxxFact). x ∷ facts_at types fs) same)
    first_is types (f ∷ fs) (suc number) fact at = first_is types fs number fact at

pub named_at : (types : List CxxType) (all : List Fact) (number : ℕ) (fact : Fact) (old new : List ℕ) (named : Option ℕ) → slice_get (facts_at types all) number ≡ Some (fact_at types fact) → named ≡ named_by (fact_at types fact).what → HasNamed old new number named → HasDeclared old new number (facts_at types (drop number all)) (facts_at types (drop (number + 1) all))
named_at = named_on number_of_enumeration named_by next_named

pub length_facts : (types : List CxxType) (all : List Fact) → length (facts_at types all) ≡ length all
length_facts types [] = refl
length_facts types (f ∷ fs) = ap (λ n. suc n) (length_facts types fs)

-- behind the last one
all_on : (find : ℕ → ℕ → List CxxFact → ℕ) → ((n number : ℕ) → find n number [] ≡ number) → (types : List CxxType) (all : List Fact) (number : ℕ) (slots : List ℕ) → length all ≡ number
    → ((n : ℕ) → declared_or (slot_at slots n) (find n number (facts_at types (drop number all))) ≡ find n 0 (facts_at types all)) → (n : ℕ) → declared_or (slot_at slots n) (length (facts_at types all)) ≡ find n 0 (facts_at types all)
all_on find ends types all number slots past are n =
    ap (declared_or (slot_at slots n)) (length_facts types all ∙ past ∙ sym (at_drop_all (λ fs. find n number (facts_at types fs)) all number (omega arith) ∙ ends n number)) ∙ are n

pub all_named : (types : List CxxType) (all : List Fact) (number : ℕ) (slots : List ℕ) → length all ≡ number → ((n : ℕ) → declared_or (slot_at slots n) (number_of_enumeration n number (facts_at types (drop number all))) ≡ number_of_enumeration n 0 (facts_at types all)) → AreDeclared (facts_at types all) slots
all_named = all_on number_of_enumeration (λ n number. refl)

-- ---- where classes are declared first

next_class : (n number : ℕ) (fact : CxxFact) (others : List CxxFact) → number_of_class n number (fact ∷ others) ≡ named_or n number (class_in fact.what) (number_of_class n (number + 1) others)
next_class n number fact others = ap (λ m. named_or n number (class_in fact.what) (number_of_class n m others)) (sym (add-one number))

pub class_at : (types : List CxxType) (all : List Fact) (number : ℕ) (fact : Fact) (old new : List ℕ) (class : Option ℕ) → slice_get (facts_at types all) number ≡ Some (fact_at types fact) → class ≡ class_in (fact_at types fact).what → HasNamed old new number class → HasFirst old new number (facts_at types (drop number all)) (facts_at types (drop (number + 1) all))
class_at = named_on number_of_class class_in next_class

pub all_first : (types : List CxxType) (all : List Fact) (number : ℕ) (slots : List ℕ) → length all ≡ number → ((n : ℕ) → declared_or (slot_at slots n) (number_of_class n number (facts_at types (drop number all))) ≡ number_of_class n 0 (facts_at types all)) → AreFirst (facts_at types all) slots
all_first = all_on number_of_class (λ n number. refl)

-- ---- enumerators

if_same : (t : Bool) (x : FactId) → cond t (x ∷ []) [] ≡ before (cond t (Some x) None) []
if_same true x = refl
if_same false x = refl

held_by : (n number : ℕ) (what : Declares) → cond (is_enumerator_of n what) (record { 0 = number } ∷ []) [] ≡ before (if_held n number (holder_by what)) []
held_by n number (facts.scope parent kind) = refl
held_by n number (facts.object of member is_mutable value first) = refl
held_by n number (facts.function of member flags defaults first) = refl
held_by n number (facts.template template member defaults is_explicit first) = refl
held_by n number (facts.value_parameter depth index of) = refl
held_by n number (facts.injected class) = refl
held_by n number (facts.class class is_union) = refl
held_by n number (facts.complete class) = refl
held_by n number (facts.passed class) = refl
held_by n number (facts.ancestor class parent index access) = refl
held_by n number (facts.enumeration m) = refl
held_by n number (facts.enumerator m value) = if_same (eqb m n) (record { 0 = number })
held_by n number (facts.synonym of) = refl
held_by n number (facts.namespace inner) = refl
held_by n number (facts.directive nominated) = refl
held_by n number (facts.using target) = refl
held_by n number (facts.friend class target) = refl

filled : (x : FactId) → x ∷ [] ≡ [] → ⊥
filled x e = cc

-- the enumerators of an enumeration are those that are gathered
pub enumerators_gathered : (n number : ℕ) (all : List CxxFact) → enumerators_of n number all ≡ numbers_in (gathered (enumerator_given n) number all)
enumerators_gathered n number [] = refl
enumerators_gathered n number (fact ∷ others) = by (if_held n number (holder_by fact.what)) (is_enumerator_of n fact.what) (held_by n number fact.what) (enumerators_gathered n (suc number) others ∙ ap (λ m. numbers_in (gathered (enumerator_given n) m others)) (sym (add-one number)))
  where
    by : (o : Option FactId) (t : Bool) → cond t (record { 0 = number } ∷ []) [] ≡ before o [] → enumerators_of n (suc number) others ≡ numbers_in (gathered (enumerator_given n) (number + 1) others) → cond t (number ∷ enumerators_of n (suc number) others) (enumerators_of n (suc number) others) ≡ numbers_in (before o (gathered (enumerator_given n) (number + 1) others))
    by None true e rest = absurd (filled (record { 0 = number }) e)
    by None false e rest = rest
    by (Some x) true e rest = (let same : record { 0 = number } ≡ x = cc in ap (λ (y : FactId). number_in y ∷ enumerators_of n (suc number) others) same ∙ ap (λ (ns : List ℕ). number_in x ∷ ns) rest)
    by (Some x) false e rest = absurd (filled x (sym e))
