-- What the definitions so far are of.
use Rattle.std.proofs.Common.{◌≡◌, ℕ, zero, suc, Bool, true, false, cond, List, [], ◌∷◌, ◌++◌, Option, Some, None, option_map, refl, sym, ap, ◌∙◌}
use Rattle.std.specs.List.{slice_get}
use Rattle.cxx_model.specs.declared.facts.Entity.{Entity}
use Rattle.cxx_model.specs.declared.facts.Entity.TheVariants as entity
use Rattle.cxx_model.specs.declared.facts.Fact.{Fact}
use Rattle.cxx_model.specs.declared.types.ClassId.{ClassId}
use Rattle.cxx_model.specs.declared.types.FactId.{FactId}
use Rattle.cxx_model.specs.Facts.Conflicts.{defined_before}
use Rattle.cxx_model.specs.Facts.Declarations.{CxxFact, declares_at, fact_at, facts_at}
use Rattle.cxx_model.specs.Facts.Entities.{CxxEntity, Meant, entity_by, entity_of, meant_by, of_fact, of_type, same_entity}
use Rattle.cxx_model.specs.Types.Trees.{CxxType, class_type}
use Rattle.cxx_defined.specs.declared.defined.Definitions.{Definitions}
use Rattle.cxx_defined.specs.Defined.{AreOwn, AreSameDefinitions, Defines, HasClass, HasDefinition, IsOwn, IsOwnEntity, class_declared, class_defined_by, class_there, defined_by, entity_declared, first_declared, number_in, or_later, same_class, same_fact}

fact_stored : (types : List CxxType) (facts : List Fact) (n : ℕ) → slice_get (facts_at types facts) n ≡ option_map (fact_at types) (slice_get facts n)
fact_stored types [] n = refl
fact_stored types (fact ∷ facts) zero = refl
fact_stored types (fact ∷ facts) (suc n) = fact_stored types facts n

abbrev entity_meant : Meant → CxxEntity
entity_meant meant = entity_by meant.number meant.what

entity_stored : (all : List CxxFact) (n : ℕ) (fact : CxxFact) → slice_get all n ≡ Some fact → entity_of all n ≡ entity_meant (meant_by all n fact.what)
entity_stored all n fact e = rw e refl

own_meant : (types : List CxxType) (all : List CxxFact) (number : FactId) (what : Entity) → IsOwnEntity what → entity_meant (meant_by all number.0 (declares_at types what)) ≡ entity_declared number what
own_meant types all number (entity.Object of member is_mutable value None) own = refl
own_meant types all number (entity.Object of member is_mutable value (Some first)) own = refl
own_meant types all number (entity.Function of member flags defaults None) own = refl
own_meant types all number (entity.Function of member flags defaults (Some first)) own = refl
own_meant types all number (entity.Template template member defaults is_explicit None) own = refl
own_meant types all number (entity.Template template member defaults is_explicit (Some first)) own = refl
own_meant types all number (entity.Class class is_union) own = refl
own_meant types all number _ own = absurd own

pub own_entity : (types : List CxxType) (facts : List Fact) (number : FactId) (fact : Fact) → slice_get facts number.0 ≡ Some fact → IsOwnEntity fact.what → entity_of (facts_at types facts) number.0 ≡ entity_declared number fact.what
own_entity types facts number fact at own =
    entity_stored (facts_at types facts) number.0 (fact_at types fact) (fact_stored types facts number.0 ∙ ap (option_map (fact_at types)) at)
    ∙ own_meant types (facts_at types facts) number fact.what own

-- what is no class
own_first : (number : FactId) (what : Entity) → class_declared what ≡ None → entity_declared number what ≡ of_fact (first_declared number what).0
own_first number (entity.Class class is_union) none = absurd cc
own_first number _ none = refl

pub first_entity : (types : List CxxType) (facts : List Fact) (number : FactId) (fact : Fact) → slice_get facts number.0 ≡ Some fact → IsOwnEntity fact.what → class_there (slice_get facts number.0) ≡ None → entity_of (facts_at types facts) number.0 ≡ of_fact (first_declared number fact.what).0
first_entity types facts number fact at own none = own_entity types facts number fact at own ∙ own_first number fact.what (sym (ap class_there at) ∙ none)

-- a class
class_own : (class : ClassId) (what : Entity) → class_declared what ≡ Some class → IsOwnEntity what
class_own class (entity.Class other is_union) is = tt
class_own class _ is = absurd cc

class_is : (number : FactId) (class : ClassId) (what : Entity) → class_declared what ≡ Some class → entity_declared number what ≡ of_type (class_type class.0)
class_is number class (entity.Class other is_union) is = ap (λ (o : Option ClassId). type_or other o) is
  where
    type_or : ClassId → Option ClassId → CxxEntity
    type_or own None = of_type (class_type own.0)
    type_or own (Some one) = of_type (class_type one.0)
class_is number class _ is = absurd cc

class_entity : (types : List CxxType) (facts : List Fact) (number : FactId) (class : ClassId) → class_there (slice_get facts number.0) ≡ Some class → entity_of (facts_at types facts) number.0 ≡ of_type (class_type class.0)
class_entity types facts number class is = by (slice_get facts number.0) refl is
  where
    by : (o : Option Fact) → slice_get facts number.0 ≡ o → class_there o ≡ Some class → entity_of (facts_at types facts) number.0 ≡ of_type (class_type class.0)
    by None at is = absurd cc
    by (Some fact) at is = own_entity types facts number fact at (class_own class fact.what is) ∙ class_is number class fact.what is

class_owned : (facts : List Fact) (n : ℕ) (class : ClassId) → class_there (slice_get facts n) ≡ Some class → IsOwn (slice_get facts n)
class_owned facts n class is = by (slice_get facts n) is
  where
    by : (o : Option Fact) → class_there o ≡ Some class → IsOwn o
    by None is = absurd cc
    by (Some fact) is = class_own class fact.what is

-- ---- one more definition

before_more : (all : List CxxFact) (defined : List ℕ) (n : ℕ) (of : CxxEntity) → defined_before all (defined ++ n ∷ []) of ≡ or_later (defined_before all defined of) (cond (same_entity (entity_of all n) of) (Some n) None)
before_more all [] n of = refl
before_more all (one ∷ defined) n of = by (same_entity (entity_of all one) of) (before_more all defined n of)
  where
    by : (b : Bool) → defined_before all (defined ++ n ∷ []) of ≡ or_later (defined_before all defined of) (cond (same_entity (entity_of all n) of) (Some n) None)
        → cond b (Some one) (defined_before all (defined ++ n ∷ []) of) ≡ or_later (cond b (Some one) (defined_before all defined of)) (cond (same_entity (entity_of all n) of) (Some n) None)
    by true e = refl
    by false e = e

own_more : (facts : List Fact) (defined : List ℕ) (n : ℕ) → AreOwn facts defined → IsOwn (slice_get facts n) → AreOwn facts (defined ++ n ∷ [])
own_more facts [] n own one = (one, tt)
own_more facts (m ∷ defined) n own one = (own.0, own_more facts defined n own.1 one)

mapped : (o : Option FactId) (b : Bool) (number : FactId) → option_map number_in (or_later o (cond b (Some number) None)) ≡ or_later (option_map number_in o) (cond b (Some number.0) None)
mapped None true number = refl
mapped None false number = refl
mapped (Some one) b number = refl

or_none : {X : Type 0} (o : Option X) → or_later o None ≡ o
or_none None = refl
or_none (Some one) = refl

-- another entity is defined as before
before_same : (types : List CxxType) (facts : List Fact) (defined : List ℕ) (n : ℕ) (one of : CxxEntity) → entity_of (facts_at types facts) n ≡ one → same_entity one of ≡ false → defined_before (facts_at types facts) (defined ++ n ∷ []) of ≡ defined_before (facts_at types facts) defined of
before_same types facts defined n one of entity other =
    before_more (facts_at types facts) defined n of
    ∙ (ap (λ e. or_later (defined_before (facts_at types facts) defined of) (cond (same_entity e of) (Some n) None)) entity
    ∙ (ap (λ b. or_later (defined_before (facts_at types facts) defined of) (cond b (Some n) None)) other
    ∙ or_none (defined_before (facts_at types facts) defined of)))

pub defines_more : (old new : Definitions) (facts : List Fact) (defined : List ℕ) (first number : FactId) → IsOwn (slice_get facts number.0) → ((types : List CxxType) → entity_of (facts_at types facts) number.0 ≡ of_fact first.0) → HasDefinition old new first number → Defines old facts defined → Defines new facts (defined ++ number.0 ∷ [])
defines_more old new facts defined first number own entity has kept = record {
  own = own_more facts defined number.0 kept.own own;
  first = λ other types.
      ap (option_map number_in) (has.rows other)
      ∙ (mapped (defined_by old other) (same_fact first other) number
      ∙ (ap (λ o. or_later o (cond (same_fact first other) (Some number.0) None)) (kept.first other types)
      ∙ (ap (λ e. or_later (defined_before (facts_at types facts) defined (of_fact other.0)) (cond (same_entity e (of_fact other.0)) (Some number.0) None)) (sym (entity types))
      ∙ sym (before_more (facts_at types facts) defined number.0 (of_fact other.0)))));
  classes = λ class types.
      ap (option_map number_in) (has.classes class)
      ∙ (kept.classes class types
      ∙ sym (before_same types facts defined number.0 (of_fact first.0) (of_type (class_type class.0)) (entity types) refl));
}

pub defines_class : (old new : Definitions) (facts : List Fact) (defined : List ℕ) (class : ClassId) (number : FactId) → class_there (slice_get facts number.0) ≡ Some class → HasClass old new class number → Defines old facts defined → Defines new facts (defined ++ number.0 ∷ [])
defines_class old new facts defined class number is has kept = record {
  own = own_more facts defined number.0 kept.own (class_owned facts number.0 class is);
  first = λ other types.
      ap (option_map number_in) (has.rows other)
      ∙ (kept.first other types
      ∙ sym (before_same types facts defined number.0 (of_type (class_type class.0)) (of_fact other.0) (class_entity types facts number class is) refl));
  classes = λ other types.
      ap (option_map number_in) (has.classes other)
      ∙ (mapped (class_defined_by old other) (same_class class other) number
      ∙ (ap (λ o. or_later o (cond (same_class class other) (Some number.0) None)) (kept.classes other types)
      ∙ (ap (λ e. or_later (defined_before (facts_at types facts) defined (of_type (class_type other.0))) (cond (same_entity e (of_type (class_type other.0))) (Some number.0) None)) (sym (class_entity types facts number class is))
      ∙ sym (before_more (facts_at types facts) defined number.0 (of_type (class_type other.0))))));
}

pub defines_same : (old new : Definitions) (facts : List Fact) (defined : List ℕ) → AreSameDefinitions old new → Defines old facts defined → Defines new facts defined
defines_same old new facts defined same kept = record {
  own = kept.own;
  first = λ other types. ap (option_map number_in) (same.rows other) ∙ kept.first other types;
  classes = λ class types. ap (option_map number_in) (same.classes class) ∙ kept.classes class types;
}

-- ---- facts behind the others

stored_later : (facts others : List Fact) (n : ℕ) (fact : Fact) → slice_get facts n ≡ Some fact → slice_get (facts ++ others) n ≡ Some fact
stored_later [] others n fact e = absurd (cc)
stored_later (one ∷ facts) others zero fact e = e
stored_later (one ∷ facts) others (suc n) fact e = stored_later facts others n fact e

own_later : (facts others : List Fact) (n : ℕ) → IsOwn (slice_get facts n) → IsOwn (slice_get (facts ++ others) n)
own_later [] others n own = absurd own
own_later (one ∷ facts) others zero own = own
own_later (one ∷ facts) others (suc n) own = own_later facts others n own

are_later : (facts others : List Fact) (defined : List ℕ) → AreOwn facts defined → AreOwn (facts ++ others) defined
are_later facts others [] own = tt
are_later facts others (n ∷ defined) own = (own_later facts others n own.0, are_later facts others defined own.1)

entity_later : (types : List CxxType) (facts others : List Fact) (n : ℕ) → IsOwn (slice_get facts n) → entity_of (facts_at types facts) n ≡ entity_of (facts_at types (facts ++ others)) n
entity_later types facts others n own = by (slice_get facts n) refl own
  where
    by : (o : Option Fact) → slice_get facts n ≡ o → IsOwn o → entity_of (facts_at types facts) n ≡ entity_of (facts_at types (facts ++ others)) n
    by None at one = absurd one
    by (Some fact) at one = own_entity types facts (record { 0 = n }) fact at one ∙ sym (own_entity types (facts ++ others) (record { 0 = n }) fact (stored_later facts others n fact at) one)

before_later : (types : List CxxType) (facts others : List Fact) (defined : List ℕ) (of : CxxEntity) → AreOwn facts defined → defined_before (facts_at types facts) defined of ≡ defined_before (facts_at types (facts ++ others)) defined of
before_later types facts others [] of own = refl
before_later types facts others (n ∷ defined) of own =
    ap (λ e. cond (same_entity e of) (Some n) (defined_before (facts_at types facts) defined of)) (entity_later types facts others n own.0)
    ∙ ap (λ o. cond (same_entity (entity_of (facts_at types (facts ++ others)) n) of) (Some n) o) (before_later types facts others defined of own.1)

pub defines_later : (definitions : Definitions) (facts others : List Fact) (defined : List ℕ) → Defines definitions facts defined → Defines definitions (facts ++ others) defined
defines_later definitions facts others defined kept = record {
  own = are_later facts others defined kept.own;
  first = λ other types. kept.first other types ∙ before_later types facts others defined (of_fact other.0) kept.own;
  classes = λ class types. kept.classes class types ∙ before_later types facts others defined (of_type (class_type class.0)) kept.own;
}
