-- Graphs, tables and indices that grow.
use Rattle.std.specs.Prelude.{ℕ, ◌≡◌, ◌<◌, ◌≤◌, ◌+◌, Bool, true, false, List, [], ◌∷◌, ◌++◌, length, Result, Ok, Option, Some, None, refl}
use Rattle.std.proofs.Common.{ap, sym, subst, ◌∙◌, arith}
use Rattle.std.specs.List.{slice_get}
use Rattle.cxx_model.specs.declared.facts.Entity.{Entity}
use Rattle.cxx_model.specs.declared.facts.Fact.{Fact}
use Rattle.cxx_model.specs.declared.facts.Specialisation.{Specialisation}
use Rattle.cxx_model.specs.declared.memory.OutOfMemory.{OutOfMemory}
use Rattle.cxx_model.specs.declared.types.TypeId.{TypeId}
use Rattle.cxx_model.specs.Facts.Fitted.{Fitted, IsClassBelow}
use Rattle.cxx_model.specs.Facts.Graph.{Graph, InRange, IsOneClassMore, IsEntityInRange, IsTypeInRange, MayFollow, appended, count, counted, scopes, enumerations, is_enumeration}
use Rattle.cxx_model.specs.Types.Trees.{CxxType, adjusted, fundamental, class_type, enumeration, pointer_to, reference_to, array_of, function_of, qualified, type_parameter, specialisation, nested_in}
use Rattle.cxx_graph.proofs.GraphRange.{appended-in-range}
use Rattle.cxx_graph.proofs.Fitting.{fitted-class, fitted-table}
use Rattle.cxx_types.specs.Makes.{Makes}
use Rattle.cxx_lookup_tests.specs.declared.unit.Unit.{Unit}
use Rattle.cxx_lookup_tests.specs.Units.{IsUnit}

follows : (graph : Graph) (facts : List Fact) (fact : Fact) → fact.scope.0 < scopes facts → IsEntityInRange (record graph { facts = facts }) fact fact.what → MayFollow (record graph { facts = facts }) fact
follows graph [] fact scope names = absurd (omega arith)
follows graph (x ∷ xs) fact scope names = (scope, names)

pub declared_in_range : (graph : Graph) (fact : Fact) → InRange graph → fact.scope.0 < scopes graph.facts → IsEntityInRange graph fact fact.what → InRange (appended graph fact)
declared_in_range graph fact ok scope names = appended-in-range graph fact ok (follows graph graph.facts fact scope names)

counted_more : (b : Bool) (m n : ℕ) → counted b (m + n) ≡ counted b m + n
counted_more true m n = omega arith
counted_more false m n = refl

count_more : (test : Entity → Bool) (facts : List Fact) (fact : Fact) → count test (facts ++ fact ∷ []) ≡ count test facts + count test (fact ∷ [])
count_more test [] fact = omega arith
count_more test (x ∷ xs) fact = ap (counted (test x.what)) (count_more test xs fact) ∙ counted_more (test x.what) (count test xs) (count test (fact ∷ []))

pub scopes_more : (facts : List Fact) (fact : Fact) → scopes (facts ++ fact ∷ []) ≡ scopes facts + scopes (fact ∷ [])
scopes_more facts fact = count_more _ facts fact

pub enumerations_first : (fact : Fact) (facts : List Fact) → enumerations (fact ∷ facts) ≡ enumerations (fact ∷ []) + enumerations facts
enumerations_first fact facts = (let e : enumerations facts ≡ 0 + enumerations facts = omega arith in ap (counted (is_enumeration fact.what)) e ∙ counted_more (is_enumeration fact.what) 0 (enumerations facts))

pub makes_fitted : (graph : Graph) (old new : List CxxType) (answer : Result TypeId OutOfMemory) (t : CxxType) → Fitted graph old → Makes old new answer t → IsTypeInRange graph t → Fitted graph new
makes_fitted graph old new answer t fitted makes ok = fitted-table graph old new fitted makes.keeps (λ i least below. makes.fits graph fitted.names ok i below)

pub typed : (unit : Unit) (new : List CxxType) (number : TypeId) (t : CxxType) (count : ℕ) → IsUnit unit → Makes unit.types new (Ok number) t → IsTypeInRange unit.graph t → ((n : ℕ) → unit.known ≤ n → number.0 < n → count ≤ n) → IsUnit (record unit { types = new; known = count })
typed unit new number t count whole makes ok raised =
    let known = whole.known in
    let grown = makes.keeps.grows in
    record {
      fitted = makes_fitted unit.graph unit.types new (Ok number) t whole.fitted makes ok;
      noted = whole.noted;
      scopes = whole.scopes;
      known = raised (length new) (omega (arith, known, grown)) makes.made.0;
    }

-- the class that was reserved is of no template
last_class : (classes : List (Option Specialisation)) (class : Option Specialisation) → slice_get (classes ++ class ∷ []) (length classes) ≡ Some class
last_class [] class = refl
last_class (x ∷ xs) class = last_class xs class

plain_below : (count : ℕ) (class : Option Specialisation) → class ≡ None → IsClassBelow count class
plain_below count None e = tt
plain_below count (Some of) e = absurd cc

pub reserved : (old new : Graph) (types : List CxxType) (class : ℕ) → Fitted old types → class ≡ length old.classes → slice_get new.classes class ≡ Some None → IsOneClassMore old new → Fitted new types
reserved old new types class fitted e at more =
    let is : slice_get (old.classes ++ more.class ∷ []) (length old.classes) ≡ Some None = ap (λ (g : Graph). slice_get g.classes (length old.classes)) (sym more.new_is) ∙ (ap (slice_get new.classes) (sym e) ∙ at) in
    let same : Some more.class ≡ Some None = sym (last_class old.classes more.class) ∙ is in
    let none : more.class ≡ None = cc in
    subst (λ (g : Graph). Fitted g types) (sym more.new_is) (fitted-class old types more.class fitted (plain_below (length types) more.class none))

-- a parameter names no more than its type does
pub adjusted_range : (graph : Graph) (t : CxxType) → IsTypeInRange graph t → IsTypeInRange graph (adjusted t)
adjusted_range graph (fundamental b) ok = ok
adjusted_range graph (class_type n) ok = ok
adjusted_range graph (enumeration n) ok = ok
adjusted_range graph (pointer_to t) ok = ok
adjusted_range graph (reference_to t) ok = ok
adjusted_range graph (array_of t bound) ok = ok.0
adjusted_range graph (function_of r ts ellipsis cv) ok = ok
adjusted_range graph (qualified cv t) ok = ok
adjusted_range graph (type_parameter depth index) ok = ok
adjusted_range graph (specialisation n arguments) ok = ok
adjusted_range graph (nested_in t word) ok = ok
