-- Graphs and tables that grow.
use Rattle.std.specs.Prelude.{ℕ, suc, ◌≡◌, ◌<◌, ◌≤◌, ◌+◌, Bool, true, false, List, [], ◌∷◌, ◌++◌, length, Result, Ok, Option, Some, None, refl, ◌⊎◌, IfOk}
use Rattle.std.proofs.Common.{ap, sym, subst, ◌∙◌, inl, inr, arith}
use Rattle.std.specs.List.{slice_get}
use Rattle.cxx_model.specs.declared.facts.Entity.{Entity}
use Rattle.cxx_model.specs.declared.facts.Fact.{Fact}
use Rattle.cxx_model.specs.declared.facts.Pattern.{Pattern}
use Rattle.cxx_model.specs.declared.facts.Specialisation.{Specialisation}
use Rattle.cxx_model.specs.declared.memory.OutOfMemory.{OutOfMemory}
use Rattle.cxx_model.specs.declared.types.Argument.{Argument}
use Rattle.cxx_model.specs.declared.types.ClassId.{ClassId}
use Rattle.cxx_model.specs.declared.types.TemplateId.{TemplateId}
use Rattle.cxx_model.specs.declared.types.TypeId.{TypeId}
use Rattle.cxx_model.specs.Facts.Fitted.{Fitted, IsClassBelow, IsFactBelow, IsPatternBelow}
use Rattle.cxx_model.specs.Facts.Graph.{Graph, InRange, IsEntityInRange, IsOneClassMore, IsReservedAlready, IsReservedFor, IsTypeInRange, MayFollow, appended, count, counted, scopes, enumerations, is_enumeration, with_pattern}
use Rattle.cxx_model.specs.Types.Numbers.{type_at, arguments_at, AreArgumentsBelow}
use Rattle.cxx_model.specs.Types.Trees.{CxxType, no_arguments}
use Rattle.cxx_graph.specs.Reserved.{IsUnknown}
use Rattle.cxx_graph.proofs.GraphRange.{appended-in-range}
use Rattle.cxx_graph.proofs.Fitting.{fitted-class, fitted-fact, fitted-pattern, fitted-table}
use Rattle.cxx_types.specs.Makes.{IsMade, Makes}
use Rattle.cxx_builtin.proofs.Drawing.{with_cv_in_range}
use Rattle.cxx_candidate_tests.specs.declared.parts.Part.{Part}
use Rattle.cxx_candidate_tests.specs.declared.parts.Part.TheVariants as part
use Rattle.cxx_candidate_tests.specs.Units.{IsPartKnown, pattern_by, type_by}

-- ---- facts

follows : (graph : Graph) (facts : List Fact) (fact : Fact) → fact.scope.0 < scopes facts → IsEntityInRange (record graph { facts = facts }) fact fact.what → MayFollow (record graph { facts = facts }) fact
follows graph [] fact scope names = absurd (omega arith)
follows graph (x ∷ xs) fact scope names = (scope, names)

pub declared_in_range : (graph : Graph) (fact : Fact) → InRange graph → fact.scope.0 < scopes graph.facts → IsEntityInRange graph fact fact.what → InRange (appended graph fact)
declared_in_range graph fact ok scope names = appended-in-range graph fact ok (follows graph graph.facts fact scope names)

counted_more : (b : Bool) (m n : ℕ) → counted b (m + n) ≡ counted b m + n
counted_more true m n = omega arith
counted_more false m n = refl

count_more : (test : Entity → Bool) (facts : List Fact) (fact : Fact) → count test (facts ++ fact ∷ []) ≡ count test facts + count test (fact ∷ [])
count_more test [] fact = omega arith
count_more test (x ∷ xs) fact = ap (counted (test x.what)) (count_more test xs fact) ∙ counted_more (test x.what) (count test xs) (count test (fact ∷ []))

pub scopes_more : (old new : Graph) (fact : Fact) → new ≡ appended old fact → scopes new.facts ≡ scopes old.facts + scopes (fact ∷ [])
scopes_more old new fact is = ap (λ (g : Graph). scopes g.facts) is ∙ count_more _ old.facts fact

pub scopes_grown : (old new : Graph) (fact : Fact) → new ≡ appended old fact → scopes old.facts ≤ scopes new.facts
scopes_grown old new fact is = (let more = scopes_more old new fact is in omega (arith, more))

pub fact_fitted : (old new : Graph) (types : List CxxType) (fact : Fact) → new ≡ appended old fact → Fitted old types → IsFactBelow (length types) fact → Fitted new types
fact_fitted old new types fact is fitted below = subst (λ (g : Graph). Fitted g types) (sym is) (fitted-fact old types fact fitted below)

pub enumerations_first : (fact : Fact) (facts : List Fact) → enumerations (fact ∷ facts) ≡ enumerations (fact ∷ []) + enumerations facts
enumerations_first fact facts = (let e : enumerations facts ≡ 0 + enumerations facts = omega arith in ap (counted (is_enumeration fact.what)) e ∙ counted_more (is_enumeration fact.what) 0 (enumerations facts))

-- ---- types

part_range : (graph : Graph) (types : List CxxType) (one : Part) → Fitted graph types → IsPartKnown graph (length types) one → IsTypeInRange graph (type_by types one)
part_range graph types (part.Plain of) fitted known = tt
part_range graph types (part.Class number) fitted known = known
part_range graph types (part.Enumeration number) fitted known = known
part_range graph types (part.PointerTo of) fitted known = fitted.names of.0 known
part_range graph types (part.ReferenceTo of) fitted known = fitted.names of.0 known
part_range graph types (part.ArrayOf of) fitted known = (fitted.names of.0 known, tt)
part_range graph types (part.FunctionTo of) fitted known = (fitted.names of.0 known, tt)
part_range graph types (part.Words cv of) fitted known = with_cv_in_range graph cv (type_at types of.0) (fitted.names of.0 known)

pub part_fitted : (graph : Graph) (old new : List CxxType) (answer : Result TypeId OutOfMemory) (one : Part) → Fitted graph old → IsPartKnown graph (length old) one → Makes old new answer (type_by old one) → Fitted graph new
part_fitted graph old new answer one fitted known makes = fitted-table graph old new fitted makes.keeps (λ i least below. makes.fits graph fitted.names (part_range graph old one fitted known) i below)

pub number_known : (new : List CxxType) (answer : Result TypeId OutOfMemory) (t : CxxType) → IsMade new answer t → IfOk answer (λ number. number.0 < length new)
number_known new (Ok number) t made = made.0
number_known new _ t made = tt

-- ---- templates and classes

pub template_fitted : (old new : Graph) (types : List CxxType) (pattern : Pattern) (class : ClassId) → new ≡ with_pattern old pattern → pattern ≡ pattern_by class → Fitted old types → Fitted new types
template_fitted old new types pattern class is by_class fitted =
    let below : IsPatternBelow (length types) pattern = subst (λ (p : Pattern). IsPatternBelow (length types) p) (sym by_class) (record { parameters = tt; arguments = tt; of = tt }) in
    subst (λ (g : Graph). Fitted g types) (sym is) (fitted-pattern old types pattern fitted below)

last_class : (classes : List (Option Specialisation)) (class : Option Specialisation) → slice_get (classes ++ class ∷ []) (length classes) ≡ Some class
last_class [] class = refl
last_class (x ∷ xs) class = last_class xs class

more_classes : (classes : List (Option Specialisation)) (class : Option Specialisation) → length (classes ++ class ∷ []) ≡ suc (length classes)
more_classes [] class = refl
more_classes (x ∷ xs) class = ap suc (more_classes xs class)

-- where there is one class more, none was there
unknown : (old new : Graph) (template : Option TemplateId) (arguments : List Argument) → IsOneClassMore old new → ((n : ℕ) → IsReservedAlready old template arguments n → new ≡ old) → IsUnknown old template arguments
unknown old new template arguments more kept n already =
    let same : length new.classes ≡ length old.classes = ap (λ (g : Graph). length g.classes) (kept n already) in
    let longer : length new.classes ≡ suc (length old.classes) = ap (λ (g : Graph). length g.classes) more.new_is ∙ more_classes old.classes more.class in
    absurd (omega (arith, same, longer))

-- no argument is there
none_below : (count : ℕ) (arguments : List Argument) → arguments_at [] arguments ≡ no_arguments → AreArgumentsBelow count arguments
none_below count [] e = tt
none_below count (a ∷ others) e = absurd cc

class_below : (count : ℕ) (graph : Graph) (template : Option TemplateId) (number : ℕ) (class : Option Specialisation) → IsReservedFor graph template [] number → slice_get graph.classes number ≡ Some class → IsClassBelow count class
class_below count graph None number class is at =
    let both : Some None ≡ Some class = sym is ∙ at in
    let none : None ≡ class = cc in
    subst (IsClassBelow count) none tt
class_below count graph (Some template) number class is at =
    let both : Some (Some is.of) ≡ Some class = sym is.stored ∙ at in
    let one : Some is.of ≡ class = cc in
    subst (IsClassBelow count) one (none_below count is.of.arguments (is.arguments_are []))

-- the class that was reserved has no arguments
pub reserved_fitted : (old new : Graph) (types : List CxxType) (template : Option TemplateId) (arguments : List Argument) (class : ℕ) → Fitted old types → arguments ≡ [] → IsReservedFor new template arguments class → ((n : ℕ) → IsReservedAlready old template arguments n → new ≡ old) → (IsUnknown old template arguments → class ≡ length old.classes) → (new ≡ old) ⊎ IsOneClassMore old new → Fitted new types
reserved_fitted old new types template arguments class fitted none is kept fresh (inl same) = subst (λ (g : Graph). Fitted g types) (sym same) fitted
reserved_fitted old new types template arguments class fitted none is kept fresh (inr more) =
    let number : class ≡ length old.classes = fresh (unknown old new template arguments more kept) in
    let at : slice_get new.classes class ≡ Some more.class = ap (slice_get new.classes) number ∙ ap (λ (g : Graph). slice_get g.classes (length old.classes)) more.new_is ∙ last_class old.classes more.class in
    let for_none : IsReservedFor new template [] class = subst (λ (given : List Argument). IsReservedFor new template given class) none is in
    subst (λ (g : Graph). Fitted g types) (sym more.new_is) (fitted-class old types more.class fitted (class_below (length types) new template class more.class for_none at))
