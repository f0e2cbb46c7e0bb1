-- A graph in range stays in range.
use Rattle.std.specs.Prelude.{ℕ, suc, ◌+◌, ◌≡◌, ◌<◌, ◌≤◌, refl, Bool, true, false, List, [], ◌∷◌, ◌++◌, length, Option, Some, None}
use Rattle.std.proofs.Common.{subst, sym, append_assoc, append-nil, arith, length-append}
use Rattle.cxx_model.specs.declared.facts.Entity.{Entity}
use Rattle.cxx_model.specs.declared.facts.Entity.TheVariants as entity
use Rattle.cxx_model.specs.declared.facts.Fact.{Fact}
use Rattle.cxx_model.specs.declared.facts.ParameterKind.{ParameterKind}
use Rattle.cxx_model.specs.declared.facts.ParameterKind.TheVariants.{OfType, OfValue}
use Rattle.cxx_model.specs.declared.facts.Pattern.{Pattern}
use Rattle.cxx_model.specs.declared.facts.ScopeKind.{ScopeKind}
use Rattle.cxx_model.specs.declared.facts.ScopeKind.TheVariants as kind
use Rattle.cxx_model.specs.declared.facts.Specialisation.{Specialisation}
use Rattle.cxx_model.specs.declared.facts.Parameter.{Parameter}
use Rattle.cxx_model.specs.declared.types.ClassId.{ClassId}
use Rattle.cxx_model.specs.declared.types.ScopeId.{ScopeId}
use Rattle.cxx_model.specs.declared.types.TemplateId.{TemplateId}
use Rattle.cxx_model.specs.Types.Trees.{CxxType, fundamental, class_type, enumeration, pointer_to, reference_to, array_of, function_of, qualified, type_parameter, specialisation, nested_in, CxxTypes, no_types, type_then, CxxBound, unknown_bound, number_bound, formula_bound, CxxArgument, type_argument, value_argument, formula_argument, CxxArguments, no_arguments, argument_then, CxxFormula, value_of, value_parameter, member_of, size_of, cast_to, unary, binary, conditional}
use Rattle.cxx_model.specs.Types.Numbers.{tree_at}
use Rattle.cxx_model.specs.Facts.Graph.{Graph, InRange, MayFollow, EachMayFollow, appended, counted, enumerations, is_enumeration, with_class, with_pattern, IsClassInRange, AreClassesInRange, IsClassNumberInRange, IsEntityInRange, IsKindInRange, IsKindOfParameterInRange, AreParametersInRange, IsPatternInRange, ArePatternsInRange, IsScopeInRange, IsTypeInRange, AreTypesInRange, IsBoundInRange, IsArgumentInRange, AreArgumentsInRange, IsFormulaInRange}

-- ---- facts

one-more : (graph : Graph) (before facts : List Fact) (fact : Fact) → EachMayFollow graph before facts → MayFollow (record graph { facts = before ++ facts }) fact → EachMayFollow graph before (facts ++ fact ∷ [])
one-more graph before [] fact each ok = (subst (λ (fs : List Fact). MayFollow (record graph { facts = fs }) fact) (append-nil before) ok, tt)
one-more graph before (x ∷ xs) fact each ok =
    (each.0, one-more graph (before ++ x ∷ []) xs fact each.1 (subst (λ (fs : List Fact). MayFollow (record graph { facts = fs }) fact) (sym (append_assoc before (x ∷ []) xs)) ok))

follows-last : (graph : Graph) (before facts : List Fact) (fact : Fact) → EachMayFollow graph before (facts ++ fact ∷ []) → MayFollow (record graph { facts = before ++ facts }) fact
follows-last graph before [] fact each = subst (λ (fs : List Fact). MayFollow (record graph { facts = fs }) fact) (sym (append-nil before)) each.0
follows-last graph before (x ∷ xs) fact each =
    subst (λ (fs : List Fact). MayFollow (record graph { facts = fs }) fact) (append_assoc before (x ∷ []) xs) (follows-last graph (before ++ x ∷ []) xs fact each.1)

pub may-follow : (graph : Graph) (fact : Fact) → InRange (appended graph fact) → MayFollow graph fact
may-follow graph fact ok = follows-last (appended graph fact) [] graph.facts fact ok.facts

-- ---- a graph that grew

pub record Grows (old new : Graph) : Type 0 where
  pub classes : length old.classes ≤ length new.classes
  pub patterns : length old.patterns ≤ length new.patterns
  pub enums : enumerations old.facts ≤ enumerations new.facts

kind-later : (old new : Graph) → Grows old new → new.facts ≡ old.facts → (k : ScopeKind) → IsKindInRange old k → IsKindInRange new k
kind-later old new more same kind.Space ok = tt
kind-later old new more same (kind.Class class) ok = (let grown : length old.classes ≤ length new.classes = more.classes in omega arith)
kind-later old new more same (kind.Block None) ok = tt
kind-later old new more same (kind.Block (Some function)) ok = subst (λ (facts : List Fact). function.0 < length facts) (sym same) ok
kind-later old new more same kind.Parameters ok = tt

scope-later : (old new : Graph) → Grows old new → new.facts ≡ old.facts → (fact : Fact) (parent : Option ScopeId) (k : ScopeKind) → IsScopeInRange old fact parent k → IsScopeInRange new fact parent k
scope-later old new more same fact None k ok = ok
scope-later old new more same fact (Some parent) k ok = (ok.0, kind-later old new more same k ok.1)

class-later : (old new : Graph) → Grows old new → (class : ClassId) → class.0 < length old.classes → class.0 < length new.classes
class-later old new more class ok = (let grown : length old.classes ≤ length new.classes = more.classes in omega arith)

template-later : (old new : Graph) → Grows old new → (template : TemplateId) → template.0 < length old.patterns → template.0 < length new.patterns
template-later old new more template ok = (let grown : length old.patterns ≤ length new.patterns = more.patterns in omega arith)

abbrev with_facts : Graph → List Fact → Graph
with_facts graph facts = record graph { facts = facts }

entity-later : (facts : List Fact) (old new : Graph) → Grows (with_facts old facts) (with_facts new facts) → (fact : Fact) (what : Entity) → IsEntityInRange (with_facts old facts) fact what → IsEntityInRange (with_facts new facts) fact what
entity-later facts old new more fact (entity.Scope parent k) ok = scope-later (with_facts old facts) (with_facts new facts) more refl fact parent k ok
entity-later facts old new more fact (entity.Object _ _ _ _ _) ok = ok
entity-later facts old new more fact (entity.Function _ _ _ _ _) ok = ok
entity-later facts old new more fact (entity.Template template _ _ _ _) ok = (template-later _ _ more template ok.0, ok.1)
entity-later facts old new more fact (entity.Parameter _ _ _) ok = ok
entity-later facts old new more fact (entity.Injected class) ok = class-later _ _ more class ok
entity-later facts old new more fact (entity.Class class _) ok = class-later _ _ more class ok
entity-later facts old new more fact (entity.Complete class) ok = class-later _ _ more class ok
entity-later facts old new more fact (entity.Passed class) ok = class-later _ _ more class ok
entity-later facts old new more fact (entity.Ancestor class parent _ _) ok = (class-later _ _ more class ok.0, class-later _ _ more parent ok.1, ok.2, ok.3)
entity-later facts old new more fact (entity.Enumeration _) ok = ok
entity-later facts old new more fact (entity.Enumerator _ _) ok = ok
entity-later facts old new more fact (entity.Synonym _) ok = ok
entity-later facts old new more fact (entity.Namespace _) ok = ok
entity-later facts old new more fact (entity.Directive _) ok = ok
entity-later facts old new more fact (entity.Using _) ok = ok
entity-later facts old new more fact (entity.Friend class target) ok = (class-later _ _ more class ok.0, ok.1)

grown-with : (facts : List Fact) (old new : Graph) → length old.classes ≤ length new.classes → length old.patterns ≤ length new.patterns → Grows (with_facts old facts) (with_facts new facts)
grown-with facts old new classes patterns = record { classes = classes; patterns = patterns; enums = omega arith }

follow-later : (old new : Graph) → length old.classes ≤ length new.classes → length old.patterns ≤ length new.patterns → (before : List Fact) (fact : Fact) → MayFollow (with_facts old before) fact → MayFollow (with_facts new before) fact
follow-later old new classes patterns [] fact ok = ok
follow-later old new classes patterns (x ∷ xs) fact ok = (ok.0, entity-later (x ∷ xs) old new (grown-with (x ∷ xs) old new classes patterns) fact fact.what ok.1)

each-later : (old new : Graph) → length old.classes ≤ length new.classes → length old.patterns ≤ length new.patterns → (before facts : List Fact) → EachMayFollow old before facts → EachMayFollow new before facts
each-later old new classes patterns before [] ok = tt
each-later old new classes patterns before (x ∷ xs) ok = (follow-later old new classes patterns before x ok.0, each-later old new classes patterns (before ++ x ∷ []) xs ok.1)

mutual
  pub type-in-range-later : (old new : Graph) → Grows old new → (t : CxxType) → IsTypeInRange old t → IsTypeInRange new t
  type-in-range-later old new more (fundamental base) ok = tt
  type-in-range-later old new more (class_type n) ok = (let grown : length old.classes ≤ length new.classes = more.classes in omega arith)
  type-in-range-later old new more (enumeration n) ok = (let grown : enumerations old.facts ≤ enumerations new.facts = more.enums in omega arith)
  type-in-range-later old new more (pointer_to t) ok = type-in-range-later old new more t ok
  type-in-range-later old new more (reference_to t) ok = type-in-range-later old new more t ok
  type-in-range-later old new more (array_of t bound) ok = (type-in-range-later old new more t ok.0, bound-in-range-later old new more bound ok.1)
  type-in-range-later old new more (function_of r ts ellipsis cv) ok = (type-in-range-later old new more r ok.0, types-in-range-later old new more ts ok.1)
  type-in-range-later old new more (qualified cv t) ok = type-in-range-later old new more t ok
  type-in-range-later old new more (type_parameter depth index) ok = tt
  type-in-range-later old new more (specialisation n given) ok = (let grown : length old.patterns ≤ length new.patterns = more.patterns in let here : n < length old.patterns = ok.0 in (omega arith, arguments-in-range-later old new more given ok.1))
  type-in-range-later old new more (nested_in t word) ok = type-in-range-later old new more t ok

  types-in-range-later : (old new : Graph) → Grows old new → (ts : CxxTypes) → AreTypesInRange old ts → AreTypesInRange new ts
  types-in-range-later old new more no_types ok = tt
  types-in-range-later old new more (type_then t ts) ok = (type-in-range-later old new more t ok.0, types-in-range-later old new more ts ok.1)

  bound-in-range-later : (old new : Graph) → Grows old new → (b : CxxBound) → IsBoundInRange old b → IsBoundInRange new b
  bound-in-range-later old new more unknown_bound ok = tt
  bound-in-range-later old new more (number_bound n) ok = tt
  bound-in-range-later old new more (formula_bound f) ok = formula-in-range-later old new more f ok

  argument-in-range-later : (old new : Graph) → Grows old new → (a : CxxArgument) → IsArgumentInRange old a → IsArgumentInRange new a
  argument-in-range-later old new more (type_argument t) ok = type-in-range-later old new more t ok
  argument-in-range-later old new more (value_argument value t) ok = type-in-range-later old new more t ok
  argument-in-range-later old new more (formula_argument f) ok = formula-in-range-later old new more f ok

  arguments-in-range-later : (old new : Graph) → Grows old new → (given : CxxArguments) → AreArgumentsInRange old given → AreArgumentsInRange new given
  arguments-in-range-later old new more no_arguments ok = tt
  arguments-in-range-later old new more (argument_then a others) ok = (argument-in-range-later old new more a ok.0, arguments-in-range-later old new more others ok.1)

  formula-in-range-later : (old new : Graph) → Grows old new → (f : CxxFormula) → IsFormulaInRange old f → IsFormulaInRange new f
  formula-in-range-later old new more (value_of value t) ok = type-in-range-later old new more t ok
  formula-in-range-later old new more (value_parameter depth index) ok = tt
  formula-in-range-later old new more (member_of t word) ok = type-in-range-later old new more t ok
  formula-in-range-later old new more (size_of t) ok = type-in-range-later old new more t ok
  formula-in-range-later old new more (cast_to t f) ok = (type-in-range-later old new more t ok.0, formula-in-range-later old new more f ok.1)
  formula-in-range-later old new more (unary operator f) ok = formula-in-range-later old new more f ok
  formula-in-range-later old new more (binary operator f g) ok = (formula-in-range-later old new more f ok.0, formula-in-range-later old new more g ok.1)
  formula-in-range-later old new more (conditional f g h) ok = (formula-in-range-later old new more f ok.0, formula-in-range-later old new more g ok.1, formula-in-range-later old new more h ok.2)

parameter-later : (old new : Graph) → Grows old new → (k : ParameterKind) → IsKindOfParameterInRange old k → IsKindOfParameterInRange new k
parameter-later old new more OfType ok = tt
parameter-later old new more (OfValue of) ok = type-in-range-later old new more (tree_at [] of) ok

parameters-later : (old new : Graph) → Grows old new → (parameters : List Parameter) → AreParametersInRange old parameters → AreParametersInRange new parameters
parameters-later old new more [] ok = tt
parameters-later old new more (x ∷ xs) ok = (parameter-later old new more x.kind ok.0, parameters-later old new more xs ok.1)

named-class-later : (old new : Graph) → Grows old new → (class : Option ClassId) → IsClassNumberInRange old class → IsClassNumberInRange new class
named-class-later old new more None ok = tt
named-class-later old new more (Some class) ok = class-later old new more class ok

pub pattern-later : (old new : Graph) → Grows old new → (number : ℕ) (pattern : Pattern) → IsPatternInRange old number pattern → IsPatternInRange new number pattern
pattern-later old new more number pattern ok = record {
  parameters = parameters-later old new more pattern.parameters ok.parameters;
  primary = ok.primary;
  class = named-class-later old new more pattern.class ok.class;
}

patterns-later : (old new : Graph) → Grows old new → (number : ℕ) (patterns : List Pattern) → ArePatternsInRange old number patterns → ArePatternsInRange new number patterns
patterns-later old new more number [] ok = tt
patterns-later old new more number (x ∷ xs) ok = (pattern-later old new more number x ok.0, patterns-later old new more (suc number) xs ok.1)

specialisation-later : (old new : Graph) → Grows old new → (class : Option Specialisation) → IsClassInRange old class → IsClassInRange new class
specialisation-later old new more None ok = tt
specialisation-later old new more (Some of) ok = template-later old new more of.template ok

classes-later : (old new : Graph) → Grows old new → (classes : List (Option Specialisation)) → AreClassesInRange old classes → AreClassesInRange new classes
classes-later old new more [] ok = tt
classes-later old new more (x ∷ xs) ok = (specialisation-later old new more x ok.0, classes-later old new more xs ok.1)

classes-more : (graph : Graph) (classes : List (Option Specialisation)) (class : Option Specialisation) → AreClassesInRange graph classes → IsClassInRange graph class → AreClassesInRange graph (classes ++ class ∷ [])
classes-more graph [] class ok last = (last, tt)
classes-more graph (x ∷ xs) class ok last = (ok.0, classes-more graph xs class ok.1 last)

patterns-more : (graph : Graph) (number : ℕ) (patterns : List Pattern) (pattern : Pattern) → ArePatternsInRange graph number patterns → (last : ℕ) → last ≡ number + length patterns → IsPatternInRange graph last pattern → ArePatternsInRange graph number (patterns ++ pattern ∷ [])
patterns-more graph number [] pattern ok last is next = (let e : last ≡ number = omega arith in subst (λ (n : ℕ). IsPatternInRange graph n pattern) e next, tt)
patterns-more graph number (x ∷ xs) pattern ok last is next = (ok.0, patterns-more graph (suc number) xs pattern ok.1 last (omega arith) next)

-- ---- one more of each

enumerations-more : (facts : List Fact) (fact : Fact) → enumerations facts ≤ enumerations (facts ++ fact ∷ [])
enumerations-more [] fact = omega arith
enumerations-more (x ∷ xs) fact = (let more : enumerations xs ≤ enumerations (xs ++ fact ∷ []) = enumerations-more xs fact in by (is_enumeration x.what) more)
  where
    by : (b : Bool) → enumerations xs ≤ enumerations (xs ++ fact ∷ []) → counted b (enumerations xs) ≤ counted b (enumerations (xs ++ fact ∷ []))
    by true more = omega arith
    by false more = more

pub grows-fact : (graph : Graph) (fact : Fact) → Grows graph (appended graph fact)
grows-fact graph fact = record { classes = omega arith; patterns = omega arith; enums = enumerations-more graph.facts fact }

pub grows-class : (graph : Graph) (class : Option Specialisation) → Grows graph (with_class graph class)
grows-class graph class = record { classes = omega (arith, length-append graph.classes (class ∷ [])); patterns = omega arith; enums = omega arith }

pub grows-pattern : (graph : Graph) (pattern : Pattern) → Grows graph (with_pattern graph pattern)
grows-pattern graph pattern = record { classes = omega arith; patterns = omega (arith, length-append graph.patterns (pattern ∷ [])); enums = omega arith }

pub appended-in-range : (graph : Graph) (fact : Fact) → InRange graph → MayFollow graph fact → InRange (appended graph fact)
appended-in-range graph fact ok next =
    let more : Grows graph (appended graph fact) = grows-fact graph fact in
    let fewer : length graph.patterns ≤ length graph.facts = ok.fewer in
    record {
      facts = one-more (appended graph fact) [] graph.facts fact (each-later graph (appended graph fact) (omega arith) (omega arith) [] graph.facts ok.facts) next;
      classes = classes-later graph (appended graph fact) more graph.classes ok.classes;
      patterns = patterns-later graph (appended graph fact) more 0 graph.patterns ok.patterns;
      fewer = omega (arith, length-append graph.facts (fact ∷ []));
    }

pub reserved-in-range : (graph : Graph) (class : Option Specialisation) → InRange graph → IsClassInRange graph class → InRange (with_class graph class)
reserved-in-range graph class ok next =
    let more : Grows graph (with_class graph class) = grows-class graph class in
    record {
      facts = each-later graph (with_class graph class) more.classes more.patterns [] graph.facts ok.facts;
      classes = classes-more (with_class graph class) graph.classes class (classes-later graph (with_class graph class) more graph.classes ok.classes) (specialisation-later graph (with_class graph class) more class next);
      patterns = patterns-later graph (with_class graph class) more 0 graph.patterns ok.patterns;
      fewer = ok.fewer;
    }

pub pattern-in-range : (graph : Graph) (pattern : Pattern) → InRange graph → length graph.patterns < length graph.facts → IsPatternInRange graph (length graph.patterns) pattern → InRange (with_pattern graph pattern)
pattern-in-range graph pattern ok fewer next =
    let more : Grows graph (with_pattern graph pattern) = grows-pattern graph pattern in
    record {
      facts = each-later graph (with_pattern graph pattern) more.classes more.patterns [] graph.facts ok.facts;
      classes = classes-later graph (with_pattern graph pattern) more graph.classes ok.classes;
      patterns = patterns-more (with_pattern graph pattern) 0 graph.patterns pattern (patterns-later graph (with_pattern graph pattern) more 0 graph.patterns ok.patterns) (length graph.patterns) (omega arith) (pattern-later graph (with_pattern graph pattern) more (length graph.patterns) pattern next);
      fewer = omega (arith, length-append graph.patterns (pattern ∷ []));
    }

pub empty-in-range : InRange (record { facts = []; classes = []; patterns = [] })
empty-in-range = record { facts = tt; classes = tt; patterns = tt; fewer = omega arith }
