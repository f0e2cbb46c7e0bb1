-- A graph and a table stay fitted while both grow, and what the graph stands for stays the same.
use Rattle.std.specs.Prelude.{ℕ, ◌≡◌, ◌<◌, ◌≤◌, Bool, true, false, nat_lt, List, [], ◌∷◌, ◌++◌, length, Option, Some, None, refl}
use Rattle.std.proofs.Common.{ap, sym, subst, ◌∙◌, arith}
use Rattle.std.proofs.lemmas.Bool.{ltb-true, ltb-false}
use Rattle.cxx_model.specs.declared.facts.Entity.{Entity}
use Rattle.cxx_model.specs.declared.facts.Entity.TheVariants as entity
use Rattle.cxx_model.specs.declared.facts.Fact.{Fact}
use Rattle.cxx_model.specs.declared.facts.Name.{Name}
use Rattle.cxx_model.specs.declared.facts.Name.TheVariants as name
use Rattle.cxx_model.specs.declared.facts.ParameterKind.{ParameterKind}
use Rattle.cxx_model.specs.declared.facts.ParameterKind.TheVariants.{OfType, OfValue}
use Rattle.cxx_model.specs.declared.facts.Pattern.{Pattern}
use Rattle.cxx_model.specs.declared.facts.Specialisation.{Specialisation}
use Rattle.cxx_model.specs.declared.facts.Parameter.{Parameter}
use Rattle.cxx_model.specs.declared.types.Argument.{Argument}
use Rattle.cxx_model.specs.declared.types.TypeId.{TypeId}
use Rattle.cxx_model.specs.Facts.Declarations.{CxxFact, CxxGraph, CxxName, CxxParameter, CxxPattern, CxxSpecialisation, Declares, class_at, classes_at, conversion_to, declares_at, fact_at, facts_at, fallback_at, graph_at, kind_at, name_at, parameters_at, pattern_at, patterns_at, type_of_option}
use Rattle.cxx_model.specs.Facts.Fitted.{IsEntityBelow, IsNameBelow, IsFactBelow, AreFactsBelow, IsClassBelow, AreClassesBelow, IsKindBelow, IsFallbackBelow, AreParametersBelow, IsTypeNumberBelow, IsPatternBelow, ArePatternsBelow, IsGraphBelow, Fitted}
use Rattle.cxx_model.specs.Facts.Graph.{Graph, appended, with_class, with_pattern, IsTypeInRange}
use Rattle.cxx_model.specs.Types.Trees.{CxxType, CxxArgument, CxxArguments}
use Rattle.cxx_model.specs.Types.Numbers.{arguments_at, type_at, Keeps}
use Rattle.cxx_graph.proofs.GraphRange.{grows-fact, grows-class, grows-pattern, type-in-range-later}
use Rattle.cxx_model.proofs.TypeTrees.{argument_kept, argument_later, arguments_kept, arguments_later, tree_kept, tree_later}

-- ---- what a graph stands for

name-kept : (old new : List CxxType) (x : Name) → Keeps old new → IsNameBelow (length old) x → name_at new x ≡ name_at old x
name-kept old new name.Unnamed kept ok = refl
name-kept old new (name.Spelled word) kept ok = refl
name-kept old new (name.Operator operator) kept ok = refl
name-kept old new (name.Conversion of) kept ok = ap conversion_to (kept.same of.0 ok)
name-kept old new name.Destructor kept ok = refl

declares-kept : (old new : List CxxType) (what : Entity) → Keeps old new → IsEntityBelow (length old) what → declares_at new what ≡ declares_at old what
declares-kept old new (entity.Object of _ _ _ _) kept ok = (let same : type_at new of.0 ≡ type_at old of.0 = kept.same of.0 ok in cc)
declares-kept old new (entity.Function of _ _ _ _) kept ok = (let same : type_at new of.0 ≡ type_at old of.0 = kept.same of.0 ok in cc)
declares-kept old new (entity.Parameter _ _ of) kept ok = (let same : type_at new of.0 ≡ type_at old of.0 = kept.same of.0 ok in cc)
declares-kept old new (entity.Synonym of) kept ok = (let same : type_at new of.0 ≡ type_at old of.0 = kept.same of.0 ok in cc)
declares-kept old new (entity.Scope _ _) kept ok = refl
declares-kept old new (entity.Template _ _ _ _ _) kept ok = refl
declares-kept old new (entity.Injected _) kept ok = refl
declares-kept old new (entity.Class _ _) kept ok = refl
declares-kept old new (entity.Complete _) kept ok = refl
declares-kept old new (entity.Passed _) kept ok = refl
declares-kept old new (entity.Ancestor _ _ _ _) kept ok = refl
declares-kept old new (entity.Enumeration _) kept ok = refl
declares-kept old new (entity.Enumerator _ _) kept ok = refl
declares-kept old new (entity.Namespace _) kept ok = refl
declares-kept old new (entity.Directive _) kept ok = refl
declares-kept old new (entity.Using _) kept ok = refl
declares-kept old new (entity.Friend _ _) kept ok = refl

pub fact-kept : (old new : List CxxType) (fact : Fact) → Keeps old new → IsFactBelow (length old) fact → fact_at new fact ≡ fact_at old fact
fact-kept old new fact kept ok =
    let whole : CxxName → Declares → CxxFact = λ name what. record { place = fact.place; scope = fact.scope.0; name = name; access = fact.access; what = what } in
    ap (λ name. whole name (declares_at new fact.what)) (name-kept old new fact.name kept ok.name) ∙ ap (whole (name_at old fact.name)) (declares-kept old new fact.what kept ok.what)

facts-kept : (old new : List CxxType) (facts : List Fact) → Keeps old new → AreFactsBelow (length old) facts → facts_at new facts ≡ facts_at old facts
facts-kept old new [] kept ok = refl
facts-kept old new (x ∷ xs) kept ok = (let one : fact_at new x ≡ fact_at old x = fact-kept old new x kept ok.0 in let rest : facts_at new xs ≡ facts_at old xs = facts-kept old new xs kept ok.1 in cc)

class-kept : (old new : List CxxType) (class : Option Specialisation) → Keeps old new → IsClassBelow (length old) class → class_at new class ≡ class_at old class
class-kept old new None kept ok = refl
class-kept old new (Some of) kept ok =
    let whole : CxxArguments → Option CxxSpecialisation = λ arguments. Some (record { template = of.template.0; arguments = arguments }) in
    ap whole (arguments_kept old new of.arguments kept ok)

classes-kept : (old new : List CxxType) (classes : List (Option Specialisation)) → Keeps old new → AreClassesBelow (length old) classes → classes_at new classes ≡ classes_at old classes
classes-kept old new [] kept ok = refl
classes-kept old new (x ∷ xs) kept ok = (let one : class_at new x ≡ class_at old x = class-kept old new x kept ok.0 in let rest : classes_at new xs ≡ classes_at old xs = classes-kept old new xs kept ok.1 in cc)

kind-kept : (old new : List CxxType) (k : ParameterKind) → Keeps old new → IsKindBelow (length old) k → kind_at new k ≡ kind_at old k
kind-kept old new OfType kept ok = refl
kind-kept old new (OfValue of) kept ok = ap Some (tree_kept old new of kept ok)

fallback-kept : (old new : List CxxType) (argument : Option Argument) → Keeps old new → IsFallbackBelow (length old) argument → fallback_at new argument ≡ fallback_at old argument
fallback-kept old new None kept ok = refl
fallback-kept old new (Some argument) kept ok = ap Some (argument_kept old new argument kept ok)

parameters-kept : (old new : List CxxType) (parameters : List Parameter) → Keeps old new → AreParametersBelow (length old) parameters → parameters_at new parameters ≡ parameters_at old parameters
parameters-kept old new [] kept ok = refl
parameters-kept old new (x ∷ xs) kept ok =
    let whole : Option CxxType → Option CxxArgument → CxxParameter = λ of fallback. record { of = of; fallback = fallback } in
    let of : kind_at new x.kind ≡ kind_at old x.kind = kind-kept old new x.kind kept ok.0 in
    let fallback : fallback_at new x.fallback ≡ fallback_at old x.fallback = fallback-kept old new x.fallback kept ok.1 in
    let one : whole (kind_at new x.kind) (fallback_at new x.fallback) ≡ whole (kind_at old x.kind) (fallback_at old x.fallback) = ap (λ k. whole k (fallback_at new x.fallback)) of ∙ ap (whole (kind_at old x.kind)) fallback in
    let rest : parameters_at new xs ≡ parameters_at old xs = parameters-kept old new xs kept ok.2 in
    ap (λ p. p ∷ parameters_at new xs) one ∙ ap (λ ps. whole (kind_at old x.kind) (fallback_at old x.fallback) ∷ ps) rest

type-kept : (old new : List CxxType) (of : Option TypeId) → Keeps old new → IsTypeNumberBelow (length old) of → type_of_option new of ≡ type_of_option old of
type-kept old new None kept ok = refl
type-kept old new (Some of) kept ok = ap Some (kept.same of.0 ok)

pattern-kept : (old new : List CxxType) (pattern : Pattern) → Keeps old new → IsPatternBelow (length old) pattern → pattern_at new pattern ≡ pattern_at old pattern
pattern-kept old new pattern kept ok =
    let whole : List CxxParameter → CxxArguments → Option CxxType → CxxPattern = λ parameters arguments of. record { parameters = parameters; primary = pattern.primary; arguments = arguments; of = of; class = pattern.class } in
    ap (λ ps. whole ps (arguments_at new pattern.arguments) (type_of_option new pattern.of)) (parameters-kept old new pattern.parameters kept ok.parameters)
    ∙ ap (λ given. whole (parameters_at old pattern.parameters) given (type_of_option new pattern.of)) (arguments_kept old new pattern.arguments kept ok.arguments)
    ∙ ap (whole (parameters_at old pattern.parameters) (arguments_at old pattern.arguments)) (type-kept old new pattern.of kept ok.of)

patterns-kept : (old new : List CxxType) (patterns : List Pattern) → Keeps old new → ArePatternsBelow (length old) patterns → patterns_at new patterns ≡ patterns_at old patterns
patterns-kept old new [] kept ok = refl
patterns-kept old new (x ∷ xs) kept ok = (let one : pattern_at new x ≡ pattern_at old x = pattern-kept old new x kept ok.0 in let rest : patterns_at new xs ≡ patterns_at old xs = patterns-kept old new xs kept ok.1 in cc)

-- A table that grows leaves what a graph stands for as it was.
pub graph-kept : (old new : List CxxType) (graph : Graph) → Keeps old new → IsGraphBelow (length old) graph → graph_at new graph ≡ graph_at old graph
graph-kept old new graph kept ok =
    let whole : List CxxFact → List (Option CxxSpecialisation) → List CxxPattern → CxxGraph = λ facts classes patterns. record { facts = facts; classes = classes; patterns = patterns } in
    ap (λ fs. whole fs (classes_at new graph.classes) (patterns_at new graph.patterns)) (facts-kept old new graph.facts kept ok.facts)
    ∙ ap (λ cs. whole (facts_at old graph.facts) cs (patterns_at new graph.patterns)) (classes-kept old new graph.classes kept ok.classes)
    ∙ ap (whole (facts_at old graph.facts) (classes_at old graph.classes)) (patterns-kept old new graph.patterns kept ok.patterns)

-- ---- numbers of types below a larger count

name-below-later : (old new : ℕ) (x : Name) → old ≤ new → IsNameBelow old x → IsNameBelow new x
name-below-later old new name.Unnamed more ok = tt
name-below-later old new (name.Spelled word) more ok = tt
name-below-later old new (name.Operator operator) more ok = tt
name-below-later old new (name.Conversion of) more ok = omega arith
name-below-later old new name.Destructor more ok = tt

entity-below-later : (old new : ℕ) (what : Entity) → old ≤ new → IsEntityBelow old what → IsEntityBelow new what
entity-below-later old new (entity.Object of _ _ _ _) more ok = omega arith
entity-below-later old new (entity.Function of _ _ _ _) more ok = omega arith
entity-below-later old new (entity.Parameter _ _ of) more ok = omega arith
entity-below-later old new (entity.Synonym of) more ok = omega arith
entity-below-later old new (entity.Scope _ _) more ok = tt
entity-below-later old new (entity.Template _ _ _ _ _) more ok = tt
entity-below-later old new (entity.Injected _) more ok = tt
entity-below-later old new (entity.Class _ _) more ok = tt
entity-below-later old new (entity.Complete _) more ok = tt
entity-below-later old new (entity.Passed _) more ok = tt
entity-below-later old new (entity.Ancestor _ _ _ _) more ok = tt
entity-below-later old new (entity.Enumeration _) more ok = tt
entity-below-later old new (entity.Enumerator _ _) more ok = tt
entity-below-later old new (entity.Namespace _) more ok = tt
entity-below-later old new (entity.Directive _) more ok = tt
entity-below-later old new (entity.Using _) more ok = tt
entity-below-later old new (entity.Friend _ _) more ok = tt

facts-below-later : (old new : ℕ) (facts : List Fact) → old ≤ new → AreFactsBelow old facts → AreFactsBelow new facts
facts-below-later old new [] more ok = tt
facts-below-later old new (x ∷ xs) more ok =
    (record { name = name-below-later old new x.name more ok.0.name; what = entity-below-later old new x.what more ok.0.what }, facts-below-later old new xs more ok.1)

class-below-later : (old new : ℕ) (class : Option Specialisation) → old ≤ new → IsClassBelow old class → IsClassBelow new class
class-below-later old new None more ok = tt
class-below-later old new (Some of) more ok = arguments_later old new of.arguments more ok

classes-below-later : (old new : ℕ) (classes : List (Option Specialisation)) → old ≤ new → AreClassesBelow old classes → AreClassesBelow new classes
classes-below-later old new [] more ok = tt
classes-below-later old new (x ∷ xs) more ok = (class-below-later old new x more ok.0, classes-below-later old new xs more ok.1)

kind-below-later : (old new : ℕ) (k : ParameterKind) → old ≤ new → IsKindBelow old k → IsKindBelow new k
kind-below-later old new OfType more ok = tt
kind-below-later old new (OfValue of) more ok = tree_later old new of more ok

fallback-below-later : (old new : ℕ) (argument : Option Argument) → old ≤ new → IsFallbackBelow old argument → IsFallbackBelow new argument
fallback-below-later old new None more ok = tt
fallback-below-later old new (Some argument) more ok = argument_later old new argument more ok

parameters-below-later : (old new : ℕ) (parameters : List Parameter) → old ≤ new → AreParametersBelow old parameters → AreParametersBelow new parameters
parameters-below-later old new [] more ok = tt
parameters-below-later old new (x ∷ xs) more ok = (kind-below-later old new x.kind more ok.0, fallback-below-later old new x.fallback more ok.1, parameters-below-later old new xs more ok.2)

type-below-later : (old new : ℕ) (of : Option TypeId) → old ≤ new → IsTypeNumberBelow old of → IsTypeNumberBelow new of
type-below-later old new None more ok = tt
type-below-later old new (Some of) more ok = omega arith

patterns-below-later : (old new : ℕ) (patterns : List Pattern) → old ≤ new → ArePatternsBelow old patterns → ArePatternsBelow new patterns
patterns-below-later old new [] more ok = tt
patterns-below-later old new (x ∷ xs) more ok =
    (record { parameters = parameters-below-later old new x.parameters more ok.0.parameters; arguments = arguments_later old new x.arguments more ok.0.arguments; of = type-below-later old new x.of more ok.0.of }, patterns-below-later old new xs more ok.1)

-- ---- one more of each

facts-more : (count : ℕ) (facts : List Fact) (fact : Fact) → AreFactsBelow count facts → IsFactBelow count fact → AreFactsBelow count (facts ++ fact ∷ [])
facts-more count [] fact ok last = (last, tt)
facts-more count (x ∷ xs) fact ok last = (ok.0, facts-more count xs fact ok.1 last)

classes-below-more : (count : ℕ) (classes : List (Option Specialisation)) (class : Option Specialisation) → AreClassesBelow count classes → IsClassBelow count class → AreClassesBelow count (classes ++ class ∷ [])
classes-below-more count [] class ok last = (last, tt)
classes-below-more count (x ∷ xs) class ok last = (ok.0, classes-below-more count xs class ok.1 last)

patterns-below-more : (count : ℕ) (patterns : List Pattern) (pattern : Pattern) → ArePatternsBelow count patterns → IsPatternBelow count pattern → ArePatternsBelow count (patterns ++ pattern ∷ [])
patterns-below-more count [] pattern ok last = (last, tt)
patterns-below-more count (x ∷ xs) pattern ok last = (ok.0, patterns-below-more count xs pattern ok.1 last)

pub fitted-fact : (graph : Graph) (types : List CxxType) (fact : Fact) → Fitted graph types → IsFactBelow (length types) fact → Fitted (appended graph fact) types
fitted-fact graph types fact ok next = record {
  numbers = record { facts = facts-more (length types) graph.facts fact ok.numbers.facts next; classes = ok.numbers.classes; patterns = ok.numbers.patterns };
  names = λ i within. type-in-range-later graph (appended graph fact) (grows-fact graph fact) (type_at types i) (ok.names i within);
}

pub fitted-class : (graph : Graph) (types : List CxxType) (class : Option Specialisation) → Fitted graph types → IsClassBelow (length types) class → Fitted (with_class graph class) types
fitted-class graph types class ok next = record {
  numbers = record { facts = ok.numbers.facts; classes = classes-below-more (length types) graph.classes class ok.numbers.classes next; patterns = ok.numbers.patterns };
  names = λ i within. type-in-range-later graph (with_class graph class) (grows-class graph class) (type_at types i) (ok.names i within);
}

pub fitted-pattern : (graph : Graph) (types : List CxxType) (pattern : Pattern) → Fitted graph types → IsPatternBelow (length types) pattern → Fitted (with_pattern graph pattern) types
fitted-pattern graph types pattern ok next = record {
  numbers = record { facts = ok.numbers.facts; classes = ok.numbers.classes; patterns = patterns-below-more (length types) graph.patterns pattern ok.numbers.patterns next };
  names = λ i within. type-in-range-later graph (with_pattern graph pattern) (grows-pattern graph pattern) (type_at types i) (ok.names i within);
}

-- a table that grows by types of what is in the graph
pub fitted-table : (graph : Graph) (old new : List CxxType) → Fitted graph old → Keeps old new → ((i : ℕ) → length old ≤ i → i < length new → IsTypeInRange graph (type_at new i)) → Fitted graph new
fitted-table graph old new ok kept added = record {
  numbers = record {
    facts = facts-below-later (length old) (length new) graph.facts kept.grows ok.numbers.facts;
    classes = classes-below-later (length old) (length new) graph.classes kept.grows ok.numbers.classes;
    patterns = patterns-below-later (length old) (length new) graph.patterns kept.grows ok.numbers.patterns;
  };
  names = λ i within. by i within (nat_lt i (length old)) refl;
}
  where
    by : (i : ℕ) → i < length new → (b : Bool) → nat_lt i (length old) ≡ b → IsTypeInRange graph (type_at new i)
    by i within true e = (let before : i < length old = ltb-true i (length old) e in subst (λ (t : CxxType). IsTypeInRange graph t) (sym (kept.same i before)) (ok.names i before))
    by i within false e = added i (ltb-false i (length old) e) within
