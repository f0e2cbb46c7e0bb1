-- Facts in order, the classes that were reserved, and the templates: what a graph is, and when its numbers are in range.
use Rattle.std.specs.Prelude.{ℕ, suc, ℤ, ◌≡◌, ◌<◌, ◌≤◌, ◌+◌, Bool, true, false, not, IsTrue, List, [], ◌∷◌, ◌++◌, length, Option, Some, None, nat_eq}
use Rattle.std.specs.List.{list_any, slice_get}
use Rattle.cxx_model.specs.declared.facts.Access.TheVariants.{Public}
use Rattle.cxx_model.specs.declared.facts.Entity.{Entity}
use Rattle.cxx_model.specs.declared.facts.Entity.TheVariants as entity
use Rattle.cxx_model.specs.declared.facts.Fact.{Fact}
use Rattle.cxx_model.specs.declared.facts.Name.TheVariants as name
use Rattle.cxx_model.specs.declared.facts.ScopeKind.{ScopeKind}
use Rattle.cxx_model.specs.declared.facts.ScopeKind.TheVariants as kind
use Rattle.cxx_model.specs.declared.facts.ParameterKind.{ParameterKind}
use Rattle.cxx_model.specs.declared.facts.ParameterKind.TheVariants.{OfType, OfValue}
use Rattle.cxx_model.specs.declared.facts.Pattern.{Pattern}
use Rattle.cxx_model.specs.declared.facts.Specialisation.{Specialisation}
use Rattle.cxx_model.specs.declared.facts.Parameter.{Parameter}
use Rattle.cxx_model.specs.declared.types.ClassId.{ClassId}
use Rattle.cxx_model.specs.declared.types.FactId.{FactId}
use Rattle.cxx_model.specs.declared.types.ScopeId.{ScopeId}
use Rattle.cxx_model.specs.declared.types.Argument.{Argument}
use Rattle.cxx_model.specs.declared.types.TemplateId.{TemplateId}
use Rattle.cxx_model.specs.Types.Integral.{one_holds}
use Rattle.cxx_model.specs.Types.Trees.{CxxType, fundamental, class_type, enumeration, pointer_to, reference_to, array_of, function_of, qualified, type_parameter, specialisation, nested_in, CxxTypes, no_types, type_then, CxxBound, unknown_bound, number_bound, formula_bound, CxxArgument, type_argument, value_argument, formula_argument, CxxArguments, no_arguments, argument_then, CxxFormula, value_of, value_parameter, member_of, size_of, cast_to, unary, binary, conditional}
use Rattle.cxx_model.specs.Types.Numbers.{arguments_at, tree_at}

-- The facts; the reserved classes, each with the specialisation for which it was reserved, where it is one; and the
-- templates. A fact's number is its place, and so is a reserved class's and a template's; a scope's and an enumeration's
-- is its place among the facts of its kind.
pub record Graph : Type 0 where
  pub facts : List Fact
  pub classes : List (Option Specialisation)
  pub patterns : List Pattern

abbrev is_scope : Entity → Bool
is_scope (entity.Scope _ _) = true
is_scope _ = false

abbrev pub is_enumeration : Entity → Bool
is_enumeration (entity.Enumeration _) = true
is_enumeration _ = false

-- one more where a test was passed
abbrev pub counted : Bool → ℕ → ℕ
counted true n = n + 1
counted false n = n

abbrev pub count : (Entity → Bool) → List Fact → ℕ
count test [] = 0
count test (fact ∷ facts) = counted (test fact.what) (count test facts)

-- 3.3: how many scopes there are
abbrev pub scopes : List Fact → ℕ
scopes facts = count is_scope facts

-- 7.2: how many enumerations there are
abbrev pub enumerations : List Fact → ℕ
enumerations facts = count is_enumeration facts

-- 9.2: whether a fact is the end of a class
abbrev pub completes : ℕ → Fact → Bool
completes n fact = test fact.what
  where
    test : Entity → Bool
    test (entity.Complete class) = nat_eq class.0 n
    test _ = false

-- 9.2: whether the class has its end among the facts
abbrev pub is_complete : List Fact → ℕ → Bool
is_complete facts n = list_any (completes n) facts

abbrev value_in : ℕ → Entity → List ℤ
value_in n (entity.Enumerator number value) = chosen (nat_eq number.0 n)
  where
    chosen : Bool → List ℤ
    chosen true = value ∷ []
    chosen false = []
value_in n _ = []

-- 7.2: the values of the enumerators of an enumeration
abbrev pub values_of : List Fact → ℕ → List ℤ
values_of [] n = []
values_of (fact ∷ facts) n = value_in n fact.what ++ values_of facts n

-- an earlier fact that passes a test, where one is named
abbrev IsEarlier : List Fact → (Entity → Bool) → Fact → Option FactId → Type 0
IsEarlier facts test fact None = Unit {0}
IsEarlier facts test fact (Some n) = (other : Fact) × (slice_get facts n.0 ≡ Some other) × IsTrue (test other.what) × (other.name ≡ fact.name)

abbrev is_object : Entity → Bool
is_object (entity.Object _ _ _ _ _) = true
is_object _ = false

abbrev is_function : Entity → Bool
is_function (entity.Function _ _ _ _ _) = true
is_function _ = false

abbrev is_template : Entity → Bool
is_template (entity.Template _ _ _ _ _) = true
is_template _ = false

-- 3.3: what the kind of a scope names
abbrev pub IsKindInRange : Graph → ScopeKind → Type 0
IsKindInRange graph kind.Space = Unit {0}
IsKindInRange graph (kind.Class class) = class.0 < length graph.classes
IsKindInRange graph (kind.Block None) = Unit {0}
IsKindInRange graph (kind.Block (Some function)) = function.0 < length graph.facts
IsKindInRange graph kind.Parameters = Unit {0}

abbrev pub IsScopeInRange : Graph → Fact → Option ScopeId → ScopeKind → Type 0
IsScopeInRange graph fact None kind = ⊥
IsScopeInRange graph fact (Some parent) kind = (parent ≡ fact.scope) × IsKindInRange graph kind

-- What an entity names is there: a fact, a scope, a template and an enumeration earlier, a class reserved.
abbrev pub IsEntityInRange : Graph → Fact → Entity → Type 0
IsEntityInRange graph fact (entity.Scope parent kind) = IsScopeInRange graph fact parent kind
IsEntityInRange graph fact (entity.Object _ _ _ _ first) = IsEarlier graph.facts is_object fact first
IsEntityInRange graph fact (entity.Function _ _ _ _ first) = IsEarlier graph.facts is_function fact first
IsEntityInRange graph fact (entity.Template template _ _ _ first) = (template.0 < length graph.patterns) × IsEarlier graph.facts is_template fact first
IsEntityInRange graph fact (entity.Parameter _ _ _) = Unit {0}
IsEntityInRange graph fact (entity.Injected class) = class.0 < length graph.classes
IsEntityInRange graph fact (entity.Class class _) = class.0 < length graph.classes
IsEntityInRange graph fact (entity.Complete class) = class.0 < length graph.classes
IsEntityInRange graph fact (entity.Passed class) = class.0 < length graph.classes
IsEntityInRange graph fact (entity.Ancestor class parent _ _) = (class.0 < length graph.classes) × (parent.0 < length graph.classes) × IsTrue (is_complete graph.facts parent.0) × IsTrue (not (is_complete graph.facts class.0))
IsEntityInRange graph fact (entity.Enumeration number) = number.0 ≡ enumerations graph.facts
IsEntityInRange graph fact (entity.Enumerator number value) = (number.0 < enumerations graph.facts) × IsTrue (one_holds (values_of graph.facts number.0 ++ value ∷ []))
IsEntityInRange graph fact (entity.Synonym _) = Unit {0}
IsEntityInRange graph fact (entity.Namespace inner) = inner.0 < scopes graph.facts
IsEntityInRange graph fact (entity.Directive nominated) = nominated.0 < scopes graph.facts
IsEntityInRange graph fact (entity.Using target) = target.0 < length graph.facts
IsEntityInRange graph fact (entity.Friend class target) = (class.0 < length graph.classes) × (target.0 < length graph.facts)

-- 3.3.5: the first fact is the scope of the unit, in itself
abbrev pub IsUnitScope : Fact → Type 0
IsUnitScope fact = (fact.what ≡ entity.Scope None kind.Space) × (fact.scope ≡ record { 0 = 0 }) × (fact.name ≡ name.Unnamed) × (fact.access ≡ Public)

-- A fact may follow a graph: it stands in an earlier scope and names what is there.
abbrev pub MayFollow : Graph → Fact → Type 0
MayFollow graph fact = after graph.facts
  where
    after : List Fact → Type 0
    after [] = IsUnitScope fact
    after (_ ∷ _) = (fact.scope.0 < scopes graph.facts) × IsEntityInRange graph fact fact.what

-- each of some facts may follow those before it
abbrev pub EachMayFollow : Graph → List Fact → List Fact → Type 0
EachMayFollow graph before [] = Unit {0}
EachMayFollow graph before (fact ∷ facts) = MayFollow (record graph { facts = before }) fact × EachMayFollow graph (before ++ fact ∷ []) facts

-- 14.7.1: the template of a specialisation is there
abbrev pub IsClassInRange : Graph → Option Specialisation → Type 0
IsClassInRange graph None = Unit {0}
IsClassInRange graph (Some of) = of.template.0 < length graph.patterns

abbrev pub AreClassesInRange : Graph → List (Option Specialisation) → Type 0
AreClassesInRange graph [] = Unit {0}
AreClassesInRange graph (class ∷ classes) = IsClassInRange graph class × AreClassesInRange graph classes

-- each class, enumeration and template that a type names is there
abbrev mutual
  pub IsTypeInRange : Graph → CxxType → Type 0
  IsTypeInRange graph (fundamental base) = Unit {0}
  IsTypeInRange graph (class_type n) = n < length graph.classes
  IsTypeInRange graph (enumeration n) = n < enumerations graph.facts
  IsTypeInRange graph (pointer_to t) = IsTypeInRange graph t
  IsTypeInRange graph (reference_to t) = IsTypeInRange graph t
  IsTypeInRange graph (array_of t bound) = IsTypeInRange graph t × IsBoundInRange graph bound
  IsTypeInRange graph (function_of r ts ellipsis cv) = IsTypeInRange graph r × AreTypesInRange graph ts
  IsTypeInRange graph (qualified cv t) = IsTypeInRange graph t
  IsTypeInRange graph (type_parameter depth index) = Unit {0}
  IsTypeInRange graph (specialisation n arguments) = (n < length graph.patterns) × AreArgumentsInRange graph arguments
  IsTypeInRange graph (nested_in t word) = IsTypeInRange graph t

  pub AreTypesInRange : Graph → CxxTypes → Type 0
  AreTypesInRange graph no_types = Unit {0}
  AreTypesInRange graph (type_then t ts) = IsTypeInRange graph t × AreTypesInRange graph ts

  pub IsBoundInRange : Graph → CxxBound → Type 0
  IsBoundInRange graph unknown_bound = Unit {0}
  IsBoundInRange graph (number_bound n) = Unit {0}
  IsBoundInRange graph (formula_bound f) = IsFormulaInRange graph f

  pub IsArgumentInRange : Graph → CxxArgument → Type 0
  IsArgumentInRange graph (type_argument t) = IsTypeInRange graph t
  IsArgumentInRange graph (value_argument value t) = IsTypeInRange graph t
  IsArgumentInRange graph (formula_argument f) = IsFormulaInRange graph f

  pub AreArgumentsInRange : Graph → CxxArguments → Type 0
  AreArgumentsInRange graph no_arguments = Unit {0}
  AreArgumentsInRange graph (argument_then a others) = IsArgumentInRange graph a × AreArgumentsInRange graph others

  pub IsFormulaInRange : Graph → CxxFormula → Type 0
  IsFormulaInRange graph (value_of value t) = IsTypeInRange graph t
  IsFormulaInRange graph (value_parameter depth index) = Unit {0}
  IsFormulaInRange graph (member_of t word) = IsTypeInRange graph t
  IsFormulaInRange graph (size_of t) = IsTypeInRange graph t
  IsFormulaInRange graph (cast_to t f) = IsTypeInRange graph t × IsFormulaInRange graph f
  IsFormulaInRange graph (unary operator f) = IsFormulaInRange graph f
  IsFormulaInRange graph (binary operator f g) = IsFormulaInRange graph f × IsFormulaInRange graph g
  IsFormulaInRange graph (conditional f g h) = IsFormulaInRange graph f × IsFormulaInRange graph g × IsFormulaInRange graph h

-- 14.1: what the type of a parameter names by itself is there; types that it names by number are of a table
abbrev pub IsKindOfParameterInRange : Graph → ParameterKind → Type 0
IsKindOfParameterInRange graph OfType = Unit {0}
IsKindOfParameterInRange graph (OfValue of) = IsTypeInRange graph (tree_at [] of)

abbrev pub AreParametersInRange : Graph → List Parameter → Type 0
AreParametersInRange graph [] = Unit {0}
AreParametersInRange graph (parameter ∷ others) = IsKindOfParameterInRange graph parameter.kind × AreParametersInRange graph others

-- a template that is named is there
abbrev pub IsTemplateInRange : Graph → Option TemplateId → Type 0
IsTemplateInRange graph None = Unit {0}
IsTemplateInRange graph (Some template) = template.0 < length graph.patterns

abbrev pub IsClassNumberInRange : Graph → Option ClassId → Type 0
IsClassNumberInRange graph None = Unit {0}
IsClassNumberInRange graph (Some class) = class.0 < length graph.classes

-- 14.5.4: the template of which one is a partial specialisation is an earlier one
abbrev pub IsPrimaryEarlier : ℕ → Option TemplateId → Type 0
IsPrimaryEarlier number None = Unit {0}
IsPrimaryEarlier number (Some primary) = primary.0 < number

-- Each class and enumeration that the template with a number names is there, and each template is an earlier one.
pub record IsPatternInRange (graph : Graph) (number : ℕ) (pattern : Pattern) : Type 0 where
  pub parameters : AreParametersInRange graph pattern.parameters
  pub primary : IsPrimaryEarlier number pattern.primary
  pub class : IsClassNumberInRange graph pattern.class

-- each of some templates, the first of which has a number
abbrev pub ArePatternsInRange : Graph → ℕ → List Pattern → Type 0
ArePatternsInRange graph number [] = Unit {0}
ArePatternsInRange graph number (pattern ∷ patterns) = IsPatternInRange graph number pattern × ArePatternsInRange graph (suc number) patterns

-- Each number in the graph is in range. The scope of a template's parameters is a fact, so there are no more templates
-- than facts.
pub record InRange (graph : Graph) : Type 0 where
  pub facts : EachMayFollow graph [] graph.facts
  pub classes : AreClassesInRange graph graph.classes
  pub patterns : ArePatternsInRange graph 0 graph.patterns
  pub fewer : length graph.patterns ≤ length graph.facts

-- a graph with one more fact
abbrev pub appended : Graph → Fact → Graph
appended graph fact = record graph { facts = graph.facts ++ fact ∷ [] }

-- a graph with one more reserved class
abbrev pub with_class : Graph → Option Specialisation → Graph
with_class graph class = record graph { classes = graph.classes ++ class ∷ [] }

-- a graph with one more template
abbrev pub with_pattern : Graph → Pattern → Graph
with_pattern graph pattern = record graph { patterns = graph.patterns ++ pattern ∷ [] }

-- ---- for what a class was reserved

-- 14.3: the same arguments, whatever types their numbers name
abbrev pub AreSameArguments : List Argument → List Argument → Type 0
AreSameArguments one two = (types : List CxxType) → arguments_at types one ≡ arguments_at types two

-- 14.7.1: the class of the specialisation of a template for some arguments
pub record IsSpecialisationOf (graph : Graph) (template : TemplateId) (arguments : List Argument) (class : ℕ) : Type 0 where
  pub of : Specialisation
  pub stored : slice_get graph.classes class ≡ Some (Some of)
  pub template_is : of.template ≡ template
  pub arguments_are : AreSameArguments of.arguments arguments

-- the class was reserved for the template and the arguments, or for no template
abbrev pub IsReservedFor : Graph → Option TemplateId → List Argument → ℕ → Type 0
IsReservedFor graph None arguments class = slice_get graph.classes class ≡ Some None
IsReservedFor graph (Some template) arguments class = IsSpecialisationOf graph template arguments class

-- there is a class of the specialisation already, and it has this number
abbrev pub IsReservedAlready : Graph → Option TemplateId → List Argument → ℕ → Type 0
IsReservedAlready graph None arguments class = ⊥
IsReservedAlready graph (Some template) arguments class = IsSpecialisationOf graph template arguments class

-- One more class was reserved, and nothing else changed.
pub record IsOneClassMore (old new : Graph) : Type 0 where
  pub class : Option Specialisation
  pub new_is : new ≡ with_class old class
