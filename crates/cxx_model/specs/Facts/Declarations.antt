-- What a unit declares, with types as trees: a graph without the numbers by which a table names them.
use Rattle.std.specs.Prelude.{ℕ, ℤ, Bool, List, [], ◌∷◌, Option, Some, None}
use Rattle.cxx_model.specs.declared.facts.Access.{Access}
use Rattle.cxx_model.specs.declared.facts.Entity.{Entity}
use Rattle.cxx_model.specs.declared.facts.Entity.TheVariants as entity
use Rattle.cxx_model.specs.declared.facts.Fact.{Fact}
use Rattle.cxx_model.specs.declared.facts.FunctionFlags.{FunctionFlags}
use Rattle.cxx_model.specs.declared.facts.MemberKind.{MemberKind}
use Rattle.cxx_model.specs.declared.facts.Name.{Name}
use Rattle.cxx_model.specs.declared.facts.Name.TheVariants as name
use Rattle.cxx_model.specs.declared.facts.ParameterKind.{ParameterKind}
use Rattle.cxx_model.specs.declared.facts.ParameterKind.TheVariants.{OfType, OfValue}
use Rattle.cxx_model.specs.declared.facts.Pattern.{Pattern}
use Rattle.cxx_model.specs.declared.facts.ScopeKind.{ScopeKind}
use Rattle.cxx_model.specs.declared.facts.Specialisation.{Specialisation}
use Rattle.cxx_model.specs.declared.facts.Parameter.{Parameter}
use Rattle.cxx_model.specs.declared.place.Place.{Place}
use Rattle.cxx_model.specs.declared.types.ClassId.{ClassId}
use Rattle.cxx_model.specs.declared.types.FactId.{FactId}
use Rattle.cxx_model.specs.declared.types.ScopeId.{ScopeId}
use Rattle.cxx_model.specs.declared.types.Argument.{Argument}
use Rattle.cxx_model.specs.declared.types.TemplateId.{TemplateId}
use Rattle.cxx_model.specs.declared.types.TypeId.{TypeId}
use Rattle.cxx_model.specs.Facts.Graph.{Graph}
use Rattle.cxx_model.specs.Types.Trees.{CxxType, CxxArgument, CxxArguments}
use Rattle.cxx_model.specs.Types.Numbers.{type_at, tree_at, argument_at, arguments_at}

-- 3: the name that a declaration introduces
pub data CxxName : Type 0 where
  -- what has no name, a constructor among them (12.1)
  unnamed : CxxName
  spelled : List ℕ → CxxName
  -- 13.5: by the number of the operator
  operator_function : ℕ → CxxName
  -- 12.3.2: by the type to which it converts
  conversion_to : CxxType → CxxName
  -- 12.4
  destructor : CxxName

-- what a fact declares
pub data Declares : Type 0 where
  -- 3.3: a scope, in the scope that holds it
  scope : Option ScopeId → ScopeKind → Declares
  -- an object, by its type, whether it is mutable (7.1.1), with the value of a constant, and its first declaration
  object : CxxType → MemberKind → Bool → Option ℤ → Option FactId → Declares
  -- 8.3.5: a function, by its type, with the count of its default arguments, and its first declaration
  function : CxxType → MemberKind → FunctionFlags → ℕ → Option FactId → Declares
  -- 14
  template : TemplateId → MemberKind → ℕ → Bool → Option FactId → Declares
  -- 14.1: a parameter of a template that is no type, by the depth of its list and its index there
  value_parameter : ℕ → ℕ → CxxType → Declares
  -- 9: the name of a class in its own scope
  injected : ClassId → Declares
  class : ClassId → Bool → Declares
  -- 9.2: the end of a class
  complete : ClassId → Declares
  -- a completion that found no definition
  passed : ClassId → Declares
  -- 10: a direct base, by its position
  ancestor : ClassId → ClassId → ℕ → Access → Declares
  -- 7.2
  enumeration : ℕ → Declares
  enumerator : ℕ → ℤ → Declares
  -- 7.1.3
  synonym : CxxType → Declares
  -- 7.3.1
  namespace : ScopeId → Declares
  -- 7.3.4
  directive : ScopeId → Declares
  -- 7.3.3
  using : FactId → Declares
  -- 11.4
  friend : ClassId → FactId → Declares

pub record CxxFact : Type 0 where
  pub place : Place
  pub scope : ℕ
  pub name : CxxName
  pub access : Access
  pub what : Declares

pub record CxxSpecialisation : Type 0 where
  pub template : ℕ
  pub arguments : CxxArguments

-- 14.1: a parameter of a template: a type, or a value of a type; with its default argument
pub record CxxParameter : Type 0 where
  pub of : Option CxxType
  pub fallback : Option CxxArgument

pub record CxxPattern : Type 0 where
  pub parameters : List CxxParameter
  -- 14.5.4: the template of which it is a partial specialisation, and its arguments
  pub primary : Option TemplateId
  pub arguments : CxxArguments
  -- the type of a function template
  pub of : Option CxxType
  -- the class of a class template
  pub class : Option ClassId

pub record CxxGraph : Type 0 where
  pub facts : List CxxFact
  pub classes : List (Option CxxSpecialisation)
  pub patterns : List CxxPattern

-- ---- what facts stand for, given the types of a table

abbrev pub type_of_option : List CxxType → Option TypeId → Option CxxType
type_of_option types None = None
type_of_option types (Some of) = Some (type_at types of.0)

abbrev pub name_at : List CxxType → Name → CxxName
name_at types name.Unnamed = unnamed
name_at types (name.Spelled word) = spelled word
name_at types (name.Operator operator) = operator_function operator
name_at types (name.Conversion of) = conversion_to (type_at types of.0)
name_at types name.Destructor = destructor

abbrev pub declares_at : List CxxType → Entity → Declares
declares_at types (entity.Scope parent kind) = scope parent kind
declares_at types (entity.Object of member is_mutable value first) = object (type_at types of.0) member is_mutable value first
declares_at types (entity.Function of member flags defaults first) = function (type_at types of.0) member flags defaults first
declares_at types (entity.Template number member defaults is_explicit first) = template number member defaults is_explicit first
declares_at types (entity.Parameter depth index of) = value_parameter depth index (type_at types of.0)
declares_at types (entity.Injected number) = injected number
declares_at types (entity.Class number is_union) = class number is_union
declares_at types (entity.Complete number) = complete number
declares_at types (entity.Passed number) = passed number
declares_at types (entity.Ancestor number parent index access) = ancestor number parent index access
declares_at types (entity.Enumeration number) = enumeration number.0
declares_at types (entity.Enumerator number value) = enumerator number.0 value
declares_at types (entity.Synonym of) = synonym (type_at types of.0)
declares_at types (entity.Namespace inner) = namespace inner
declares_at types (entity.Directive nominated) = directive nominated
declares_at types (entity.Using target) = using target
declares_at types (entity.Friend number target) = friend number target

abbrev pub fact_at : List CxxType → Fact → CxxFact
fact_at types fact = record { place = fact.place; scope = fact.scope.0; name = name_at types fact.name; access = fact.access; what = declares_at types fact.what }

abbrev pub facts_at : List CxxType → List Fact → List CxxFact
facts_at types [] = []
facts_at types (fact ∷ facts) = fact_at types fact ∷ facts_at types facts

abbrev pub class_at : List CxxType → Option Specialisation → Option CxxSpecialisation
class_at types None = None
class_at types (Some of) = Some (record { template = of.template.0; arguments = arguments_at types of.arguments })

abbrev pub classes_at : List CxxType → List (Option Specialisation) → List (Option CxxSpecialisation)
classes_at types [] = []
classes_at types (one ∷ others) = class_at types one ∷ classes_at types others

abbrev pub kind_at : List CxxType → ParameterKind → Option CxxType
kind_at types OfType = None
kind_at types (OfValue of) = Some (tree_at types of)

abbrev pub fallback_at : List CxxType → Option Argument → Option CxxArgument
fallback_at types None = None
fallback_at types (Some argument) = Some (argument_at types argument)

abbrev pub parameters_at : List CxxType → List Parameter → List CxxParameter
parameters_at types [] = []
parameters_at types (parameter ∷ others) = record { of = kind_at types parameter.kind; fallback = fallback_at types parameter.fallback } ∷ parameters_at types others

abbrev pub pattern_at : List CxxType → Pattern → CxxPattern
pattern_at types pattern = record { parameters = parameters_at types pattern.parameters; primary = pattern.primary; arguments = arguments_at types pattern.arguments; of = type_of_option types pattern.of; class = pattern.class }

abbrev pub patterns_at : List CxxType → List Pattern → List CxxPattern
patterns_at types [] = []
patterns_at types (pattern ∷ others) = pattern_at types pattern ∷ patterns_at types others

-- a graph, with its types as trees
abbrev pub graph_at : List CxxType → Graph → CxxGraph
graph_at types graph = record { facts = facts_at types graph.facts; classes = classes_at types graph.classes; patterns = patterns_at types graph.patterns }
