-- What holds of the calls of every whole reading, in the words of 13.3.
use Rattle.std.specs.Prelude.{ℕ, ◌≡◌, ◌⊎◌, Bool, ◌&&◌, if◌then◌else◌, List, ◌∷◌, ◌++◌, Option, Some, None, Ok}
use Rattle.std.specs.List.{AllByRecursion}
use Rattle.cxx_model.specs.declared.lookup.Found.{Found}
use Rattle.cxx_model.specs.declared.lookup.Found.TheVariants as sought
use Rattle.cxx_model.specs.declared.lookup.MemberFound.TheVariants as member_found
use Rattle.cxx_model.specs.declared.types.ClassId.{ClassId}
use Rattle.cxx_model.specs.declared.types.FactId.{FactId}
use Rattle.cxx_model.specs.Choice.Better.{IsBest}
use Rattle.cxx_model.specs.Facts.Declarations.{CxxFact, CxxGraph, CxxName}
use Rattle.cxx_model.specs.Types.Trees.{CxxType}
use Rattle.cxx_meaning.specs.Conversions.Standard.{CxxOperand}
use Rattle.cxx_meaning.specs.Lookups.Member.{member}
use Rattle.cxx_meaning.specs.Lookups.Wanted.{any_name}
use Rattle.cxx_reading.specs.declared.region.Region.{Region}
use Rattle.cxx_reading.specs.declared.region.Region.TheVariants as region
use Rattle.cxx_reading.specs.Givers.{with_givers}
use Rattle.cxx_reading.specs.Paths.{name_in, region_of, sought_in}
use Rattle.cxx_reading.specs.Seen.{Numbered, fact_numbers, numbered_at}
use Rattle.cxx_reading.specs.State.{CxxState, CxxCall}
use Rattle.cxx_reading.specs.Trees.{CxxPath, is_plain_path, last_part}
use Rattle.cxx_reading.specs.Units.{CxxReading}
use Rattle.cxx_paths.specs.Behind.{region_behind}
use Rattle.cxx_this.specs.This.{class_at, this_in}
use Rattle.cxx_expr.specs.Calls.{implied_type}
use Rattle.cxx_expr.specs.Implied.{object_with}
use Rattle.cxx_expr.specs.Members.{class_of_object}
use Rattle.cxx_expr.specs.Names.{values_among}
use Rattle.cxx_expr.specs.Operands.{object_operand}
use Rattle.cxx_overload.specs.Calls.{call_of}
use Rattle.cxx_overload.specs.Candidates.{candidates}
use Rattle.cxx_overload.specs.Choices.{beats, position_of}
use Rattle.cxx_overload.specs.Viability.{Rated, rated, viable}
use Rattle.cxx_overload.specs.Words.{IsOutcome}
use Rattle.cxx_answers.specs.Answers.{associated_functions, fresh_among, meant_in}

-- 3.3.7, 3.4.1, 3.4.3, 7.3.4: what a name means that is looked up in a region, but for the types that are hidden there,
-- and behind it the other declarations of its functions that tell their default arguments there (8.3.6)
abbrev pub values_of : CxxGraph → Region → CxxName → List Numbered
values_of graph where_ name = values_among graph (meant_in graph where_ name)

-- 3.4, 10.2: no two declarations are found of which none hides the other, and no two members of a class that do not go
-- together
abbrev pub IsClear : Found → Type 0
IsClear (sought.Ambiguous one two) = ⊥
IsClear (sought.Member class (member_found.Ambiguous one two)) = ⊥
IsClear _ = Unit {0}

-- 3.4.2: the types of arguments are asked for a name that stands in no brackets and has no qualifiers
abbrev pub asked_word : Bool → CxxPath → Option (List ℕ)
asked_word is_open path = if is_open && is_plain_path path then Some (last_part path.parts).word else None

-- 3.4.2: the functions of a name that the types of arguments find, by their first declarations
abbrev pub functions_by_types : CxxGraph → CxxPath → Bool → List CxxOperand → List FactId
functions_by_types graph path is_open operands = associated_functions graph (asked_word is_open path) operands

-- those that the name itself does not mean, with what tells their default arguments in the scope where the call stands
abbrev pub values_besides : CxxGraph → ℕ → Region → CxxPath → Bool → List CxxOperand → List Numbered
values_besides graph scope where_ path is_open operands = with_givers graph scope (numbered_at graph (fresh_among (values_of graph where_ (name_in path)) (functions_by_types graph path is_open operands)))

-- 13.3.1: what a call by a name may mean: what the name means where it is looked up, and what the types of the arguments
-- find besides
abbrev pub values_of_call : CxxGraph → ℕ → Region → CxxPath → Bool → List CxxOperand → List Numbered
values_of_call graph scope where_ path is_open operands = values_of graph where_ (name_in path) ++ values_besides graph scope where_ path is_open operands

-- 13.3.1.1.1: Some functions are those that a call by a name may mean: the scope in which it stands, its name with its
-- qualifiers, whether that stands in no brackets, and where its last part is looked up.
pub record AreOfName (before : CxxGraph) (operands : List CxxOperand) (functions : List Numbered) : Type 0 where
  pub scope : ℕ
  pub path : CxxPath
  pub is_open : Bool
  pub where_ : Region
  pub qualifies : region_of before scope path ≡ Ok where_
  pub clear : IsClear (sought_in before any_name where_ (name_in path))
  pub are : functions ≡ values_of_call before scope where_ path is_open operands

-- 5.2.5, 10.2, 13.3.1.1.1: Some functions are the members with the name that is called of the class of an object. Where the
-- name has qualifiers behind the object, they are those of the class that these mean where the call stands (3.4.5).
pub record AreMembers (before : CxxGraph) (scope : ℕ) (object : CxxOperand) (path : CxxPath) (functions : List Numbered) : Type 0 where
  pub class : ℕ
  pub of_object : class_of_object object ≡ Some class
  -- 3.4.5: the class in which they are sought: without qualifiers that of the object
  pub within : ClassId
  pub qualifies : region_behind before scope (record { 0 = class }) path ≡ Ok (region.Class within)
  pub found : List FactId
  pub way : List ℕ
  pub finds : member before any_name within (name_in path) ≡ Ok (member_found.Set found way)
  pub are : functions ≡ values_among before (numbered_at before (fact_numbers found))

-- the same in whatever scope, by whatever name
pub record AreOfObject (before : CxxGraph) (object : CxxOperand) (functions : List Numbered) : Type 0 where
  pub scope : ℕ
  pub path : CxxPath
  pub are : AreMembers before scope object path functions

-- 9.3.1, 13.3.1.1.1 p3: Some functions are those of a class that a name means in a scope, without an object that is written, by
-- whether a default argument stands there. Their object is that for which the function round the call is called, or one that is
-- made up.
pub record AreImpliedIn (before : CxxGraph) (scope : ℕ) (path : CxxPath) (in_default : Bool) (object : CxxOperand) (functions : List Numbered) : Type 0 where
  -- 3.4.1, 3.4.3.1: where it is looked up: outward from the scope, or in what its qualifiers mean
  pub where_ : Region
  pub qualifies : region_of before scope path ≡ Ok where_
  -- 3.4, 10.2: what is found of it there is clear
  pub clear : IsClear (sought_in before any_name where_ (name_in path))
  -- 3.3.7, 10.2: the functions are what it means there; the types of arguments find none besides (3.4.2)
  pub are : functions ≡ values_of before where_ (name_in path)
  -- 9.2: the first of them stands in the scope of a class
  pub one : Numbered
  pub others : List Numbered
  pub first : functions ≡ one ∷ others
  pub class : CxxType
  pub of_class : class_at before one.fact.scope ≡ Some class
  -- 9.3.2, 8.3.6, 13.3.1.1.1 p3: the object is `*this`, where the scope stands in the body of a function that has one, outside of
  -- default arguments, and its class is that of the functions or derived from it; else it is one of the class of the functions
  pub is_object : object ≡ object_operand (implied_type class (object_with before one.fact.scope (this_in before scope in_default)))

-- the same in whatever scope, by whatever name
pub record AreImplied (before : CxxGraph) (object : CxxOperand) (functions : List Numbered) : Type 0 where
  pub scope : ℕ
  pub path : CxxPath
  pub in_default : Bool
  pub are : AreImpliedIn before scope path in_default object functions

-- 13.3.1.1.1: Which functions a call may mean, with its object, where it has one, and its arguments. The object stands before
-- `.` or `->`, or the call is one by a name without an object that means functions of a class.
abbrev pub MayMean : CxxGraph → Option CxxOperand → List CxxOperand → List Numbered → Type 0
MayMean before None operands functions = AreOfName before operands functions
MayMean before (Some object) operands functions = AreOfObject before object functions ⊎ AreImplied before object functions

-- 13.3.2: a function can be called with the object and the arguments, or it is not viable for the first reason that holds
abbrev pub IsRatedSo : CxxGraph → Option CxxOperand → List CxxOperand → Rated → Type 0
IsRatedSo graph object operands one = IsOutcome graph object operands one.candidate one.sequences one.outcome

-- The call means one of the functions that its name means among the declarations before it, or that the types of its
-- arguments find among them, or of the members of the class of its object, or of the class that is written before it, or of
-- those of a class that its name means without an object: the one that is viable and better than every other viable one.
pub record IsBestCall (state : CxxState) (call : CxxCall) : Type 0 where
  -- what is declared before the call, and behind it
  pub before : CxxGraph
  pub later : List CxxFact
  pub stands : state.graph.facts ≡ before.facts ++ later
  -- its object, where it has one, its arguments, and all functions that it may mean
  pub object : Option CxxOperand
  pub operands : List CxxOperand
  pub functions : List Numbered
  pub may_mean : MayMean before object operands functions
  -- these with the sequences of the object and the arguments
  pub all : List Rated
  pub rated_so : rated before object operands (candidates functions) ≡ Ok all
  -- why each that is not viable is not
  pub reasons : AllByRecursion (IsRatedSo before object operands) all
  -- the function that is meant
  pub meant : Rated
  pub best : IsBest position_of (beats before) (viable all) meant
  -- its object and its arguments, its candidates, their outcomes, the rows of those that are viable, and the chosen one
  pub keeps : call ≡ call_of call.place object operands (position_of meant) all

abbrev pub AreBestCalls : CxxState → Type 0
AreBestCalls state = AllByRecursion (IsBestCall state) state.calls

abbrev pub EachCallIsBest : CxxReading → Type 0
EachCallIsBest reading = AreBestCalls reading.state
