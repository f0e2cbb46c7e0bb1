-- What is asked to find what an expression means, answered by the declarations so far (3.4, 5.3.3, 5.19, 13.3).
use Rattle.std.specs.Prelude.{ℕ, zero, ◌^◌, nat_eq, nat_lt, ℤ, pos, negsuc, Bool, true, false, not, ◌&&◌, ◌||◌, if◌then◌else◌, List, [], ◌∷◌, ◌++◌, length, Option, Some, None, Result, Ok, Err}
use Rattle.std.specs.List.{slice_get}
use Rattle.cxx_model.specs.declared.facts.MemberKind.{MemberKind}
use Rattle.cxx_model.specs.declared.facts.MemberKind.TheVariants as member_kind
use Rattle.cxx_model.specs.declared.fault.FaultText.TheVariants as says
use Rattle.cxx_model.specs.declared.fault.LeftOut.TheVariants as form
use Rattle.cxx_model.specs.declared.limits.TheConstants as limits
use Rattle.cxx_model.specs.declared.lookup.Associated.{Associated}
use Rattle.cxx_model.specs.declared.place.Place.{Place}
use Rattle.cxx_model.specs.declared.stop.LimitKind.TheVariants.{Arguments}
use Rattle.cxx_model.specs.declared.types.ClassId.{ClassId}
use Rattle.cxx_model.specs.declared.types.FactId.{FactId}
use Rattle.cxx_model.specs.Facts.Declarations as facts
use Rattle.cxx_model.specs.Facts.Declarations.{CxxGraph, CxxName, Declares, spelled}
use Rattle.cxx_model.specs.Stops.{Answer, Stopped, Limited, ◌>>=◌, fault, undeclared_at}
use Rattle.cxx_model.specs.Types.Trees.{CxxType}
use Rattle.cxx_meaning.specs.declared.size.SizeReason.{SizeReason}
use Rattle.cxx_meaning.specs.declared.size.SizeReason.TheVariants as reason
use Rattle.cxx_meaning.specs.Conversions.Asking.{Asked}
use Rattle.cxx_meaning.specs.Conversions.Sizes as sizes
use Rattle.cxx_meaning.specs.Conversions.Standard.{CxxOperand}
use Rattle.cxx_meaning.specs.Lookups.Associated.{adl, associated}
use Rattle.cxx_meaning.specs.Lookups.Wanted.{any_name}
use Rattle.cxx_constant.specs.Constants.{CxxFault, CxxValue, not_constant, overflow, divide_by_zero, constant}
use Rattle.cxx_reading.specs.declared.region.Region.{Region}
use Rattle.cxx_reading.specs.Givers.{giver, scope_in, with_givers}
use Rattle.cxx_reading.specs.Initializers.{with_call}
use Rattle.cxx_reading.specs.Linked.{is_space_at}
use Rattle.cxx_reading.specs.Paths.{found_in, name_in, region_of, scope_of_region, sought_in, unambiguous}
use Rattle.cxx_reading.specs.Reads.{Asks}
use Rattle.cxx_reading.specs.Seen.{Numbered, numbered_at}
use Rattle.cxx_reading.specs.State.{CxxGiven, CxxState}
use Rattle.cxx_reading.specs.Trees.{CxxTree, CxxPath, last_part}
use Rattle.cxx_overload.specs.Calls.{CxxDecision, decided}
use Rattle.cxx_tree.specs.Defaults.{first_given}
use Rattle.cxx_tree.specs.Uses.{with_use}
use Rattle.cxx_expr.specs.Questions.{Questions, CxxQuestion, CxxChosen}
use Rattle.cxx_answers.specs.Members.{member_here, naming_here, qualifier_here}

-- ---- names (3.4.1)

-- an object that is no member of a class
abbrev pub is_free : MemberKind → Bool
is_free member_kind.Free = true
is_free _ = false

abbrev pub is_free_object : Declares → Bool
is_free_object (facts.object of kind is_mutable value first) = is_free kind
is_free_object _ = false

-- 8.3.6: an object whose first declaration stands in a block or among parameters; members of classes are none
abbrev pub is_local : CxxGraph → Numbered → Bool
is_local graph one = is_free_object one.fact.what && not (is_space_at graph one.fact.scope)

abbrev pub names_local : CxxGraph → List Numbered → Bool
names_local graph [] = false
names_local graph (one ∷ others) = is_local graph one || names_local graph others

-- what a name means that is looked up in a region, where it is not ambiguous: its entities by their first declarations, and
-- behind them the declarations of functions that tell their default arguments there (8.3.6)
abbrev pub meant_in : CxxGraph → Region → CxxName → List Numbered
meant_in graph where_ name = with_givers graph (scope_of_region where_) (found_in graph where_ name)

-- whether a declaration is that of the object which the last condition declares, in a scope
abbrev pub is_tested : Option ℕ → ℕ → Numbered → Bool
is_tested None scope one = false
is_tested (Some number) scope one = nat_eq one.number number && nat_eq one.fact.scope scope

abbrev pub names_tested : Option ℕ → ℕ → List Numbered → Bool
names_tested tested scope [] = false
names_tested tested scope (one ∷ others) = is_tested tested scope one || names_tested tested scope others

-- 8.3.6: a default argument means no local object. 6.5.3: What a `for` does behind each turn does not name the object that its
-- condition declares, which stands in the scope of the `for` itself.
abbrev pub name_meant : CxxPath → List Numbered → Asks CxxState (List Numbered)
name_meant path all state =
    if state.in_default && names_local state.graph all then Err (fault (last_part path.parts).place says.OperandsDoNotFit) else (
    if state.in_step && names_tested state.tested state.here.scope all then Err (fault (last_part path.parts).place (says.LeftOut form.ConditionNameInStep)) else
    Ok (all, state))

-- 3.4: what it may mean is told apart
abbrev pub name_in_region : CxxPath → Region → Asks CxxState (List Numbered)
name_in_region path where_ state = unambiguous state.graph (last_part path.parts) (sought_in state.graph any_name where_ (name_in path)) >>= λ is_one. name_meant path (meant_in state.graph where_ (name_in path)) state

-- its qualifiers first
unfoldable pub name_here : CxxPath → Asks CxxState (List Numbered)
name_here path state = region_of state.graph state.here.scope path >>= λ where_. name_in_region path where_ state

unfoldable pub bound_here : Place → ℕ → Asks CxxState (Unit {0})
bound_here place target state = Ok (tt, with_use place target state)

-- ---- calls (13.3)

abbrev pub chosen_as : ℕ → CxxDecision → CxxChosen
chosen_as number one = record { target = one.meant.number; parameters = one.meant.parameters; result = one.meant.result; ellipsis = one.meant.ellipsis; number = number }

abbrev pub called_as : CxxState → Answer CxxDecision → Answer (CxxChosen × CxxState)
called_as state (Ok one) = Ok (chosen_as (length state.calls) one, with_call one.call state)
called_as state (Err why) = Err why

abbrev pub types_of_operands : List CxxOperand → List CxxType
types_of_operands [] = []
types_of_operands (operand ∷ others) = operand.of ∷ types_of_operands others

-- what is found in the namespaces of some types; a unit without classes asks for none
abbrev pub found_in_sets : CxxGraph → List ℕ → Result Associated ClassId → List FactId
found_in_sets graph word (Ok sets) = adl graph sets (spelled word) (length graph.facts)
found_in_sets graph word (Err class) = []

-- 3.4.2: the functions of a name that the types of arguments find, by their first declarations
abbrev pub associated_functions : CxxGraph → Option (List ℕ) → List CxxOperand → List FactId
associated_functions graph None operands = []
associated_functions graph (Some word) operands = found_in_sets graph word (associated graph (types_of_operands operands))

abbrev pub has_number : ℕ → List Numbered → Bool
has_number number [] = false
has_number number (one ∷ others) = nat_eq one.number number || has_number number others

-- those that are not there yet
abbrev pub fresh_among : List Numbered → List FactId → List ℕ
fresh_among functions [] = []
fresh_among functions (one ∷ others) = if has_number one.0 functions then fresh_among functions others else one.0 ∷ fresh_among functions others

-- what a call may mean: what its name means where it stands, and what the types of its arguments find besides
unfoldable pub functions_of_call : CxxGraph → ℕ → CxxQuestion → List Numbered
functions_of_call graph scope question = question.functions ++ with_givers graph scope (numbered_at graph (fresh_among question.functions (associated_functions graph question.word question.operands)))

abbrev pub word_or_none : Option (List ℕ) → List ℕ
word_or_none None = []
word_or_none (Some word) = word

abbrev pub decided_among : CxxQuestion → CxxState → List Numbered → Answer CxxDecision
decided_among question state [] = Err (undeclared_at question.place (word_or_none question.word))
decided_among question state (one ∷ others) = decided question.place question.object question.operands state.graph (one ∷ others)

-- there is a limit on how many arguments a call has
unfoldable pub call_here : CxxQuestion → Asks CxxState CxxChosen
call_here question state =
    if nat_lt limits.MOST_ARGUMENTS (length question.operands) then Err (Limited Arguments) else
    called_as state (decided_among question state (functions_of_call state.graph state.here.scope question))

-- ---- sizes (5.3.3)

-- a class that is not complete has none
abbrev pub size_or_none : Asked (Result ℕ SizeReason) → Result ℕ SizeReason
size_or_none (Ok size) = size
size_or_none (Err class) = Err reason.NoSize

unfoldable pub size_here : CxxType → Asks CxxState (Result ℕ SizeReason)
size_here of state = Ok (size_or_none (sizes.size_of state.graph of), state)

-- ---- constants (5.19)

abbrev pub is_zero_value : CxxValue → Bool
is_zero_value (Ok (pos zero)) = true
is_zero_value _ = false

unfoldable pub is_null_here : CxxTree → CxxState → Bool
is_null_here tree state = is_zero_value (constant state.graph tree)

-- What is no constant is so at its first token; an operator gives no value at its own place.
abbrev pub constant_fault : CxxFault → Stopped
constant_fault (not_constant tree) = fault tree.label.start says.NotAConstant
constant_fault (overflow tree) = fault tree.label.place says.ConstantOverflow
constant_fault (divide_by_zero tree) = fault tree.label.place says.DivisionByZero

-- 3.9.1: no type holds a value from 2 ^ 64 on
abbrev pub is_held : ℤ → Bool
is_held (pos n) = nat_lt n (2 ^ 64)
is_held (negsuc n) = true

abbrev pub constant_by : CxxState → CxxTree → CxxValue → Answer (ℤ × CxxState)
constant_by state tree (Ok value) = if is_held value then Ok (value, state) else Err (fault tree.label.place says.ConstantOverflow)
constant_by state tree (Err why) = Err (constant_fault why)

unfoldable pub constant_here : CxxTree → Asks CxxState ℤ
constant_here tree state = constant_by state tree (constant state.graph tree)

-- ---- default arguments (8.3.6)

-- one that was not read yet is not there (9.2 p2)
abbrev pub fallback_by : Place → CxxState → Option CxxGiven → Answer (CxxTree × CxxState)
fallback_by place state None = Err (fault place says.OperandsDoNotFit)
fallback_by place state (Some given) = Ok (given.tree, state)

-- where nothing tells them, the first declaration does: that of a function of a class
abbrev pub scope_of_giver : CxxGraph → ℕ → Option Numbered → ℕ
scope_of_giver graph function None = scope_in (slice_get graph.facts function)
scope_of_giver graph function (Some one) = one.fact.scope

-- that of the parameter with an index, as a declaration gave it in the scope that tells the default arguments where the
-- called name is looked up
unfoldable pub fallback_here : CxxPath → ℕ → ℕ → Asks CxxState CxxTree
fallback_here path function index state = region_of state.graph state.here.scope path >>= λ where_. fallback_by (last_part path.parts).place state (first_given state.graph.facts (scope_of_giver state.graph function (giver state.graph (scope_of_region where_) function)) function index state.given)

-- ---- all questions

-- what is asked to find what an expression means
unfoldable pub questions : Questions
questions = record {
  name = name_here;
  naming = naming_here;
  member = member_here;
  bound = bound_here;
  call = call_here;
  fallback = fallback_here;
  size = size_here;
  qualifier = qualifier_here;
  is_null = is_null_here;
}
