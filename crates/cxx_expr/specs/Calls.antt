-- Calls (5.2.2).
use Rattle.std.specs.Prelude.{ℕ, zero, suc, ◌+◌, ◌-◌, Bool, true, false, not, ◌&&◌, ◌||◌, nat_eq, nat_lt, if◌then◌else◌, List, [], ◌∷◌, ◌++◌, length, Option, Some, None, Ok, Err, codes}
use Rattle.cxx_model.specs.declared.fault.FaultText.TheVariants as says
use Rattle.cxx_model.specs.declared.place.Place.{Place}
use Rattle.cxx_model.specs.Stops.{Stopped, fault, not_built_at}
use Rattle.cxx_model.specs.Facts.Declarations.{CxxGraph}
use Rattle.cxx_model.specs.Types.Trees.{CxxType, function_of}
use Rattle.cxx_meaning.specs.Conversions.BuiltIn.{operand_kind}
use Rattle.cxx_meaning.specs.Conversions.Kinds.{CxxKind, pointing}
use Rattle.cxx_meaning.specs.Conversions.Standard.{CxxOperand}
use Rattle.cxx_meaning.specs.Lookups.Wanted.{is_function}
use Rattle.cxx_reading.specs.Choosing.{each_type}
use Rattle.cxx_reading.specs.Initializers.{operand_of}
use Rattle.cxx_reading.specs.Plain.{target_or}
use Rattle.cxx_reading.specs.Reads.{Asks}
use Rattle.cxx_reading.specs.Seen.{Numbered}
use Rattle.cxx_reading.specs.State.{CxxState}
use Rattle.cxx_reading.specs.Trees.{CxxPath, CxxPathPart, CxxTree, Label, children_of, is_plain_path, tree_of}
use Rattle.cxx_this.specs.This.{class_at}
use Rattle.cxx_expr.specs.declared.production.TheConstants as production
use Rattle.cxx_expr.specs.Asking.{◌>>=◌, fault_at, give}
use Rattle.cxx_expr.specs.Converting.{convert_each}
use Rattle.cxx_expr.specs.Implied.{member_label, named_here, object_for, object_tree}
use Rattle.cxx_expr.specs.Members.{class_of_object}
use Rattle.cxx_expr.specs.Names.{is_function_at, is_none_left, means_object, path_in, static_class, values_among, word_in}
use Rattle.cxx_expr.specs.Operands.{is_none, is_of_class, judged_each, object_operand, only, result_operand}
use Rattle.cxx_expr.specs.Operators.{misshapen}
use Rattle.cxx_expr.specs.Questions.{CxxChosen, CxxQuestion, Questions}
use Rattle.cxx_expr.specs.Steps.{class_before, declaring, is_static_at, kept_by, member_over, object_called, or_own, shared, step_to, written}

-- ---- default arguments

-- one more behind other arguments
unfoldable pub fallback_more : Questions → CxxPath → ℕ → ℕ → List CxxTree → Asks CxxState (List CxxTree)
fallback_more q path target index done = do
  next ← q.fallback path target index
  give (done ++ next ∷ [])

-- 8.3.6: the default arguments of so many parameters, the first of which has an index, in a call by a name
unfoldable pub fallbacks : Questions → CxxPath → ℕ → ℕ → List CxxTree → ℕ → Asks CxxState (List CxxTree)
fallbacks q path target index done zero = give done
fallbacks q path target index done (suc count) = do
  more ← fallback_more q path target index done
  fallbacks q path target (index + 1) more count

-- ---- a call of a function by its name (13.3.1.1.1)

-- the type of the call of a static member is its class (9.4)
abbrev pub chosen_tree : CxxTree → CxxChosen → Option CxxType → List CxxTree → CxxTree
chosen_tree tree chosen class arguments = tree_of (record tree.label { of = class; operand = Some (result_operand chosen.result); target = Some chosen.target; call = Some chosen.number }) arguments

abbrev pub chosen_as : CxxTree → CxxChosen → List CxxTree → Asks CxxState CxxTree
chosen_as tree chosen arguments state = Ok (chosen_tree tree chosen (static_class state.graph chosen.target) arguments, state)

-- What the call is once it is known which function it means. Before the arguments are converted it is asked for the default
-- arguments behind them.
unfoldable pub chosen_call : Questions → CxxTree → List CxxTree → CxxChosen → Asks CxxState CxxTree
chosen_call q tree arguments chosen = do
  noted ← q.bound tree.label.place chosen.target
  behind ← fallbacks q (path_in tree.label) chosen.target (length arguments) [] (length chosen.parameters - length arguments)
  given ← convert_each q tree.label.place chosen.parameters [] arguments
  chosen_as tree chosen (given ++ behind)

-- 3.4.2: whether the called name stands in no brackets and has no qualifiers
abbrev pub is_bare : Label → Bool
is_bare label = is_none_left label.spelling && is_plain_path (path_in label)

-- 3.4.2: the name, where it is bare
abbrev pub bare_word : Bool → List ℕ → Option (List ℕ)
bare_word true word = Some word
bare_word false word = None

abbrev pub question : Questions → Label → List Numbered → List CxxTree → CxxState → CxxQuestion
question q label functions arguments state = record { place = label.place; word = bare_word (is_bare label) (word_in label).word; functions = functions; object = None; operands = judged_each q arguments state }

unfoldable pub function_call : Questions → CxxTree → List Numbered → List CxxTree → Asks CxxState CxxTree
function_call q tree functions arguments state = (q.call (question q tree.label functions arguments state) >>= chosen_call q tree arguments) state

-- ---- a call of what an expression gives

-- the type of a function
pub record Signature : Type 0 where
  pub result : CxxType
  pub parameters : List CxxType
  pub ellipsis : Bool

abbrev pub signature_of : CxxType → Option Signature
signature_of (function_of result parameters ellipsis cv) = Some (record { result = result; parameters = each_type parameters; ellipsis = ellipsis })
signature_of _ = None

-- 5.2.2: the function that is called, or to which a pointer points
abbrev pub signature_by : CxxKind → Option Signature
signature_by (pointing of) = signature_of of
signature_by _ = None

abbrev pub fits_count : Signature → ℕ → Bool
fits_count signature count = not (nat_lt count (length signature.parameters)) && (signature.ellipsis || nat_eq count (length signature.parameters))

-- over what is called and the arguments behind it
abbrev pub through_tree : CxxTree → CxxType → List CxxTree → CxxTree
through_tree tree result parts = tree_of (record tree.label { place = tree.label.start; operand = Some (result_operand result) }) parts

unfoldable pub through_signature : Questions → CxxTree → CxxTree → List CxxTree → Signature → Asks CxxState CxxTree
through_signature q tree callee arguments signature = do
  parts ← convert_each q tree.label.start signature.parameters (callee ∷ []) arguments
  give (through_tree tree signature.result parts)

abbrev pub through_counted : Questions → CxxTree → CxxTree → List CxxTree → Signature → Asks CxxState CxxTree
through_counted q tree callee arguments signature state =
    if fits_count signature (length arguments) then through_signature q tree callee arguments signature state else
    Err (fault tree.label.start says.NoConversion)

-- the operator of a class that is called is not read yet; else there is nothing to call
abbrev pub no_callee : Place → CxxTree → Stopped
no_callee start callee = if is_of_class callee then not_built_at start else fault start says.OperandsDoNotFit

abbrev pub through_by : Questions → CxxTree → CxxTree → List CxxTree → Option Signature → Asks CxxState CxxTree
through_by q tree callee arguments (Some signature) state = through_counted q tree callee arguments signature state
through_by q tree callee arguments None state = Err (no_callee tree.label.start callee)

-- The place of such a call is that of the first token of what is called.
unfoldable pub through : Questions → CxxTree → CxxTree → List CxxTree → Asks CxxState CxxTree
through q tree callee arguments = through_by q tree callee arguments (signature_by (operand_kind (operand_of callee)))

-- ---- a call of a member of an object (13.3.1.1.1)

abbrev pub is_selection : ℕ → Bool
is_selection number = nat_eq number production.MEMBER || nat_eq number production.ARROW

-- whether functions of the class of an object are called
abbrev pub calls_member : CxxGraph → Label → Bool
calls_member graph callee = is_selection callee.production && is_function_at graph (target_or callee.target)

-- The object has the type of what is called. Whatever it is, a function of its class may be called for it (13.3.1 p5).
abbrev pub member_question : Questions → Label → CxxType → List Numbered → List CxxTree → CxxState → CxxQuestion
member_question q callee of functions arguments state = record { place = (word_in callee).place; word = None; functions = functions; object = Some (object_operand of); operands = judged_each q arguments state }

-- what is called, once it is known which function that is
abbrev pub callee_meant : CxxTree → ℕ → CxxOperand → CxxTree
callee_meant callee target operand = record { label = record callee.label { operand = Some operand; target = Some target }; children = callee.children }

abbrev pub callee_as : CxxTree → CxxChosen → CxxState → CxxTree
callee_as callee chosen state = callee_meant callee chosen.target (means_object state.graph chosen.target chosen.result).operand

-- over what is called and the arguments behind it
abbrev pub member_call_tree : CxxTree → Place → CxxChosen → List CxxTree → CxxTree
member_call_tree tree place chosen parts = tree_of (record tree.label { place = place; operand = Some (result_operand chosen.result); target = Some chosen.target; call = Some chosen.number }) parts

-- 8.3.6: the name behind an object alone, by which the default arguments are asked for
abbrev pub name_alone : CxxPathPart → CxxPath
name_alone part = record { global = false; parts = record part { arguments = None } ∷ [] }

-- over what is called, the arguments, and the default arguments behind them
unfoldable pub member_converted : Questions → CxxTree → Place → CxxTree → List CxxTree → CxxChosen → List CxxTree → Asks CxxState CxxTree
member_converted q tree place callee arguments chosen behind = do
  parts ← convert_each q place chosen.parameters (callee ∷ []) arguments
  give (member_call_tree tree place chosen (parts ++ behind))

abbrev pub member_meant : Questions → CxxTree → CxxTree → List CxxTree → CxxChosen → List CxxTree → Asks CxxState CxxTree
member_meant q tree callee arguments chosen behind state = member_converted q tree (word_in callee.label).place (callee_as callee chosen state) arguments chosen behind state

-- what is called, with the class that stands before its name
abbrev pub qualified : CxxTree → Option CxxType → CxxTree
qualified callee class = record { label = record callee.label { of = class }; children = callee.children }

-- 9.4: a static function has no object, and is one of the object's class
abbrev pub static_over : CxxTree → CxxType → Option CxxType → Option CxxType → Asks CxxState CxxTree
static_over callee of class declared state = kept_by (qualified callee (class_before false of class declared)) state (shared state.graph (word_in callee.label).place of class declared)

unfoldable pub based_on : Questions → CxxTree → CxxType → Option CxxType → Option CxxType → CxxTree → Asks CxxState CxxTree
based_on q callee of class declared object = do
  first ← step_to q (word_in callee.label).place of of class object
  second ← step_to q (word_in callee.label).place of (or_own class of) declared first
  give (member_over callee second (class_before (operand_of object).lvalue of class declared))

abbrev pub based_by : Questions → CxxTree → CxxType → Option CxxType → Option CxxType → Option CxxTree → Asks CxxState CxxTree
based_by q callee of class declared None = misshapen callee
based_by q callee of class declared (Some one) = based_on q callee of class declared (object_called callee of one)

-- 10.2, 13.3.1.1.1: A function is called for its object as one of the class that is written before it, and as one of the class
-- that declares it.
unfoldable pub based : Questions → CxxTree → CxxType → Option CxxType → ℕ → Asks CxxState CxxTree
based q callee of class target state =
    if is_static_at state.graph target then static_over callee of class (declaring state.graph target) state else
    based_by q callee of class (declaring state.graph target) (only (children_of callee)) state

-- what the call is once it is known which function it means, given the type of the object
unfoldable pub member_chosen : Questions → CxxTree → CxxTree → CxxType → Option CxxType → List CxxTree → CxxChosen → Asks CxxState CxxTree
member_chosen q tree callee of class arguments chosen = do
  noted ← q.bound (word_in callee.label).place chosen.target
  behind ← fallbacks q (name_alone (word_in callee.label)) chosen.target (length arguments) [] (length chosen.parameters - length arguments)
  over ← based q callee of class chosen.target
  member_meant q tree over arguments chosen behind

unfoldable pub member_function_call : Questions → CxxTree → CxxTree → CxxType → Option CxxType → List CxxTree → List Numbered → Asks CxxState CxxTree
member_function_call q tree callee of class arguments functions state = (q.call (member_question q callee.label of functions arguments state) >>= member_chosen q tree callee of class arguments) state

-- the members with the name that is called
unfoldable pub member_among : Questions → CxxTree → CxxTree → CxxType → Option CxxType → List CxxTree → List Numbered → Asks CxxState CxxTree
member_among q tree callee of class arguments all state = member_function_call q tree callee of class arguments (values_among state.graph all) state

abbrev pub member_within : Questions → CxxTree → CxxTree → CxxType → List CxxTree → ℕ → Asks CxxState CxxTree
member_within q tree callee of arguments class = q.member class (path_in callee.label) >>= member_among q tree callee of (written (path_in callee.label) (Some class)) arguments

-- 3.4.5: of the object's class, or of the class that is written
unfoldable pub member_in : Questions → CxxTree → CxxTree → CxxType → List CxxTree → ℕ → Asks CxxState CxxTree
member_in q tree callee of arguments class = q.naming class (path_in callee.label) >>= member_within q tree callee of arguments

abbrev pub member_of : Questions → CxxTree → CxxTree → CxxType → List CxxTree → Option ℕ → Asks CxxState CxxTree
member_of q tree callee of arguments None = misshapen tree
member_of q tree callee of arguments (Some class) = member_in q tree callee of arguments class

abbrev pub member_typed : Questions → CxxTree → CxxTree → List CxxTree → Option CxxType → Asks CxxState CxxTree
member_typed q tree callee arguments None = misshapen tree
member_typed q tree callee arguments (Some of) = member_of q tree callee of arguments (class_of_object (object_operand of))

unfoldable pub member_call : Questions → CxxTree → CxxTree → List CxxTree → Asks CxxState CxxTree
member_call q tree callee arguments = member_typed q tree callee arguments callee.label.of

-- ---- the name that is called

-- The name reaches up to the arguments.
abbrev pub behind_called : Label → List CxxTree → ℕ
behind_called label [] = label.last
behind_called label (tree ∷ trees) = tree.label.first

-- the name that is called, with the brackets round it, as an expression
abbrev pub called_label : Label → List CxxTree → Label
called_label label arguments = record label { production = production.NAME; spelling = []; last = behind_called label arguments }

-- the call, where the name is an expression of its own
abbrev pub without_name : CxxTree → CxxTree
without_name tree = record { label = record tree.label { spelling = []; path = None }; children = tree.children }

-- ---- a call of a member by its name without an object (13.3.1.1.1 p3)

-- the type of the object: that of `*this`, where it has the members, and else of one that is made up
abbrev pub implied_type : CxxType → Option CxxType → CxxType
implied_type class None = class
implied_type class (Some of) = of

-- the types of the arguments find nothing besides (3.4.2)
abbrev pub implied_question : Questions → Label → List Numbered → CxxType → List CxxTree → CxxState → CxxQuestion
implied_question q label functions of arguments state = record { place = label.place; word = None; functions = functions; object = Some (object_operand of); operands = judged_each q arguments state }

-- what is called, as `.` would select it
abbrev pub implied_callee : Label → CxxType → CxxTree
implied_callee label of = tree_of (record (member_label label (codes "(")) { of = Some of }) (object_tree label of ∷ [])

abbrev pub implied_of : Questions → CxxTree → List CxxTree → CxxType → CxxChosen → Asks CxxState CxxTree
implied_of q tree arguments of chosen state = member_chosen q (without_name tree) (implied_callee (called_label tree.label arguments) of) of (written (path_in tree.label) (q.qualifier (path_in tree.label) state)) arguments chosen state

-- a function that belongs to an object is not called without one
abbrev pub implied_member : Questions → CxxTree → List CxxTree → Option CxxType → CxxChosen → Asks CxxState CxxTree
implied_member q tree arguments None chosen = fault_at tree.label.place says.OperandsDoNotFit
implied_member q tree arguments (Some of) chosen = implied_of q tree arguments of chosen

-- 9.4: for a static function the object says nothing
unfoldable pub implied_chosen : Questions → CxxTree → List CxxTree → Option CxxType → CxxChosen → Asks CxxState CxxTree
implied_chosen q tree arguments object chosen state =
    if is_none (static_class state.graph chosen.target) then implied_member q tree arguments object chosen state else chosen_call q tree arguments chosen state

-- given the class of the functions, and the object that they have
unfoldable pub implied_call : Questions → CxxTree → List Numbered → List CxxTree → CxxType → Option CxxType → Asks CxxState CxxTree
implied_call q tree functions arguments class object state =
    (q.call (implied_question q tree.label functions (implied_type class object) arguments state) >>= implied_chosen q tree arguments object) state

-- ---- a call by a name

unfoldable pub value_call : Questions → CxxTree → List Numbered → List CxxTree → Asks CxxState CxxTree
value_call q tree all arguments = do
  callee ← named_here q (called_label tree.label arguments) all
  through q (without_name tree) callee arguments

-- 3.4.2: whether a bare name means nothing where it stands
abbrev pub is_asked_for : Label → List Numbered → Bool
is_asked_for label [] = is_bare label
is_asked_for label (one ∷ others) = false

-- given the class in whose scope the first of them stands, where there is one
abbrev pub functions_called : Questions → CxxTree → List Numbered → List CxxTree → ℕ → Option CxxType → Asks CxxState CxxTree
functions_called q tree functions arguments scope None state = function_call q tree functions arguments state
functions_called q tree functions arguments scope (Some class) state = implied_call q tree functions arguments class (object_for state scope) state

abbrev pub called_first : Questions → CxxTree → List Numbered → List CxxTree → List Numbered → Asks CxxState CxxTree
called_first q tree all arguments [] state = if is_asked_for tree.label all then function_call q tree [] arguments state else value_call q tree all arguments state
called_first q tree all arguments (one ∷ others) state =
    if is_function state.graph one.fact.what then functions_called q tree (one ∷ others) arguments one.fact.scope (class_at state.graph one.fact.scope) state else
    value_call q tree all arguments state

-- A name that has these declarations is called: a function among them hides the types, and is looked for by its arguments.
-- So is what is not declared where it stands: the types of the arguments may find it (3.4.2).
unfoldable pub called : Questions → CxxTree → List CxxTree → List Numbered → Asks CxxState CxxTree
called q tree arguments all state = called_first q tree all arguments (values_among state.graph all) state

unfoldable pub name_call : Questions → CxxTree → List CxxTree → Asks CxxState CxxTree
name_call q tree arguments = q.name (path_in tree.label) >>= called q tree arguments

-- ---- both

abbrev pub split_first : List CxxTree → Option (CxxTree × List CxxTree)
split_first [] = None
split_first (callee ∷ arguments) = Some (callee, arguments)

abbrev pub expression_call : Questions → CxxTree → Option (CxxTree × List CxxTree) → Asks CxxState CxxTree
expression_call q tree None state = misshapen tree state
expression_call q tree (Some parts) state = if calls_member state.graph parts.0.label then member_call q tree parts.0 parts.1 state else through q tree parts.0 parts.1 state

unfoldable pub call : Questions → CxxTree → Asks CxxState CxxTree
call q tree state = if is_none tree.label.path then expression_call q tree (split_first (children_of tree)) state else name_call q tree (children_of tree) state
