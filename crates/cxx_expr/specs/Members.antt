-- Members of objects, and of what is pointed to (5.2.5).
use Rattle.std.specs.Prelude.{ℕ, Bool, true, false, ◌&&◌, ◌==◌, if◌then◌else◌, List, [], ◌∷◌, Option, Some, None, Ok, Err}
use Rattle.cxx_model.specs.declared.fault.FaultText.TheVariants as says
use Rattle.cxx_model.specs.declared.facts.MemberKind.{MemberKind}
use Rattle.cxx_model.specs.declared.place.Place.{Place}
use Rattle.cxx_model.specs.declared.punct.TheConstants as punct
use Rattle.cxx_model.specs.declared.sequence.ConstantKind.TheVariants as constant
use Rattle.cxx_model.specs.declared.types.Cv.{Cv}
use Rattle.cxx_model.specs.Facts.Declarations as facts
use Rattle.cxx_model.specs.Facts.Declarations.{CxxGraph, Declares}
use Rattle.cxx_model.specs.Facts.Entities.{first_or}
use Rattle.cxx_model.specs.Stops.{Answer, not_built_at}
use Rattle.cxx_model.specs.Types.Trees.{CxxType, reference_to, with_cv}
use Rattle.cxx_meaning.specs.Conversions.BuiltIn.{CxxBuiltIn, built_in_result}
use Rattle.cxx_meaning.specs.Conversions.Kinds.{cv_of}
use Rattle.cxx_meaning.specs.Conversions.Standard.{CxxOperand}
use Rattle.cxx_reading.specs.Initializers.{operand_of}
use Rattle.cxx_reading.specs.Reads.{Asks}
use Rattle.cxx_reading.specs.Seen.{Numbered}
use Rattle.cxx_reading.specs.State.{CxxState}
use Rattle.cxx_reading.specs.Trees.{CxxPathPart, CxxTree, Label, children_of, tree_of}
use Rattle.cxx_expr.specs.declared.production.TheConstants as production
use Rattle.cxx_expr.specs.Asking.{◌>>=◌, fault_at, give, stop}
use Rattle.cxx_expr.specs.Bases.{one_base}
use Rattle.cxx_expr.specs.Converting.{convert_each}
use Rattle.cxx_expr.specs.Names.{Means, is_function_at, is_nonstatic, means_enumerator, means_function, means_object, no_value_at, path_in, values_among, word_in}
use Rattle.cxx_expr.specs.Operands.{built_operand, is_of_class, object_operand, only}
use Rattle.cxx_expr.specs.Operators.{meaning_at, misshapen, with_meaning}
use Rattle.cxx_expr.specs.Questions.{Questions}
use Rattle.cxx_expr.specs.Steps.{class_before, class_of, declaring, is_static_at, kept_by, object_called, shared, step, within, written}

-- ---- the class of an object

abbrev pub class_of_object : CxxOperand → Option ℕ
class_of_object operand = class_of operand.of

-- ---- what a member gives

-- 7.1.1: a member that is mutable is not const by its object
abbrev pub lent_cv : Bool → Cv → Cv
lent_cv true cv = record cv { is_const = false }
lent_cv false cv = cv

-- 5.2.5 p4: A member that is a reference gives what it refers to. Any other is an object where its object is one, and has the
-- cv words of that besides its own.
abbrev pub lent_object : CxxOperand → Bool → CxxType → CxxOperand
lent_object object is_mutable of = record { of = with_cv (lent_cv is_mutable (cv_of object.of)) of; lvalue = object.lvalue; constant = constant.No }

abbrev pub lent_operand : CxxOperand → Bool → CxxType → CxxOperand
lent_operand object is_mutable (reference_to of) = object_operand of
lent_operand object is_mutable of = lent_object object is_mutable of

abbrev pub means_lent : CxxOperand → ℕ → Bool → CxxType → Means
means_lent object target is_mutable of = record { target = target; operand = lent_operand object is_mutable of; is_enumerator = false }

-- 9.4.2: a static member is the same for each object
abbrev pub means_data : CxxGraph → CxxOperand → ℕ → MemberKind → Bool → CxxType → Means
means_data graph object target kind is_mutable of =
    if is_nonstatic kind then means_lent object target is_mutable of else means_object graph target of

-- 5.2.2: what stands behind the name: the bracket of arguments, one that closes, or another token
abbrev pub spells_byte : ℕ → List ℕ → Bool
spells_byte byte (b ∷ []) = b == byte
spells_byte byte _ = false

abbrev pub is_called_by : List ℕ → Bool
is_called_by behind = spells_byte 40 behind

abbrev pub is_closed_by : List ℕ → Bool
is_closed_by behind = spells_byte 41 behind

-- 9.3, 13.4: A function is meant by what is called. One that is not called is named alone, and one that belongs to an object is
-- not. In brackets it may be called behind them, which is not read yet.
abbrev pub selected_function : CxxPathPart → List ℕ → CxxGraph → MemberKind → ℕ → CxxType → List Numbered → Asks CxxState Means
selected_function part behind graph kind target of all state =
    if is_called_by behind then Ok (means_object graph target of, state) else (
    if is_closed_by behind then Err (not_built_at part.place) else
    means_function part.place graph kind target of all state)

abbrev pub selected_first : CxxPathPart → List ℕ → CxxOperand → CxxGraph → Option ℕ → List Numbered → ℕ → Declares → Asks CxxState Means
selected_first part behind object graph list all number (facts.object of kind is_mutable value first) = give (means_data graph object (first_or number first) kind is_mutable of)
selected_first part behind object graph list all number (facts.enumerator n value) = give (means_enumerator list number n value)
selected_first part behind object graph list all number (facts.function of kind flags defaults first) = selected_function part behind graph kind (first_or number first) of all
selected_first part behind object graph list all number _ = stop (not_built_at part.place)

abbrev pub selected_value : CxxPathPart → List ℕ → CxxOperand → List Numbered → List Numbered → Asks CxxState Means
selected_value part behind object all [] state = Err (no_value_at part all)
selected_value part behind object all (one ∷ others) state = selected_first part behind object state.graph state.here.enumeration (one ∷ others) one.number one.fact.what state

-- what a name means that has these declarations as a member of an object's class, given what stands behind it
unfoldable pub selected_by : CxxPathPart → List ℕ → CxxOperand → List Numbered → Asks CxxState Means
selected_by part behind object all state = selected_value part behind object all (values_among state.graph all) state

-- ---- the tree

-- 5.2.2: whether arguments in brackets follow
abbrev pub is_called : Label → Bool
is_called label = is_called_by label.spelling

-- a function that is called: its type is that of the object, whose class is searched once more when it is chosen
abbrev pub function_tree : CxxTree → CxxOperand → List CxxTree → Means → CxxTree
function_tree tree object parts means = tree_of (record tree.label { of = Some object.of; operand = Some means.operand; target = Some means.target }) parts

-- one over its object, with the class that stands before its name
abbrev pub data_tree : CxxTree → List CxxTree → Means → Option CxxType → CxxTree
data_tree tree parts means class = tree_of (record tree.label { of = class; operand = Some means.operand; target = Some means.target }) parts

-- ---- the object of a data member

-- the same over an object that is converted
abbrev pub placed_tree : CxxTree → CxxTree → Means → Option CxxType → CxxTree
placed_tree tree object means class = tree_of (record tree.label { production = production.MEMBER; of = class; operand = Some means.operand; target = Some means.target }) (object ∷ [])

-- where a value is named behind a class, that stays
abbrev pub class_of_value : Bool → CxxType → Option CxxType
class_of_value true class = None
class_of_value false class = Some class

abbrev pub one_if : CxxGraph → Place → CxxType → CxxType → Answer (Unit {0}) → Answer (Unit {0})
one_if graph place class declared (Ok one) = one_base graph place (object_operand class) declared
one_if graph place class declared (Err why) = Err why

-- 5.2.5, 10.2: the class that is written has one subobject of the class of the member
abbrev pub has_one : CxxGraph → Place → CxxType → Option CxxType → Answer (Unit {0})
has_one graph place class None = Ok tt
has_one graph place class (Some declared) = one_if graph place class declared (within graph place class (Some declared))

abbrev pub reached : CxxTree → CxxType → Means → CxxTree → Bool → Asks CxxState CxxTree
reached tree class means object lvalue state = kept_by (placed_tree tree object means (class_of_value lvalue class)) state (has_one state.graph (word_in tree.label).place class (declaring state.graph means.target))

unfoldable pub placed_on : Questions → CxxTree → CxxType → CxxType → Means → CxxTree → Asks CxxState CxxTree
placed_on q tree of class means object = do
  base ← step q (word_in tree.label).place of of class object
  reached tree class means base (operand_of object).lvalue

abbrev pub placed_by : Questions → CxxTree → CxxType → CxxType → Means → Option CxxTree → Asks CxxState CxxTree
placed_by q tree of class means None = misshapen tree
placed_by q tree of class means (Some one) = placed_on q tree of class means (object_called tree of one)

-- 10.2: Where no class is written, the object's own class has one subobject of that of the member. What a using-declaration
-- brings may be of a class that is a base of it more than once (7.3.3 p14).
abbrev pub owned : CxxTree → CxxType → List CxxTree → Means → Asks CxxState CxxTree
owned tree of parts means state = kept_by (data_tree tree parts means None) state (has_one state.graph (word_in tree.label).place of (declaring state.graph means.target))

-- 5.2.5: a data member of each object is one of the class that is written before it
abbrev pub placed : Questions → CxxTree → CxxType → List CxxTree → Option CxxType → Means → Asks CxxState CxxTree
placed q tree of parts None means = owned tree of parts means
placed q tree of parts (Some class) means = placed_by q tree of class means (only parts)

-- ---- any member that is not called

-- the class before a static member: a function may have the name of another one
abbrev pub static_before : CxxGraph → CxxType → Option CxxType → Option CxxType → ℕ → Option CxxType
static_before graph of class declared target = if is_function_at graph target then class_before false of class declared else class

-- 9.4: one that is the same for each object, given the class that declares it
abbrev pub static_from : CxxTree → CxxType → List CxxTree → Option CxxType → Option CxxType → Means → Asks CxxState CxxTree
static_from tree of parts class declared means state = kept_by (data_tree tree parts means (static_before state.graph of class declared means.target)) state (shared state.graph (word_in tree.label).place of class declared)

abbrev pub selected_object : Questions → CxxTree → CxxType → List CxxTree → Option CxxType → Means → Asks CxxState CxxTree
selected_object q tree of parts class means state =
    if is_static_at state.graph means.target then static_from tree of parts class (declaring state.graph means.target) means state else
    placed q tree of parts class means state

-- An enumerator is the same for each object, and it is none of its parts: it stands for itself alone.
abbrev pub enumerator_tree : CxxTree → Means → CxxTree
enumerator_tree tree means = tree_of (record tree.label { production = production.NAME; operand = Some means.operand; target = Some means.target }) []

abbrev pub enumerator_from : CxxTree → CxxType → Option CxxType → Option CxxType → Means → Asks CxxState CxxTree
enumerator_from tree of class declared means state = kept_by (enumerator_tree tree means) state (shared state.graph (word_in tree.label).place of class declared)

abbrev pub selected_as : Questions → CxxTree → CxxType → List CxxTree → Option CxxType → Means → Bool → Asks CxxState CxxTree
selected_as q tree of parts class means true state = enumerator_from tree of class (declaring state.graph means.target) means state
selected_as q tree of parts class means false state = selected_object q tree of parts class means state

-- what a member means is noted
unfoldable pub selected_noted : Questions → CxxTree → CxxOperand → List CxxTree → Option CxxType → Means → Asks CxxState CxxTree
selected_noted q tree object parts class means = do
  noted ← q.bound (word_in tree.label).place means.target
  selected_as q tree object.of parts class means means.is_enumerator

-- of functions that are called the call notes which it means
abbrev pub is_put_off : CxxGraph → Label → Means → Bool
is_put_off graph label means = is_called label && is_function_at graph means.target

abbrev pub selected_as_meant : Questions → CxxTree → CxxOperand → List CxxTree → Option CxxType → Means → Asks CxxState CxxTree
selected_as_meant q tree object parts class means state =
    if is_put_off state.graph tree.label means then Ok (function_tree tree object parts means, state) else selected_noted q tree object parts class means state

-- a name that has these declarations as a member, given the object, the parts of the tree, and the class that is written
-- before it
abbrev pub selected_among : Questions → CxxTree → CxxOperand → List CxxTree → Option CxxType → List Numbered → Asks CxxState CxxTree
selected_among q tree object parts class all = do
  means ← selected_by (word_in tree.label) tree.label.spelling object all
  selected_as_meant q tree object parts class means

-- the member of a class
abbrev pub selected_within : Questions → CxxTree → CxxOperand → List CxxTree → ℕ → Asks CxxState CxxTree
selected_within q tree object parts class = do
  all ← q.member class (path_in tree.label)
  selected_among q tree object parts (written (path_in tree.label) (Some class)) all

-- 3.4.5: that of an object's class, or of the class that is written
unfoldable pub selected_in : Questions → CxxTree → CxxOperand → List CxxTree → ℕ → Asks CxxState CxxTree
selected_in q tree object parts class = do
  within ← q.naming class (path_in tree.label)
  selected_within q tree object parts within

abbrev pub selected_of : Questions → CxxTree → CxxOperand → List CxxTree → Option ℕ → Asks CxxState CxxTree
selected_of q tree object parts None = fault_at tree.label.place says.OperandsDoNotFit
selected_of q tree object parts (Some class) = selected_in q tree object parts class

abbrev pub selected_from : Questions → CxxTree → CxxOperand → List CxxTree → Asks CxxState CxxTree
selected_from q tree object parts = selected_of q tree object parts (class_of_object object)

-- ---- `.`

abbrev pub selected_one : Questions → CxxTree → Option CxxTree → Asks CxxState CxxTree
selected_one q tree None = misshapen tree
selected_one q tree (Some one) = selected_from q tree (operand_of one) (one ∷ [])

unfoldable pub selected : Questions → CxxTree → Asks CxxState CxxTree
selected q tree = selected_one q tree (only (children_of tree))

-- ---- `->`, which is `*` and `.`

unfoldable pub pointed : Questions → CxxTree → List CxxTree → CxxBuiltIn → Asks CxxState CxxTree
pointed q tree one meaning = do
  parts ← convert_each q tree.label.place meaning.operands [] one
  selected_from q tree (built_operand meaning) parts

abbrev pub pointed_by : Questions → CxxTree → CxxTree → Asks CxxState CxxTree
pointed_by q tree one state = with_meaning (meaning_at tree.label.place (built_in_result state.graph punct.STAR (operand_of one ∷ []))) (pointed q tree (one ∷ [])) state

-- 13.5.6: an operator of a class is not read yet
abbrev pub arrow_of : Questions → CxxTree → Option CxxTree → Asks CxxState CxxTree
arrow_of q tree None state = misshapen tree state
arrow_of q tree (Some one) state = if is_of_class one then Err (not_built_at tree.label.place) else pointed_by q tree one state

unfoldable pub arrow : Questions → CxxTree → Asks CxxState CxxTree
arrow q tree = arrow_of q tree (only (children_of tree))
