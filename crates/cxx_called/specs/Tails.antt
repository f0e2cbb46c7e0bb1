-- Names and calls by what is left of them once a part is done.
use Rattle.std.specs.Prelude.{ℕ, ◌≡◌, ◌<◌, Bool, false, if◌then◌else◌, List, [], ◌∷◌, ◌++◌, codes, length, ◌-◌, Option, Some, None, Result, Ok, Err}
use Rattle.cxx_model.specs.declared.place.Place.{Place}
use Rattle.cxx_model.specs.declared.stop.Stop.{Stop}
use Rattle.cxx_model.specs.declared.stop.Stop.TheVariants as stop
use Rattle.cxx_model.specs.declared.tree.Node.{Node}
use Rattle.cxx_model.specs.declared.types.TreeId.{TreeId}
use Rattle.cxx_model.specs.Facts.Declarations.{Declares}
use Rattle.cxx_model.specs.Types.Trees.{CxxType}
use Rattle.cxx_meaning.specs.Conversions.Standard.{CxxOperand}
use Rattle.cxx_reading.specs.Reads.{Asks}
use Rattle.cxx_reading.specs.Seen.{Numbered}
use Rattle.cxx_reading.specs.State.{CxxState}
use Rattle.cxx_reading.specs.Trees.{CxxTree, Label, children_of, tree_of}
use Rattle.cxx_tree.specs.Arena.{tree_in}
use Rattle.cxx_tree.specs.Held.{Held, meaning, trees}
use Rattle.cxx_tree.specs.Later.{Later}
use Rattle.cxx_expr.specs.Asking.{◌>>=◌, give}
use Rattle.cxx_expr.specs.Calls.{based, based_by, called_label, chosen_as, fallbacks, implied_callee, member_among, member_chosen, member_meant, name_alone, static_over, without_name}
use Rattle.cxx_expr.specs.Converting.{convert_each}
use Rattle.cxx_expr.specs.Implied.{is_data_member, member_label, object_for, object_tree}
use Rattle.cxx_expr.specs.Members.{class_of_value, data_tree, has_one, placed_tree, selected_among}
use Rattle.cxx_expr.specs.Names.{Means, path_in, word_in}
use Rattle.cxx_expr.specs.Nodes.{IsNodeHeld, node_tree}
use Rattle.cxx_expr.specs.Making.{AreTreesHeld, trees_held}
use Rattle.cxx_expr.specs.Operands.{judged_each, object_operand, only}
use Rattle.cxx_expr.specs.Questions.{CxxChosen, CxxQuestion, Questions}
use Rattle.cxx_expr.specs.Steps.{class_before, is_static_at, kept_by, member_over, or_own, step_to}

-- a call of a function, once its default arguments are there
unfoldable pub converted : Questions → CxxTree → List CxxTree → CxxChosen → List CxxTree → Asks CxxState CxxTree
converted q tree arguments chosen behind = do
  given ← convert_each q tree.label.place chosen.parameters [] arguments
  chosen_as tree chosen (given ++ behind)

-- a call of a function, once that is noted
unfoldable pub filled : Questions → CxxTree → List CxxTree → CxxChosen → Asks CxxState CxxTree
filled q tree arguments chosen = do
  behind ← fallbacks q (path_in tree.label) chosen.target (length arguments) [] (length chosen.parameters - length arguments)
  converted q tree arguments chosen behind

-- the object to which a declaration of a scope belongs, where that is a data member and there is one
abbrev pub object_of_fact : CxxState → ℕ → Declares → Option CxxType
object_of_fact state scope what = if is_data_member what then object_for state scope else None

-- a member of `*this`, given the class that is written before it
abbrev pub member_selected : Questions → Label → List Numbered → CxxType → Option CxxType → Asks CxxState CxxTree
member_selected q label all of class = selected_among q (tree_of (member_label label (codes "this")) []) (object_operand of) (object_tree label of ∷ []) class all

-- the member of a class, given the type of the class that is written before it
abbrev pub selected_behind : Questions → CxxTree → CxxOperand → List CxxTree → ℕ → Option CxxType → Asks CxxState CxxTree
selected_behind q tree object parts class before = do
  all ← q.member class (path_in tree.label)
  selected_among q tree object parts before all

-- a data member of an object, given the class that declares it
abbrev pub reached_from : CxxTree → CxxType → Option CxxType → Means → CxxTree → Bool → Asks CxxState CxxTree
reached_from tree class declared means object lvalue state = kept_by (placed_tree tree object means (class_of_value lvalue class)) state (has_one state.graph (word_in tree.label).place class declared)

-- the same where no class is written before it
abbrev pub owned_from : CxxTree → CxxType → List CxxTree → Means → Option CxxType → Asks CxxState CxxTree
owned_from tree of parts means declared state = kept_by (data_tree tree parts means None) state (has_one state.graph (word_in tree.label).place of declared)

-- the question of a call that has an object of a type
abbrev pub object_question : Questions → Place → CxxType → List Numbered → List CxxTree → CxxState → CxxQuestion
object_question q place of functions arguments state = record { place = place; word = None; functions = functions; object = Some (object_operand of); operands = judged_each q arguments state }

-- a call of a member of an object, once its default arguments are there
unfoldable pub member_based : Questions → CxxTree → CxxTree → CxxType → Option CxxType → List CxxTree → CxxChosen → List CxxTree → Asks CxxState CxxTree
member_based q tree callee of class arguments chosen behind = do
  over ← based q callee of class chosen.target
  member_meant q tree over arguments chosen behind

-- the same, once its function is noted
unfoldable pub member_filled : Questions → CxxTree → CxxTree → CxxType → Option CxxType → List CxxTree → CxxChosen → Asks CxxState CxxTree
member_filled q tree callee of class arguments chosen = do
  behind ← fallbacks q (name_alone (word_in callee.label)) chosen.target (length arguments) [] (length chosen.parameters - length arguments)
  member_based q tree callee of class arguments chosen behind

-- the members of a class with the name that is called, given the type of the class that is written before it
abbrev pub member_behind : Questions → CxxTree → CxxTree → CxxType → List CxxTree → ℕ → Option CxxType → Asks CxxState CxxTree
member_behind q tree callee of arguments class before = q.member class (path_in callee.label) >>= member_among q tree callee of before arguments

-- a call for `*this`, given the class that is written before the name
abbrev pub implied_behind : Questions → CxxTree → List CxxTree → CxxType → Option CxxType → CxxChosen → Asks CxxState CxxTree
implied_behind q tree arguments of class chosen = member_chosen q (without_name tree) (implied_callee (called_label tree.label arguments) of) of class arguments chosen

-- what is called, over an object of the class that is written before it
unfoldable pub based_second : Questions → CxxTree → CxxType → Option CxxType → Option CxxType → Bool → CxxTree → Asks CxxState CxxTree
based_second q callee of class declared lvalue first = do
  second ← step_to q (word_in callee.label).place of (or_own class of) declared first
  give (member_over callee second (class_before lvalue of class declared))

-- the same, given the class that declares the function
abbrev pub based_to : Questions → CxxTree → CxxType → Option CxxType → Option CxxType → ℕ → Asks CxxState CxxTree
based_to q callee of class declared target state =
    if is_static_at state.graph target then static_over callee of class declared state else
    based_by q callee of class declared (only (children_of callee)) state

-- a name over an object, as `.` would select it to be called
abbrev pub selected_callee : Label → CxxType → CxxTree → CxxTree
selected_callee label of object = tree_of (record (member_label label (codes "(")) { of = Some of }) (object ∷ [])

-- a node is made, that is no part of the arena yet
abbrev pub IsNewNode : Held → Result Node Stop → CxxTree → Type 0
IsNewNode new (Ok node) wanted = IsNodeHeld new node × (node_tree new node ≡ wanted)
IsNewNode new (Err why) wanted = why ≡ stop.OutOfMemory

pub record GrowsNode (old new : Held) (result : Result Node Stop) (wanted : CxxTree) : Type 0 where
  pub later : Later old new
  pub same : meaning new ≡ meaning old
  pub made : IsNewNode new result wanted

-- what is called, and the arguments behind it
abbrev pub first_split : Held → Option (TreeId × List TreeId) → Option (CxxTree × List CxxTree)
first_split held None = None
first_split held (Some parts) = Some (tree_in (trees held) parts.0.0, trees_held held parts.1)

abbrev pub IsFirstSplit : Held → Option (TreeId × List TreeId) → Type 0
IsFirstSplit held None = Unit {0}
IsFirstSplit held (Some parts) = (parts.0.0 < length (trees held)) × AreTreesHeld held parts.1
