-- Casts of what is of no class, and to references (5.2.3, 5.2.9 to 5.2.11, 5.4).
use Rattle.std.specs.Prelude.{ℕ, Bool, true, false, not, ◌&&◌, ◌||◌, if◌then◌else◌, bytes_eq, codes, List, [], ◌∷◌, ◌++◌, Option, Some, None, Ok, Err}
use Rattle.cxx_model.specs.declared.base.Base.TheVariants as base
use Rattle.cxx_model.specs.declared.fault.FaultText.TheVariants as says
use Rattle.cxx_model.specs.declared.place.Place.{Place}
use Rattle.cxx_model.specs.Facts.Declarations.{CxxGraph}
use Rattle.cxx_model.specs.Stops.{Answer, Stopped, ◌>>=◌, fault, not_built_at}
use Rattle.cxx_model.specs.Types.Trees.{CxxType, fundamental}
use Rattle.cxx_meaning.specs.Conversions.Asking.{Asked}
use Rattle.cxx_meaning.specs.Conversions.Casts as casts
use Rattle.cxx_meaning.specs.Conversions.Casts.{CxxCast, by_const, by_static, by_static_and_const, by_reinterpret, by_reinterpret_and_const}
use Rattle.cxx_meaning.specs.Conversions.Kinds.{CxxKind, arithmetic, enumerated, pointing, no_value, kind_of}
use Rattle.cxx_meaning.specs.Conversions.Standard.{CxxOperand, is_class}
use Rattle.cxx_reading.specs.Declarators.{is_reference}
use Rattle.cxx_reading.specs.Initializers.{operand_of, value_operand}
use Rattle.cxx_reading.specs.Reads.{Asks}
use Rattle.cxx_reading.specs.State.{CxxState}
use Rattle.cxx_reading.specs.Trees.{CxxTree, Label, children_of, tree_of}
use Rattle.cxx_reading.specs.Units.{is_incomplete}
use Rattle.cxx_expr.specs.declared.production.TheConstants as production
use Rattle.cxx_expr.specs.Bases.{is_only_base, one_base}
use Rattle.cxx_expr.specs.Operands.{is_of_class, judged_to, result_operand}
use Rattle.cxx_expr.specs.Operators.{misshapen}
use Rattle.cxx_expr.specs.Questions.{Questions}

-- ---- parts

abbrev pub type_or : Option CxxType → CxxType
type_or None = fundamental base.Void
type_or (Some of) = of

-- the type to which a cast leads
abbrev pub target_of : CxxTree → CxxType
target_of tree = type_or tree.label.of

abbrev pub last_of : CxxTree → List CxxTree → CxxTree
last_of tree [] = tree
last_of tree (next ∷ others) = last_of next others

abbrev pub all_but_last : CxxTree → List CxxTree → List CxxTree
all_but_last tree [] = []
all_but_last tree (next ∷ others) = tree ∷ all_but_last next others

-- ---- trees

abbrev pub cast_label : List ℕ → CxxType → Label → Label
cast_label word of label = record label { production = production.CAST; spelling = word; path = None; of = Some of; operand = Some (result_operand of); target = None; call = None }

-- a cast by a keyword to a type, over the trees of that and its operand
abbrev pub cast_over : List ℕ → CxxType → CxxTree → List CxxTree → CxxTree → CxxTree
cast_over word of tree front one = tree_of (cast_label word of tree.label) (front ++ one ∷ [])

-- of two casts the inner one stands over the same tokens, without the trees of the type
abbrev pub two_casts : List ℕ → CxxType → CxxTree → List CxxTree → CxxTree → CxxTree
two_casts word middle tree front one = cast_over (codes "const_cast") (target_of tree) tree front (cast_over word middle tree [] one)

-- what `(T)e` becomes
abbrev pub explicit_tree : CxxTree → List CxxTree → CxxTree → CxxCast → CxxTree
explicit_tree tree front one by_const = cast_over (codes "const_cast") (target_of tree) tree front one
explicit_tree tree front one by_static = cast_over (codes "static_cast") (target_of tree) tree front one
explicit_tree tree front one by_reinterpret = cast_over (codes "reinterpret_cast") (target_of tree) tree front one
explicit_tree tree front one (by_static_and_const middle) = two_casts (codes "static_cast") middle tree front one
explicit_tree tree front one (by_reinterpret_and_const middle) = two_casts (codes "reinterpret_cast") middle tree front one

-- ---- `(T)e` (5.4)

abbrev pub found_at : Place → Asked (Option CxxCast) → Answer CxxCast
found_at place (Ok (Some found)) = Ok found
found_at place (Ok None) = Err (fault place says.OperandsDoNotFit)
found_at place (Err class) = Err (not_built_at place)

-- 4.10, 10.2: a static cast for which it stands leads to no base that is ambiguous
abbrev pub steps_to_one : CxxGraph → Place → CxxOperand → CxxType → CxxCast → Answer (Unit {0})
steps_to_one graph place from to by_static = one_base graph place from to
steps_to_one graph place from to (by_static_and_const middle) = one_base graph place from middle
steps_to_one graph place from to _ = Ok tt

unfoldable pub explicit_found : CxxGraph → Place → CxxOperand → CxxType → Answer CxxCast
explicit_found graph place from to = do
  found ← found_at place (casts.cast graph (is_only_base graph from to) from to)
  one ← steps_to_one graph place from to found
  Ok found

abbrev pub explicit_by : CxxTree → List CxxTree → CxxTree → Answer CxxCast → Asks CxxState CxxTree
explicit_by tree front one (Ok found) state = Ok (explicit_tree tree front one found, state)
explicit_by tree front one (Err why) state = Err why

unfoldable pub explicit_built : Questions → CxxTree → List CxxTree → CxxTree → Asks CxxState CxxTree
explicit_built q tree front one state = explicit_by tree front one (explicit_found state.graph tree.label.place (judged_to q (target_of tree) one state) (target_of tree)) state

-- What constructors and conversion functions do is not read yet. A cast to a reference makes no object: no class has a
-- conversion function to one.
abbrev pub needs_class : CxxTree → CxxTree → Bool
needs_class tree one = not (is_reference (target_of tree)) && (is_of_class one || is_class (kind_of (target_of tree)))

-- 9.2: no object is made of an incomplete class
abbrev pub class_needed_at : CxxGraph → CxxType → Place → Stopped
class_needed_at graph of place = if is_incomplete graph of then fault place says.IncompleteClass else not_built_at place

abbrev pub class_needed : CxxState → CxxTree → Stopped
class_needed state tree = class_needed_at state.graph (target_of tree) tree.label.place

unfoldable pub explicit : Questions → CxxTree → List CxxTree → CxxTree → Asks CxxState CxxTree
explicit q tree front one state = if needs_class tree one then Err (class_needed state tree) else explicit_built q tree front one state

-- ---- the named casts

abbrev pub named_by : List ℕ → CxxTree → List CxxTree → CxxTree → Bool → Asks CxxState CxxTree
named_by word tree front one true state = Ok (cast_over word (target_of tree) tree front one, state)
named_by word tree front one false state = Err (fault tree.label.place says.OperandsDoNotFit)

abbrev pub allowed_at : Place → Asked Bool → Answer Bool
allowed_at place (Ok allowed) = Ok allowed
allowed_at place (Err class) = Err (not_built_at place)

-- 4.10, 10.2: where it is allowed it leads to no base that is ambiguous
abbrev pub leads_to_one : CxxGraph → Place → CxxOperand → CxxType → Bool → Answer (Unit {0})
leads_to_one graph place from to true = one_base graph place from to
leads_to_one graph place from to false = Ok tt

unfoldable pub static_found : CxxGraph → Place → CxxOperand → CxxType → Answer Bool
static_found graph place from to = do
  allowed ← allowed_at place (casts.static_cast graph (is_only_base graph from to) from to)
  one ← leads_to_one graph place from to allowed
  Ok allowed

abbrev pub static_by : CxxTree → List CxxTree → CxxTree → Answer Bool → Asks CxxState CxxTree
static_by tree front one (Ok allowed) state = named_by (codes "static_cast") tree front one allowed state
static_by tree front one (Err why) state = Err why

-- 5.2.9
unfoldable pub static_built : Questions → CxxTree → List CxxTree → CxxTree → Asks CxxState CxxTree
static_built q tree front one state = static_by tree front one (static_found state.graph tree.label.place (judged_to q (target_of tree) one state) (target_of tree)) state

unfoldable pub static_cast_of : Questions → CxxTree → List CxxTree → CxxTree → Asks CxxState CxxTree
static_cast_of q tree front one state = if needs_class tree one then Err (class_needed state tree) else static_built q tree front one state

-- 5.2.11
unfoldable pub constant : CxxTree → List CxxTree → CxxTree → Asks CxxState CxxTree
constant tree front one = named_by (codes "const_cast") tree front one (casts.const_cast (operand_of one) (target_of tree))

-- 5.2.10
unfoldable pub reinterpreted : CxxTree → List CxxTree → CxxTree → Asks CxxState CxxTree
reinterpreted tree front one = named_by (codes "reinterpret_cast") tree front one (casts.reinterpret_cast (operand_of one) (target_of tree))

unfoldable pub cast_as : Questions → CxxTree → List CxxTree → CxxTree → Asks CxxState CxxTree
cast_as q tree front one state =
    if bytes_eq tree.label.spelling (codes "static_cast") then static_cast_of q tree front one state else (
    if bytes_eq tree.label.spelling (codes "const_cast") then constant tree front one state else (
    if bytes_eq tree.label.spelling (codes "reinterpret_cast") then reinterpreted tree front one state else
    explicit q tree front one state))

-- the trees of its type, and its operand behind them
abbrev pub split_last : List CxxTree → Option (List CxxTree × CxxTree)
split_last [] = None
split_last (first ∷ others) = Some (all_but_last first others, last_of first others)

abbrev pub cast_of : Questions → CxxTree → Option (List CxxTree × CxxTree) → Asks CxxState CxxTree
cast_of q tree None state = misshapen tree state
cast_of q tree (Some parts) state = cast_as q tree parts.0 parts.1 state

unfoldable pub cast : Questions → CxxTree → Asks CxxState CxxTree
cast q tree = cast_of q tree (split_last (children_of tree))

-- ---- `T(..)` (5.2.3)

-- 8.5: without an argument it is a zero of the type, which `void` has too
abbrev pub has_zero : CxxKind → Bool
has_zero no_value = true
has_zero (arithmetic of) = true
has_zero (enumerated n) = true
has_zero (pointing of) = true
has_zero _ = false

abbrev pub zero_tree : CxxTree → CxxTree
zero_tree tree = tree_of (record tree.label { operand = Some (value_operand (target_of tree)) }) []

unfoldable pub zero : CxxTree → Asks CxxState CxxTree
zero tree state =
    if is_class (kind_of (target_of tree)) then Err (class_needed state tree) else (
    if has_zero (kind_of (target_of tree)) then Ok (zero_tree tree, state) else
    Err (fault tree.label.place says.OperandsDoNotFit))

unfoldable pub several : CxxTree → Asks CxxState CxxTree
several tree state = if is_class (kind_of (target_of tree)) then Err (class_needed state tree) else Err (fault tree.label.place says.OperandsDoNotFit)

abbrev pub functional_of : Questions → CxxTree → List CxxTree → Asks CxxState CxxTree
functional_of q tree [] = zero tree
functional_of q tree (one ∷ []) = explicit q tree [] one
functional_of q tree (one ∷ two ∷ others) = several tree

unfoldable pub functional : Questions → CxxTree → Asks CxxState CxxTree
functional q tree = functional_of q tree (children_of tree)
