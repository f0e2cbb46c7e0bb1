-- Implicit conversions of expressions (clause 4, 8.5, 8.5.3).
use Rattle.std.specs.Prelude.{Bool, false, not, ◌&&◌, ◌||◌, nat_eq, if◌then◌else◌, List, [], ◌∷◌, ◌++◌, Option, Some, None, Ok, Err}
use Rattle.cxx_model.specs.declared.fault.FaultText.TheVariants as says
use Rattle.cxx_model.specs.declared.place.Place.{Place}
use Rattle.cxx_model.specs.declared.sequence.Second.{Second}
use Rattle.cxx_model.specs.declared.sequence.Second.TheVariants as second
use Rattle.cxx_model.specs.Stops.{Answer, fault, not_built_at}
use Rattle.cxx_model.specs.Types.Same.{same_type}
use Rattle.cxx_model.specs.Types.Trees.{CxxType, reference_to, unqualified}
use Rattle.cxx_meaning.specs.Conversions.Asking.{Asked}
use Rattle.cxx_meaning.specs.Conversions.Sizes.{referred}
use Rattle.cxx_meaning.specs.Conversions.Kinds.{CxxKind, kind_of, of_class}
use Rattle.cxx_meaning.specs.Conversions.Standard.{CxxOperand, CxxStandard, is_class, standard_sequence}
use Rattle.cxx_reading.specs.Initializers.{conversion_tree, operand_of}
use Rattle.cxx_reading.specs.Reads.{Asks}
use Rattle.cxx_reading.specs.State.{CxxState}
use Rattle.cxx_reading.specs.Trees.{CxxTree}
use Rattle.cxx_reading.specs.Units.{is_incomplete}
use Rattle.cxx_expr.specs.Asking.{◌>>=◌, give}
use Rattle.cxx_expr.specs.Bases.{base_tree, one_base}
use Rattle.cxx_expr.specs.Operands.{is_none, judged_to}
use Rattle.cxx_expr.specs.Questions.{Questions}

-- 8.5.3: a reference is bound to a base of what the expression is
abbrev pub to_base : CxxType → CxxTree → CxxTree
to_base (reference_to to) tree = base_tree (reference_to to) tree
to_base of tree = conversion_tree (unqualified of) tree

abbrev pub converted_by : CxxType → CxxTree → Second → CxxTree
converted_by of tree second.DerivedToBase = to_base of tree
converted_by of tree step = conversion_tree (unqualified (referred of)) tree

-- A conversion stands where there is a promotion or conversion: to the type, or what it refers to, cv words aside; where a
-- reference is bound to a base, to the reference. What makes a value, adds cv words or binds a reference to the object itself
-- changes nothing.
abbrev pub by_step : CxxType → CxxTree → Option Second → CxxTree
by_step of tree None = tree
by_step of tree (Some step) = converted_by of tree step

abbrev pub unless_fault : Answer (Unit {0}) → CxxTree → Asks CxxState CxxTree
unless_fault (Ok done) tree state = Ok (tree, state)
unless_fault (Err why) tree state = Err why

-- A base that is ambiguous is a fault at a place of its own (4.10, 8.5.3).
abbrev pub by_sequence : Place → Place → CxxOperand → CxxType → CxxTree → Asked (Option CxxStandard) → Asks CxxState CxxTree
by_sequence place base_place from of tree (Ok (Some sequence)) state = unless_fault (one_base state.graph base_place from of) (by_step of tree sequence.second) state
by_sequence place base_place from of tree (Ok None) state = Err (fault place says.NoConversion)
by_sequence place base_place from of tree (Err class) state = Err (not_built_at place)

abbrev pub sequence_to : Questions → CxxType → CxxTree → CxxState → Asked (Option CxxStandard)
sequence_to q of tree state = standard_sequence state.graph (judged_to q of tree state) of

-- an expression of another type
unfoldable pub convert_known : Questions → Place → Place → CxxType → CxxTree → Asks CxxState CxxTree
convert_known q place base_place of tree state = by_sequence place base_place (judged_to q of tree state) of tree (sequence_to q of tree state) state

-- an expression that is of the type, or that depends on parameters of templates, stays what it is
abbrev pub stays : CxxType → CxxTree → Bool
stays of tree = is_none tree.label.operand || same_type (operand_of tree).of of

-- 8.5, 9.2: no object is made of an incomplete class
abbrev pub class_value : CxxTree → Asks CxxState CxxTree
class_value tree state = if is_none tree.label.operand then Ok (tree, state) else Err (fault tree.label.start says.IncompleteClass)

abbrev pub is_same_class : CxxKind → CxxKind → Bool
is_same_class (of_class one) (of_class two) = nat_eq one two
is_same_class _ _ = false

-- 12.8: a value of the class itself, cv words aside, is the object that it makes
abbrev pub is_own_value : CxxType → CxxOperand → Bool
is_own_value of operand = not operand.lvalue && is_same_class (kind_of of) (kind_of operand.of)

-- 8.5, 12.1: an object of a class is made of another expression by a constructor, of which nothing is read yet
abbrev pub is_constructed : CxxType → CxxTree → Bool
is_constructed of tree = is_class (kind_of of) && not (is_none tree.label.operand || is_own_value of (operand_of tree))

-- 13.3.3.1: an expression as it is converted to a type, asked at a place, and the place where an ambiguous base is a fault
unfoldable pub convert_at : Questions → Place → Place → CxxType → CxxTree → Asks CxxState CxxTree
convert_at q place base_place of tree state =
    if is_incomplete state.graph of then class_value tree state else (
    if is_constructed of tree then Err (not_built_at tree.label.start) else (
    if stays of tree then Ok (tree, state) else
    convert_known q place base_place of tree state))

-- the same with one place for both
unfoldable pub convert : Questions → Place → CxxType → CxxTree → Asks CxxState CxxTree
convert q place of tree = convert_at q place place of tree

-- ---- one after another

abbrev pub types_after : List CxxType → List CxxType
types_after [] = []
types_after (of ∷ types) = types

-- the next expression, where a type is left for it; what an ellipsis takes stays what it is
abbrev pub convert_next : Questions → Place → List CxxType → CxxTree → Asks CxxState CxxTree
convert_next q place [] tree = give tree
convert_next q place (of ∷ types) tree = convert_at q place tree.label.start of tree

-- the same behind those that are converted
unfoldable pub convert_more : Questions → Place → List CxxType → List CxxTree → CxxTree → Asks CxxState (List CxxTree)
convert_more q place types done tree = do
  next ← convert_next q place types tree
  give (done ++ next ∷ [])

-- each expression in turn
unfoldable pub convert_each : Questions → Place → List CxxType → List CxxTree → List CxxTree → Asks CxxState (List CxxTree)
convert_each q place types done [] = give done
convert_each q place types done (tree ∷ trees) = do
  more ← convert_more q place types done tree
  convert_each q place (types_after types) more trees
