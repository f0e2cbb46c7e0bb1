-- Conversions from a class to a base of it, and casts back (4.10, 5.2.9, 8.5.3, 10.2).
use Rattle.std.specs.Prelude.{ℕ, Bool, true, false, nat_eq, if◌then◌else◌, List, [], ◌∷◌, Option, Some, None, Ok, Err}
use Rattle.cxx_model.specs.declared.evidence.Evidence.TheVariants.{ByBases}
use Rattle.cxx_model.specs.declared.fault.FaultText.TheVariants as says
use Rattle.cxx_model.specs.declared.place.Place.{Place}
use Rattle.cxx_model.specs.declared.types.ClassId.{ClassId}
use Rattle.cxx_model.specs.Facts.Declarations.{CxxGraph}
use Rattle.cxx_model.specs.Stops.{Answer, Stopped, Faulty}
use Rattle.cxx_model.specs.Types.Trees.{CxxType}
use Rattle.cxx_meaning.specs.Conversions.BuiltIn.{operand_kind}
use Rattle.cxx_meaning.specs.Conversions.Kinds.{CxxKind, kind_of, of_class, pointing}
use Rattle.cxx_meaning.specs.Conversions.Sizes.{referred}
use Rattle.cxx_meaning.specs.Conversions.Standard.{CxxOperand}
use Rattle.cxx_reading.specs.Trees.{CxxTree, tree_of}
use Rattle.cxx_subobjects.specs.declared.bases.Subobjects.{Subobjects}
use Rattle.cxx_subobjects.specs.declared.bases.Subobjects.TheVariants as found
use Rattle.cxx_subobjects.specs.Paths.{subobjects}
use Rattle.cxx_expr.specs.declared.production.TheConstants as production
use Rattle.cxx_expr.specs.Operands.{result_operand}

-- ---- which classes

abbrev pub classes_of : CxxKind → CxxKind → Option (ℕ × ℕ)
classes_of (of_class one) (of_class two) = Some (one, two)
classes_of _ _ = None

-- two classes, or those that two pointers point to
abbrev pub classes_by : CxxKind → CxxKind → Option (ℕ × ℕ)
classes_by (pointing one) (pointing two) = classes_of (kind_of one) (kind_of two)
classes_by one two = classes_of one two

-- 4.10, 8.5.3: the class of an expression, or what it points to, and that of the type to which it is converted
abbrev pub classes_between : CxxOperand → CxxType → Option (ℕ × ℕ)
classes_between from to = classes_by (operand_kind from) (kind_of (referred to))

-- ---- to a base

-- 10.2: the first two ways from the class to the base
abbrev pub ambiguous_base_at : Place → List ℕ → List ℕ → Stopped
ambiguous_base_at place one two = Faulty (record { place = place; text = says.AmbiguousBase; evidence = ByBases None one ∷ ByBases None two ∷ [] })

abbrev pub unless_several : Place → Subobjects → Answer (Unit {0})
unless_several place (found.Several one two) = Err (ambiguous_base_at place one two)
unless_several place _ = Ok tt

abbrev pub base_among : CxxGraph → Place → Option (ℕ × ℕ) → Answer (Unit {0})
base_among graph place None = Ok tt
base_among graph place (Some classes) = if nat_eq classes.0 classes.1 then Ok tt else unless_several place (subobjects graph classes.0 classes.1)

-- 4.10, 8.5.3, 10.2: A class, or a pointer to one, is converted to another class only where an object of the first has one
-- subobject of the other. Where that is no base of the first this asks for nothing.
unfoldable pub one_base : CxxGraph → Place → CxxOperand → CxxType → Answer (Unit {0})
one_base graph place from to = base_among graph place (classes_between from to)

-- clause 4: a conversion that nothing spells covers the tokens of what it converts
abbrev pub covering_tree : CxxType → CxxOperand → CxxTree → CxxTree
covering_tree of operand tree = tree_of (record tree.label { production = production.CAST; spelling = []; path = None; of = Some of; operand = Some operand; target = None; call = None }) (tree ∷ [])

-- 8.5.3: a reference that is bound to a base gives that base of the object
abbrev pub base_tree : CxxType → CxxTree → CxxTree
base_tree of tree = covering_tree of (result_operand of) tree

-- ---- from a base

abbrev pub is_one : Subobjects → Bool
is_one (found.One path) = true
is_one _ = false

abbrev pub is_only_among : CxxGraph → Option (ℕ × ℕ) → Bool
is_only_among graph None = false
is_only_among graph (Some classes) = is_one (subobjects graph classes.1 classes.0)

-- 5.2.9 p5, p8: whether an object of the class to which a cast leads has one subobject alone of the class from which it leads
unfoldable pub is_only_base : CxxGraph → CxxOperand → CxxType → Bool
is_only_base graph from to = is_only_among graph (classes_between from to)

-- ---- meaning of what the code answers

abbrev pub classes_at : Option (ClassId × ClassId) → Option (ℕ × ℕ)
classes_at None = None
classes_at (Some classes) = Some (classes.0.0, classes.1.0)
