-- How objects are initialized that are of no class (8.5).
use Rattle.std.specs.Prelude.{ℕ, zero, suc, Bool, true, false, not, ◌&&◌, nat_eq, nat_lt, if◌then◌else◌, bytes_eq, codes, List, [], ◌∷◌, length, Option, Some, None, Ok, Err}
use Rattle.cxx_model.specs.declared.base.Base.{Base}
use Rattle.cxx_model.specs.declared.base.Base.TheVariants as base
use Rattle.cxx_model.specs.declared.fault.FaultText.TheVariants as says
use Rattle.cxx_model.specs.declared.fault.LeftOut.TheVariants as form
use Rattle.cxx_model.specs.declared.place.Place.{Place}
use Rattle.cxx_model.specs.declared.sequence.ConstantKind.{ConstantKind}
use Rattle.cxx_model.specs.declared.sequence.ConstantKind.TheVariants as constant
use Rattle.cxx_model.specs.Stops.{fault, not_built_at}
use Rattle.cxx_model.specs.Types.Trees.{CxxType, CxxBound, array_of, reference_to, unknown_bound, number_bound}
use Rattle.cxx_meaning.specs.Conversions.Kinds.{CxxKind, arithmetic, cv_of, kind_of}
use Rattle.cxx_meaning.specs.Conversions.Standard.{is_class}
use Rattle.cxx_reading.specs.Initializers.{operand_of}
use Rattle.cxx_reading.specs.Reads.{Asks}
use Rattle.cxx_reading.specs.State.{CxxState}
use Rattle.cxx_reading.specs.Trees.{CxxTree, children_of, tree_of}
use Rattle.cxx_expr.specs.declared.production.TheConstants as production
use Rattle.cxx_expr.specs.Asking.{◌>>=◌, fault_at, give}
use Rattle.cxx_expr.specs.Converting.{convert}
use Rattle.cxx_expr.specs.Questions.{Questions}

-- ---- what is written

-- braces, in an initializer and in other braces
abbrev pub is_braces : CxxTree → Bool
is_braces tree = nat_eq tree.label.production production.INITIALIZER && bytes_eq tree.label.spelling (codes "{")

-- `T x = a`
abbrev pub as_copy : CxxTree → CxxType → List CxxTree → CxxTree
as_copy tree of parts = tree_of (record tree.label { spelling = codes "="; of = Some of }) parts

-- with the type of the object, over the parts as they are converted
abbrev pub initialized : CxxTree → CxxType → List CxxTree → CxxTree
initialized tree of parts = tree_of (record tree.label { of = Some of }) parts

-- ---- strings (8.5.2)

abbrev pub takes_narrow : Base → Bool
takes_narrow base.Char = true
takes_narrow base.SignedChar = true
takes_narrow base.UnsignedChar = true
takes_narrow _ = false

abbrev pub takes_wide : Base → Bool
takes_wide base.WideChar = true
takes_wide _ = false

-- whether a string with this mark initializes an array of elements of the kind
abbrev pub takes_text : ConstantKind → CxxKind → Bool
takes_text constant.NarrowText (arithmetic of) = takes_narrow of
takes_text constant.WideText (arithmetic of) = takes_wide of
takes_text _ _ = false

-- a string that initializes an array of a type
abbrev pub is_text_for : CxxType → CxxTree → Bool
is_text_for of tree = not (is_braces tree) && takes_text (operand_of tree).constant (kind_of of)

-- how many letters a string has, with the one that ends it
abbrev pub count_of : CxxType → ℕ
count_of (array_of of (number_bound n)) = n
count_of _ = zero

abbrev pub text_count : CxxTree → ℕ
text_count tree = count_of (operand_of tree).of

-- ---- bounds (8.3.4)

-- whether there is room for so many elements; an array without a bound has as many as it is given
abbrev pub has_room : CxxBound → ℕ → Bool
has_room (number_bound n) count = not (nat_lt n count)
has_room _ count = true

-- how many elements there may be more
abbrev pub one_less : CxxBound → CxxBound
one_less (number_bound (suc n)) = number_bound n
one_less bound = bound

abbrev pub bound_by : CxxBound → ℕ → CxxBound
bound_by unknown_bound count = number_bound count
bound_by bound count = bound

-- ---- parts

-- 8.5: what stands in the braces round the initializer of a value or a reference: one expression
abbrev pub one_of : Questions → Place → CxxType → List CxxTree → Asks CxxState CxxTree
one_of q place of (one ∷ []) state = if is_braces one then Err (fault place says.OperandsDoNotFit) else convert q place of one state
one_of q place of _ state = Err (fault place says.OperandsDoNotFit)

-- a value or a reference
abbrev pub value_part : Questions → CxxType → CxxTree → Asks CxxState CxxTree
value_part q of tree state =
    if is_class (kind_of of) then Err (not_built_at tree.label.start) else (
    if is_braces tree then one_of q tree.label.start of (children_of tree) state else
    convert q tree.label.start of tree state)

-- an element, where there is room for one; more of them than there are do not fit
abbrev pub element_in : Place → (CxxTree → Asks CxxState CxxTree) → CxxBound → CxxTree → Asks CxxState CxxTree
element_in place element (number_bound zero) one = fault_at place says.OperandsDoNotFit
element_in place element _ one = element one

-- each element in turn
abbrev pub elements : Place → (CxxTree → Asks CxxState CxxTree) → CxxBound → List CxxTree → Asks CxxState (List CxxTree)
elements place element bound [] = give []
elements place element bound (one ∷ others) = do
  first ← element_in place element bound one
  rest ← elements place element (one_less bound) others
  give (first ∷ rest)

-- a string where there is room for it
abbrev pub text_part : Place → CxxBound → CxxTree → Asks CxxState CxxTree
text_part place bound tree state = if has_room bound (text_count tree) then Ok (tree, state) else Err (fault place says.OperandsDoNotFit)

-- the one string that stands in braces
abbrev pub text_in : CxxType → List CxxTree → Option CxxTree
text_in of (one ∷ []) = if is_text_for of one then Some one else None
text_in of _ = None

-- 8.5.1: an array from what stands in braces
abbrev pub list_part : Place → (CxxTree → Asks CxxState CxxTree) → CxxType → CxxBound → CxxTree → Asks CxxState CxxTree
list_part place element of bound tree = do
  parts ← elements place element bound (children_of tree)
  give (initialized tree (array_of of (bound_by bound (length parts))) parts)

abbrev pub braces_part : Place → (CxxTree → Asks CxxState CxxTree) → CxxType → CxxBound → CxxTree → Option CxxTree → Asks CxxState CxxTree
braces_part place element of bound tree (Some text) = text_part place bound text
braces_part place element of bound tree None = list_part place element of bound tree

-- an array in another one; where it has no braces of its own, the parts behind would be its elements too
abbrev pub array_part : (CxxTree → Asks CxxState CxxTree) → CxxType → CxxBound → CxxTree → Asks CxxState CxxTree
array_part element of bound tree state =
    if is_braces tree then braces_part tree.label.start element of bound tree (text_in of (children_of tree)) state else (
    if is_text_for of tree then text_part tree.label.start bound tree state else
    Err (fault tree.label.start (says.LeftOut form.BraceElision)))

-- what initializes an object in another one; its faults stand where it begins
unfoldable pub part : Questions → CxxType → CxxTree → Asks CxxState CxxTree
part q (array_of of bound) = array_part (part q of) of bound
part q of = value_part q of

-- ---- whole objects

-- the type of an array, with its bound
abbrev pub array_with : CxxType → CxxBound → ℕ → CxxType
array_with of bound count = array_of of (bound_by bound count)

abbrev pub text_whole : Place → CxxType → CxxBound → CxxTree → CxxTree → Asks CxxState CxxTree
text_whole place of bound tree text = do
  fits ← text_part place bound text
  give (as_copy tree (array_with of bound (text_count text)) (text ∷ []))

-- 8.5.1, 8.5.2: an array from braces, or from a string
abbrev pub array_braces : Questions → Place → CxxType → CxxBound → CxxTree → Option CxxTree → Asks CxxState CxxTree
array_braces q place of bound tree (Some text) = text_whole place of bound tree text
array_braces q place of bound tree None = list_part place (part q of) of bound tree

abbrev pub array_from : Questions → Place → CxxType → CxxBound → CxxTree → Option CxxTree → Asks CxxState CxxTree
array_from q place of bound tree (Some text) = text_whole place of bound tree text
array_from q place of bound tree None = fault_at place says.NoConversion

unfoldable pub array_whole : Questions → Place → CxxType → CxxBound → CxxTree → Asks CxxState CxxTree
array_whole q place of bound tree state =
    if is_braces tree then array_braces q place of bound tree (text_in of (children_of tree)) state else
    array_from q place of bound tree (text_in of (children_of tree)) state

-- 8.5, 8.5.3: a value or a reference, from one expression
unfoldable pub value_whole : Questions → Place → CxxType → CxxTree → Asks CxxState CxxTree
value_whole q place of tree = do
  value ← one_of q place of (children_of tree)
  give (as_copy tree of (value ∷ []))

-- what is written for the object
abbrev pub whole_by : Questions → Place → CxxType → CxxTree → Asks CxxState CxxTree
whole_by q place (array_of of bound) tree = array_whole q place of bound tree
whole_by q place of tree = value_whole q place of tree

-- 8.5: without an initializer a reference binds to nothing, and what is const has no value for good
abbrev pub wants_value : CxxType → Bool
wants_value (reference_to of) = true
wants_value of = (cv_of of).is_const

abbrev pub nothing_by : Place → CxxType → CxxTree → Asks CxxState CxxTree
nothing_by place of tree state = if wants_value of then Err (fault place says.NoConversion) else Ok (initialized tree of [], state)

abbrev pub is_nothing : List ℕ → Bool
is_nothing [] = true
is_nothing (b ∷ text) = false

-- the class of objects, or of the elements of arrays
abbrev pub is_made_of_class : CxxType → Bool
is_made_of_class (array_of of bound) = is_made_of_class of
is_made_of_class of = is_class (kind_of of)

-- 8.5: The initializer of an object of a type, as it was read: with `=` or `(`, with braces behind the `=`, or with nothing
-- written. What is answered holds the parts as they are converted, and the type with its bound. A value, a reference or a
-- string is answered as behind `=`, however it was written. Faults of the whole stand at its place.
unfoldable pub initialize : Questions → CxxType → CxxTree → Asks CxxState CxxTree
initialize q of tree state =
    if is_made_of_class of then Err (not_built_at tree.label.place) else (
    if is_nothing tree.label.spelling then nothing_by tree.label.place of tree state else
    whole_by q tree.label.place of tree state)
