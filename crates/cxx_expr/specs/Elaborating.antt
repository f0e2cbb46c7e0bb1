-- What one expression means whose parts were read (clause 5).
use Rattle.std.specs.Prelude.{nat_eq, if◌then◌else◌, List, [], ◌∷◌, Option, Some, None, Ok}
use Rattle.cxx_reading.specs.Initializers.{operand_of}
use Rattle.cxx_reading.specs.Reads.{Asks}
use Rattle.cxx_reading.specs.State.{CxxState}
use Rattle.cxx_reading.specs.Trees.{CxxTree, children_of}
use Rattle.cxx_expr.specs.declared.production.TheConstants as production
use Rattle.cxx_expr.specs.Asking.{give}
use Rattle.cxx_expr.specs.Calls.{call}
use Rattle.cxx_expr.specs.Casts.{cast, functional, last_of}
use Rattle.cxx_expr.specs.Implied.{name, this}
use Rattle.cxx_expr.specs.Literals.{literal}
use Rattle.cxx_expr.specs.Members.{arrow, selected}
use Rattle.cxx_expr.specs.Operands.{any_open, given_over, is_none, only}
use Rattle.cxx_expr.specs.Operators.{binary, conditional, misshapen, prefix, step, subscript}
use Rattle.cxx_expr.specs.Questions.{Questions}
use Rattle.cxx_expr.specs.SizesOf.{size}

-- ---- brackets (5.1)

abbrev pub over_one : CxxTree → CxxTree → CxxTree
over_one tree one = given_over tree (operand_of one) (one ∷ [])

abbrev pub bracketed : CxxTree → Option CxxTree → Asks CxxState CxxTree
bracketed tree None = misshapen tree
bracketed tree (Some one) = give (over_one tree one)

unfoldable pub parenthesis : CxxTree → Asks CxxState CxxTree
parenthesis tree = bracketed tree (only (children_of tree))

-- ---- what depends on parameters of templates (14.6.2)

abbrev pub last_alone : List CxxTree → List CxxTree
last_alone [] = []
last_alone (tree ∷ trees) = last_of tree trees ∷ []

-- the parts that are expressions, without the trees of a type that is written
abbrev pub expressions_in : CxxTree → List CxxTree
expressions_in tree =
    if nat_eq tree.label.production production.CAST then last_alone (children_of tree) else (
    if nat_eq tree.label.production production.SIZE then (if is_none tree.label.of then children_of tree else []) else
    children_of tree)

abbrev pub without_operand : CxxTree → CxxTree
without_operand tree = record { label = record tree.label { operand = None }; children = tree.children }

-- ---- by production

abbrev pub operated : Questions → CxxTree → Asks CxxState CxxTree
operated q tree state =
    if nat_eq tree.label.production production.MEMBER then selected q tree state else (
    if nat_eq tree.label.production production.ARROW then arrow q tree state else (
    if nat_eq tree.label.production production.SUBSCRIPT then subscript q tree state else (
    if nat_eq tree.label.production production.STEP then step q tree state else (
    if nat_eq tree.label.production production.PREFIX then prefix q tree state else (
    if nat_eq tree.label.production production.BINARY then binary q tree state else (
    if nat_eq tree.label.production production.CONDITIONAL then conditional q tree state else (
    if nat_eq tree.label.production production.ASSIGNMENT then binary q tree state else (
    if nat_eq tree.label.production production.THIS then this tree state else
    misshapen tree state))))))))

unfoldable pub by_production : Questions → CxxTree → Asks CxxState CxxTree
by_production q tree state =
    if nat_eq tree.label.production production.LITERAL then literal tree state else (
    if nat_eq tree.label.production production.NAME then name q tree state else (
    if nat_eq tree.label.production production.PARENTHESIS then parenthesis tree state else (
    if nat_eq tree.label.production production.CALL then call q tree state else (
    if nat_eq tree.label.production production.FUNCTIONAL_CAST then functional q tree state else (
    if nat_eq tree.label.production production.SIZE then size q tree state else (
    if nat_eq tree.label.production production.CAST then cast q tree state else
    operated q tree state))))))

-- An expression as it was read, whose parts were elaborated: what it gives, with the conversions of its parts, and what it
-- names. One with a part that depends on parameters of templates asks nothing.
unfoldable pub elaborate : Questions → CxxTree → Asks CxxState CxxTree
elaborate q tree state = if any_open (expressions_in tree) then Ok (without_operand tree, state) else by_production q tree state
