-- Operators are of integral types.
use Rattle.std.proofs.Common.{◌≡◌, ℕ, ◌<◌, Bool, true, false, List, [], ◌∷◌, Option, Some, None, IfSome, refl}
use Rattle.std.specs.Prelude.{if◌then◌else◌, nat_eq, ℤ}
use Rattle.std.proofs.lemmas.Bool.{ltb-true}
use Rattle.cxx_model.specs.declared.base.Base.{Base}
use Rattle.cxx_model.specs.declared.punct.TheConstants as punct
use Rattle.cxx_model.specs.Facts.Declarations.{CxxGraph}
use Rattle.cxx_model.specs.Types.Integral.{width}
use Rattle.cxx_model.specs.Types.Trees.{CxxType}
use Rattle.cxx_meaning.specs.declared.size.SizeReason.{SizeReason}
use Rattle.cxx_meaning.specs.declared.size.SizeReason.TheVariants as reason
use Rattle.cxx_meaning.specs.Conversions.Asking.{Asked}
use Rattle.cxx_meaning.specs.Conversions.Kinds.{CxxKind, no_value, arithmetic, enumerated, pointing, of_class, other}
use Rattle.cxx_meaning.specs.Conversions.Sizes as sizes
use Rattle.cxx_computed.specs.declared.operators.BinaryOperator.{BinaryOperator}
use Rattle.cxx_computed.specs.declared.operators.UnaryOperator.{UnaryOperator}
use Rattle.cxx_computed.specs.Formulas.{binary_operator, is_integral, unary_operator}
use Rattle.cxx_reading.specs.Trees.{Label}
use Rattle.cxx_reading.specs.Productions as reading
use Rattle.cxx_constant.specs.declared.form.Form.{Form}
use Rattle.cxx_constant.specs.declared.form.Form.TheVariants as form
use Rattle.cxx_constant.specs.declared.production.TheConstants as production
use Rattle.cxx_constant.specs.Forms.{base_of_first, binary_by, binary_form, cast_form, form_by, form_of, functional_form, integral_base, is_integral_kind, kind_of_expression, kind_of_target, operator_form, operator_number, size_by, size_form, unary_by, unary_form, value_form, value_of_literal, value_of_name}
use Rattle.cxx_constant.specs.Known.{IsFormWide}
use Rattle.std.specs.Prelude.{Result, Ok, Err}

if_wide : (b : Bool) (one two : Form) → IsFormWide one → IsFormWide two → IsFormWide (if b then one else two)
if_wide true one two p q = p
if_wide false one two p q = q

base_if : (b : Bool) (of : Base) → is_integral of ≡ b → IfSome (if b then Some of else None) (λ base. 0 < width base)
base_if true of e = ltb-true 0 (width of) e
base_if false of e = tt

base_wide : (kind : CxxKind) → IfSome (integral_base kind) (λ of. 0 < width of)
base_wide (arithmetic of) = base_if (is_integral of) of refl
base_wide no_value = tt
base_wide (enumerated n) = tt
base_wide (pointing t) = tt
base_wide (of_class n) = tt
base_wide other = tt

first_wide : (operands : List Label) → IfSome (base_of_first operands) (λ of. 0 < width of)
first_wide [] = tt
first_wide (label ∷ others) = base_wide (kind_of_expression label)

value_wide : (value : Option ℤ) → IsFormWide (value_form value)
value_wide None = tt
value_wide (Some value) = tt

size_by_wide : (asked : Asked (Result ℕ SizeReason)) → IsFormWide (size_by asked)
size_by_wide (Ok (Ok size)) = tt
size_by_wide (Ok (Err reason.TooLarge)) = tt
size_by_wide (Ok (Err reason.NoSize)) = tt
size_by_wide (Err class) = tt

size_wide : (graph : CxxGraph) (label : Label) → IsFormWide (size_form graph label)
size_wide graph label = by label.of
  where
    by : (of : Option CxxType) → IsFormWide (size_form graph (record label { of = of }))
    by None = value_wide (value_of_literal label.spelling)
    by (Some t) = size_by_wide (sizes.size_of graph t)

cast_wide : (of : Option CxxType) → IsFormWide (cast_form of)
cast_wide of = if_wide (is_integral_kind (kind_of_target of)) form.Cast form.Other tt tt

functional_wide : (of : Option CxxType) (operands : List Label) → IsFormWide (functional_form of operands)
functional_wide of [] = if_wide (is_integral_kind (kind_of_target of)) _ form.Other tt tt
functional_wide of (label ∷ others) = cast_wide of

unary_form_wide : (operator : Option UnaryOperator) (of : Option Base) → IfSome of (λ base. 0 < width base) → IsFormWide (unary_form operator of)
unary_form_wide None of h = tt
unary_form_wide (Some operator) None h = tt
unary_form_wide (Some operator) (Some of) h = h

unary_wide : (number : Option ℕ) (of : Option Base) → IfSome of (λ base. 0 < width base) → IsFormWide (unary_by number of)
unary_wide None of h = tt
unary_wide (Some number) of h = unary_form_wide (unary_operator number) of h

binary_form_wide : (operator : Option BinaryOperator) (of : Option Base) → IfSome of (λ base. 0 < width base) → IsFormWide (binary_form operator of)
binary_form_wide None of h = tt
binary_form_wide (Some operator) None h = tt
binary_form_wide (Some operator) (Some of) h = h

binary_wide : (number : Option ℕ) (of : Option Base) → IfSome of (λ base. 0 < width base) → IsFormWide (binary_by number of)
binary_wide None of h = tt
binary_wide (Some number) of h = if_wide (nat_eq number punct.LOGICAL_AND) form.And _ tt (if_wide (nat_eq number punct.LOGICAL_OR) form.Or (binary_form (binary_operator number) of) tt (binary_form_wide (binary_operator number) of h))

operator_wide : (label : Label) (operands : List Label) → IsFormWide (operator_form label operands)
operator_wide label operands =
    if_wide (nat_eq label.production production.PREFIX) _ _ (unary_wide (operator_number label.spelling) (base_of_first operands) (first_wide operands))
    (if_wide (nat_eq label.production production.BINARY) _ _ (binary_wide (operator_number label.spelling) (base_of_first operands) (first_wide operands))
    (if_wide (nat_eq label.production production.CONDITIONAL) form.Conditional form.Other tt tt))

by_wide : (graph : CxxGraph) (label : Label) (operands : List Label) → IsFormWide (form_by graph label operands)
by_wide graph label operands =
    if_wide (nat_eq label.production reading.literal) _ _ (value_wide (value_of_literal label.spelling))
    (if_wide (nat_eq label.production production.NAME) _ _ (value_wide (value_of_name graph.facts label.target))
    (if_wide (nat_eq label.production production.QUALIFIED_NAME) _ _ (value_wide (value_of_name graph.facts label.target))
    (if_wide (nat_eq label.production production.SIZE) _ _ (size_wide graph label)
    (if_wide (nat_eq label.production production.PARENTHESIS) form.Cast _ tt
    (if_wide (nat_eq label.production reading.cast) _ _ (cast_wide label.of)
    (if_wide (nat_eq label.production production.FUNCTIONAL_CAST) _ _ (functional_wide label.of operands)
    (operator_wide label operands)))))))

pub form_wide : (graph : CxxGraph) (label : Label) (operands : List Label) → IsFormWide (form_of graph label operands)
unfolding form_of
form_wide graph label operands = if_wide (is_integral_kind (kind_of_expression label)) (form_by graph label operands) form.Other (by_wide graph label operands) tt
