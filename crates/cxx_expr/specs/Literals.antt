-- Literals (2.13, 5.1).
use Rattle.std.specs.Prelude.{ℕ, zero, suc, ◌+◌, ◌||◌, if◌then◌else◌, ◌==◌, bytes_eq, Bool, true, false, List, [], ◌∷◌, Option, Some, None, codes}
use Rattle.cxx_model.specs.declared.base.Base.{Base}
use Rattle.cxx_model.specs.declared.base.Base.TheVariants as base
use Rattle.cxx_model.specs.declared.fault.FaultText.TheVariants as says
use Rattle.cxx_model.specs.declared.sequence.ConstantKind.{ConstantKind}
use Rattle.cxx_model.specs.declared.sequence.ConstantKind.TheVariants as constant
use Rattle.cxx_model.specs.Text.Spelling.{escape, is_wide, literal_type}
use Rattle.cxx_model.specs.Types.Trees.{CxxType, array_of, fundamental, number_bound, qualified}
use Rattle.cxx_meaning.specs.Conversions.Standard.{CxxOperand, only_const}
use Rattle.cxx_reading.specs.Constants.{literal_operand}
use Rattle.cxx_reading.specs.Reads.{Asks}
use Rattle.cxx_reading.specs.State.{CxxState}
use Rattle.cxx_reading.specs.Trees.{CxxTree}
use Rattle.cxx_expr.specs.Asking.{fault_at, give}
use Rattle.cxx_expr.specs.Operands.{given_over}

-- ---- strings (2.13.4)

-- Whether a text is that of a string: it begins with `"`, behind an `L` where it is wide.
abbrev pub begins_text : List ℕ → Bool
begins_text [] = false
begins_text (b ∷ text) = b == 34

unfoldable pub is_text : List ℕ → Bool
is_text [] = false
is_text (b ∷ text) = if b == 76 then begins_text text else b == 34

-- How many characters stand between the quotes of a string and of those that are joined to it, given whether a quote is
-- open, and how many bytes belong to the character before.
abbrev pub letters_in : Bool → ℕ → List ℕ → ℕ
letters_in is_open skip [] = zero
letters_in is_open (suc skip) (b ∷ text) = letters_in is_open skip text
letters_in false zero (b ∷ text) = letters_in (b == 34) zero text
letters_in true zero (b ∷ text) =
    if b == 34 then letters_in false zero text else (
    if b == 92 then suc (letters_in true (escape text).len text) else
    suc (letters_in true zero text))

unfoldable pub text_length : List ℕ → ℕ
text_length text = letters_in false zero text

abbrev pub letter_base : Bool → Base
letter_base true = base.WideChar
letter_base false = base.Char

abbrev pub text_mark : Bool → ConstantKind
text_mark true = constant.WideText
text_mark false = constant.NarrowText

-- an array of const letters, with the one that ends it
abbrev pub text_type : Base → ℕ → CxxType
text_type of count = array_of (qualified only_const (fundamental of)) (number_bound (count + 1))

unfoldable pub text_operand : List ℕ → CxxOperand
text_operand text = record { of = text_type (letter_base (is_wide text)) (text_length text); lvalue = true; constant = text_mark (is_wide text) }

-- ---- other literals

-- 2.13.5
abbrev pub is_truth : List ℕ → Bool
is_truth text = bytes_eq text (codes "true") || bytes_eq text (codes "false")

abbrev pub truth_mark : List ℕ → ConstantKind
truth_mark text = if bytes_eq text (codes "false") then constant.Zero else constant.No

abbrev pub truth_operand : List ℕ → CxxOperand
truth_operand text = record { of = fundamental base.Bool; lvalue = false; constant = truth_mark text }

abbrev pub number_operand : List ℕ → Option Base → Option CxxOperand
number_operand text None = None
number_operand text (Some of) = Some (literal_operand of text)

-- what a literal gives, by its spelling
unfoldable pub operand_of_literal : List ℕ → Option CxxOperand
operand_of_literal text =
    if is_text text then Some (text_operand text) else (
    if is_truth text then Some (truth_operand text) else
    number_operand text (literal_type text))

abbrev pub literal_by : CxxTree → Option CxxOperand → Asks CxxState CxxTree
literal_by tree None = fault_at tree.label.start says.SyntaxError
literal_by tree (Some operand) = give (given_over tree operand [])

unfoldable pub literal : CxxTree → Asks CxxState CxxTree
literal tree = literal_by tree (operand_of_literal tree.label.spelling)
