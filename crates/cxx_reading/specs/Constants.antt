-- What a literal is as an operand (2.13), and how expressions begin (5).
use Rattle.std.specs.Prelude.{ℕ, zero, ℤ, pos, Bool, true, false, ◌||◌, if◌then◌else◌, ◌==◌, List, Option, Some, None}
use Rattle.cxx_model.specs.declared.base.Base.{Base}
use Rattle.cxx_model.specs.declared.fault.FaultText.{FaultText}
use Rattle.cxx_model.specs.declared.fault.FaultText.TheVariants as says
use Rattle.cxx_model.specs.declared.fault.LeftOut.TheVariants as form
use Rattle.cxx_model.specs.declared.keyword.TheConstants as keyword
use Rattle.cxx_model.specs.declared.punct.TheConstants as punct
use Rattle.cxx_model.specs.declared.sequence.ConstantKind.{ConstantKind}
use Rattle.cxx_model.specs.declared.sequence.ConstantKind.TheVariants as constant
use Rattle.cxx_model.specs.declared.token.TokenKind.{TokenKind}
use Rattle.cxx_model.specs.declared.token.TokenKind.TheVariants.{Name, Keyword, Punct, Text}
use Rattle.cxx_model.specs.Text.Spelling.{literal_value}
use Rattle.cxx_model.specs.Types.Trees.{fundamental}
use Rattle.cxx_meaning.specs.Conversions.Standard.{CxxOperand}
use Rattle.cxx_reading.specs.Declarators.{type_word, TypeWord}
use Rattle.cxx_reading.specs.Reads.{Reads, fault_at, kind_ahead, place_ahead}

-- ---- literals (2.13)

-- 4.10: a literal with the value zero is a null pointer constant
abbrev pub zero_kind : Option ℤ → ConstantKind
zero_kind (Some (pos zero)) = constant.Zero
zero_kind _ = constant.No

abbrev pub literal_operand : Base → List ℕ → CxxOperand
literal_operand of spelling = record { of = fundamental of; lvalue = false; constant = zero_kind (literal_value spelling) }

-- ---- how expressions begin (5)

abbrev pub is_some_word : Option TypeWord → Bool
is_some_word None = false
is_some_word (Some word) = true

-- clause 5: keywords with which an expression begins
abbrev pub begins_operand : ℕ → Bool
begins_operand n =
    n == keyword.TRUE || (n == keyword.FALSE || (n == keyword.THIS || (n == keyword.SIZEOF || (n == keyword.NEW || (n == keyword.DELETE || (n == keyword.OPERATOR || (n == keyword.TYPENAME ||
    (n == keyword.STATIC_CAST || (n == keyword.CONST_CAST || (n == keyword.REINTERPRET_CAST || is_some_word (type_word n)))))))))))

-- 5.3, and what else a primary expression begins with
abbrev pub begins_unary : ℕ → Bool
begins_unary n =
    n == punct.LEFT_PARENTHESIS || (n == punct.SCOPE || (n == punct.PLUS || (n == punct.MINUS || (n == punct.STAR || (n == punct.AMPERSAND || (n == punct.EXCLAMATION || (n == punct.TILDE || (n == punct.INCREMENT || n == punct.DECREMENT))))))))

abbrev pub keyword_text : ℕ → FaultText
keyword_text n =
    if n == keyword.TYPEID then says.LeftOut form.Typeid else (
    if n == keyword.DYNAMIC_CAST then says.LeftOut form.DynamicCast else (
    if begins_operand n then says.NotBuilt else
    says.SyntaxError))

abbrev pub expression_text : TokenKind → FaultText
expression_text Name = says.NotBuilt
expression_text Text = says.NotBuilt
expression_text (Keyword n) = keyword_text n
expression_text (Punct n) = if begins_unary n then says.NotBuilt else says.SyntaxError
expression_text _ = says.SyntaxError

-- what stands where an expression would begin
unfoldable pub no_expression : {S A : Type 0} → Reads S A
no_expression state ahead = fault_at (place_ahead ahead) (expression_text (kind_ahead ahead)) state ahead

abbrev pub is_member_pointer : ℕ → Bool
is_member_pointer n = n == punct.DOT_STAR || n == punct.ARROW_STAR
