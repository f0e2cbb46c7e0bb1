-- The operators of clause 5 by what they do, and how they are spelled.
use Rattle.std.specs.Prelude.{ℕ, Bool, true, false, ◌||◌, ◌==◌, if◌then◌else◌, List, [], Option, Some, None, codes}
use Rattle.cxx_model.specs.declared.base.Base.{Base}
use Rattle.cxx_model.specs.declared.base.Base.TheVariants as base
use Rattle.cxx_model.specs.declared.keyword.TheConstants as keyword
use Rattle.cxx_model.specs.declared.punct.TheConstants as punct
use Rattle.cxx_model.specs.declared.token.TokenKind.{TokenKind}
use Rattle.cxx_model.specs.declared.token.TokenKind.TheVariants.{Name, Keyword, Punct, Integer, Character, Text, End}
use Rattle.cxx_reading.specs.Constants.{begins_operand, begins_unary, is_member_pointer}
use Rattle.cxx_reading.specs.Reads.{Ahead, kind_ahead}

-- ---- binary operators (5.6 to 5.15)

-- the level of an operator, from the one that binds most tightly outward; zero is that of operands
abbrev pub level_of : ℕ → ℕ
level_of n =
    if n == punct.STAR || (n == punct.SLASH || n == punct.PERCENT) then 1 else (
    if n == punct.PLUS || n == punct.MINUS then 2 else (
    if n == punct.SHIFT_LEFT || n == punct.SHIFT_RIGHT then 3 else (
    if n == punct.LESS || (n == punct.GREATER || (n == punct.LESS_OR_EQUAL || n == punct.GREATER_OR_EQUAL)) then 4 else (
    if n == punct.EQUAL_TO || n == punct.NOT_EQUAL_TO then 5 else (
    if n == punct.AMPERSAND then 6 else (
    if n == punct.CARET then 7 else (
    if n == punct.BAR then 8 else (
    if n == punct.LOGICAL_AND then 9 else (
    if n == punct.LOGICAL_OR then 10 else
    0)))))))))

-- 5.15: the level of a logical-or-expression
abbrev pub outermost : ℕ
outermost = 10

-- whether a token is an operator of a level
unfoldable pub is_of_level : ℕ → TokenKind → Bool
is_of_level level (Punct n) = level_of n == level
is_of_level level _ = false

-- 5.5
unfoldable pub selects_member : TokenKind → Bool
selects_member (Punct n) = is_member_pointer n
selects_member _ = false

-- ---- other operators

-- 5.17
abbrev pub assigns : ℕ → Bool
assigns n =
    n == punct.EQUALS || (n == punct.PLUS_EQUALS || (n == punct.MINUS_EQUALS || (n == punct.STAR_EQUALS || (n == punct.SLASH_EQUALS || (n == punct.PERCENT_EQUALS ||
    (n == punct.CARET_EQUALS || (n == punct.AMPERSAND_EQUALS || (n == punct.BAR_EQUALS || (n == punct.SHIFT_LEFT_EQUALS || n == punct.SHIFT_RIGHT_EQUALS)))))))))

unfoldable pub is_assignment : TokenKind → Bool
is_assignment (Punct n) = assigns n
is_assignment _ = false

-- 5.3.1, 5.3.2
abbrev pub stands_before : ℕ → Bool
stands_before n =
    n == punct.INCREMENT || (n == punct.DECREMENT || (n == punct.PLUS || (n == punct.MINUS || (n == punct.EXCLAMATION || (n == punct.TILDE || (n == punct.STAR || n == punct.AMPERSAND))))))

unfoldable pub is_prefix : TokenKind → Bool
is_prefix (Punct n) = stands_before n
is_prefix _ = false

-- 5.2.6
unfoldable pub is_step : TokenKind → Bool
is_step (Punct n) = n == punct.INCREMENT || n == punct.DECREMENT
is_step _ = false

-- 2.5: an operator is spelled in its primary form, whatever was written
abbrev pub spelling_of : ℕ → List ℕ
spelling_of n =
    if n == punct.STAR then codes "*" else (
    if n == punct.SLASH then codes "/" else (
    if n == punct.PERCENT then codes "%" else (
    if n == punct.PLUS then codes "+" else (
    if n == punct.MINUS then codes "-" else (
    if n == punct.SHIFT_LEFT then codes "<<" else (
    if n == punct.SHIFT_RIGHT then codes ">>" else (
    if n == punct.LESS then codes "<" else (
    if n == punct.GREATER then codes ">" else (
    if n == punct.LESS_OR_EQUAL then codes "<=" else (
    if n == punct.GREATER_OR_EQUAL then codes ">=" else (
    if n == punct.EQUAL_TO then codes "==" else (
    if n == punct.NOT_EQUAL_TO then codes "!=" else (
    if n == punct.AMPERSAND then codes "&" else (
    if n == punct.CARET then codes "^" else (
    if n == punct.BAR then codes "|" else (
    if n == punct.LOGICAL_AND then codes "&&" else (
    if n == punct.LOGICAL_OR then codes "||" else (
    if n == punct.EQUALS then codes "=" else (
    if n == punct.PLUS_EQUALS then codes "+=" else (
    if n == punct.MINUS_EQUALS then codes "-=" else (
    if n == punct.STAR_EQUALS then codes "*=" else (
    if n == punct.SLASH_EQUALS then codes "/=" else (
    if n == punct.PERCENT_EQUALS then codes "%=" else (
    if n == punct.CARET_EQUALS then codes "^=" else (
    if n == punct.AMPERSAND_EQUALS then codes "&=" else (
    if n == punct.BAR_EQUALS then codes "|=" else (
    if n == punct.SHIFT_LEFT_EQUALS then codes "<<=" else (
    if n == punct.SHIFT_RIGHT_EQUALS then codes ">>=" else (
    if n == punct.INCREMENT then codes "++" else (
    if n == punct.DECREMENT then codes "--" else (
    if n == punct.EXCLAMATION then codes "!" else (
    if n == punct.TILDE then codes "~" else (
    if n == punct.COMMA then codes "," else (
    if n == punct.QUESTION then codes "?" else
    []))))))))))))))))))))))))))))))))))

abbrev pub spelling_of_kind : TokenKind → List ℕ
spelling_of_kind (Punct n) = spelling_of n
spelling_of_kind _ = []

-- the operator ahead, as it is spelled in its primary form
unfoldable pub operator_ahead : Ahead → List ℕ
operator_ahead ahead = spelling_of_kind (kind_ahead ahead)

-- ---- what begins an expression

-- 2.13
unfoldable pub is_literal : TokenKind → Bool
is_literal Integer = true
is_literal Character = true
is_literal Text = true
is_literal (Keyword n) = n == keyword.TRUE || n == keyword.FALSE
is_literal _ = false

-- 9.3.2
unfoldable pub is_this : TokenKind → Bool
is_this (Keyword n) = n == keyword.THIS
is_this _ = false

-- 5.2.9 to 5.2.11
unfoldable pub is_cast_word : TokenKind → Bool
is_cast_word (Keyword n) = n == keyword.STATIC_CAST || (n == keyword.CONST_CAST || n == keyword.REINTERPRET_CAST)
is_cast_word _ = false

-- 5.2.3, 7.1.5.2: the type that a word of a type names by itself
abbrev pub base_of_word : ℕ → Option Base
base_of_word n =
    if n == keyword.BOOL then Some base.Bool else (
    if n == keyword.CHAR then Some base.Char else (
    if n == keyword.INT then Some base.Int else (
    if n == keyword.WCHAR_T then Some base.WideChar else (
    if n == keyword.FLOAT then Some base.Float else (
    if n == keyword.DOUBLE then Some base.Double else (
    if n == keyword.VOID then Some base.Void else (
    if n == keyword.SIGNED then Some base.Int else (
    if n == keyword.UNSIGNED then Some base.Unsigned else (
    if n == keyword.SHORT then Some base.Short else (
    if n == keyword.LONG then Some base.Long else
    None))))))))))

unfoldable pub base_of_kind : TokenKind → Option Base
base_of_kind (Keyword n) = base_of_word n
base_of_kind _ = None

-- 5.2.7, 5.2.8: these begin one too, though they are left out
abbrev pub begins_with : ℕ → Bool
begins_with n = begins_operand n || (n == keyword.TYPEID || n == keyword.DYNAMIC_CAST)

-- 5.4: whether the operand of a cast can begin with a token
unfoldable pub begins_expression : TokenKind → Bool
begins_expression Name = true
begins_expression Integer = true
begins_expression Character = true
begins_expression Text = true
begins_expression (Keyword n) = begins_with n
begins_expression (Punct n) = begins_unary n
begins_expression End = false
