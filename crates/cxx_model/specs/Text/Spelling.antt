-- What a whole text spells by itself (2.3, 2.5, 2.7, 2.9 to 2.13).
use Rattle.std.specs.Prelude.{ℕ, zero, suc, ◌+◌, ◌*◌, ◌-◌, min, Bool, true, false, ◌&&◌, ◌||◌, not, if◌then◌else◌, ◌==◌, nat_le, nat_lt, List, [], ◌∷◌, length, take, drop, map, position, take_while, Option, Some, None, codes, ℤ, pos, negsuc}
use Rattle.std.specs.List.{list_all, list_any, prefix_len}
use Rattle.std.specs.Char.{is_ascii_digit, is_ascii_hexdigit, is_ascii_alphabetic, is_ascii_alphanumeric}
use Rattle.std.specs.Str.{bytes_eq}
use Rattle.cxx_model.specs.declared.base.Base.{Base}
use Rattle.cxx_model.specs.declared.base.Base.TheVariants.{Int, Unsigned, Long, UnsignedLong, Char, WideChar}
use Rattle.cxx_model.specs.declared.token.TokenKind.{TokenKind}
use Rattle.cxx_model.specs.declared.token.TokenKind.TheVariants.{Name, Keyword, Punct, Integer, Character, Text}
use Rattle.cxx_model.specs.declared.token.TokenReason.{TokenReason}
use Rattle.cxx_model.specs.declared.token.TokenReason.TheVariants as reason
use Rattle.cxx_model.specs.declared.keyword.TheConstants as keyword
use Rattle.cxx_model.specs.declared.punct.TheConstants as punct

-- White space, a token, or the beginning of what is no token of the profile.
pub data Spelled : Type 0 where
  Blank : Spelled
  Good : TokenKind → Spelled
  Ill : TokenReason → Spelled

-- ---- bytes

-- space, tab, newline, vertical tab, form feed and carriage return
abbrev pub is_white : ℕ → Bool
is_white b = b == 32 || (nat_le 9 b && nat_le b 13)

-- space and tab
abbrev pub is_blank : ℕ → Bool
is_blank b = b == 32 || b == 9

-- letters, digits and `_` (2.10)
abbrev pub is_word : ℕ → Bool
is_word b = is_ascii_alphanumeric b || b == 95

abbrev pub begins_word : ℕ → Bool
begins_word b = is_ascii_alphabetic b || b == 95

abbrev pub is_sign : ℕ → Bool
is_sign b = b == 43 || b == 45

abbrev pub is_exponent : ℕ → Bool
is_exponent b = b == 69 || b == 101

abbrev pub is_octal : ℕ → Bool
is_octal b = nat_le 48 b && nat_le b 55

-- what a byte with nothing after it spells
abbrev pub alone : List ℕ → Spelled → Option Spelled
alone [] spells = Some spells
alone (b ∷ text) spells = None

-- ---- tables

-- the place of a spelling in a table
abbrev pub number_in : List (List ℕ) → List ℕ → Option ℕ
number_in table text = position (λ entry. bytes_eq text entry) table

-- the number that stands beside a spelling in a table
abbrev pub number_beside : List (List ℕ × ℕ) → List ℕ → Option ℕ
number_beside [] text = None
number_beside (entry ∷ entries) text = if bytes_eq text entry.0 then Some entry.1 else number_beside entries text

abbrev pub first_of : Option ℕ → Option ℕ → Option ℕ
first_of (Some n) other = Some n
first_of None other = other

-- the 63 keywords (2.11)
unfoldable pub keywords : List (List ℕ)
keywords = map (λ entry. entry.now) keyword.SPELLINGS

-- the words that are operators, each with the number of its primary spelling (2.5)
unfoldable pub alternatives : List (List ℕ × ℕ)
alternatives = map (λ entry. (entry.0.now, entry.1)) punct.ALTERNATIVES

-- the operators and punctuators in their primary spellings (2.12)
unfoldable pub operators : List (List ℕ)
operators = map (λ entry. entry.now) punct.SPELLINGS

-- the other spellings of brackets and braces, each with the number of its primary spelling (2.5)
unfoldable pub digraphs : List (List ℕ × ℕ)
digraphs = map (λ entry. (entry.0.now, entry.1)) punct.DIGRAPHS

-- ---- words

abbrev pub word_by : Option ℕ → Option ℕ → Spelled
word_by (Some n) operator = Good (Keyword n)
word_by None (Some n) = Good (Punct n)
word_by None None = Good Name

-- a keyword, an operator that is a word, or a name
unfoldable pub word_kind : List ℕ → Spelled
word_kind text = word_by (number_in keywords text) (number_beside alternatives text)

-- ---- numbers

-- a number token goes on with letters, digits, `_`, dots, and a sign directly after `e` or `E` (2.9)
abbrev pub is_number_rest : ℕ → List ℕ → Bool
is_number_rest last [] = true
is_number_rest last (b ∷ text) = (is_word b || b == 46 || (is_sign b && is_exponent last)) && is_number_rest b text

abbrev pub begins_with_digit : List ℕ → Bool
begins_with_digit [] = false
begins_with_digit (b ∷ text) = is_ascii_digit b

-- it begins with a digit, or with a dot and a digit
abbrev pub begins_number : ℕ → List ℕ → Bool
begins_number b text = is_ascii_digit b || (b == 46 && begins_with_digit text)

-- the value of a digit, up to `f` or `F`
abbrev pub digit_value : ℕ → ℕ
digit_value b = if nat_le b 57 then b - 48 else (if nat_le b 70 then b - 55 else b - 87)

-- the number that digits make after the digits of another
abbrev pub value_after : ℕ → ℕ → List ℕ → ℕ
value_after base n [] = n
value_after base n (b ∷ text) = value_after base (base * n + digit_value b) text

-- An integer literal (2.13.1): whether its digits are decimal, their value, and what its suffix has.
pub record IntegerParts : Type 0 where
  pub is_decimal : Bool
  pub value : ℕ
  pub has_u : Bool
  pub has_l : Bool

abbrev pub is_u : ℕ → Bool
is_u b = b == 117 || b == 85

abbrev pub is_l : ℕ → Bool
is_l b = b == 108 || b == 76

-- a suffix has `u`, `l`, both in either order, or nothing
abbrev pub with_suffix : Bool → ℕ → List ℕ → Option IntegerParts
with_suffix is_decimal value [] = Some (record { is_decimal = is_decimal; value = value; has_u = false; has_l = false })
with_suffix is_decimal value (a ∷ []) =
    if is_u a then Some (record { is_decimal = is_decimal; value = value; has_u = true; has_l = false }) else (
    if is_l a then Some (record { is_decimal = is_decimal; value = value; has_u = false; has_l = true }) else
    None)
with_suffix is_decimal value (a ∷ b ∷ []) =
    if (is_u a && is_l b) || (is_l a && is_u b) then Some (record { is_decimal = is_decimal; value = value; has_u = true; has_l = true }) else None
with_suffix is_decimal value (a ∷ b ∷ c ∷ text) = None

-- the digits that pass a test, in a base, and the suffix behind them
abbrev pub with_digits : Bool → ℕ → (ℕ → Bool) → List ℕ → Option IntegerParts
with_digits is_decimal base test text = with_suffix is_decimal (value_after base 0 (take_while test text)) (drop (prefix_len test text) text)

abbrev pub is_x : ℕ → Bool
is_x b = b == 120 || b == 88

abbrev pub begins_with_hex : List ℕ → Bool
begins_with_hex [] = false
begins_with_hex (b ∷ text) = is_ascii_hexdigit b

-- decimal digits of which the first is not 0; a 0 and octal digits; or `0x` and hexadecimal digits
abbrev pub integer_parts : List ℕ → Option IntegerParts
integer_parts [] = None
integer_parts (b ∷ []) = if is_ascii_digit b then with_digits (not (b == 48)) 10 is_ascii_digit (b ∷ []) else None
integer_parts (b ∷ c ∷ text) =
    if b == 48 then (if is_x c then (if begins_with_hex text then with_digits false 16 is_ascii_hexdigit text else None) else with_digits false 8 is_octal (c ∷ text)) else (
    if is_ascii_digit b then with_digits true 10 is_ascii_digit (b ∷ c ∷ text) else
    None)

-- 2.13.1: the types that are tried in turn
abbrev pub integer_types : IntegerParts → List Base
integer_types parts =
    if parts.has_u then (if parts.has_l then UnsignedLong ∷ [] else Unsigned ∷ UnsignedLong ∷ []) else (
    if parts.has_l then Long ∷ UnsignedLong ∷ [] else (
    if parts.is_decimal then Int ∷ Long ∷ [] else
    Int ∷ Unsigned ∷ Long ∷ UnsignedLong ∷ []))

-- the greatest value of an integer type: `int` has 32 bits and `long` has 64
abbrev pub most_of : Base → ℕ
most_of Int = 2147483647
most_of Unsigned = 4294967295
most_of Long = 9223372036854775807
most_of UnsignedLong = 18446744073709551615
most_of _ = 0

-- the first type that holds the value
abbrev pub first_holding : ℕ → List Base → Option Base
first_holding value [] = None
first_holding value (type ∷ types) = if nat_le value (most_of type) then Some type else first_holding value types

abbrev pub integer_type : IntegerParts → Option Base
integer_type parts = first_holding parts.value (integer_types parts)

-- ---- floating literals (2.13.3), which are left out

abbrev pub is_floating_suffix : List ℕ → Bool
is_floating_suffix [] = true
is_floating_suffix (b ∷ []) = b == 102 || b == 70 || is_l b
is_floating_suffix (b ∷ c ∷ text) = false

-- digits, and a suffix
abbrev pub ends_exponent : List ℕ → Bool
ends_exponent text = begins_with_digit text && is_floating_suffix (drop (prefix_len is_ascii_digit text) text)

abbrev pub unsigned_exponent : List ℕ → List ℕ
unsigned_exponent [] = []
unsigned_exponent (b ∷ text) = if is_sign b then text else b ∷ text

-- an exponent, with its sign and digits, and a suffix
abbrev pub is_exponent_part : List ℕ → Bool
is_exponent_part [] = false
is_exponent_part (b ∷ text) = is_exponent b && ends_exponent (unsigned_exponent text)

abbrev pub after_digits : List ℕ → List ℕ
after_digits text = drop (prefix_len is_ascii_digit text) text

-- what stands behind the digits before a dot or an exponent
abbrev pub is_floating_rest : Bool → List ℕ → Bool
is_floating_rest has_digits [] = false
is_floating_rest has_digits (b ∷ text) =
    if b == 46 then (has_digits || begins_with_digit text) && (is_floating_suffix (after_digits text) || is_exponent_part (after_digits text)) else
    has_digits && is_exponent_part (b ∷ text)

abbrev pub is_floating : List ℕ → Bool
is_floating text = is_floating_rest (begins_with_digit text) (after_digits text)

abbrev pub integer_by : Option Base → Spelled
integer_by (Some type) = Good Integer
integer_by None = Ill reason.NumberTooLarge

abbrev pub number_by : Option IntegerParts → Bool → Spelled
number_by (Some parts) floats = integer_by (integer_type parts)
number_by None true = Ill reason.FloatingLiteral
number_by None false = Ill reason.BadNumber

-- the whole run is judged
unfoldable pub number_kind : List ℕ → Spelled
number_kind text = number_by (integer_parts text) (is_floating text)

-- ---- how a text between two marks ends

-- it is open still, it is closed by its last byte, or it went past its end
pub data Ending : Type 0 where
  Open : Ending
  Closed : Ending
  Past : Ending

abbrev pub closed_if_last : List ℕ → Ending
closed_if_last [] = Closed
closed_if_last (b ∷ text) = Past

-- ---- literals

-- One character of a literal: its value, an escape that there is not, or a universal character name (2.2, 2.13.2).
pub data Letter : Type 0 where
  Value : ℕ → Letter
  Unknown : Letter
  Universal : Letter

-- what stands behind a backslash, and how many bytes of it belong to it
pub record Escape : Type 0 where
  pub len : ℕ
  pub is : Letter

-- the values of the simple escapes (2.13.2, table 5)
abbrev pub simple_escape : ℕ → Option ℕ
simple_escape b =
    if b == 39 || b == 34 || b == 63 || b == 92 then Some b else (
    if b == 97 then Some 7 else (
    if b == 98 then Some 8 else (
    if b == 102 then Some 12 else (
    if b == 110 then Some 10 else (
    if b == 114 then Some 13 else (
    if b == 116 then Some 9 else (
    if b == 118 then Some 11 else
    None)))))))

-- up to three octal digits
abbrev pub octal_escape : List ℕ → Escape
octal_escape text = let len = min 3 (prefix_len is_octal text) in record { len = len; is = Value (value_after 8 0 (take len text)) }

-- `x` and all hexadecimal digits behind it, of which there is one at least
abbrev pub hexadecimal_escape : List ℕ → Escape
hexadecimal_escape text =
    let len = prefix_len is_ascii_hexdigit text in
    if len == 0 then record { len = 1; is = Unknown } else record { len = suc len; is = Value (value_after 16 0 (take len text)) }

-- `u` or `U` and up to four or eight hexadecimal digits
abbrev pub universal_escape : ℕ → List ℕ → Escape
universal_escape most text = record { len = suc (min most (prefix_len is_ascii_hexdigit text)); is = Universal }

abbrev pub escape_by : Option ℕ → ℕ → List ℕ → Escape
escape_by (Some value) b text = record { len = 1; is = Value value }
escape_by None b text =
    if is_octal b then octal_escape (b ∷ text) else (
    if b == 120 then hexadecimal_escape text else (
    if b == 117 then universal_escape 4 text else (
    if b == 85 then universal_escape 8 text else
    record { len = 1; is = Unknown })))

abbrev pub escape : List ℕ → Escape
escape [] = record { len = 0; is = Unknown }
escape (b ∷ text) = escape_by (simple_escape b) b text

abbrev pub put_letter : Escape → (ℕ → List Letter) → List Letter
put_letter found later = found.is ∷ later found.len

-- the characters of a literal's body, after so many bytes that belong to the one before; each byte past 127 is one
abbrev pub letters : ℕ → List ℕ → List Letter
letters skip [] = []
letters (suc skip) (b ∷ text) = letters skip text
letters zero (b ∷ text) = if b == 92 then put_letter (escape text) (λ len. letters len text) else Value b ∷ letters 0 text

-- a narrow character has 8 bits, and a wide one 32
abbrev pub most_value : Bool → ℕ
most_value wide = if wide then 4294967295 else 255

abbrev pub is_bad_letter : Bool → Letter → Bool
is_bad_letter wide (Value value) = nat_lt (most_value wide) value
is_bad_letter wide Unknown = true
is_bad_letter wide Universal = false

abbrev pub is_universal_letter : Letter → Bool
is_universal_letter (Value value) = false
is_universal_letter Unknown = false
is_universal_letter Universal = true

-- the first reason that holds, in their order
abbrev pub character_by : Bool → List Letter → Spelled
character_by wide [] = Ill reason.UnfinishedLiteral
character_by wide (c ∷ []) = if is_bad_letter wide c then Ill reason.BadEscape else (if is_universal_letter c then Ill reason.UniversalName else Good Character)
character_by wide (c ∷ d ∷ others) = if list_any (is_bad_letter wide) (c ∷ d ∷ others) then Ill reason.BadEscape else Ill reason.MultiCharacter

abbrev pub string_by : Bool → List Letter → Spelled
string_by wide all =
    if list_any (is_bad_letter wide) all then Ill reason.BadEscape else (
    if list_any is_universal_letter all then Ill reason.UniversalName else
    Good Text)

-- a newline ends no literal, and a quote ends it unless a backslash stands before it
abbrev pub literal_ending : ℕ → Bool → List ℕ → Ending
literal_ending quote escaped [] = Open
literal_ending quote true (b ∷ text) = if b == 10 then Past else literal_ending quote false text
literal_ending quote false (b ∷ text) = if b == 10 then Past else (if b == quote then closed_if_last text else literal_ending quote (b == 92) text)

-- what stands between the quotes, of what stands behind the first
abbrev pub body_of : List ℕ → List ℕ
body_of rest = take (length rest - 1) rest

abbrev pub literal_kind : Bool → ℕ → List ℕ → Spelled
literal_kind wide quote body = if quote == 39 then character_by wide (letters 0 body) else string_by wide (letters 0 body)

abbrev pub literal_by : Bool → ℕ → List ℕ → Ending → Option Spelled
literal_by wide quote rest Open = Some (Ill reason.UnfinishedLiteral)
literal_by wide quote rest Closed = Some (literal_kind wide quote (body_of rest))
literal_by wide quote rest Past = None

-- what a quote and this rest spell
unfoldable pub literal : Bool → ℕ → List ℕ → Option Spelled
literal wide quote rest = literal_by wide quote rest (literal_ending quote false rest)

abbrev pub is_quote : ℕ → Bool
is_quote b = b == 39 || b == 34

-- `L` directly before a quote begins a wide literal
abbrev pub wide_literal : ℕ → List ℕ → Option Spelled
wide_literal b [] = None
wide_literal b (quote ∷ rest) = if b == 76 && is_quote quote then literal true quote rest else None

-- ---- comments and marker lines

-- a comment ends with the first `*/` behind its `/*`
abbrev pub comment_ending : Bool → List ℕ → Ending
comment_ending star [] = Open
comment_ending star (b ∷ text) = if star && b == 47 then closed_if_last text else comment_ending (b == 42) text

abbrev pub comment_by : Ending → Option Spelled
comment_by Open = Some (Ill reason.UnfinishedComment)
comment_by Closed = Some Blank
comment_by Past = None

abbrev pub is_newline : ℕ → Bool
is_newline b = b == 10

-- white space that has no newline
abbrev pub within_line : List ℕ → Option Spelled
within_line text = if list_any is_newline text then None else Some Blank

-- what stands behind blanks
abbrev pub past_blanks : List ℕ → List ℕ
past_blanks text = drop (prefix_len is_blank text) text

abbrev pub is_marker_word : List ℕ → Bool
is_marker_word word = bytes_eq word (codes "line") || bytes_eq word (codes "pragma")

-- a marker line goes on with a digit, or with the whole word `line` or `pragma`; else `#` is a directive
abbrev pub marker_by : List ℕ → List ℕ → Option Spelled
marker_by text [] = Some (Ill reason.Directive)
marker_by text (b ∷ rest) =
    if is_ascii_digit b then within_line text else (
    if is_marker_word (take_while is_word (b ∷ rest)) then within_line text else (
    if list_all is_word (b ∷ rest) then Some (Ill reason.Directive) else
    None))

-- what `#` and this rest spell; `fresh`: only blanks stand before it on its line
unfoldable pub hash : Bool → List ℕ → Option Spelled
hash fresh rest = if fresh then marker_by rest (past_blanks rest) else alone rest (Ill reason.Directive)

-- ---- operators

abbrev pub operator_by : Option ℕ → List ℕ → Option Spelled
operator_by (Some n) rest = Some (Good (Punct n))
operator_by None rest = alone rest (Ill reason.StrayByte)

-- an operator, or a byte with which no token begins
unfoldable pub operator : ℕ → List ℕ → Option Spelled
operator b rest = operator_by (first_of (number_in operators (b ∷ rest)) (number_beside digraphs (b ∷ rest))) rest

-- `//` begins a comment up to the end of its line, and `/*` one up to `*/`
unfoldable pub slash : List ℕ → Option Spelled
slash [] = operator 47 []
slash (b ∷ rest) =
    if b == 47 then within_line rest else (
    if b == 42 then comment_by (comment_ending false rest) else
    operator 47 (b ∷ rest))

-- `\u` and `\U` begin a universal character name
abbrev pub backslash : List ℕ → Option Spelled
backslash [] = Some (Ill reason.StrayByte)
backslash (b ∷ rest) = if b == 117 || b == 85 then alone rest (Ill reason.UniversalName) else None

-- `%:` is the other spelling of `#`
unfoldable pub percent : List ℕ → Option Spelled
percent [] = operator 37 []
percent (b ∷ rest) = if b == 58 then alone rest (Ill reason.Directive) else operator 37 (b ∷ rest)

-- ---- a whole text

-- By its first byte. Each byte spells something by itself.
unfoldable pub spelling_of : Bool → List ℕ → Option Spelled
spelling_of fresh [] = None
spelling_of fresh (b ∷ rest) =
    if is_white b then alone rest Blank else (
    if begins_word b then (if list_all is_word rest then Some (word_kind (b ∷ rest)) else wide_literal b rest) else (
    if begins_number b rest then (if is_number_rest b rest then Some (number_kind (b ∷ rest)) else None) else (
    if is_quote b then literal false b rest else (
    if b == 35 then hash fresh rest else (
    if b == 47 then slash rest else (
    if b == 92 then backslash rest else (
    if b == 37 then percent rest else
    operator b rest)))))))

-- ---- types and values of literals (2.13.1, 2.13.2)

abbrev pub is_wide : List ℕ → Bool
is_wide [] = false
is_wide (b ∷ text) = b == 76

abbrev pub type_of_parts : Option IntegerParts → Option Base
type_of_parts (Some parts) = integer_type parts
type_of_parts None = None

abbrev pub literal_type_by : List ℕ → Option Spelled → Option Base
literal_type_by text (Some (Good Integer)) = type_of_parts (integer_parts text)
literal_type_by text (Some (Good Character)) = if is_wide text then Some WideChar else Some Char
literal_type_by text _ = None

-- the type of an integer or character literal
unfoldable pub literal_type : List ℕ → Option Base
literal_type text = literal_type_by text (spelling_of false text)

-- the number that so many bits mean with a sign: those from `half` on are negative
abbrev pub signed_value : ℕ → ℕ → ℤ
signed_value half value = if nat_lt value half then pos value else negsuc (2 * half - 1 - value)

abbrev pub value_of_letters : Bool → List Letter → Option ℤ
value_of_letters wide [] = None
value_of_letters wide (Value value ∷ others) = Some (signed_value (if wide then 2147483648 else 128) value)
value_of_letters wide (Unknown ∷ others) = None
value_of_letters wide (Universal ∷ others) = None

-- what stands between the quotes of a literal
abbrev pub literal_body : List ℕ → List ℕ
literal_body [] = []
literal_body (b ∷ text) = if b == 76 then body_of (drop 1 text) else body_of text

abbrev pub value_of_parts : Option IntegerParts → Option ℤ
value_of_parts (Some parts) = Some (pos parts.value)
value_of_parts None = None

abbrev pub literal_value_by : List ℕ → Option Spelled → Option ℤ
literal_value_by text (Some (Good Integer)) = value_of_parts (integer_parts text)
literal_value_by text (Some (Good Character)) = value_of_letters (is_wide text) (letters 0 (literal_body text))
literal_value_by text _ = None

-- the value of an integer or character literal
unfoldable pub literal_value : List ℕ → Option ℤ
literal_value text = literal_value_by text (spelling_of false text)

-- the number of characters of one string
unfoldable pub piece_length : List ℕ → ℕ
piece_length text = length (letters 0 (literal_body text))
