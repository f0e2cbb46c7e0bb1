-- Worked texts and their tokens.
use Rattle.std.specs.Prelude.{◌≡◌, ℕ, List, [], ◌∷◌, map, Result, Ok, Err, refl, codes, Some, None, pos, negsuc}
use Rattle.cxx_model.specs.declared.base.Base.TheVariants as base
use Rattle.cxx_model.specs.declared.token.Token.{Token}
use Rattle.cxx_model.specs.declared.token.TokenKind.{TokenKind}
use Rattle.cxx_model.specs.declared.token.TokenKind.TheVariants.{Name, Punct, Text, End}
use Rattle.cxx_model.specs.declared.token.TokenReason.{TokenReason}
use Rattle.cxx_model.specs.declared.token.TokenReason.TheVariants as reason
use Rattle.cxx_model.specs.declared.punct.TheConstants as punct
use Rattle.cxx_model.specs.Text.Spelling.{keywords, alternatives, operators, digraphs, word_kind, number_kind, operator, literal, hash, slash, percent, spelling_of, literal_type, literal_value, piece_length}
use Rattle.cxx_model.specs.Text.Tokens.{Unread, BadAt, PastTokens, longest_within, front, lengths_from, string_length, tokens_from, tokens_of}

-- the kinds and spans of the tokens, or the column and the reason
data Seen : Type 0 where
  Spans : List (TokenKind × ℕ × ℕ) → Seen
  Bad : ℕ → ℕ → TokenReason → Seen
  TooMany : Seen

seen : Result (List Token) Unread → Seen
seen (Ok tokens) = Spans (map (λ t. (t.kind, t.from, t.to)) tokens)
seen (Err (BadAt place why)) = Bad place.line place.column why
seen (Err PastTokens) = TooMany

tokens : List ℕ → Seen
unfolding seen tokens_of tokens_from front longest_within spelling_of word_kind number_kind operator literal hash slash percent keywords alternatives operators digraphs
tokens text = seen (tokens_of text)

joined : tokens (codes "\"a\" /**/ \"b\" x") ≡ Spans ((Text, 0, 12) ∷ (Name, 13, 14) ∷ (End, 14, 14) ∷ [])
unfolding tokens
joined = refl

mixed : tokens (codes "\"a\" L\"b\"") ≡ Bad 1 5 reason.MixedStrings
unfolding tokens
mixed = refl

mixed_late : tokens (codes "\"a\" L\"\\q\"") ≡ Bad 1 5 reason.BadEscape
unfolding tokens
mixed_late = refl

mixed_universal : tokens (codes "\"a\" L\"\\u0041\"") ≡ Bad 1 5 reason.MixedStrings
unfolding tokens
mixed_universal = refl

words : tokens (codes "and <: xor_eq %>") ≡ Spans ((Punct punct.LOGICAL_AND, 0, 3) ∷ (Punct punct.LEFT_BRACKET, 4, 6) ∷ (Punct punct.CARET_EQUALS, 7, 13) ∷ (Punct punct.RIGHT_BRACE, 14, 16) ∷ (End, 16, 16) ∷ [])
unfolding tokens
words = refl

marker : tokens (codes "# 1 \"x\" /* c\na") ≡ Spans ((Name, 13, 14) ∷ (End, 14, 14) ∷ [])
unfolding tokens
marker = refl

pragmatic : tokens (codes "a\n #pragmatic") ≡ Bad 2 2 reason.Directive
unfolding tokens
pragmatic = refl

pragma : tokens (codes "a\n # pragma x") ≡ Spans ((Name, 0, 1) ∷ (End, 13, 13) ∷ [])
unfolding tokens
pragma = refl

not_fresh : tokens (codes "/**/ # 1") ≡ Bad 1 6 reason.Directive
unfolding tokens
not_fresh = refl

lone : tokens (codes "#\n") ≡ Bad 1 1 reason.Directive
unfolding tokens
lone = refl

other_hash : tokens (codes "a %:b") ≡ Bad 1 3 reason.Directive
unfolding tokens
other_hash = refl

unfinished : tokens (codes "x 'ab\n'") ≡ Bad 1 3 reason.UnfinishedLiteral
unfolding tokens
unfinished = refl

nothing : tokens (codes "''") ≡ Bad 1 1 reason.UnfinishedLiteral
unfolding tokens
nothing = refl

comment : tokens (codes "/*/ x") ≡ Bad 1 1 reason.UnfinishedComment
unfolding tokens
comment = refl

octal : tokens (codes "'\\400ab'") ≡ Bad 1 1 reason.BadEscape
unfolding tokens
octal = refl

universal : tokens (codes "'\\u0041'") ≡ Bad 1 1 reason.UniversalName
unfolding tokens
universal = refl

universal_more : tokens (codes "'\\u0041b'") ≡ Bad 1 1 reason.MultiCharacter
unfolding tokens
universal_more = refl

universal_outside : tokens (codes "a \\u") ≡ Bad 1 3 reason.UniversalName
unfolding tokens
universal_outside = refl

splice : tokens (codes "a \\\n") ≡ Bad 1 3 reason.StrayByte
unfolding tokens
splice = refl

runs : (tokens (codes "08") ≡ Bad 1 1 reason.BadNumber) × (tokens (codes "1..2") ≡ Bad 1 1 reason.BadNumber) × (tokens (codes "0x1e+1") ≡ Bad 1 1 reason.BadNumber)
    × (tokens (codes "1ll") ≡ Bad 1 1 reason.BadNumber) × (tokens (codes "08.5") ≡ Bad 1 1 reason.FloatingLiteral) × (tokens (codes ".5e-1F") ≡ Bad 1 1 reason.FloatingLiteral)
    × (tokens (codes "1e") ≡ Bad 1 1 reason.BadNumber) × (tokens (codes "1.") ≡ Bad 1 1 reason.FloatingLiteral) × (tokens (codes "1f") ≡ Bad 1 1 reason.BadNumber)
    × (tokens (codes "9223372036854775808") ≡ Bad 1 1 reason.NumberTooLarge) × (tokens (codes "0x") ≡ Bad 1 1 reason.BadNumber)
unfolding tokens
runs = (refl, refl, refl, refl, refl, refl, refl, refl, refl, refl, refl)

types : (literal_type (codes "0") ≡ Some base.Int) × (literal_type (codes "2147483648") ≡ Some base.Long) × (literal_type (codes "0x80000000") ≡ Some base.Unsigned)
    × (literal_type (codes "037777777777") ≡ Some base.Unsigned) × (literal_type (codes "9223372036854775808u") ≡ Some base.UnsignedLong) × (literal_type (codes "1lU") ≡ Some base.UnsignedLong)
    × (literal_type (codes "9223372036854775808L") ≡ Some base.UnsignedLong) × (literal_type (codes "'a'") ≡ Some base.Char) × (literal_type (codes "L'a'") ≡ Some base.WideChar)
    × (literal_type (codes "1u") ≡ Some base.Unsigned) × (literal_type (codes "\"a\"") ≡ None) × (literal_type (codes "x") ≡ None)
unfolding literal_type spelling_of word_kind number_kind operator literal hash slash percent keywords alternatives operators digraphs
types = (refl, refl, refl, refl, refl, refl, refl, refl, refl, refl, refl, refl)

values : (literal_value (codes "'\\377'") ≡ Some (negsuc 0)) × (literal_value (codes "L'\\xFFFFFFFF'") ≡ Some (negsuc 0)) × (literal_value (codes "'\\n'") ≡ Some (pos 10))
    × (literal_value (codes "0x1F") ≡ Some (pos 31)) × (literal_value (codes "017l") ≡ Some (pos 15)) × (literal_value (codes "'\\''") ≡ Some (pos 39))
    × (literal_value (codes "18446744073709551615u") ≡ Some (pos 18446744073709551615)) × (literal_value (codes "\"a\"") ≡ None)
unfolding literal_value spelling_of word_kind number_kind operator literal hash slash percent keywords alternatives operators digraphs
values = (refl, refl, refl, refl, refl, refl, refl, refl)

lengths : (string_length (codes "\"a\\x41\\101b\"") ≡ 4) × (string_length (codes "L\"\"") ≡ 0) × (string_length (codes "\"a\" \"b\"") ≡ 2) × (string_length (codes "\"ab\"/*\"c\"*/\"d\"") ≡ 3)
    × (string_length (codes "\"a\"\n# 1 \"b.c\"\n\"c\"") ≡ 2)
unfolding string_length lengths_from piece_length front longest_within spelling_of word_kind number_kind operator literal hash slash percent keywords alternatives operators digraphs
lengths = (refl, refl, refl, refl, refl)
