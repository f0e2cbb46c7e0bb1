-- The definitions on worked lines.
use Rattle.std.proofs.Common.{◌≡◌, ℕ, true, false, List, [], ◌∷◌, refl}
use Rattle.std.specs.Prelude.{codes}
use Rattle.cxx_model.specs.Printing.Names.{stem}
use Rattle.cxx_model.specs.Text.Spelling.{spelling_of, word_kind, keywords, operators, operator, alternatives, number_kind, digraphs}
use Rattle.cxx_reading.specs.Words.{Word, keyword_word, name_word, open_word, close_word, greater_word, star_word, ampersand_word, minus_word, comma_word, semicolon_word, line_text}
use Rattle.cxx_written.specs.Ends.{are_apart, word_ends_before}

a_line : List Word
a_line = keyword_word (codes "int") ∷ star_word ∷ name_word (codes "f__1") ∷ open_word ∷ keyword_word (codes "int") ∷ ampersand_word ∷ close_word ∷ semicolon_word ∷ []

its_text : line_text a_line ≡ codes "int *f__1(int &);\n"
unfolding a_line
its_text = refl

it_is_apart : are_apart a_line ≡ true
unfolding a_line spelling_of word_kind keywords operators operator alternatives digraphs
it_is_apart = refl

-- two `&` without a gap would be read as one
two_ampersands : are_apart (ampersand_word ∷ ampersand_word ∷ name_word (codes "r__1") ∷ []) ≡ false
unfolding spelling_of word_kind keywords operators operator alternatives digraphs
two_ampersands = refl

-- so would two `>`
two_greater : are_apart (greater_word ∷ greater_word ∷ []) ≡ false
unfolding spelling_of word_kind keywords operators operator alternatives digraphs
two_greater = refl

-- `*` may stand before `&`, and `-` before a number
others : (are_apart (star_word ∷ ampersand_word ∷ name_word (codes "r__1") ∷ []) ≡ true) × (are_apart (minus_word ∷ keyword_word (codes "5") ∷ comma_word ∷ []) ≡ true)
unfolding spelling_of word_kind keywords operators operator alternatives digraphs number_kind
others = (refl, refl)

-- the name `L` is not printed directly before a quote, with which it begins a wide literal
wide : word_ends_before (name_word (codes "L")) 39 ≡ false
unfolding spelling_of word_kind keywords operators operator alternatives digraphs
wide = refl

integer_word : List ℕ → Word
integer_word text = keyword_word text

integers : (word_ends_before (integer_word (codes "0x1e")) 43 ≡ false) × (word_ends_before (integer_word (codes "0x1f")) 43 ≡ true) × (word_ends_before (integer_word (codes "1u")) 41 ≡ true) × (word_ends_before (integer_word (codes "017l")) 46 ≡ false)
unfolding integer_word spelling_of number_kind
integers = (refl, refl, refl, refl)

stem_of_tagged : stem (codes "f__12") ≡ codes "f"
unfolding stem
stem_of_tagged = refl

stem_of_tags : stem (codes "f__1__2") ≡ codes "f__1"
unfolding stem
stem_of_tags = refl
