-- Values of integers as the words of a literal.
use Rattle.std.proofs.Common.{◌≡◌, ℕ, pos, negsuc, [], ◌∷◌, ◌++◌, refl}
use Rattle.std.specs.Prelude.{codes}
use Rattle.cxx_reading.specs.Words.{value_words, literal_word, minus_word, keyword_word}

pub nonnegative : (n : ℕ) → value_words (pos n) ≡ literal_word n ∷ []
nonnegative n = refl

pub least : value_words (negsuc 9223372036854775807) ≡ (minus_word ∷ literal_word 9223372036854775807 ∷ []) ++ (keyword_word (codes "-") ∷ literal_word 1 ∷ [])
least = refl
