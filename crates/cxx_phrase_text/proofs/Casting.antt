-- A cast, part by part.
use Rattle.std.proofs.Common.{◌≡◌, ℕ, List, [], ◌∷◌, ◌++◌, refl, ap, ◌∙◌, append_assoc}
use Rattle.std.specs.Prelude.{codes}
use Rattle.cxx_model.specs.Types.Trees.{CxxType}
use Rattle.cxx_reading.specs.Declarators.{no_cv}
use Rattle.cxx_reading.specs.Words.{Tags, Word, close_word, declared, keyword_word}
use Rattle.cxx_phrase_text.specs.Phrases.{cast_words, zero_words}
use Rattle.cxx_phrase_text.specs.Written.{cast_between, cast_front, cast_opened, cast_parts, zero_parts}

pub cast_is : (tags : Tags) (keyword : List ℕ) (of : CxxType) (inner : List Word) → cast_parts tags keyword of inner ≡ cast_words tags keyword of inner
unfolding cast_parts cast_front cast_opened cast_between
cast_is tags keyword of inner =
    append_assoc (cast_opened keyword) (declared tags no_cv of [] ++ cast_between) (inner ++ close_word ∷ [])
    ∙ ap (λ (ws : List Word). cast_opened keyword ++ ws) (append_assoc (declared tags no_cv of []) cast_between (inner ++ close_word ∷ []))

by_cast : (tags : Tags) (of : CxxType) → zero_parts tags of ≡ cast_parts tags (codes "static_cast") of (keyword_word (codes "0") ∷ [])
unfolding zero_parts cast_parts
by_cast tags of = refl

pub zero_is : (tags : Tags) (of : CxxType) → zero_parts tags of ≡ zero_words tags of
zero_is tags of = by_cast tags of ∙ cast_is tags (codes "static_cast") of (keyword_word (codes "0") ∷ [])
