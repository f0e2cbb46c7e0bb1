-- Words that are written one element after another.
use Rattle.std.proofs.Common.{◌≡◌, ◌<◌, ◌≤◌, ◌+◌, Bool, true, false, ℕ, List, [], ◌∷◌, ◌++◌, length, drop, get_or, map, Option, Some, None, Err, refl, sym, ap, ◌∙◌}
use Rattle.std.proofs.lemmas.List.{at_drop_more, at_drop_all}
use Rattle.cxx_page.specs.declared.fault.PlainFault.{PlainFault}
use Rattle.cxx_page.specs.declared.fault.PlainFault.TheVariants as fault
use Rattle.cxx_page.specs.Sheets.{and_then, put, Sheet, Writes}
use Rattle.cxx_page.specs.Sides.{comma_unless}
use Rattle.cxx_page.proofs.Put.{put_append, put_none}
use Rattle.cxx_reading.specs.Words.{comma_word, others_separated, separated, Word}
use Rattle.cxx_phrase_text.specs.Listed.{listed_words}

others_listed : (words : List (List Word)) → others_separated words ≡ listed_words false words
others_listed [] = refl
others_listed (one ∷ others) = ap (λ (ws : List Word). comma_word ∷ one ++ ws) (others_listed others)

pub all_listed : (words : List (List Word)) → separated words ≡ listed_words true words
all_listed [] = refl
all_listed (one ∷ others) = ap (λ (ws : List Word). one ++ ws) (others_listed others)

-- where a part does not fit, the whole does not
pub fails : (e : PlainFault) (new : Sheet) (part whole : Option Sheet) → (part ≡ None → whole ≡ None) → Writes (Err e) new part → Writes (Err e) new whole
fails fault.Limit new part whole none is = none is
fails fault.OutOfMemory new part whole none is = tt

-- ---- elements of a list, each with its words

module _ {A : Type 0} (words : A → List Word) where
  cut : (xs : List A) (is_first : Bool) (i : ℕ) (d : A) (page : Sheet) → i < length xs
      → put (listed_words is_first (map words (drop i xs))) page ≡ and_then (put (comma_unless is_first ++ words (get_or xs i d)) page) (put (listed_words false (map words (drop (i + 1) xs))))
  cut xs is_first i d page within =
      at_drop_more (λ (rest : List A). put (listed_words is_first (map words rest)) page) xs i d within
      ∙ put_append (comma_unless is_first ++ words (get_or xs i d)) (listed_words false (map words (drop (i + 1) xs))) page

  pub goes_on : (xs : List A) (is_first : Bool) (i : ℕ) (d : A) (page new : Sheet) (whole : Option Sheet) → i < length xs
      → put (listed_words is_first (map words (drop i xs))) page ≡ whole
      → put (comma_unless is_first ++ words (get_or xs i d)) page ≡ Some new
      → put (listed_words false (map words (drop (i + 1) xs))) new ≡ whole
  goes_on xs is_first i d page new whole within so written =
      sym (ap (λ one. and_then one (put (listed_words false (map words (drop (i + 1) xs))))) written) ∙ (sym (cut xs is_first i d page within) ∙ so)

  pub no_room : (xs : List A) (is_first : Bool) (i : ℕ) (d : A) (page : Sheet) (whole : Option Sheet) → i < length xs
      → put (listed_words is_first (map words (drop i xs))) page ≡ whole
      → put (comma_unless is_first ++ words (get_or xs i d)) page ≡ None
      → whole ≡ None
  no_room xs is_first i d page whole within so written =
      sym so ∙ (cut xs is_first i d page within ∙ ap (λ one. and_then one (put (listed_words false (map words (drop (i + 1) xs))))) written)

  pub ends : (xs : List A) (is_first : Bool) (i : ℕ) (page : Sheet) (whole : Option Sheet) → length xs ≤ i
      → put (listed_words is_first (map words (drop i xs))) page ≡ whole
      → whole ≡ Some page
  ends xs is_first i page whole past so = sym so ∙ (at_drop_all (λ (rest : List A). put (listed_words is_first (map words rest)) page) xs i past ∙ put_none page)
