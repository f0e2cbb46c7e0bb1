-- Lines that are written part by part.
use Rattle.std.proofs.Common.{◌≡◌, ◌<◌, ◌≤◌, ◌+◌, ℕ, List, [], ◌∷◌, ◌++◌, length, drop, get_or, Option, Some, None, refl, sym, ap, ◌∙◌}
use Rattle.std.specs.Prelude.{flat_map}
use Rattle.std.proofs.lemmas.List.{at_drop_more, at_drop_all}
use Rattle.cxx_page.specs.Sheets.{Sheet, and_then, line_ended, put, put_line, put_lines}
use Rattle.cxx_page.proofs.Put.{put_append}
use Rattle.cxx_reading.specs.Words.{Word}
use Rattle.cxx_statement_text.specs.Statements.{Lines, indent, line}

then_same : (one : Option Sheet) (f g : Sheet → Option Sheet) → ((sheet : Sheet) → f sheet ≡ g sheet) → and_then one f ≡ and_then one g
then_same None f g same = refl
then_same (Some sheet) f g same = same sheet

then_then : (one : Option Sheet) (f g : Sheet → Option Sheet) → and_then (and_then one f) g ≡ and_then one (λ sheet. and_then (f sheet) g)
then_then None f g = refl
then_then (Some sheet) f g = refl

then_some : (one : Option Sheet) → and_then one Some ≡ one
then_some None = refl
then_some (Some sheet) = refl

-- ---- a line

pub line_append : (ones twos : List Word) (sheet : Sheet) → put_line (ones ++ twos) sheet ≡ and_then (put ones sheet) (put_line twos)
unfolding put_line
line_append ones twos sheet = ap (λ (one : Option Sheet). and_then one line_ended) (put_append ones twos sheet) ∙ then_then (put ones sheet) (put twos) line_ended

pub line_more : (word : Word) (words : List Word) (sheet : Sheet) → put_line (word ∷ words) sheet ≡ and_then (put (word ∷ []) sheet) (put_line words)
line_more word words sheet = line_append (word ∷ []) words sheet

one_line : (words : List Word) (sheet : Sheet) → put_lines (words ∷ []) sheet ≡ put_line words sheet
unfolding put_lines
one_line words sheet = then_same (put_line words sheet) (put_lines []) Some (λ next. refl) ∙ then_some (put_line words sheet)

pub line_is : (depth : ℕ) (words : List Word) (sheet : Sheet) → put_lines (line depth words) sheet ≡ and_then (put (indent depth) sheet) (put_line words)
line_is depth words sheet = one_line (indent depth ++ words) sheet ∙ line_append (indent depth) words sheet

-- ---- lines

pub lines_append : (ones twos : Lines) (sheet : Sheet) → put_lines (ones ++ twos) sheet ≡ and_then (put_lines ones sheet) (put_lines twos)
unfolding put_lines
lines_append [] twos sheet = refl
lines_append (words ∷ ones) twos sheet =
    then_same (put_line words sheet) (put_lines (ones ++ twos)) (λ next. and_then (put_lines ones next) (put_lines twos)) (lines_append ones twos)
    ∙ sym (then_then (put_line words sheet) (put_lines ones) (put_lines twos))

pub lines_more : (words : List Word) (others : Lines) (sheet : Sheet) → put_lines (words ∷ others) sheet ≡ and_then (put_lines (words ∷ []) sheet) (put_lines others)
lines_more words others sheet = lines_append (words ∷ []) others sheet

pub lines_none : (sheet : Sheet) → put_lines [] sheet ≡ Some sheet
unfolding put_lines
lines_none sheet = refl

-- ---- the lines of each element of a list

module _ {A : Type 0} (lines : A → Lines) where
  cut : (xs : List A) (i : ℕ) (d : A) (page : Sheet) → i < length xs → put_lines (flat_map lines (drop i xs)) page ≡ and_then (put_lines (lines (get_or xs i d)) page) (put_lines (flat_map lines (drop (i + 1) xs)))
  cut xs i d page within =
      at_drop_more (λ (rest : List A). put_lines (flat_map lines rest) page) xs i d within
      ∙ lines_append (lines (get_or xs i d)) (flat_map lines (drop (i + 1) xs)) page

  pub lines_on : (xs : List A) (i : ℕ) (d : A) (page new : Sheet) (whole : Option Sheet) → i < length xs → put_lines (flat_map lines (drop i xs)) page ≡ whole → put_lines (lines (get_or xs i d)) page ≡ Some new → put_lines (flat_map lines (drop (i + 1) xs)) new ≡ whole
  lines_on xs i d page new whole within so written = sym (ap (λ one. and_then one (put_lines (flat_map lines (drop (i + 1) xs)))) written) ∙ (sym (cut xs i d page within) ∙ so)

  pub no_lines_on : (xs : List A) (i : ℕ) (d : A) (page : Sheet) (whole : Option Sheet) → i < length xs → put_lines (flat_map lines (drop i xs)) page ≡ whole → put_lines (lines (get_or xs i d)) page ≡ None → whole ≡ None
  no_lines_on xs i d page whole within so written = sym so ∙ (cut xs i d page within ∙ ap (λ one. and_then one (put_lines (flat_map lines (drop (i + 1) xs)))) written)

  pub lines_end : (xs : List A) (i : ℕ) (page : Sheet) (whole : Option Sheet) → length xs ≤ i → put_lines (flat_map lines (drop i xs)) page ≡ whole → whole ≡ Some page
  lines_end xs i page whole past so = sym so ∙ (at_drop_all (λ (rest : List A). put_lines (flat_map lines rest) page) xs i past ∙ lines_none page)
