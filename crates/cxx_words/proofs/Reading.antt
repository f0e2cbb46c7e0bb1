-- Words one after another, digits one after another, and a last word that is `--`.
use Rattle.std.proofs.Common.{◌≡◌, ◌∙◌, ℕ, ◌+◌, ◌*◌, ◌-◌, ◌<◌, ◌≤◌, Bool, true, false, cond, List, [], ◌∷◌, length, drop, take, map, get_or, refl, sym, ap, arith}
use Rattle.std.proofs.lemmas.Bool.{lt-leb}
use Rattle.std.proofs.lemmas.List.{at_drop_more, at_drop_all, length-map, take-map}
use Rattle.std.proofs.lemmas.Option.{slice_get-map, slice_get_read}
use Rattle.std.specs.Prelude.{Option, Some, None, nat_le, ◌&&◌, option_map, option_and_then}
use Rattle.std.specs.List.{slice_get}
use Rattle.std.specs.Option.{option_map_or}
use Rattle.cxx_words.specs.declared.reader.Chosen.{Chosen}
use Rattle.cxx_words.specs.declared.reader.Reader.{Reader}
use Rattle.cxx_words.specs.declared.reader.Setting.{Setting}
use Rattle.cxx_words.specs.Reader.{ended, ended_at, next_by, next_of, opens, read_on}
use Rattle.cxx_words.specs.Words.{Opening, Piece, chosen_by, gives, is_dashes, is_digit, names, neither, no_pieces, note, opened, opening_of, pieces, value_from, with_piece, within_most, without_dashes}

-- ---- digits

one_too_large : (value : ℕ) → 256 < value → within_most (Some value) ≡ None
one_too_large value large = ap (λ b. cond (nat_le 1 value && b) (Some value) None) (lt-leb value 256 large) ∙ no_more (nat_le 1 value)
  where
    no_more : (b : Bool) → cond (b && false) (Some value) None ≡ None
    no_more true = refl
    no_more false = refl

larger_still : (b : Bool) (value byte : ℕ) (rest : List ℕ) → ((next : ℕ) → 256 < next → within_most (value_from next rest) ≡ None) → 256 < value → within_most (cond b (value_from (10 * value + (byte - 48)) rest) None) ≡ None
larger_still true value byte rest later large = later (10 * value + (byte - 48)) (omega arith)
larger_still false value byte rest later large = refl

pub too_large : (text : List ℕ) (value : ℕ) → 256 < value → within_most (value_from value text) ≡ None
too_large [] value large = one_too_large value large
too_large (byte ∷ rest) value large = larger_still (is_digit byte) value byte rest (too_large rest) large

pub digit_too_large : (text : List ℕ) (i d value : ℕ) (whole : Option ℕ) → i < length text → is_digit (get_or text i d) ≡ true → 256 < 10 * value + (get_or text i d - 48) → within_most (value_from value (drop i text)) ≡ whole → None ≡ whole
digit_too_large text i d value whole within digit large so =
    let next : ℕ = 10 * value + (get_or text i d - 48) in
    sym (too_large (drop (i + 1) text) next large)
    ∙ ap (λ b. within_most (cond b (value_from next (drop (i + 1) text)) None)) (sym digit)
    ∙ sym (at_drop_more (λ left. within_most (value_from value left)) text i d within)
    ∙ so

-- ---- one word more

none_then : {A B : Type 0} (found : Option A) → option_and_then {U = B} (λ (x : A). None) found ≡ None
none_then None = refl
none_then (Some x) = refl

piece_then : (found : Option (List Piece)) (chosen : Chosen) (setting : Setting) (value : List ℕ) → option_and_then (chosen_by chosen) (with_piece setting value found) ≡ option_and_then (λ next. option_and_then (chosen_by next) found) (note chosen setting value)
piece_then None chosen setting value = sym (none_then (note chosen setting value))
piece_then (Some others) chosen setting value = refl

ended_then : (found : Option Chosen) (rest : List (List ℕ)) → option_and_then (λ next. option_and_then (chosen_by next) (pieces rest None)) found ≡ option_and_then (λ reader. read_on reader rest) (ended found)
ended_then None rest = refl
ended_then (Some chosen) rest = refl

opened_then : (opening : Opening) (chosen : Chosen) (rest : List (List ℕ)) → option_and_then (chosen_by chosen) (opened opening (λ next. pieces rest next)) ≡ option_and_then (λ reader. read_on reader rest) (opens chosen opening)
opened_then (names setting) chosen rest = refl
opened_then (gives setting value) chosen rest = piece_then (pieces rest None) chosen setting value ∙ ended_then (note chosen setting value) rest
opened_then neither chosen rest = refl

next_then : (waiting : Option Setting) (chosen : Chosen) (word : List ℕ) (rest : List (List ℕ)) → option_and_then (chosen_by chosen) (pieces (word ∷ rest) waiting) ≡ option_and_then (λ reader. read_on reader rest) (next_by waiting chosen word)
next_then (Some setting) chosen word rest = piece_then (pieces rest None) chosen setting word ∙ ended_then (note chosen setting word) rest
next_then None chosen word rest = opened_then (opening_of word) chosen rest

-- ---- the loop

step : {W : Type 0} (text : W → List ℕ) (words : List W) (i : ℕ) (d : W) (reader : Reader) → i < length words → read_on reader (map text (drop i words)) ≡ option_and_then (λ next. read_on next (map text (drop (i + 1) words))) (next_of reader (text (get_or words i d)))
step text words i d reader within = at_drop_more (λ left. read_on reader (map text left)) words i d within ∙ next_then reader.waiting reader.chosen (text (get_or words i d)) (map text (drop (i + 1) words))

pub one_more : {W : Type 0} (text : W → List ℕ) (words : List W) (i : ℕ) (d : W) (reader next : Reader) (whole : Option Chosen) → i < length words → Some next ≡ next_of reader (text (get_or words i d)) → read_on reader (map text (drop i words)) ≡ whole → read_on next (map text (drop (i + 1) words)) ≡ whole
one_more text words i d reader next whole within is so = ap (option_and_then (λ at. read_on at (map text (drop (i + 1) words)))) is ∙ sym (step text words i d reader within) ∙ so

pub none_more : {W : Type 0} (text : W → List ℕ) (words : List W) (i : ℕ) (d : W) (reader : Reader) (whole : Option Chosen) → i < length words → None ≡ next_of reader (text (get_or words i d)) → read_on reader (map text (drop i words)) ≡ whole → whole ≡ None
none_more text words i d reader whole within is so = sym so ∙ step text words i d reader within ∙ ap (option_and_then (λ at. read_on at (map text (drop (i + 1) words)))) (sym is)

at_end : (waiting : Option Setting) (chosen : Chosen) → option_and_then (chosen_by chosen) (no_pieces waiting) ≡ ended_at waiting chosen
at_end None chosen = refl
at_end (Some setting) chosen = refl

pub all_words : {W : Type 0} (text : W → List ℕ) (words : List W) (i : ℕ) (reader : Reader) (whole : Option Chosen) → length words ≤ i → read_on reader (map text (drop i words)) ≡ whole → ended_at reader.waiting reader.chosen ≡ whole
all_words text words i reader whole past so = sym (at_end reader.waiting reader.chosen) ∙ sym (at_drop_all (λ left. read_on reader (map text left)) words i past) ∙ so

-- ---- a last word that is `--`

pub last_word : {W : Type 0} (text : W → List ℕ) (words : List W) (last : W) (b : Bool) → 1 ≤ length words → last ≡ get_or words (length words - 1) last → is_dashes (text last) ≡ b → without_dashes (map text words) ≡ cond b (map text (take (length words - 1) words)) (map text words)
last_word text words last b some is dashes =
    let count : length (map text words) ≡ length words = length-map words text in
    let here : slice_get words (length words - 1) ≡ Some last = slice_get_read words (length words) (length words - 1) last refl (omega (arith, some)) is in
    let found : option_map_or is_dashes (slice_get (map text words) (length words - 1)) false ≡ b = ap (λ o. option_map_or is_dashes o false) (slice_get-map text words (length words - 1) ∙ ap (option_map text) here) ∙ dashes in
    ap (λ n. cond (option_map_or is_dashes (slice_get (map text words) (n - 1)) false) (take (n - 1) (map text words)) (map text words)) count
    ∙ ap (λ b. cond b (take (length words - 1) (map text words)) (map text words)) found
    ∙ ap (λ (front : List (List ℕ)). cond b front (map text words)) (take-map text (length words - 1) words)
