-- Printed names: their stems, what they spell, and their numbers.
use Rattle.std.proofs.Common.{◌≡◌, ◌≢◌, ◌≤◌, ◌<◌, ℕ, ◌+◌, ◌^◌, ◌%◌, Bool, true, false, cond, ◌&&◌, List, [], ◌∷◌, ◌++◌, length, None, refl, sym, ap, ◌∙◌, arith, append_assoc, length-append}
use Rattle.std.proofs.lemmas.Bool.{and_parts, and_right, or_left, or_right}
use Rattle.std.proofs.lemmas.Bool.Decides.{nat_tests}
use Rattle.std.proofs.lemmas.Fmt.{decimal_by_steps, decimal_injective, decimal_nonempty}
use Rattle.std.proofs.lemmas.List.{append_cancel_left}
use Rattle.std.proofs.lemmas.List.Folds.{list_all-append, list_any-append}
use Rattle.std.specs.Char.{is_ascii_digit}
use Rattle.std.specs.Fmt.{decimal}
use Rattle.std.specs.List.{list_all, list_any}
use Rattle.std.specs.Prelude.{codes}
use Rattle.cxx_model.specs.declared.token.TokenKind.TheVariants.{Name}
use Rattle.cxx_model.specs.Printing.Names.{is_digits, is_tag, untagged, or_n, stem, printed_name}
use Rattle.cxx_model.specs.Text.Spelling.{Good, is_word, begins_word, keywords, alternatives, number_beside, word_by, word_kind}
use Rattle.cxx_model.proofs.Shapes.{shape, no_empty}
use Rattle.cxx_model.proofs.Spellings.{spells_word}
use Rattle.cxx_written.specs.Line.{IsName}
use Rattle.cxx_written.proofs.Shapes.{Spells, word_text}
use Rattle.cxx_written.proofs.Tables.{none_passes, none_passes_beside}

-- ---- digits

digit_byte : (n : ℕ) → n < 10 → is_ascii_digit (48 + n) ≡ true
digit_byte n h = grind (arith, nat_tests)

one_digit : (n : ℕ) → n < 10 → is_digits ((48 + n) ∷ []) ≡ true
one_digit n h = rw (digit_byte n h) refl

more_digits : (n : ℕ) (ds : List ℕ) → 10 ≤ n → is_digits ds ≡ true → is_digits (ds ++ ((48 + n % 10) ∷ [])) ≡ true
more_digits n [] low h = absurd (cc)
more_digits n (d ∷ ds) low h =
    let parts = and_parts (is_ascii_digit d) (list_all is_ascii_digit ds) h in
    rw (parts.0, list_all-append is_ascii_digit ds ((48 + n % 10) ∷ []), parts.1) (rw (digit_byte (n % 10) (omega arith)) refl)

pub decimal_is_digits : (n : ℕ) → n < 2 ^ 64 → is_digits (decimal n) ≡ true
decimal_is_digits n h = decimal_by_steps (λ n ds. is_digits ds ≡ true) one_digit more_digits n h

digit_is_word : (b : ℕ) → is_ascii_digit b ≡ true → is_word b ≡ true
digit_is_word b h = grind (arith, nat_tests)

digits_are_word : (ds : List ℕ) → list_all is_ascii_digit ds ≡ true → list_all is_word ds ≡ true
digits_are_word [] h = refl
digits_are_word (d ∷ ds) h =
    let parts = and_parts (is_ascii_digit d) (list_all is_ascii_digit ds) h in
    rw (digit_is_word d parts.0, digits_are_word ds parts.1) refl

all_of_digits : (ds : List ℕ) → is_digits ds ≡ true → list_all is_ascii_digit ds ≡ true
all_of_digits [] h = refl
all_of_digits (d ∷ ds) h = h

some_digit : (ds : List ℕ) → is_digits ds ≡ true → list_any is_ascii_digit ds ≡ true
some_digit [] h = h
some_digit (d ∷ ds) h = or_left _ _ (and_parts (is_ascii_digit d) (list_all is_ascii_digit ds) h).0

-- ---- tags

no_digits : (s d : List ℕ) → list_all is_ascii_digit (s ++ 95 ∷ d) ≡ false
no_digits [] d = refl
no_digits (x ∷ s) d = and_right _ _ (no_digits s d)

not_digits : (s d : List ℕ) → is_digits (s ++ 95 ∷ d) ≡ false
not_digits [] d = refl
not_digits (x ∷ s) d = and_right _ _ (no_digits s d)

no_tag_before : (x : ℕ) (s d : List ℕ) → is_tag (x ∷ (s ++ 95 ∷ 95 ∷ d)) ≡ false
no_tag_before x [] d = and_right _ _ refl
no_tag_before x (y ∷ s) d = and_right _ _ (not_digits s (95 ∷ d))

untagged_step : (b : ℕ) (text : List ℕ) → is_tag (b ∷ text) ≡ false → untagged (b ∷ text) ≡ b ∷ untagged text
untagged_step b text h = rw h refl

untagged_tag : (d : List ℕ) → is_digits d ≡ true → untagged (95 ∷ 95 ∷ d) ≡ []
untagged_tag d h = rw h refl

-- what stands before the last tag
pub untagged_again : (s d : List ℕ) → is_digits d ≡ true → untagged (s ++ 95 ∷ 95 ∷ d) ≡ s
untagged_again [] d h = untagged_tag d h
untagged_again (x ∷ s) d h = untagged_step x (s ++ 95 ∷ 95 ∷ d) (no_tag_before x s d) ∙ ap (λ t. x ∷ t) (untagged_again s d h)

or_n_again : (text : List ℕ) → or_n (or_n text) ≡ or_n text
or_n_again [] = refl
or_n_again (b ∷ text) = refl

stem_is : (w : List ℕ) → stem w ≡ or_n (untagged w)
unfolding stem
stem_is w = refl

pub printed_is : (n : ℕ) (w : List ℕ) → printed_name n w ≡ stem w ++ 95 ∷ 95 ∷ decimal n
unfolding printed_name
printed_is n w = append_assoc (stem w) (codes "__") (decimal n)

-- A name that is printed again has the stem that it had.
pub stem_again : (n : ℕ) (w : List ℕ) → n < 2 ^ 64 → stem (printed_name n w) ≡ stem w
stem_again n w small =
    stem_is (printed_name n w)
    ∙ ap (λ t. or_n (untagged t)) (printed_is n w)
    ∙ ap or_n (untagged_again (stem w) (decimal n) (decimal_is_digits n small) ∙ stem_is w)
    ∙ or_n_again (untagged w)
    ∙ sym (stem_is w)

pub printed_again : (m n : ℕ) (w : List ℕ) → m < 2 ^ 64 → printed_name n (printed_name m w) ≡ printed_name n w
printed_again m n w small = printed_is n (printed_name m w) ∙ ap (λ s. s ++ 95 ∷ 95 ∷ decimal n) (stem_again m w small) ∙ sym (printed_is n w)

-- ---- a printed name is a name

abbrev pub begins_name : List ℕ → Bool
begins_name [] = false
begins_name (b ∷ rest) = begins_word b && list_all is_word rest

pub name_begins : (w : List ℕ) → Spells w Name → begins_name w ≡ true
name_begins [] e = absurd (no_empty false Name e)
name_begins (b ∷ w) e = let text = word_text b w Name refl (shape false b w Name e) in rw (text.begins, text.all) refl

untagged_by : (tagged : Bool) (b : ℕ) (text rest : List ℕ) → is_word b ≡ true → list_all is_word rest ≡ true → list_all is_word (cond tagged [] (b ∷ rest)) ≡ true
untagged_by true b text rest here all = refl
untagged_by false b text rest here all = rw (here, all) refl

untagged_words : (text : List ℕ) → list_all is_word text ≡ true → list_all is_word (untagged text) ≡ true
untagged_words [] h = refl
untagged_words (b ∷ text) h =
    let parts = and_parts (is_word b) (list_all is_word text) h in
    untagged_by (is_tag (b ∷ text)) b text (untagged text) parts.0 (untagged_words text parts.1)

stem_by : (tagged : Bool) (b : ℕ) (rest : List ℕ) → begins_word b ≡ true → list_all is_word rest ≡ true → begins_name (or_n (cond tagged [] (b ∷ rest))) ≡ true
stem_by true b rest here all = refl
stem_by false b rest here all = rw (here, all) refl

stem_begins : (w : List ℕ) → begins_name w ≡ true → begins_name (stem w) ≡ true
unfolding stem
stem_begins [] h = absurd (cc)
stem_begins (b ∷ w) h =
    let parts = and_parts (begins_word b) (list_all is_word w) h in
    stem_by (is_tag (b ∷ w)) b (untagged w) parts.0 (untagged_words w parts.1)

begins_append : (s t : List ℕ) → begins_name s ≡ true → list_all is_word t ≡ true → begins_name (s ++ t) ≡ true
begins_append [] t h all = absurd (cc)
begins_append (b ∷ s) t h all =
    let parts = and_parts (begins_word b) (list_all is_word s) h in
    rw (parts.0, list_all-append is_word s t, parts.1, all) refl

spells_name : (text : List ℕ) → begins_name text ≡ true → word_kind text ≡ Good Name → Spells text Name
spells_name [] h is = absurd (cc)
spells_name (b ∷ rest) h is =
    let parts = and_parts (begins_word b) (list_all is_word rest) h in
    spells_word false b rest parts.0 ∙ rw (parts.1, is) refl

keywords_have_no_digit : list_any (λ entry. list_any is_ascii_digit entry) keywords ≡ false
unfolding keywords
keywords_have_no_digit = refl

alternatives_have_no_digit : list_any (λ entry. list_any is_ascii_digit entry.0) alternatives ≡ false
unfolding alternatives
alternatives_have_no_digit = refl

name_with_digit : (text : List ℕ) → list_any is_ascii_digit text ≡ true → word_kind text ≡ Good Name
unfolding word_kind
name_with_digit text h =
    ap (λ o. word_by o (number_beside alternatives text)) (none_passes (λ entry. list_any is_ascii_digit entry) keywords text keywords_have_no_digit h)
    ∙ ap (λ o. word_by None o) (none_passes_beside (λ entry. list_any is_ascii_digit entry) alternatives text alternatives_have_no_digit h)

printed_begins : (n : ℕ) (w : List ℕ) → n < 2 ^ 64 → Spells w Name → begins_name (printed_name n w) ≡ true
printed_begins n w small name =
    rw (printed_is n w)
    (begins_append (stem w) (95 ∷ 95 ∷ decimal n) (stem_begins w (name_begins w name)) (digits_are_word (decimal n) (all_of_digits (decimal n) (decimal_is_digits n small))))

printed_has_digit : (n : ℕ) (w : List ℕ) → n < 2 ^ 64 → list_any is_ascii_digit (printed_name n w) ≡ true
printed_has_digit n w small =
    rw (printed_is n w, list_any-append is_ascii_digit (stem w) (95 ∷ 95 ∷ decimal n))
    (or_right _ _ (some_digit (decimal n) (decimal_is_digits n small)))

pub printed_is_name : (n : ℕ) (w : List ℕ) → n < 2 ^ 64 → IsName w → IsName (printed_name n w)
printed_is_name n w small name = record { spelled = spells_name (printed_name n w) (printed_begins n w small name.spelled) (name_with_digit (printed_name n w) (printed_has_digit n w small)) }

-- ---- numbers

-- Equal printed names have equal numbers and equal stems.
pub same_stem : (m n : ℕ) (v w : List ℕ) → m < 2 ^ 64 → n < 2 ^ 64 → printed_name m v ≡ printed_name n w → stem v ≡ stem w
same_stem m n v w low high e = sym (stem_again m v low) ∙ ap stem e ∙ stem_again n w high

pub same_number : (m n : ℕ) (v w : List ℕ) → m < 2 ^ 64 → n < 2 ^ 64 → printed_name m v ≡ printed_name n w → m ≡ n
same_number m n v w low high e =
    let both : stem w ++ 95 ∷ 95 ∷ decimal m ≡ stem w ++ 95 ∷ 95 ∷ decimal n = ap (λ s. s ++ 95 ∷ 95 ∷ decimal m) (sym (same_stem m n v w low high e)) ∙ sym (printed_is m v) ∙ e ∙ printed_is n w in
    let tags = append_cancel_left (stem w) (95 ∷ 95 ∷ decimal m) (95 ∷ 95 ∷ decimal n) both in
    decimal_injective m n low high cc

-- ---- lengths

pub printed_is_longer : (n : ℕ) (w : List ℕ) → n < 2 ^ 64 → 1 < length (printed_name n w)
printed_is_longer n w small = rw (printed_is n w, length-append (stem w) (95 ∷ 95 ∷ decimal n)) (omega (arith, decimal_nonempty n small))

pub printed_is_no_letter : (n b : ℕ) (w : List ℕ) → n < 2 ^ 64 → printed_name n w ≢ b ∷ []
printed_is_no_letter n b w small e = absurd (omega (arith, printed_is_longer n w small, ap length e))
