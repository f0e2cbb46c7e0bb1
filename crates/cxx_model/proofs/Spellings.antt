-- The longest fronts by what they spell: each token before what cannot go on with it.
use Rattle.std.proofs.Common.{◌≡◌, ◌≤◌, ◌<◌, ℕ, zero, suc, ◌+◌, ◌-◌, Bool, true, false, not, cond, ◌==◌, ◌&&◌, ◌||◌, List, [], ◌∷◌, ◌++◌, length, take, Option, Some, None, refl, sym, ap, ◌∙◌, subst, ⊎_elim, arith, length-append, eqb-true, eq-eqb, ◌⊎◌, inl, inr, leb-true, le-ltb, nat_le, nat_lt, bytes_eq, take_all, append_assoc, append-nil}
use Rattle.std.proofs.Math.Seq.{take-append_seam}
use Rattle.std.proofs.lemmas.Bool.{cases_lt, cases_Bool, and_left, and_right, and_parts, or_cases, or_from, or_left, or_parts, both_ways}
use Rattle.std.proofs.lemmas.Bool.Decides.{nat_tests}
use Rattle.std.proofs.lemmas.Slice.Eq.{bytes_eq-Decides}
use Rattle.std.specs.List.{list_all, list_any, position_or_len, take_while}
use Rattle.std.specs.Char.{is_ascii_digit}
use Rattle.cxx_model.specs.Text.Spelling.{Spelled, Blank, Good, Ill, Ending, Open, Closed, Past, is_white, is_word, begins_word, begins_number, is_number_rest, is_quote, word_kind, number_kind, alone, number_in, number_beside, first_of, keywords, alternatives, operators, digraphs, operator_by, operator, closed_if_last, literal_ending, literal_by, literal_kind, body_of, literal, wide_literal, comment_ending, comment_by, is_newline, within_line, past_blanks, is_marker_word, marker_by, hash, slash, backslash, percent, spelling_of, Letter, letters, character_by, string_by, is_bad_letter, is_universal_letter, word_by, number_by, integer_by, integer_type, integer_parts, is_floating, IntegerParts}
use Rattle.cxx_model.specs.Text.Continuing.{starts, number_goes_on, last_of, begins_comment, is_colon, BeginsOperator, IsLongestBy, Goes, comment, starts_with, alone_goes_on, operator_goes_on}
use Rattle.cxx_model.specs.declared.base.Base.{Base}
use Rattle.cxx_model.specs.declared.token.TokenKind.{TokenKind}
use Rattle.cxx_model.specs.declared.token.TokenKind.TheVariants.{Name, Keyword, Punct, Integer, Character, Text, End}
use Rattle.cxx_model.specs.declared.token.TokenReason.{TokenReason}
use Rattle.cxx_model.specs.declared.token.TokenReason.TheVariants as reason
use Rattle.cxx_model.specs.Text.Tokens.{IsLongest, width_of, is_some_width}

-- ---- bytes

pub word_is_black : (b : ℕ) → begins_word b ≡ true → is_white b ≡ false
word_is_black b h = grind (arith, nat_tests)

pub digit_is_black : (b : ℕ) → is_ascii_digit b ≡ true → is_white b ≡ false
digit_is_black b h = grind (arith, nat_tests)

pub digit_begins_no_word : (b : ℕ) → is_ascii_digit b ≡ true → begins_word b ≡ false
digit_begins_no_word b h = grind (arith, nat_tests)

pub quote_is_no_word : (b : ℕ) → is_quote b ≡ true → is_word b ≡ false
quote_is_no_word b h = grind (arith, nat_tests)

pub word_is_no_quote : (b : ℕ) → is_word b ≡ true → is_quote b ≡ false
word_is_no_quote b h = grind (arith, nat_tests)

by_cond : {A : Type 0} (c : Bool) (x y z : A) → (c ≡ true → x ≡ z) → (c ≡ false → y ≡ z) → cond c x y ≡ z
by_cond true x y z when unless = when refl
by_cond false x y z when unless = unless refl

-- ---- what a text spells, by its first byte

pub spells_blank : (fresh : Bool) (b : ℕ) (rest : List ℕ) → is_white b ≡ true → spelling_of fresh (b ∷ rest) ≡ alone rest Blank
unfolding spelling_of
spells_blank fresh b rest white = rw white refl

pub spells_word : (fresh : Bool) (b : ℕ) (rest : List ℕ) → begins_word b ≡ true → spelling_of fresh (b ∷ rest) ≡ cond (list_all is_word rest) (Some (word_kind (b ∷ rest))) (wide_literal b rest)
unfolding spelling_of
spells_word fresh b rest word = rw (word_is_black b word, word) refl

pub spells_number : (fresh : Bool) (b : ℕ) (rest : List ℕ) → is_white b ≡ false → begins_word b ≡ false → begins_number b rest ≡ true → spelling_of fresh (b ∷ rest) ≡ cond (is_number_rest b rest) (Some (number_kind (b ∷ rest))) None
unfolding spelling_of
spells_number fresh b rest black other number = rw (black, other, number) refl

spells_single : (fresh : Bool) (rest : List ℕ) → spelling_of fresh (39 ∷ rest) ≡ literal false 39 rest
unfolding spelling_of
spells_single fresh rest = refl

spells_double : (fresh : Bool) (rest : List ℕ) → spelling_of fresh (34 ∷ rest) ≡ literal false 34 rest
unfolding spelling_of
spells_double fresh rest = refl

pub spells_narrow : (fresh : Bool) (quote : ℕ) (rest : List ℕ) → is_quote quote ≡ true → spelling_of fresh (quote ∷ rest) ≡ literal false quote rest
spells_narrow fresh quote rest h =
    ⊎_elim
    (λ (p : (quote == 39) ≡ true). let e : quote ≡ 39 = eqb-true quote 39 p in subst (λ q. spelling_of fresh (q ∷ rest) ≡ literal false q rest) (sym e) (spells_single fresh rest))
    (λ (p : (quote == 34) ≡ true). let e : quote ≡ 34 = eqb-true quote 34 p in subst (λ q. spelling_of fresh (q ∷ rest) ≡ literal false q rest) (sym e) (spells_double fresh rest))
    (or_cases (quote == 39) (quote == 34) h)

pub spells_hash : (fresh : Bool) (rest : List ℕ) → spelling_of fresh (35 ∷ rest) ≡ hash fresh rest
unfolding spelling_of
spells_hash fresh rest = refl

pub spells_slash : (fresh : Bool) (rest : List ℕ) → spelling_of fresh (47 ∷ rest) ≡ slash rest
unfolding spelling_of
spells_slash fresh rest = refl

pub spells_backslash : (fresh : Bool) (rest : List ℕ) → spelling_of fresh (92 ∷ rest) ≡ backslash rest
unfolding spelling_of
spells_backslash fresh rest = refl

pub spells_percent : (fresh : Bool) (rest : List ℕ) → spelling_of fresh (37 ∷ rest) ≡ percent rest
unfolding spelling_of
spells_percent fresh rest = refl

slash_operator : (rest : List ℕ) → starts begins_comment rest ≡ false → slash rest ≡ operator 47 rest
unfolding slash
slash_operator [] h = refl
slash_operator (c ∷ rest) h = let p = or_parts (c == 47) (c == 42) h in rw (p.0, p.1) refl

percent_operator : (rest : List ℕ) → starts is_colon rest ≡ false → percent rest ≡ operator 37 rest
unfolding percent
percent_operator [] h = refl
percent_operator (c ∷ rest) h = rw h refl

second_false : (p q : Bool) → (p && q) ≡ false → p ≡ true → q ≡ false
second_false true q h e = h
second_false false q h e = cc

pub spells_operator : (fresh : Bool) (b : ℕ) (rest : List ℕ) → BeginsOperator b rest → spelling_of fresh (b ∷ rest) ≡ operator b rest
unfolding spelling_of
spells_operator fresh b rest h =
    rw (h.black, h.no_word, h.no_number, h.no_quote, h.no_hash, h.no_backslash)
    (by_cond (b == 47) (slash rest) (cond (b == 37) (percent rest) (operator b rest)) (operator b rest)
    (λ p. let e : b ≡ 47 = eqb-true b 47 p in slash_operator rest (second_false (b == 47) (starts begins_comment rest) h.no_comment p) ∙ ap (λ x. operator x rest) (sym e))
    (λ p. by_cond (b == 37) (percent rest) (operator b rest) (operator b rest)
    (λ q. let e : b ≡ 37 = eqb-true b 37 q in percent_operator rest (second_false (b == 37) (starts is_colon rest) h.no_directive q) ∙ ap (λ x. operator x rest) (sym e))
    (λ q. refl)))

-- ---- a token and what follows it

longer : (fresh : Bool) (b : ℕ) (text : List ℕ) (len : ℕ) → ((m : ℕ) → len < m → m ≤ length text → spelling_of fresh (b ∷ take m text) ≡ None) → (n : ℕ) → suc len < n → n ≤ length (b ∷ text) → spelling_of fresh (take n (b ∷ text)) ≡ None
longer fresh b text len none zero low high = absurd (omega arith)
longer fresh b text len none (suc m) low high = none m (omega arith) (omega arith)

-- by what no longer front spells
pub longest_from : (fresh : Bool) (b : ℕ) (w tail : List ℕ) (spells : Spelled) → spelling_of fresh (b ∷ w) ≡ Some spells → ((m : ℕ) → length w < m → m ≤ length (w ++ tail) → spelling_of fresh (b ∷ take m (w ++ tail)) ≡ None) → IsLongest fresh (b ∷ (w ++ tail)) (record { len = suc (length w); spells = spells })
longest_from fresh b w tail spells spelled none = record {
  some = omega arith;
  within = omega (arith, length-append w tail);
  spelled = ap (λ t. spelling_of fresh (b ∷ t)) (take-append_seam w tail) ∙ spelled;
  longest = longer fresh b (w ++ tail) (length w) none;
}

pub take_from : (w x : List ℕ) (k : ℕ) → take (length w + k) (w ++ x) ≡ w ++ take k x
take_from [] x k = let e : 0 + k ≡ k = omega arith in ap (λ n. take n x) e
take_from (b ∷ w) x k = let e : suc (length w) + k ≡ suc (length w + k) = omega arith in ap (λ n. take n (b ∷ (w ++ x))) e ∙ ap (λ t. b ∷ t) (take_from w x k)

-- behind these bytes one rule is another
pub longest_under : (rule later : List ℕ → Option Spelled) (w tail : List ℕ) (n : ℕ) (spells : Spelled) → ((k : ℕ) → n ≤ k → k ≤ length tail → rule (w ++ take k tail) ≡ later (take k tail)) → IsLongestBy later tail n spells → IsLongestBy rule (w ++ tail) (length w + n) spells
longest_under rule later w tail n spells same h = record {
  fits = omega (arith, length-append w tail, h.fits);
  spelled = ap rule (take_from w tail n) ∙ same n (omega arith) h.fits ∙ h.spelled;
  longest = λ m low high.
      let k : ℕ = m - length w in
      let e : m ≡ length w + k = omega arith in
      let fits : k ≤ length tail = omega (arith, length-append w tail) in
      ap (λ j. rule (take j (w ++ tail))) e ∙ ap rule (take_from w tail k) ∙ same k (omega arith) fits ∙ h.longest k (omega arith) fits;
}

pub longest_of : (fresh : Bool) (text : List ℕ) (len : ℕ) (spells : Spelled) → 0 < len → IsLongestBy (spelling_of fresh) text len spells → IsLongest fresh text (record { len = len; spells = spells })
longest_of fresh text len spells some h = record { some = some; within = h.fits; spelled = h.spelled; longest = h.longest }

-- ---- white space

none_beside : (fresh : Bool) (b : ℕ) (rest : List ℕ) → is_white b ≡ true → (m : ℕ) → 0 < m → m ≤ length rest → spelling_of fresh (b ∷ take m rest) ≡ None
none_beside fresh b rest white zero low high = absurd (omega arith)
none_beside fresh b [] white (suc m) low high = absurd (omega arith)
none_beside fresh b (c ∷ rest) white (suc m) low high = spells_blank fresh b (c ∷ take m rest) white

-- white space is read a byte at a time
pub blank_front : (fresh : Bool) (b : ℕ) (rest : List ℕ) → is_white b ≡ true → IsLongest fresh (b ∷ rest) (record { len = 1; spells = Blank })
blank_front fresh b rest white = longest_from fresh b [] rest Blank (spells_blank fresh b [] white) (none_beside fresh b rest white)

-- ---- words

not_all_word : (w tail : List ℕ) (m : ℕ) → starts is_word tail ≡ false → length w < m → m ≤ length (w ++ tail) → list_all is_word (take m (w ++ tail)) ≡ false
not_all_word [] [] m ends low high = absurd (omega arith)
not_all_word [] (c ∷ tail) zero ends low high = absurd (omega arith)
not_all_word [] (c ∷ tail) (suc m) ends low high = and_left _ _ ends
not_all_word (x ∷ w) tail zero ends low high = absurd (omega arith)
not_all_word (x ∷ w) tail (suc m) ends low high = and_right _ _ (not_all_word w tail m ends (omega arith) (omega arith))

not_wide : (b c : ℕ) (rest : List ℕ) → (b == 76 && is_quote c) ≡ false → wide_literal b (c ∷ rest) ≡ None
not_wide b c rest h = rw h refl

not_wide_at : (b : ℕ) (text : List ℕ) (m : ℕ) → (b == 76 && starts is_quote text) ≡ false → wide_literal b (take m text) ≡ None
not_wide_at b text zero h = refl
not_wide_at b [] (suc m) h = refl
not_wide_at b (c ∷ text) (suc m) h = not_wide b c (take m text) h

none_wordy : (fresh : Bool) (b : ℕ) (rest : List ℕ) → begins_word b ≡ true → list_all is_word rest ≡ false → wide_literal b rest ≡ None → spelling_of fresh (b ∷ rest) ≡ None
none_wordy fresh b rest word other narrow = spells_word fresh b rest word ∙ rw other narrow

pub spells_whole_word : (fresh : Bool) (b : ℕ) (rest : List ℕ) → begins_word b ≡ true → list_all is_word rest ≡ true → spelling_of fresh (b ∷ rest) ≡ Some (word_kind (b ∷ rest))
spells_whole_word fresh b rest word all = spells_word fresh b rest word ∙ rw all refl

-- a word, before what does not go on with it, where it does not begin a wide literal
pub word_longest : (fresh : Bool) (b : ℕ) (w tail : List ℕ) → begins_word b ≡ true → list_all is_word w ≡ true → starts is_word tail ≡ false → (b == 76 && starts is_quote (w ++ tail)) ≡ false → IsLongest fresh (b ∷ (w ++ tail)) (record { len = suc (length w); spells = word_kind (b ∷ w) })
word_longest fresh b w tail word all ends narrow =
    longest_from fresh b w tail (word_kind (b ∷ w)) (spells_whole_word fresh b w word all)
    (λ m low high. none_wordy fresh b (take m (w ++ tail)) word (not_all_word w tail m ends low high) (not_wide_at b (w ++ tail) m narrow))

-- ---- numbers

not_number_rest : (first : ℕ) (w tail : List ℕ) (m : ℕ) → starts (number_goes_on (last_of first w)) tail ≡ false → length w < m → m ≤ length (w ++ tail) → is_number_rest first (take m (w ++ tail)) ≡ false
not_number_rest first [] [] m ends low high = absurd (omega arith)
not_number_rest first [] (c ∷ tail) zero ends low high = absurd (omega arith)
not_number_rest first [] (c ∷ tail) (suc m) ends low high = and_left _ _ ends
not_number_rest first (x ∷ w) tail zero ends low high = absurd (omega arith)
not_number_rest first (x ∷ w) tail (suc m) ends low high = and_right _ _ (not_number_rest x w tail m ends (omega arith) (omega arith))

begins_number_more : (b : ℕ) (w tail : List ℕ) (m : ℕ) → begins_number b w ≡ true → length w < m → begins_number b (take m (w ++ tail)) ≡ true
begins_number_more b w tail zero number low = absurd (omega arith)
begins_number_more b [] tail (suc m) number low = ⊎_elim (λ p. or_left _ _ p) (λ p. absurd (both_ways _ (and_right (b == 46) _ refl) p)) (or_cases (is_ascii_digit b) _ number)
begins_number_more b (x ∷ w) tail (suc m) number low = number

pub number_is_black : (b : ℕ) (rest : List ℕ) → begins_number b rest ≡ true → is_white b ≡ false
number_is_black b rest number =
    ⊎_elim
    (λ p. digit_is_black b p)
    (λ p. ap is_white (eqb-true b 46 (and_parts _ _ p).0))
    (or_cases (is_ascii_digit b) _ number)

pub number_begins_no_word : (b : ℕ) (rest : List ℕ) → begins_number b rest ≡ true → begins_word b ≡ false
number_begins_no_word b rest number =
    ⊎_elim
    (λ p. digit_begins_no_word b p)
    (λ p. ap begins_word (eqb-true b 46 (and_parts _ _ p).0))
    (or_cases (is_ascii_digit b) _ number)

-- a number, before what does not go on with it
pub number_front : (fresh : Bool) (b : ℕ) (w tail : List ℕ) → begins_number b w ≡ true → is_number_rest b w ≡ true → starts (number_goes_on (last_of b w)) tail ≡ false → IsLongest fresh (b ∷ (w ++ tail)) (record { len = suc (length w); spells = number_kind (b ∷ w) })
number_front fresh b w tail number all ends =
    let black : is_white b ≡ false = number_is_black b w number in
    let other : begins_word b ≡ false = number_begins_no_word b w number in
    longest_from fresh b w tail (number_kind (b ∷ w)) (spells_number fresh b w black other number ∙ rw all refl)
    (λ m low high. spells_number fresh b (take m (w ++ tail)) black other (begins_number_more b w tail m number low) ∙ rw (not_number_rest b w tail m ends low high) refl)

-- ---- scans: a comment or a literal closes, or is open still

pub goes_start : (f : List ℕ → Ending) → Goes f f []
goes_start f = λ text. refl

pub goes_more : (f g h : List ℕ → Ending) (done : List ℕ) (b : ℕ) → Goes f g done → ((text : List ℕ) → g (b ∷ text) ≡ h text) → Goes f h (done ++ b ∷ [])
goes_more f g h done b goes next = λ text. ap f (append_assoc done (b ∷ []) text) ∙ goes (b ∷ text) ∙ next text

-- behind a byte that closes, all longer texts are past the end
shut : (f g : List ℕ → Ending) (done : List ℕ) (b : ℕ) (tail : List ℕ) → Goes f g done → ((text : List ℕ) → g (b ∷ text) ≡ closed_if_last text) → (m : ℕ) → suc (length done) < m → m ≤ length (done ++ b ∷ tail) → f (take m (done ++ b ∷ tail)) ≡ Past
shut f g done b tail goes closes m low high =
    let k : ℕ = m - length done in
    let e : m ≡ length done + k = omega arith in
    ap (λ j. f (take j (done ++ b ∷ tail))) e ∙ ap f (take_from done (b ∷ tail) k) ∙ goes (take k (b ∷ tail)) ∙ past_end tail k (omega arith) (omega (arith, length-append done (b ∷ tail)))
  where
    past_end : (tail : List ℕ) (k : ℕ) → 1 < k → k ≤ length (b ∷ tail) → g (take k (b ∷ tail)) ≡ Past
    past_end tail zero low high = absurd (omega arith)
    past_end tail (suc zero) low high = absurd (omega arith)
    past_end [] (suc (suc k)) low high = absurd (omega arith)
    past_end (c ∷ tail) (suc (suc k)) low high = closes (c ∷ take k tail)

take_done : (done tail : List ℕ) (b : ℕ) → take (suc (length done)) (done ++ b ∷ tail) ≡ done ++ b ∷ []
take_done done tail b = let e : suc (length done) ≡ length done + 1 = omega arith in ap (λ n. take n (done ++ b ∷ tail)) e ∙ take_from done (b ∷ tail) 1

done_fits : (done tail : List ℕ) (b : ℕ) → suc (length done) ≤ length (done ++ b ∷ tail)
done_fits done tail b = omega (arith, length-append done (b ∷ tail))

comment_closes : (text : List ℕ) → comment_ending true (47 ∷ text) ≡ closed_if_last text
comment_closes text = refl

pub comment_closed : (done tail : List ℕ) → Goes (comment_ending false) (comment_ending true) done → IsLongestBy comment (done ++ 47 ∷ tail) (suc (length done)) Blank
comment_closed done tail goes = record {
  fits = done_fits done tail 47;
  spelled = ap comment (take_done done tail 47) ∙ ap comment_by (goes (47 ∷ []));
  longest = λ m low high. ap comment_by (shut (comment_ending false) (comment_ending true) done 47 tail goes comment_closes m low high);
}

pub comment_open : (done : List ℕ) (star : Bool) → Goes (comment_ending false) (comment_ending star) done → IsLongestBy comment done (length done) (Ill reason.UnfinishedComment)
comment_open done star goes = record {
  fits = omega arith;
  spelled = ap comment (take_all (length done) done (omega arith)) ∙ ap (λ t. comment_by (comment_ending false t)) (sym (append-nil done)) ∙ ap comment_by (goes []);
  longest = λ m low high. absurd (omega arith);
}

-- a literal, behind its first quote
pub literal_ends : (quote : ℕ) (text : List ℕ) → is_quote quote ≡ true → literal_ending quote false (quote ∷ text) ≡ closed_if_last text
literal_ends quote text h =
    let e : (quote == quote) ≡ true = eq-eqb quote quote refl in
    let black : (quote == 10) ≡ false = quote_is_no_newline quote h in
    rw (black, e) refl
  where
    quote_is_no_newline : (b : ℕ) → is_quote b ≡ true → (b == 10) ≡ false
    quote_is_no_newline b h = grind (arith, nat_tests)

body_done : (done : List ℕ) (b : ℕ) → body_of (done ++ b ∷ []) ≡ done
body_done done b =
    let e : length (done ++ b ∷ []) - 1 ≡ length done = omega (arith, length-append done (b ∷ [])) in
    ap (λ n. take n (done ++ b ∷ [])) e ∙ take-append_seam done (b ∷ [])

literal_past : (wide : Bool) (quote : ℕ) (rest : List ℕ) → literal_ending quote false rest ≡ Past → literal wide quote rest ≡ None
unfolding literal
literal_past wide quote rest e = ap (literal_by wide quote rest) e

pub literal_is_closed : (wide : Bool) (quote : ℕ) (rest : List ℕ) → literal_ending quote false rest ≡ Closed → literal wide quote rest ≡ Some (literal_kind wide quote (body_of rest))
unfolding literal
literal_is_closed wide quote rest e = ap (literal_by wide quote rest) e

literal_is_open : (wide : Bool) (quote : ℕ) (rest : List ℕ) → literal_ending quote false rest ≡ Open → literal wide quote rest ≡ Some (Ill reason.UnfinishedLiteral)
unfolding literal
literal_is_open wide quote rest e = ap (literal_by wide quote rest) e

pub literal_closed : (wide : Bool) (quote : ℕ) (done tail : List ℕ) → is_quote quote ≡ true → Goes (literal_ending quote false) (literal_ending quote false) done → IsLongestBy (literal wide quote) (done ++ quote ∷ tail) (suc (length done)) (literal_kind wide quote done)
literal_closed wide quote done tail h goes = record {
  fits = done_fits done tail quote;
  spelled = ap (literal wide quote) (take_done done tail quote) ∙ literal_is_closed wide quote (done ++ quote ∷ []) (goes (quote ∷ []) ∙ literal_ends quote [] h) ∙ ap (λ body. Some (literal_kind wide quote body)) (body_done done quote);
  longest = λ m low high. literal_past wide quote (take m (done ++ quote ∷ tail)) (shut (literal_ending quote false) (literal_ending quote false) done quote tail goes (λ text. literal_ends quote text h) m low high);
}

newline_ends : (quote : ℕ) (escaped : Bool) (text : List ℕ) → literal_ending quote escaped (10 ∷ text) ≡ Past
newline_ends quote true text = refl
newline_ends quote false text = refl

-- at the end, or before a newline, it is open
pub literal_open : (wide : Bool) (quote : ℕ) (escaped : Bool) (done tail : List ℕ) → Goes (literal_ending quote false) (literal_ending quote escaped) done → ((tail ≡ []) ⊎ ((rest : List ℕ) × (tail ≡ 10 ∷ rest))) → IsLongestBy (literal wide quote) (done ++ tail) (length done) (Ill reason.UnfinishedLiteral)
literal_open wide quote escaped done tail goes ends = record {
  fits = omega (arith, length-append done tail);
  spelled = ap (literal wide quote) (take-append_seam done tail) ∙ literal_is_open wide quote done (ap (literal_ending quote false) (sym (append-nil done)) ∙ goes []);
  longest = λ m low high.
      let k : ℕ = m - length done in
      let e : m ≡ length done + k = omega arith in
      let fits : k ≤ length tail = omega (arith, length-append done tail) in
      let some : 0 < k = omega arith in
      literal_past wide quote (take m (done ++ tail)) (ap (λ j. literal_ending quote false (take j (done ++ tail))) e ∙ ap (literal_ending quote false) (take_from done tail k) ∙ goes (take k tail) ∙ none_behind tail k ends some fits);
}
  where
    behind_newline : (tail rest : List ℕ) (k : ℕ) → tail ≡ 10 ∷ rest → 0 < k → literal_ending quote escaped (take k tail) ≡ Past
    behind_newline tail rest zero e low = absurd (omega arith)
    behind_newline tail rest (suc k) e low = ap (λ t. literal_ending quote escaped (take (suc k) t)) e ∙ newline_ends quote escaped (take k rest)

    none_behind : (tail : List ℕ) (k : ℕ) → ((tail ≡ []) ⊎ ((rest : List ℕ) × (tail ≡ 10 ∷ rest))) → 0 < k → k ≤ length tail → literal_ending quote escaped (take k tail) ≡ Past
    none_behind tail k (inl e) low high = let none : length tail ≡ 0 = ap length e in absurd (omega arith)
    none_behind tail k (inr e) low high = behind_newline tail e.0 k e.1 low

-- ---- a line

no_newline_append : (w tail : List ℕ) → list_any is_newline w ≡ false → list_any is_newline (w ++ tail) ≡ list_any is_newline tail
no_newline_append [] tail h = refl
no_newline_append (b ∷ w) tail h = let p = or_parts (is_newline b) (list_any is_newline w) h in rw p.0 (no_newline_append w tail p.1)

pub within_line_append : (w tail : List ℕ) → list_any is_newline w ≡ false → within_line (w ++ tail) ≡ within_line tail
within_line_append w tail h = ap (λ c. cond c None (Some Blank)) (no_newline_append w tail h)

-- up to a newline, or the end
pub line_longest : (done tail : List ℕ) → list_any is_newline done ≡ false → ((tail ≡ []) ⊎ ((rest : List ℕ) × (tail ≡ 10 ∷ rest))) → IsLongestBy within_line (done ++ tail) (length done) Blank
line_longest done tail line ends = record {
  fits = omega (arith, length-append done tail);
  spelled = ap within_line (take-append_seam done tail) ∙ ap (λ c. cond c None (Some Blank)) line;
  longest = λ m low high.
      let k : ℕ = m - length done in
      let e : m ≡ length done + k = omega arith in
      let fits : k ≤ length tail = omega (arith, length-append done tail) in
      let some : 0 < k = omega arith in
      ap (λ j. within_line (take j (done ++ tail))) e ∙ ap within_line (take_from done tail k) ∙ within_line_append done (take k tail) line ∙ none_behind tail k ends some fits;
}
  where
    behind_newline : (tail rest : List ℕ) (k : ℕ) → tail ≡ 10 ∷ rest → 0 < k → within_line (take k tail) ≡ None
    behind_newline tail rest zero e low = absurd (omega arith)
    behind_newline tail rest (suc k) e low = ap (λ t. within_line (take (suc k) t)) e

    none_behind : (tail : List ℕ) (k : ℕ) → ((tail ≡ []) ⊎ ((rest : List ℕ) × (tail ≡ 10 ∷ rest))) → 0 < k → k ≤ length tail → within_line (take k tail) ≡ None
    none_behind tail k (inl e) low high = let none : length tail ≡ 0 = ap length e in absurd (omega arith)
    none_behind tail k (inr e) low high = behind_newline tail e.0 k e.1 low

-- ---- a text that spells a literal, before anything

abbrev pub is_literal : TokenKind → Bool
is_literal Character = true
is_literal Text = true
is_literal Name = false
is_literal (Keyword n) = false
is_literal (Punct n) = false
is_literal Integer = false
is_literal End = false

-- the rule spells a literal
abbrev pub gives_literal : Option Spelled → Bool
gives_literal (Some (Good kind)) = is_literal kind
gives_literal (Some Blank) = false
gives_literal (Some (Ill reason)) = false
gives_literal None = false

neither_gives : (c : Bool) (x y : Option Spelled) → gives_literal x ≡ false → gives_literal y ≡ false → gives_literal (cond c x y) ≡ false
neither_gives true x y h k = h
neither_gives false x y h k = k

alone_gives : (rest : List ℕ) (why : TokenReason) → gives_literal (alone rest (Ill why)) ≡ false
alone_gives [] why = refl
alone_gives (b ∷ rest) why = refl

blank_gives : (rest : List ℕ) → gives_literal (alone rest Blank) ≡ false
blank_gives [] = refl
blank_gives (b ∷ rest) = refl

word_gives : (text : List ℕ) → gives_literal (Some (word_kind text)) ≡ false
unfolding word_kind
word_gives text = by (number_in keywords text) (number_beside alternatives text)
  where
    by : (m n : Option ℕ) → gives_literal (Some (word_by m n)) ≡ false
    by (Some m) n = refl
    by None (Some n) = refl
    by None None = refl

number_gives : (text : List ℕ) → gives_literal (Some (number_kind text)) ≡ false
unfolding number_kind
number_gives text = by (integer_parts text) (is_floating text)
  where
    typed : (type : Option Base) → gives_literal (Some (integer_by type)) ≡ false
    typed (Some type) = refl
    typed None = refl

    by : (parts : Option IntegerParts) (floats : Bool) → gives_literal (Some (number_by parts floats)) ≡ false
    by (Some parts) floats = typed (integer_type parts)
    by None true = refl
    by None false = refl

operator_gives : (b : ℕ) (rest : List ℕ) → gives_literal (operator b rest) ≡ false
unfolding operator
operator_gives b rest = by (first_of (number_in operators (b ∷ rest)) (number_beside digraphs (b ∷ rest)))
  where
    by : (n : Option ℕ) → gives_literal (operator_by n rest) ≡ false
    by (Some n) = refl
    by None = alone_gives rest reason.StrayByte

line_gives : (text : List ℕ) → gives_literal (within_line text) ≡ false
line_gives text = neither_gives (list_any is_newline text) None (Some Blank) refl refl

marker_gives : (text rest : List ℕ) → gives_literal (marker_by text rest) ≡ false
marker_gives text [] = refl
marker_gives text (b ∷ rest) =
    neither_gives (is_ascii_digit b) _ _ (line_gives text)
    (neither_gives (is_marker_word (take_while is_word (b ∷ rest))) _ _ (line_gives text)
    (neither_gives (list_all is_word (b ∷ rest)) _ _ refl refl))

hash_gives : (fresh : Bool) (rest : List ℕ) → gives_literal (hash fresh rest) ≡ false
unfolding hash
hash_gives fresh rest = neither_gives fresh _ _ (marker_gives rest (past_blanks rest)) (alone_gives rest reason.Directive)

comment_gives : (ending : Ending) → gives_literal (comment_by ending) ≡ false
comment_gives Open = refl
comment_gives Closed = refl
comment_gives Past = refl

slash_gives : (rest : List ℕ) → gives_literal (slash rest) ≡ false
unfolding slash
slash_gives [] = operator_gives 47 []
slash_gives (b ∷ rest) =
    neither_gives (b == 47) _ _ (line_gives rest)
    (neither_gives (b == 42) _ _ (comment_gives (comment_ending false rest)) (operator_gives 47 (b ∷ rest)))

backslash_gives : (rest : List ℕ) → gives_literal (backslash rest) ≡ false
backslash_gives [] = refl
backslash_gives (b ∷ rest) = neither_gives (b == 117 || b == 85) _ _ (alone_gives rest reason.UniversalName) refl

percent_gives : (rest : List ℕ) → gives_literal (percent rest) ≡ false
unfolding percent
percent_gives [] = operator_gives 37 []
percent_gives (b ∷ rest) = neither_gives (b == 58) _ _ (alone_gives rest reason.Directive) (operator_gives 37 (b ∷ rest))

empty_gives : (fresh : Bool) → gives_literal (spelling_of fresh []) ≡ false
unfolding spelling_of
empty_gives fresh = refl

-- a literal, narrow or wide, by its quote and what stands behind it
pub data LiteralShape (spells : Spelled) (b : ℕ) (rest : List ℕ) : Type 0 where
  in_narrow : is_quote b ≡ true → literal false b rest ≡ Some spells → LiteralShape spells b rest
  in_wide : (quote : ℕ) (behind : List ℕ) → b ≡ 76 → is_quote quote ≡ true → rest ≡ quote ∷ behind → literal true quote behind ≡ Some spells → LiteralShape spells b rest

pub cond_is : {A : Type 0} (c : Bool) (x y z : A) → cond c x y ≡ z → ((c ≡ true) × (x ≡ z)) ⊎ ((c ≡ false) × (y ≡ z))
cond_is true x y z e = inl (refl, e)
cond_is false x y z e = inr (refl, e)

not_given : (o : Option Spelled) (kind : TokenKind) {C : Type 0} → is_literal kind ≡ true → gives_literal o ≡ false → o ≡ Some (Good kind) → C
not_given o kind h none e = absurd (both_ways (gives_literal o) none (ap gives_literal e ∙ h))

wide_shape : (kind : TokenKind) (b : ℕ) (rest : List ℕ) → wide_literal b rest ≡ Some (Good kind) → LiteralShape (Good kind) b rest
wide_shape kind b [] e = absurd cc
wide_shape kind b (quote ∷ behind) e =
    ⊎_elim
    (λ (p : ((b == 76 && is_quote quote) ≡ true) × (literal true quote behind ≡ Some (Good kind))). let q = and_parts (b == 76) (is_quote quote) p.0 in in_wide quote behind (eqb-true b 76 q.0) q.1 refl p.1)
    (λ (p : ((b == 76 && is_quote quote) ≡ false) × (None ≡ Some (Good kind))). absurd cc)
    (cond_is (b == 76 && is_quote quote) (literal true quote behind) None (Some (Good kind)) e)

rest_of_text : Bool → ℕ → List ℕ → Option Spelled
rest_of_text fresh b rest = cond (b == 35) (hash fresh rest) (cond (b == 47) (slash rest) (cond (b == 92) (backslash rest) (cond (b == 37) (percent rest) (operator b rest))))

rest_gives : (fresh : Bool) (b : ℕ) (rest : List ℕ) → gives_literal (rest_of_text fresh b rest) ≡ false
unfolding rest_of_text
rest_gives fresh b rest =
    neither_gives (b == 35) _ _ (hash_gives fresh rest)
    (neither_gives (b == 47) _ _ (slash_gives rest)
    (neither_gives (b == 92) _ _ (backslash_gives rest)
    (neither_gives (b == 37) _ _ (percent_gives rest) (operator_gives b rest))))

quote_shape : (fresh : Bool) (kind : TokenKind) (b : ℕ) (rest : List ℕ) → is_literal kind ≡ true → cond (is_quote b) (literal false b rest) (rest_of_text fresh b rest) ≡ Some (Good kind) → LiteralShape (Good kind) b rest
quote_shape fresh kind b rest h e =
    ⊎_elim
    (λ (p : (is_quote b ≡ true) × (literal false b rest ≡ Some (Good kind))). in_narrow p.0 p.1)
    (λ (p : (is_quote b ≡ false) × (rest_of_text fresh b rest ≡ Some (Good kind))). not_given _ kind h (rest_gives fresh b rest) p.1)
    (cond_is (is_quote b) (literal false b rest) (rest_of_text fresh b rest) (Some (Good kind)) e)

number_shape : (fresh : Bool) (kind : TokenKind) (b : ℕ) (rest : List ℕ) → is_literal kind ≡ true → cond (begins_number b rest) (cond (is_number_rest b rest) (Some (number_kind (b ∷ rest))) None) (cond (is_quote b) (literal false b rest) (rest_of_text fresh b rest)) ≡ Some (Good kind) → LiteralShape (Good kind) b rest
number_shape fresh kind b rest h e =
    ⊎_elim
    (λ (p : (begins_number b rest ≡ true) × (cond (is_number_rest b rest) (Some (number_kind (b ∷ rest))) None ≡ Some (Good kind))). not_given _ kind h (neither_gives (is_number_rest b rest) _ _ (number_gives (b ∷ rest)) refl) p.1)
    (λ (p : (begins_number b rest ≡ false) × (cond (is_quote b) (literal false b rest) (rest_of_text fresh b rest) ≡ Some (Good kind))). quote_shape fresh kind b rest h p.1)
    (cond_is (begins_number b rest) _ _ (Some (Good kind)) e)

word_shape : (kind : TokenKind) (b : ℕ) (rest : List ℕ) → is_literal kind ≡ true → cond (list_all is_word rest) (Some (word_kind (b ∷ rest))) (wide_literal b rest) ≡ Some (Good kind) → LiteralShape (Good kind) b rest
word_shape kind b rest h e =
    ⊎_elim
    (λ (p : (list_all is_word rest ≡ true) × (Some (word_kind (b ∷ rest)) ≡ Some (Good kind))). not_given _ kind h (word_gives (b ∷ rest)) p.1)
    (λ (p : (list_all is_word rest ≡ false) × (wide_literal b rest ≡ Some (Good kind))). wide_shape kind b rest p.1)
    (cond_is (list_all is_word rest) _ _ (Some (Good kind)) e)

pub literal_shape : (fresh : Bool) (kind : TokenKind) (b : ℕ) (rest : List ℕ) → is_literal kind ≡ true → spelling_of fresh (b ∷ rest) ≡ Some (Good kind) → LiteralShape (Good kind) b rest
unfolding spelling_of rest_of_text
literal_shape fresh kind b rest h e =
    ⊎_elim
    (λ (p : (is_white b ≡ true) × (alone rest Blank ≡ Some (Good kind))). not_given _ kind h (blank_gives rest) p.1)
    (λ (p : (is_white b ≡ false) × (cond (begins_word b) (cond (list_all is_word rest) (Some (word_kind (b ∷ rest))) (wide_literal b rest)) (cond (begins_number b rest) (cond (is_number_rest b rest) (Some (number_kind (b ∷ rest))) None) (cond (is_quote b) (literal false b rest) (rest_of_text fresh b rest))) ≡ Some (Good kind))).
    ⊎_elim
    (λ (q : (begins_word b ≡ true) × (cond (list_all is_word rest) (Some (word_kind (b ∷ rest))) (wide_literal b rest) ≡ Some (Good kind))). word_shape kind b rest h q.1)
    (λ (q : (begins_word b ≡ false) × (cond (begins_number b rest) (cond (is_number_rest b rest) (Some (number_kind (b ∷ rest))) None) (cond (is_quote b) (literal false b rest) (rest_of_text fresh b rest)) ≡ Some (Good kind))). number_shape fresh kind b rest h q.1)
    (cond_is (begins_word b) _ _ (Some (Good kind)) p.1))
    (cond_is (is_white b) _ _ (Some (Good kind)) e)

-- a literal is closed, so that nothing goes on with it

pub good_is_closed : (wide : Bool) (quote : ℕ) (rest : List ℕ) (kind : TokenKind) → literal wide quote rest ≡ Some (Good kind) → literal_ending quote false rest ≡ Closed
unfolding literal
good_is_closed wide quote rest kind e = by (literal_ending quote false rest) e
  where
    by : (ending : Ending) → literal_by wide quote rest ending ≡ Some (Good kind) → ending ≡ Closed
    by Open e = absurd cc
    by Closed e = refl
    by Past e = absurd cc

last_then_past : (w : List ℕ) (c : ℕ) (t : List ℕ) → closed_if_last w ≡ Closed → closed_if_last (w ++ c ∷ t) ≡ Past
last_then_past [] c t e = refl
last_then_past (b ∷ w) c t e = absurd cc

open_at_end : (quote : ℕ) (escaped : Bool) → literal_ending quote escaped [] ≡ Open
open_at_end quote true = refl
open_at_end quote false = refl

after_escape : (newline : Bool) (here later : Ending) → (here ≡ Closed → later ≡ Past) → cond newline Past here ≡ Closed → cond newline Past later ≡ Past
after_escape true here later go e = refl
after_escape false here later go e = go e

at_byte : (newline ends : Bool) (w : List ℕ) (c : ℕ) (t : List ℕ) (here later : Ending) → (here ≡ Closed → later ≡ Past) → cond newline Past (cond ends (closed_if_last w) here) ≡ Closed → cond newline Past (cond ends (closed_if_last (w ++ c ∷ t)) later) ≡ Past
at_byte true ends w c t here later go e = refl
at_byte false true w c t here later go e = last_then_past w c t e
at_byte false false w c t here later go e = go e

closed_then_past : (quote : ℕ) (escaped : Bool) (w : List ℕ) (c : ℕ) (t : List ℕ) → literal_ending quote escaped w ≡ Closed → literal_ending quote escaped (w ++ c ∷ t) ≡ Past
closed_then_past quote escaped [] c t e = absurd (cc (open_at_end quote escaped))
closed_then_past quote true (b ∷ w) c t e = after_escape (b == 10) (literal_ending quote false w) (literal_ending quote false (w ++ c ∷ t)) (closed_then_past quote false w c t) e
closed_then_past quote false (b ∷ w) c t e = at_byte (b == 10) (b == quote) w c t (literal_ending quote (b == 92) w) (literal_ending quote (b == 92) (w ++ c ∷ t)) (closed_then_past quote (b == 92) w c t) e

literal_then_none : (wide : Bool) (quote : ℕ) (rest : List ℕ) (kind : TokenKind) (c : ℕ) (t : List ℕ) → literal wide quote rest ≡ Some (Good kind) → literal wide quote (rest ++ c ∷ t) ≡ None
literal_then_none wide quote rest kind c t e = literal_past wide quote (rest ++ c ∷ t) (closed_then_past quote false rest c t (good_is_closed wide quote rest kind e))

wide_spells : (fresh : Bool) (quote : ℕ) (rest : List ℕ) → is_quote quote ≡ true → spelling_of fresh (76 ∷ quote ∷ rest) ≡ literal true quote rest
wide_spells fresh quote rest h =
    spells_word fresh 76 (quote ∷ rest) refl ∙ rw (quote_is_no_word quote h, h) refl

more_spells_none : (fresh : Bool) (kind : TokenKind) (b : ℕ) (rest : List ℕ) (c : ℕ) (t : List ℕ) → LiteralShape (Good kind) b rest → spelling_of fresh (b ∷ (rest ++ c ∷ t)) ≡ None
more_spells_none fresh kind b rest c t (in_narrow h e) = spells_narrow fresh b (rest ++ c ∷ t) h ∙ literal_then_none false b rest kind c t e
more_spells_none fresh kind b rest c t (in_wide quote behind l h is e) =
    rw (l, is) (wide_spells fresh quote (behind ++ c ∷ t) h ∙ literal_then_none true quote behind kind c t e)

none_behind_literal : (fresh : Bool) (kind : TokenKind) (b : ℕ) (w tail : List ℕ) → LiteralShape (Good kind) b w → (m : ℕ) → length w < m → m ≤ length (w ++ tail) → spelling_of fresh (b ∷ take m (w ++ tail)) ≡ None
none_behind_literal fresh kind b w tail shape m low high =
    let k : ℕ = m - length w in
    let e : m ≡ length w + k = omega arith in
    ap (λ j. spelling_of fresh (b ∷ take j (w ++ tail))) e ∙ ap (λ t. spelling_of fresh (b ∷ t)) (take_from w tail k) ∙ behind tail k (omega arith) (omega (arith, length-append w tail))
  where
    behind : (tail : List ℕ) (k : ℕ) → 0 < k → k ≤ length tail → spelling_of fresh (b ∷ (w ++ take k tail)) ≡ None
    behind tail zero low high = absurd (omega arith)
    behind [] (suc k) low high = absurd (omega arith)
    behind (c ∷ tail) (suc k) low high = more_spells_none fresh kind b w c (take k tail) shape

-- a character or string literal, before anything
pub literal_front : (fresh : Bool) (text tail : List ℕ) (kind : TokenKind) → is_literal kind ≡ true → spelling_of fresh text ≡ Some (Good kind) → IsLongest fresh (text ++ tail) (record { len = length text; spells = Good kind })
literal_front fresh [] tail kind h e = absurd (empty_spells e)
  where
    empty_spells : spelling_of fresh [] ≡ Some (Good kind) → ⊥
    empty_spells e = not_given (spelling_of fresh []) kind h (empty_gives fresh) e
literal_front fresh (b ∷ w) tail kind h e = longest_from fresh b w tail (Good kind) e (none_behind_literal fresh kind b w tail (literal_shape fresh kind b w h e))

pub character_front : (fresh : Bool) (text tail : List ℕ) → spelling_of fresh text ≡ Some (Good Character) → IsLongest fresh (text ++ tail) (record { len = length text; spells = Good Character })
character_front fresh text tail e = literal_front fresh text tail Character refl e

-- ---- a string has a width

spells_text : Spelled → Bool
spells_text (Good Text) = true
spells_text _ = false

character_is_no_text : (wide : Bool) (all : List Letter) → spells_text (character_by wide all) ≡ false
unfolding spells_text
character_is_no_text wide [] = refl
character_is_no_text wide (c ∷ []) = by (is_bad_letter wide c) (is_universal_letter c)
  where
    by : (bad universal : Bool) → spells_text (cond bad (Ill reason.BadEscape) (cond universal (Ill reason.UniversalName) (Good Character))) ≡ false
    by true universal = refl
    by false true = refl
    by false false = refl
character_is_no_text wide (c ∷ d ∷ all) = by (list_any (is_bad_letter wide) (c ∷ d ∷ all))
  where
    by : (bad : Bool) → spells_text (cond bad (Ill reason.BadEscape) (Ill reason.MultiCharacter)) ≡ false
    by true = refl
    by false = refl

text_kind : (wide : Bool) (quote : ℕ) (body : List ℕ) → is_quote quote ≡ true → literal_kind wide quote body ≡ Good Text → (quote == 34) ≡ true
unfolding spells_text
text_kind wide quote body h e =
    ⊎_elim
    (λ (p : (quote == 39) ≡ true). let is : character_by wide (letters 0 body) ≡ Good Text = ap (λ c. cond c (character_by wide (letters 0 body)) (string_by wide (letters 0 body))) (sym p) ∙ e in
    absurd (both_ways (spells_text (character_by wide (letters 0 body))) (character_is_no_text wide (letters 0 body)) (ap spells_text is)))
    (λ (p : (quote == 34) ≡ true). p)
    (or_cases (quote == 39) (quote == 34) h)

text_quote : (wide : Bool) (quote : ℕ) (rest : List ℕ) → is_quote quote ≡ true → literal wide quote rest ≡ Some (Good Text) → (quote == 34) ≡ true
text_quote wide quote rest h e =
    let closed = literal_is_closed wide quote rest (good_is_closed wide quote rest Text e) in
    let kind : literal_kind wide quote (body_of rest) ≡ Good Text = cc (closed, e) in
    text_kind wide quote (body_of rest) h kind

shape_width : (b : ℕ) (rest tail : List ℕ) → LiteralShape (Good Text) b rest → is_some_width (width_of (b ∷ (rest ++ tail))) ≡ true
shape_width b rest tail (in_narrow h e) = rw (text_quote false b rest h e) refl
shape_width b rest tail (in_wide quote behind l h is e) =
    let q : quote ≡ 34 = eqb-true quote 34 (text_quote true quote behind h e) in
    rw (l, is, q) refl

-- the text that a string begins with has the string's width
pub text_width : (fresh : Bool) (text tail : List ℕ) → spelling_of fresh text ≡ Some (Good Text) → is_some_width (width_of (text ++ tail)) ≡ true
text_width fresh [] tail e = absurd (both_ways (gives_literal (spelling_of fresh [])) (empty_gives fresh) (ap gives_literal e))
text_width fresh (b ∷ rest) tail e = shape_width b rest tail (literal_shape fresh Text b rest refl e)

-- ---- operators

shorter_starts : (test : ℕ → Bool) (rest : List ℕ) (m : ℕ) → starts test rest ≡ false → starts test (take m rest) ≡ false
shorter_starts test rest zero h = refl
shorter_starts test [] (suc m) h = refl
shorter_starts test (c ∷ rest) (suc m) h = h

both_shorter : (p : Bool) (test : ℕ → Bool) (rest : List ℕ) (m : ℕ) → (p && starts test rest) ≡ false → (p && starts test (take m rest)) ≡ false
both_shorter false test rest m h = refl
both_shorter true test rest m h = shorter_starts test rest m h

no_number_front : (b : ℕ) (rest : List ℕ) (m : ℕ) → begins_number b rest ≡ false → begins_number b (take m rest) ≡ false
no_number_front b rest zero h = or_from _ _ (or_parts _ _ h).0 (and_right _ _ refl)
no_number_front b [] (suc m) h = h
no_number_front b (c ∷ rest) (suc m) h = h

shorter_begins : (b : ℕ) (rest : List ℕ) (m : ℕ) → BeginsOperator b rest → BeginsOperator b (take m rest)
shorter_begins b rest m h = record {
  black = h.black;
  no_word = h.no_word;
  no_number = no_number_front b rest m h.no_number;
  no_quote = h.no_quote;
  no_hash = h.no_hash;
  no_comment = both_shorter (b == 47) begins_comment rest m h.no_comment;
  no_backslash = h.no_backslash;
  no_directive = both_shorter (b == 37) is_colon rest m h.no_directive;
}

pub spells_operator_front : (fresh : Bool) (b : ℕ) (rest : List ℕ) (m : ℕ) → BeginsOperator b rest → spelling_of fresh (b ∷ take m rest) ≡ operator b (take m rest)
spells_operator_front fresh b rest m h = spells_operator fresh b (take m rest) (shorter_begins b rest m h)

-- a text that is no entry of a table has no number there

not_found : (table : List (List ℕ)) (text : List ℕ) → list_any (λ entry. bytes_eq text entry) table ≡ false → position_or_len (λ entry. bytes_eq text entry) table ≡ length table
not_found [] text h = refl
not_found (entry ∷ table) text h =
    let p = or_parts (bytes_eq text entry) (list_any (λ entry. bytes_eq text entry) table) h in
    let rest = not_found table text p.1 in
    rw (p.0, rest) (omega arith)

not_in : (table : List (List ℕ)) (text : List ℕ) → list_any (λ entry. bytes_eq text entry) table ≡ false → number_in table text ≡ None
not_in table text h =
    let at_end : nat_lt (position_or_len (λ entry. bytes_eq text entry) table) (length table) ≡ false = rw (not_found table text h) (le-ltb (length table) (length table) (omega arith)) in
    ap (λ c. cond c (Some (position_or_len (λ entry. bytes_eq text entry) table)) None) at_end

not_beside : (table : List (List ℕ × ℕ)) (text : List ℕ) → list_any (λ entry. bytes_eq text entry.0) table ≡ false → number_beside table text ≡ None
not_beside [] text h = refl
not_beside (entry ∷ table) text h =
    let p = or_parts (bytes_eq text entry.0) (list_any (λ entry. bytes_eq text entry.0) table) h in
    rw p.0 (not_beside table text p.1)

no_operator : (b : ℕ) (c : ℕ) (rest : List ℕ) → list_any (λ entry. bytes_eq (b ∷ c ∷ rest) entry) operators ≡ false → list_any (λ entry. bytes_eq (b ∷ c ∷ rest) entry.0) digraphs ≡ false → operator b (c ∷ rest) ≡ None
unfolding operator
no_operator b c rest h k =
    let text : List ℕ = b ∷ c ∷ rest in
    ap (λ n. operator_by (first_of n (number_beside digraphs text)) (c ∷ rest)) (not_in operators text h)
    ∙ ap (λ n. operator_by (first_of None n) (c ∷ rest)) (not_beside digraphs text k)

-- no operator has more than three bytes

longer_differs : (text entry : List ℕ) → length entry < length text → bytes_eq text entry ≡ false
longer_differs [] entry h = absurd (omega arith)
longer_differs (b ∷ text) [] h = refl
longer_differs (b ∷ text) (c ∷ entry) h = and_right (b == c) (bytes_eq text entry) (longer_differs text entry (omega arith))

are_short : List (List ℕ) → Bool
are_short table = list_all (λ entry. nat_le (length entry) 3) table

beside_short : List (List ℕ × ℕ) → Bool
beside_short table = list_all (λ entry. nat_le (length entry.0) 3) table

operators_are_short : are_short operators ≡ true
unfolding operators are_short
operators_are_short = refl

digraphs_are_short : beside_short digraphs ≡ true
unfolding digraphs beside_short
digraphs_are_short = refl

too_long : (table : List (List ℕ)) (text : List ℕ) → are_short table ≡ true → 3 < length text → list_any (λ entry. bytes_eq text entry) table ≡ false
unfolding are_short
too_long [] text short long = refl
too_long (entry ∷ table) text short long =
    let parts = and_parts (nat_le (length entry) 3) (list_all (λ entry. nat_le (length entry) 3) table) short in
    let fits : length entry ≤ 3 = leb-true (length entry) 3 parts.0 in
    or_from _ _ (longer_differs text entry (omega arith)) (too_long table text parts.1 long)

too_long_beside : (table : List (List ℕ × ℕ)) (text : List ℕ) → beside_short table ≡ true → 3 < length text → list_any (λ entry. bytes_eq text entry.0) table ≡ false
unfolding beside_short
too_long_beside [] text short long = refl
too_long_beside (entry ∷ table) text short long =
    let parts = and_parts (nat_le (length entry.0) 3) (list_all (λ entry. nat_le (length entry.0) 3) table) short in
    let fits : length entry.0 ≤ 3 = leb-true (length entry.0) 3 parts.0 in
    or_from _ _ (longer_differs text entry.0 (omega arith)) (too_long_beside table text parts.1 long)

operator_too_long : (b c d e : ℕ) (rest : List ℕ) → operator b (c ∷ d ∷ e ∷ rest) ≡ None
operator_too_long b c d e rest =
    let text : List ℕ = b ∷ c ∷ d ∷ e ∷ rest in
    no_operator b c (d ∷ e ∷ rest) (too_long operators text operators_are_short (omega arith)) (too_long_beside digraphs text digraphs_are_short (omega arith))

no_long_operator : (b : ℕ) (text : List ℕ) (m : ℕ) → 2 < m → m ≤ length text → operator b (take m text) ≡ None
no_long_operator b text zero low high = absurd (omega arith)
no_long_operator b text (suc zero) low high = absurd (omega arith)
no_long_operator b text (suc (suc zero)) low high = absurd (omega arith)
no_long_operator b [] (suc (suc (suc m))) low high = absurd (omega arith)
no_long_operator b (c ∷ []) (suc (suc (suc m))) low high = absurd (omega arith)
no_long_operator b (c ∷ d ∷ []) (suc (suc (suc m))) low high = absurd (omega arith)
no_long_operator b (c ∷ d ∷ e ∷ text) (suc (suc (suc m))) low high = operator_too_long b c d e (take m text)

-- an operator, before what makes no longer one of it
pub operator_front : (fresh : Bool) (b : ℕ) (w tail : List ℕ) (spells : Spelled) → BeginsOperator b (w ++ tail) → operator b w ≡ Some spells → ((m : ℕ) → length w < m → m ≤ 2 → m ≤ length (w ++ tail) → operator b (take m (w ++ tail)) ≡ None) → IsLongest fresh (b ∷ (w ++ tail)) (record { len = suc (length w); spells = spells })
operator_front fresh b w tail spells begins is none =
    let seam = take-append_seam w tail in
    longest_from fresh b w tail spells
    (ap (λ t. spelling_of fresh (b ∷ t)) (sym seam) ∙ spells_operator_front fresh b (w ++ tail) (length w) begins ∙ ap (operator b) seam ∙ is)
    (λ m low high. spells_operator_front fresh b (w ++ tail) m begins ∙
    ⊎_elim
    (λ (long : 2 < m). no_long_operator b (w ++ tail) m long high)
    (λ (short : m ≤ 2). none m low short high)
    (cases_lt 2 m))

-- ---- each operator in its primary spelling, before what does not go on with it

differs_behind : (text : List ℕ) (c : ℕ) (rest entry : List ℕ) → starts_with (text ++ c ∷ []) entry ≡ false → bytes_eq (text ++ c ∷ rest) entry ≡ false
differs_behind [] c rest [] h = refl
differs_behind [] c rest (e ∷ entry) h = and_left (c == e) _ (left_of_true (c == e) h)
  where
    left_of_true : (p : Bool) → (p && true) ≡ false → p ≡ false
    left_of_true true h = h
    left_of_true false h = refl
differs_behind (b ∷ text) c rest [] h = refl
differs_behind (b ∷ text) c rest (e ∷ entry) h = split (b == e) h (differs_behind text c rest entry)
  where
    split : (p : Bool) → (p && starts_with (text ++ c ∷ []) entry) ≡ false → (starts_with (text ++ c ∷ []) entry ≡ false → bytes_eq (text ++ c ∷ rest) entry ≡ false) → (p && bytes_eq (text ++ c ∷ rest) entry) ≡ false
    split true h go = go h
    split false h go = refl

none_starts : (table : List (List ℕ)) (text : List ℕ) (c : ℕ) (rest : List ℕ) → list_any (λ entry. starts_with (text ++ c ∷ []) entry) table ≡ false → list_any (λ entry. bytes_eq (text ++ c ∷ rest) entry) table ≡ false
none_starts [] text c rest h = refl
none_starts (entry ∷ table) text c rest h =
    let p = or_parts (starts_with (text ++ c ∷ []) entry) (list_any (λ entry. starts_with (text ++ c ∷ []) entry) table) h in
    or_from _ _ (differs_behind text c rest entry p.0) (none_starts table text c rest p.1)

none_starts_beside : (table : List (List ℕ × ℕ)) (text : List ℕ) (c : ℕ) (rest : List ℕ) → list_any (λ entry. starts_with (text ++ c ∷ []) entry.0) table ≡ false → list_any (λ entry. bytes_eq (text ++ c ∷ rest) entry.0) table ≡ false
none_starts_beside [] text c rest h = refl
none_starts_beside (entry ∷ table) text c rest h =
    let p = or_parts (starts_with (text ++ c ∷ []) entry.0) (list_any (λ entry. starts_with (text ++ c ∷ []) entry.0) table) h in
    or_from _ _ (differs_behind text c rest entry.0 p.0) (none_starts_beside table text c rest p.1)

none_in_table : (text : List ℕ) (c : ℕ) (rest : List ℕ) → operator_goes_on text c ≡ false → (list_any (λ entry. bytes_eq (text ++ c ∷ rest) entry) operators ≡ false) × (list_any (λ entry. bytes_eq (text ++ c ∷ rest) entry.0) digraphs ≡ false)
none_in_table text c rest h =
    let p = or_parts (list_any (λ entry. starts_with (text ++ c ∷ []) entry) operators) (list_any (λ entry. starts_with (text ++ c ∷ []) entry.0) digraphs || alone_goes_on text c) h in
    let q = or_parts (list_any (λ entry. starts_with (text ++ c ∷ []) entry.0) digraphs) (alone_goes_on text c) p.1 in
    (none_starts operators text c rest p.0, none_starts_beside digraphs text c rest q.0)

none_behind : (b : ℕ) (w : List ℕ) (c : ℕ) (rest : List ℕ) → operator_goes_on (b ∷ w) c ≡ false → operator b (w ++ c ∷ rest) ≡ None
none_behind b [] c rest h = let p = none_in_table (b ∷ []) c rest h in no_operator b c rest p.0 p.1
none_behind b (d ∷ w) c rest h = let p = none_in_table (b ∷ d ∷ w) c rest h in no_operator b d (w ++ c ∷ rest) p.0 p.1

-- the spelling begins as operators do
begins_operator : List ℕ → Bool
begins_operator [] = false
begins_operator (b ∷ w) = not (is_white b || (begins_word b || (begins_number b w || (is_quote b || (b == 35 || ((b == 47 && starts begins_comment w) || (b == 92 || (b == 37 && starts is_colon w))))))))

nothing_begins : begins_operator [] ≡ false
unfolding begins_operator
nothing_begins = refl

operators_begin : list_all begins_operator operators ≡ true
unfolding operators begins_operator
operators_begin = refl

found : (test : List ℕ → Bool) (table : List (List ℕ)) (text : List ℕ) → list_all test table ≡ true → list_any (λ entry. bytes_eq text entry) table ≡ true → test text ≡ true
found test [] text all h = absurd cc
found test (entry ∷ table) text all h =
    let p = and_parts (test entry) (list_all test table) all in
    ⊎_elim
    (λ (here : bytes_eq text entry ≡ true). let e : text ≡ entry = (bytes_eq-Decides text entry).0 here in ap test e ∙ p.0)
    (λ (later : list_any (λ entry. bytes_eq text entry) table ≡ true). found test table text p.1 later)
    (or_cases (bytes_eq text entry) (list_any (λ entry. bytes_eq text entry) table) h)

in_table : (table : List (List ℕ)) (text : List ℕ) (n : ℕ) → number_in table text ≡ Some n → list_any (λ entry. bytes_eq text entry) table ≡ true
in_table table text n e =
    ⊎_elim
    (λ (yes_it_is : list_any (λ entry. bytes_eq text entry) table ≡ true). yes_it_is)
    (λ (not_it : list_any (λ entry. bytes_eq text entry) table ≡ false). let none = not_in table text not_it in absurd cc)
    (cases_Bool (list_any (λ entry. bytes_eq text entry) table))

not_true : (p : Bool) → not p ≡ true → p ≡ false
not_true true h = cc
not_true false h = refl

starts_behind : (test : ℕ → Bool) (b : ℕ) (w tail : List ℕ) (p : Bool) → (p && starts test w) ≡ false → ((c : ℕ) → w ≡ [] → starts (λ d. d == c) tail ≡ true → (p && test c) ≡ false) → (p && starts test (w ++ tail)) ≡ false
starts_behind test b [] [] p h alone = h
starts_behind test b [] (c ∷ tail) p h alone = alone c refl (eq-eqb c c refl)
starts_behind test b (d ∷ w) tail p h alone = h

starts_is : (test : ℕ → Bool) (tail : List ℕ) (c : ℕ) → starts test tail ≡ false → starts (λ d. d == c) tail ≡ true → test c ≡ false
starts_is test [] c ends h = cc
starts_is test (b ∷ tail) c ends h = let e : b ≡ c = eqb-true b c h in subst (λ x. test x ≡ false) e ends

alone_parts : (b c : ℕ) → operator_goes_on (b ∷ []) c ≡ false → ((b == 46 && is_ascii_digit c) ≡ false) × ((b == 47 && begins_comment c) ≡ false) × ((b == 37 && is_colon c) ≡ false)
alone_parts b c h =
    let p = or_parts (list_any (λ entry. starts_with (b ∷ c ∷ []) entry) operators) (list_any (λ entry. starts_with (b ∷ c ∷ []) entry.0) digraphs || alone_goes_on (b ∷ []) c) h in
    let q = or_parts (list_any (λ entry. starts_with (b ∷ c ∷ []) entry.0) digraphs) (alone_goes_on (b ∷ []) c) p.1 in
    let r = or_parts (b == 46 && is_ascii_digit c) ((b == 47 && begins_comment c) || (b == 37 && is_colon c)) q.1 in
    let s = or_parts (b == 47 && begins_comment c) (b == 37 && is_colon c) r.1 in
    (r.0, s.0, s.1)

number_behind : (b : ℕ) (w tail : List ℕ) → begins_number b w ≡ false → ((c : ℕ) → w ≡ [] → starts (λ d. d == c) tail ≡ true → (b == 46 && is_ascii_digit c) ≡ false) → begins_number b (w ++ tail) ≡ false
number_behind b [] [] h alone = h
number_behind b [] (c ∷ tail) h alone = or_from _ _ (or_parts _ _ h).0 (alone c refl (eq-eqb c c refl))
number_behind b (d ∷ w) tail h alone = h

begins_before : (b : ℕ) (w tail : List ℕ) → begins_operator (b ∷ w) ≡ true → starts (operator_goes_on (b ∷ w)) tail ≡ false → BeginsOperator b (w ++ tail)
unfolding begins_operator
begins_before b w tail h ends =
    let a = or_parts (is_white b) _ (not_true _ h) in
    let d = or_parts (begins_word b) _ a.1 in
    let e = or_parts (begins_number b w) _ d.1 in
    let f = or_parts (is_quote b) _ e.1 in
    let g = or_parts (b == 35) _ f.1 in
    let i = or_parts (b == 47 && starts begins_comment w) _ g.1 in
    let j = or_parts (b == 92) (b == 37 && starts is_colon w) i.1 in
    let alone : (c : ℕ) → w ≡ [] → starts (λ d. d == c) tail ≡ true → operator_goes_on (b ∷ []) c ≡ false =
    λ c nil at. subst (λ v. operator_goes_on (b ∷ v) c ≡ false) nil (starts_is (operator_goes_on (b ∷ w)) tail c ends at) in
    record {
      black = a.0;
      no_word = d.0;
      no_number = number_behind b w tail e.0 (λ c nil at. (alone_parts b c (alone c nil at)).0);
      no_quote = f.0;
      no_hash = g.0;
      no_comment = starts_behind begins_comment b w tail (b == 47) i.0 (λ c nil at. (alone_parts b c (alone c nil at)).1);
      no_backslash = j.0;
      no_directive = starts_behind is_colon b w tail (b == 37) j.1 (λ c nil at. (alone_parts b c (alone c nil at)).2);
    }

operator_is : (b : ℕ) (w : List ℕ) (n : ℕ) → number_in operators (b ∷ w) ≡ Some n → operator b w ≡ Some (Good (Punct n))
unfolding operator
operator_is b w n e = ap (λ o. operator_by (first_of o (number_beside digraphs (b ∷ w))) w) e

none_longer : (b : ℕ) (w tail : List ℕ) (m : ℕ) → starts (operator_goes_on (b ∷ w)) tail ≡ false → length w < m → m ≤ length (w ++ tail) → operator b (take m (w ++ tail)) ≡ None
none_longer b w tail m ends low high =
    let k : ℕ = m - length w in
    let e : m ≡ length w + k = omega arith in
    ap (λ j. operator b (take j (w ++ tail))) e ∙ ap (operator b) (take_from w tail k) ∙ behind tail k ends (omega arith) (omega (arith, length-append w tail))
  where
    behind : (tail : List ℕ) (k : ℕ) → starts (operator_goes_on (b ∷ w)) tail ≡ false → 0 < k → k ≤ length tail → operator b (w ++ take k tail) ≡ None
    behind tail zero ends low high = absurd (omega arith)
    behind [] (suc k) ends low high = absurd (omega arith)
    behind (c ∷ tail) (suc k) ends low high = none_behind b w c (take k tail) ends

-- an operator in its primary spelling, before a byte that does not go on with it, and at the end
pub punct_front : (fresh : Bool) (text tail : List ℕ) (n : ℕ) → number_in operators text ≡ Some n → starts (operator_goes_on text) tail ≡ false → IsLongest fresh (text ++ tail) (record { len = length text; spells = Good (Punct n) })
punct_front fresh [] tail n is ends = absurd (both_ways (begins_operator []) (nothing_begins) (found begins_operator operators [] operators_begin (in_table operators [] n is)))
punct_front fresh (b ∷ w) tail n is ends =
    let begins = found begins_operator operators (b ∷ w) operators_begin (in_table operators (b ∷ w) n is) in
    operator_front fresh b w tail (Good (Punct n)) (begins_before b w tail begins ends) (operator_is b w n is)
    (λ m low short high. none_longer b w tail m ends low high)
