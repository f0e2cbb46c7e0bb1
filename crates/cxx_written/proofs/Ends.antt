-- Each word before the bytes that end it.
use Rattle.std.proofs.Common.{◌≡◌, ℕ, Bool, true, false, ⊎_elim, not, ◌&&◌, ◌||◌, ◌==◌, List, [], ◌∷◌, ◌++◌, length, Option, Some, None, refl, sym, subst, arith, ◌∙◌, bytes_eq, eqb-true}
use Rattle.std.proofs.Math.Seq.{take-append_seam}
use Rattle.std.proofs.lemmas.Bool.{and_parts, and_left, and_right, or_cases, or_from, both_ways}
use Rattle.std.proofs.lemmas.Bool.Decides.{nat_tests}
use Rattle.std.proofs.lemmas.Slice.Eq.{bytes_eq-Decides}
use Rattle.std.specs.List.{AllByRecursion, list_any}
use Rattle.std.specs.Option.{is_some}
use Rattle.std.specs.Prelude.{codes, take}
use Rattle.cxx_model.specs.declared.token.TokenKind.{TokenKind}
use Rattle.cxx_model.specs.declared.token.TokenKind.TheVariants.{Name, Keyword, Punct, Integer, Character, Text, End}
use Rattle.cxx_model.specs.Text.Continuing.{starts_with, alone_goes_on, operator_goes_on}
use Rattle.cxx_model.specs.Text.Spelling.{Good, spelling_of, is_white, is_word, is_quote, is_sign, number_in, keywords, operators, digraphs}
use Rattle.cxx_model.proofs.Shapes.{shape, no_empty}
use Rattle.cxx_model.proofs.SpelledKinds.{kind_spells}
use Rattle.cxx_reading.specs.Words.{Word, has_gap}
use Rattle.cxx_written.specs.Ends.{is_operator, ends_before, word_ends_before, ends_before_spelling, is_apart, are_apart}
use Rattle.cxx_written.specs.Line.{kind_in, MayStandBefore, IsSpelled, IsWord, MayTouch, MayPrecede, IsLine}
use Rattle.cxx_written.proofs.Longest.{Ends, word_ends, number_ends, character_ends, punct_ends}
use Rattle.cxx_written.proofs.Shapes.{Spells, IsWordText, word_text, IsIntegerText, integer_text}
use Rattle.cxx_written.proofs.Tables.{less_often}

not_false : (p : Bool) → not p ≡ true → p ≡ false
not_false true h = sym h
not_false false h = refl

abbrev EndsBefore : List ℕ → TokenKind → ℕ → Type 0
EndsBefore text kind c = ends_before kind text c ≡ true → Ends text kind c

-- ---- words

narrow_by : (p q : Bool) → (q && (p && true)) ≡ false → (p && q) ≡ false
narrow_by false q h = refl
narrow_by true false h = refl
narrow_by true true h = h

narrow : (b : ℕ) (w : List ℕ) (c : ℕ) → (is_quote c && bytes_eq (b ∷ w) (codes "L")) ≡ false → w ≡ [] → (b == 76 && is_quote c) ≡ false
narrow b [] c h e = narrow_by (b == 76) (is_quote c) h
narrow b (x ∷ w) c h e = absurd (cc)

one_letter_is_none : number_in keywords (codes "L") ≡ None
unfolding keywords
one_letter_is_none = refl

keyword_is_longer : (text : List ℕ) (n : ℕ) → number_in keywords text ≡ Some n → (same : Bool) → bytes_eq text (codes "L") ≡ same → same ≡ false
keyword_is_longer text n e false is = refl
keyword_is_longer text n e true is =
    let there : text ≡ codes "L" = (bytes_eq-Decides text (codes "L")).0 is in
    let found : number_in keywords (codes "L") ≡ Some n = rw there at e in
    let none = one_letter_is_none in
    absurd (cc)

name_ends : (b : ℕ) (w : List ℕ) (c : ℕ) → IsWordText b w Name → EndsBefore (b ∷ w) Name c
name_ends b w c text h =
    let parts = and_parts (not (is_word c)) (not (is_quote c && bytes_eq (b ∷ w) (codes "L"))) h in
    word_ends b w Name c text.begins text.all text.is (not_false _ parts.0) (narrow b w c (not_false _ parts.1))

keyword_ends : (b : ℕ) (w : List ℕ) (n c : ℕ) → Spells (b ∷ w) (Keyword n) → IsWordText b w (Keyword n) → EndsBefore (b ∷ w) (Keyword n) c
keyword_ends b w n c e text h =
    let longer : bytes_eq (b ∷ w) (codes "L") ≡ false = keyword_is_longer (b ∷ w) n (kind_spells false (b ∷ w) (Keyword n) e) (bytes_eq (b ∷ w) (codes "L")) refl in
    word_ends b w (Keyword n) c text.begins text.all text.is (not_false _ h) (narrow b w c (and_right (is_quote c) _ longer))

-- ---- numbers

integer_ends : (b : ℕ) (w : List ℕ) (c : ℕ) → IsIntegerText b w → EndsBefore (b ∷ w) Integer c
integer_ends b w c text h = number_ends b w c text.begins text.all text.is (not_false _ h)

-- ---- operators

-- a text that ends as an operator with a number, and spells one, spells that one
same_number : (text : List ℕ) (m n c : ℕ) → Spells text (Punct n) → Ends text (Punct m) c → Punct m ≡ Punct n
same_number text m n c e ends =
    let whole : take (length text) (text ++ c ∷ []) ≡ text = take-append_seam text (c ∷ []) in
    let there : spelling_of false text ≡ Some (Good (Punct m)) = subst (λ t. spelling_of false t ≡ Some (Good (Punct m))) whole (ends false []).spelled in
    let same : Some (Good (Punct m)) ≡ Some (Good (Punct n)) = sym there ∙ e in
    cc

operator_ends_by : (text : List ℕ) (n c : ℕ) → Spells text (Punct n) → operator_goes_on text c ≡ false → (found : Option ℕ) → number_in operators text ≡ found → is_some found ≡ true → Ends text (Punct n) c
operator_ends_by text n c e stops None is h = absurd (cc)
operator_ends_by text n c e stops (Some m) is h =
    let there = punct_ends text m c is stops in
    subst (λ k. Ends text k c) (same_number text m n c e there) there

operator_ends : (text : List ℕ) (n c : ℕ) → Spells text (Punct n) → EndsBefore text (Punct n) c
operator_ends text n c e h =
    let parts = and_parts (is_operator text) (not (operator_goes_on text c)) h in
    operator_ends_by text n c e (not_false _ parts.1) (number_in operators text) refl parts.0

-- ---- all

pub ends : (text : List ℕ) (kind : TokenKind) → Spells text kind → (c : ℕ) → ends_before kind text c ≡ true → Ends text kind c
ends [] kind e c h = absurd (no_empty false kind e)
ends (b ∷ w) Name e c h = name_ends b w c (word_text b w Name refl (shape false b w Name e)) h
ends (b ∷ w) (Keyword n) e c h = keyword_ends b w n c e (word_text b w (Keyword n) refl (shape false b w (Keyword n) e)) h
ends (b ∷ w) (Punct n) e c h = operator_ends (b ∷ w) n c e h
ends (b ∷ w) Integer e c h = integer_ends b w c (integer_text b w (shape false b w Integer e)) h
ends (b ∷ w) Character e c h = character_ends (b ∷ w) c e
ends (b ∷ w) Text e c h = absurd (cc)
ends (b ∷ w) End e c h = absurd (cc)

pub may_stand_before : (word : Word) → IsSpelled word → (b : ℕ) → word_ends_before word b ≡ true → MayStandBefore word b
may_stand_before word is b h = record { longest = ends word.spelling (kind_in word.spelling) is.spelled b h }

-- ---- lines by their neighbours

no_text : (kind : TokenKind) (text : List ℕ) (b : ℕ) → ends_before kind text b ≡ true → kind ≡ Text → ⊥
no_text kind text b h e = let f : ends_before kind text b ≡ false = rw e refl in both_ways (ends_before kind text b) f h

touch_if : (word : Word) → IsSpelled word → (spelling : List ℕ) → ends_before_spelling word spelling ≡ true → MayTouch word spelling
touch_if word is [] h = tt
touch_if word is (b ∷ spelling) h = may_stand_before word is b h

precede_if : (word : Word) → IsSpelled word → (others : List Word) → is_apart word others ≡ true → MayPrecede word others
precede_if word is [] h = tt
precede_if word is (next ∷ others) h = λ gap.
    touch_if word is next.spelling
    (⊎_elim (λ spaced. absurd (both_ways (has_gap word.role next.role) gap spaced)) (λ ends. ends) (or_cases (has_gap word.role next.role) (ends_before_spelling word next.spelling) h))

pub word_if_ends : (word : Word) → IsSpelled word → word_ends_before word 32 ≡ true → word_ends_before word 10 ≡ true → IsWord word
word_if_ends word is space newline = record {
  spelled = is.spelled;
  no_text = no_text (kind_in word.spelling) word.spelling 32 space;
  before_space = may_stand_before word is 32 space;
  before_newline = may_stand_before word is 10 newline;
}

pub line_if_apart : (words : List Word) → AllByRecursion IsSpelled words → are_apart words ≡ true → IsLine words
line_if_apart [] all h = tt
line_if_apart (word ∷ others) all h =
    let one = and_parts (word_ends_before word 32) (word_ends_before word 10 && (is_apart word others && are_apart others)) h in
    let two = and_parts (word_ends_before word 10) (is_apart word others && are_apart others) one.1 in
    let three = and_parts (is_apart word others) (are_apart others) two.1 in
    (word_if_ends word all.0 one.0 two.0, precede_if word all.0 others three.0, line_if_apart others all.1 three.1)

-- ---- white space

white_is_no_word : (c : ℕ) → is_white c ≡ true → is_word c ≡ false
white_is_no_word c h = grind (arith, nat_tests)

white_is_no_quote : (c : ℕ) → is_white c ≡ true → is_quote c ≡ false
white_is_no_quote c h = grind (arith, nat_tests)

white_is_no_sign : (c : ℕ) → is_white c ≡ true → is_sign c ≡ false
white_is_no_sign c h = grind (arith, nat_tests)

white_is_other : (c : ℕ) → is_white c ≡ true → (k : ℕ) → is_white k ≡ false → (c == k) ≡ false
white_is_other c h k other = by (c == k) refl
  where
    by : (same : Bool) → (c == k) ≡ same → same ≡ false
    by false e = refl
    by true e = let is : c ≡ k = eqb-true c k e in absurd (both_ways (is_white k) other (rw is at h))

-- an operator that begins with some bytes holds the last of them
holds : (text : List ℕ) (c : ℕ) → is_white c ≡ true → (entry : List ℕ) → list_any is_white entry ≡ false → starts_with (text ++ c ∷ []) entry ≡ false
holds [] c h [] none = refl
holds [] c h (x ∷ entry) none = and_left (c == x) true (white_is_other c h x (or_first (is_white x) (list_any is_white entry) none))
  where
    or_first : (p q : Bool) → (p || q) ≡ false → p ≡ false
    or_first false q e = refl
    or_first true q e = e
holds (b ∷ text) c h [] none = refl
holds (b ∷ text) c h (x ∷ entry) none = and_right (b == x) _ (holds text c h entry (or_second (is_white x) (list_any is_white entry) none))
  where
    or_second : (p q : Bool) → (p || q) ≡ false → q ≡ false
    or_second false q e = e
    or_second true q e = absurd (cc)

no_white_in_operators : list_any (λ entry. list_any is_white entry) operators ≡ false
unfolding operators
no_white_in_operators = refl

no_white_in_digraphs : list_any (λ entry. list_any is_white entry.0) digraphs ≡ false
unfolding digraphs
no_white_in_digraphs = refl

white_goes_not_on_alone : (text : List ℕ) (c : ℕ) → is_white c ≡ true → alone_goes_on text c ≡ false
white_goes_not_on_alone [] c h = refl
white_goes_not_on_alone (b ∷ []) c h = grind (arith, nat_tests)
white_goes_not_on_alone (b ∷ d ∷ text) c h = refl

white_goes_not_on : (text : List ℕ) (c : ℕ) → is_white c ≡ true → operator_goes_on text c ≡ false
white_goes_not_on text c h =
    let one = less_often (λ entry. starts_with (text ++ c ∷ []) entry) (λ entry. list_any is_white entry) (holds text c h) operators no_white_in_operators in
    let two = less_often (λ entry. starts_with (text ++ c ∷ []) entry.0) (λ entry. list_any is_white entry.0) (λ entry. holds text c h entry.0) digraphs no_white_in_digraphs in
    or_from _ _ one (or_from _ _ two (white_goes_not_on_alone text c h))

-- what may be printed: a name, a keyword, a number, a character, or an operator in its primary spelling
abbrev pub is_plain : TokenKind → List ℕ → Bool
is_plain (Punct n) text = is_operator text
is_plain Text text = false
is_plain End text = false
is_plain _ text = true

ends_at_white : (kind : TokenKind) (text : List ℕ) (c : ℕ) → is_white c ≡ true → is_plain kind text ≡ true → ends_before kind text c ≡ true
ends_at_white Name text c h is = rw (white_is_no_word c h, white_is_no_quote c h) refl
ends_at_white (Keyword n) text c h is = rw (white_is_no_word c h) refl
ends_at_white (Punct n) text c h is = rw (is, white_goes_not_on text c h) refl
ends_at_white Integer text c h is = rw (white_is_no_word c h, white_is_other c h 46 refl, white_is_no_sign c h) refl
ends_at_white Character text c h is = refl
ends_at_white Text text c h is = absurd (cc)
ends_at_white End text c h is = absurd (cc)

-- any such word may stand before white space
pub plain_is_word : (word : Word) → IsSpelled word → is_plain (kind_in word.spelling) word.spelling ≡ true → IsWord word
plain_is_word word is plain = word_if_ends word is (ends_at_white (kind_in word.spelling) word.spelling 32 refl plain) (ends_at_white (kind_in word.spelling) word.spelling 10 refl plain)

pub stands_before : (word : Word) (b : ℕ) → IsSpelled word → word_ends_before word b ≡ true → MayStandBefore word b
stands_before word b is h = may_stand_before word is b h
