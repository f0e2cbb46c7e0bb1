-- Each word that a plain form has, among others.
use Rattle.std.proofs.Common.{◌≡◌, ◌<◌, ◌^◌, ℕ, Bool, true, false, ⊎_elim, not, ◌&&◌, ◌||◌, ◌==◌, List, [], ◌∷◌, Option, Some, None, refl, ap, arith}
use Rattle.std.proofs.lemmas.Bool.{and_parts, or_cases, both_ways}
use Rattle.std.proofs.lemmas.Bool.Decides.{nat_tests}
use Rattle.std.specs.Char.{is_ascii_digit}
use Rattle.std.specs.Prelude.{codes}
use Rattle.cxx_model.specs.declared.token.TokenKind.{TokenKind}
use Rattle.cxx_model.specs.declared.token.TokenKind.TheVariants.{Name, Integer, Character}
use Rattle.cxx_model.specs.Text.Spelling.{Spelled, Good, spelling_of, is_quote, begins_word, begins_number, word_kind, keywords, operators, operator, alternatives, digraphs}
use Rattle.cxx_model.proofs.Shapes.{shape, no_empty}
use Rattle.cxx_reading.specs.declared.role.Role.{Role}
use Rattle.cxx_reading.specs.declared.role.Role.TheVariants as role
use Rattle.cxx_reading.specs.Words.{Word, none_behind, none_before, takes_bracket, is_opening, keyword_word, name_word, type_name_word, open_word, close_word, open_bracket_word, close_bracket_word, comma_word, semicolon_word, literal_word}
use Rattle.cxx_written.specs.Ends.{word_ends_before}
use Rattle.cxx_written.specs.Line.{kind_by, kind_in, MayStandBefore, IsSpelled, IsWord, IsName}
use Rattle.cxx_written.proofs.Ends.{is_plain, plain_is_word, may_stand_before}
use Rattle.cxx_written.proofs.Numbers.{literal_is_spelled}
use Rattle.cxx_written.proofs.Shapes.{Spells, word_text, integer_text, character_text}
use Rattle.cxx_written.proofs.Tails.{is_closer, is_opener, each_closer, each_opener, IsOpenEnded, IsNext, IsTail, IsFree, tail_cons, free_cons, is_free}

-- a word that may stand before and behind all others
pub record IsGood (word : Word) : Type 0 where
  pub ends : IsOpenEnded word
  pub next : IsNext word
  pub free : is_free next.first ≡ true

pub good_tail : (word : Word) (rest : List Word) → IsGood word → IsTail rest → IsTail (word ∷ rest)
good_tail word rest is tail = tail_cons word rest is.ends is.next tail

pub good_cons : (word : Word) (rest : List Word) → IsGood word → IsTail rest → IsFree (word ∷ rest)
good_cons word rest is tail = free_cons word rest is.next is.ends is.free tail

-- ---- by a test

unfoldable pub ends_at_closers : Word → Bool
ends_at_closers word = word_ends_before word 41 && (word_ends_before word 93 && (word_ends_before word 62 && (word_ends_before word 44 && (word_ends_before word 59 && word_ends_before word 60))))

unfoldable pub ends_at_openers : Word → Bool
ends_at_openers word = word_ends_before word 40 && word_ends_before word 91

unfoldable pub is_ended : Word → Bool
is_ended word = is_plain (kind_in word.spelling) word.spelling && ends_at_closers word

plain_by : (found : Option Spelled) (text : List ℕ) → is_plain (kind_by found) text ≡ true → found ≡ Some (Good (kind_by found))
plain_by None text h = absurd (cc)
plain_by (Some (Good kind)) text h = refl
plain_by (Some _) text h = absurd (cc)

pub plain_is_spelled : (word : Word) → is_plain (kind_in word.spelling) word.spelling ≡ true → IsSpelled word
plain_is_spelled word h = record { spelled = plain_by (spelling_of false word.spelling) word.spelling h }

closers_by : (word : Word) → IsSpelled word → ends_at_closers word ≡ true → (b : ℕ) → is_closer b ≡ true → MayStandBefore word b
unfolding ends_at_closers
closers_by word is h =
    let one = and_parts (word_ends_before word 41) _ h in
    let two = and_parts (word_ends_before word 93) _ one.1 in
    let three = and_parts (word_ends_before word 62) _ two.1 in
    let four = and_parts (word_ends_before word 44) _ three.1 in
    let five = and_parts (word_ends_before word 59) (word_ends_before word 60) four.1 in
    each_closer (MayStandBefore word) (may_stand_before word is 41 one.0) (may_stand_before word is 93 two.0) (may_stand_before word is 62 three.0) (may_stand_before word is 44 four.0) (may_stand_before word is 59 five.0) (may_stand_before word is 60 five.1)

openers_by : (word : Word) → IsSpelled word → ends_at_openers word ≡ true → (b : ℕ) → is_opener b ≡ true → MayStandBefore word b
unfolding ends_at_openers
openers_by word is h =
    let parts = and_parts (word_ends_before word 40) (word_ends_before word 91) h in
    each_opener (MayStandBefore word) (may_stand_before word is 40 parts.0) (may_stand_before word is 91 parts.1)

-- what is not looked at
abbrev pub given : Bool → Bool → Bool
given p q = not p || q

given_so : (p q : Bool) → given p q ≡ true → p ≡ true → q ≡ true
given_so true q h e = h
given_so false q h e = absurd (cc)

pub open_ended_by : (word : Word) → IsSpelled word → is_ended word ≡ true → none_behind word.role ≡ false → given (takes_bracket word.role) (ends_at_openers word) ≡ true → IsOpenEnded word
unfolding is_ended
open_ended_by word is h loose bracket =
    let parts = and_parts (is_plain (kind_in word.spelling) word.spelling) (ends_at_closers word) h in
    record {
      word = plain_is_word word is parts.0;
      closers = closers_by word is parts.1;
      openers = λ takes. openers_by word is (given_so (takes_bracket word.role) (ends_at_openers word) bracket takes);
      all = λ none. absurd (both_ways (none_behind word.role) loose none);
    }

pub good_by : (word : Word) (first : ℕ) (others : List ℕ) → word.spelling ≡ first ∷ others → is_ended word ≡ true → none_behind word.role ≡ false → given (takes_bracket word.role) (ends_at_openers word) ≡ true
    → given (none_before word.role) (is_closer first) ≡ true → given (is_opening word.role) (is_opener first) ≡ true → is_free first ≡ true → IsGood word
unfolding is_ended
good_by word first others is h loose bracket closes opens free =
    let parts = and_parts (is_plain (kind_in word.spelling) word.spelling) (ends_at_closers word) h in
    record {
      ends = open_ended_by word (plain_is_spelled word parts.0) h loose bracket;
      next = record { first = first; others = others; is = is; closes = given_so (none_before word.role) (is_closer first) closes; opens = given_so (is_opening word.role) (is_opener first) opens };
      free = free;
    }

-- ---- brackets and signs

pub good_close : IsGood close_word
unfolding spelling_of word_kind keywords operators operator alternatives digraphs is_ended ends_at_closers ends_at_openers
good_close = good_by close_word 41 [] refl refl refl refl refl refl refl

pub good_close_bracket : IsGood close_bracket_word
unfolding spelling_of word_kind keywords operators operator alternatives digraphs is_ended ends_at_closers ends_at_openers
good_close_bracket = good_by close_bracket_word 93 [] refl refl refl refl refl refl refl

pub good_comma : IsGood comma_word
unfolding spelling_of word_kind keywords operators operator alternatives digraphs is_ended ends_at_closers ends_at_openers
good_comma = good_by comma_word 44 [] refl refl refl refl refl refl refl

pub good_semicolon : IsGood semicolon_word
unfolding spelling_of word_kind keywords operators operator alternatives digraphs is_ended ends_at_closers ends_at_openers
good_semicolon = good_by semicolon_word 59 [] refl refl refl refl refl refl refl

pub good_brace : IsGood (keyword_word (codes "{"))
unfolding spelling_of word_kind keywords operators operator alternatives digraphs is_ended ends_at_closers ends_at_openers
good_brace = good_by (keyword_word (codes "{")) 123 [] refl refl refl refl refl refl refl

pub good_close_brace : IsGood (keyword_word (codes "}"))
unfolding spelling_of word_kind keywords operators operator alternatives digraphs is_ended ends_at_closers ends_at_openers
good_close_brace = good_by (keyword_word (codes "}")) 125 [] refl refl refl refl refl refl refl

pub good_ellipsis : IsGood (keyword_word (codes "..."))
unfolding spelling_of word_kind keywords operators operator alternatives digraphs is_ended ends_at_closers ends_at_openers
good_ellipsis = good_by (keyword_word (codes "...")) 46 (codes "..") refl refl refl refl refl refl refl

-- `(` and `[` may stand before any byte
open_spelled : IsSpelled open_word
unfolding spelling_of word_kind keywords operators operator alternatives digraphs
open_spelled = record { spelled = refl }

open_ends : (b : ℕ) → word_ends_before open_word b ≡ true
unfolding spelling_of word_kind keywords operators operator alternatives digraphs
open_ends b = refl

open_is_word : IsWord open_word
unfolding spelling_of word_kind keywords operators operator alternatives digraphs
open_is_word = plain_is_word open_word open_spelled refl

pub good_open : IsGood open_word
good_open = record {
  ends = record { word = open_is_word; closers = λ b h. may_stand_before open_word open_spelled b (open_ends b); openers = λ takes b h. may_stand_before open_word open_spelled b (open_ends b); all = λ none b. may_stand_before open_word open_spelled b (open_ends b) };
  next = record { first = 40; others = []; is = refl; closes = λ h. absurd (cc); opens = λ h. refl };
  free = refl;
}

bracket_spelled : IsSpelled open_bracket_word
unfolding spelling_of word_kind keywords operators operator alternatives digraphs
bracket_spelled = record { spelled = refl }

bracket_ends : (b : ℕ) → word_ends_before open_bracket_word b ≡ true
unfolding spelling_of word_kind keywords operators operator alternatives digraphs
bracket_ends b = refl

bracket_is_word : IsWord open_bracket_word
unfolding spelling_of word_kind keywords operators operator alternatives digraphs
bracket_is_word = plain_is_word open_bracket_word bracket_spelled refl

pub good_bracket : IsGood open_bracket_word
good_bracket = record {
  ends = record { word = bracket_is_word; closers = λ b h. may_stand_before open_bracket_word bracket_spelled b (bracket_ends b); openers = λ takes b h. may_stand_before open_bracket_word bracket_spelled b (bracket_ends b); all = λ none b. may_stand_before open_bracket_word bracket_spelled b (bracket_ends b) };
  next = record { first = 91; others = []; is = refl; closes = λ h. absurd (cc); opens = λ h. refl };
  free = refl;
}

-- `=` may not stand behind `*` and `&`
equals_spelled : IsSpelled (keyword_word (codes "="))
unfolding spelling_of word_kind keywords operators operator alternatives digraphs
equals_spelled = record { spelled = refl }

equals_is_ended : IsOpenEnded (keyword_word (codes "="))
unfolding spelling_of word_kind keywords operators operator alternatives digraphs is_ended ends_at_closers ends_at_openers
equals_is_ended = open_ended_by (keyword_word (codes "=")) equals_spelled refl refl refl

pub equals_tail : (rest : List Word) → IsTail rest → IsTail (keyword_word (codes "=") ∷ rest)
equals_tail rest tail = tail_cons (keyword_word (codes "=")) rest equals_is_ended (record { first = 61; others = []; is = refl; closes = λ h. absurd (cc); opens = λ h. absurd (cc) }) tail

-- ---- names

kind_of_name : (text : List ℕ) (kind : TokenKind) → Spells text kind → kind_in text ≡ kind
kind_of_name text kind e = ap kind_by e

word_begins_free : (b : ℕ) → begins_word b ≡ true → is_free b ≡ true
word_begins_free b h = grind (arith, nat_tests)

good_name_by : (a : Role) (b : ℕ) (w : List ℕ) → Spells (b ∷ w) Name → none_behind a ≡ false → none_before a ≡ false → is_opening a ≡ false → IsGood (record { role = a; spelling = b ∷ w })
unfolding is_ended ends_at_closers ends_at_openers
good_name_by a b w e loose before opening =
    let kind : kind_in (b ∷ w) ≡ Name = kind_of_name (b ∷ w) Name e in
    let text = word_text b w Name refl (shape false b w Name e) in
    let opens : ends_at_openers (record { role = a; spelling = b ∷ w }) ≡ true = rw kind refl in
    good_by (record { role = a; spelling = b ∷ w }) b w refl (rw kind refl) loose (given_true (takes_bracket a) _ opens) (given_false (none_before a) _ before) (given_false (is_opening a) _ opening) (word_begins_free b text.begins)
  where
    given_true : (p q : Bool) → q ≡ true → given p q ≡ true
    given_true true q h = h
    given_true false q h = refl

    given_false : (p q : Bool) → p ≡ false → given p q ≡ true
    given_false true q h = absurd (cc)
    given_false false q h = refl

good_name_as : (a : Role) (text : List ℕ) → IsName text → none_behind a ≡ false → none_before a ≡ false → is_opening a ≡ false → IsGood (record { role = a; spelling = text })
good_name_as a [] is = absurd (no_empty false Name is.spelled)
good_name_as a (b ∷ w) is = good_name_by a b w is.spelled

pub good_name : (text : List ℕ) → IsName text → IsGood (name_word text)
good_name text is = good_name_as role.Named text is refl refl refl

pub good_type_name : (text : List ℕ) → IsName text → IsGood (type_name_word text)
good_type_name text is = good_name_as role.Alone text is refl refl refl

-- ---- literals

good_integer_by : (b : ℕ) (w : List ℕ) → Spells (b ∷ w) Integer → is_free b ≡ true → IsGood (keyword_word (b ∷ w))
unfolding is_ended ends_at_closers ends_at_openers
good_integer_by b w e free =
    let kind : kind_in (b ∷ w) ≡ Integer = kind_of_name (b ∷ w) Integer e in
    good_by (keyword_word (b ∷ w)) b w refl (rw kind refl) refl refl refl refl free

number_begins_free : (b : ℕ) (w : List ℕ) → begins_number b w ≡ true → is_free b ≡ true
number_begins_free b w h = ⊎_elim (λ d. by_digit b d) (λ d. by_dot b (and_parts (b == 46) _ d).0) (or_cases (is_ascii_digit b) _ h)
  where
    by_digit : (b : ℕ) → is_ascii_digit b ≡ true → is_free b ≡ true
    by_digit b h = grind (arith, nat_tests)

    by_dot : (b : ℕ) → (b == 46) ≡ true → is_free b ≡ true
    by_dot b h = grind (arith, nat_tests)

pub good_integer : (text : List ℕ) → Spells text Integer → IsGood (keyword_word text)
good_integer [] e = absurd (no_empty false Integer e)
good_integer (b ∷ w) e = good_integer_by b w e (number_begins_free b w (integer_text b w (shape false b w Integer e)).begins)

quote_is_free : (b : ℕ) → is_quote b ≡ true → is_free b ≡ true
quote_is_free b h = grind (arith, nat_tests)

good_character_by : (b : ℕ) (w : List ℕ) → Spells (b ∷ w) Character → is_free b ≡ true → IsGood (keyword_word (b ∷ w))
unfolding is_ended ends_at_closers ends_at_openers
good_character_by b w e free =
    let kind : kind_in (b ∷ w) ≡ Character = kind_of_name (b ∷ w) Character e in
    good_by (keyword_word (b ∷ w)) b w refl (rw kind refl) refl refl refl refl free

pub good_character : (text : List ℕ) → Spells text Character → IsGood (keyword_word text)
good_character [] e = absurd (no_empty false Character e)
good_character (b ∷ w) e = good_character_by b w e (⊎_elim (λ t. quote_is_free b t.begins) (λ t. wide_is_free b w t.quote t.tail t.text) (character_text b w (shape false b w Character e)))
  where
    wide_is_free : (b : ℕ) (w : List ℕ) (quote : ℕ) (tail : List ℕ) → b ∷ w ≡ 76 ∷ quote ∷ tail → is_free b ≡ true
    wide_is_free b w quote tail e = let is : b ≡ 76 = cc in rw is refl

pub good_literal : (n : ℕ) → n < 2 ^ 64 → IsGood (literal_word n)
good_literal n h = good_integer (literal_word n).spelling (literal_is_spelled n h)
