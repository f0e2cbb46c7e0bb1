-- Words that may follow one another in a line.
use Rattle.std.proofs.Common.{◌≡◌, ℕ, Bool, true, false, ⊎_elim, not, ◌&&◌, ◌||◌, ◌==◌, List, [], ◌∷◌, refl, sym, subst, eqb-true}
use Rattle.std.proofs.lemmas.Bool.{and_parts, or_cases}
use Rattle.cxx_model.specs.Text.Spelling.{spelling_of, word_kind, keywords, operators, operator, alternatives, digraphs}
use Rattle.cxx_reading.specs.Words.{Word, none_behind, none_before, takes_bracket, is_opening, star_word, ampersand_word, less_word}
use Rattle.cxx_written.specs.Ends.{word_ends_before}
use Rattle.cxx_written.specs.Line.{MayStandBefore, IsSpelled, IsWord, MayTouch, MayPrecede, IsLine}
use Rattle.cxx_written.proofs.Ends.{plain_is_word, may_stand_before}

-- ---- bytes

-- with which a word begins that stands close behind others: ) ] > , ; <
abbrev pub is_closer : ℕ → Bool
is_closer b = b == 41 || b == 93 || b == 62 || b == 44 || b == 59 || b == 60

-- ( and [
abbrev pub is_opener : ℕ → Bool
is_opener b = b == 40 || b == 91

at : (Q : ℕ → Type 0) (k b : ℕ) → Q k → (b == k) ≡ true → Q b
at Q k b q e = subst Q (sym (eqb-true b k e)) q

one_of : (p q : Bool) (P : Type 0) → (p ≡ true → P) → (q ≡ true → P) → (p || q) ≡ true → P
one_of p q P f g h = ⊎_elim f g (or_cases p q h)

pub each_closer : (Q : ℕ → Type 0) → Q 41 → Q 93 → Q 62 → Q 44 → Q 59 → Q 60 → (b : ℕ) → is_closer b ≡ true → Q b
each_closer Q one two three four five six b h =
    one_of _ _ (Q b)
    (one_of _ _ (Q b)
    (one_of _ _ (Q b)
    (one_of _ _ (Q b)
    (one_of _ _ (Q b) (at Q 41 b one) (at Q 93 b two))
    (at Q 62 b three))
    (at Q 44 b four))
    (at Q 59 b five))
    (at Q 60 b six)
    h

pub each_opener : (Q : ℕ → Type 0) → Q 40 → Q 91 → (b : ℕ) → is_opener b ≡ true → Q b
each_opener Q one two b h = one_of _ _ (Q b) (at Q 40 b one) (at Q 91 b two) h

-- ---- words before and behind others

-- a word that may stand before whatever is printed behind it
pub record IsOpenEnded (one : Word) : Type 0 where
  pub word : IsWord one
  pub closers : (b : ℕ) → is_closer b ≡ true → MayStandBefore one b
  pub openers : takes_bracket one.role ≡ true → (b : ℕ) → is_opener b ≡ true → MayStandBefore one b
  pub all : none_behind one.role ≡ true → (b : ℕ) → MayStandBefore one b

-- a word that is printed close behind others only where it begins with such a byte
pub record IsNext (two : Word) : Type 0 where
  pub first : ℕ
  pub others : List ℕ
  pub is : two.spelling ≡ first ∷ others
  pub closes : none_before two.role ≡ true → is_closer first ≡ true
  pub opens : is_opening two.role ≡ true → is_opener first ≡ true

pub touch_first : (one : Word) (spelling : List ℕ) (first : ℕ) (others : List ℕ) → spelling ≡ first ∷ others → MayStandBefore one first → MayTouch one spelling
touch_first one spelling first others is before = subst (MayTouch one) (sym is) before

gap_by : (p q r s : Bool) → not (p || (q || (r && s))) ≡ false → (p || (q || (r && s))) ≡ true
gap_by true q r s h = refl
gap_by false true r s h = refl
gap_by false false true true h = refl
gap_by false false true false h = sym h
gap_by false false false s h = sym h

pub follows : (one two : Word) (rest : List Word) → IsOpenEnded one → IsNext two → MayPrecede one (two ∷ rest)
follows one two rest ends next = λ gap.
    touch_first one two.spelling next.first next.others next.is
    (⊎_elim
    (λ none. ends.all none next.first)
    (λ h. ⊎_elim
    (λ closes. ends.closers next.first (next.closes closes))
    (λ both. let parts = and_parts (takes_bracket one.role) (is_opening two.role) both in ends.openers parts.0 next.first (next.opens parts.1))
    (or_cases (none_before two.role) (takes_bracket one.role && is_opening two.role) h))
    (or_cases (none_behind one.role) _ (gap_by (none_behind one.role) (none_before two.role) (takes_bracket one.role) (is_opening two.role) gap)))

-- ---- what is left of a line

-- words that may be printed behind each open-ended word
pub record IsTail (rest : List Word) : Type 0 where
  pub line : IsLine rest
  pub after : (one : Word) → IsOpenEnded one → MayPrecede one rest

pub no_words : IsTail []
no_words = record { line = tt; after = λ one ends. tt }

pub tail_by : (word : Word) (rest : List Word) → IsWord word → IsNext word → MayPrecede word rest → IsLine rest → IsTail (word ∷ rest)
tail_by word rest is next before line = record { line = (is, before, line); after = λ one ends. follows one word rest ends next }

pub tail_cons : (word : Word) (rest : List Word) → IsOpenEnded word → IsNext word → IsTail rest → IsTail (word ∷ rest)
tail_cons word rest ends next tail = tail_by word rest ends.word next (tail.after word ends) tail.line

-- words that may be printed behind `*`, `&` and `<` too
pub record IsFree (rest : List Word) : Type 0 where
  pub tail : IsTail rest
  pub star : MayPrecede star_word rest
  pub ampersand : MayPrecede ampersand_word rest
  pub less : MayPrecede less_word rest

pub free_none : IsFree []
free_none = record { tail = no_words; star = tt; ampersand = tt; less = tt }

-- a byte with which no longer token begins behind `*`, `&` and `<`
abbrev pub is_free : ℕ → Bool
is_free b = not (b == 61) && (not (b == 38) && (not (b == 60) && (not (b == 58) && not (b == 37))))

pub not_false : (p : Bool) → not p ≡ true → p ≡ false
not_false true h = sym h
not_false false h = refl

star_spelled : IsSpelled star_word
unfolding spelling_of word_kind keywords operators operator alternatives digraphs
star_spelled = record { spelled = refl }

ampersand_spelled : IsSpelled ampersand_word
unfolding spelling_of word_kind keywords operators operator alternatives digraphs
ampersand_spelled = record { spelled = refl }

less_spelled : IsSpelled less_word
unfolding spelling_of word_kind keywords operators operator alternatives digraphs
less_spelled = record { spelled = refl }

star_ends : (b : ℕ) → (b == 61) ≡ false → word_ends_before star_word b ≡ true
unfolding spelling_of word_kind keywords operators operator alternatives digraphs
star_ends b h = rw h refl

ampersand_ends : (b : ℕ) → (b == 61) ≡ false → (b == 38) ≡ false → word_ends_before ampersand_word b ≡ true
unfolding spelling_of word_kind keywords operators operator alternatives digraphs
ampersand_ends b h k = rw (h, k) refl

less_ends : (b : ℕ) → (b == 61) ≡ false → (b == 60) ≡ false → (b == 58) ≡ false → (b == 37) ≡ false → word_ends_before less_word b ≡ true
unfolding spelling_of word_kind keywords operators operator alternatives digraphs
less_ends b h k l m = rw (h, k, l, m) refl

pub star_before : (word : Word) (rest : List Word) (first : ℕ) (others : List ℕ) → word.spelling ≡ first ∷ others → (first == 61) ≡ false → MayPrecede star_word (word ∷ rest)
star_before word rest first others is h = λ gap. touch_first star_word word.spelling first others is (may_stand_before star_word star_spelled first (star_ends first h))

pub ampersand_before : (word : Word) (rest : List Word) (first : ℕ) (others : List ℕ) → word.spelling ≡ first ∷ others → (first == 61) ≡ false → (first == 38) ≡ false → MayPrecede ampersand_word (word ∷ rest)
ampersand_before word rest first others is h k = λ gap. touch_first ampersand_word word.spelling first others is (may_stand_before ampersand_word ampersand_spelled first (ampersand_ends first h k))

pub less_before : (word : Word) (rest : List Word) (first : ℕ) (others : List ℕ) → word.spelling ≡ first ∷ others → (first == 61) ≡ false → (first == 60) ≡ false → (first == 58) ≡ false → (first == 37) ≡ false → MayPrecede less_word (word ∷ rest)
less_before word rest first others is h k l m = λ gap. touch_first less_word word.spelling first others is (may_stand_before less_word less_spelled first (less_ends first h k l m))

pub free_cons : (word : Word) (rest : List Word) (next : IsNext word) → IsOpenEnded word → is_free next.first ≡ true → IsTail rest → IsFree (word ∷ rest)
free_cons word rest next ends free tail =
    let one = and_parts (not (next.first == 61)) _ free in
    let two = and_parts (not (next.first == 38)) _ one.1 in
    let three = and_parts (not (next.first == 60)) _ two.1 in
    let four = and_parts (not (next.first == 58)) _ three.1 in
    record {
      tail = tail_cons word rest ends next tail;
      star = star_before word rest next.first next.others next.is (not_false _ one.0);
      ampersand = λ gap. touch_first ampersand_word word.spelling next.first next.others next.is (may_stand_before ampersand_word ampersand_spelled next.first (ampersand_ends next.first (not_false _ one.0) (not_false _ two.0)));
      less = λ gap. touch_first less_word word.spelling next.first next.others next.is (may_stand_before less_word less_spelled next.first (less_ends next.first (not_false _ one.0) (not_false _ three.0) (not_false _ four.0) (not_false _ four.1)));
    }

pub star_is_word : IsWord star_word
unfolding spelling_of word_kind keywords operators operator alternatives digraphs
star_is_word = plain_is_word star_word star_spelled refl

pub ampersand_is_word : IsWord ampersand_word
unfolding spelling_of word_kind keywords operators operator alternatives digraphs
ampersand_is_word = plain_is_word ampersand_word ampersand_spelled refl

pub less_is_word : IsWord less_word
unfolding spelling_of word_kind keywords operators operator alternatives digraphs
less_is_word = plain_is_word less_word less_spelled refl
