-- The strings of a text, one piece at a time, and how they are written.
use Rattle.std.proofs.Common.{◌≡◌, ◌≤◌, ◌<◌, ℕ, zero, suc, pred, Bool, true, false, not, cond, List, [], ◌∷◌, ◌++◌, ◌+◌, length, take, drop, Some, None, refl, sym, ap, ◌∙◌, subst, arith, append_assoc, append-nil}
use Rattle.std.proofs.Math.Seq.{take-append_seam, drop-append_seam}
use Rattle.cxx_model.specs.declared.token.TokenKind.TheVariants.{Name, Keyword, Punct, Integer, Character, Text, End}
use Rattle.cxx_model.specs.Text.Spelling.{Spelled, Blank, Good, Ill, is_quote, literal, piece_length, spelling_of}
use Rattle.cxx_model.specs.Text.Tokens.{IsLongest, front, fresh_after, fresh_past, is_text, lengths_from, string_length}
use Rattle.cxx_model.proofs.Fronts.{begins, front_is}
use Rattle.cxx_model.proofs.Spellings.{LiteralShape, in_narrow, in_wide, literal_shape, literal_front, blank_front, spells_narrow, spells_word, quote_is_no_word}
use Rattle.cxx_strings.specs.Pieces.{is_other, BeginsOther}
use Rattle.cxx_strings.specs.SideBySide.{Strings, with_string, before, strings_by, strings_from, spaced, spaced_or, side_by_side}
use Rattle.cxx_strings.specs.Spacing.{with_next, with_all, written, written_of}

-- ---- a piece is passed

passes : (k : ℕ) (fresh : Bool) (text : List ℕ) → k ≤ length text → strings_from k fresh text ≡ strings_from 0 (fresh_past (take k text) fresh) (drop k text)
unfolding strings_from
passes zero fresh text fits = refl
passes (suc k) fresh [] fits = absurd (omega arith)
passes (suc k) fresh (b ∷ text) fits = passes k (fresh_after b fresh) text (omega arith)

passes_behind : (b : ℕ) (fresh : Bool) (text : List ℕ) (len : ℕ) → 0 < len → len ≤ length (b ∷ text) → strings_from (pred len) (fresh_after b fresh) text ≡ strings_from 0 (fresh_past (take len (b ∷ text)) fresh) (drop len (b ∷ text))
passes_behind b fresh text zero some fits = absurd (omega arith)
passes_behind b fresh text (suc k) some fits = passes k (fresh_after b fresh) text (omega arith)

by_front : (fresh : Bool) (b : ℕ) (text : List ℕ) (len : ℕ) (spells : Spelled) → IsLongest fresh (b ∷ text) (record { len = len; spells = spells }) → strings_from 0 fresh (b ∷ text) ≡ before spells (take len (b ∷ text)) (strings_from (pred len) (fresh_after b fresh) text)
unfolding strings_from
by_front fresh b text len spells h = ap (λ piece. strings_by piece (b ∷ text) (λ skip. strings_from skip (fresh_after b fresh) text)) (front_is fresh (b ∷ text) len spells h)

pub strings_at : (fresh : Bool) (text : List ℕ) (len : ℕ) (spells : Spelled) → IsLongest fresh text (record { len = len; spells = spells }) → strings_from 0 fresh text ≡ before spells (take len text) (strings_from 0 (fresh_past (take len text) fresh) (drop len text))
strings_at fresh [] len spells h = absurd (omega (arith, h.some, h.within))
strings_at fresh (b ∷ text) len spells h = by_front fresh b text len spells h ∙ ap (before spells (take len (b ∷ text))) (passes_behind b fresh text len h.some h.within)

none_before : (spells : Spelled) (piece : List ℕ) (others : Strings) → is_other spells ≡ true → before spells piece others ≡ None
none_before Blank piece others h = absurd cc
none_before (Good kind) piece others h = by (is_text kind) h
  where
    by : (text : Bool) → not text ≡ true → cond text (with_string piece others) None ≡ None
    by true h = absurd cc
    by false h = refl
none_before (Ill reason) piece others h = refl

written_string : (done piece : List ℕ) (others : Strings) → written (with_next done piece) others ≡ written done (with_string piece others)
written_string done piece None = refl
written_string done piece (Some others) = refl

pub writes_blank : (done : List ℕ) (fresh : Bool) (text : List ℕ) (len : ℕ) → IsLongest fresh text (record { len = len; spells = Blank }) → written done (strings_from 0 (fresh_past (take len text) fresh) (drop len text)) ≡ written done (strings_from 0 fresh text)
writes_blank done fresh text len h = ap (written done) (sym (strings_at fresh text len Blank h))

pub writes_string : (done new : List ℕ) (fresh : Bool) (text : List ℕ) (len : ℕ) → IsLongest fresh text (record { len = len; spells = Good Text }) → new ≡ with_next done (take len text) → written new (strings_from 0 (fresh_past (take len text) fresh) (drop len text)) ≡ written done (strings_from 0 fresh text)
writes_string done new fresh text len h is =
    let later = strings_from 0 (fresh_past (take len text) fresh) (drop len text) in
    ap (λ d. written d later) is ∙ written_string done (take len text) later ∙ ap (written done) (sym (strings_at fresh text len (Good Text) h))

pub writes_none : (done : List ℕ) (fresh : Bool) (text : List ℕ) → BeginsOther fresh text → written done (strings_from 0 fresh text) ≡ None
writes_none done fresh text h =
    let len = h.piece.len in
    ap (written done) (strings_at fresh text len h.piece.spells h.longest ∙ none_before h.piece.spells (take len text) (strings_from 0 (fresh_past (take len text) fresh) (drop len text)) h.other)

pub writes_end : (done : List ℕ) (fresh : Bool) (text : List ℕ) → text ≡ [] → written done (strings_from 0 fresh text) ≡ Some done
unfolding strings_from
writes_end done fresh text e = ap (λ t. written done (strings_from 0 fresh t)) e

-- ---- each piece is a string

abbrev pub AreStrings : List (List ℕ) → Type 0
AreStrings [] = Unit {0}
AreStrings (string ∷ others) = (spelling_of false string ≡ Some (Good Text)) × AreStrings others

abbrev pub AreStringsIn : Strings → Type 0
AreStringsIn None = Unit {0}
AreStringsIn (Some strings) = AreStrings strings

wide_spells : (fresh : Bool) (quote : ℕ) (rest : List ℕ) → is_quote quote ≡ true → spelling_of fresh (76 ∷ quote ∷ rest) ≡ literal true quote rest
wide_spells fresh quote rest h = spells_word fresh 76 (quote ∷ rest) refl ∙ rw (quote_is_no_word quote h, h) refl

shape_spells : (fresh : Bool) (b : ℕ) (rest : List ℕ) → LiteralShape (Good Text) b rest → spelling_of fresh (b ∷ rest) ≡ Some (Good Text)
shape_spells fresh b rest (in_narrow h e) = spells_narrow fresh b rest h ∙ e
shape_spells fresh b rest (in_wide quote behind l h is e) = rw (l, is) (wide_spells fresh quote behind h ∙ e)

nothing_spells : (fresh : Bool) → spelling_of fresh [] ≡ None
unfolding spelling_of
nothing_spells fresh = refl

-- a string is one wherever it stands on its line
pub string_anywhere : (fresh other : Bool) (text : List ℕ) → spelling_of fresh text ≡ Some (Good Text) → spelling_of other text ≡ Some (Good Text)
string_anywhere fresh other [] e = let none = nothing_spells fresh in absurd cc
string_anywhere fresh other (b ∷ rest) e = shape_spells other b rest (literal_shape fresh Text b rest refl e)

string_and_others : (string : List ℕ) (others : Strings) → spelling_of false string ≡ Some (Good Text) → AreStringsIn others → AreStringsIn (with_string string others)
string_and_others string None e h = tt
string_and_others string (Some others) e h = (e, h)

piece_and_others : (fresh : Bool) (piece : List ℕ) (spells : Spelled) (others : Strings) → spelling_of fresh piece ≡ Some spells → AreStringsIn others → AreStringsIn (before spells piece others)
piece_and_others fresh piece Blank others e h = h
piece_and_others fresh piece (Good Text) others e h = string_and_others piece others (string_anywhere fresh false piece e) h
piece_and_others fresh piece (Good Name) others e h = tt
piece_and_others fresh piece (Good (Keyword n)) others e h = tt
piece_and_others fresh piece (Good (Punct n)) others e h = tt
piece_and_others fresh piece (Good Integer) others e h = tt
piece_and_others fresh piece (Good Character) others e h = tt
piece_and_others fresh piece (Good End) others e h = tt
piece_and_others fresh piece (Ill reason) others e h = tt

pub all_strings : (skip : ℕ) (fresh : Bool) (text : List ℕ) → AreStringsIn (strings_from skip fresh text)
unfolding strings_from
all_strings zero fresh [] = tt
all_strings (suc skip) fresh [] = tt
all_strings (suc skip) fresh (b ∷ text) = all_strings skip (fresh_after b fresh) text
all_strings zero fresh (b ∷ text) =
    let first = begins fresh (b ∷ text) (omega arith) in
    subst AreStringsIn (sym (by_front fresh b text first.0.len first.0.spells first.1))
    (piece_and_others fresh (take first.0.len (b ∷ text)) first.0.spells (strings_from (pred first.0.len) (fresh_after b fresh) text) first.1.spelled (all_strings (pred first.0.len) (fresh_after b fresh) text))

-- ---- what is written

joined : (string next : List ℕ) (others : List (List ℕ)) → spaced ((string ++ 32 ∷ next) ∷ others) ≡ spaced (string ∷ next ∷ others)
joined string next [] = refl
joined string next (other ∷ others) = append_assoc string (32 ∷ next) (32 ∷ spaced (other ∷ others))

-- what is written already begins with a byte
all_behind : (b : ℕ) (done : List ℕ) (others : List (List ℕ)) → with_all (b ∷ done) others ≡ spaced ((b ∷ done) ∷ others)
all_behind b done [] = refl
all_behind b done (next ∷ others) = all_behind b (done ++ 32 ∷ next) others ∙ joined (b ∷ done) next others

all_spaced : (strings : List (List ℕ)) → AreStrings strings → with_all [] strings ≡ spaced strings
all_spaced [] are = refl
all_spaced ([] ∷ others) are = let none = nothing_spells false in let some = are.0 in absurd cc
all_spaced ((b ∷ string) ∷ others) are = all_behind b string others

spaced_by : (text : List ℕ) (strings : Strings) (spelling : List ℕ) → AreStringsIn strings → written [] strings ≡ Some spelling → spelling ≡ spaced_or text strings
spaced_by text None spelling are e = absurd cc
spaced_by text (Some strings) spelling are e = let is : with_all [] strings ≡ spelling = cc in sym is ∙ all_spaced strings are

kept_by : (text : List ℕ) (strings : Strings) → written [] strings ≡ None → text ≡ spaced_or text strings
kept_by text None e = refl
kept_by text (Some strings) e = absurd cc

pub spelled_by : (text spelling : List ℕ) → written_of text ≡ Some spelling → spelling ≡ side_by_side text
unfolding side_by_side
spelled_by text spelling e = spaced_by text (strings_from 0 false text) spelling (all_strings 0 false text) e

pub stays : (text : List ℕ) → written_of text ≡ None → text ≡ side_by_side text
unfolding side_by_side
stays text e = kept_by text (strings_from 0 false text) e

-- ---- what is written is read again

read_string : (fresh : Bool) (string tail : List ℕ) → spelling_of false string ≡ Some (Good Text) → strings_from 0 fresh (string ++ tail) ≡ with_string string (strings_from 0 (fresh_past string fresh) tail)
read_string fresh string tail e =
    strings_at fresh (string ++ tail) (length string) (Good Text) (literal_front fresh string tail Text refl (string_anywhere false fresh string e))
    ∙ ap (λ t. with_string t (strings_from 0 (fresh_past t fresh) (drop (length string) (string ++ tail)))) (take-append_seam string tail)
    ∙ ap (λ t. with_string string (strings_from 0 (fresh_past string fresh) t)) (drop-append_seam string tail)

read_space : (fresh : Bool) (text : List ℕ) → strings_from 0 fresh (32 ∷ text) ≡ strings_from 0 (fresh_after 32 fresh) text
read_space fresh text = strings_at fresh (32 ∷ text) 1 Blank (blank_front fresh 32 text refl)

read_nothing : (fresh : Bool) → strings_from 0 fresh [] ≡ Some []
unfolding strings_from
read_nothing fresh = refl

pub read_again : (fresh : Bool) (strings : List (List ℕ)) → AreStrings strings → strings_from 0 fresh (spaced strings) ≡ Some strings
read_again fresh [] are = read_nothing fresh
read_again fresh (string ∷ []) are = ap (strings_from 0 fresh) (sym (append-nil string)) ∙ read_string fresh string [] are.0 ∙ ap (with_string string) (read_nothing (fresh_past string fresh))
read_again fresh (string ∷ next ∷ others) are =
    let text = spaced (next ∷ others) in
    read_string fresh string (32 ∷ text) are.0 ∙ ap (with_string string) (read_space (fresh_past string fresh) text ∙ read_again (fresh_after 32 (fresh_past string fresh)) (next ∷ others) are.1)

-- ---- laws

spelled_of : (text : List ℕ) (strings : Strings) → strings_from 0 false text ≡ strings → side_by_side text ≡ spaced_or text strings
unfolding side_by_side
spelled_of text strings e = ap (spaced_or text) e

pub one_stays : (text : List ℕ) → spelling_of false text ≡ Some (Good Text) → side_by_side text ≡ text
one_stays text e = spelled_of text (Some (text ∷ [])) (read_again false (text ∷ []) (e, tt))

again_by : (text : List ℕ) (strings : Strings) → strings_from 0 false text ≡ strings → AreStringsIn strings → side_by_side (spaced_or text strings) ≡ spaced_or text strings
again_by text None e are = spelled_of text None e
again_by text (Some strings) e are = spelled_of (spaced strings) (Some strings) (read_again false strings are)

pub once : (text : List ℕ) → side_by_side (side_by_side text) ≡ side_by_side text
once text =
    let strings = strings_from 0 false text in
    let e = spelled_of text strings refl in
    ap side_by_side e ∙ again_by text strings refl (all_strings 0 false text) ∙ sym e

-- ---- the characters of strings

abbrev total : List (List ℕ) → ℕ
total [] = 0
total (string ∷ others) = piece_length string + total others

-- so many characters stand in the strings, if strings alone stand there
abbrev Counts : Strings → ℕ → Type 0
Counts None count = Unit {0}
Counts (Some strings) count = count ≡ total strings

counts_more : (string : List ℕ) (others : Strings) (count : ℕ) → Counts others count → Counts (with_string string others) (piece_length string + count)
counts_more string None count h = tt
counts_more string (Some others) count h = ap (λ n. piece_length string + n) h

counts_blank : (strings : Strings) (count : ℕ) → Counts strings count → Counts strings (0 + count)
counts_blank strings count h = let e : 0 + count ≡ count = omega arith in subst (Counts strings) (sym e) h

counts_piece : (fresh : Bool) (b : ℕ) (text : List ℕ) (len : ℕ) (spells : Spelled) → front fresh (b ∷ text) ≡ Some (record { len = len; spells = spells }) → Counts (strings_from (pred len) (fresh_after b fresh) text) (lengths_from (pred len) (fresh_after b fresh) text) → Counts (strings_from 0 fresh (b ∷ text)) (lengths_from 0 fresh (b ∷ text))
unfolding strings_from lengths_from
counts_piece fresh b text len Blank e h = rw e (counts_blank (strings_from (pred len) (fresh_after b fresh) text) (lengths_from (pred len) (fresh_after b fresh) text) h)
counts_piece fresh b text len (Good Text) e h = rw e (counts_more (take len (b ∷ text)) (strings_from (pred len) (fresh_after b fresh) text) (lengths_from (pred len) (fresh_after b fresh) text) h)
counts_piece fresh b text len (Good Name) e h = rw e tt
counts_piece fresh b text len (Good (Keyword n)) e h = rw e tt
counts_piece fresh b text len (Good (Punct n)) e h = rw e tt
counts_piece fresh b text len (Good Integer) e h = rw e tt
counts_piece fresh b text len (Good Character) e h = rw e tt
counts_piece fresh b text len (Good End) e h = rw e tt
counts_piece fresh b text len (Ill reason) e h = rw e tt

counts : (skip : ℕ) (fresh : Bool) (text : List ℕ) → Counts (strings_from skip fresh text) (lengths_from skip fresh text)
unfolding strings_from lengths_from
counts zero fresh [] = refl
counts (suc skip) fresh [] = refl
counts (suc skip) fresh (b ∷ text) = counts skip (fresh_after b fresh) text
counts zero fresh (b ∷ text) =
    let first = begins fresh (b ∷ text) (omega arith) in
    counts_piece fresh b text first.0.len first.0.spells (front_is fresh (b ∷ text) first.0.len first.0.spells first.1) (counts (pred first.0.len) (fresh_after b fresh) text)

same_count : (text : List ℕ) (strings : Strings) → strings_from 0 false text ≡ strings → AreStringsIn strings → lengths_from 0 false (spaced_or text strings) ≡ lengths_from 0 false text
same_count text None e are = refl
same_count text (Some strings) e are =
    let before : lengths_from 0 false text ≡ total strings = subst (λ s. Counts s (lengths_from 0 false text)) e (counts 0 false text) in
    let after : lengths_from 0 false (spaced strings) ≡ total strings = subst (λ s. Counts s (lengths_from 0 false (spaced strings))) (read_again false strings are) (counts 0 false (spaced strings)) in
    after ∙ sym before

pub as_many : (text : List ℕ) → string_length (side_by_side text) ≡ string_length text
unfolding string_length
as_many text = let strings = strings_from 0 false text in ap (lengths_from 0 false) (spelled_of text strings refl) ∙ same_count text strings refl (all_strings 0 false text)
