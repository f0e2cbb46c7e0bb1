-- The tokens of lines of words are the words.
use Rattle.std.proofs.Common.{◌≡◌, ℕ, zero, suc, ◌+◌, ◌-◌, Bool, true, false, List, [], ◌∷◌, ◌++◌, length, take, drop, Option, Some, None, Ok, Err, refl, sym, ap, ◌∙◌, subst, arith, append_assoc, drop-drop}
use Rattle.std.proofs.Math.Seq.{take-append_seam, drop-append_seam}
use Rattle.std.specs.List.{AllByRecursion}
use Rattle.std.specs.Prelude.{codes, if◌then◌else◌}
use Rattle.cxx_model.specs.declared.token.Token.{Token}
use Rattle.cxx_model.specs.declared.token.TokenKind.{TokenKind}
use Rattle.cxx_model.specs.declared.place.Place.{Place}
use Rattle.cxx_model.specs.declared.token.TokenKind.TheVariants.{Text, End}
use Rattle.cxx_model.specs.declared.limits.TheConstants as limits
use Rattle.cxx_model.specs.Text.Lexemes.{first_place, after, past, spelling_in, lexeme_of}
use Rattle.cxx_model.specs.Text.Spelling.{Good, is_white, spelling_of}
use Rattle.cxx_model.specs.Text.Tokens.{IsLongest, BadAt, PastTokens, Width, is_text, fresh_after, fresh_past, put, ended, tokens_from, tokens_of}
use Rattle.cxx_model.specs.Printing.Written.{Written, written}
use Rattle.cxx_reading.specs.declared.role.Role.{Role}
use Rattle.cxx_reading.specs.declared.role.Role.TheVariants as role
use Rattle.cxx_reading.specs.Words.{Word, has_gap, text_behind, line_text}
use Rattle.cxx_model.proofs.Readings.{Answer, other_reason, other_joins, other_join, reads_end, reads_full, reads_spelled, reads_space}
use Rattle.cxx_model.proofs.Shapes.{no_empty}
use Rattle.cxx_model.proofs.Spellings.{blank_front}
use Rattle.cxx_written.specs.Line.{kind_in, written_of, IsWord, MayTouch, MayPrecede, IsLine}
use Rattle.cxx_written.specs.ReadsAs.{ReadsAsWords, ReadsAs, end_word, text_of, line_as, lines_as}

-- ---- one token in front

same_word : (text : List ℕ) (token : Token) (word : Written) → token.kind ≡ word.kind → spelling_in text token ≡ word.spelling → written (lexeme_of text token) ≡ word
same_word text token word k s = λ i. record { kind = k i; spelling = s i }

reads_put : (text : List ℕ) (answer : Answer) (token : Token) (word : Written) (words : List Written) → is_text token.kind ≡ false → token.kind ≡ word.kind → spelling_in text token ≡ word.spelling → ReadsAsWords answer text words → ReadsAsWords (put token answer) text (word ∷ words)
reads_put text (Ok tokens) token word words h k s rest =
    let e = same_word text token word k s in
    subst (λ ts. ReadsAsWords (Ok ts) text (word ∷ words)) (sym (other_join token tokens h)) cc
reads_put text (Err (BadAt place reason)) token word words h k s rest = rest
reads_put text (Err PastTokens) token word words h k s rest = tt

-- ---- what stands further on

drop_past : (text : List ℕ) (at : ℕ) (piece rest : List ℕ) → drop at text ≡ piece ++ rest → drop (at + length piece) text ≡ rest
drop_past text at piece rest e = sym (drop-drop (length piece) at text) ∙ ap (drop (length piece)) e ∙ drop-append_seam piece rest

-- From wherever this rest of the text stands, whatever stands before it, these words are read.
abbrev pub ReadsRest : List ℕ → List ℕ → List Written → Type 0
ReadsRest text rest words = (room : ℕ) (before : Option Width) (fresh : Bool) (at : ℕ) (place : Place) → drop at text ≡ rest → ReadsAsWords (tokens_from 0 room before fresh at place rest) text words

-- ---- a blank, and a word

pub reads_blank_as : (text : List ℕ) (b : ℕ) (rest : List ℕ) (words : List Written) → is_white b ≡ true → ReadsRest text rest words → ReadsRest text (b ∷ rest) words
reads_blank_as text b rest words white go = λ room before fresh at place e.
    subst (λ a. ReadsAsWords a text words) (sym (reads_space (b ∷ []) rest room before fresh at place (blank_front fresh b rest white)))
    (go room before (fresh_after b fresh) (at + 1) (after b place) (drop_past text at (b ∷ []) rest e))

spelled_there : (text : List ℕ) (at : ℕ) (spelling rest : List ℕ) → drop at text ≡ spelling ++ rest → take (at + length spelling - at) (drop at text) ≡ spelling
spelled_there text at spelling rest e =
    let n : at + length spelling - at ≡ length spelling = omega arith in
    rw (n, e) (take-append_seam spelling rest)

no_text : (kind : TokenKind) → (kind ≡ Text → ⊥) → (is : Bool) → is_text kind ≡ is → is ≡ false
no_text kind h false e = refl
no_text Text h true e = absurd (h refl)
no_text _ h true e = sym e

-- the word is the longest front, wherever it stands on its line
abbrev pub StandsBefore : Word → List ℕ → Type 0
StandsBefore word rest = (fresh : Bool) → IsLongest fresh (word.spelling ++ rest) (record { len = length word.spelling; spells = Good (kind_in word.spelling) })

pub reads_word_as : (text : List ℕ) (word : Word) (rest : List ℕ) (words : List Written) → IsWord word → StandsBefore word rest → ReadsRest text rest words → ReadsRest text (word.spelling ++ rest) (written_of word ∷ words)
reads_word_as text word rest words is longest go zero before fresh at place e =
    let other : is_text (kind_in word.spelling) ≡ false = no_text (kind_in word.spelling) is.no_text (is_text (kind_in word.spelling)) refl in
    subst (λ a. ReadsAsWords a text (written_of word ∷ words))
    (sym (reads_full (word.spelling ++ rest) (length word.spelling) (kind_in word.spelling) before fresh at place (longest fresh) (other_reason before (word.spelling ++ rest) (kind_in word.spelling) other) (other_joins before (kind_in word.spelling) other))) tt
reads_word_as text word rest words is longest go (suc room) before fresh at place e =
    let other : is_text (kind_in word.spelling) ≡ false = no_text (kind_in word.spelling) is.no_text (is_text (kind_in word.spelling)) refl in
    let len : ℕ = length word.spelling in
    let token : Token = record { kind = kind_in word.spelling; place = place; from = at; to = at + len } in
    subst (λ a. ReadsAsWords a text (written_of word ∷ words)) (sym (reads_spelled word.spelling rest (kind_in word.spelling) room before fresh at place (longest fresh) other))
    (reads_put text (tokens_from 0 room None (fresh_past word.spelling fresh) (at + len) (past word.spelling place) rest) token (written_of word) words other refl (spelled_there text at word.spelling rest e)
    (go room None (fresh_past word.spelling fresh) (at + len) (past word.spelling place) (drop_past text at word.spelling rest e)))

-- ---- a gap

pub reads_gap_as : (spaced : Bool) (text : List ℕ) (rest : List ℕ) (words : List Written) → ReadsRest text rest words → ReadsRest text ((if spaced then codes " " else []) ++ rest) words
reads_gap_as true text rest words go = reads_blank_as text 32 rest words refl go
reads_gap_as false text rest words go = go

-- ---- a word before what is printed behind it

touching : (word : Word) (spelling rest : List ℕ) (kind : TokenKind) → spelling_of false spelling ≡ Some (Good kind) → MayTouch word spelling → StandsBefore word (spelling ++ rest)
touching word [] rest kind e touch = absurd (no_empty false kind e)
touching word (b ∷ spelling) rest kind e touch = λ fresh. touch.longest fresh (spelling ++ rest)

before_next : (spaced : Bool) (word next : Word) (rest : List ℕ) → has_gap word.role next.role ≡ spaced → IsWord word → IsWord next → (has_gap word.role next.role ≡ false → MayTouch word next.spelling)
    → StandsBefore word ((if spaced then codes " " else []) ++ (next.spelling ++ rest))
before_next true word next rest e one two touch = λ fresh. one.before_space.longest fresh (next.spelling ++ rest)
before_next false word next rest e one two touch = touching word next.spelling rest (kind_in next.spelling) two.spelled (touch e)

-- what stands behind a word in its line, and behind the line
abbrev pub rest_of : Role → List Word → List ℕ → List ℕ
rest_of last others tail = text_behind last others ++ (10 ∷ tail)

pub word_in_line : (word : Word) (others : List Word) (tail : List ℕ) → IsWord word → MayPrecede word others → IsLine others → StandsBefore word (rest_of word.role others tail)
word_in_line word [] tail one before line = λ fresh. one.before_newline.longest fresh tail
word_in_line word (next ∷ others) tail one before line =
    let e : rest_of word.role (next ∷ others) tail ≡ (if has_gap word.role next.role then codes " " else []) ++ (next.spelling ++ rest_of next.role others tail) = simp append_assoc in
    let there = before_next (has_gap word.role next.role) word next (rest_of next.role others tail) refl one line.0 before in
    subst (λ t. StandsBefore word t) (sym e) there

-- ---- a line, and lines

pub reads_behind_as : (text : List ℕ) (last : Role) (line : List Word) (tail : List ℕ) (words : List Written) → IsLine line → ReadsRest text tail words → ReadsRest text (rest_of last line tail) (line_as line ++ words)
reads_behind_as text last [] tail words is go = reads_blank_as text 10 tail words refl go
reads_behind_as text last (word ∷ others) tail words is go =
    let split : rest_of last (word ∷ others) tail ≡ (if has_gap last word.role then codes " " else []) ++ (word.spelling ++ rest_of word.role others tail) = simp append_assoc in
    subst (λ t. ReadsRest text t (written_of word ∷ (line_as others ++ words))) (sym split)
    (reads_gap_as (has_gap last word.role) text (word.spelling ++ rest_of word.role others tail) (written_of word ∷ (line_as others ++ words))
    (reads_word_as text word (rest_of word.role others tail) (line_as others ++ words) is.0 (word_in_line word others tail is.0 is.1 is.2) (reads_behind_as text word.role others tail words is.2 go)))

pub reads_line_as : (text : List ℕ) (line : List Word) (tail : List ℕ) (words : List Written) → IsLine line → ReadsRest text tail words → ReadsRest text (line_text line ++ tail) (line_as line ++ words)
reads_line_as text line tail words is go =
    let split : line_text line ++ tail ≡ rest_of role.Leads line tail = append_assoc (text_behind role.Leads line) (codes "\n") tail in
    subst (λ t. ReadsRest text t (line_as line ++ words)) (sym split) (reads_behind_as text role.Leads line tail words is go)

ended_as : (text : List ℕ) (at : ℕ) (place : Place) (room : ℕ) → ReadsAsWords (ended room at place) text (end_word ∷ [])
ended_as text at place zero = tt
ended_as text at place (suc room) =
    let n : at - at ≡ 0 = omega arith in
    let nothing : take (at - at) (drop at text) ≡ [] = rw n refl in
    ap (λ w. w ∷ []) (same_word text (record { kind = End; place = place; from = at; to = at }) end_word refl nothing)

reads_end_as : (text : List ℕ) → ReadsRest text [] (end_word ∷ [])
reads_end_as text room before fresh at place e = subst (λ a. ReadsAsWords a text (end_word ∷ [])) (sym (reads_end room before fresh at place)) (ended_as text at place room)

pub reads_lines_as : (text : List ℕ) (lines : List (List Word)) → AllByRecursion IsLine lines → ReadsRest text (text_of lines) (lines_as lines ++ end_word ∷ [])
reads_lines_as text [] all = reads_end_as text
reads_lines_as text (line ∷ others) all =
    let regroup : lines_as (line ∷ others) ++ end_word ∷ [] ≡ line_as line ++ (lines_as others ++ end_word ∷ []) = append_assoc (line_as line) (lines_as others) (end_word ∷ []) in
    subst (λ words. ReadsRest text (line_text line ++ text_of others) words) (sym regroup) (reads_line_as text line (text_of others) (lines_as others ++ end_word ∷ []) all.0 (reads_lines_as text others all.1))

pub words_are_tokens : (lines : List (List Word)) → AllByRecursion IsLine lines → ReadsAs (tokens_of (text_of lines)) (text_of lines) lines
unfolding tokens_of
words_are_tokens lines all = reads_lines_as (text_of lines) lines all limits.MOST_TOKENS None true 0 first_place refl
