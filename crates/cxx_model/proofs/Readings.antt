-- The token list as a function and as a relation: each gives the other, so that there is one.
use Rattle.std.proofs.Common.{◌≡◌, ◌≤◌, ◌<◌, ℕ, zero, suc, pred, ◌+◌, ◌-◌, Bool, true, false, ◌&&◌, cond, List, [], ◌∷◌, ◌++◌, length, take, drop, Option, Some, None, Result, Ok, Err, refl, sym, ap, ap₂, ◌∙◌, subst, ⊎_elim, arith, take-add, drop-drop, take_all, length-drop, add-zero, take-append-drop, All}
use Rattle.std.proofs.Math.Seq.{take-append_seam, drop-append_seam}
use Rattle.std.proofs.lemmas.Bool.{cases_lt, and_right, and_left}
use Rattle.std.proofs.lemmas.List.{drop_all}
use Rattle.cxx_model.specs.declared.place.Place.{Place}
use Rattle.cxx_model.specs.declared.token.Token.{Token}
use Rattle.cxx_model.specs.declared.token.TokenKind.{TokenKind}
use Rattle.cxx_model.specs.declared.token.TokenKind.TheVariants.{Name, Keyword, Punct, Integer, Character, Text, End}
use Rattle.cxx_model.specs.declared.token.TokenReason.{TokenReason}
use Rattle.cxx_model.specs.declared.token.TokenReason.TheVariants.{MixedStrings}
use Rattle.cxx_model.specs.declared.limits.TheConstants as limits
use Rattle.cxx_model.specs.Text.Lexemes.{first_place, after, past}
use Rattle.cxx_model.specs.Text.Spelling.{Spelled, Blank, Good, Ill}
use Rattle.cxx_model.specs.Text.Tokens.{Piece, IsLongest, Unread, BadAt, PastTokens, Width, fresh_after, fresh_past, is_fresh, width_of, width_behind, is_mixed, is_text, is_some_width, joins, reason_at, reason_by, front, join_list, comes_after_mixed, put, ended, good, step_by, step, tokens_from, tokens_of, Stands, place_at, IsTokenList, at_end, after_blank, after_token, tokens_begun, IsBadPlace, bad_here, bad_after_blank, bad_after_token, IsPastTokens, past_at_end, past_at_token, past_after_blank, past_after_token}
use Rattle.cxx_model.proofs.Fronts.{front_is, begins}
use Rattle.cxx_model.proofs.Spellings.{text_width}

abbrev pub Answer : Type 0
Answer = Result (List Token) Unread

-- ---- places

pub past_append : (a b : List ℕ) (place : Place) → past (a ++ b) place ≡ past b (past a place)
past_append [] b place = refl
past_append (x ∷ a) b place = past_append a b (after x place)

pub fresh_append : (a b : List ℕ) (fresh : Bool) → fresh_past (a ++ b) fresh ≡ fresh_past b (fresh_past a fresh)
fresh_append [] b fresh = refl
fresh_append (x ∷ a) b fresh = fresh_append a b (fresh_after x fresh)

-- ---- one step, by the longest front

passes_more : (k room : ℕ) (before : Option Width) (fresh : Bool) (at : ℕ) (place : Place) (b : ℕ) (text : List ℕ) → tokens_from k room before (fresh_after b fresh) (at + 1) (after b place) text ≡ tokens_from 0 room before (fresh_past (take k text) (fresh_after b fresh)) (at + 1 + k) (past (take k text) (after b place)) (drop k text) → tokens_from (suc k) room before fresh at place (b ∷ text) ≡ tokens_from 0 room before (fresh_past (take k text) (fresh_after b fresh)) (at + suc k) (past (take k text) (after b place)) (drop k text)
unfolding tokens_from
passes_more k room before fresh at place b text e = let sums : at + 1 + k ≡ at + suc k = omega arith in e ∙ ap (λ n. tokens_from 0 room before (fresh_past (take k text) (fresh_after b fresh)) n (past (take k text) (after b place)) (drop k text)) sums

pub passes : (k room : ℕ) (before : Option Width) (fresh : Bool) (at : ℕ) (place : Place) (text : List ℕ) → k ≤ length text → tokens_from k room before fresh at place text ≡ tokens_from 0 room before (fresh_past (take k text) fresh) (at + k) (past (take k text) place) (drop k text)
passes zero room before fresh at place text h = ap (λ n. tokens_from 0 room before fresh n place text) (sym (add-zero at))
passes (suc k) room before fresh at place [] h = absurd (omega arith)
passes (suc k) room before fresh at place (b ∷ text) h = passes_more k room before fresh at place b text (passes k room before (fresh_after b fresh) (at + 1) (after b place) text (omega arith))

go_on : (b : ℕ) (text : List ℕ) (len room : ℕ) (before : Option Width) (fresh : Bool) (at : ℕ) (place : Place) → 0 < len → len ≤ length (b ∷ text) → tokens_from (pred len) room before (fresh_after b fresh) (at + 1) (after b place) text ≡ tokens_from 0 room before (fresh_past (take len (b ∷ text)) fresh) (at + len) (past (take len (b ∷ text)) place) (drop len (b ∷ text))
unfolding tokens_from
go_on b text zero room before fresh at place low high = absurd (omega arith)
go_on b text (suc k) room before fresh at place low high = passes (suc k) room before fresh at place (b ∷ text) high

by_front : (b : ℕ) (text : List ℕ) (room : ℕ) (before : Option Width) (fresh : Bool) (at : ℕ) (place : Place) (piece : Option Piece) → front fresh (b ∷ text) ≡ piece → tokens_from 0 room before fresh at place (b ∷ text) ≡ step piece at place room before (b ∷ text) (λ skip left behind. tokens_from skip left behind (fresh_after b fresh) (at + 1) (after b place) text)
unfolding tokens_from
by_front b text room before fresh at place piece e = ap (λ f. step f at place room before (b ∷ text) (λ skip left behind. tokens_from skip left behind (fresh_after b fresh) (at + 1) (after b place) text)) e

pub reads_end : (room : ℕ) (before : Option Width) (fresh : Bool) (at : ℕ) (place : Place) → tokens_from 0 room before fresh at place [] ≡ ended room at place
unfolding tokens_from
reads_end room before fresh at place = refl

pub reads_blank : (text : List ℕ) (len room : ℕ) (before : Option Width) (fresh : Bool) (at : ℕ) (place : Place) → IsLongest fresh text (record { len = len; spells = Blank }) → tokens_from 0 room before fresh at place text ≡ tokens_from 0 room before (fresh_past (take len text) fresh) (at + len) (past (take len text) place) (drop len text)
reads_blank [] len room before fresh at place h = absurd (omega (arith, h.some, h.within))
reads_blank (b ∷ text) len room before fresh at place h = by_front b text room before fresh at place _ (front_is fresh (b ∷ text) len Blank h) ∙ go_on b text len room before fresh at place h.some h.within

good_reads : (kind : TokenKind) (behind : Option Width) (joined : Bool) (len at : ℕ) (place : Place) (room : ℕ) (go : ℕ → ℕ → Option Width → Answer)
    → good kind behind joined len at place (cond joined 0 1 + room) go ≡ put (record { kind = kind; place = place; from = at; to = at + len }) (go (pred len) room behind)
good_reads kind behind true len at place room go = let e : 0 + room ≡ room = omega arith in ap (λ n. put (record { kind = kind; place = place; from = at; to = at + len }) (go (pred len) n behind)) e
good_reads kind behind false len at place room go = let e : 1 + room ≡ suc room = omega arith in ap (λ n. good kind behind false len at place n go) e

-- a token takes room unless it goes on with the string before it
pub reads_token : (text : List ℕ) (len : ℕ) (kind : TokenKind) (room : ℕ) (before : Option Width) (fresh : Bool) (at : ℕ) (place : Place) → IsLongest fresh text (record { len = len; spells = Good kind }) → reason_at before text (Good kind) ≡ None
    → tokens_from 0 (tokens_begun before kind + room) before fresh at place text ≡ put (record { kind = kind; place = place; from = at; to = at + len }) (tokens_from 0 room (width_behind kind text) (fresh_past (take len text) fresh) (at + len) (past (take len text) place) (drop len text))
reads_token [] len kind room before fresh at place h sound = absurd (omega (arith, h.some, h.within))
reads_token (b ∷ text) len kind room before fresh at place h sound =
    let go : ℕ → ℕ → Option Width → Answer = λ skip left behind. tokens_from skip left behind (fresh_after b fresh) (at + 1) (after b place) text in
    by_front b text (tokens_begun before kind + room) before fresh at place _ (front_is fresh (b ∷ text) len (Good kind) h)
    ∙ ap (λ r. step_by r (Good kind) len at place (tokens_begun before kind + room) before (b ∷ text) go) sound
    ∙ good_reads kind (width_behind kind (b ∷ text)) (joins before kind) len at place room go
    ∙ ap (put (record { kind = kind; place = place; from = at; to = at + len })) (go_on b text len room (width_behind kind (b ∷ text)) fresh at place h.some h.within)

pub reads_full : (text : List ℕ) (len : ℕ) (kind : TokenKind) (before : Option Width) (fresh : Bool) (at : ℕ) (place : Place) → IsLongest fresh text (record { len = len; spells = Good kind }) → reason_at before text (Good kind) ≡ None → joins before kind ≡ false → tokens_from 0 0 before fresh at place text ≡ Err PastTokens
reads_full [] len kind before fresh at place h sound alone = absurd (omega (arith, h.some, h.within))
reads_full (b ∷ text) len kind before fresh at place h sound alone =
    let go : ℕ → ℕ → Option Width → Answer = λ skip left behind. tokens_from skip left behind (fresh_after b fresh) (at + 1) (after b place) text in
    by_front b text 0 before fresh at place _ (front_is fresh (b ∷ text) len (Good kind) h)
    ∙ ap (λ r. step_by r (Good kind) len at place 0 before (b ∷ text) go) sound
    ∙ ap (λ j. good kind (width_behind kind (b ∷ text)) j len at place 0 go) alone

bad_step : (spells : Spelled) (len at : ℕ) (place : Place) (room : ℕ) (before : Option Width) (text : List ℕ) (go : ℕ → ℕ → Option Width → Answer) (reason : TokenReason) → reason_at before text spells ≡ Some reason → step (Some (record { len = len; spells = spells })) at place room before text go ≡ Err (BadAt place reason)
bad_step spells len at place room before text go reason e = ap (λ r. step_by r spells len at place room before text go) e

pub reads_bad : (text : List ℕ) (len : ℕ) (spells : Spelled) (reason : TokenReason) (room : ℕ) (before : Option Width) (fresh : Bool) (at : ℕ) (place : Place) → IsLongest fresh text (record { len = len; spells = spells }) → reason_at before text spells ≡ Some reason → tokens_from 0 room before fresh at place text ≡ Err (BadAt place reason)
reads_bad [] len spells reason room before fresh at place h bad = absurd (omega (arith, h.some, h.within))
reads_bad (b ∷ text) len spells reason room before fresh at place h bad =
    by_front b text room before fresh at place _ (front_is fresh (b ∷ text) len spells h)
    ∙ bad_step spells len at place room before (b ∷ text) (λ skip left behind. tokens_from skip left behind (fresh_after b fresh) (at + 1) (after b place) text) reason bad

-- ---- tokens that are no strings

pub other_reason : (before : Option Width) (text : List ℕ) (kind : TokenKind) → is_text kind ≡ false → reason_at before text (Good kind) ≡ None
other_reason before text kind h = rw h (ap (λ c. cond c (Some MixedStrings) None) (and_right (is_mixed before (width_of text)) false refl))

pub other_joins : (before : Option Width) (kind : TokenKind) → is_text kind ≡ false → joins before kind ≡ false
other_joins before kind h = and_left _ _ h

pub other_width : (kind : TokenKind) (text : List ℕ) → is_text kind ≡ false → width_behind kind text ≡ None
other_width kind text h = rw h refl

pub other_join : (token : Token) (tokens : List Token) → is_text token.kind ≡ false → join_list token tokens ≡ token ∷ tokens
other_join token [] h = refl
other_join token (next ∷ tokens) h = ap (λ c. cond c (record { kind = token.kind; place = token.place; from = token.from; to = next.to } ∷ tokens) (token ∷ next ∷ tokens)) (and_left (is_text token.kind) (is_text next.kind) h)

pub other_begun : (before : Option Width) (kind : TokenKind) → is_text kind ≡ false → tokens_begun before kind ≡ 1
other_begun before kind h = ap (λ c. cond c 0 1) (other_joins before kind h)

-- ---- a text by its parts: what stands at the front, and the rest

pub reads_spelled : (w rest : List ℕ) (kind : TokenKind) (room : ℕ) (before : Option Width) (fresh : Bool) (at : ℕ) (place : Place) → IsLongest fresh (w ++ rest) (record { len = length w; spells = Good kind }) → is_text kind ≡ false
    → tokens_from 0 (suc room) before fresh at place (w ++ rest) ≡ put (record { kind = kind; place = place; from = at; to = at + length w }) (tokens_from 0 room None (fresh_past w fresh) (at + length w) (past w place) rest)
reads_spelled w rest kind room before fresh at place h other =
    let begun : suc room ≡ tokens_begun before kind + room = omega (arith, other_begun before kind other) in
    ap (λ n. tokens_from 0 n before fresh at place (w ++ rest)) begun
    ∙ reads_token (w ++ rest) (length w) kind room before fresh at place h (other_reason before (w ++ rest) kind other)
    ∙ ap (λ width. put (record { kind = kind; place = place; from = at; to = at + length w }) (tokens_from 0 room width (fresh_past (take (length w) (w ++ rest)) fresh) (at + length w) (past (take (length w) (w ++ rest)) place) (drop (length w) (w ++ rest)))) (other_width kind (w ++ rest) other)
    ∙ ap₂ (λ front behind. put (record { kind = kind; place = place; from = at; to = at + length w }) (tokens_from 0 room None (fresh_past front fresh) (at + length w) (past front place) behind)) (take-append_seam w rest) (drop-append_seam w rest)

pub reads_space : (w rest : List ℕ) (room : ℕ) (before : Option Width) (fresh : Bool) (at : ℕ) (place : Place) → IsLongest fresh (w ++ rest) (record { len = length w; spells = Blank }) → tokens_from 0 room before fresh at place (w ++ rest) ≡ tokens_from 0 room before (fresh_past w fresh) (at + length w) (past w place) rest
reads_space w rest room before fresh at place h =
    reads_blank (w ++ rest) (length w) room before fresh at place h
    ∙ ap₂ (λ front behind. tokens_from 0 room before (fresh_past front fresh) (at + length w) (past front place) behind) (take-append_seam w rest) (drop-append_seam w rest)

-- ---- from a byte of the text on

abbrev pub tokens_at : List ℕ → ℕ → Option Width → ℕ → Answer
tokens_at bytes room before at = tokens_from 0 room before (is_fresh (take at bytes)) at (place_at bytes at) (drop at bytes)

moved : (bytes : List ℕ) (at len room : ℕ) (before : Option Width) → tokens_from 0 room before (fresh_past (take len (drop at bytes)) (is_fresh (take at bytes))) (at + len) (past (take len (drop at bytes)) (place_at bytes at)) (drop len (drop at bytes)) ≡ tokens_at bytes room before (at + len)
moved bytes at len room before = rw (drop-drop len at bytes, ← past_append (take at bytes) (take len (drop at bytes)) first_place, ← fresh_append (take at bytes) (take len (drop at bytes)) true, ← take-add at len bytes) refl

pub at_blank : (bytes : List ℕ) (at len room : ℕ) (before : Option Width) → Stands bytes at len Blank → tokens_at bytes room before at ≡ tokens_at bytes room before (at + len)
at_blank bytes at len room before h = reads_blank (drop at bytes) len room before (is_fresh (take at bytes)) at (place_at bytes at) h ∙ moved bytes at len room before

abbrev pub token_at : List ℕ → ℕ → ℕ → TokenKind → Token
token_at bytes at len kind = record { kind = kind; place = place_at bytes at; from = at; to = at + len }

pub at_token : (bytes : List ℕ) (at len room : ℕ) (before : Option Width) (kind : TokenKind) → Stands bytes at len (Good kind) → reason_at before (drop at bytes) (Good kind) ≡ None → tokens_at bytes (tokens_begun before kind + room) before at ≡ put (token_at bytes at len kind) (tokens_at bytes room (width_behind kind (drop at bytes)) (at + len))
at_token bytes at len room before kind h sound = reads_token (drop at bytes) len kind room before (is_fresh (take at bytes)) at (place_at bytes at) h sound ∙ ap (put (token_at bytes at len kind)) (moved bytes at len room (width_behind kind (drop at bytes)))

pub at_last : (bytes : List ℕ) (at room : ℕ) (before : Option Width) → length bytes ≡ at → tokens_at bytes room before at ≡ ended room at (past bytes first_place)
at_last bytes at room before e = rw (drop_all at bytes (omega arith), take_all at bytes (omega arith)) (reads_end room before (is_fresh bytes) at (past bytes first_place))

-- ---- how many tokens begin in a list behind a string or none

abbrev pub begun : Option Width → List Token → ℕ
begun before [] = 0
begun before (token ∷ tokens) = tokens_begun before token.kind + length tokens

begun_alone : (tokens : List Token) → begun None tokens ≡ length tokens
begun_alone [] = refl
begun_alone (token ∷ tokens) = let e : joins None token.kind ≡ false = and_right (is_text token.kind) false refl in let one : tokens_begun None token.kind ≡ 1 = ap (λ c. cond c 0 1) e in omega arith

-- a string has a width, so that the next goes on with it
pub text_is_wide : (fresh : Bool) (text : List ℕ) (len : ℕ) (kind : TokenKind) → IsLongest fresh text (record { len = len; spells = Good kind }) → is_some_width (width_behind kind text) ≡ is_text kind
text_is_wide fresh text len Text h = ap (λ t. is_some_width (width_of t)) (sym (take-append-drop len text)) ∙ text_width fresh (take len text) (drop len text) h.spelled
text_is_wide fresh text len Name h = refl
text_is_wide fresh text len (Keyword n) h = refl
text_is_wide fresh text len (Punct n) h = refl
text_is_wide fresh text len Integer h = refl
text_is_wide fresh text len Character h = refl
text_is_wide fresh text len End h = refl

-- the list counts the same, joined or not
begun_joined : (before behind : Option Width) (token : Token) (tokens : List Token) → is_some_width behind ≡ is_text token.kind → begun before (join_list token tokens) ≡ tokens_begun before token.kind + begun behind tokens
begun_joined before behind token [] same = omega arith
begun_joined before behind token (t ∷ tokens) same = by (is_text token.kind) (is_text t.kind) (is_some_width behind) refl refl same
  where
    by : (text next wide : Bool) → is_text token.kind ≡ text → is_text t.kind ≡ next → wide ≡ is_text token.kind → begun before (cond (text && next) (record { kind = token.kind; place = token.place; from = token.from; to = t.to } ∷ tokens) (token ∷ t ∷ tokens)) ≡ tokens_begun before token.kind + (cond (next && wide) 0 1 + length tokens)
    by true true true e f g = omega arith
    by true false true e f g = omega arith
    by false true false e f g = omega arith
    by false false false e f g = omega arith
    by true next false e f g = absurd cc
    by false next true e f g = absurd cc

-- ---- from the relations to the function

pub list_is_read : (bytes : List ℕ) {at : ℕ} {before : Option Width} {tokens : List Token} (room : ℕ) → IsTokenList bytes at before tokens → begun before tokens ≤ room → tokens_at bytes room before at ≡ Ok tokens
list_is_read bytes room (at_end at before e) h = end_is_read room h
  where
    end_is_read : (room : ℕ) → begun before (record { kind = End; place = past bytes first_place; from = at; to = at } ∷ []) ≤ room → tokens_at bytes room before at ≡ Ok (record { kind = End; place = past bytes first_place; from = at; to = at } ∷ [])
    end_is_read zero h = absurd (omega arith)
    end_is_read (suc room) h = at_last bytes at (suc room) before e
list_is_read bytes room (after_blank at len before tokens longest rest) h = at_blank bytes at len room before longest ∙ list_is_read bytes room rest h
list_is_read bytes room (after_token at len before kind tokens longest sound rest) h =
    let behind = width_behind kind (drop at bytes) in
    let left : ℕ = room - tokens_begun before kind in
    let counted = begun_joined before behind (token_at bytes at len kind) tokens (text_is_wide (is_fresh (take at bytes)) (drop at bytes) len kind longest) in
    let e : room ≡ tokens_begun before kind + left = omega arith in
    ap (λ n. tokens_at bytes n before at) e ∙ at_token bytes at len left before kind longest sound ∙ ap (put (token_at bytes at len kind)) (list_is_read bytes left rest (omega arith))

pub bad_is_read : (bytes : List ℕ) {place : Place} {reason : TokenReason} {at : ℕ} {before : Option Width} {count : ℕ} (room : ℕ) → IsBadPlace bytes place reason at before count → count ≤ room → tokens_at bytes room before at ≡ Err (BadAt place reason)
bad_is_read bytes {reason} room (bad_here at len before spells longest bad e) h = reads_bad (drop at bytes) len spells reason room before (is_fresh (take at bytes)) at (place_at bytes at) longest bad ∙ ap (λ p. Err (BadAt p reason)) (sym e)
bad_is_read bytes room (bad_after_blank at len count before longest rest) h = at_blank bytes at len room before longest ∙ bad_is_read bytes room rest h
bad_is_read bytes room (bad_after_token at len count before kind longest sound rest) h =
    let left : ℕ = room - tokens_begun before kind in
    let e : room ≡ tokens_begun before kind + left = omega arith in
    ap (λ n. tokens_at bytes n before at) e ∙ at_token bytes at len left before kind longest sound ∙ ap (put (token_at bytes at len kind)) (bad_is_read bytes left rest (omega arith))

pub limit_is_read : (bytes : List ℕ) {at : ℕ} {before : Option Width} {room : ℕ} → IsPastTokens bytes at before room → tokens_at bytes room before at ≡ Err PastTokens
limit_is_read bytes (past_at_end at before e) = at_last bytes at 0 before e
limit_is_read bytes (past_at_token at len before kind longest sound alone) = reads_full (drop at bytes) len kind before (is_fresh (take at bytes)) at (place_at bytes at) longest sound alone
limit_is_read bytes (past_after_blank at len room before longest rest) = at_blank bytes at len room before longest ∙ limit_is_read bytes rest
limit_is_read bytes (past_after_token at len room before kind longest sound rest) = at_token bytes at len room before kind longest sound ∙ ap (put (token_at bytes at len kind)) (limit_is_read bytes rest)

-- ---- from the function to the relations

abbrev pub Means : List ℕ → ℕ → Option Width → ℕ → Answer → Type 0
Means bytes at before room (Ok tokens) = IsTokenList bytes at before tokens × (begun before tokens ≤ room)
Means bytes at before room (Err (BadAt place reason)) = (count : ℕ) × IsBadPlace bytes place reason at before count × (count ≤ room)
Means bytes at before room (Err PastTokens) = IsPastTokens bytes at before room

means_blank : (bytes : List ℕ) (at len room : ℕ) (before : Option Width) (answer : Answer) → Stands bytes at len Blank → Means bytes (at + len) before room answer → Means bytes at before room answer
means_blank bytes at len room before (Ok tokens) longest m = (after_blank at len before tokens longest m.0, m.1)
means_blank bytes at len room before (Err (BadAt place reason)) longest m = (m.0, bad_after_blank at len m.0 before longest m.1, m.2)
means_blank bytes at len room before (Err PastTokens) longest m = past_after_blank at len room before longest m

means_token : (bytes : List ℕ) (at len room : ℕ) (before : Option Width) (kind : TokenKind) (answer : Answer) → Stands bytes at len (Good kind) → reason_at before (drop at bytes) (Good kind) ≡ None → Means bytes (at + len) (width_behind kind (drop at bytes)) room answer → Means bytes at before (tokens_begun before kind + room) (put (token_at bytes at len kind) answer)
means_token bytes at len room before kind (Ok tokens) longest sound m =
    let counted = begun_joined before (width_behind kind (drop at bytes)) (token_at bytes at len kind) tokens (text_is_wide (is_fresh (take at bytes)) (drop at bytes) len kind longest) in
    (after_token at len before kind tokens longest sound m.0, omega (arith, m.1))
means_token bytes at len room before kind (Err (BadAt place reason)) longest sound m = (tokens_begun before kind + m.0, bad_after_token at len m.0 before kind longest sound m.1, omega (arith, m.2))
means_token bytes at len room before kind (Err PastTokens) longest sound m = past_after_token at len room before kind longest sound m

means_end : (bytes : List ℕ) (at room : ℕ) (before : Option Width) → length bytes ≡ at → Means bytes at before room (ended room at (past bytes first_place))
means_end bytes at zero before e = past_at_end at before e
means_end bytes at (suc room) before e = (at_end at before e, omega arith)

means_more : (bytes : List ℕ) (at room len : ℕ) (before : Option Width) (kind : TokenKind) → Stands bytes at len (Good kind) → reason_at before (drop at bytes) (Good kind) ≡ None → ((left : ℕ) (behind : Option Width) → Means bytes (at + len) behind left (tokens_at bytes left behind (at + len))) → tokens_begun before kind ≤ room → Means bytes at before room (tokens_at bytes room before at)
means_more bytes at room len before kind longest sound go fits =
    let left : ℕ = room - tokens_begun before kind in
    let behind = width_behind kind (drop at bytes) in
    let e : tokens_begun before kind + left ≡ room = omega arith in
    subst (λ n. Means bytes at before n (tokens_at bytes n before at)) e
    (subst (λ a. Means bytes at before (tokens_begun before kind + left) a) (sym (at_token bytes at len left before kind longest sound)) (means_token bytes at len left before kind (tokens_at bytes left behind (at + len)) longest sound (go left behind)))

pub ill_has_reason : (mixed : Bool) (reason : TokenReason) → reason_by mixed (Ill reason) ≡ None → ⊥
ill_has_reason mixed reason e = by (mixed && comes_after_mixed reason) e
  where
    by : (c : Bool) → cond c (Some MixedStrings) (Some reason) ≡ None → ⊥
    by true e = cc
    by false e = cc

means_good : (bytes : List ℕ) (at room len : ℕ) (before : Option Width) (kind : TokenKind) → Stands bytes at len (Good kind) → reason_at before (drop at bytes) (Good kind) ≡ None → ((left : ℕ) (behind : Option Width) → Means bytes (at + len) behind left (tokens_at bytes left behind (at + len))) → (joined : Bool) → joins before kind ≡ joined → Means bytes at before room (tokens_at bytes room before at)
means_good bytes at room len before kind longest sound go true j = let none : tokens_begun before kind ≡ 0 = ap (λ c. cond c 0 1) j in means_more bytes at room len before kind longest sound go (omega arith)
means_good bytes at zero len before kind longest sound go false j =
    subst (λ a. Means bytes at before 0 a) (sym (reads_full (drop at bytes) len kind before (is_fresh (take at bytes)) at (place_at bytes at) longest sound j)) (past_at_token at len before kind longest sound j)
means_good bytes at (suc room) len before kind longest sound go false j = let one : tokens_begun before kind ≡ 1 = ap (λ c. cond c 0 1) j in means_more bytes at (suc room) len before kind longest sound go (omega arith)

means_piece : (bytes : List ℕ) (at room len : ℕ) (before : Option Width) (spells : Spelled) → Stands bytes at len spells → ((left : ℕ) (behind : Option Width) → Means bytes (at + len) behind left (tokens_at bytes left behind (at + len))) → (why : Option TokenReason) → reason_at before (drop at bytes) spells ≡ why → Means bytes at before room (tokens_at bytes room before at)
means_piece bytes at room len before spells longest go (Some reason) bad =
    subst (λ a. Means bytes at before room a) (sym (reads_bad (drop at bytes) len spells reason room before (is_fresh (take at bytes)) at (place_at bytes at) longest bad)) (0, bad_here at len before spells longest bad refl, omega arith)
means_piece bytes at room len before Blank longest go None sound =
    subst (λ a. Means bytes at before room a) (sym (at_blank bytes at len room before longest)) (means_blank bytes at len room before (tokens_at bytes room before (at + len)) longest (go room before))
means_piece bytes at room len before (Good kind) longest go None sound = means_good bytes at room len before kind longest sound go (joins before kind) refl
means_piece bytes at room len before (Ill reason) longest go None sound = absurd (ill_has_reason (is_mixed before (width_of (drop at bytes))) reason sound)

pub means : (fuel : ℕ) (bytes : List ℕ) (at room : ℕ) (before : Option Width) → at ≤ length bytes → length bytes ≤ at + fuel → Means bytes at before room (tokens_at bytes room before at)
means zero bytes at room before low high =
    let e : length bytes ≡ at = omega arith in
    subst (λ a. Means bytes at before room a) (sym (at_last bytes at room before e)) (means_end bytes at room before e)
means (suc fuel) bytes at room before low high =
    ⊎_elim
    (λ (more : at < length bytes).
    let first = begins (is_fresh (take at bytes)) (drop at bytes) (omega (arith, length-drop at bytes)) in
    means_piece bytes at room first.0.len before first.0.spells first.1
    (λ left behind. means fuel bytes (at + first.0.len) left behind (omega (arith, first.1.within, length-drop at bytes)) (omega (arith, first.1.some)))
    (reason_at before (drop at bytes) first.0.spells) refl)
    (λ (done : length bytes ≤ at).
    let e : length bytes ≡ at = omega arith in
    subst (λ a. Means bytes at before room a) (sym (at_last bytes at room before e)) (means_end bytes at room before e))
    (cases_lt at (length bytes))

-- ---- the whole text

pub tokens_of_means : (bytes : List ℕ) → Means bytes 0 None limits.MOST_TOKENS (tokens_of bytes)
unfolding tokens_of
tokens_of_means bytes = means (length bytes) bytes 0 limits.MOST_TOKENS None (omega arith) (omega arith)

pub tokens_of_list : (bytes : List ℕ) (tokens : List Token) → IsTokenList bytes 0 None tokens → length tokens ≤ limits.MOST_TOKENS → tokens_of bytes ≡ Ok tokens
unfolding tokens_of
tokens_of_list bytes tokens list short = list_is_read bytes limits.MOST_TOKENS list (omega (arith, begun_alone tokens))

pub tokens_of_bad : (bytes : List ℕ) (place : Place) (reason : TokenReason) (count : ℕ) → IsBadPlace bytes place reason 0 None count → count ≤ limits.MOST_TOKENS → tokens_of bytes ≡ Err (BadAt place reason)
unfolding tokens_of
tokens_of_bad bytes place reason count bad early = bad_is_read bytes limits.MOST_TOKENS bad early

pub tokens_of_limit : (bytes : List ℕ) → IsPastTokens bytes 0 None limits.MOST_TOKENS → tokens_of bytes ≡ Err PastTokens
unfolding tokens_of
tokens_of_limit bytes more = limit_is_read bytes more

-- what the answer for a whole text means
abbrev pub MeansWhole : List ℕ → Answer → Type 0
MeansWhole bytes (Ok tokens) = IsTokenList bytes 0 None tokens × (length tokens ≤ limits.MOST_TOKENS)
MeansWhole bytes (Err (BadAt place reason)) = (count : ℕ) × IsBadPlace bytes place reason 0 None count × (count ≤ limits.MOST_TOKENS)
MeansWhole bytes (Err PastTokens) = IsPastTokens bytes 0 None limits.MOST_TOKENS

whole : (bytes : List ℕ) (answer : Answer) → Means bytes 0 None limits.MOST_TOKENS answer → MeansWhole bytes answer
whole bytes (Ok tokens) m = (m.0, omega (arith, m.1, begun_alone tokens))
whole bytes (Err (BadAt place reason)) m = m
whole bytes (Err PastTokens) m = m

pub means_at : (bytes : List ℕ) (answer : Answer) → tokens_of bytes ≡ answer → MeansWhole bytes answer
means_at bytes answer e = whole bytes answer (subst (λ a. Means bytes 0 None limits.MOST_TOKENS a) e (tokens_of_means bytes))

-- ---- one list, one bad place

pub one_list : (bytes : List ℕ) (one two : List Token) → IsTokenList bytes 0 None one → IsTokenList bytes 0 None two → one ≡ two
one_list bytes one two first second =
    let room : ℕ = length one + length two in
    let e = sym (list_is_read bytes room first (omega (arith, begun_alone one))) ∙ list_is_read bytes room second (omega (arith, begun_alone two)) in
    cc

pub one_bad_place : (bytes : List ℕ) (place other : Place) (reason why : TokenReason) (count number : ℕ) → IsBadPlace bytes place reason 0 None count → IsBadPlace bytes other why 0 None number → (place ≡ other) × (reason ≡ why)
one_bad_place bytes place other reason why count number first second =
    let room : ℕ = count + number in
    let e = sym (bad_is_read bytes room first (omega arith)) ∙ bad_is_read bytes room second (omega arith) in
    (cc, cc)

pub not_both : (bytes : List ℕ) (tokens : List Token) (place : Place) (reason : TokenReason) (count : ℕ) → IsTokenList bytes 0 None tokens → IsBadPlace bytes place reason 0 None count → ⊥
not_both bytes tokens place reason count list bad =
    let room : ℕ = length tokens + count in
    let e = sym (list_is_read bytes room list (omega (arith, begun_alone tokens))) ∙ bad_is_read bytes room bad (omega arith) in
    cc

-- ---- each token lies within the text

all_cons : (P : Token → Type 0) (t : Token) (tokens : List Token) → P t → All P tokens → All P (t ∷ tokens)
all_cons P t tokens here rest zero d h = here
all_cons P t tokens here rest (suc k) d h = rest k d (omega arith)

-- a token lies between a byte and the end of the text
abbrev pub LiesFrom : List ℕ → ℕ → Token → Type 0
LiesFrom bytes at token = (at ≤ token.from) × (token.from ≤ token.to) × (token.to ≤ length bytes)

all_none : (P : Token → Type 0) → All P []
all_none P k d h = absurd (omega arith)

all_later : (P : Token → Type 0) (t : Token) (tokens : List Token) → All P (t ∷ tokens) → All P tokens
all_later P t tokens all k d h = all (suc k) d (omega arith)

all_weaker : (P Q : Token → Type 0) (tokens : List Token) → ((t : Token) → P t → Q t) → All P tokens → All Q tokens
all_weaker P Q tokens go all k d h = go _ (all k d h)

joined_lies : (bytes : List ℕ) (at : ℕ) (token : Token) (tokens : List Token) → LiesFrom bytes at token → All (LiesFrom bytes token.to) tokens → All (LiesFrom bytes at) (join_list token tokens)
joined_lies bytes at token [] here all = all_cons (LiesFrom bytes at) token [] here (all_none (LiesFrom bytes at))
joined_lies bytes at token (next ∷ tokens) here all = by (is_text token.kind && is_text next.kind)
  where
    by : (joined : Bool) → All (LiesFrom bytes at) (cond joined (record { kind = token.kind; place = token.place; from = token.from; to = next.to } ∷ tokens) (token ∷ next ∷ tokens))
    by true =
        let first = all 0 next (omega arith) in
        let later = all_weaker (LiesFrom bytes token.to) (LiesFrom bytes at) tokens (λ t h. (omega (arith, h.0, here.0, here.1), h.1, h.2)) (all_later (LiesFrom bytes token.to) next tokens all) in
        all_cons (LiesFrom bytes at) _ tokens (here.0, omega (arith, first.0, first.1, here.1), first.2) later
    by false =
        let later = all_weaker (LiesFrom bytes token.to) (LiesFrom bytes at) (next ∷ tokens) (λ t h. (omega (arith, h.0, here.0, here.1), h.1, h.2)) all in
        all_cons (LiesFrom bytes at) token (next ∷ tokens) here later

lies_from : (bytes : List ℕ) {at : ℕ} {before : Option Width} {tokens : List Token} → IsTokenList bytes at before tokens → All (LiesFrom bytes at) tokens
lies_from bytes (at_end at before e) = all_cons (LiesFrom bytes at) _ [] (omega arith, omega arith, omega arith) (all_none (LiesFrom bytes at))
lies_from bytes (after_blank at len before tokens longest rest) = all_weaker (LiesFrom bytes (at + len)) (LiesFrom bytes at) tokens (λ t h. (omega (arith, h.0), h.1, h.2)) (lies_from bytes rest)
lies_from bytes (after_token at len before kind tokens longest sound rest) =
    joined_lies bytes at (token_at bytes at len kind) tokens (omega arith, omega arith, omega (arith, longest.some, longest.within, length-drop at bytes)) (lies_from bytes rest)

pub lies_within : (bytes : List ℕ) {at : ℕ} {before : Option Width} {tokens : List Token} → IsTokenList bytes at before tokens → All (λ token. (token.from ≤ token.to) × (token.to ≤ length bytes)) tokens
lies_within bytes {at} {tokens} list = all_weaker (LiesFrom bytes at) (λ token. (token.from ≤ token.to) × (token.to ≤ length bytes)) tokens (λ t h. (h.1, h.2)) (lies_from bytes list)
