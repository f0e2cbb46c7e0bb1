-- The token list of a text, or the first place at which no token of the profile begins (2.1, 2.4, 2.13.4).
use Rattle.std.specs.Prelude.{◌≡◌, ◌≤◌, ◌<◌, ℕ, zero, suc, ◌+◌, pred, Bool, true, false, ◌&&◌, ◌||◌, if◌then◌else◌, ◌==◌, List, [], ◌∷◌, length, take, drop, Option, Some, None, Result, Ok, Err}
use Rattle.cxx_model.specs.declared.place.Place.{Place}
use Rattle.cxx_model.specs.declared.token.Token.{Token}
use Rattle.cxx_model.specs.declared.token.TokenKind.{TokenKind}
use Rattle.cxx_model.specs.declared.token.TokenKind.TheVariants.{Text, End}
use Rattle.cxx_model.specs.declared.token.TokenReason.{TokenReason}
use Rattle.cxx_model.specs.declared.token.TokenReason.TheVariants.{StrayByte, MixedStrings, FloatingLiteral, MultiCharacter, UniversalName}
use Rattle.cxx_model.specs.declared.limits.TheConstants as limits
use Rattle.cxx_model.specs.Text.Lexemes.{first_place, after, past}
use Rattle.cxx_model.specs.Text.Spelling.{Spelled, Blank, Good, Ill, is_blank, piece_length, spelling_of}

-- a front of a text, and what it spells
pub record Piece : Type 0 where
  pub len : ℕ
  pub spells : Spelled

-- ---- what the bytes before tell

-- only blanks stand before on the line
abbrev pub fresh_after : ℕ → Bool → Bool
fresh_after b fresh = b == 10 || (fresh && is_blank b)

abbrev pub fresh_past : List ℕ → Bool → Bool
fresh_past [] fresh = fresh
fresh_past (b ∷ text) fresh = fresh_past text (fresh_after b fresh)

-- whether a text stands at the beginning of a line, but for blanks
abbrev pub is_fresh : List ℕ → Bool
is_fresh before = fresh_past before true

-- The longest token is taken: the piece spells something, and no longer front of the text does.
pub record IsLongest (fresh : Bool) (text : List ℕ) (piece : Piece) : Type 0 where
  pub some : 0 < piece.len
  pub within : piece.len ≤ length text
  pub spelled : spelling_of fresh (take piece.len text) ≡ Some piece.spells
  pub longest : (n : ℕ) → piece.len < n → n ≤ length text → spelling_of fresh (take n text) ≡ None

-- why a text has no token list
pub data Unread : Type 0 where
  BadAt : Place → TokenReason → Unread
  PastTokens : Unread

-- ---- strings side by side (2.1, 2.13.4)

-- Adjacent strings of one kind are one token. Narrow and wide are the two kinds.
pub data Width : Type 0 where
  Narrow : Width
  Wide : Width

abbrev pub begins_with_quotes : List ℕ → Bool
begins_with_quotes [] = false
begins_with_quotes (b ∷ text) = b == 34

-- the width of the string that a text begins with
abbrev pub width_of : List ℕ → Option Width
width_of [] = None
width_of (b ∷ text) = if b == 34 then Some Narrow else (if b == 76 && begins_with_quotes text then Some Wide else None)

-- a string stands behind one of the other width
abbrev pub is_mixed : Option Width → Option Width → Bool
is_mixed (Some Narrow) (Some Wide) = true
is_mixed (Some Wide) (Some Narrow) = true
is_mixed before now = false

abbrev pub is_text : TokenKind → Bool
is_text Text = true
is_text _ = false

-- what a later token sees of this one: the width, where it is a string
abbrev pub width_behind : TokenKind → List ℕ → Option Width
width_behind kind text = if is_text kind then width_of text else None

abbrev pub is_some_width : Option Width → Bool
is_some_width (Some width) = true
is_some_width None = false

-- the piece goes on with the string before it
abbrev pub joins : Option Width → TokenKind → Bool
joins before kind = is_text kind && is_some_width before

-- the reasons that come after `MixedStrings` in their order
abbrev pub comes_after_mixed : TokenReason → Bool
comes_after_mixed FloatingLiteral = true
comes_after_mixed MultiCharacter = true
comes_after_mixed UniversalName = true
comes_after_mixed _ = false

abbrev pub reason_by : Bool → Spelled → Option TokenReason
reason_by mixed Blank = None
reason_by mixed (Good kind) = if mixed && is_text kind then Some MixedStrings else None
reason_by mixed (Ill reason) = if mixed && comes_after_mixed reason then Some MixedStrings else Some reason

-- why the piece at the front of a text is no token, behind a string of this width: it is judged alone, and then
-- beside the string
abbrev pub reason_at : Option Width → List ℕ → Spelled → Option TokenReason
reason_at before text spells = reason_by (is_mixed before (width_of text)) spells

-- ---- as a function

abbrev pub or_shorter : ℕ → Option Spelled → Option Piece → Option Piece
or_shorter len (Some spells) shorter = Some (record { len = len; spells = spells })
or_shorter len None shorter = shorter

-- the longest front of at most so many bytes that spells something
unfoldable pub longest_within : Bool → ℕ → List ℕ → Option Piece
longest_within fresh zero text = None
longest_within fresh (suc n) text = or_shorter (suc n) (spelling_of fresh (take (suc n) text)) (longest_within fresh n text)

unfoldable pub front : Bool → List ℕ → Option Piece
front fresh text = longest_within fresh (length text) text

-- one string, from the first quote to the last
abbrev pub join : Token → Token → List Token → List Token
join token next tokens = if is_text token.kind && is_text next.kind then record { kind = token.kind; place = token.place; from = token.from; to = next.to } ∷ tokens else token ∷ next ∷ tokens

-- a token before others, joined with the next where both are strings
abbrev pub join_list : Token → List Token → List Token
join_list token [] = token ∷ []
join_list token (next ∷ tokens) = join token next tokens

abbrev pub put : Token → Result (List Token) Unread → Result (List Token) Unread
put token (Ok tokens) = Ok (join_list token tokens)
put token (Err why) = Err why

-- the end of the unit is its last token
abbrev pub ended : ℕ → ℕ → Place → Result (List Token) Unread
ended zero at place = Err PastTokens
ended (suc room) at place = Ok (record { kind = End; place = place; from = at; to = at } ∷ [])

-- `go skip room before` reads on behind the next byte: it passes so many bytes first, has room for so many tokens, and
-- stands behind a string of that width.
abbrev pub Going : Type 0
Going = ℕ → ℕ → Option Width → Result (List Token) Unread

-- a token takes room unless it goes on with the string before it
abbrev pub good : TokenKind → Option Width → Bool → ℕ → ℕ → Place → ℕ → Going → Result (List Token) Unread
good kind behind true len at place room go = put (record { kind = kind; place = place; from = at; to = at + len }) (go (pred len) room behind)
good kind behind false len at place zero go = Err PastTokens
good kind behind false len at place (suc room) go = put (record { kind = kind; place = place; from = at; to = at + len }) (go (pred len) room behind)

abbrev pub step_by : Option TokenReason → Spelled → ℕ → ℕ → Place → ℕ → Option Width → List ℕ → Going → Result (List Token) Unread
step_by (Some reason) spells len at place room before text go = Err (BadAt place reason)
step_by None Blank len at place room before text go = go (pred len) room before
step_by None (Good kind) len at place room before text go = good kind (width_behind kind text) (joins before kind) len at place room go
step_by None (Ill reason) len at place room before text go = Err (BadAt place reason)

abbrev pub step : Option Piece → ℕ → Place → ℕ → Option Width → List ℕ → Going → Result (List Token) Unread
step None at place room before text go = Err (BadAt place StrayByte)
step (Some piece) at place room before text go = step_by (reason_at before text piece.spells) piece.spells piece.len at place room before text go

-- The tokens from a byte on, after so many bytes that belong to the piece before, with room for so many tokens, behind
-- a string of this width. A token that has no room is past the limit where it begins before any bad place.
unfoldable pub tokens_from : ℕ → ℕ → Option Width → Bool → ℕ → Place → List ℕ → Result (List Token) Unread
tokens_from skip room before fresh at place [] = ended room at place
tokens_from (suc skip) room before fresh at place (b ∷ text) = tokens_from skip room before (fresh_after b fresh) (at + 1) (after b place) text
tokens_from zero room before fresh at place (b ∷ text) =
    step (front fresh (b ∷ text)) at place room before (b ∷ text) (λ skip left behind. tokens_from skip left behind (fresh_after b fresh) (at + 1) (after b place) text)

unfoldable pub tokens_of : List ℕ → Result (List Token) Unread
tokens_of bytes = tokens_from 0 limits.MOST_TOKENS None true 0 first_place bytes

-- ---- strings

-- the characters of the piece that a text begins with, where it is a string, and of those behind it
abbrev length_from : Option Piece → List ℕ → (ℕ → ℕ) → ℕ
length_from None text go = go 0
length_from (Some piece) text go = (if is_string piece.spells then piece_length (take piece.len text) else 0) + go (pred piece.len)
  where
    is_string : Spelled → Bool
    is_string (Good kind) = is_text kind
    is_string _ = false

-- the characters of the strings in a text, after so many bytes that belong to the piece before; a marker line between
-- them is no string
unfoldable pub lengths_from : ℕ → Bool → List ℕ → ℕ
lengths_from skip fresh [] = 0
lengths_from (suc skip) fresh (b ∷ text) = lengths_from skip (fresh_after b fresh) text
lengths_from zero fresh (b ∷ text) = length_from (front fresh (b ∷ text)) (b ∷ text) (λ skip. lengths_from skip (fresh_after b fresh) text)

-- 2.13.4: the number of characters of a string, which may be joined from several
unfoldable pub string_length : List ℕ → ℕ
string_length text = lengths_from 0 false text

-- ---- as a relation, in the words of the standard

-- at this byte the text goes on with this piece, which is the longest that spells something
abbrev pub Stands : List ℕ → ℕ → ℕ → Spelled → Type 0
Stands bytes at len spells = IsLongest (is_fresh (take at bytes)) (drop at bytes) (record { len = len; spells = spells })

abbrev pub place_at : List ℕ → ℕ → Place
place_at bytes at = past (take at bytes) first_place

-- From the byte `at` on, behind a string of a width, the text is white space and tokens in turn, each the longest where
-- it begins, and these are the tokens: adjacent strings of one kind are one, and the end is the last.
pub data IsTokenList (bytes : List ℕ) : ℕ → Option Width → List Token → Type 0 where
  at_end : (at : ℕ) (before : Option Width) → length bytes ≡ at → IsTokenList bytes at before (record { kind = End; place = past bytes first_place; from = at; to = at } ∷ [])
  after_blank : (at len : ℕ) (before : Option Width) (tokens : List Token) → Stands bytes at len Blank → IsTokenList bytes (at + len) before tokens → IsTokenList bytes at before tokens
  after_token : (at len : ℕ) (before : Option Width) (kind : TokenKind) (tokens : List Token) → Stands bytes at len (Good kind) → reason_at before (drop at bytes) (Good kind) ≡ None
      → IsTokenList bytes (at + len) (width_behind kind (drop at bytes)) tokens
      → IsTokenList bytes at before (join_list (record { kind = kind; place = place_at bytes at; from = at; to = at + len }) tokens)

-- how many tokens begin with a piece: none where it goes on with the string before it
abbrev pub tokens_begun : Option Width → TokenKind → ℕ
tokens_begun before kind = if joins before kind then 0 else 1

-- From the byte `at` on the text is white space and so many tokens, up to a byte at which no token begins.
pub data IsBadPlace (bytes : List ℕ) (place : Place) (reason : TokenReason) : ℕ → Option Width → ℕ → Type 0 where
  bad_here : (at len : ℕ) (before : Option Width) (spells : Spelled) → Stands bytes at len spells → reason_at before (drop at bytes) spells ≡ Some reason → place ≡ place_at bytes at → IsBadPlace bytes place reason at before 0
  bad_after_blank : (at len count : ℕ) (before : Option Width) → Stands bytes at len Blank → IsBadPlace bytes place reason (at + len) before count → IsBadPlace bytes place reason at before count
  bad_after_token : (at len count : ℕ) (before : Option Width) (kind : TokenKind) → Stands bytes at len (Good kind) → reason_at before (drop at bytes) (Good kind) ≡ None
      → IsBadPlace bytes place reason (at + len) (width_behind kind (drop at bytes)) count → IsBadPlace bytes place reason at before (tokens_begun before kind + count)

-- From the byte `at` on the text is white space and so many tokens, and one more token begins, the end counted.
pub data IsPastTokens (bytes : List ℕ) : ℕ → Option Width → ℕ → Type 0 where
  past_at_end : (at : ℕ) (before : Option Width) → length bytes ≡ at → IsPastTokens bytes at before 0
  past_at_token : (at len : ℕ) (before : Option Width) (kind : TokenKind) → Stands bytes at len (Good kind) → reason_at before (drop at bytes) (Good kind) ≡ None → joins before kind ≡ false → IsPastTokens bytes at before 0
  past_after_blank : (at len count : ℕ) (before : Option Width) → Stands bytes at len Blank → IsPastTokens bytes (at + len) before count → IsPastTokens bytes at before count
  past_after_token : (at len count : ℕ) (before : Option Width) (kind : TokenKind) → Stands bytes at len (Good kind) → reason_at before (drop at bytes) (Good kind) ≡ None
      → IsPastTokens bytes (at + len) (width_behind kind (drop at bytes)) count → IsPastTokens bytes at before (tokens_begun before kind + count)
