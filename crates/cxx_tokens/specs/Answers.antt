-- What an answer of `tokens` says of the token list.
use Rattle.std.specs.Prelude.{◌≡◌, ◌≤◌, ◌<◌, ℕ, ◌-◌, Bool, true, false, not, ◌&&◌, List, [], ◌∷◌, ◌++◌, Option, None, Result, Ok, Err, length}
use Rattle.std.specs.Global.{Vec}
use Rattle.cxx_model.specs.declared.place.Place.{Place}
use Rattle.cxx_model.specs.declared.token.Token.{Token}
use Rattle.cxx_model.specs.declared.stop.LimitKind.TheVariants.{Tokens}
use Rattle.cxx_model.specs.declared.limits.TheConstants as limits
use Rattle.cxx_model.specs.Text.Tokens.{Unread, BadAt, PastTokens, put, tokens_from, tokens_of, IsBadPlace, IsPastTokens, Width, is_text, is_some_width}
use Rattle.cxx_tokens.specs.declared.fault.TokenFault.{TokenFault}
use Rattle.cxx_tokens.specs.declared.fault.TokenFault.TheVariants.{Bad, Limit, OutOfMemory}

-- The fault is that of the list; where memory runs out, nothing is said.
abbrev pub IsFault : TokenFault → Result (List Token) Unread → Type 0
IsFault (Bad place reason) list = list ≡ Err (BadAt place reason)
IsFault (Limit kind) list = (kind ≡ Tokens) × (list ≡ Err PastTokens)
IsFault OutOfMemory list = Unit {0}

-- The answer is exactly this list or fault; where memory runs out, nothing is said.
abbrev pub IsAnswer : Result (Vec Token) TokenFault → Result (List Token) Unread → Type 0
IsAnswer (Ok tokens) list = list ≡ Ok tokens.items
IsAnswer (Err fault) list = IsFault fault list

abbrev pub IsTokenizing : List ℕ → Result (Vec Token) TokenFault → Type 0
IsTokenizing bytes result = IsAnswer result (tokens_of bytes)

-- a fault at a place is at the place where the text, behind white space and tokens that are not too many, goes on with no token
abbrev pub IsAtBadPlace : List ℕ → TokenFault → Type 0
IsAtBadPlace bytes (Bad place reason) = (count : ℕ) × IsBadPlace bytes place reason 0 None count × (count ≤ limits.MOST_TOKENS)
IsAtBadPlace bytes (Limit kind) = Unit {0}
IsAtBadPlace bytes OutOfMemory = Unit {0}

-- a limit is that of tokens, and the text has more
abbrev pub IsAtLimit : List ℕ → TokenFault → Type 0
IsAtLimit bytes (Bad place reason) = Unit {0}
IsAtLimit bytes (Limit kind) = (kind ≡ Tokens) × IsPastTokens bytes 0 None limits.MOST_TOKENS
IsAtLimit bytes OutOfMemory = Unit {0}

abbrev pub LiesWithin : List ℕ → Token → Type 0
LiesWithin bytes token = (token.from ≤ token.to) × (token.to ≤ length bytes)

-- ---- in the middle of a text

-- the list, where these tokens are its first
abbrev pub behind : List Token → Result (List Token) Unread → Result (List Token) Unread
behind [] list = list
behind (token ∷ tokens) list = put token (behind tokens list)

-- the list of a text, of which these tokens are read and this rest is to be read
abbrev pub list_at : List Token → Option Width → Bool → ℕ → Place → List ℕ → Result (List Token) Unread
list_at tokens before fresh at place rest = behind tokens (tokens_from 0 (limits.MOST_TOKENS - length tokens) before fresh at place rest)

-- the last token goes on to the end of another
abbrev pub extended : List Token → Token → List Token
extended [] token = []
extended (last ∷ []) token = record { kind = last.kind; place = last.place; from = last.from; to = token.to } ∷ []
extended (first ∷ next ∷ tokens) token = first ∷ extended (next ∷ tokens) token

-- whether the last token is a string, behind one that is or is not
abbrev pub ends_text : Bool → List Token → Bool
ends_text was [] = was
ends_text was (token ∷ tokens) = ends_text (is_text token.kind) tokens

-- no two strings stand side by side
abbrev pub are_apart : Bool → List Token → Bool
are_apart was [] = true
are_apart was (token ∷ tokens) = not (was && is_text token.kind) && are_apart (is_text token.kind) tokens

-- the tokens before a place that stands behind a string of this width
pub record IsSound (before : Option Width) (tokens : List Token) : Type 0 where
  pub apart : are_apart false tokens ≡ true
  pub ends : ends_text false tokens ≡ is_some_width before

-- a token was added, or the last goes on to its end
abbrev pub IsAdded : List Token → Token → Bool → List Token → Type 0
IsAdded old token true new = new ≡ extended old token
IsAdded old token false new = (new ≡ old ++ token ∷ []) × (length old < limits.MOST_TOKENS)

-- why a token was not added to so many
abbrev pub IsRefused : ℕ → TokenFault → Type 0
IsRefused count (Bad place reason) = ⊥
IsRefused count (Limit kind) = (kind ≡ Tokens) × (count ≡ limits.MOST_TOKENS)
IsRefused count OutOfMemory = Unit {0}

abbrev pub IsRefusedUnless : Bool → ℕ → TokenFault → Type 0
IsRefusedUnless true count fault = fault ≡ OutOfMemory
IsRefusedUnless false count fault = IsRefused count fault
