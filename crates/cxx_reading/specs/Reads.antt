-- Reading in order: a reader is a function from a state and the tokens ahead to a value, the new state and the tokens
-- behind, or to what stops the unit.
use Rattle.std.specs.Prelude.{ℕ, zero, suc, List, [], ◌∷◌, length, Ok, Err}
use Rattle.cxx_model.specs.declared.fault.FaultText.{FaultText}
use Rattle.cxx_model.specs.declared.place.Place.{Place}
use Rattle.cxx_model.specs.declared.stop.LimitKind.{LimitKind}
use Rattle.cxx_model.specs.declared.token.TokenKind.{TokenKind}
use Rattle.cxx_model.specs.Stops.{Answer, Limited, fault}
use Rattle.cxx_model.specs.Text.Lexemes.{Lexeme, kind_of, place_of, spelling_ahead}

-- What a reader sees: the place of the last token that was taken, and the tokens that are left.
pub record Ahead : Type 0 where
  pub last : Place
  pub tokens : List Lexeme

-- a value, the state after it was read, and what is ahead then
pub record Got (S A : Type 0) : Type 0 where
  pub value : A
  pub state : S
  pub rest : Ahead

abbrev pub Reads : Type 0 → Type 0 → Type 0
Reads S A = S → Ahead → Answer (Got S A)

abbrev pub got : {S A : Type 0} → A → S → Ahead → Answer (Got S A)
got value state rest = Ok (record { value = value; state = state; rest = rest })

abbrev pub then_read : {S A B : Type 0} → Answer (Got S A) → (A → Reads S B) → Answer (Got S B)
then_read (Ok one) go = go one.value one.state one.rest
then_read (Err why) go = Err why

infixl 10 ◌>>=◌
abbrev pub ◌>>=◌ : {S A B : Type 0} → Reads S A → (A → Reads S B) → Reads S B
(read >>= go) state ahead = then_read (read state ahead) go

-- nothing is read
abbrev pub give : {S A : Type 0} → A → Reads S A
give value state ahead = got value state ahead

abbrev pub limited : {S A : Type 0} → LimitKind → Reads S A
limited kind state ahead = Err (Limited kind)

abbrev pub fault_at : {S A : Type 0} → Place → FaultText → Reads S A
fault_at place text state ahead = Err (fault place text)

-- What is asked of the state while tokens are read: an answer and the state after it, with no token taken.
abbrev pub Asks : Type 0 → Type 0 → Type 0
Asks S A = S → Answer (A × S)

abbrev pub answered : {S A : Type 0} → Answer (A × S) → Ahead → Answer (Got S A)
answered (Ok one) ahead = got one.0 one.1 ahead
answered (Err why) ahead = Err why

abbrev pub ask : {S A : Type 0} → Asks S A → Reads S A
ask question state ahead = answered (question state) ahead

-- ---- what is ahead

abbrev pub kind_ahead : Ahead → TokenKind
kind_ahead ahead = kind_of ahead.tokens

abbrev pub place_ahead : Ahead → Place
place_ahead ahead = place_of ahead.tokens

abbrev pub word_ahead : Ahead → List ℕ
word_ahead ahead = spelling_ahead ahead.tokens

-- how many tokens are left
abbrev pub count_ahead : Ahead → ℕ
count_ahead ahead = length ahead.tokens

-- the token ahead is taken; behind the end there is none
abbrev pub behind : Ahead → Ahead
behind ahead = by ahead.tokens
  where
    by : List Lexeme → Ahead
    by [] = ahead
    by (token ∷ tokens) = record { last = token.place; tokens = tokens }

-- what is ahead, with no token taken
abbrev pub looked : {S : Type 0} → Reads S Ahead
looked state ahead = got ahead state ahead

-- the token ahead, taken: its place
abbrev pub taken : {S : Type 0} → Reads S Place
taken state ahead = got (place_ahead ahead) state (behind ahead)

-- ---- readers of tokens alone

abbrev pub beside : {S T A : Type 0} → S → Answer (Got T A) → Answer (Got S A)
beside state (Ok one) = got one.value state one.rest
beside state (Err why) = Err why

-- what is read without a state
abbrev pub tokens : {S A : Type 0} → Reads (Unit {0}) A → Reads S A
tokens read state ahead = beside state (read tt ahead)

-- ---- loops

-- what a turn of a loop leads to
pub data Turn (A B : Type 0) : Type 0 where
  More : A → Turn A B
  Done : B → Turn A B

abbrev pub go_on : {S A B : Type 0} → (A → Reads S B) → Turn A B → Reads S B
go_on again (More so_far) = again so_far
go_on again (Done result) = give result

-- Turns up to the last one, at most so many; what comes after these is read by `over`.
unfoldable pub repeat : {S A B : Type 0} → (A → Reads S (Turn A B)) → (A → Reads S B) → ℕ → A → Reads S B
repeat step over zero so_far = over so_far
repeat step over (suc room) so_far = step so_far >>= go_on (repeat step over room)
