-- What readers keep of the state, and what is true of what stops them: both hold of each reader where they hold of each
-- answer to a question.
use Rattle.std.proofs.Common.{◌≡◌, refl, sym, ap, ◌∙◌}
use Rattle.std.specs.Prelude.{ℕ, zero, suc, ℤ, Bool, true, false, not, List, [], ◌∷◌, ◌++◌, Option, Ok, Err, if◌then◌else◌}
use Rattle.std.proofs.lemmas.List.{append_assoc}
use Rattle.cxx_model.specs.declared.fault.FaultText.{FaultText}
use Rattle.cxx_model.specs.declared.fault.FaultText.TheVariants as says
use Rattle.cxx_model.specs.declared.place.Place.{Place}
use Rattle.cxx_model.specs.declared.punct.TheConstants as punct
use Rattle.cxx_model.specs.declared.tree.Kind.{Kind}
use Rattle.cxx_model.specs.declared.tree.Kind.TheVariants as of_kind
use Rattle.cxx_model.specs.Stops.{Answer, Stopped, Faulty, Limited}
use Rattle.cxx_model.specs.Text.Lexemes.{Lexeme}
use Rattle.cxx_model.specs.Types.Trees.{CxxType}
use Rattle.cxx_reading.specs.Declarators.{ParameterTypes}
use Rattle.cxx_reading.specs.Kinds.{Kinds, Readers}
use Rattle.cxx_reading.specs.Reads.{Ahead, Got, Reads, Asks, Turn, More, Done, ◌>>=◌, ask, then_read, got, give, answered, go_on, repeat, looked, taken, beside, tokens, behind, kind_ahead}
use Rattle.cxx_reading.specs.Shapes.{returned}
use Rattle.cxx_reading.specs.declared.specifier.Naming.{Naming}
use Rattle.cxx_reading.specs.Syntax.{may_qualify}
use Rattle.cxx_reading.specs.Tokens.{begins_name, behind_name, is_name, is_punct, is_unbuilt_part, lacks_first_part, is_whole_name, kind_of_name, name_taken, no_part_there, not_built, part_of, part_then, passed_from, passed_to, path_ahead, path_taken, punct_taken, refused, token_taken}
use Rattle.cxx_reading.specs.Trees.{CxxPath, CxxTree}
use Rattle.cxx_reading.proofs.Keeps.{IsKept}
use Rattle.cxx_language_laws.specs.Told.{EndsIn}

-- ---- what stops a reader

-- what a fault says of the declarations before it
pub data Saying : Type 0 where
  choosing : Saying
  undeclared : List ℕ → Saying
  ambiguous : List ℕ → Saying
  nothing : Saying

abbrev pub saying : FaultText → Saying
saying says.NoViableFunction = choosing
saying says.AmbiguousCall = choosing
saying (says.UndeclaredName word) = undeclared word
saying (says.AmbiguousName word) = ambiguous word
saying _ = nothing

abbrev pub saying_of : Stopped → Saying
saying_of (Faulty fault) = saying fault.text
saying_of (Limited kind) = nothing

-- it says nothing of the declarations before
abbrev pub IsQuiet : Stopped → Type 0
IsQuiet why = saying_of why ≡ nothing

-- ---- tokens

pub whole_stands : (tokens : List Lexeme) → EndsIn tokens tokens
whole_stands tokens = record { first = []; parts = refl }

pub ends_later : (one two three : List Lexeme) → EndsIn one two → EndsIn two three → EndsIn one three
ends_later one two three first second = record {
  first = first.first ++ second.first;
  parts = first.parts ∙ (ap (λ ls. first.first ++ ls) second.parts ∙ sym (append_assoc first.first second.first three));
}

pub behind_stands : (ahead : Ahead) → EndsIn ahead.tokens (behind ahead).tokens
behind_stands ahead = by ahead.last ahead.tokens
  where
    by : (last : Place) (tokens : List Lexeme) → EndsIn tokens (behind (record { last = last; tokens = tokens })).tokens
    by last [] = whole_stands []
    by last (token ∷ tokens) = record { first = token ∷ []; parts = refl }

pub past_stands : (ahead rest : Ahead) → EndsIn ahead.tokens rest.tokens → EndsIn ahead.tokens (behind rest).tokens
past_stands ahead rest stands = ends_later ahead.tokens rest.tokens (behind rest).tokens stands (behind_stands rest)

pub twice_behind : (ahead : Ahead) → EndsIn ahead.tokens (behind (behind ahead)).tokens
twice_behind ahead = ends_later ahead.tokens (behind ahead).tokens (behind (behind ahead)).tokens (behind_stands ahead) (behind_stands (behind ahead))

-- what is ahead behind the parts of a name
passed_stands : (wanted : Bool) (last : Place) (tokens : List Lexeme) → EndsIn tokens (passed_from wanted last tokens).rest.tokens
unfolding passed_from
passed_stands wanted last [] = whole_stands []
passed_stands true last (token ∷ tokens) = by (is_name token.kind) (passed_stands false token.place tokens)
  where
    by : (b : Bool) → EndsIn tokens (passed_from false token.place tokens).rest.tokens → EndsIn (token ∷ tokens) (if b then part_then (part_of token) (passed_from false token.place tokens) else passed_to last (token ∷ tokens) false).rest.tokens
    by true stands = ends_later (token ∷ tokens) tokens (passed_from false token.place tokens).rest.tokens (record { first = token ∷ []; parts = refl }) stands
    by false stands = whole_stands (token ∷ tokens)
passed_stands false last (token ∷ tokens) = by (is_punct punct.SCOPE token.kind) (passed_stands true token.place tokens)
  where
    by : (b : Bool) → EndsIn tokens (passed_from true token.place tokens).rest.tokens → EndsIn (token ∷ tokens) (if b then passed_from true token.place tokens else passed_to last (token ∷ tokens) true).rest.tokens
    by true stands = ends_later (token ∷ tokens) tokens (passed_from true token.place tokens).rest.tokens (record { first = token ∷ []; parts = refl }) stands
    by false stands = whole_stands (token ∷ tokens)

pub name_stands : (ahead : Ahead) → EndsIn ahead.tokens (behind_name ahead).tokens
name_stands ahead = passed_stands (not (is_punct punct.SCOPE (kind_ahead ahead))) ahead.last ahead.tokens

-- ---- the law

-- what is kept of a state holds of it and itself, and from one to a third; what is true of a stop is so from before on
pub record IsTold {S : Type 0} (kept : S → S → Type 0) (told : S → Ahead → Stopped → Type 0) : Type 0 where
  pub keeps : IsKept kept
  pub quiet : (s : S) (ahead : Ahead) (why : Stopped) → IsQuiet why → told s ahead why
  pub sooner : (s t : S) (ahead rest : Ahead) (why : Stopped) → kept s t → EndsIn ahead.tokens rest.tokens → told t rest why → told s ahead why

-- of what was read, and of what stopped it
pub data ToldIn {S A : Type 0} (kept : S → S → Type 0) (told : S → Ahead → Stopped → Type 0) (state : S) (ahead : Ahead) : Answer (Got S A) → Type 0 where
  tells_read : (one : Got S A) → kept state one.state → EndsIn ahead.tokens one.rest.tokens → ToldIn kept told state ahead (Ok one)
  tells_stop : (why : Stopped) → told state ahead why → ToldIn kept told state ahead (Err why)

-- wherever a reader reads something, the state keeps what it had, and what stops it is true
abbrev pub Tells : {S A : Type 0} → (S → S → Type 0) → (S → Ahead → Stopped → Type 0) → Reads S A → Type 0
Tells {S = S} kept told read = (state : S) (ahead : Ahead) → ToldIn kept told state ahead (read state ahead)

pub data ToldBy {S A : Type 0} (kept : S → S → Type 0) (told : S → Ahead → Stopped → Type 0) (state : S) (ahead : Ahead) : Answer (A × S) → Type 0 where
  tells_answer : (one : A × S) → kept state one.1 → ToldBy kept told state ahead (Ok one)
  tells_refusal : (why : Stopped) → told state ahead why → ToldBy kept told state ahead (Err why)

abbrev pub Answers : {S A : Type 0} → (S → S → Type 0) → (S → Ahead → Stopped → Type 0) → Asks S A → Type 0
Answers {S = S} kept told question = (state : S) (ahead : Ahead) → ToldBy kept told state ahead (question state)

-- ---- readers

pub quiet_in : {S A : Type 0} {kept : S → S → Type 0} {told : S → Ahead → Stopped → Type 0} → IsTold kept told → {state : S} {ahead : Ahead} {why : Stopped} → IsQuiet why → ToldIn {A = A} kept told state ahead (Err why)
quiet_in is {state = state} {ahead = ahead} {why = why} quiet = tells_stop why (is.quiet state ahead why quiet)

pub if_in : {S A : Type 0} {kept : S → S → Type 0} {told : S → Ahead → Stopped → Type 0} {state : S} {ahead : Ahead} (b : Bool) {x y : Answer (Got S A)} → ToldIn kept told state ahead x → ToldIn kept told state ahead y → ToldIn kept told state ahead (if b then x else y)
if_in true x y = x
if_in false x y = y

-- the same where what is read rests on the test
pub when_in : {S A : Type 0} {kept : S → S → Type 0} {told : S → Ahead → Stopped → Type 0} {state : S} {ahead : Ahead} (b : Bool) {x y : Answer (Got S A)} → (b ≡ true → ToldIn kept told state ahead x) → ToldIn kept told state ahead y → ToldIn kept told state ahead (if b then x else y)
when_in true x y = x refl
when_in false x y = y

-- the same of readers between which a test chooses
pub if_reads : {S A : Type 0} {kept : S → S → Type 0} {told : S → Ahead → Stopped → Type 0} (b : Bool) {x y : Reads S A} → Tells kept told x → Tells kept told y → Tells kept told (if b then x else y)
if_reads true x y = x
if_reads false x y = y

pub from_in : {S A : Type 0} {kept : S → S → Type 0} {told : S → Ahead → Stopped → Type 0} → IsTold kept told → (s t : S) (ahead rest : Ahead) → kept s t → EndsIn ahead.tokens rest.tokens → {r : Answer (Got S A)} → ToldIn kept told t rest r → ToldIn kept told s ahead r
from_in is s t ahead rest first stands (tells_read one second ends) = tells_read one (is.keeps.later s t one.state first second) (ends_later ahead.tokens rest.tokens one.rest.tokens stands ends)
from_in is s t ahead rest first stands (tells_stop why true_of) = tells_stop why (is.sooner s t ahead rest why first stands true_of)

-- what is read behind the token ahead
pub past_in : {S A : Type 0} {kept : S → S → Type 0} {told : S → Ahead → Stopped → Type 0} → IsTold kept told → {state : S} {ahead : Ahead} {r : Answer (Got S A)} → ToldIn kept told state (behind ahead) r → ToldIn kept told state ahead r
past_in is {state = state} {ahead = ahead} tells = from_in is state state ahead (behind ahead) (is.keeps.same state) (behind_stands ahead) tells

-- what follows is read from what was ahead then
pub then_from : {S A B : Type 0} {kept : S → S → Type 0} {told : S → Ahead → Stopped → Type 0} {state : S} {ahead : Ahead} {r : Answer (Got S A)} (go : A → Reads S B) → ToldIn kept told state ahead r
    → ((one : Got S A) → r ≡ Ok one → kept state one.state → EndsIn ahead.tokens one.rest.tokens → ToldIn kept told state ahead (go one.value one.state one.rest)) → ToldIn kept told state ahead (then_read r go)
then_from go (tells_read one first stands) second = second one refl first stands
then_from go (tells_stop why true_of) second = tells_stop why true_of

pub then_in : {S A B : Type 0} {kept : S → S → Type 0} {told : S → Ahead → Stopped → Type 0} → IsTold kept told → {state : S} {ahead : Ahead} {r : Answer (Got S A)} {go : A → Reads S B} → ToldIn kept told state ahead r → ((x : A) → Tells kept told (go x)) → ToldIn kept told state ahead (then_read r go)
then_in is {state = state} {ahead = ahead} {go = go} first second = then_from go first (λ one is_read keeps stands. from_in is state one.state ahead one.rest keeps stands (second one.value one.state one.rest))

-- a question that is asked when more tokens were taken
pub ask_from : {S A : Type 0} {kept : S → S → Type 0} {told : S → Ahead → Stopped → Type 0} {state : S} {ahead : Ahead} {r : Answer (A × S)} (rest : Ahead) → EndsIn ahead.tokens rest.tokens → ToldBy kept told state ahead r → ToldIn kept told state ahead (answered r rest)
ask_from rest stands (tells_answer one keeps) = tells_read (record { value = one.0; state = one.1; rest = rest }) keeps stands
ask_from rest stands (tells_refusal why true_of) = tells_stop why true_of

pub ask_in : {S A : Type 0} {kept : S → S → Type 0} {told : S → Ahead → Stopped → Type 0} {state : S} {r : Answer (A × S)} (ahead : Ahead) → ToldBy kept told state ahead r → ToldIn kept told state ahead (answered r ahead)
ask_in ahead tells = ask_from ahead (whole_stands ahead.tokens) tells

pub same_in : {S A : Type 0} {kept : S → S → Type 0} {told : S → Ahead → Stopped → Type 0} → IsTold kept told → (value : A) (state : S) (ahead : Ahead) → ToldIn kept told state ahead (got value state ahead)
same_in is value state ahead = tells_read (record { value = value; state = state; rest = ahead }) (is.keeps.same state) (whole_stands ahead.tokens)

-- the same with the token ahead taken
pub next_in : {S A : Type 0} {kept : S → S → Type 0} {told : S → Ahead → Stopped → Type 0} → IsTold kept told → (value : A) (state : S) (ahead : Ahead) → ToldIn kept told state ahead (got value state (behind ahead))
next_in is value state ahead = tells_read (record { value = value; state = state; rest = behind ahead }) (is.keeps.same state) (behind_stands ahead)

pub go_on_tells : {S A B : Type 0} {kept : S → S → Type 0} {told : S → Ahead → Stopped → Type 0} → IsTold kept told → (again : A → Reads S B) → ((so_far : A) → Tells kept told (again so_far)) → (turn : Turn A B) → Tells kept told (go_on again turn)
go_on_tells is again tells (More so_far) state ahead = tells so_far state ahead
go_on_tells is again tells (Done result) state ahead = same_in is result state ahead

pub repeat_tells : {S A B : Type 0} {kept : S → S → Type 0} {told : S → Ahead → Stopped → Type 0} → IsTold kept told → (step : A → Reads S (Turn A B)) (over : A → Reads S B)
    → ((so_far : A) → Tells kept told (step so_far)) → ((so_far : A) → Tells kept told (over so_far)) → (n : ℕ) (so_far : A) → Tells kept told (repeat step over n so_far)
unfolding repeat
repeat_tells is step over steps overs zero so_far state ahead = overs so_far state ahead
repeat_tells is step over steps overs (suc n) so_far state ahead = then_in is (steps so_far state ahead) (go_on_tells is (repeat step over n) (repeat_tells is step over steps overs n))

-- the same where something holds of what was read so far, in the state and with the tokens that are reached
abbrev pub Steps : {S A B : Type 0} → (A → S → Ahead → Type 0) → (A → Reads S (Turn A B)) → Type 0
Steps {S = S} {A = A} P step = (so_far next : A) (state at : S) (ahead rest : Ahead) → P so_far state ahead → step so_far state ahead ≡ got (More next) at rest → P next at rest

pub repeat_holds : {S A B : Type 0} {kept : S → S → Type 0} {told : S → Ahead → Stopped → Type 0} → IsTold kept told → (P : A → S → Ahead → Type 0) (step : A → Reads S (Turn A B)) (over : A → Reads S B)
    → ((so_far : A) (state : S) (ahead : Ahead) → P so_far state ahead → ToldIn kept told state ahead (step so_far state ahead)) → Steps P step → ((so_far : A) → Tells kept told (over so_far)) → (n : ℕ) (so_far : A) (state : S) (ahead : Ahead) → P so_far state ahead → ToldIn kept told state ahead (repeat step over n so_far state ahead)
unfolding repeat
repeat_holds is P step over steps goes overs zero so_far state ahead holds = overs so_far state ahead
repeat_holds {S = S} {A = A} {B = B} {kept = kept} {told = told} is P step over steps goes overs (suc n) so_far state ahead holds =
    then_from (go_on (repeat step over n)) (steps so_far state ahead holds) (λ one is_read keeps stands. from_in is state one.state ahead one.rest keeps stands (by one.value one.state one.rest (λ next t rest so. repeat_holds is P step over steps goes overs n next t rest so) is_read))
  where
    by : (turn : Turn A B) (t : S) (rest : Ahead) → ((next : A) (t : S) (rest : Ahead) → P next t rest → ToldIn kept told t rest (repeat step over n next t rest)) → step so_far state ahead ≡ got turn t rest → ToldIn kept told t rest (go_on (repeat step over n) turn t rest)
    by (More next) t rest again is_read = again next t rest (goes so_far next state t ahead rest holds is_read)
    by (Done result) t rest again is_read = same_in is result t rest

-- ---- readers that say nothing of declarations

abbrev pub Quietly : {S : Type 0} → S → Ahead → Stopped → Type 0
Quietly s ahead why = IsQuiet why

pub quiet_is_told : {S : Type 0} {kept : S → S → Type 0} → IsKept kept → IsTold kept (Quietly {S = S})
quiet_is_told keeps = record {
  keeps = keeps;
  quiet = λ s ahead why quiet. quiet;
  sooner = λ s t ahead rest why first stands quiet. quiet;
}

abbrev pub Always : Unit {0} → Unit {0} → Type 0
Always s t = Unit {0}

-- so do readers of tokens alone
pub unit_is_told : IsTold Always Quietly
unit_is_told = quiet_is_told (record { same = λ s. tt; later = λ s t u one two. tt })

pub tokens_in : {S A : Type 0} {kept : S → S → Type 0} {told : S → Ahead → Stopped → Type 0} → IsTold kept told → {read : Reads (Unit {0}) A} → Tells Always Quietly read → (state : S) (ahead : Ahead) → ToldIn kept told state ahead (tokens read state ahead)
tokens_in {S = S} {A = A} {kept = kept} {told = told} is {read = read} tells state ahead = by (tells tt ahead)
  where
    by : {r : Answer (Got (Unit {0}) A)} → ToldIn Always Quietly tt ahead r → ToldIn kept told state ahead (beside state r)
    by (tells_read one keeps stands) = tells_read (record { value = one.value; state = state; rest = one.rest }) (is.keeps.same state) stands
    by (tells_stop why quiet) = tells_stop why (is.quiet state ahead why quiet)

-- ---- what is asked

pub record KindsTell {S : Type 0} (kept : S → S → Type 0) (told : S → Ahead → Stopped → Type 0) (asks : Kinds S) : Type 0 where
  pub kind : (path : CxxPath) → Answers kept told (asks.kind path)
  pub type_named : (path : CxxPath) → Answers kept told (asks.type_named path)
  -- 3.4.4: of a name that is ahead
  pub elaborated : (state : S) (ahead : Ahead) → begins_name ahead ≡ true → is_whole_name ahead ≡ true → ToldBy kept told state ahead (asks.elaborated (path_ahead ahead) state)
  -- 3.3.1, 3.4.4: of a name behind `class`, `struct` or `union`
  pub class_named : (is_union is_all : Bool) (state : S) (ahead : Ahead) → begins_name ahead ≡ true → is_whole_name ahead ≡ true → ToldBy kept told state ahead (asks.class_named is_union is_all (path_ahead ahead) state)
  pub enumeration : (name : Option Lexeme) (place : Place) → Answers kept told (asks.enumeration name place)
  pub enumerator : (number : ℕ) (name : Lexeme) (value : Option ℤ) → Answers kept told (asks.enumerator number name value)
  pub enumerated : (number : ℕ) → Answers kept told (asks.enumerated number)
  pub constant : (tree : CxxTree) → Answers kept told (asks.constant tree)
  pub parameter : (name : Option Lexeme) (place : Place) (of : CxxType) → Answers kept told (asks.parameter name place of)
  -- 3.3.2: of a list of parameters in a scope of its own
  pub listed : (list : ℕ → Reads S ParameterTypes) → ((scope : ℕ) → Tells kept told (list scope)) → Tells kept told (ask asks.enter_parameters >>= λ scope. list scope >>= λ read. ask asks.leave_parameters >>= λ left. give read)

-- what the tests of shapes ask: the kinds of names, and whether a bracket holds parameters
pub record NamesTell {S : Type 0} (kept : S → S → Type 0) (told : S → Ahead → Stopped → Type 0) (asks : Kinds S) : Type 0 where
  pub kind : (path : CxxPath) → Answers kept told (asks.kind path)

pub record ListsTell {S : Type 0} (kept : S → S → Type 0) (told : S → Ahead → Stopped → Type 0) (inner : Readers S) : Type 0 where
  pub holds_parameters : Tells kept told inner.holds_parameters

-- where no name of a declarator has qualifiers
pub record ReadersTell {S : Type 0} (kept : S → S → Type 0) (told : S → Ahead → Stopped → Type 0) (inner : Readers S) : Type 0 where
  pub pointed : (naming : Naming) → may_qualify naming ≡ false → Tells kept told (inner.pointed naming)
  pub referred : (naming : Naming) → may_qualify naming ≡ false → Tells kept told (inner.referred naming)
  pub grouped : (naming : Naming) → may_qualify naming ≡ false → Tells kept told (inner.grouped naming)
  pub bound : (is_first : Bool) → Tells kept told (inner.bound is_first)
  pub parameters : Tells kept told inner.parameters
  pub enumerators : (number : ℕ) → Tells kept told (inner.enumerators number)
  pub holds_parameters : Tells kept told inner.holds_parameters

pub names_tell : {S : Type 0} {kept : S → S → Type 0} {told : S → Ahead → Stopped → Type 0} {asks : Kinds S} → KindsTell kept told asks → NamesTell kept told asks
names_tell asks = record { kind = asks.kind }

pub lists_tell : {S : Type 0} {kept : S → S → Type 0} {told : S → Ahead → Stopped → Type 0} {inner : Readers S} → ReadersTell kept told inner → ListsTell kept told inner
lists_tell inner = record { holds_parameters = inner.holds_parameters }

-- ---- single tokens

pub taken_in : {S : Type 0} {kept : S → S → Type 0} {told : S → Ahead → Stopped → Type 0} → IsTold kept told → (state : S) (ahead : Ahead) → ToldIn kept told state ahead (taken state ahead)
taken_in is state ahead = next_in is _ state ahead

pub looked_in : {S : Type 0} {kept : S → S → Type 0} {told : S → Ahead → Stopped → Type 0} → IsTold kept told → (state : S) (ahead : Ahead) → ToldIn kept told state ahead (looked state ahead)
looked_in is state ahead = same_in is _ state ahead

pub token_told : {S : Type 0} {kept : S → S → Type 0} {told : S → Ahead → Stopped → Type 0} → IsTold kept told → (state : S) (ahead : Ahead) → ToldIn kept told state ahead (token_taken state ahead)
token_told is state ahead = next_in is _ state ahead

pub punct_in : {S : Type 0} {kept : S → S → Type 0} {told : S → Ahead → Stopped → Type 0} → IsTold kept told → (n : ℕ) (state : S) (ahead : Ahead) → ToldIn kept told state ahead (punct_taken n state ahead)
unfolding punct_taken
punct_in is n state ahead = if_in (is_punct n (kind_ahead ahead)) (next_in is tt state ahead) (quiet_in is refl)

pub give_in : {S A : Type 0} {kept : S → S → Type 0} {told : S → Ahead → Stopped → Type 0} → IsTold kept told → (value : A) (state : S) (ahead : Ahead) → ToldIn kept told state ahead (give value state ahead)
give_in is value state ahead = same_in is value state ahead

-- ---- names

pub name_told : {S : Type 0} {kept : S → S → Type 0} {told : S → Ahead → Stopped → Type 0} → IsTold kept told → (state : S) (ahead : Ahead) → ToldIn kept told state ahead (name_taken state ahead)
name_told is state ahead = tells_read (record { value = tt; state = state; rest = behind_name ahead }) (is.keeps.same state) (name_stands ahead)

pub kind_tells : {S : Type 0} {kept : S → S → Type 0} {told : S → Ahead → Stopped → Type 0} → IsTold kept told → (kind : CxxPath → Asks S Kind) → ((path : CxxPath) → Answers kept told (kind path)) → Tells kept told (kind_of_name kind)
unfolding kind_of_name
kind_tells is kind tells state ahead = if_in (is_whole_name ahead) (ask_in ahead (tells (path_ahead ahead) state ahead)) (same_in is of_kind.Value state ahead)

pub path_told : {S : Type 0} {kept : S → S → Type 0} {told : S → Ahead → Stopped → Type 0} → IsTold kept told → (state : S) (ahead : Ahead) → ToldIn kept told state ahead (path_taken state ahead)
unfolding path_taken no_part_there
path_told is state ahead = if_in (is_whole_name ahead) (tells_read (record { value = path_ahead ahead; state = state; rest = behind_name ahead }) (is.keeps.same state) (name_stands ahead)) (if_in (is_unbuilt_part (lacks_first_part ahead) (kind_ahead (behind_name ahead))) (quiet_in is refl) (quiet_in is refl))

-- what follows a name that is whole
pub path_then : {S B : Type 0} {kept : S → S → Type 0} {told : S → Ahead → Stopped → Type 0} → IsTold kept told → (go : CxxPath → Reads S B) (state : S) (ahead : Ahead) → (is_whole_name ahead ≡ true → ToldIn kept told state ahead (go (path_ahead ahead) state (behind_name ahead))) → ToldIn kept told state ahead (then_read (path_taken state ahead) go)
unfolding path_taken no_part_there
path_then {S = S} {B = B} {kept = kept} {told = told} is go state ahead tells = by (is_whole_name ahead) tells
  where
    none : (b : Bool) → ToldIn kept told state ahead (then_read (if b then not_built state (behind_name ahead) else refused state (behind_name ahead)) go)
    none true = quiet_in is refl
    none false = quiet_in is refl

    by : (b : Bool) → (b ≡ true → ToldIn kept told state ahead (go (path_ahead ahead) state (behind_name ahead))) → ToldIn kept told state ahead (then_read (if b then got (path_ahead ahead) state (behind_name ahead) else no_part_there (lacks_first_part ahead) state (behind_name ahead)) go)
    by true tells = tells refl
    by false tells = none (is_unbuilt_part (lacks_first_part ahead) (kind_ahead (behind_name ahead)))

-- the same of what is told from before on
pub path_from : {S B : Type 0} {kept : S → S → Type 0} {told : S → Ahead → Stopped → Type 0} → IsTold kept told → (go : CxxPath → Reads S B) (state : S) (from ahead : Ahead) → EndsIn from.tokens ahead.tokens → (is_whole_name ahead ≡ true → ToldIn kept told state from (go (path_ahead ahead) state (behind_name ahead))) → ToldIn kept told state from (then_read (path_taken state ahead) go)
unfolding path_taken no_part_there
path_from {S = S} {B = B} {kept = kept} {told = told} is go state from ahead stands tells = by (is_whole_name ahead) tells
  where
    none : (b : Bool) → ToldIn kept told state from (then_read (if b then not_built state (behind_name ahead) else refused state (behind_name ahead)) go)
    none true = quiet_in is refl
    none false = quiet_in is refl

    by : (b : Bool) → (b ≡ true → ToldIn kept told state from (go (path_ahead ahead) state (behind_name ahead))) → ToldIn kept told state from (then_read (if b then got (path_ahead ahead) state (behind_name ahead) else no_part_there (lacks_first_part ahead) state (behind_name ahead)) go)
    by true tells = tells refl
    by false tells = none (is_unbuilt_part (lacks_first_part ahead) (kind_ahead (behind_name ahead)))

-- what is read is not taken
pub returned_in : {S A : Type 0} {kept : S → S → Type 0} {told : S → Ahead → Stopped → Type 0} {state : S} {r : Answer (Got S A)} (ahead : Ahead) → ToldIn kept told state ahead r → ToldIn kept told state ahead (returned ahead r)
returned_in ahead (tells_read one keeps stands) = tells_read (record { value = one.value; state = one.state; rest = ahead }) keeps (whole_stands ahead.tokens)
returned_in ahead (tells_stop why true_of) = tells_stop why true_of
