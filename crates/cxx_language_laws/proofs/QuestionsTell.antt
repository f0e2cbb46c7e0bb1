-- What is asked while it is found what an expression means: what the answers keep of the state, and what stops them.
use Rattle.std.proofs.Common.{◌≡◌, refl}
use Rattle.std.specs.Prelude.{ℕ, Bool, true, false, if◌then◌else◌, Ok, Err}
use Rattle.cxx_model.specs.declared.place.Place.{Place}
use Rattle.cxx_model.specs.Stops.{Answer, Stopped}
use Rattle.cxx_model.specs.Types.Trees.{CxxType}
use Rattle.cxx_reading.specs.Reads.{Ahead, Asks}
use Rattle.cxx_reading.specs.State.{CxxState}
use Rattle.cxx_reading.specs.Trees.{CxxPath, CxxPathPart}
use Rattle.cxx_expr.specs.Asking.{then_asked}
use Rattle.cxx_expr.specs.Calls.{name_alone}
use Rattle.cxx_expr.specs.Questions.{Questions}
use Rattle.cxx_language_laws.proofs.Tells.{IsTold, IsQuiet, ToldBy, tells_answer, tells_refusal, Answers, whole_stands}

-- all but for names and calls
pub record QuestionsTell (kept : CxxState → CxxState → Type 0) (told : CxxState → Ahead → Stopped → Type 0) (q : Questions) : Type 0 where
  pub bound : (place : Place) (target : ℕ) → Answers kept told (q.bound place target)
  pub size : (of : CxxType) → Answers kept told (q.size of)
  -- 8.3.6: the default arguments of a call of a member, by its name alone
  pub alone : (part : CxxPathPart) (function index : ℕ) → Answers kept told (q.fallback (name_alone part) function index)

-- the default arguments of a call by a name (8.3.6)
pub record DefaultsTell (kept : CxxState → CxxState → Type 0) (told : CxxState → Ahead → Stopped → Type 0) (q : Questions) (path : CxxPath) : Type 0 where
  pub fallback : (function index : ℕ) → Answers kept told (q.fallback path function index)

-- ---- one question after another

pub quiet_by : {S A : Type 0} {kept : S → S → Type 0} {told : S → Ahead → Stopped → Type 0} → IsTold kept told → {state : S} {ahead : Ahead} {why : Stopped} → IsQuiet why → ToldBy {A = A} kept told state ahead (Err why)
quiet_by is {state = state} {ahead = ahead} {why = why} quiet = tells_refusal why (is.quiet state ahead why quiet)

pub same_by : {S A : Type 0} {kept : S → S → Type 0} {told : S → Ahead → Stopped → Type 0} → IsTold kept told → (value : A) (state : S) (ahead : Ahead) → ToldBy kept told state ahead (Ok (value, state))
same_by is value state ahead = tells_answer (value, state) (is.keeps.same state)

pub if_by : {S A : Type 0} {kept : S → S → Type 0} {told : S → Ahead → Stopped → Type 0} {state : S} {ahead : Ahead} (b : Bool) {x y : Answer (A × S)} → ToldBy kept told state ahead x → ToldBy kept told state ahead y → ToldBy kept told state ahead (if b then x else y)
if_by true x y = x
if_by false x y = y

-- the same where what is asked rests on the test
pub when_by : {S A : Type 0} {kept : S → S → Type 0} {told : S → Ahead → Stopped → Type 0} {state : S} {ahead : Ahead} (b : Bool) {x y : Answer (A × S)} → (b ≡ true → ToldBy kept told state ahead x) → (b ≡ false → ToldBy kept told state ahead y) → ToldBy kept told state ahead (if b then x else y)
when_by true x y = x refl
when_by false x y = y refl

-- the same where it is known what the test says
pub no_by : {S A : Type 0} {kept : S → S → Type 0} {told : S → Ahead → Stopped → Type 0} {state : S} {ahead : Ahead} (b : Bool) (x : Answer (A × S)) {y : Answer (A × S)} → b ≡ false → ToldBy kept told state ahead y → ToldBy kept told state ahead (if b then x else y)
no_by true x e y = absurd cc
no_by false x e y = y

pub from_by : {S A : Type 0} {kept : S → S → Type 0} {told : S → Ahead → Stopped → Type 0} → IsTold kept told → (s t : S) (ahead : Ahead) → kept s t → {r : Answer (A × S)} → ToldBy kept told t ahead r → ToldBy kept told s ahead r
from_by is s t ahead first (tells_answer one second) = tells_answer one (is.keeps.later s t one.1 first second)
from_by is s t ahead first (tells_refusal why true_of) = tells_refusal why (is.sooner s t ahead ahead why first (whole_stands ahead.tokens) true_of)

pub then_by_from : {S A B : Type 0} {kept : S → S → Type 0} {told : S → Ahead → Stopped → Type 0} {state : S} {ahead : Ahead} {r : Answer (A × S)} (go : A → Asks S B) → ToldBy kept told state ahead r
    → ((one : A × S) → r ≡ Ok one → kept state one.1 → ToldBy kept told state ahead (go one.0 one.1)) → ToldBy kept told state ahead (then_asked r go)
then_by_from go (tells_answer one first) second = second one refl first
then_by_from go (tells_refusal why true_of) second = tells_refusal why true_of

pub then_by : {S A B : Type 0} {kept : S → S → Type 0} {told : S → Ahead → Stopped → Type 0} → IsTold kept told → {state : S} {ahead : Ahead} {r : Answer (A × S)} {go : A → Asks S B} → ToldBy kept told state ahead r → ((x : A) → Answers kept told (go x)) → ToldBy kept told state ahead (then_asked r go)
then_by is {state = state} {ahead = ahead} {go = go} first second = then_by_from go first (λ one is_answered keeps. from_by is state one.1 ahead keeps (second one.0 one.1 ahead))

pub give_by : {S A : Type 0} {kept : S → S → Type 0} {told : S → Ahead → Stopped → Type 0} → IsTold kept told → (value : A) (state : S) (ahead : Ahead) → ToldBy kept told state ahead (Ok (value, state))
give_by is value state ahead = same_by is value state ahead
