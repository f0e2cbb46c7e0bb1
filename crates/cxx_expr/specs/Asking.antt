-- What is asked of the state, one thing after another, with no token read.
use Rattle.std.specs.Prelude.{Ok, Err}
use Rattle.cxx_model.specs.declared.fault.FaultText.{FaultText}
use Rattle.cxx_model.specs.declared.place.Place.{Place}
use Rattle.cxx_model.specs.Stops.{Answer, Stopped, fault}
use Rattle.cxx_reading.specs.Reads.{Asks}

abbrev pub then_asked : {S A B : Type 0} → Answer (A × S) → (A → Asks S B) → Answer (B × S)
then_asked (Ok one) go = go one.0 one.1
then_asked (Err why) go = Err why

infixl 10 ◌>>=◌
abbrev pub ◌>>=◌ : {S A B : Type 0} → Asks S A → (A → Asks S B) → Asks S B
(question >>= go) state = then_asked (question state) go

-- nothing is asked
abbrev pub give : {S A : Type 0} → A → Asks S A
give value state = Ok (value, state)

abbrev pub stop : {S A : Type 0} → Stopped → Asks S A
stop why state = Err why

abbrev pub fault_at : {S A : Type 0} → Place → FaultText → Asks S A
fault_at place text state = Err (fault place text)
