-- What a reader answers: a value, or why the unit is read no further. And what the code's answer means.
use Rattle.std.specs.Prelude.{ℕ, ◌≡◌, List, [], Result, Ok, Err}
use Rattle.cxx_model.specs.declared.fault.FaultText.{FaultText}
use Rattle.cxx_model.specs.declared.fault.FaultText.TheVariants as says
use Rattle.cxx_model.specs.declared.place.Place.{Place}
use Rattle.cxx_model.specs.declared.stop.Fault.{Fault}
use Rattle.cxx_model.specs.declared.stop.LimitKind.{LimitKind}
use Rattle.cxx_model.specs.declared.stop.Stop.{Stop}
use Rattle.cxx_model.specs.declared.stop.Stop.TheVariants as stop

-- the first fault of a unit, or the quantity that it passes
pub data Stopped : Type 0 where
  Faulty : Fault → Stopped
  Limited : LimitKind → Stopped

abbrev pub Answer : Type 0 → Type 0
Answer A = Result A Stopped

infixl 10 ◌>>=◌
abbrev pub ◌>>=◌ : {A B : Type 0} → Answer A → (A → Answer B) → Answer B
(Ok x) >>= f = f x
(Err e) >>= f = Err e

-- ---- faults that rest on nothing but their place

abbrev pub fault : Place → FaultText → Stopped
fault place text = Faulty (record { place = place; text = text; evidence = [] })

-- a form that the profile does not read yet
abbrev pub not_built_at : Place → Stopped
not_built_at place = fault place says.NotBuilt

abbrev pub undeclared_at : Place → List ℕ → Stopped
undeclared_at place word = fault place (says.UndeclaredName word)

-- ---- meaning of what the code answers

-- Unless memory ran out, the stop is what the reading answers.
abbrev pub Stops : {A : Type 0} → Stop → Answer A → Type 0
Stops stop.OutOfMemory reading = Unit {0}
Stops (stop.Fault f) reading = reading ≡ Err (Faulty f.value)
Stops (stop.Limit k) reading = reading ≡ Err (Limited k)

-- What was answered, seen by `view`, is what the reading gives.
abbrev pub Gives : {X A : Type 0} → (X → A) → Result X Stop → Answer A → Type 0
Gives view (Ok x) reading = reading ≡ Ok (view x)
Gives view (Err e) reading = Stops e reading
