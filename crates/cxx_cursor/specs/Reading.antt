-- What the readers of the code answer, in the terms of the definitions.
use Rattle.std.specs.Prelude.{◌≡◌, Result, Ok, Err}
use Rattle.cxx_model.specs.declared.stop.Stop.{Stop}
use Rattle.cxx_model.specs.Stops.{Answer, Stops}
use Rattle.cxx_reading.specs.Reads.{Ahead, Got, got}
use Rattle.cxx_reading.specs.State.{CxxState}
use Rattle.cxx_tree.specs.Held.{Held, meaning}
use Rattle.cxx_tree.specs.Later.{Later}

-- Tokens were read: what was answered, seen by `view`, is what the reading gives.
abbrev pub Takes : {X A : Type 0} → (X → A) → Ahead → Result X Stop → Answer (Got (Unit {0}) A) → Type 0
Takes view end (Ok x) reading = reading ≡ got (view x) tt end
Takes view end (Err stop) reading = Stops stop reading

-- the same with a state; what was answered is known to it
abbrev pub Answers : {X A : Type 0} → (Held → X → A) → (Held → X → Type 0) → Held → Ahead → Result X Stop → Answer (Got CxxState A) → Type 0
Answers view known new end (Ok x) reading = (reading ≡ got (view new x) (meaning new) end) × known new x
Answers view known new end (Err stop) reading = Stops stop reading

pub record IsRead {X A : Type 0} (view : Held → X → A) (known : Held → X → Type 0) (old new : Held) (end : Ahead) (result : Result X Stop) (reading : Answer (Got CxxState A)) : Type 0 where
  pub is : Answers view known new end result reading
  pub later : Later old new
