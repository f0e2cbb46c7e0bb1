-- What follows a definition over the state is what a reader asks for.
use Rattle.std.specs.Prelude.{Result, Ok, Err}
use Rattle.cxx_model.specs.declared.stop.Stop.{Stop}
use Rattle.cxx_model.specs.Stops.{Answer}
use Rattle.cxx_reading.specs.State.{CxxState}
use Rattle.cxx_cursor.specs.Asking.{IsAsked}
use Rattle.cxx_tree.specs.Answered.{IsAnswered}
use Rattle.cxx_tree.specs.Held.{Held}

pub asked : {X A : Type 0} (view : Held → X → A) (known : Held → X → Type 0) (old new : Held) (result : Result X Stop) (reply : Answer (A × CxxState)) → IsAnswered view known old new result reply → IsAsked view known old new result reply
asked view known old new (Ok x) reply answered = record { is = answered.is; later = answered.later }
asked view known old new (Err stop) reply answered = record { is = answered.is; later = answered.later }
