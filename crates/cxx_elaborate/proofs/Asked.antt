-- What the readers ask is what the state answers.
use Rattle.std.specs.Prelude.{Result, Ok, Err}
use Rattle.cxx_model.specs.declared.stop.Stop.{Stop}
use Rattle.cxx_model.specs.declared.types.TreeId.{TreeId}
use Rattle.cxx_model.specs.Stops.{Answer}
use Rattle.cxx_reading.specs.State.{CxxState}
use Rattle.cxx_reading.specs.Trees.{CxxTree}
use Rattle.cxx_expr.specs.Making.{IsTreeKnown}
use Rattle.cxx_cursor.specs.Asking.{IsAsked, IsTreeKnown as IsKnown}
use Rattle.cxx_tree.specs.Answered.{IsAnswered}
use Rattle.cxx_tree.specs.Held.{Held, tree}

pub asked : (old new : Held) (result : Result TreeId Stop) (reply : Answer (CxxTree × CxxState)) → IsAnswered tree IsTreeKnown old new result reply → IsAsked tree IsKnown old new result reply
asked old new (Ok number) reply answered = record { is = answered.is; later = answered.later }
asked old new (Err why) reply answered = record { is = answered.is; later = answered.later }
