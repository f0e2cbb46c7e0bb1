-- What is read of a whole unit.
use Rattle.cxx_model.specs.declared.options.Options.{Options}
use Rattle.cxx_reading.specs.Reads as reads
use Rattle.cxx_reading.specs.Units.{CxxReading}
use Rattle.cxx_cursor.specs.declared.turn.Turn.{Turn}
use Rattle.cxx_cursor.specs.Views.{turn_at}
use Rattle.cxx_tree.specs.Held.{Held, meaning}

abbrev pub reading_of : Options → Held → CxxReading
reading_of options held = record { options = options; state = meaning held }

abbrev pub nothing_turn : Held → Turn (Unit {0}) (Unit {0}) → reads.Turn (Unit {0}) (Unit {0})
nothing_turn held = turn_at (λ x. x) (λ x. x)
