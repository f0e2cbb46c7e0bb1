-- What stops the declarations of a unit stops its reading, and where nothing does, the state is that of the unit.
use Rattle.std.specs.Prelude.{◌≡◌, Result, Ok}
use Rattle.std.proofs.Common.{ap, sym, ◌∙◌, subst}
use Rattle.cxx_model.specs.declared.options.Options.{Options}
use Rattle.cxx_model.specs.declared.stop.Stop.{Stop}
use Rattle.cxx_model.specs.declared.stop.Stop.TheVariants as stop
use Rattle.cxx_model.specs.Stops.{Answer, Stops}
use Rattle.cxx_reading.specs.Reads.{Ahead, Got}
use Rattle.cxx_reading.specs.State.{CxxState}
use Rattle.cxx_reading.specs.Units.{read_as}
use Rattle.cxx_cursor.specs.Asking.{AnyKnown, itself}
use Rattle.cxx_cursor.specs.Reading.{Answers}
use Rattle.cxx_tree.specs.Held.{Held}
use Rattle.cxx_units.specs.Read.{reading_of}

pub stopped : (options : Options) (why : Stop) (reading : Answer (Got CxxState (Unit {0}))) → Stops why reading → Stops why (read_as options reading)
stopped options stop.OutOfMemory reading is = tt
stopped options (stop.Fault f) reading is = ap (read_as options) is
stopped options (stop.Limit k) reading is = ap (read_as options) is

pub ended_whole : (options : Options) (state after : Held) (end : Ahead) (ended : Result (Unit {0}) Stop) (value : Unit {0}) (reading : Answer (Got CxxState (Unit {0}))) → ended ≡ Ok value → after ≡ state → Answers itself AnyKnown state end ended reading → read_as options reading ≡ Ok (reading_of options after)
ended_whole options state after end ended value reading is same given =
    let read : Answers itself AnyKnown state end (Ok value) reading = subst (λ (e : Result (Unit {0}) Stop). Answers itself AnyKnown state end e reading) is given in
    ap (read_as options) read.0 ∙ ap (λ (held : Held). Ok (reading_of options held)) (sym same)
