-- The calls of a reading that are listed, in the order of its plain form.
--
-- Those of an object stand where its line stands, and those of a body where its lines stand; the arguments of a call
-- stand before it. What the plain form does not write is not listed: what a size measures (5.3.3), bounds of arrays and
-- values of enumerators.
use Rattle.std.specs.Prelude.{List, [], ◌∷◌}
use Rattle.std.specs.List.{slice_get}
use Rattle.cxx_form.specs.Text.{printed_calls}
use Rattle.cxx_meaning.specs.Lookups.Gathered.{before}
use Rattle.cxx_phrase_text.specs.Calls.{CallOfText}
use Rattle.cxx_reading.specs.State.{CxxCall, CxxState}

-- what the reading keeps of calls, where their numbers are those of such records
abbrev pub records_of : List CxxCall → List CallOfText → List CxxCall
records_of calls [] = []
records_of calls (one ∷ others) = before (slice_get calls one.number) (records_of calls others)

-- The listed calls. A call that is printed more than once, in a default argument that is used more than once, is listed
-- as often.
unfoldable pub listed : CxxState → List CxxCall
listed state = records_of state.calls (printed_calls state)
