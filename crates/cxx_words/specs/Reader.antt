-- Words, read one after another.
use Rattle.std.specs.Prelude.{ℕ, List, Option, Some, None, option_and_then}
use Rattle.cxx_words.specs.declared.reader.Chosen.{Chosen}
use Rattle.cxx_words.specs.declared.reader.Reader.{Reader}
use Rattle.cxx_words.specs.declared.reader.Setting.{Setting}
use Rattle.cxx_words.specs.Words.{Opening, names, gives, neither, opening_of, pieces, note, chosen_by, nothing_chosen}

abbrev pub at_start : Reader
at_start = record { waiting = None; chosen = nothing_chosen }

-- a piece ends
abbrev pub ended : Option Chosen → Option Reader
ended None = None
ended (Some chosen) = Some (record { waiting = None; chosen = chosen })

abbrev pub opens : Chosen → Opening → Option Reader
opens chosen (names setting) = Some (record { waiting = Some setting; chosen = chosen })
opens chosen (gives setting value) = ended (note chosen setting value)
opens chosen neither = None

abbrev pub next_by : Option Setting → Chosen → List ℕ → Option Reader
next_by (Some setting) chosen word = ended (note chosen setting word)
next_by None chosen word = opens chosen (opening_of word)

-- behind one more word
abbrev pub next_of : Reader → List ℕ → Option Reader
next_of reader word = next_by reader.waiting reader.chosen word

-- what is chosen once the rest is read
abbrev pub read_on : Reader → List (List ℕ) → Option Chosen
read_on reader words = option_and_then (chosen_by reader.chosen) (pieces words reader.waiting)

abbrev pub ended_at : Option Setting → Chosen → Option Chosen
ended_at None chosen = Some chosen
ended_at (Some setting) chosen = None
