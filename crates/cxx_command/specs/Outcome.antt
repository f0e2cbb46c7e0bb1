-- What a unit is: whole, broken, or past a limit. There is exactly one outcome for each text.
use Rattle.std.specs.Prelude.{ℕ, if◌then◌else◌, nat_lt, List, length, Result, Ok, Err}
use Rattle.cxx_model.specs.declared.fault.FaultText.TheVariants as says
use Rattle.cxx_model.specs.declared.limits.TheConstants as limits
use Rattle.cxx_model.specs.declared.options.Options.{Options}
use Rattle.cxx_model.specs.declared.stop.Fault.{Fault}
use Rattle.cxx_model.specs.declared.stop.LimitKind.{LimitKind}
use Rattle.cxx_model.specs.declared.stop.LimitKind.TheVariants.{Bytes, Tokens}
use Rattle.cxx_model.specs.declared.token.Token.{Token}
use Rattle.cxx_model.specs.Stops.{Answer, Stopped, Faulty, Limited, fault}
use Rattle.cxx_model.specs.Text.Lexemes.{lexemes}
use Rattle.cxx_model.specs.Text.Tokens.{Unread, BadAt, PastTokens, tokens_of}
use Rattle.cxx_reading.specs.Units.{CxxReading}
use Rattle.cxx_language.specs.Units.{unit_reading}

pub data UnitOutcome : Type 0 where
  Whole : CxxReading → UnitOutcome
  Broken : Fault → UnitOutcome
  PastLimit : LimitKind → UnitOutcome

abbrev pub stopped_outcome : Stopped → UnitOutcome
stopped_outcome (Faulty f) = Broken f
stopped_outcome (Limited k) = PastLimit k

abbrev pub read_outcome : Answer CxxReading → UnitOutcome
read_outcome (Ok reading) = Whole reading
read_outcome (Err why) = stopped_outcome why

-- a bad token is the first fault of all
abbrev pub tokens_outcome : Options → List ℕ → Result (List Token) Unread → UnitOutcome
tokens_outcome options bytes (Ok tokens) = read_outcome (unit_reading options (lexemes bytes tokens))
tokens_outcome options bytes (Err (BadAt place reason)) = stopped_outcome (fault place (says.BadToken reason))
tokens_outcome options bytes (Err PastTokens) = PastLimit Tokens

unfoldable pub outcome_of : Options → List ℕ → UnitOutcome
outcome_of options bytes = if nat_lt limits.MOST_BYTES (length bytes) then PastLimit Bytes else tokens_outcome options bytes (tokens_of bytes)
