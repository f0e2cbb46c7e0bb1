-- The lines of calls as they are written, part by part.
use Rattle.std.specs.Prelude.{ℕ, nat_eq, if◌then◌else◌, List, [], ◌∷◌, flat_map, map, Some}
use Rattle.std.specs.List.{slice_get}
use Rattle.cxx_form.specs.Views.{facts_in}
use Rattle.cxx_meaning.specs.Lookups.Gathered.{before}
use Rattle.cxx_model.specs.declared.overload.Outcome.{Outcome}
use Rattle.cxx_model.specs.Facts.Declarations.{CxxFact}
use Rattle.cxx_phrase_text.specs.declared.calls.ListedCall.{ListedCall}
use Rattle.cxx_phrase_text.specs.Listing.{call_of}
use Rattle.cxx_reading.specs.State.{CxxCall}
use Rattle.cxx_tree.specs.Held.{calls_at, Held}
use Rattle.cxx_listing.specs.Calls.{records_of}
use Rattle.cxx_listing.specs.Lines.{CallLine, call_text, candidate_shown, other_line, others_from}

-- the line of a candidate that is not the chosen one
abbrev pub other_lines : List CxxFact → ℕ → ℕ → ℕ → Outcome → List CallLine
other_lines all chosen position number outcome = if nat_eq position chosen then [] else other_line (candidate_shown all position (Some number)) outcome ∷ []

abbrev pub others_of : List CxxFact → CxxCall → List CallLine
others_of all call = others_from all call.chosen 1 call.candidates call.outcomes

-- the record of a listed call, where there is one
abbrev pub listed_at : Held → ListedCall → List CxxCall
listed_at held one = before (slice_get (calls_at held.types held.calls) one.number) []

-- the text of the records of some calls
abbrev pub text_from : Held → List ListedCall → List ℕ
text_from held calls = flat_map (call_text (facts_in held)) (records_of (calls_at held.types held.calls) (map call_of calls))
