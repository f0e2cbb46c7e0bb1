use Rattle.std.proofs.Common.{◌≡◌, ◌≤◌, ◌+◌, take}
use Rattle.cxx_model.specs.Text.Lexemes.{past}
use Rattle.cxx_tokens.proofs.reader.past.Given as goal

abbrev pub invariant-loop-b : goal.invariant-loop-b
invariant-loop-b l =
    (l.place ≡ past (take l.b-index l.text) l.initial.place) × (l.place.line ≤ l.initial.place.line + l.b-index) × (l.place.column ≤ l.initial.place.column + l.b-index)
