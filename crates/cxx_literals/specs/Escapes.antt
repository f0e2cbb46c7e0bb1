-- The characters of a literal, of which a great value counts as one that no type holds.
use Rattle.std.specs.Prelude.{ℕ, suc, ◌^◌, ◌==◌, min, if◌then◌else◌, List, [], ◌∷◌}
use Rattle.cxx_model.specs.Text.Spelling as spec
use Rattle.cxx_model.specs.Text.Spelling.{Escape, escape}
use Rattle.cxx_literals.specs.declared.letters.Letter.{Letter}
use Rattle.cxx_literals.specs.declared.letters.Letter.TheVariants.{Value, Unknown, Universal}
use Rattle.cxx_literals.specs.declared.letters.Found.{Found}

abbrev pub letter_of : Letter → spec.Letter
letter_of (Value value) = spec.Value value
letter_of Unknown = spec.Unknown
letter_of Universal = spec.Universal

abbrev pub escape_seen : Found → Escape
escape_seen found = record { len = found.len; is = letter_of found.is }

abbrev pub capped_letter : spec.Letter → spec.Letter
capped_letter (spec.Value value) = spec.Value (min value (2 ^ 64))
capped_letter spec.Unknown = spec.Unknown
capped_letter spec.Universal = spec.Universal

abbrev pub capped : Escape → Escape
capped found = record { len = found.len; is = capped_letter found.is }

-- the first character of a body
abbrev pub letter_at : List ℕ → Escape
letter_at [] = record { len = 0; is = spec.Unknown }
letter_at (b ∷ text) = if b == 92 then record { len = suc (escape text).len; is = (escape text).is } else record { len = 1; is = spec.Value b }
