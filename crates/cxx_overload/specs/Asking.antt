-- Answers that are gathered one after another, each of which may need a class first (14.7.1).
use Rattle.std.specs.Prelude.{ℕ, suc, Bool, true, false, if◌then◌else◌, List, [], ◌∷◌, ◌++◌, Option, Some, None, Ok}
use Rattle.cxx_meaning.specs.declared.steps.SequenceSteps.{SequenceSteps}
use Rattle.cxx_meaning.specs.Conversions.Asking.{Asked, ◌>>=◌}
use Rattle.cxx_overload.specs.declared.conversion.Conversion.{Conversion}
use Rattle.cxx_overload.specs.declared.conversion.Conversion.TheVariants as conversion

-- one answer, and those of the rest
abbrev pub joined : {A : Type 0} → Asked A → Asked (List A) → Asked (List A)
joined first rest = first >>= λ one. rest >>= λ others. Ok (one ∷ others)

-- what was found before the rest is answered
abbrev pub after : {A : Type 0} → List A → Asked (List A) → Asked (List A)
after found rest = rest >>= λ others. Ok (found ++ others)

-- the steps of a standard sequence, where there is one
abbrev pub conversion_of : Option SequenceSteps → Conversion
conversion_of None = conversion.Missing
conversion_of (Some steps) = conversion.Standard steps

-- how an argument behind the last parameter is converted
abbrev pub conversion_beyond : Bool → Conversion
conversion_beyond true = conversion.Ellipsis
conversion_beyond false = conversion.Missing

abbrev pub is_missing : Conversion → Bool
is_missing conversion.Missing = true
is_missing conversion.Ellipsis = false
is_missing (conversion.Standard steps) = false

-- the first argument, from a position on, that is not converted
abbrev pub first_missing : ℕ → List Conversion → Option ℕ
first_missing position [] = None
first_missing position (one ∷ others) = if is_missing one then Some position else first_missing (suc position) others
