-- How the characters of strings are counted, one step after another.
use Rattle.std.specs.Prelude.{ℕ, zero, Bool, true, false, not, ◌==◌, if◌then◌else◌, List, [], ◌∷◌, drop}
use Rattle.cxx_literals.specs.Escapes.{letter_at}

-- a quote opens a string, or ends it
abbrev pub opens : Bool → List ℕ → Bool
opens is_open [] = is_open
opens true (b ∷ text) = not (b == 34)
opens false (b ∷ text) = b == 34

-- how many characters begin there
abbrev pub counts : Bool → List ℕ → ℕ
counts is_open [] = zero
counts true (b ∷ text) = if b == 34 then 0 else 1
counts false (b ∷ text) = zero

-- what stands behind it
abbrev pub past : Bool → List ℕ → List ℕ
past is_open [] = []
past true (b ∷ text) = if b == 34 then text else drop (letter_at (b ∷ text)).len (b ∷ text)
past false (b ∷ text) = text
