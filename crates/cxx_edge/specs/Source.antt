-- What reading to the end does to the bytes that a source has left, where it tells them.
use Rattle.std.specs.Prelude.{◌≡◌, ℕ, ◌<◌, ◌≤◌, List, [], length, ⊤, Option, Some, None, IfSome}
use Rattle.std.specs.Io.KnownBytes.{Consumes}

-- these are all the bytes that were left, and none is left now
abbrev pub GivesAll : Option (List ℕ) → Option (List ℕ) → List ℕ → Type 0
GivesAll None now bytes = ⊤
GivesAll (Some whole) now bytes = (bytes ≡ whole) × (now ≡ Some [])

-- more than this many of the bytes that were left are taken now
abbrev pub GivesMore : Option (List ℕ) → Option (List ℕ) → ℕ → Type 0
GivesMore before now limit = (bytes : List ℕ) × Consumes before now bytes × (limit < length bytes)

-- some of the bytes that were left are taken now, from the front
abbrev pub GivesPart : Option (List ℕ) → Option (List ℕ) → Type 0
GivesPart before now = (bytes : List ℕ) × Consumes before now bytes

-- more than this many bytes are left, and no more than this many
abbrev pub IsLonger : Option (List ℕ) → ℕ → Type 0
IsLonger left limit = IfSome left (λ whole. limit < length whole)

abbrev pub IsWithin : Option (List ℕ) → ℕ → Type 0
IsWithin left limit = IfSome left (λ whole. length whole ≤ limit)
