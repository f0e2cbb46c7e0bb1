-- What writes do to the bytes that a sink has taken, where it tells them.
use Rattle.std.specs.Prelude.{ℕ, ◌<◌, List, length, take, IfOk, MatchResult, Option, Result}
use Rattle.std.specs.Io.KnownBytes.{Appends}

-- some of the piece was appended, from its front
abbrev pub AppendsPart : Option (List ℕ) → Option (List ℕ) → List ℕ → Type 0
AppendsPart before now piece = (n : ℕ) × Appends before now (take n piece)

-- `write(piece)` appended the n bytes that it took at `Ok(n)`, and a part of the piece at `Err`
abbrev pub WritesPart : {E : Type 0} → Option (List ℕ) → Option (List ℕ) → Result ℕ E → List ℕ → Type 0
WritesPart before now result piece = MatchResult result (λ n. Appends before now (take n piece)) (λ _. AppendsPart before now piece)

-- `write(piece)` took a byte, where the piece has one
abbrev pub TakesSome : {E : Type 0} → Result ℕ E → List ℕ → Type 0
TakesSome result piece = IfOk result (λ n. 0 < length piece → 0 < n)

-- the whole text was appended at `Ok`, and a part of it at `Err`
abbrev pub WritesAll : {T E : Type 0} → Option (List ℕ) → Option (List ℕ) → Result T E → List ℕ → Type 0
WritesAll before now result text = MatchResult result (λ _. Appends before now text) (λ _. AppendsPart before now text)
