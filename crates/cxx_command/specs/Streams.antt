-- A stream before and after a call: itself, the bytes that it tells, and how often it has failed.
use Rattle.std.specs.Prelude.{◌≡◌, ℕ, List, Option}
use Rattle.std.specs.Io.KnownBytes.{Appends}
use Rattle.cxx_edge.specs.Count.{Rose}
use Rattle.cxx_edge.specs.Sink.{AppendsPart}

pub record Change (S : Type 0) : Type 0 where
  pub old : S
  pub new : S
  -- what a source has left, or a sink has taken
  pub told_old : Option (List ℕ)
  pub told_new : Option (List ℕ)
  pub faults_old : ℕ
  pub faults_new : ℕ

abbrev pub change : {S : Type 0} → (S → Option (List ℕ)) → (S → ℕ) → S → S → Change S
change told faults old new = record { old = old; new = new; told_old = told old; told_new = told new; faults_old = faults old; faults_new = faults new }

-- its count rose, or stands at its last value
abbrev pub HasFailed : {S : Type 0} → Change S → Type 0
HasFailed stream = Rose stream.faults_old stream.faults_new

-- it is as it was before the call
abbrev pub IsUntouched : {S : Type 0} → Change S → Type 0
IsUntouched stream = stream.new ≡ stream.old

-- exactly this text was appended, where the sink tells what it has taken
abbrev pub TookAll : {S : Type 0} → Change S → List ℕ → Type 0
TookAll stream text = Appends stream.told_old stream.told_new text

-- some front of this text was appended
abbrev pub TookPart : {S : Type 0} → Change S → List ℕ → Type 0
TookPart stream text = AppendsPart stream.told_old stream.told_new text
