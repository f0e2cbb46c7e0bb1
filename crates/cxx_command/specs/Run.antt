-- What a run owes, and what its status says.
use Rattle.std.specs.Prelude.{◌≡◌, ◌≢◌, ◌⊎◌, ℕ, true, if◌then◌else◌, List, Option, Some, None, Ok, ⊤, codes}
use Rattle.cxx_model.specs.declared.fault.FaultText.TheVariants as says
use Rattle.cxx_model.specs.declared.options.Options.{Options}
use Rattle.cxx_model.specs.declared.stop.Fault.{Fault}
use Rattle.cxx_model.specs.declared.stop.LimitKind.{LimitKind}
use Rattle.cxx_model.specs.declared.stop.LimitKind.TheVariants.{Output}
use Rattle.cxx_model.specs.declared.token.Token.{Token}
use Rattle.cxx_model.specs.Text.Lexemes.{lexemes}
use Rattle.cxx_model.specs.Printing.Reports.{report, limit_report}
use Rattle.cxx_model.specs.Text.Tokens.{tokens_of}
use Rattle.cxx_form.specs.Called.{is_past_output}
use Rattle.cxx_listing.specs.Lines.{calls_text}
use Rattle.cxx_listing.specs.Listing.{AreListed}
use Rattle.cxx_language_laws.specs.Best.{EachCallIsBest}
use Rattle.cxx_form.specs.Text.{plain_text}
use Rattle.cxx_reading.specs.Units.{CxxReading}
use Rattle.cxx_language_laws.specs.Told.{IsChoiceText, IsToldFault, IsUndeclaredFault}
use Rattle.cxx_words.specs.declared.job.Job.{Job}
use Rattle.cxx_words.specs.declared.job.Mode.{Mode}
use Rattle.cxx_words.specs.declared.job.Mode.TheVariants.{Bind, Calls}
use Rattle.cxx_words.specs.Words.{IsUnderstood, options_of}
use Rattle.cxx_command.specs.Again.{Difference, IsTooLarge, ReadsBack, difference_text, read_again}
use Rattle.cxx_command.specs.Outcome.{UnitOutcome, Whole, Broken, PastLimit, outcome_of}
use Rattle.cxx_command.specs.Streams.{Change, HasFailed, IsUntouched, TookAll, TookPart}

-- ---- what a run owes for a unit

-- a text on the output, the report of a fault, the name of a limit, or how the text differs when it is read again
pub data UnitDue : Type 0 where
  Writes : List ℕ → UnitDue
  Reports : Fault → UnitDue
  Names : LimitKind → UnitDue
  Differs : Difference → UnitDue

abbrev pub due_again : CxxReading → Option Difference → UnitDue
due_again reading None = Writes (plain_text reading)
due_again reading (Some difference) = Differs difference

-- The plain form of a whole reading, where it is not past the limit on output, and reads back or is too large to; or its
-- calls, which need no plain form.
abbrev pub due_whole : Mode → Options → CxxReading → UnitDue
due_whole Bind options reading = if is_past_output reading then Names Output else due_again reading (read_again options reading)
due_whole Calls options reading = Writes (calls_text reading)

abbrev pub due_of : Mode → Options → UnitOutcome → UnitDue
due_of mode options (Whole reading) = due_whole mode options reading
due_of mode options (Broken fault) = Reports fault
due_of mode options (PastLimit limit) = Names limit

-- what a run owes for the bytes of a unit
unfoldable pub due : Job → List ℕ → UnitDue
due job input = due_of job.mode (options_of job) (outcome_of (options_of job) input)

-- the source tells what it has left, and that is this input
abbrev pub Tells : {S : Type 0} → Change S → List ℕ → Type 0
Tells source input = source.told_old ≡ Some input

-- this input is what the source tells, where it tells
abbrev pub AgreesWith : Option (List ℕ) → List ℕ → Type 0
AgreesWith None input = ⊤
AgreesWith (Some left) input = left ≡ input

-- ---- what is said, and where

pub data Due : Type 0 where
  ForUnit : UnitDue → Due
  NotUnderstood : Due
  CannotRead : Due
  NoMemory : Due

abbrev pub status_of_unit : UnitDue → ℕ
status_of_unit (Writes text) = 0
status_of_unit (Reports fault) = 1
status_of_unit (Names limit) = 5
status_of_unit (Differs difference) = 7

-- All of the text was appended, or that sink failed: then a part was, and the status is 4.
abbrev pub IsToldTo : {K : Type 0} → Change K → List ℕ → ℕ → ℕ → Type 0
IsToldTo sink text said status = ((status ≡ said) × TookAll sink text) ⊎ ((status ≡ 4) × HasFailed sink × TookPart sink text)

-- The text goes to one sink, and the other is as it was.
abbrev pub IsTold : {K E : Type 0} → Change K → Change E → List ℕ → ℕ → ℕ → Type 0
IsTold sink other text said status = IsToldTo sink text said status × IsUntouched other

abbrev pub Delivers : {K E : Type 0} → Due → Change K → Change E → ℕ → Type 0
Delivers (ForUnit (Writes text)) out err status = IsTold out err text 0 status
Delivers (ForUnit (Reports fault)) out err status = IsTold err out (report fault) 1 status
Delivers (ForUnit (Names limit)) out err status = IsTold err out (limit_report limit) 5 status
Delivers (ForUnit (Differs difference)) out err status = IsTold err out (difference_text difference) 7 status
Delivers NotUnderstood out err status = IsTold err out (codes "words not understood\n") 2 status
Delivers CannotRead out err status = IsTold err out (codes "cannot read\n") 3 status
Delivers NoMemory out err status = IsTold err out (codes "out of memory\n") 6 status

-- ---- why it is due

-- for some input that agrees with what the source tells, this is the unit's due
pub record IsUnitDue (job : Job) (told : Option (List ℕ)) (unit : UnitDue) : Type 0 where
  pub input : List ℕ
  pub agrees : AgreesWith told input
  pub is : due job input ≡ unit

-- the words are understood, and for the job that they say this is the unit's due
pub record IsDueUnit (words : List (List ℕ)) (told : Option (List ℕ)) (unit : UnitDue) : Type 0 where
  pub understood : IsUnderstood words
  pub unit_due : IsUnitDue understood.job told unit

abbrev pub IsDue : {S : Type 0} → List (List ℕ) → Change S → Due → Type 0
IsDue words source (ForUnit unit) = IsDueUnit words source.told_old unit
IsDue words source NotUnderstood = ¬ (IsUnderstood words) × IsUntouched source
IsDue words source CannotRead = IsUnderstood words × HasFailed source
IsDue words source NoMemory = IsUnderstood words

-- a status that stands in place of the unit's: the source could not be read, a sink failed, or there was no memory
abbrev pub IsExcused : {S K E : Type 0} → Change S → Change K → Change E → ℕ → Type 0
IsExcused source out err status = ((status ≡ 3) × HasFailed source) ⊎ ((status ≡ 4) × (HasFailed out ⊎ HasFailed err)) ⊎ (status ≡ 6)

-- ---- the whole contract of a run

-- what is written of a whole unit
abbrev pub text_of : Mode → CxxReading → List ℕ
text_of Bind reading = plain_text reading
text_of Calls reading = calls_text reading

-- What holds of the text besides: a plain form reads back, or is too large to be read again; calls have a line for each of
-- their candidates.
abbrev pub IsSound : Mode → Options → CxxReading → Type 0
IsSound Bind options reading = ReadsBack options (plain_text reading) reading ⊎ IsTooLarge options (plain_text reading)
IsSound Calls options reading = AreListed reading.state

-- the input is this whole unit, and what the job wants of it was written
pub record IsWritten {K E : Type 0} (job : Job) (input : List ℕ) (reading : CxxReading) (out : Change K) (err : Change E) : Type 0 where
  pub outcome : outcome_of (options_of job) input ≡ Whole reading
  pub written : TookAll out (text_of job.mode reading)
  pub quiet : IsUntouched err
  pub best : EachCallIsBest reading
  pub sound : IsSound job.mode (options_of job) reading

-- the input is this whole unit, whose plain form neither reads back nor is too large to, as was told
pub record IsNotReadBack {E : Type 0} (job : Job) (input : List ℕ) (reading : CxxReading) (err : Change E) : Type 0 where
  pub mode : job.mode ≡ Bind
  pub outcome : outcome_of (options_of job) input ≡ Whole reading
  pub differs : ¬ (ReadsBack (options_of job) (plain_text reading) reading)
  pub within : ¬ (IsTooLarge (options_of job) (plain_text reading))
  pub difference : Difference
  pub is : read_again (options_of job) reading ≡ Some difference
  pub told : TookAll err (difference_text difference)

-- the limit is met as the unit is read, or it is that on output, the job wants the plain form, and this is too long
pub data IsMetLimit (job : Job) (input : List ℕ) (limit : LimitKind) : Type 0 where
  met_reading : outcome_of (options_of job) input ≡ PastLimit limit → IsMetLimit job input limit
  met_printing : (reading : CxxReading) → job.mode ≡ Bind → limit ≡ Output → outcome_of (options_of job) input ≡ Whole reading → is_past_output reading ≡ true → IsMetLimit job input limit

-- Where the fault is of the choice of a function, the input is tokens, the reading of these stops at a call, and the fault
-- is a true one of it. Where it is an undeclared name, the input is tokens, and the reading of these stops at this name,
-- which means nothing that is declared there.
pub record IsTrueFault (input : List ℕ) (fault : Fault) : Type 0 where
  pub choice : IsChoiceText fault.text → (tokens : List Token) × (tokens_of input ≡ Ok tokens) × IsToldFault (lexemes input tokens) fault
  pub undeclared : (word : List ℕ) → fault.text ≡ says.UndeclaredName word → (tokens : List Token) × (tokens_of input ≡ Ok tokens) × IsUndeclaredFault (lexemes input tokens) fault word

pub record IsAnswer {S K E : Type 0} (words : List (List ℕ)) (source : Change S) (out : Change K) (err : Change E) (status : ℕ) : Type 0 where
  -- What is due is delivered. The rest follows from this, and says it status by status.
  pub what : Due
  pub is_due : IsDue words source what
  pub delivered : Delivers what out err status
  -- 0: where the words are understood, the source tells its bytes, nothing fails and the unit is whole, exactly what the
  -- words want of it is appended to `out`, and nothing to `err`
  pub complete : (input text : List ℕ) → Tells source input → (understood : IsUnderstood words) → due understood.job input ≡ Writes text
      → ¬ (HasFailed source) → ¬ (HasFailed out) → ¬ (HasFailed err) → ((status ≡ 0) × TookAll out text × IsUntouched err) ⊎ (status ≡ 6)
  -- 0: only then; the unit is whole, and each of its calls names the viable function that is better than every other. Where
  -- the words want the plain form, that was written, and it reads back, or is too large to be read again; where they want
  -- the calls, those were written, with a line for each of their candidates.
  pub whole : (input : List ℕ) → Tells source input → status ≡ 0 → (understood : IsUnderstood words) × (reading : CxxReading) × IsWritten understood.job input reading out err
  -- 1: exactly where the unit is broken, with the report of its first fault; a call that is ambiguous or has no viable
  -- function is so among what is declared where the reading stops, and each line of its evidence is true; an undeclared
  -- name stands where the fault is, and means nothing that is declared there
  pub broken : (input : List ℕ) → Tells source input → status ≡ 1 → (understood : IsUnderstood words) × (fault : Fault) × (due understood.job input ≡ Reports fault) × TookAll err (report fault) × IsTrueFault input fault
  -- 5: exactly where a limit is passed, with its name; that on output by a plain form alone
  pub limited : (input : List ℕ) → Tells source input → status ≡ 5 → (understood : IsUnderstood words) × (limit : LimitKind) × (due understood.job input ≡ Names limit) × TookAll err (limit_report limit) × IsMetLimit understood.job input limit
  -- 7: exactly where the words want the plain form, the unit is whole, and its plain form neither reads back nor is too
  -- large to
  pub unlike : (input : List ℕ) → Tells source input → status ≡ 7 → (understood : IsUnderstood words) × (reading : CxxReading) × IsNotReadBack understood.job input reading err
  -- 1, 5 and 7 come where they are due, unless 3, 4 or 6 stands in their place; so does 0
  pub by_input : (input : List ℕ) → Tells source input → (understood : IsUnderstood words) → (status ≡ status_of_unit (due understood.job input)) ⊎ IsExcused source out err status
  -- 2: exactly where the words are not understood, unless a sink failed; the source is then as before
  pub not_understood : status ≡ 2 → ¬ (IsUnderstood words)
  pub not_understood_back : ¬ (IsUnderstood words) → (status ≡ 2) ⊎ (status ≡ 4)
  pub unread : ¬ (IsUnderstood words) → IsUntouched source
  -- 3 only where the source failed, 4 only where a sink did
  pub cannot_read : status ≡ 3 → IsUnderstood words × HasFailed source
  pub cannot_write : status ≡ 4 → HasFailed out ⊎ HasFailed err
  -- 4 leaves a part of a text in the sink that failed, and the other sink as it was
  pub part : status ≡ 4 → (text : List ℕ) × ((HasFailed out × TookPart out text × IsUntouched err) ⊎ (HasFailed err × TookPart err text × IsUntouched out))
  -- the other statuses leave `out` as it was, and 0 leaves `err` as it was
  pub out_untouched : status ≢ 0 → status ≢ 4 → IsUntouched out
  pub err_untouched : status ≡ 0 → IsUntouched err
