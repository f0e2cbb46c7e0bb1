-- What the parts of a run answer before anything is written.
use Rattle.std.specs.Prelude.{◌≡◌, ℕ, List, codes}
use Rattle.cxx_model.specs.declared.stop.Fault.{Fault}
use Rattle.cxx_model.specs.Printing.Reports.{report, limit_report}
use Rattle.cxx_command.specs.declared.answers.Answer.{Answer}
use Rattle.cxx_command.specs.declared.answers.Answer.TheVariants as answer
use Rattle.cxx_command.specs.Again.{Difference, difference_text}
use Rattle.cxx_words.specs.declared.job.Job.{Job}
use Rattle.cxx_words.specs.Words.{IsUnderstood}
use Rattle.cxx_command.specs.Run.{due, AgreesWith, Differs, IsTold, Names, Reports, UnitDue, Writes}
use Rattle.cxx_command.specs.Streams.{Change, HasFailed, IsUntouched}

-- ---- what is told

abbrev pub DeliversAnswer : {K E : Type 0} → Answer → Change K → Change E → ℕ → Type 0
DeliversAnswer (answer.Writes text) out err status = IsTold out err text.items 0 status
DeliversAnswer (answer.Reports text) out err status = IsTold err out text.items 1 status
DeliversAnswer (answer.PassesLimit limit) out err status = IsTold err out (limit_report limit) 5 status
DeliversAnswer (answer.DoesNotReadBack text) out err status = IsTold err out text.items 7 status
DeliversAnswer answer.NotUnderstood out err status = IsTold err out (codes "words not understood\n") 2 status
DeliversAnswer answer.CannotRead out err status = IsTold err out (codes "cannot read\n") 3 status
DeliversAnswer answer.NoMemory out err status = IsTold err out (codes "out of memory\n") 6 status

-- ---- why

-- the answer is this unit's due, unless there is no memory
abbrev pub IsUnitAnswer : UnitDue → Answer → Type 0
IsUnitAnswer unit (answer.Writes text) = unit ≡ Writes text.items
IsUnitAnswer unit (answer.Reports text) = (fault : Fault) × (unit ≡ Reports fault) × (text.items ≡ report fault)
IsUnitAnswer unit (answer.PassesLimit limit) = unit ≡ Names limit
IsUnitAnswer unit (answer.DoesNotReadBack text) = (difference : Difference) × (unit ≡ Differs difference) × (text.items ≡ difference_text difference)
IsUnitAnswer unit answer.NotUnderstood = ⊥
IsUnitAnswer unit answer.CannotRead = ⊥
IsUnitAnswer unit answer.NoMemory = Unit {0}

-- the answer is that of some input that agrees with what the source tells, for this job
pub record IsInputAnswer {S : Type 0} (job : Job) (source : Change S) (given : Answer) : Type 0 where
  pub input : List ℕ
  pub agrees : AgreesWith source.told_old input
  pub is : IsUnitAnswer (due job input) given

-- the answer once a job is understood
abbrev pub IsJobAnswer : {S : Type 0} → Job → Change S → Answer → Type 0
IsJobAnswer job source answer.NotUnderstood = ⊥
IsJobAnswer job source answer.CannotRead = HasFailed source
IsJobAnswer job source answer.NoMemory = Unit {0}
IsJobAnswer job source given = IsInputAnswer job source given

-- the words are understood, and this is the answer for the job that they say
pub record IsUnderstoodAnswer {S : Type 0} (words : List (List ℕ)) (source : Change S) (given : Answer) : Type 0 where
  pub understood : IsUnderstood words
  pub job_answer : IsJobAnswer understood.job source given

abbrev pub IsRunAnswer : {S : Type 0} → List (List ℕ) → Change S → Answer → Type 0
IsRunAnswer words source answer.NotUnderstood = ¬ (IsUnderstood words) × IsUntouched source
IsRunAnswer words source given = IsUnderstoodAnswer words source given
