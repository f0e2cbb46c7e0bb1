-- Whether a printed text reads back: read again it is a whole unit with the same text and the same functions.
use Rattle.std.specs.Prelude.{◌≡◌, ℕ, suc, nat_eq, if◌then◌else◌, false, true, List, [], ◌∷◌, ◌++◌, Option, Some, None, codes, decimal}
use Rattle.cxx_form.specs.Called.{functions_text, is_past_output}
use Rattle.cxx_model.specs.declared.options.Options.{Options}
use Rattle.cxx_model.specs.declared.stop.Fault.{Fault}
use Rattle.cxx_model.specs.declared.stop.LimitKind.{LimitKind}
use Rattle.cxx_model.specs.Printing.Reports.{report}
use Rattle.cxx_form.specs.Text.{plain_text}
use Rattle.cxx_reading.specs.Units.{CxxReading}
use Rattle.cxx_command.specs.Outcome.{UnitOutcome, Whole, Broken, PastLimit, outcome_of}

-- ---- the first line that differs

abbrev pub line_feed : ℕ
line_feed = 10

abbrev pub next_line : ℕ → ℕ → ℕ
next_line line byte = if nat_eq byte line_feed then suc line else line

-- The number of the first line in which two texts differ, where their first lines have this number. A line that is
-- missing differs.
abbrev pub difference_from : ℕ → List ℕ → List ℕ → Option ℕ
difference_from line [] [] = None
difference_from line [] (y ∷ ys) = Some line
difference_from line (x ∷ xs) [] = Some line
difference_from line (x ∷ xs) (y ∷ ys) = if nat_eq x y then difference_from (next_line line x) xs ys else Some line

abbrev pub difference_of : List ℕ → List ℕ → Option ℕ
difference_of one two = difference_from 1 one two

-- ---- why a text does not read back

pub data Difference : Type 0 where
  -- it is no whole unit: this is its first fault
  IsBroken : Fault → Difference
  -- its plain form has another text, from this line on
  OtherLine : ℕ → Difference
  -- its calls name other functions, from this call on
  OtherCall : ℕ → Difference

abbrev pub by_calls : Option ℕ → Option Difference
by_calls None = None
by_calls (Some number) = Some (OtherCall number)

abbrev pub by_lines : Option ℕ → Option Difference → Option Difference
by_lines None later = later
by_lines (Some number) later = Some (OtherLine number)

-- how one reading differs from another
abbrev pub between : CxxReading → CxxReading → Option Difference
between one two = by_lines (difference_of (plain_text one) (plain_text two)) (by_calls (difference_of (functions_text one) (functions_text two)))

-- A text that is too large to be read again, or whose reading is too large to be printed, shows nothing.
abbrev pub shown_by : CxxReading → UnitOutcome → Option Difference
shown_by one (PastLimit limit) = None
shown_by one (Broken fault) = Some (IsBroken fault)
shown_by one (Whole two) = if is_past_output two then None else between one two

-- what reading the plain form of a reading again shows
unfoldable pub read_again : Options → CxxReading → Option Difference
read_again options reading = shown_by reading (outcome_of options (plain_text reading))

-- ---- in words

-- The text is a whole unit, whose plain form is this text, and whose calls name the functions that the calls of the
-- reading name, each as the plain form declares it, in the order of the text.
pub record ReadsBack (options : Options) (text : List ℕ) (reading : CxxReading) : Type 0 where
  pub again : CxxReading
  pub whole : outcome_of options text ≡ Whole again
  pub within : is_past_output again ≡ false
  pub same_text : plain_text again ≡ text
  pub same_functions : functions_text again ≡ functions_text reading

-- Reading the text meets a limit, or printing what is read does.
pub data IsTooLarge (options : Options) (text : List ℕ) : Type 0 where
  reads_past : (limit : LimitKind) → outcome_of options text ≡ PastLimit limit → IsTooLarge options text
  prints_past : (again : CxxReading) → outcome_of options text ≡ Whole again → is_past_output again ≡ true → IsTooLarge options text

-- ---- what is said of it

abbrev pub heading : List ℕ
heading = codes "does not read back\n"

abbrev pub numbered : List ℕ → ℕ → List ℕ
numbered front number = front ++ (decimal number ++ codes "\n")

abbrev pub difference_text : Difference → List ℕ
difference_text (IsBroken fault) = heading ++ report fault
difference_text (OtherLine number) = heading ++ numbered (codes "  line ") number
difference_text (OtherCall number) = heading ++ numbered (codes "  call ") number
