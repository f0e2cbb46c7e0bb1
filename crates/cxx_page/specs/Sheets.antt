-- A page: the text so far, and the role of its last word. What does not fit is not on it.
use Rattle.std.specs.Prelude.{ℕ, ◌≡◌, if◌then◌else◌, nat_lt, List, [], ◌∷◌, ◌++◌, length, Option, Some, None, Result, Ok, Err, codes}
use Rattle.cxx_model.specs.declared.limits.TheConstants as limits
use Rattle.cxx_page.specs.declared.fault.PlainFault.{PlainFault}
use Rattle.cxx_page.specs.declared.fault.PlainFault.TheVariants as fault
use Rattle.cxx_reading.specs.declared.role.Role.{Role}
use Rattle.cxx_reading.specs.declared.role.Role.TheVariants as role
use Rattle.cxx_reading.specs.Words.{Word, has_gap, line_text}

pub record Sheet : Type 0 where
  pub text : List ℕ
  pub last : Role

-- nothing is written, and no space stands before the first word
abbrev pub blank : Sheet
blank = record { text = []; last = role.Leads }

abbrev pub word_of : Role → List ℕ → Word
word_of role spelling = record { role = role; spelling = spelling }

abbrev pub and_then : Option Sheet → (Sheet → Option Sheet) → Option Sheet
and_then None go = None
and_then (Some sheet) go = go sheet

-- a page with a text, where it holds so much
abbrev pub held : Role → List ℕ → Option Sheet
held last text = if nat_lt limits.MOST_OUTPUT (length text) then None else Some (record { text = text; last = last })

abbrev pub gap_before : Sheet → Role → List ℕ
gap_before sheet next = if has_gap sheet.last next then codes " " else []

unfoldable pub put_word : Word → Sheet → Option Sheet
put_word word sheet = held word.role (sheet.text ++ (gap_before sheet word.role ++ word.spelling))

-- words, one after another
unfoldable pub put : List Word → Sheet → Option Sheet
put [] sheet = Some sheet
put (word ∷ words) sheet = and_then (put_word word sheet) (put words)

unfoldable pub line_ended : Sheet → Option Sheet
line_ended sheet = held role.Leads (sheet.text ++ codes "\n")

-- a line of words
unfoldable pub put_line : List Word → Sheet → Option Sheet
put_line words sheet = and_then (put words sheet) line_ended

unfoldable pub put_lines : List (List Word) → Sheet → Option Sheet
put_lines [] sheet = Some sheet
put_lines (words ∷ others) sheet = and_then (put_line words sheet) (put_lines others)

-- What a writer did: unless memory ran out, the page is what the definition gives, or what is written does not fit.
abbrev pub Writes : Result (Unit {0}) PlainFault → Sheet → Option Sheet → Type 0
Writes (Ok done) new written = written ≡ Some new
Writes (Err fault.Limit) new written = written ≡ None
Writes (Err fault.OutOfMemory) new written = Unit {0}

-- ---- in words

abbrev pub role_behind : Role → List Word → Role
role_behind last [] = last
role_behind last (word ∷ words) = role_behind word.role words

abbrev pub text_of_lines : List (List Word) → List ℕ
text_of_lines [] = []
text_of_lines (words ∷ others) = line_text words ++ text_of_lines others

-- A page on which lines were written has their text, or that text is too long.
abbrev pub HasLines : List (List Word) → Type 0
HasLines lines = put_lines lines blank ≡ held role.Leads (text_of_lines lines)
