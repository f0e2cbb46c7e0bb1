-- The lines that declare the functions that calls name.
use Rattle.std.proofs.Common.{◌≡◌, ℕ, ◌<◌, ◌≤◌, true, false, List, [], ◌∷◌, length, map, Some, None, Err, refl, ap, sym, subst, ◌∙◌, append-nil}
use Rattle.std.specs.Prelude.{◌||◌, Bool}
use Rattle.std.proofs.lemmas.Bool.{le-ltb, lt-ltb}
use Rattle.cxx_model.specs.declared.limits.TheConstants as limits
use Rattle.cxx_model.specs.Facts.Declarations.{graph_at}
use Rattle.cxx_page.specs.declared.fault.PlainFault.{PlainFault}
use Rattle.cxx_page.specs.declared.fault.PlainFault.TheVariants as fault
use Rattle.cxx_page.specs.Sheets.{and_then, blank, put_line, put_lines, Sheet, Writes}
use Rattle.cxx_phrase_text.specs.declared.calls.ListedCall.{ListedCall}
use Rattle.cxx_form.specs.Order.{names_of_text}
use Rattle.cxx_reading.specs.Units.{CxxReading}
use Rattle.cxx_reading.specs.Words.{line_text, Word}
use Rattle.cxx_tree.specs.Held.{meaning, Held}
use Rattle.cxx_form.specs.declared.book.Book.{Book}
use Rattle.cxx_form.specs.Books.{graph_of, names_of}
use Rattle.cxx_form.specs.declared.form.Printed.{Printed}
use Rattle.cxx_form.specs.Called.{any_long, called_words, function_text, functions_from, functions_text, is_long, is_past_output, target_of, targets}
use Rattle.cxx_form.specs.Names.{names_in}
use Rattle.cxx_form.specs.Printed.{IsPrinted}
use Rattle.cxx_form.specs.Text.{plain_text}
use Rattle.cxx_form.proofs.Whole.{too_long, written_text}

-- ---- one line

one_then : (words : List Word) (sheet : Sheet) → put_line words blank ≡ Some sheet → put_lines (words ∷ []) blank ≡ Some sheet
unfolding put_lines
one_then words sheet written = ap (λ some. and_then some (put_lines [])) written

none_then : (words : List Word) → put_line words blank ≡ None → put_lines (words ∷ []) blank ≡ None
unfolding put_lines
none_then words none = ap (λ some. and_then some (put_lines [])) none

line_written : (words : List Word) (page : Sheet) → put_line words blank ≡ Some page → page.text ≡ line_text words
line_written words page written = written_text (words ∷ []) page (one_then words page written) ∙ append-nil (line_text words)

line_long : (words : List Word) → put_line words blank ≡ None → limits.MOST_OUTPUT < length (line_text words)
line_long words none = subst (λ (text : List ℕ). limits.MOST_OUTPUT < length text) (append-nil (line_text words)) (too_long (words ∷ []) (none_then words none))

by_names : (held : Held) (number : ℕ) → line_text (called_words (names_in held) (graph_at held.types held.graph) number) ≡ function_text (meaning held) number
unfolding function_text names_of_text names_in meaning
by_names held number = refl

pub text_is : (book : Book) (number : ℕ) (page new : Sheet) → page ≡ blank → put_line (called_words (names_of book) (graph_of book) number) page ≡ Some new → new.text ≡ function_text (meaning book.state.now) number
text_is book number page new is written =
    line_written (called_words (names_of book) (graph_of book) number) new (ap (put_line (called_words (names_of book) (graph_of book) number)) (sym is) ∙ written)
    ∙ by_names book.state.now number

pub line_over : (book : Book) (number : ℕ) (e : PlainFault) (page new : Sheet) → page ≡ blank → Writes (Err e) new (put_line (called_words (names_of book) (graph_of book) number) page) → e ≡ fault.Limit → limits.MOST_OUTPUT < length (function_text (meaning book.state.now) number)
line_over book number fault.Limit page new is written limit =
    subst (λ (text : List ℕ). limits.MOST_OUTPUT < length text) (by_names book.state.now number)
    (line_long (called_words (names_of book) (graph_of book) number) (ap (put_line (called_words (names_of book) (graph_of book) number)) (sym is) ∙ written))
line_over book number fault.OutOfMemory page new is written limit = absurd (other limit)
  where
    other : fault.OutOfMemory ≡ fault.Limit → ⊥
    other same = cc

-- ---- the whole

past_text : (reading : CxxReading) → limits.MOST_OUTPUT < length (plain_text reading) → is_past_output reading ≡ true
unfolding is_past_output
past_text reading long = ap (λ b. b || any_long reading.state (targets reading.state)) (lt-ltb limits.MOST_OUTPUT (length (plain_text reading)) long)

or_true : (b : Bool) → (b || true) ≡ true
or_true true = refl
or_true false = refl

past_functions : (reading : CxxReading) → any_long reading.state (targets reading.state) ≡ true → is_past_output reading ≡ true
unfolding is_past_output
past_functions reading long = ap (λ b. is_long (plain_text reading) || b) long ∙ or_true (is_long (plain_text reading))

within_both : (reading : CxxReading) → length (plain_text reading) ≤ limits.MOST_OUTPUT → any_long reading.state (targets reading.state) ≡ false → is_past_output reading ≡ false
unfolding is_past_output
within_both reading within short = ap (λ b. b || any_long reading.state (targets reading.state)) (le-ltb limits.MOST_OUTPUT (length (plain_text reading)) within) ∙ short

pub text_past : (reading : CxxReading) (e : PlainFault) → (e ≡ fault.Limit → limits.MOST_OUTPUT < length (plain_text reading)) → e ≡ fault.Limit → is_past_output reading ≡ true
text_past reading e full limit = past_text reading (full limit)

pub functions_past : (reading : CxxReading) (calls : List ListedCall) (e : PlainFault) → map target_of calls ≡ targets reading.state → (e ≡ fault.Limit → any_long reading.state (map target_of calls) ≡ true) → e ≡ fault.Limit → is_past_output reading ≡ true
functions_past reading calls e are full limit = past_functions reading (subst (λ (ns : List ℕ). any_long reading.state ns ≡ true) are (full limit))

functions_are : (reading : CxxReading) → functions_from reading.state (targets reading.state) ≡ functions_text reading
unfolding functions_text
functions_are reading = refl

pub is_printed : (reading : CxxReading) (printed : Printed) (calls : List ListedCall) → map target_of calls ≡ targets reading.state → printed.text.items ≡ plain_text reading → length printed.text.items ≤ limits.MOST_OUTPUT → printed.functions.items ≡ functions_from reading.state (map target_of calls) → any_long reading.state (map target_of calls) ≡ false → IsPrinted reading printed
is_printed reading printed calls are text within functions short = record {
  text = text;
  functions = functions ∙ ap (functions_from reading.state) are ∙ functions_are reading;
  within = within_both reading (subst (λ (xs : List ℕ). length xs ≤ limits.MOST_OUTPUT) text within) (subst (λ (ns : List ℕ). any_long reading.state ns ≡ false) are short);
}
