-- The plain form is the text of its lines.
use Rattle.std.proofs.Common.{◌≡◌, ℕ, ◌<◌, List, [], ◌∷◌, ◌++◌, length, Some, None, Err, refl, ap, sym, subst, ◌∙◌, append_assoc}
use Rattle.std.specs.Prelude.{flat_map, nat_lt, Bool, true, false}
use Rattle.std.proofs.lemmas.Bool.{ltb-true, ltb-false}
use Rattle.cxx_model.specs.declared.limits.TheConstants as limits
use Rattle.cxx_model.specs.declared.options.Options.{Options}
use Rattle.cxx_page.specs.declared.fault.PlainFault.{PlainFault}
use Rattle.cxx_page.specs.declared.fault.PlainFault.TheVariants as fault
use Rattle.cxx_page.specs.Sheets.{blank, held, put_lines, text_of_lines, Sheet, Writes}
use Rattle.cxx_page.proofs.Held.{held_fits, held_not}
use Rattle.cxx_page.proofs.Texts.{has_lines}
use Rattle.cxx_reading.specs.declared.role.Role.TheVariants as role
use Rattle.cxx_model.specs.Facts.Declarations.{graph_at}
use Rattle.cxx_statement_text.specs.Statements.{Lines}
use Rattle.cxx_form.specs.Order.{lines, names_of_text}
use Rattle.cxx_reading.specs.Words.{line_text, Word}
use Rattle.cxx_tree.specs.Held.{meaning, Held}
use Rattle.cxx_form.specs.declared.book.Book.{Book}
use Rattle.cxx_form.specs.declared.lines.Line.{Line}
use Rattle.cxx_form.specs.Books.{graph_of, names_of, trees_of}
use Rattle.cxx_form.specs.Lines.{line_at, lines_at}
use Rattle.cxx_form.specs.Names.{names_in}
use Rattle.cxx_form.specs.Parts.{lines_written}
use Rattle.cxx_form.specs.Text.{plain_text, text_on}

-- ---- what is on a page on which lines were written

pub written_text : (lines : List (List Word)) (page : Sheet) → put_lines lines blank ≡ Some page → page.text ≡ text_of_lines lines
written_text lines page written = by (nat_lt limits.MOST_OUTPUT (length (text_of_lines lines))) refl
  where
    some_text : (one two : Sheet) → Some one ≡ Some two → one.text ≡ two.text
    some_text one two same = (let it : one ≡ two = cc in ap (λ (sheet : Sheet). sheet.text) it)

    none_some : (one : Sheet) → None ≡ Some one → ⊥
    none_some one same = cc

    by : (t : Bool) → nat_lt limits.MOST_OUTPUT (length (text_of_lines lines)) ≡ t → page.text ≡ text_of_lines lines
    by true e = absurd (none_some page (sym (held_not role.Leads (text_of_lines lines) (ltb-true limits.MOST_OUTPUT (length (text_of_lines lines)) e)) ∙ sym (has_lines lines) ∙ written))
    by false e = some_text page (record { text = text_of_lines lines; last = role.Leads }) (sym written ∙ has_lines lines ∙ held_fits role.Leads (text_of_lines lines) (ltb-false limits.MOST_OUTPUT (length (text_of_lines lines)) e))

pub too_long : (lines : List (List Word)) → put_lines lines blank ≡ None → limits.MOST_OUTPUT < length (text_of_lines lines)
too_long lines none = by (nat_lt limits.MOST_OUTPUT (length (text_of_lines lines))) refl
  where
    none_some : (one : Sheet) → None ≡ Some one → ⊥
    none_some one same = cc

    by : (t : Bool) → nat_lt limits.MOST_OUTPUT (length (text_of_lines lines)) ≡ t → limits.MOST_OUTPUT < length (text_of_lines lines)
    by true e = ltb-true limits.MOST_OUTPUT (length (text_of_lines lines)) e
    by false e = absurd (none_some (record { text = text_of_lines lines; last = role.Leads }) (sym none ∙ has_lines lines ∙ held_fits role.Leads (text_of_lines lines) (ltb-false limits.MOST_OUTPUT (length (text_of_lines lines)) e)))

-- ---- the whole

line_texts : (lines : Lines) → text_of_lines lines ≡ flat_map line_text lines
line_texts [] = refl
line_texts (words ∷ others) = ap (λ (text : List ℕ). line_text words ++ text) (line_texts others)

both_texts : (ones twos : Lines) → text_of_lines (ones ++ twos) ≡ text_of_lines ones ++ text_of_lines twos
both_texts [] twos = refl
both_texts (words ∷ ones) twos = ap (λ (text : List ℕ). line_text words ++ text) (both_texts ones twos) ∙ sym (append_assoc (line_text words) (text_of_lines ones) (text_of_lines twos))

each_line : (book : Book) (found : List Line) → text_of_lines (flat_map (lines_written book) found) ≡ flat_map (text_on (names_of book) (graph_of book)) (lines_at (trees_of book) found)
unfolding lines_written
each_line book [] = refl
each_line book (one ∷ others) =
    both_texts (lines_written book one) (flat_map (lines_written book) others)
    ∙ ap (λ (text : List ℕ). text ++ text_of_lines (flat_map (lines_written book) others)) (line_texts (lines_written book one))
    ∙ ap (λ (text : List ℕ). text_on (names_of book) (graph_of book) (line_at (trees_of book) one) ++ text) (each_line book others)

by_lines : (options : Options) (held : Held) → flat_map (text_on (names_in held) (graph_at held.types held.graph)) (lines (meaning held)) ≡ plain_text (record { options = options; state = meaning held })
unfolding plain_text names_of_text names_in meaning
by_lines options held = refl

pub whole : (options : Options) (book : Book) (found : List Line) → lines_at (trees_of book) found ≡ lines (meaning book.state.now) → text_of_lines (flat_map (lines_written book) found) ≡ plain_text (record { options = options; state = meaning book.state.now })
whole options book found are =
    each_line book found ∙ ap (flat_map (text_on (names_of book) (graph_of book))) are ∙ by_lines options book.state.now

-- what does not fit is too long
pub over : (options : Options) (book : Book) (found : List Line) (e : PlainFault) (page new : Sheet) → lines_at (trees_of book) found ≡ lines (meaning book.state.now) → page ≡ blank → Writes (Err e) new (put_lines (flat_map (lines_written book) found) page) → e ≡ fault.Limit → limits.MOST_OUTPUT < length (plain_text (record { options = options; state = meaning book.state.now }))
over options book found fault.Limit page new are is written limit =
    subst (λ (text : List ℕ). limits.MOST_OUTPUT < length text) (whole options book found are) (too_long (flat_map (lines_written book) found) (sym (ap (put_lines (flat_map (lines_written book) found)) is) ∙ written))
over options book found fault.OutOfMemory page new are is written limit = absurd (other limit)
  where
    other : fault.OutOfMemory ≡ fault.Limit → ⊥
    other same = cc
