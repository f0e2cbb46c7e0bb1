-- What is on a page is the text of its lines.
use Rattle.std.proofs.Common.{◌≡◌, ◌≤◌, ◌<◌, ◌+◌, ℕ, Bool, true, false, List, [], ◌∷◌, ◌++◌, length, Option, refl, sym, ap, ◌∙◌, arith, length-append}
use Rattle.std.specs.Prelude.{nat_lt, codes}
use Rattle.std.proofs.lemmas.Bool.{ltb-true, ltb-false}
use Rattle.std.proofs.lemmas.List.{append-nil, append_assoc}
use Rattle.cxx_model.specs.declared.limits.TheConstants as limits
use Rattle.cxx_reading.specs.declared.role.Role.{Role}
use Rattle.cxx_reading.specs.declared.role.Role.TheVariants as role
use Rattle.cxx_reading.specs.Words.{Word, text_behind, line_text}
use Rattle.cxx_page.specs.Sheets.{Sheet, and_then, held, gap_before, put_word, put, line_ended, put_line, put_lines, role_behind, text_of_lines, HasLines}
use Rattle.cxx_page.proofs.Held.{held_fits, held_not}

-- more behind a text that is held, or is not
held_more : (last next : Role) (text more : List ℕ) (go : Sheet → Option Sheet)
    → (length text ≤ limits.MOST_OUTPUT → go (record { text = text; last = last }) ≡ held next (text ++ more))
    → and_then (held last text) go ≡ held next (text ++ more)
held_more last next text more go does = by (nat_lt limits.MOST_OUTPUT (length text)) refl
  where
    by : (b : Bool) → nat_lt limits.MOST_OUTPUT (length text) ≡ b → and_then (held last text) go ≡ held next (text ++ more)
    by true e =
        let long : limits.MOST_OUTPUT < length text = ltb-true limits.MOST_OUTPUT (length text) e in
        ap (λ one. and_then one go) (held_not last text long) ∙ sym (held_not next (text ++ more) (omega (arith, length-append text more)))
    by false e =
        let short : length text ≤ limits.MOST_OUTPUT = ltb-false limits.MOST_OUTPUT (length text) e in
        ap (λ one. and_then one go) (held_fits last text short) ∙ does short

put_text : (words : List Word) (sheet : Sheet) → length sheet.text ≤ limits.MOST_OUTPUT → put words sheet ≡ held (role_behind sheet.last words) (sheet.text ++ text_behind sheet.last words)
unfolding put put_word
put_text [] sheet within = sym (ap (held sheet.last) (append-nil sheet.text) ∙ held_fits sheet.last sheet.text within)
put_text (word ∷ words) sheet within =
    let first = sheet.text ++ (gap_before sheet word.role ++ word.spelling) in
    held_more word.role (role_behind word.role words) first (text_behind word.role words) (put words) (λ short. put_text words (record { text = first; last = word.role }) short)
    ∙ ap (held (role_behind word.role words)) (append_assoc sheet.text (gap_before sheet word.role ++ word.spelling) (text_behind word.role words) ∙ ap (λ t. sheet.text ++ t) (append_assoc (gap_before sheet word.role) word.spelling (text_behind word.role words)))

line_put : (words : List Word) (text : List ℕ) → length text ≤ limits.MOST_OUTPUT → put_line words (record { text = text; last = role.Leads }) ≡ held role.Leads (text ++ line_text words)
unfolding put_line line_ended
line_put words text within =
    ap (λ one. and_then one line_ended) (put_text words (record { text = text; last = role.Leads }) within)
    ∙ held_more (role_behind role.Leads words) role.Leads (text ++ text_behind role.Leads words) (codes "\n") line_ended (λ short. refl)
    ∙ ap (held role.Leads) (append_assoc text (text_behind role.Leads words) (codes "\n"))

lines_put : (lines : List (List Word)) (text : List ℕ) → length text ≤ limits.MOST_OUTPUT → put_lines lines (record { text = text; last = role.Leads }) ≡ held role.Leads (text ++ text_of_lines lines)
unfolding put_lines
lines_put [] text within = sym (ap (held role.Leads) (append-nil text) ∙ held_fits role.Leads text within)
lines_put (words ∷ others) text within =
    ap (λ one. and_then one (put_lines others)) (line_put words text within)
    ∙ held_more role.Leads role.Leads (text ++ line_text words) (text_of_lines others) (put_lines others) (lines_put others (text ++ line_text words))
    ∙ ap (held role.Leads) (append_assoc text (line_text words) (text_of_lines others))

pub has_lines : (lines : List (List Word)) → HasLines lines
has_lines lines = lines_put lines [] (omega arith)
