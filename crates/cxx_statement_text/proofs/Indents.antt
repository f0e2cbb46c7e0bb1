-- The indentation of a line, brace by brace.
use Rattle.std.proofs.Common.{◌≡◌, ◌<◌, ◌≤◌, ◌+◌, ◌-◌, ℕ, suc, [], ◌∷◌, Option, Some, None, sym, ap, ◌∙◌, arith}
use Rattle.std.specs.Prelude.{codes}
use Rattle.cxx_page.specs.Sheets.{and_then, put, Sheet}
use Rattle.cxx_page.proofs.Put.{put_more, put_none}
use Rattle.cxx_reading.specs.declared.role.Role.TheVariants as role
use Rattle.cxx_reading.specs.Words.{Word}
use Rattle.cxx_statement_text.specs.Statements.{indent}

abbrev pub one : Word
one = record { role = role.Leads; spelling = codes "  " }

cut : (depth n : ℕ) (page : Sheet) → n < depth → put (indent (depth - n)) page ≡ and_then (put (one ∷ []) page) (put (indent (depth - (n + 1))))
cut depth n page within =
    let e : depth - n ≡ suc (depth - (n + 1)) = omega arith in
    ap (λ k. put (indent k) page) e ∙ put_more one (indent (depth - (n + 1))) page

pub goes_on : (depth n : ℕ) (page new : Sheet) (whole : Option Sheet) → n < depth → put (indent (depth - n)) page ≡ whole → put (one ∷ []) page ≡ Some new → put (indent (depth - (n + 1))) new ≡ whole
goes_on depth n page new whole within so written = sym (ap (λ sheet. and_then sheet (put (indent (depth - (n + 1))))) written) ∙ (sym (cut depth n page within) ∙ so)

pub no_room : (depth n : ℕ) (page : Sheet) (whole : Option Sheet) → n < depth → put (indent (depth - n)) page ≡ whole → put (one ∷ []) page ≡ None → whole ≡ None
no_room depth n page whole within so written = sym so ∙ (cut depth n page within ∙ ap (λ sheet. and_then sheet (put (indent (depth - (n + 1))))) written)

pub whole_written : (depth n : ℕ) (page : Sheet) (whole : Option Sheet) → depth ≤ n → put (indent (depth - n)) page ≡ whole → whole ≡ Some page
whole_written depth n page whole past so =
    let e : depth - n ≡ 0 = omega arith in
    sym so ∙ (ap (λ k. put (indent k) page) e ∙ put_none page)
