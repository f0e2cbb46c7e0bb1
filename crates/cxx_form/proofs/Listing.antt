-- Lines that are written one after another.
use Rattle.std.proofs.Common.{◌≡◌, List, [], ◌∷◌, ◌++◌, true, false, Option, Some, None, refl, sym, ap, ◌∙◌, append_assoc}
use Rattle.cxx_page.specs.Sheets.{and_then, put_line, put_lines, Sheet}
use Rattle.cxx_page.specs.Sides.{comma_unless}
use Rattle.cxx_reading.specs.Words.{Word}
use Rattle.cxx_statement_text.specs.Statements.{Lines}
use Rattle.cxx_phrase_text.specs.Listed.{listed_words}
use Rattle.cxx_form.specs.Parts.{is_none}

then_some : (one : Option Sheet) → and_then one (put_lines []) ≡ one
unfolding put_lines
then_some None = refl
then_some (Some sheet) = refl

pub one_line : (words : List Word) (sheet : Sheet) → put_lines (words ∷ []) sheet ≡ put_line words sheet
unfolding put_lines
one_line words sheet = then_some (put_line words sheet)

pub line_then : (words : List Word) (others : Lines) (sheet : Sheet) → put_lines (words ∷ others) sheet ≡ and_then (put_line words sheet) (put_lines others)
unfolding put_lines
line_then words others sheet = refl

pub no_lines : (sheet : Sheet) → put_lines [] sheet ≡ Some sheet
unfolding put_lines
no_lines sheet = refl

-- ---- lists with commas

later_listed : (ones twos : List (List Word)) → listed_words false (ones ++ twos) ≡ listed_words false ones ++ listed_words false twos
later_listed [] twos = refl
later_listed (one ∷ ones) twos = ap (λ (ws : List Word). (comma_unless false ++ one) ++ ws) (later_listed ones twos) ∙ sym (append_assoc (comma_unless false ++ one) (listed_words false ones) (listed_words false twos))

pub both_listed : (ones twos : List (List Word)) → listed_words true (ones ++ twos) ≡ listed_words true ones ++ listed_words (is_none ones) twos
both_listed [] twos = refl
both_listed (one ∷ ones) twos = ap (λ (ws : List Word). one ++ ws) (later_listed ones twos) ∙ sym (append_assoc one (listed_words false ones) (listed_words false twos))
