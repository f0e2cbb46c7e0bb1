-- The characters of strings, one after another.
use Rattle.std.specs.Prelude.{ℕ, zero, suc, ◌≡◌, ◌<◌, ◌+◌, Bool, true, false, not, ◌==◌, if◌then◌else◌, List, [], ◌∷◌, length, drop, refl}
use Rattle.std.proofs.Common.{ap, ◌∙◌, arith}
use Rattle.cxx_literals.specs.Escapes.{letter_at}
use Rattle.cxx_model.specs.Text.Spelling.{Value, Escape, escape}
use Rattle.cxx_expr.specs.Counting.{counts, opens, past}
use Rattle.cxx_expr.specs.Literals.{letters_in}

skipped : (o : Bool) (n : ℕ) (text : List ℕ) → letters_in o n text ≡ letters_in o zero (drop n text)
skipped o zero [] = refl
skipped o (suc n) [] = refl
skipped o zero (b ∷ text) = refl
skipped o (suc n) (b ∷ text) = skipped o n text

open_by : (b : ℕ) (text : List ℕ) (ends : Bool) → (if ends then letters_in false zero text else suc (letters_in true zero (drop (letter_at (b ∷ text)).len (b ∷ text)))) ≡ (if ends then 0 else 1) + letters_in (not ends) zero (if ends then text else drop (letter_at (b ∷ text)).len (b ∷ text))
open_by b text true = omega arith
open_by b text false = omega arith

letter_is : (b : ℕ) (text : List ℕ) → (if b == 92 then suc (letters_in true (escape text).len text) else suc (letters_in true zero text)) ≡ suc (letters_in true zero (drop (letter_at (b ∷ text)).len (b ∷ text)))
letter_is b text = by (b == 92)
  where
    found : Bool → Escape
    found escaped = if escaped then record { len = suc (escape text).len; is = (escape text).is } else record { len = 1; is = Value b }

    by : (escaped : Bool) → (if escaped then suc (letters_in true (escape text).len text) else suc (letters_in true zero text)) ≡ suc (letters_in true zero (drop (found escaped).len (b ∷ text)))
    by true = ap suc (skipped true (escape text).len text)
    by false = refl

-- what is counted of a text, and what of the rest
pub counted_step : (o : Bool) (text : List ℕ) → 0 < length text → letters_in o zero text ≡ counts o text + letters_in (opens o text) zero (past o text)
counted_step o [] some = absurd (omega (arith, some))
counted_step false (b ∷ text) some = omega arith
counted_step true (b ∷ text) some = ap (λ n. if b == 34 then letters_in false zero text else n) (letter_is b text) ∙ open_by b text (b == 34)
