-- Values that are written, as the code hands them on.
use Rattle.std.proofs.Common.{◌≡◌, List, [], ◌∷◌, ◌++◌, Option, Some, sym, ap, subst, ◌∙◌}
use Rattle.std.specs.Prelude.{ℤ, Result}
use Rattle.cxx_page.specs.declared.fault.PlainFault.{PlainFault}
use Rattle.cxx_page.specs.Sheets.{and_then, put, Sheet, Writes}
use Rattle.cxx_page.proofs.Put.{put_append}
use Rattle.cxx_reading.specs.Words.{Word}

-- behind other words
pub value_behind_words : (result : Result (Unit {0}) PlainFault) (page between new : Sheet) (ones : List Word) (words : ℤ → List Word) (value handed : ℤ) → handed ≡ value → put ones page ≡ Some between → Writes result new (put (words handed) between) → Writes result new (put (ones ++ words value) page)
value_behind_words result page between new ones words value handed same first written =
    subst (λ (one : Option Sheet). Writes result new one) (sym (put_append ones (words value) page ∙ ap (λ one. and_then one (put (words value))) first))
    (subst (λ (v : ℤ). Writes result new (put (words v) between)) same written)

-- before other words
pub words_behind_value : (result : Result (Unit {0}) PlainFault) (page between new : Sheet) (words : ℤ → List Word) (others : List Word) (value handed : ℤ) → handed ≡ value → put (words handed) page ≡ Some between → Writes result new (put others between) → Writes result new (put (words value ++ others) page)
words_behind_value result page between new words others value handed same first written =
    let now : put (words value) page ≡ Some between = ap (λ (v : ℤ). put (words v) page) (sym same) ∙ first in
    subst (λ (one : Option Sheet). Writes result new one) (sym (put_append (words value) others page ∙ ap (λ one. and_then one (put others)) now)) written

pub put_two : (one two : Word) (words : List Word) (sheet : Sheet) → put (one ∷ two ∷ words) sheet ≡ and_then (put (one ∷ two ∷ []) sheet) (put words)
put_two one two words sheet = put_append (one ∷ two ∷ []) words sheet
