-- Words that are written one run after another.
use Rattle.std.proofs.Common.{◌≡◌, List, [], ◌∷◌, ◌++◌, Option, Some, None, refl, sym, ◌∙◌}
use Rattle.cxx_reading.specs.Words.{Word}
use Rattle.cxx_page.specs.Sheets.{Sheet, and_then, put_word, put}

and_then_and : (one : Option Sheet) (f g : Sheet → Option Sheet) → and_then (and_then one f) g ≡ and_then one (λ sheet. and_then (f sheet) g)
and_then_and None f g = refl
and_then_and (Some sheet) f g = refl

and_then_same : (one : Option Sheet) (f g : Sheet → Option Sheet) → ((sheet : Sheet) → f sheet ≡ g sheet) → and_then one f ≡ and_then one g
and_then_same None f g same = refl
and_then_same (Some sheet) f g same = same sheet

pub put_append : (ones twos : List Word) (sheet : Sheet) → put (ones ++ twos) sheet ≡ and_then (put ones sheet) (put twos)
unfolding put
put_append [] twos sheet = refl
put_append (word ∷ ones) twos sheet =
    and_then_same (put_word word sheet) (put (ones ++ twos)) (λ next. and_then (put ones next) (put twos)) (put_append ones twos)
    ∙ sym (and_then_and (put_word word sheet) (put ones) (put twos))

pub put_more : (word : Word) (words : List Word) (sheet : Sheet) → put (word ∷ words) sheet ≡ and_then (put (word ∷ []) sheet) (put words)
put_more word words sheet = put_append (word ∷ []) words sheet

pub put_none : (sheet : Sheet) → put [] sheet ≡ Some sheet
unfolding put
put_none sheet = refl

pub put_two_and_two : (one two three four : Word) (sheet : Sheet) → put (one ∷ two ∷ three ∷ four ∷ []) sheet ≡ and_then (put (one ∷ two ∷ []) sheet) (put (three ∷ four ∷ []))
put_two_and_two one two three four sheet = put_append (one ∷ two ∷ []) (three ∷ four ∷ []) sheet
