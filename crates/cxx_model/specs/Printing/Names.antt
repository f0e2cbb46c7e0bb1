-- Printed names: a stem, `__` and a number.
use Rattle.std.specs.Prelude.{ℕ, Bool, false, ◌&&◌, if◌then◌else◌, ◌==◌, List, [], ◌∷◌, ◌++◌, codes, decimal}
use Rattle.std.specs.List.{list_all}
use Rattle.std.specs.Char.{is_ascii_digit}

abbrev pub is_digits : List ℕ → Bool
is_digits [] = false
is_digits (b ∷ text) = is_ascii_digit b && list_all is_ascii_digit text

-- `__` and one or more digits
abbrev pub is_tag : List ℕ → Bool
is_tag [] = false
is_tag (a ∷ []) = false
is_tag (a ∷ b ∷ text) = a == 95 && b == 95 && is_digits text

-- a name without the tag at its end
abbrev pub untagged : List ℕ → List ℕ
untagged [] = []
untagged (b ∷ text) = if is_tag (b ∷ text) then [] else b ∷ untagged text

abbrev pub or_n : List ℕ → List ℕ
or_n [] = codes "n"
or_n (b ∷ text) = b ∷ text

-- a stem that would be empty is `n`
unfoldable pub stem : List ℕ → List ℕ
stem word = or_n (untagged word)

unfoldable pub printed_name : ℕ → List ℕ → List ℕ
printed_name number word = stem word ++ codes "__" ++ decimal number
