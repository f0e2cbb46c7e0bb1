-- Strings as they are written one after another.
use Rattle.std.specs.Prelude.{◌≡◌, ◌<◌, ◌≤◌, ℕ, Bool, false, List, [], ◌∷◌, ◌++◌, length, take, drop, Option, Some, None}
use Rattle.std.specs.Global.{Vec}
use Rattle.cxx_model.specs.Text.Tokens.{fresh_past}
use Rattle.cxx_strings.specs.SideBySide.{Strings, strings_from}

-- one string more
abbrev pub with_next : List ℕ → List ℕ → List ℕ
with_next [] string = string
with_next (b ∷ done) string = b ∷ done ++ 32 ∷ string

abbrev pub with_all : List ℕ → List (List ℕ) → List ℕ
with_all done [] = done
with_all done (string ∷ others) = with_all (with_next done string) others

-- what is written in the end, if strings alone follow
abbrev pub written : List ℕ → Strings → Option (List ℕ)
written done None = None
written done (Some strings) = Some (with_all done strings)

-- what is written of a whole text
abbrev pub written_of : List ℕ → Option (List ℕ)
written_of text = written [] (strings_from 0 false text)

-- A piece of so many bytes was passed, and this stands written behind it; or what is no string stands there.
abbrev pub Passes : List ℕ → Bool → List ℕ → List ℕ → Option ℕ → Type 0
Passes done fresh rest new None = written done (strings_from 0 fresh rest) ≡ None
Passes done fresh rest new (Some len) =
    (0 < len) × (len ≤ length rest) × (written new (strings_from 0 (fresh_past (take len rest) fresh) (drop len rest)) ≡ written done (strings_from 0 fresh rest))

abbrev pub IsWritten : List ℕ → Option (Vec ℕ) → Type 0
IsWritten text None = written_of text ≡ None
IsWritten text (Some spaced) = written_of text ≡ Some spaced.items
