-- The numbers of names in a text, by their declarations.
use Rattle.std.specs.Prelude.{ℕ, ◌≡◌, nat_eq, if◌then◌else◌, List, length}
use Rattle.std.specs.List.{list_any}
use Rattle.cxx_reading.specs.TextOrder.{number_in}
use Rattle.cxx_form.specs.Slots.{slot_at}

-- the number of a declaration, and 0 where its name does not stand in the text
abbrev pub slot_of : List ℕ → ℕ → ℕ
slot_of order n = if list_any (nat_eq n) order then number_in order n else 0

-- Numbers by the order in which names stand in the text: how many there are, and that of each declaration.
pub record IsNumbering (order : List ℕ) (most : ℕ) (slots : List ℕ) : Type 0 where
  pub count : most ≡ length order
  pub each : (n : ℕ) → slot_at slots n ≡ slot_of order n
