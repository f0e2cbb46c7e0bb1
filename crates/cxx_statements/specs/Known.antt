-- Values that are kept by their order, beside the list of them.
use Rattle.std.specs.Prelude.{ℤ, ◌≡◌, List}
use Rattle.std.specs.List.{list_any}
use Rattle.std.specs.Ordering.{int_eq}
use Rattle.cxx_statements.specs.Statements.{has_value}

-- The same values are among both.
pub record AreKnown (known all : List ℤ) : Type 0 where
  pub same : (value : ℤ) → list_any (int_eq value) known ≡ has_value value all
