-- Lists of numbers by number, all of them empty but for finitely many.
use Rattle.std.specs.Prelude.{ℕ, ◌≡◌, List, [], ◌∷◌, ◌++◌, slice_index_or}
use Rattle.cxx_model.specs.declared.types.FactId.{FactId}

abbrev pub row_at : List (List FactId) → ℕ → List FactId
row_at rows n = slice_index_or rows n []

-- the rows are the same
abbrev pub AreSameRows : List (List FactId) → List (List FactId) → Type 0
AreSameRows old new = (n : ℕ) → row_at new n ≡ row_at old n

-- one row has one more number at its end
pub record IsRowMore (old new : List (List FactId)) (n : ℕ) (number : FactId) : Type 0 where
  pub here : row_at new n ≡ row_at old n ++ number ∷ []
  pub others : (k : ℕ) → (k ≡ n → ⊥) → row_at new k ≡ row_at old k
