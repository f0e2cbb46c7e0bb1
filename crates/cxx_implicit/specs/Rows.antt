-- Lists of classes by number, all of them empty but for finitely many.
use Rattle.std.specs.Prelude.{ℕ, ◌≡◌, List, [], ◌∷◌, ◌++◌, slice_index_or}
use Rattle.cxx_model.specs.declared.types.ClassId.{ClassId}

abbrev pub row_at : List (List ClassId) → ℕ → List ClassId
row_at rows n = slice_index_or rows n []

-- the rows are the same
abbrev pub AreSameRows : List (List ClassId) → List (List ClassId) → Type 0
AreSameRows old new = (n : ℕ) → row_at new n ≡ row_at old n

-- one row has one more class at its end
pub record IsRowMore (old new : List (List ClassId)) (n : ℕ) (class : ClassId) : Type 0 where
  pub here : row_at new n ≡ row_at old n ++ class ∷ []
  pub others : (k : ℕ) → (k ≡ n → ⊥) → row_at new k ≡ row_at old k
