-- Lists of declarations by keys, all of them empty but for finitely many.
use Rattle.std.specs.Prelude.{◌≡◌, Bool, if◌then◌else◌, List, [], ◌∷◌, ◌++◌, Option, Some, None}
use Rattle.std.specs.Global.{Vec}
use Rattle.std.specs.Map.{lookup}
use Rattle.cxx_model.specs.declared.types.FactId.{FactId}

abbrev pub those_in : Option (Vec FactId) → List FactId
those_in None = []
those_in (Some values) = values.items

-- those under a key
abbrev pub row_by : {K : Type 0} → (K → K → Bool) → List (K × Vec FactId) → K → List FactId
row_by same entries key = those_in (lookup (same key) entries)

-- one more stands under a key, behind those that were there
abbrev pub IsMarkedMore : {K : Type 0} → (K → K → Bool) → List (K × Vec FactId) → List (K × Vec FactId) → K → FactId → Type 0
IsMarkedMore {K = K} same old new key number = (other : K) → row_by same new other ≡ (if same key other then row_by same old key ++ number ∷ [] else row_by same old other)
