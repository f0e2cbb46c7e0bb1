-- Lists by key, all of them empty but for finitely many.
use Rattle.std.specs.Prelude.{◌≡◌, Bool, if◌then◌else◌, List, [], ◌∷◌, ◌++◌, Option, Some, None}
use Rattle.std.specs.Global.{Vec}
use Rattle.std.specs.Map.{lookup}

abbrev pub those_in : {V : Type 0} → Option (Vec V) → List V
those_in None = []
those_in (Some values) = values.items

-- what is filed under a key
abbrev pub row : {K V : Type 0} → (K → K → Bool) → List (K × Vec V) → K → List V
row same entries key = those_in (lookup (same key) entries)

-- the same is filed under each key
abbrev pub AreSame : {K V : Type 0} → (K → K → Bool) → List (K × Vec V) → List (K × Vec V) → Type 0
AreSame {K = K} same old new = (key : K) → row same new key ≡ row same old key

-- one more value is filed under a key, behind what was there
abbrev pub IsMore : {K V : Type 0} → (K → K → Bool) → List (K × Vec V) → List (K × Vec V) → K → V → Type 0
IsMore {K = K} same old new key value = (other : K) → row same new other ≡ (if same key other then row same old key ++ value ∷ [] else row same old other)

-- one more value is filed, where there is one
abbrev pub IsMoreBy : {K V : Type 0} → (K → K → Bool) → List (K × Vec V) → List (K × Vec V) → Option (K × V) → Type 0
IsMoreBy same old new None = AreSame same old new
IsMoreBy same old new (Some entry) = IsMore same old new entry.0 entry.1
