-- Where a fact stands among ascending ones.
use Rattle.std.specs.Prelude.{ℕ, suc, nat_lt, if◌then◌else◌, List, [], ◌∷◌}
use Rattle.cxx_model.specs.declared.types.FactId.{FactId}

-- how many facts at the front are before this one
abbrev pub place_in : FactId → List FactId → ℕ
place_in fact [] = 0
place_in fact (x ∷ xs) = if nat_lt x.0 fact.0 then suc (place_in fact xs) else 0
