-- Where a number and a fact stand among ascending ones.
use Rattle.std.specs.Prelude.{ℕ, suc, nat_lt, if◌then◌else◌, List, [], ◌∷◌}
use Rattle.cxx_model.specs.declared.types.FactId.{FactId}

-- how many at the front are before this one
abbrev pub place_in : ℕ → List ℕ → ℕ
place_in number [] = 0
place_in number (x ∷ xs) = if nat_lt x number then suc (place_in number xs) else 0

abbrev pub fact_place_in : FactId → List FactId → ℕ
fact_place_in fact [] = 0
fact_place_in fact (x ∷ xs) = if nat_lt x.0 fact.0 then suc (fact_place_in fact xs) else 0
