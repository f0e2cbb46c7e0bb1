-- What follows from a list of scopes, one turn after another.
use Rattle.std.proofs.Common.{◌≡◌, ℕ, suc, ◌+◌, ◌-◌, ◌<◌, ◌≤◌, List, [], ◌∷◌, length, Some, None, refl, ap, arith}
use Rattle.std.specs.List.{slice_get}
use Rattle.cxx_model.specs.declared.types.ScopeId.{ScopeId}
use Rattle.cxx_model.specs.declared.facts.Fact.{Fact}
use Rattle.cxx_model.specs.Types.Trees.{CxxType}
use Rattle.cxx_model.specs.Facts.Declarations.{facts_at}
use Rattle.cxx_meaning.specs.Lookups.Gathered.{spread, with_scopes}

length_at : (types : List CxxType) (facts : List Fact) → length (facts_at types facts) ≡ length facts
length_at types [] = refl
length_at types (fact ∷ facts) = ap suc (length_at types facts)

-- as many turns as there are facts: before the first one
pub turn_first : (next : ScopeId → List ScopeId) (types : List CxxType) (facts : List Fact) (found : List ScopeId) → spread next (length (facts_at types facts) - 0) 0 found ≡ spread next (length (facts_at types facts)) 0 found
turn_first next types facts found =
    let k : length (facts_at types facts) - 0 ≡ length (facts_at types facts) = omega arith in
    ap (λ room. spread next room 0 found) k

-- one more turn
pub turn_more : (next : ScopeId → List ScopeId) (types : List CxxType) (facts : List Fact) (place : ℕ) (found : List ScopeId) (scope : ScopeId) → place < length facts → slice_get found place ≡ Some scope → spread next (length (facts_at types facts) - place) place found ≡ spread next (length (facts_at types facts) - (place + 1)) (place + 1) (with_scopes found (next scope))
unfolding spread
turn_more next types facts place found scope lt at =
    let e = length_at types facts in
    let k : length (facts_at types facts) - place ≡ suc (length (facts_at types facts) - (place + 1)) = omega arith in
    rw (k, at) refl

-- nothing is left
pub turn_done : (next : ScopeId → List ScopeId) (types : List CxxType) (facts : List Fact) (place : ℕ) (found : List ScopeId) → place < length facts → slice_get found place ≡ None → spread next (length (facts_at types facts) - place) place found ≡ found
unfolding spread
turn_done next types facts place found lt at =
    let e = length_at types facts in
    let k : length (facts_at types facts) - place ≡ suc (length (facts_at types facts) - (place + 1)) = omega arith in
    rw (k, at) refl

-- no turn is left
pub turn_over : (next : ScopeId → List ScopeId) (types : List CxxType) (facts : List Fact) (place : ℕ) (found : List ScopeId) → length facts ≤ place → spread next (length (facts_at types facts) - place) place found ≡ found
unfolding spread
turn_over next types facts place found le =
    let e = length_at types facts in
    let k : length (facts_at types facts) - place ≡ 0 = omega arith in
    rw k refl
