-- What is gathered from the facts of a graph, and lists without repetition.
use Rattle.std.specs.Prelude.{ℕ, zero, suc, ◌+◌, Bool, nat_eq, nat_lt, if◌then◌else◌, List, [], ◌∷◌, ◌++◌, Option, Some, None}
use Rattle.std.specs.List.{slice_get, list_any}
use Rattle.cxx_model.specs.declared.types.FactId.{FactId}
use Rattle.cxx_model.specs.declared.types.ScopeId.{ScopeId}
use Rattle.cxx_model.specs.Facts.Declarations.{CxxFact}

-- before a list, where it is there
abbrev pub before : {A : Type 0} → Option A → List A → List A
before None others = others
before (Some x) others = x ∷ others

-- what a function of a fact and its number gives, at each of some facts, the first of which has a number
abbrev pub gathered : {A : Type 0} → (ℕ → CxxFact → Option A) → ℕ → List CxxFact → List A
gathered give number [] = []
gathered give number (fact ∷ others) = before (give number fact) (gathered give (number + 1) others)

-- ---- lists of scopes without repetition

abbrev pub same_scope : ScopeId → ScopeId → Bool
same_scope one two = nat_eq one.0 two.0

abbrev pub holds_scope : List ScopeId → ScopeId → Bool
holds_scope scopes scope = list_any (same_scope scope) scopes

abbrev pub with_scope : List ScopeId → ScopeId → List ScopeId
with_scope scopes scope = if holds_scope scopes scope then scopes else scopes ++ scope ∷ []

-- a list with those of another that it does not hold, at its end
unfoldable pub with_scopes : List ScopeId → List ScopeId → List ScopeId
with_scopes scopes [] = scopes
with_scopes scopes (scope ∷ others) = with_scopes (with_scope scopes scope) others

-- What follows from a list of scopes, each once: every scope of it, in turn, adds those to which it leads. There are no
-- more turns than the first number says.
unfoldable pub spread : (ScopeId → List ScopeId) → ℕ → ℕ → List ScopeId → List ScopeId
spread next zero place found = found
spread next (suc room) place found = by (slice_get found place) (λ scope. spread next room (place + 1) (with_scopes found (next scope)))
  where
    by : Option ScopeId → (ScopeId → List ScopeId) → List ScopeId
    by None go_on = found
    by (Some scope) go_on = go_on scope

-- ---- ascending lists of facts, each once

abbrev pub with_fact : FactId → List FactId → List FactId
with_fact fact [] = fact ∷ []
with_fact fact (x ∷ xs) = if nat_lt x.0 fact.0 then x ∷ with_fact fact xs else if nat_eq x.0 fact.0 then x ∷ xs else fact ∷ x ∷ xs

unfoldable pub with_facts : List FactId → List FactId → List FactId
with_facts facts [] = facts
with_facts facts (x ∷ xs) = with_facts (with_fact x facts) xs
