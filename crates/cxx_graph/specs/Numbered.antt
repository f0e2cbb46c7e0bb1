-- The numbers of the facts that pass a test, in order.
use Rattle.std.specs.Prelude.{ℕ, suc, Bool, false, List, [], ◌∷◌, if◌then◌else◌, nat_eq}
use Rattle.cxx_model.specs.declared.facts.Entity.{Entity}
use Rattle.cxx_model.specs.declared.facts.Entity.TheVariants as entity
use Rattle.cxx_model.specs.declared.facts.Fact.{Fact}
use Rattle.cxx_model.specs.declared.types.FactId.{FactId}

-- of some facts, the first of which has a number
abbrev pub numbers_from : ℕ → (Fact → Bool) → List Fact → List FactId
numbers_from n test [] = []
numbers_from n test (fact ∷ facts) = if test fact then record { 0 = n } ∷ numbers_from (suc n) test facts else numbers_from (suc n) test facts

abbrev pub numbers_of : (Fact → Bool) → List Fact → List FactId
numbers_of test facts = numbers_from 0 test facts

-- 3.3: whether a fact stands in the scope
abbrev pub is_in_scope : ℕ → Fact → Bool
is_in_scope scope fact = nat_eq fact.scope.0 scope

-- 10: whether a fact is of a direct base of the class
abbrev pub is_ancestor_of : ℕ → Fact → Bool
is_ancestor_of n fact = test fact.what
  where
    test : Entity → Bool
    test (entity.Ancestor class _ _ _) = nat_eq class.0 n
    test _ = false
