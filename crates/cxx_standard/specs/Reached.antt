-- The bases that the facts before a fact lead to.
use Rattle.std.specs.Prelude.{ℕ, ◌≡◌, ◌<◌, Bool, true, false, ◌&&◌, ◌||◌, nat_eq, nat_lt, List, All, Option, Some, None}
use Rattle.std.specs.List.{slice_get, list_any}
use Rattle.cxx_model.specs.declared.facts.Entity.{Entity}
use Rattle.cxx_model.specs.declared.facts.Entity.TheVariants as entity
use Rattle.cxx_model.specs.declared.facts.Fact.{Fact}
use Rattle.cxx_model.specs.declared.types.ClassId.{ClassId}
use Rattle.cxx_model.specs.declared.types.FactId.{FactId}
use Rattle.cxx_model.specs.Facts.Declarations as facts
use Rattle.cxx_model.specs.Facts.Declarations.{CxxFact, Declares}
use Rattle.cxx_meaning.specs.Conversions.Derived.{is_derived_before}

-- whether a fact names a base that passes a test
abbrev pub names_base : (ℕ → Bool) → Option CxxFact → Bool
names_base test None = false
names_base test (Some fact) = by fact.what
  where
    by : Declares → Bool
    by (facts.ancestor number parent index access) = test parent.0
    by _ = false

-- whether a fact names a base that is the class, or that was derived from it before
abbrev pub reaches : List CxxFact → ℕ → ℕ → Bool
reaches all base k = names_base (λ parent. nat_eq parent base || is_derived_before all k parent base) (slice_get all k)

abbrev pub parent_named : Entity → Option ClassId
parent_named (entity.Ancestor class parent index access) = Some parent
parent_named _ = None

abbrev pub parent_in : Option Fact → Option ClassId
parent_in None = None
parent_in (Some fact) = parent_named fact.what

-- the class that a fact names as a base
abbrev pub parent_at : List Fact → ℕ → Option ClassId
parent_at all k = parent_in (slice_get all k)

-- whether a fact before some count passes a test
abbrev pub passes_below : ℕ → (ℕ → Bool) → FactId → Bool
passes_below n good k = nat_lt k.0 n && good k.0

abbrev pub AreAllBelow : ℕ → List ℕ → Type 0
AreAllBelow count numbers = All (λ n. n < count) numbers

-- A number was taken: it passes the test, or what it leads to is noted in its place.
abbrev pub IsStep : (ℕ → Bool) → List ℕ → List ℕ → ℕ → Bool → Type 0
IsStep good old new number true = good number ≡ true
IsStep good old new number false = list_any good new ≡ (list_any good old || good number)
