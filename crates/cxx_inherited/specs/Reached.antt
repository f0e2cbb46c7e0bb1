-- The facts of bases that matter for what a class has: those of the class, and on from each base that does not itself declare
-- the name.
use Rattle.std.specs.Prelude.{ℕ, ◌≡◌, ◌<◌, ◌≤◌, Bool, true, false, ◌&&◌, ◌||◌, nat_eq, nat_lt, List, [], ◌∷◌, length, All, Option, Some, None}
use Rattle.std.specs.List.{list_any, slice_get}
use Rattle.cxx_model.specs.declared.types.ClassId.{ClassId}
use Rattle.cxx_model.specs.declared.types.FactId.{FactId}
use Rattle.cxx_model.specs.declared.facts.Entity.{Entity}
use Rattle.cxx_model.specs.declared.facts.Entity.TheVariants as entity
use Rattle.cxx_model.specs.declared.facts.Fact.{Fact}
use Rattle.cxx_model.specs.Facts.Declarations as facts
use Rattle.cxx_model.specs.Facts.Declarations.{CxxFact, Declares}
use Rattle.cxx_meaning.specs.Lookups.Member.{same_class}

-- 10: whether a fact is of a direct base of the class
abbrev pub is_base_of : ClassId → Option CxxFact → Bool
is_base_of class None = false
is_base_of class (Some fact) = by fact.what
  where
    by : Declares → Bool
    by (facts.ancestor derived parent index access) = same_class derived class
    by _ = false

-- the class that a fact names as a base
abbrev pub parent_in : Option CxxFact → Option ClassId
parent_in None = None
parent_in (Some fact) = by fact.what
  where
    by : Declares → Option ClassId
    by (facts.ancestor derived parent index access) = Some parent
    by _ = None

abbrev pub parent_named : Entity → Option ClassId
parent_named (entity.Ancestor class parent index access) = Some parent
parent_named _ = None

abbrev pub holds : List ℕ → ℕ → Bool
holds numbers n = list_any (nat_eq n) numbers

abbrev pub holds_either : List ℕ → List ℕ → ℕ → Bool
holds_either ones twos n = holds ones n || holds twos n

-- The facts of the bases of a class before some number are among some, where the class does not declare the name.
abbrev pub Covers : (ClassId → Bool) → List CxxFact → (ℕ → Bool) → ℕ → ClassId → Type 0
Covers declares all among before class = declares class ≡ false → (n : ℕ) → n < before → is_base_of class (slice_get all n) ≡ true → among n ≡ true

-- the same of a class, where there is one
abbrev pub CoversSome : (ClassId → Bool) → List CxxFact → (ℕ → Bool) → ℕ → Option ClassId → Type 0
CoversSome declares all among before None = Unit {0}
CoversSome declares all among before (Some class) = Covers declares all among before class

-- the same of the base that each of some facts names
abbrev pub AreCovered : (ClassId → Bool) → List CxxFact → (ℕ → Bool) → List ℕ → Type 0
AreCovered declares all among [] = Unit {0}
AreCovered declares all among (n ∷ others) = CoversSome declares all among n (parent_in (slice_get all n)) × AreCovered declares all among others

-- Each of some numbers is below the one before it, and the first below a bound.
abbrev pub Descends : ℕ → List ℕ → Type 0
Descends bound [] = Unit {0}
Descends bound (n ∷ others) = (n < bound) × Descends n others

-- the last of some numbers, or one at hand
abbrev pub last_or : ℕ → List ℕ → ℕ
last_or bound [] = bound
last_or bound (n ∷ others) = last_or n others

-- These are the facts that matter for a class, the last first.
pub record IsReached (declares : ClassId → Bool) (all : List CxxFact) (bound : ℕ) (class : ClassId) (numbers : List ℕ) : Type 0 where
  pub descends : Descends bound numbers
  pub closed : AreCovered declares all (holds numbers) numbers
  pub covers : Covers declares all (holds numbers) bound class

abbrev pub AreAllBelow : ℕ → List ℕ → Type 0
AreAllBelow count numbers = All (λ n. n < count) numbers

-- whether a fact before some count passes a test
abbrev pub passes_below : ℕ → (ℕ → Bool) → FactId → Bool
passes_below n good k = nat_lt k.0 n && good k.0

-- Some of them were reached, and others wait.
pub record IsGathering (declares : ClassId → Bool) (all : List CxxFact) (bound now : ℕ) (class : ClassId) (reached waiting : List ℕ) : Type 0 where
  pub within : now ≤ bound
  pub below : AreAllBelow now waiting
  pub descends : Descends bound reached
  pub at_end : last_or bound reached ≡ now
  pub closed : AreCovered declares all (holds_either reached waiting) reached
  pub covers : Covers declares all (holds_either reached waiting) bound class
