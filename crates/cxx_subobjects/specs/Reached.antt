-- The facts of the bases of a class, and of theirs.
use Rattle.std.specs.Prelude.{ℕ, ◌≡◌, ◌<◌, ◌≤◌, Bool, true, false, ◌||◌, nat_eq, List, [], ◌∷◌, ◌++◌, All, length, Option, Some, None}
use Rattle.std.specs.List.{list_any}
use Rattle.cxx_model.specs.declared.facts.Fact.{Fact}
use Rattle.cxx_subobjects.specs.declared.direct.DirectBase.{DirectBase}
use Rattle.cxx_subobjects.specs.Direct.{direct_base_at, through_base}
use Rattle.cxx_subobjects.specs.Paths.{own_path}

abbrev pub has : List ℕ → ℕ → Bool
has numbers j = list_any (nat_eq j) numbers

abbrev pub AreAllBelow : ℕ → List ℕ → Type 0
AreAllBelow count numbers = All (λ n. n < count) numbers

-- what was taken, or waits
abbrev pub noted : List ℕ → List ℕ → ℕ → Bool
noted order waiting j = has order j || has waiting j

abbrev pub is_of : ℕ → Option DirectBase → Bool
is_of class None = false
is_of class (Some direct) = nat_eq direct.class.0 class

-- the facts of the bases of a class that are before a count pass a test
abbrev pub AreNoted : List Fact → (ℕ → Bool) → ℕ → ℕ → Type 0
AreNoted facts test class before = (j : ℕ) → j < before → is_of class (direct_base_at facts j) ≡ true → test j ≡ true

-- the same of the base that a fact names, for the facts before that one
abbrev pub IsFollowedBy : List Fact → (ℕ → Bool) → ℕ → Option DirectBase → Type 0
IsFollowedBy facts test k None = Unit {0}
IsFollowedBy facts test k (Some direct) = AreNoted facts test direct.parent.0 k

abbrev pub IsFollowed : List Fact → (ℕ → Bool) → ℕ → Type 0
IsFollowed facts test k = IsFollowedBy facts test k (direct_base_at facts k)

-- the same of each class that was seen
abbrev pub SeenAreNoted : List Fact → (ℕ → Bool) → List ℕ → List ℕ → ℕ → Type 0
SeenAreNoted facts seen order waiting before = (class : ℕ) → seen class ≡ true → AreNoted facts (noted order waiting) class before

-- each number is above those behind it
abbrev pub Descends : List ℕ → Type 0
Descends [] = Unit {0}
Descends (k ∷ ks) = ((j : ℕ) → has ks j ≡ true → j < k) × Descends ks

-- A walk downward: what waits is below what was taken, and what follows from the class and from what was taken is noted,
-- but for what was taken before the last numbers were followed.
pub record IsWalk (facts : List Fact) (class : ℕ) (order waiting : List ℕ) (seen : ℕ → Bool) (bound from : ℕ) : Type 0 where
  pub within : bound ≤ length facts
  pub below : AreAllBelow bound waiting
  pub above : (k : ℕ) → has order k ≡ true → bound ≤ k
  pub inside : (k : ℕ) → has order k ≡ true → k < length facts
  pub descends : Descends order
  pub start : AreNoted facts (noted order waiting) class (length facts)
  pub known : SeenAreNoted facts seen order waiting bound
  pub each : (k : ℕ) → has order k ≡ true → from ≤ k → IsFollowed facts (noted order waiting) k

-- the facts of the bases of a class, of the bases of these, and so on, the greatest number first
pub record IsTrail (facts : List Fact) (class : ℕ) (order : List ℕ) : Type 0 where
  pub inside : (k : ℕ) → has order k ≡ true → k < length facts
  pub descends : Descends order
  pub start : AreNoted facts (has order) class (length facts)
  pub each : (k : ℕ) → has order k ≡ true → IsFollowed facts (has order) k

-- the paths to a base class by some facts, of which the last one comes first
abbrev pub along : List Fact → ℕ → List ℕ → ℕ → List (List ℕ)
along facts base [] class = own_path class base
along facts base (k ∷ ks) class = along facts base ks class ++ through_base (along facts base ks) class (direct_base_at facts k)
