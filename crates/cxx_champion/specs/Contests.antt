-- Which of several members is better than every other. The members are numbers below a size, and a test says which of
-- two beats the other.
use Rattle.std.specs.Prelude.{◌≡◌, ◌≢◌, ℕ, ◌+◌, ◌-◌, ◌<◌, Bool, true, false, if◌then◌else◌, nat_lt, Option, Some, None}

-- never do two members beat each other
abbrev pub IsAsymmetric : (ℕ → ℕ → Bool) → ℕ → Type 0
IsAsymmetric beats size = (i j : ℕ) → i < size → j < size → beats i j ≡ true → beats j i ≡ false

-- it beats every other member
pub record IsBest (beats : ℕ → ℕ → Bool) (size member : ℕ) : Type 0 where
  pub within : member < size
  pub beats_others : (other : ℕ) → other < size → other ≢ member → beats member other ≡ true

-- another member that this one does not beat
pub record IsCounter (beats : ℕ → ℕ → Bool) (size member other : ℕ) : Type 0 where
  pub within : other < size
  pub apart : other ≢ member
  pub unbeaten : beats member other ≡ false

-- every other member below a bound is beaten
abbrev pub BeatsBelow : (ℕ → ℕ → Bool) → ℕ → ℕ → Type 0
BeatsBelow beats member bound = (other : ℕ) → other < bound → other ≢ member → beats member other ≡ true

-- the least of the other members that this one does not beat, or none
abbrev pub IsLeastCounter : (ℕ → ℕ → Bool) → ℕ → ℕ → Option ℕ → Type 0
IsLeastCounter beats size member None = BeatsBelow beats member size
IsLeastCounter beats size member (Some other) = IsCounter beats size member other × BeatsBelow beats member other

-- ---- how many comparisons are made

-- the members below a bound that are other than this one
abbrev pub others_below : ℕ → ℕ → ℕ
others_below member bound = if nat_lt member bound then bound - 1 else bound

-- where a member is compared with the others in turn, up to its least counter
abbrev pub comparisons_to : ℕ → ℕ → Option ℕ → ℕ
comparisons_to size member None = others_below member size
comparisons_to size member (Some other) = others_below member (other + 1)

-- ---- the champion of those that were compared

-- it beats those compared after it, and no other of those compared is the best
pub record IsStanding (beats : ℕ → ℕ → Bool) (size compared champion : ℕ) : Type 0 where
  pub within : champion < compared
  pub beats_later : (other : ℕ) → champion < other → other < compared → beats champion other ≡ true
  pub others_lose : (other : ℕ) → other < compared → other ≢ champion → ¬ IsBest beats size other
