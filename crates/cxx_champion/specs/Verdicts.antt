-- What is answered of a contest.
use Rattle.std.specs.Prelude.{◌≡◌, ℕ, ◌+◌, ◌-◌, ◌<◌, Bool}
use Rattle.cxx_champion.specs.Contests.{IsBest, IsCounter}
use Rattle.cxx_champion.specs.declared.Verdict.{Verdict}
use Rattle.cxx_champion.specs.declared.Verdict.TheVariants.{Best, NoBest, Empty}

-- a contest with this verdict: the best member, or one that is not best, as its counter shows, where none is
abbrev pub IsVerdict : (ℕ → ℕ → Bool) → ℕ → Verdict → Type 0
IsVerdict beats size (Best member) = IsBest beats size member
IsVerdict beats size (NoBest champion counter) = (champion < size) × IsCounter beats size champion counter × ((member : ℕ) → ¬ IsBest beats size member)
IsVerdict beats size Empty = size ≡ 0

-- Each member is compared once with the champion of those before it, and the last champion with those before it up to
-- its counter.
abbrev pub comparisons : ℕ → Verdict → ℕ
comparisons size (Best member) = size - 1 + member
comparisons size (NoBest champion counter) = size - 1 + (counter + 1)
comparisons size Empty = 0
