-- How many others than a member there are below a bound.
use Rattle.std.proofs.Common.{◌≡◌, ℕ, ◌+◌, ◌≤◌, ◌==◌, if◌then◌else◌, arith}
use Rattle.cxx_champion.specs.Contests.{others_below}

pub others_more : (member other : ℕ) → others_below member (other + 1) ≡ others_below member other + (if other == member then 0 else 1)
others_more member other = grind arith

pub others_within : (member low high : ℕ) → low ≤ high → others_below member low ≤ others_below member high
others_within member low high h = grind arith
