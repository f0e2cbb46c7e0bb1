-- A multiple of an alignment.
use Rattle.std.specs.Prelude.{ℕ, ◌≤◌, ◌*◌, ◌/◌}
use Rattle.std.proofs.Math.Nat.{div-mul-le_self}

pub rounded_within : (n m : ℕ) → n / m * m ≤ n
rounded_within n m = div-mul-le_self n m
