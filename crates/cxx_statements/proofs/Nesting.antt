-- The readers behind a bracket, by how much room is left.
use Rattle.std.specs.Prelude.{ℕ, suc, ◌≡◌, ◌<◌, ◌-◌, refl}
use Rattle.std.proofs.Common.{sym, subst, arith}
use Rattle.cxx_statements.specs.Statements.{Parts, too_deep, within, within_by}

pub within_zero : {S : Type 0} (asks : ℕ → Parts S) → within asks 0 ≡ too_deep
unfolding within
within_zero asks = refl

one_more : {S : Type 0} (asks : ℕ → Parts S) (room : ℕ) → within asks (suc room) ≡ within_by (asks room) (within asks room)
unfolding within
one_more asks room = refl

pub within_more : {S : Type 0} (asks : ℕ → Parts S) (room : ℕ) → 0 < room → within asks room ≡ within_by (asks (room - 1)) (within asks (room - 1))
within_more asks room some =
    let count : room ≡ suc (room - 1) = omega (arith, some) in
    let P : ℕ → Type 0 = λ n. within asks n ≡ within_by (asks (room - 1)) (within asks (room - 1)) in
    subst P (sym count) (one_more asks (room - 1))
