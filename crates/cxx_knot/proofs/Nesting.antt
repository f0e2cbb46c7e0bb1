-- The readers behind a bracket, by how much room is left.
use Rattle.std.specs.Prelude.{ℕ, suc, ◌≡◌, ◌<◌, ◌-◌, refl}
use Rattle.std.proofs.Common.{sym, subst, arith}
use Rattle.cxx_knot.specs.Readers.{Asking, both, both_by, too_deep}

pub both_zero : {S : Type 0} (asks : ℕ → Asking S) → both asks 0 ≡ too_deep
unfolding both
both_zero asks = refl

one_more : {S : Type 0} (asks : ℕ → Asking S) (room : ℕ) → both asks (suc room) ≡ both_by (asks room) room (both asks room)
unfolding both
one_more asks room = refl

pub both_more : {S : Type 0} (asks : ℕ → Asking S) (room : ℕ) → 0 < room → both asks room ≡ both_by (asks (room - 1)) (room - 1) (both asks (room - 1))
both_more asks room some =
    let count : room ≡ suc (room - 1) = omega (arith, some) in
    let P : ℕ → Type 0 = λ n. both asks n ≡ both_by (asks (room - 1)) (room - 1) (both asks (room - 1)) in
    subst P (sym count) (one_more asks (room - 1))
