-- Expressions of binary operators, by the level of these.
use Rattle.std.specs.Prelude.{ℕ, zero, suc, ◌≡◌, ◌<◌, ◌-◌, refl}
use Rattle.std.proofs.Common.{sym, subst, arith}
use Rattle.cxx_phrases.specs.Levels.{binary_at, member_operand, operations_part}
use Rattle.cxx_phrases.specs.Phrases.{Phrases, Inner}
use Rattle.cxx_reading.specs.Reads.{Ahead}

pub binary_zero : {S : Type 0} (asks : Phrases S) (inner : Inner S) (level : ℕ) (state : S) (ahead : Ahead) → level ≡ 0 → binary_at asks inner level state ahead ≡ member_operand asks inner state ahead
unfolding binary_at
binary_zero asks inner zero state ahead none = refl
binary_zero asks inner (suc level) state ahead none = absurd (omega (arith, none))

pub binary_more : {S : Type 0} (asks : Phrases S) (inner : Inner S) (level : ℕ) (state : S) (ahead : Ahead) → 0 < level → binary_at asks inner level state ahead ≡ operations_part asks (binary_at asks inner (level - 1)) level state ahead
unfolding binary_at
binary_more asks inner zero state ahead some = absurd (omega (arith, some))
binary_more asks inner (suc level) state ahead some =
    let same : suc level - 1 ≡ level = omega arith in
    subst (λ n. binary_at asks inner (suc level) state ahead ≡ operations_part asks (binary_at asks inner n) (suc level) state ahead) (sym same) refl
