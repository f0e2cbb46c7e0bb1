-- One turn of a loop, as a loop of the code counts them.
use Rattle.std.specs.Prelude.{ℕ, zero, suc, ◌≡◌, ◌<◌, ◌≤◌, ◌+◌, ◌-◌, refl}
use Rattle.std.proofs.Common.{sym, subst, arith}
use Rattle.cxx_reading.specs.Reads.{Reads, Ahead, Turn, go_on, repeat, ◌>>=◌}

one_more : {S A B : Type 0} (step : A → Reads S (Turn A B)) (over : A → Reads S B) (n : ℕ) (a : A) (s : S) (x : Ahead) → repeat step over (suc n) a s x ≡ (step a >>= go_on (repeat step over n)) s x
unfolding repeat
one_more step over n a s x = refl

-- there is room for a turn
pub turn : {S A B : Type 0} (step : A → Reads S (Turn A B)) (over : A → Reads S B) (end i : ℕ) (a : A) (s : S) (x : Ahead) → i < end → repeat step over (end - i) a s x ≡ (step a >>= go_on (repeat step over (end - (i + 1)))) s x
turn step over end i a s x within =
    let count : end - i ≡ suc (end - (i + 1)) = omega arith in
    let P : ℕ → Type 0 = λ n. repeat step over n a s x ≡ (step a >>= go_on (repeat step over (end - (i + 1)))) s x in
    subst P (sym count) (one_more step over (end - (i + 1)) a s x)

-- and where there is none
pub no_turn : {S A B : Type 0} (step : A → Reads S (Turn A B)) (over : A → Reads S B) (end i : ℕ) (a : A) (s : S) (x : Ahead) → end ≤ i → repeat step over (end - i) a s x ≡ over a s x
unfolding repeat
no_turn step over end i a s x past =
    let count : end - i ≡ zero = omega arith in
    let P : ℕ → Type 0 = λ n. repeat step over n a s x ≡ over a s x in
    subst P (sym count) refl
