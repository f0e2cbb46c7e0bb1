-- The value of an enumerator after the last one.
use Rattle.std.specs.Prelude.{ℕ, zero, suc, ℤ, pos, ◌≡◌, ◌-◌, length, Option, Some, None, IfSome, List, [], ◌∷◌, refl}
use Rattle.std.specs.List.{slice_get}
use Rattle.std.proofs.Common.{ap, sym, subst, ◌∙◌, arith}
use Rattle.cxx_reading.specs.Declaring.{implicit_value, next_integer}

pub last_next : (values : List ℤ) (k : ℕ) (x : ℤ) → k ≡ length values - 1 → slice_get values k ≡ Some x → implicit_value values ≡ next_integer x
last_next [] k x is at = absurd (cc)
last_next (v ∷ []) k x is at = (let e : k ≡ zero = omega arith in let there : slice_get (v ∷ []) zero ≡ Some x = subst (λ i. slice_get (v ∷ []) i ≡ Some x) e at in let same : v ≡ x = cc in ap next_integer same)
last_next (v ∷ w ∷ values) k x is at = (let e : k ≡ suc (length (w ∷ values) - 1) = omega arith in last_next (w ∷ values) (length (w ∷ values) - 1) x refl (subst (λ i. slice_get (v ∷ w ∷ values) i ≡ Some x) e at))

pub none_next : (values : List ℤ) (k : ℕ) → k ≡ length values - 1 → slice_get values k ≡ None → pos zero ≡ implicit_value values
none_next [] k is at = refl
none_next (v ∷ []) k is at = (let e : k ≡ zero = omega arith in let there : slice_get (v ∷ []) zero ≡ None = subst (λ i. slice_get (v ∷ []) i ≡ None) e at in absurd (cc))
none_next (v ∷ w ∷ values) k is at = (let e : k ≡ suc (length (w ∷ values) - 1) = omega arith in none_next (w ∷ values) (length (w ∷ values) - 1) refl (subst (λ i. slice_get (v ∷ w ∷ values) i ≡ None) e at))

pub next_if : (r : Option ℤ) (one two : ℤ) → two ≡ one → IfSome r (λ next. next ≡ one) → IfSome r (λ next. next ≡ two)
next_if None one two same ok = tt
next_if (Some next) one two same ok = ok ∙ sym same
