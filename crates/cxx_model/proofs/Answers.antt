-- What a whole answer says of the steps that led to it.
use Rattle.std.proofs.Common.{◌≡◌, Bool, true, false, cond, Ok, Err, refl, ◌⊎◌, inl, inr}
use Rattle.cxx_model.specs.Stops.{Answer, Stopped, ◌>>=◌}

-- an answer that is a value
abbrev pub done : {A : Type 0} → A → Answer A
done x = Ok x

-- an answer that is none
abbrev pub stopped : {A : Type 0} → Stopped → Answer A
stopped why = Err why

pub done_is : {A : Type 0} (x y : A) → done x ≡ done y → x ≡ y
done_is x y e = cc

-- the value of a step
pub bind_ok : {A B : Type 0} (r : Answer A) (f : A → Answer B) (y : B) → (r >>= f) ≡ Ok y → (x : A) × (r ≡ Ok x) × (f x ≡ Ok y)
bind_ok (Ok x) f y e = (x, refl, e)
bind_ok (Err why) f y e = absurd cc

-- a test that stops where it holds
pub unless_ok : {A : Type 0} (b : Bool) (why : Stopped) (r : Answer A) (y : A) → cond b (stopped why) r ≡ Ok y → (b ≡ false) × (r ≡ Ok y)
unless_ok true why r y e = absurd cc
unless_ok false why r y e = (refl, e)

-- a test that stops where it does not hold
pub if_ok : {A : Type 0} (b : Bool) (why : Stopped) (r : Answer A) (y : A) → cond b r (stopped why) ≡ Ok y → (b ≡ true) × (r ≡ Ok y)
if_ok true why r y e = (refl, e)
if_ok false why r y e = absurd cc

-- a choice of two values
pub either_is : {A : Type 0} (b : Bool) (x y z : A) → cond b x y ≡ z → ((b ≡ true) × (x ≡ z)) ⊎ ((b ≡ false) × (y ≡ z))
either_is true x y z e = inl (refl, e)
either_is false x y z e = inr (refl, e)
