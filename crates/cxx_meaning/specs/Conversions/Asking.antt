-- Questions that may need a class to be complete first (14.7.1).
use Rattle.std.specs.Prelude.{◌≡◌, Result, Ok, Err}
use Rattle.cxx_model.specs.declared.stop.Wait.{Wait}
use Rattle.cxx_model.specs.declared.stop.Wait.TheVariants as wait
use Rattle.cxx_model.specs.declared.types.ClassId.{ClassId}

-- an answer, or the class that must be complete before there is one
abbrev pub Asked : Type 0 → Type 0
Asked A = Result A ClassId

infixl 10 ◌>>=◌
abbrev pub ◌>>=◌ : {A B : Type 0} → Asked A → (A → Asked B) → Asked B
(Ok x) >>= f = f x
(Err class) >>= f = Err class

-- ---- meaning of what the code answers

-- Unless memory ran out, what is waited for is the class that the question needs.
abbrev pub Waits : {A : Type 0} → Wait → Asked A → Type 0
Waits wait.OutOfMemory asked = Unit {0}
Waits (wait.Needs class) asked = asked ≡ Err class

-- What was answered, seen by `view`, is the answer to the question.
abbrev pub Gives : {X A : Type 0} → (X → A) → Result X Wait → Asked A → Type 0
Gives view (Ok x) asked = asked ≡ Ok (view x)
Gives view (Err e) asked = Waits e asked
