-- The best of several functions, by the sequences that lead their arguments to their parameters (13.3.3). What a
-- sequence is and how two of them are ordered is handed in.
use Rattle.std.specs.Prelude.{◌≢◌, ℕ, Bool, true, false, not, ◌&&◌, ◌||◌, ◌==◌, List, [], ◌∷◌, Option, find, Contains, IsTrue}
use Rattle.std.specs.List.{list_any, list_all}
use Rattle.cxx_model.specs.declared.sequence.Order.{Order}
use Rattle.cxx_model.specs.declared.sequence.Order.TheVariants.{Better, Worse, Same}

abbrev pub is_better_order : Order → Bool
is_better_order Better = true
is_better_order Worse = false
is_better_order Same = false

abbrev pub is_worse_order : Order → Bool
is_worse_order Better = false
is_worse_order Worse = true
is_worse_order Same = false

-- how the sequences of one function stand to those of another, argument by argument
abbrev pub compared : {S : Type 0} → (S → S → Order) → List S → List S → List Order
compared order [] others = []
compared order (one ∷ ones) [] = []
compared order (one ∷ ones) (two ∷ twos) = order one two ∷ compared order ones twos

-- No argument has a worse sequence, and some argument has a better one.
unfoldable pub is_better : {S : Type 0} → (S → S → Order) → List S → List S → Bool
is_better order one two = not (list_any is_worse_order (compared order one two)) && list_any is_better_order (compared order one two)

-- ---- in a list of contenders

-- it is another one than this, or this beats it
abbrev pub beats_if_other : {F : Type 0} → (F → ℕ) → (F → F → Bool) → F → F → Bool
beats_if_other number beats f g = number g == number f || beats f g

-- the contender that is better than every other
abbrev pub best : {F : Type 0} → (F → ℕ) → (F → F → Bool) → List F → Option F
best number beats contenders = find (λ f. list_all (beats_if_other number beats f) contenders) contenders

-- the first other contender that this one does not beat
abbrev pub counter : {F : Type 0} → (F → ℕ) → (F → F → Bool) → List F → F → Option F
counter number beats contenders f = find (λ g. not (beats_if_other number beats f g)) contenders

-- ---- in words

-- f is one of them, and better than every other of them
pub record IsBest {F : Type 0} (number : F → ℕ) (beats : F → F → Bool) (contenders : List F) (f : F) : Type 0 where
  pub member : Contains contenders f
  pub beats_others : (g : F) → Contains contenders g → number g ≢ number f → IsTrue (beats f g)
