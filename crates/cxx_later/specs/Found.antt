-- The bodies that were passed over, tree by tree.
use Rattle.std.specs.Prelude.{ℕ, ◌≡◌, nat_eq, if◌then◌else◌, List, [], ◌++◌, flat_map}
use Rattle.cxx_later.specs.declared.waiting.Waiting as code
use Rattle.cxx_later.specs.Passing.{passed_body}
use Rattle.cxx_later.specs.Views.{AreWaitingHeld, waiting_held}
use Rattle.cxx_later.specs.Waiting.{Waiting, room_in, waiting_by, waiting_in}
use Rattle.cxx_reading.specs.Productions as production
use Rattle.cxx_reading.specs.Trees.{CxxTree, CxxTrees, Label}
use Rattle.cxx_tree.specs.Held.{Held}

-- those in a tree, by its label and its children
abbrev pub waiting_at : ℕ → Label → CxxTrees → List Waiting
waiting_at room label children =
    if nat_eq label.production passed_body then waiting_by room label children else (
    if nat_eq label.production production.declarator then [] else
    waiting_in (room_in label room) children)

abbrev pub waiting_of_tree : ℕ → CxxTree → List Waiting
waiting_of_tree room tree = waiting_at room tree.label tree.children

abbrev pub each_waiting : ℕ → List CxxTree → List Waiting
each_waiting room trees = flat_map (waiting_of_tree room) trees

-- Bodies were added to a list of them.
pub record AddsWaiting (held : Held) (old new : List code.Waiting) (added : List Waiting) : Type 0 where
  pub is : waiting_held held new ≡ waiting_held held old ++ added
  pub known : AreWaitingHeld held old → AreWaitingHeld held new
