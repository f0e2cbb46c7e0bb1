-- The default arguments that were passed over, given the types of a state, and found tree by tree.
use Rattle.std.specs.Prelude.{◌≡◌, ◌<◌, nat_eq, if◌then◌else◌, length, List, [], ◌++◌, flat_map, map}
use Rattle.std.specs.List.{All}
use Rattle.cxx_later.specs.declared.found.LaterDefault as code
use Rattle.cxx_later.specs.Defaults.{LaterDefault, default_by, defaults_in, later_default}
use Rattle.cxx_reading.specs.Productions as production
use Rattle.cxx_reading.specs.Trees.{CxxTree, CxxTrees, Label}
use Rattle.cxx_tree.specs.Arena.{number_of_option}
use Rattle.cxx_tree.specs.Held.{Held, type_of}

abbrev pub default_of : Held → code.LaterDefault → LaterDefault
default_of held one = record { equals = one.equals; of = type_of held one.of; number = number_of_option one.number; list = one.list.0; index = one.index; first = one.first; last = one.last; room = one.room }

pub record IsDefaultKnown (held : Held) (one : code.LaterDefault) : Type 0 where
  pub of : one.of.0 < length held.types

abbrev pub defaults_held : Held → List code.LaterDefault → List LaterDefault
defaults_held held all = map (default_of held) all

abbrev pub AreDefaultsHeld : Held → List code.LaterDefault → Type 0
AreDefaultsHeld held all = All (IsDefaultKnown held) all

-- ---- tree by tree

abbrev pub default_at : Label → CxxTrees → List LaterDefault
default_at label children =
    if nat_eq label.production later_default then default_by label children else (
    if nat_eq label.production production.declarator then [] else
    defaults_in children)

abbrev pub defaults_of_tree : CxxTree → List LaterDefault
defaults_of_tree tree = default_at tree.label tree.children

abbrev pub each_default : List CxxTree → List LaterDefault
each_default trees = flat_map defaults_of_tree trees

-- Default arguments were added to a list of them.
pub record AddsDefaults (held : Held) (old new : List code.LaterDefault) (added : List LaterDefault) : Type 0 where
  pub is : defaults_held held new ≡ defaults_held held old ++ added
  pub known : AreDefaultsHeld held old → AreDefaultsHeld held new
