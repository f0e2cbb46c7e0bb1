-- The bodies that were passed over, given the trees and types of a state.
use Rattle.std.specs.Prelude.{◌<◌, length, List, map}
use Rattle.std.specs.List.{All}
use Rattle.cxx_later.specs.declared.waiting.Waiting as code
use Rattle.cxx_later.specs.Waiting.{Waiting}
use Rattle.cxx_tree.specs.Held.{Held, tree, trees, type_of}

abbrev pub waiting_of : Held → code.Waiting → Waiting
waiting_of held one = record { declarator = tree held one.declarator; of = type_of held one.of; number = one.number.0; list = one.list.0; first = one.first; last = one.last; room = one.room }

pub record IsWaitingKnown (held : Held) (one : code.Waiting) : Type 0 where
  pub declarator : one.declarator.0 < length (trees held)
  pub of : one.of.0 < length held.types

abbrev pub waiting_held : Held → List code.Waiting → List Waiting
waiting_held held all = map (waiting_of held) all

abbrev pub AreWaitingHeld : Held → List code.Waiting → Type 0
AreWaitingHeld held all = All (IsWaitingKnown held) all
