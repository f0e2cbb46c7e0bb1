-- The bodies that were passed over stay the same while the state grows.
use Rattle.std.specs.Prelude.{◌≡◌, ◌<◌, ◌≤◌, length, List, [], ◌∷◌, refl}
use Rattle.std.proofs.Common.{arith, get_or}
use Rattle.std.proofs.lemmas.List.Elements.{All-head, All-tail}
use Rattle.cxx_later.specs.declared.waiting.Waiting as code
use Rattle.cxx_later.specs.Views.{AreWaitingHeld, IsWaitingKnown, waiting_held, waiting_of}
use Rattle.cxx_tree.specs.Held.{Held, tree, trees, type_of}
use Rattle.cxx_tree.specs.Later.{Later}

pub waiting_kept : (old new : Held) (one : code.Waiting) → Later old new → IsWaitingKnown old one → waiting_of new one ≡ waiting_of old one
waiting_kept old new one later known =
    (let declarator : tree new one.declarator ≡ tree old one.declarator = later.trees.same one.declarator.0 known.declarator in
    let of : type_of new one.of ≡ type_of old one.of = later.types.same one.of.0 known.of in cc)

pub waiting_later : (old new : Held) (one : code.Waiting) → Later old new → IsWaitingKnown old one → IsWaitingKnown new one
waiting_later old new one later known = record {
  declarator = (let more : length (trees old) ≤ length (trees new) = later.trees.grows in let below : one.declarator.0 < length (trees old) = known.declarator in omega arith);
  of = (let more : length old.types ≤ length new.types = later.types.grows in let below : one.of.0 < length old.types = known.of in omega arith);
}

pub all_waiting_kept : (old new : Held) (all : List code.Waiting) → Later old new → AreWaitingHeld old all → waiting_held new all ≡ waiting_held old all
all_waiting_kept old new [] later held = refl
all_waiting_kept old new (one ∷ others) later held =
    (let first : waiting_of new one ≡ waiting_of old one = waiting_kept old new one later (All-head (IsWaitingKnown old) one others held) in
    let rest : waiting_held new others ≡ waiting_held old others = all_waiting_kept old new others later (All-tail (IsWaitingKnown old) one others held) in cc)

pub all_waiting_later : (old new : Held) (all : List code.Waiting) → Later old new → AreWaitingHeld old all → AreWaitingHeld new all
all_waiting_later old new all later held i d within = waiting_later old new (get_or all i d) later (held i d within)
