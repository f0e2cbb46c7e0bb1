-- The default arguments that were passed over stay the same while the state grows.
use Rattle.std.specs.Prelude.{◌≡◌, ◌<◌, ◌≤◌, length, List, [], ◌∷◌, refl}
use Rattle.std.proofs.Common.{arith, get_or}
use Rattle.std.proofs.lemmas.List.Elements.{All-head, All-tail}
use Rattle.cxx_cursor.specs.Views.{AreTreesHeld}
use Rattle.cxx_later.specs.declared.found.LaterDefault as code
use Rattle.cxx_later.specs.FoundDefaults.{AreDefaultsHeld, IsDefaultKnown, default_of, defaults_held}
use Rattle.cxx_model.specs.declared.types.TreeId.{TreeId}
use Rattle.cxx_tree.specs.Arena.{AreTreesBelow}
use Rattle.cxx_tree.specs.Held.{Held, trees, type_of}
use Rattle.cxx_tree.specs.Later.{Later}
use Rattle.cxx_tree.proofs.Arenas as arena

-- the parts of a tree that is held are held
pub parts_held : (held : Held) (n : TreeId) (parts : List TreeId) → n.0 < length (trees held) → AreTreesBelow n.0 parts → AreTreesHeld held parts
parts_held held n parts known below = arena.below_later n.0 (length (trees held)) parts (omega (arith, known)) below

pub default_kept : (old new : Held) (one : code.LaterDefault) → Later old new → IsDefaultKnown old one → default_of new one ≡ default_of old one
default_kept old new one later known =
    (let of : type_of new one.of ≡ type_of old one.of = later.types.same one.of.0 known.of in cc)

pub default_later : (old new : Held) (one : code.LaterDefault) → Later old new → IsDefaultKnown old one → IsDefaultKnown new one
default_later old new one later known = record {
  of = (let more : length old.types ≤ length new.types = later.types.grows in let below : one.of.0 < length old.types = known.of in omega arith);
}

pub all_defaults_kept : (old new : Held) (all : List code.LaterDefault) → Later old new → AreDefaultsHeld old all → defaults_held new all ≡ defaults_held old all
all_defaults_kept old new [] later held = refl
all_defaults_kept old new (one ∷ others) later held =
    (let first : default_of new one ≡ default_of old one = default_kept old new one later (All-head (IsDefaultKnown old) one others held) in
    let rest : defaults_held new others ≡ defaults_held old others = all_defaults_kept old new others later (All-tail (IsDefaultKnown old) one others held) in cc)

pub all_defaults_later : (old new : Held) (all : List code.LaterDefault) → Later old new → AreDefaultsHeld old all → AreDefaultsHeld new all
all_defaults_later old new all later held i d within = default_later old new (get_or all i d) later (held i d within)
