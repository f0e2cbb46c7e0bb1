-- What a declarator leads to, and a class that has begun, stay the same while the state grows.
use Rattle.std.specs.Prelude.{◌≡◌, ◌<◌, ◌≤◌, length, List, [], ◌∷◌, Option, Some, None, refl}
use Rattle.std.proofs.Common.{ap, arith, ◌∙◌}
use Rattle.cxx_model.specs.declared.types.TreeId.{TreeId}
use Rattle.cxx_reading.specs.Trees.{CxxTree}
use Rattle.cxx_cursor.specs.Views.{trees_held}
use Rattle.cxx_cursor.proofs.Kept.{trees_kept, trees_later}
use Rattle.cxx_space.specs.declared.bodies.Declared.{Declared}
use Rattle.cxx_space.specs.declared.classes.Begun.{Begun}
use Rattle.cxx_space.specs.Classes.{IsBegun}
use Rattle.cxx_space.specs.Views.{IsBodyKnown, IsDeclaredKnown, body_of, declares_of}
use Rattle.cxx_tree.specs.Held.{Held, tree, trees}
use Rattle.cxx_tree.specs.Later.{Later}

body_kept : (old new : Held) (body : Option TreeId) → Later old new → IsBodyKnown old body → body_of new body ≡ body_of old body
body_kept old new None later known = refl
body_kept old new (Some number) later known = (let alone : CxxTree → List CxxTree = λ one. one ∷ [] in ap alone (later.trees.same number.0 known))

body_later : (old new : Held) (body : Option TreeId) → Later old new → IsBodyKnown old body → IsBodyKnown new body
body_later old new None later known = tt
body_later old new (Some number) later known = (let more : length (trees old) ≤ length (trees new) = later.trees.grows in omega arith)

pub declares_kept : (old new : Held) (one : Declared) → Later old new → IsDeclaredKnown old one → declares_of new one ≡ declares_of old one
declares_kept old new one later known =
    (let same : tree new one.tree ≡ tree old one.tree = later.trees.same one.tree.0 known.tree in
    let defaults : trees_held new one.defaults ≡ trees_held old one.defaults = trees_kept old new one.defaults later known.defaults in
    let body : body_of new one.body ≡ body_of old one.body = body_kept old new one.body later known.body in cc)

pub declared_later : (old new : Held) (one : Declared) → Later old new → IsDeclaredKnown old one → IsDeclaredKnown new one
declared_later old new one later known = record {
  tree = (let more : length (trees old) ≤ length (trees new) = later.trees.grows in let below : one.tree.0 < length (trees old) = known.tree in omega arith);
  defaults = trees_later old new one.defaults later known.defaults;
  body = body_later old new one.body later known.body;
}

-- ---- a class that has begun

pub begun_later : (old new : Held) (begun : Begun) → Later old new → IsBegun old begun → IsBegun new begun
begun_later old new begun later is = record {
  known = (let more : length old.types ≤ length new.types = later.types.grows in let below : begun.of.0 < length old.types = is.known in omega arith);
  is = later.types.same begun.of.0 is.known ∙ is.is;
}
