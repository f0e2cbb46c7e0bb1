-- The bodies that were passed over in trees, one tree after another.
use Rattle.std.proofs.Common.{◌≡◌, ℕ, zero, suc, ◌+◌, ◌<◌, ◌≤◌, Bool, true, false, eqb, List, [], ◌∷◌, ◌++◌, length, drop, get_or, refl, ap, sym, ◌∙◌, append-nil, append_assoc, arith}
use Rattle.std.specs.Prelude.{nat_eq, if◌then◌else◌}
use Rattle.std.proofs.lemmas.Bool.{eqb-true}
use Rattle.std.proofs.lemmas.List.{at_drop_more, drop_all}
use Rattle.cxx_cursor.specs.Views.{trees_held}
use Rattle.cxx_later.specs.declared.waiting.Waiting as code
use Rattle.cxx_later.specs.Found.{AddsWaiting, each_waiting, waiting_of_tree}
use Rattle.cxx_later.specs.Passing.{passed_body}
use Rattle.cxx_later.specs.Views.{AreWaitingHeld, waiting_held}
use Rattle.cxx_later.specs.Waiting.{Waiting, room_in, waiting_by, waiting_in}
use Rattle.cxx_model.specs.declared.tree.Node.{Node}
use Rattle.cxx_model.specs.declared.types.TreeId.{TreeId}
use Rattle.cxx_reading.specs.Productions as production
use Rattle.cxx_reading.specs.Trees.{CxxTree, in_turn}
use Rattle.cxx_tree.specs.Arena.{AreTreesBelow, label_at, tree_over}
use Rattle.cxx_tree.specs.Held.{Held, tree, trees}

-- ---- a tree, and what comes behind it

cut_by : (here inside behind : List Waiting) (t u : Bool) → (if t then here ++ behind else (if u then behind else inside ++ behind)) ≡ (if t then here else (if u then [] else inside)) ++ behind
cut_by here inside behind true u = refl
cut_by here inside behind false true = refl
cut_by here inside behind false false = refl

pub in_each : (room : ℕ) (all : List CxxTree) → waiting_in room (in_turn all) ≡ each_waiting room all
in_each room [] = refl
in_each room (tree ∷ others) =
    cut_by (waiting_by room tree.label tree.children) (waiting_in (room_in tree.label room) tree.children) (waiting_in room (in_turn others)) (nat_eq tree.label.production passed_body) (nat_eq tree.label.production production.declarator)
    ∙ ap (λ (rest : List Waiting). waiting_of_tree room tree ++ rest) (in_each room others)

not_it : (n m : ℕ) → (n ≡ m → ⊥) → eqb n m ≡ false
not_it n m other = by (eqb n m) refl
  where
    by : (t : Bool) → eqb n m ≡ t → eqb n m ≡ false
    by true e = absurd (other (eqb-true n m e))
    by false e = e

module _ (held : Held) (node : Node) (tree : CxxTree) (is : tree ≡ tree_over held.types (trees held) node) (room : ℕ) where
  production_is : tree.label.production ≡ node.production
  production_is = ap (λ (t : CxxTree). t.label.production) is

  by_tests : Bool → Bool → List Waiting
  by_tests t u = if t then waiting_by room tree.label tree.children else (if u then [] else waiting_in (room_in tree.label room) tree.children)

  -- in another one are those of its parts
  pub parts_are : (node.production ≡ passed_body → ⊥) → (node.production ≡ production.declarator → ⊥) → waiting_of_tree room tree ≡ each_waiting (room_in (label_at held.types node) room) (trees_held held node.children)
  unfolding by_tests
  parts_are other another =
      ap (λ t. by_tests t (nat_eq tree.label.production production.declarator)) (not_it tree.label.production passed_body (λ e. other (sym production_is ∙ e)))
      ∙ ap (by_tests false) (not_it tree.label.production production.declarator (λ e. another (sym production_is ∙ e)))
      ∙ ap (λ (t : CxxTree). waiting_in (room_in t.label room) t.children) is
      ∙ in_each (room_in (label_at held.types node) room) (trees_held held node.children)

-- ---- the parts of a tree

-- Those before an index were looked at, from the first list of bodies on.
pub record SoFar (held : Held) (first now : List code.Waiting) (left all : List Waiting) : Type 0 where
  pub is : waiting_held held now ++ left ≡ waiting_held held first ++ all
  pub known : AreWaitingHeld held first → AreWaitingHeld held now

goes_on : (held : Held) (first now new : List code.Waiting) (one rest left all : List Waiting) → left ≡ one ++ rest → SoFar held first now left all → AddsWaiting held now new one → SoFar held first new rest all
goes_on held first now new one rest left all cut so added = record {
  is = ap (λ (ws : List Waiting). ws ++ rest) added.is ∙ append_assoc (waiting_held held now) one rest ∙ ap (λ (ws : List Waiting). waiting_held held now ++ ws) (sym cut) ∙ so.is;
  known = λ known. added.known (so.known known);
}

pub part_more : (room : ℕ) (held : Held) (first now new : List code.Waiting) (parts : List TreeId) (i : ℕ) (d : TreeId) (all : List Waiting) → i < length parts → SoFar held first now (each_waiting room (trees_held held (drop i parts))) all → AddsWaiting held now new (waiting_of_tree room (tree held (get_or parts i d))) → SoFar held first new (each_waiting room (trees_held held (drop (i + 1) parts))) all
part_more room held first now new parts i d all within so added =
    goes_on held first now new (waiting_of_tree room (tree held (get_or parts i d))) (each_waiting room (trees_held held (drop (i + 1) parts))) (each_waiting room (trees_held held (drop i parts))) all
    (at_drop_more (λ (ns : List TreeId). each_waiting room (trees_held held ns)) parts i d within) so added

pub child_below : (count : ℕ) (children : List TreeId) (i : ℕ) (d : TreeId) → AreTreesBelow count children → i < length children → (get_or children i d).0 < count
child_below count [] i d all within = absurd (omega arith)
child_below count (n ∷ children) zero d all within = all.0
child_below count (n ∷ children) (suc i) d all within = child_below count children i d all.1 (omega arith)

-- past the last one there are no more
pub all_added : (room : ℕ) (held : Held) (now : List code.Waiting) (parts : List TreeId) (i : ℕ) → length parts ≤ i → SoFar held [] now (each_waiting room (trees_held held (drop i parts))) (each_waiting room (trees_held held parts)) → waiting_held held now ≡ each_waiting room (trees_held held parts)
all_added room held now parts i past so =
    sym (append-nil (waiting_held held now))
    ∙ ap (λ (ns : List TreeId). waiting_held held now ++ each_waiting room (trees_held held ns)) (sym (drop_all i parts past))
    ∙ so.is
