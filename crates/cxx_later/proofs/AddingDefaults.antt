-- The default arguments that were passed over in trees, one tree after another.
use Rattle.std.proofs.Common.{◌≡◌, ℕ, ◌+◌, ◌<◌, ◌≤◌, Bool, true, false, eqb, List, [], ◌∷◌, ◌++◌, length, drop, get_or, refl, ap, sym, ◌∙◌, append-nil, append_assoc}
use Rattle.std.specs.Prelude.{nat_eq, if◌then◌else◌}
use Rattle.std.proofs.lemmas.Bool.{eqb-true}
use Rattle.std.proofs.lemmas.List.{at_drop_more, drop_all}
use Rattle.cxx_cursor.specs.Views.{trees_held}
use Rattle.cxx_later.specs.declared.found.LaterDefault as code
use Rattle.cxx_later.specs.Defaults.{LaterDefault, default_by, defaults_in, later_default}
use Rattle.cxx_later.specs.FoundDefaults.{AddsDefaults, AreDefaultsHeld, defaults_held, defaults_of_tree, each_default}
use Rattle.cxx_model.specs.declared.tree.Node.{Node}
use Rattle.cxx_model.specs.declared.types.TreeId.{TreeId}
use Rattle.cxx_reading.specs.Productions as production
use Rattle.cxx_reading.specs.Trees.{CxxTree, in_turn}
use Rattle.cxx_tree.specs.Arena.{tree_over}
use Rattle.cxx_tree.specs.Held.{Held, tree, trees}

-- ---- a tree, and what comes behind it

cut_by : (here inside behind : List LaterDefault) (t u : Bool) → (if t then here ++ behind else (if u then behind else inside ++ behind)) ≡ (if t then here else (if u then [] else inside)) ++ behind
cut_by here inside behind true u = refl
cut_by here inside behind false true = refl
cut_by here inside behind false false = refl

pub in_each : (all : List CxxTree) → defaults_in (in_turn all) ≡ each_default all
in_each [] = refl
in_each (tree ∷ others) =
    cut_by (default_by tree.label tree.children) (defaults_in tree.children) (defaults_in (in_turn others)) (nat_eq tree.label.production later_default) (nat_eq tree.label.production production.declarator)
    ∙ ap (λ (rest : List LaterDefault). defaults_of_tree tree ++ rest) (in_each others)

not_it : (n m : ℕ) → (n ≡ m → ⊥) → eqb n m ≡ false
not_it n m other = by (eqb n m) refl
  where
    by : (t : Bool) → eqb n m ≡ t → eqb n m ≡ false
    by true e = absurd (other (eqb-true n m e))
    by false e = e

module _ (held : Held) (node : Node) (tree : CxxTree) (is : tree ≡ tree_over held.types (trees held) node) where
  production_is : tree.label.production ≡ node.production
  production_is = ap (λ (t : CxxTree). t.label.production) is

  by_tests : Bool → Bool → List LaterDefault
  by_tests t u = if t then default_by tree.label tree.children else (if u then [] else defaults_in tree.children)

  -- in another one are those of its parts
  pub parts_are : (node.production ≡ later_default → ⊥) → (node.production ≡ production.declarator → ⊥) → defaults_of_tree tree ≡ each_default (trees_held held node.children)
  unfolding by_tests
  parts_are other another =
      ap (λ t. by_tests t (nat_eq tree.label.production production.declarator)) (not_it tree.label.production later_default (λ e. other (sym production_is ∙ e)))
      ∙ ap (by_tests false) (not_it tree.label.production production.declarator (λ e. another (sym production_is ∙ e)))
      ∙ ap (λ (t : CxxTree). defaults_in t.children) is
      ∙ in_each (trees_held held node.children)

-- ---- the parts of a tree

-- Those before an index were looked at, from the first list of default arguments on.
pub record SoFar (held : Held) (first now : List code.LaterDefault) (left all : List LaterDefault) : Type 0 where
  pub is : defaults_held held now ++ left ≡ defaults_held held first ++ all
  pub known : AreDefaultsHeld held first → AreDefaultsHeld held now

goes_on : (held : Held) (first now new : List code.LaterDefault) (one rest left all : List LaterDefault) → left ≡ one ++ rest → SoFar held first now left all → AddsDefaults held now new one → SoFar held first new rest all
goes_on held first now new one rest left all cut so added = record {
  is = ap (λ (ws : List LaterDefault). ws ++ rest) added.is ∙ append_assoc (defaults_held held now) one rest ∙ ap (λ (ws : List LaterDefault). defaults_held held now ++ ws) (sym cut) ∙ so.is;
  known = λ known. added.known (so.known known);
}

pub part_more : (held : Held) (first now new : List code.LaterDefault) (parts : List TreeId) (i : ℕ) (d : TreeId) (all : List LaterDefault) → i < length parts → SoFar held first now (each_default (trees_held held (drop i parts))) all → AddsDefaults held now new (defaults_of_tree (tree held (get_or parts i d))) → SoFar held first new (each_default (trees_held held (drop (i + 1) parts))) all
part_more held first now new parts i d all within so added =
    goes_on held first now new (defaults_of_tree (tree held (get_or parts i d))) (each_default (trees_held held (drop (i + 1) parts))) (each_default (trees_held held (drop i parts))) all
    (at_drop_more (λ (ns : List TreeId). each_default (trees_held held ns)) parts i d within) so added

-- past the last one there are no more
pub all_added : (held : Held) (now : List code.LaterDefault) (parts : List TreeId) (i : ℕ) → length parts ≤ i → SoFar held [] now (each_default (trees_held held (drop i parts))) (each_default (trees_held held parts)) → defaults_held held now ≡ each_default (trees_held held parts)
all_added held now parts i past so =
    sym (append-nil (defaults_held held now))
    ∙ ap (λ (ns : List TreeId). defaults_held held now ++ each_default (trees_held held ns)) (sym (drop_all i parts past))
    ∙ so.is
