-- The trees of a production that are found in others, one part after another.
use Rattle.std.proofs.Common.{◌≡◌, ℕ, zero, suc, ◌+◌, ◌<◌, Bool, true, false, eqb, List, [], ◌∷◌, ◌++◌, length, drop, get_or, map, refl, ap, sym, subst, ◌∙◌, append-nil, append_assoc, arith, eq-eqb}
use Rattle.std.specs.Prelude.{if◌then◌else◌}
use Rattle.std.proofs.lemmas.Bool.{eqb-true}
use Rattle.std.proofs.lemmas.List.{at_drop_more}
use Rattle.cxx_model.specs.declared.tree.Node.{Node}
use Rattle.cxx_model.specs.declared.types.TreeId.{TreeId}
use Rattle.cxx_model.specs.Types.Trees.{CxxType}
use Rattle.cxx_reading.specs.TextOrder.{part_tree}
use Rattle.cxx_form.specs.Order.{found_in, found_of}
use Rattle.cxx_reading.specs.Trees.{CxxTree, in_turn}
use Rattle.cxx_tree.specs.Arena.{tree_in, tree_over, trees_in, AreTreesBelow}
use Rattle.cxx_tree.specs.declared.kept.Piece.{Piece}
use Rattle.cxx_tree.specs.Held.{pieces_at, ArePiecesBelow}
use Rattle.cxx_tree.proofs.Arenas.{below_append, trees_append}
use Rattle.cxx_form.specs.Found.{each_found, found_inside, if_wanted, AddsTrees, AreTrees}

-- ---- a tree

-- those in its parts, and then itself
pub in_turn_found : (wanted passed : ℕ) (tree : CxxTree) → found_inside wanted passed tree ++ if_wanted wanted tree ≡ found_of wanted passed tree
in_turn_found wanted passed tree = ap (λ (ts : List CxxTree). found_inside wanted passed tree ++ ts) (sym (append-nil (if_wanted wanted tree)))

pub in_each : (wanted passed : ℕ) (trees : List CxxTree) → found_in wanted passed (in_turn trees) ≡ each_found wanted passed trees
in_each wanted passed [] = refl
in_each wanted passed (tree ∷ others) =
    sym (append_assoc (found_inside wanted passed tree) (if_wanted wanted tree) (found_in wanted passed (in_turn others)))
    ∙ ap (λ (ts : List CxxTree). ts ++ found_in wanted passed (in_turn others)) (in_turn_found wanted passed tree)
    ∙ ap (λ (ts : List CxxTree). found_of wanted passed tree ++ ts) (in_each wanted passed others)

pub not_it : (n m : ℕ) → (n ≡ m → ⊥) → eqb n m ≡ false
not_it n m other = by (eqb n m) refl
  where
    by : (t : Bool) → eqb n m ≡ t → eqb n m ≡ false
    by true e = absurd (other (eqb-true n m e))
    by false e = e

module _ (types : List CxxType) (trees : List CxxTree) (node : Node) (tree : CxxTree) (is : tree ≡ tree_over types trees node) (wanted passed : ℕ) where
  production_is : tree.label.production ≡ node.production
  production_is = ap (λ (t : CxxTree). t.label.production) is

  parts_is : found_in wanted passed tree.children ≡ each_found wanted passed (trees_in trees node.children)
  parts_is = ap (λ (t : CxxTree). found_in wanted passed t.children) is ∙ in_each wanted passed (trees_in trees node.children)

  -- those in its parts
  pub parts_found : (node.production ≡ passed → ⊥) → found_inside wanted passed tree ≡ each_found wanted passed (trees_in trees node.children)
  parts_found other = ap (λ t. if t then [] else found_in wanted passed tree.children) (not_it tree.label.production passed (λ e. other (sym production_is ∙ e))) ∙ parts_is

  -- none
  pub parts_passed : node.production ≡ passed → found_inside wanted passed tree ≡ []
  parts_passed same = ap (λ t. if t then [] else found_in wanted passed tree.children) (eq-eqb tree.label.production passed (production_is ∙ same))

  -- itself
  pub it_wanted : node.production ≡ wanted → if_wanted wanted tree ≡ tree ∷ []
  it_wanted same = ap (λ t. if t then tree ∷ [] else []) (eq-eqb tree.label.production wanted (production_is ∙ same))

  pub not_wanted : (node.production ≡ wanted → ⊥) → if_wanted wanted tree ≡ []
  not_wanted other = ap (λ t. if t then tree ∷ [] else []) (not_it tree.label.production wanted (λ e. other (sym production_is ∙ e)))

  pub within_parts : (children numbers : List TreeId) → children ≡ node.children → AreTrees trees numbers (each_found wanted passed (trees_in trees children)) → AreTrees trees numbers (found_in wanted passed tree.children)
  within_parts children numbers same are =
      subst (λ (ts : List CxxTree). AreTrees trees numbers ts)
      (ap (λ (ns : List TreeId). each_found wanted passed (trees_in trees ns)) same ∙ sym (ap (λ (t : CxxTree). found_in wanted passed t.children) is ∙ in_each wanted passed (trees_in trees node.children))) are

pub one_added : (trees : List CxxTree) (number : TreeId) (old new : List TreeId) → new ≡ old ++ number ∷ [] → number.0 < length trees → AddsTrees trees old new (tree_in trees number.0 ∷ [])
one_added trees number old new is within = record {
  is = ap (trees_in trees) is ∙ trees_append trees old (number ∷ []);
  below = λ all. subst (λ (ns : List TreeId). AreTreesBelow (length trees) ns) (sym is) (below_append (length trees) old (number ∷ []) all (within, tt));
}

pub none_added : (trees : List CxxTree) (old : List TreeId) → AddsTrees trees old old []
none_added trees old = record {
  is = sym (append-nil (trees_in trees old));
  below = λ all. all;
}

pub both_added : (trees : List CxxTree) (old mid new : List TreeId) (ones twos : List CxxTree) → AddsTrees trees old mid ones → AddsTrees trees mid new twos → AddsTrees trees old new (ones ++ twos)
both_added trees old mid new ones twos first second = record {
  is = second.is ∙ ap (λ (ts : List CxxTree). ts ++ twos) first.is ∙ append_assoc (trees_in trees old) ones twos;
  below = λ all. second.below (first.below all);
}

-- all that were added to an empty list
pub all_added : (trees : List CxxTree) (none numbers : List TreeId) (wanted : List CxxTree) → none ≡ [] → AddsTrees trees none numbers wanted → AreTrees trees numbers wanted
all_added trees none numbers wanted empty added = record {
  is = added.is ∙ ap (λ (ns : List TreeId). trees_in trees ns ++ wanted) empty;
  below = added.below (subst (λ (ns : List TreeId). AreTreesBelow (length trees) ns) (sym empty) tt);
}

-- ---- the parts of a tree

-- Those before an index were looked at, from the first list of trees on.
pub record SoFar (trees : List CxxTree) (first now : List TreeId) (left all : List CxxTree) : Type 0 where
  pub is : trees_in trees now ++ left ≡ trees_in trees first ++ all
  pub below : AreTreesBelow (length trees) first → AreTreesBelow (length trees) now

goes_on : (trees : List CxxTree) (first now new : List TreeId) (one rest left all : List CxxTree) → left ≡ one ++ rest → SoFar trees first now left all → AddsTrees trees now new one → SoFar trees first new rest all
goes_on trees first now new one rest left all cut so added = record {
  is = ap (λ (ts : List CxxTree). ts ++ rest) added.is ∙ append_assoc (trees_in trees now) one rest ∙ ap (λ (ts : List CxxTree). trees_in trees now ++ ts) (sym cut) ∙ so.is;
  below = λ below. added.below (so.below below);
}

pub part_more : (wanted passed : ℕ) (trees : List CxxTree) (first now new parts : List TreeId) (i : ℕ) (d : TreeId) (all : List CxxTree) → i < length parts → SoFar trees first now (each_found wanted passed (trees_in trees (drop i parts))) all → AddsTrees trees now new (found_of wanted passed (tree_in trees (get_or parts i d).0)) → SoFar trees first new (each_found wanted passed (trees_in trees (drop (i + 1) parts))) all
part_more wanted passed trees first now new parts i d all within so added =
    goes_on trees first now new (found_of wanted passed (tree_in trees (get_or parts i d).0)) (each_found wanted passed (trees_in trees (drop (i + 1) parts))) (each_found wanted passed (trees_in trees (drop i parts))) all
    (at_drop_more (λ (ns : List TreeId). each_found wanted passed (trees_in trees ns)) parts i d within) so added

pub child_below : (count : ℕ) (children : List TreeId) (i : ℕ) (d : TreeId) → AreTreesBelow count children → i < length children → (get_or children i d).0 < count
child_below count [] i d all within = absurd (omega arith)
child_below count (n ∷ children) zero d all within = all.0
child_below count (n ∷ children) (suc i) d all within = child_below count children i d all.1 (omega arith)

-- ---- the pieces of a unit

abbrev pub of_pieces : ℕ → ℕ → List CxxTree → List Piece → List CxxTree
of_pieces wanted passed trees pieces = each_found wanted passed (map part_tree (pieces_at trees pieces))

pub piece_more : (wanted passed : ℕ) (trees : List CxxTree) (first now new : List TreeId) (pieces : List Piece) (i : ℕ) (d : Piece) (all : List CxxTree) → d ≡ get_or pieces i d → i < length pieces → SoFar trees first now (of_pieces wanted passed trees (drop i pieces)) all → AddsTrees trees now new (found_of wanted passed (tree_in trees d.tree.0)) → SoFar trees first new (of_pieces wanted passed trees (drop (i + 1) pieces)) all
piece_more wanted passed trees first now new pieces i d all same within so added =
    goes_on trees first now new (found_of wanted passed (tree_in trees d.tree.0)) (of_pieces wanted passed trees (drop (i + 1) pieces)) (of_pieces wanted passed trees (drop i pieces)) all
    (at_drop_more (λ (ps : List Piece). of_pieces wanted passed trees ps) pieces i d within ∙ ap (λ (p : Piece). found_of wanted passed (tree_in trees p.tree.0) ++ of_pieces wanted passed trees (drop (i + 1) pieces)) (sym same)) so added

piece_below : (count : ℕ) (pieces : List Piece) (i : ℕ) (d : Piece) → ArePiecesBelow count pieces → i < length pieces → (get_or pieces i d).tree.0 < count
piece_below count [] i d all within = absurd (omega arith)
piece_below count (p ∷ pieces) zero d all within = all.0
piece_below count (p ∷ pieces) (suc i) d all within = piece_below count pieces i d all.1 (omega arith)

pub piece_within : (count : ℕ) (pieces : List Piece) (i : ℕ) (piece : Piece) → piece ≡ get_or pieces i piece → ArePiecesBelow count pieces → i < length pieces → piece.tree.0 < count
piece_within count pieces i piece is all within = subst (λ (p : Piece). p.tree.0 < count) (sym is) (piece_below count pieces i piece all within)
