-- The declarators that print, one part after another.
use Rattle.std.proofs.Common.{◌≡◌, ◌<◌, ◌+◌, ℕ, Bool, true, false, eqb, List, [], ◌∷◌, ◌++◌, length, drop, get_or, Some, None, option_map, refl, ap, sym, subst, ◌∙◌, append-nil, append_assoc}
use Rattle.std.specs.List.{slice_get}
use Rattle.std.proofs.lemmas.Bool.{eqb-true}
use Rattle.std.proofs.lemmas.List.{at_drop_more}
use Rattle.cxx_model.specs.declared.facts.Fact.{Fact}
use Rattle.cxx_model.specs.declared.tree.Node.{Node}
use Rattle.cxx_model.specs.declared.types.TreeId.{TreeId}
use Rattle.cxx_model.specs.Facts.Declarations.{CxxFact, declares_at, fact_at}
use Rattle.cxx_reading.specs.Trees.{CxxTree, CxxTrees, in_turn}
use Rattle.cxx_tree.specs.Arena.{AreTreesBelow, tree_over, trees_in}
use Rattle.cxx_tree.specs.Held.{Held, tree, trees}
use Rattle.cxx_tree.proofs.Arenas.{below_append, trees_append}
use Rattle.cxx_statement_text.specs.Objects.{first_by, first_of_fact, printed_in}
use Rattle.cxx_statement_text.specs.Statements.{first_objects}
use Rattle.cxx_statement_text.specs.Written.{AddsTrees, AreTrees, facts_in, parts_in}
use Rattle.cxx_statement_text.proofs.Trees.{fact_is, none_first}

-- ---- what is declared

pub no_first : (held : Held) (number : ℕ) → None ≡ slice_get held.graph.facts number → None ≡ first_of_fact number (slice_get (facts_in held) number)
no_first held number is = sym (ap (first_of_fact number) (fact_is held.types held.graph.facts number ∙ ap (option_map (fact_at held.types)) (sym is)))

pub a_first : (held : Held) (number : ℕ) (fact : Fact) → Some fact ≡ slice_get held.graph.facts number → first_by number (declares_at held.types fact.what) ≡ first_of_fact number (slice_get (facts_in held) number)
a_first held number fact is = sym (ap (first_of_fact number) (fact_is held.types held.graph.facts number ∙ ap (option_map (fact_at held.types)) (sym is)))

-- ---- trees that are added

pub one_added : (held : Held) (number : TreeId) (old new : List TreeId) → new ≡ old ++ number ∷ [] → number.0 < length (trees held) → AddsTrees held old new (tree held number ∷ [])
one_added held number old new is within = record {
  is = ap (trees_in (trees held)) is ∙ trees_append (trees held) old (number ∷ []);
  below = λ all. subst (λ (ns : List TreeId). AreTreesBelow (length (trees held)) ns) (sym is) (below_append (length (trees held)) old (number ∷ []) all (within, tt));
}

pub not_it : (n m : ℕ) → (n ≡ m → ⊥) → eqb n m ≡ false
not_it n m other = by (eqb n m) refl
  where
    by : (t : Bool) → eqb n m ≡ t → eqb n m ≡ false
    by true e = absurd (other (eqb-true n m e))
    by false e = e

-- ---- trees in turn

cons_is : (all : List CxxFact) (tree : CxxTree) (others : List CxxTree) → printed_in all (in_turn (tree ∷ others)) ≡ printed_in all (in_turn (tree ∷ [])) ++ printed_in all (in_turn others)
cons_is all tree others = ap (λ (ts : List CxxTree). ts ++ printed_in all (in_turn others)) (sym (append-nil _))

-- Those before an index were looked at, from the first list of trees on.
pub record SoFar (held : Held) (first now left all : List TreeId) : Type 0 where
  pub is : trees_in (trees held) now ++ printed_in (facts_in held) (parts_in held left) ≡ trees_in (trees held) first ++ printed_in (facts_in held) (parts_in held all)
  pub below : AreTreesBelow (length (trees held)) first → AreTreesBelow (length (trees held)) now

pub part_more : (held : Held) (first now new parts : List TreeId) (i : ℕ) (d : TreeId) → i < length parts → SoFar held first now (drop i parts) parts → AddsTrees held now new (printed_in (facts_in held) (parts_in held (get_or parts i d ∷ []))) → SoFar held first new (drop (i + 1) parts) parts
part_more held first now new parts i d within so added =
    let left : List CxxTree = printed_in (facts_in held) (parts_in held (drop (i + 1) parts)) in
    let next : List CxxTree = printed_in (facts_in held) (parts_in held (get_or parts i d ∷ [])) in
    record {
      is = ap (λ (ts : List CxxTree). ts ++ left) added.is ∙ append_assoc (trees_in (trees held) now) next left ∙ ap (λ (ts : List CxxTree). trees_in (trees held) now ++ ts) (sym (at_drop_more (λ (ns : List TreeId). printed_in (facts_in held) (parts_in held ns)) parts i d within ∙ cons_is (facts_in held) (tree held (get_or parts i d)) (trees_in (trees held) (drop (i + 1) parts)))) ∙ so.is;
      below = λ below. added.below (so.below below);
    }

-- ---- the objects of the first part of a `for`

no_objects : (held : Held) (number : TreeId) → eqb (tree held number).label.production 24 ≡ false → [] ≡ first_objects (facts_in held) (parts_in held (number ∷ []))
no_objects held number e = rw e refl

pub another_first : (held : Held) (node : Node) (number : TreeId) (found : List TreeId) → tree held number ≡ tree_over held.types (trees held) node → (node.production ≡ 24 → ⊥) → AreTrees held found [] → AreTrees held found (first_objects (facts_in held) (parts_in held (number ∷ [])))
another_first held node number found is other none =
    subst (λ (ts : List CxxTree). AreTrees held found ts) (no_objects held number (ap (λ (t : CxxTree). eqb t.label.production 24) is ∙ not_it node.production 24 other)) none

pub none_there : (held : Held) (parts found : List TreeId) → length parts < 1 → AreTrees held found [] → AreTrees held found (first_objects (facts_in held) (parts_in held parts))
none_there held parts found short none = subst (λ (ts : CxxTrees). AreTrees held found (first_objects (facts_in held) ts)) (sym (none_first held parts short)) none
