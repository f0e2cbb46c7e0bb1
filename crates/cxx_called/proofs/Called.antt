-- Calls of members by the node of what is called.
use Rattle.std.specs.Prelude.{ℕ, ◌≡◌, ◌<◌, List, [], ◌∷◌, codes, length, Option, Result, Some}
use Rattle.std.proofs.Common.{ap, subst, ◌∙◌}
use Rattle.cxx_model.specs.declared.stop.Stop.{Stop}
use Rattle.cxx_model.specs.declared.tree.Node.{Node}
use Rattle.cxx_model.specs.declared.types.TreeId.{TreeId}
use Rattle.cxx_model.specs.declared.types.TypeId.{TypeId}
use Rattle.cxx_model.specs.Facts.Declarations.{type_of_option}
use Rattle.cxx_model.specs.Facts.Fitted.{IsTypeNumberBelow}
use Rattle.cxx_model.specs.Stops.{Answer}
use Rattle.cxx_model.specs.Types.Trees.{CxxType}
use Rattle.cxx_reading.specs.State.{CxxState}
use Rattle.cxx_reading.specs.Trees.{CxxTree, Label}
use Rattle.cxx_tree.specs.Answered.{IsAnswered, Replies}
use Rattle.cxx_tree.specs.Arena.{label_at}
use Rattle.cxx_tree.specs.Held.{Held, meaning, tree, type_of}
use Rattle.cxx_tree.specs.Later.{Later}
use Rattle.cxx_expr.specs.declared.production.TheConstants as production
use Rattle.cxx_expr.specs.declared.questions.Chosen.{Chosen}
use Rattle.cxx_expr.specs.Calls.{behind_called, called_label, implied_callee, member_call, member_chosen, member_typed, without_name}
use Rattle.cxx_expr.specs.Implied.{object_tree}
use Rattle.cxx_expr.specs.Making.{AreTreesHeld, IsTreeKnown, trees_held}
use Rattle.cxx_expr.specs.Nodes.{IsNodeHeld, node_tree}
use Rattle.cxx_expr.specs.Questions.{CxxChosen, Questions}
use Rattle.cxx_expr.specs.Views.{IsChosen, chosen_of}
use Rattle.cxx_expr.proofs.Kept.{later_trans, trees_kept, type_kept}
use Rattle.cxx_expr.proofs.NodeKept.{label_kept, node_kept}
use Rattle.cxx_called.specs.Tails.{implied_behind, selected_callee}
use Rattle.cxx_called.proofs.Chosen.{chosen_kept, object_kept}

pub member_called : (q : Questions) (held : Held) (tree callee : CxxTree) (node : Node) (arguments : List CxxTree) (state : CxxState) → node_tree held node ≡ callee → member_typed q tree (node_tree held node) arguments (type_of_option held.types node.of) state ≡ member_call q tree callee arguments state
unfolding member_call
member_called q held tree callee node arguments state same = ap (λ (c : CxxTree). member_typed q tree c arguments c.label.of state) same

-- of `*this`, which stands for the name
pub implied_callee_is : (old new : Held) (name callee : Node) (of : TypeId) (object : TreeId) → Later old new → IsNodeHeld old name → of.0 < length old.types → tree new object ≡ object_tree (label_at old.types name) (type_of old of) → node_tree new callee ≡ selected_callee (label_at new.types name) (type_of new of) (tree new object) → node_tree new callee ≡ implied_callee (label_at old.types name) (type_of old of)
implied_callee_is old new name callee of object later held there made is =
    is
    ∙ ap (λ (l : Label). selected_callee l (type_of new of) (tree new object)) (label_kept old new name later held.below)
    ∙ ap (λ (t : CxxType). selected_callee (label_at old.types name) t (tree new object)) (type_kept old new of later there)
    ∙ ap (λ (t : CxxTree). selected_callee (label_at old.types name) (type_of old of) t) made

-- a call for `*this`, once what is called is made
pub implied_behind_is : (q : Questions) (old mid new : Held) (node name call callee : Node) (arguments : List TreeId) (of : TypeId) (class : Option TypeId) (chosen : Chosen) (last : ℕ) (r : Result TreeId Stop)
    → Later old mid → meaning mid ≡ meaning old → IsNodeHeld old call → AreTreesHeld old arguments → of.0 < length old.types → IsTypeNumberBelow (length old.types) class → IsChosen old chosen
    → (node_tree old name).label ≡ record (label_at old.types node) { production = production.NAME; spelling = []; last = last } → last ≡ behind_called (label_at old.types node) (trees_held old arguments) → node_tree old call ≡ without_name (node_tree old node)
    → node_tree mid callee ≡ implied_callee (node_tree old name).label (type_of old of)
    → IsAnswered tree IsTreeKnown mid new r (member_chosen q (node_tree mid call) (node_tree mid callee) (type_of mid of) (type_of_option mid.types class) (trees_held mid arguments) (chosen_of mid chosen) (meaning mid))
    → IsAnswered tree IsTreeKnown old new r (implied_behind q (node_tree old node) (trees_held old arguments) (type_of old of) (type_of_option old.types class) (chosen_of old chosen) (meaning old))
implied_behind_is q old mid new node name call callee arguments of class chosen last r later same held there below known chose named behind calls made answered =
    record { is = subst (λ (reply : Answer (CxxTree × CxxState)). Replies tree IsTreeKnown new r reply) moved answered.is; later = later_trans old mid new later answered.later }
  where
    over : CxxTree
    over = implied_callee (called_label (node_tree old node).label (trees_held old arguments)) (type_of old of)

    labelled : (node_tree old name).label ≡ called_label (node_tree old node).label (trees_held old arguments)
    labelled = named ∙ ap (λ (n : ℕ). record (label_at old.types node) { production = production.NAME; spelling = []; last = n }) behind

    callee_is : node_tree mid callee ≡ over
    callee_is = made ∙ ap (λ (l : Label). implied_callee l (type_of old of)) labelled

    call_is : node_tree mid call ≡ without_name (node_tree old node)
    call_is = node_kept old mid call later held ∙ calls

    moved : member_chosen q (node_tree mid call) (node_tree mid callee) (type_of mid of) (type_of_option mid.types class) (trees_held mid arguments) (chosen_of mid chosen) (meaning mid) ≡ implied_behind q (node_tree old node) (trees_held old arguments) (type_of old of) (type_of_option old.types class) (chosen_of old chosen) (meaning old)
    moved =
        ap (λ (t : CxxTree). member_chosen q t (node_tree mid callee) (type_of mid of) (type_of_option mid.types class) (trees_held mid arguments) (chosen_of mid chosen) (meaning mid)) call_is
        ∙ ap (λ (t : CxxTree). member_chosen q (without_name (node_tree old node)) t (type_of mid of) (type_of_option mid.types class) (trees_held mid arguments) (chosen_of mid chosen) (meaning mid)) callee_is
        ∙ ap (λ (t : CxxType). member_chosen q (without_name (node_tree old node)) over t (type_of_option mid.types class) (trees_held mid arguments) (chosen_of mid chosen) (meaning mid)) (type_kept old mid of later below)
        ∙ ap (λ (o : Option CxxType). member_chosen q (without_name (node_tree old node)) over (type_of old of) o (trees_held mid arguments) (chosen_of mid chosen) (meaning mid)) (object_kept old mid class later known)
        ∙ ap (λ (ts : List CxxTree). member_chosen q (without_name (node_tree old node)) over (type_of old of) (type_of_option old.types class) ts (chosen_of mid chosen) (meaning mid)) (trees_kept old mid arguments later there)
        ∙ ap (λ (one : CxxChosen). member_chosen q (without_name (node_tree old node)) over (type_of old of) (type_of_option old.types class) (trees_held old arguments) one (meaning mid)) (chosen_kept old mid chosen later chose)
        ∙ ap (λ (state : CxxState). member_chosen q (without_name (node_tree old node)) over (type_of old of) (type_of_option old.types class) (trees_held old arguments) (chosen_of old chosen) state) same
