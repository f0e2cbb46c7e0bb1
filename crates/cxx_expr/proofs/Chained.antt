-- What is asked in turn is the whole that is asked for.
use Rattle.std.specs.Prelude.{ℕ, ◌≡◌, ◌<◌, List, length, Result, Ok}
use Rattle.std.proofs.Common.{ap, sym, subst, ◌∙◌}
use Rattle.cxx_model.specs.declared.sequence.Operand.{Operand}
use Rattle.cxx_model.specs.declared.stop.Stop.{Stop}
use Rattle.cxx_model.specs.declared.tree.Node.{Node}
use Rattle.cxx_model.specs.declared.types.TreeId.{TreeId}
use Rattle.cxx_model.specs.declared.types.TypeId.{TypeId}
use Rattle.cxx_model.specs.Stops.{Answer}
use Rattle.cxx_model.specs.Types.Numbers.{type_at}
use Rattle.cxx_model.specs.Types.Trees.{CxxType}
use Rattle.cxx_meaning.specs.declared.size.SizeReason.{SizeReason}
use Rattle.cxx_meaning.specs.Conversions.Standard.{CxxOperand}
use Rattle.cxx_reading.specs.Reads.{Asks}
use Rattle.cxx_reading.specs.State.{CxxState}
use Rattle.cxx_reading.specs.Trees.{CxxTree}
use Rattle.cxx_standard.specs.Views.{operand_at}
use Rattle.cxx_tree.specs.Answered.{IsAnswered, Replies}
use Rattle.cxx_tree.specs.Held.{Held, meaning, tree}
use Rattle.cxx_tree.specs.Later.{Later}
use Rattle.cxx_expr.specs.Asking.{then_asked}
use Rattle.cxx_expr.specs.Making.{GrowsTree, IsNewTree, IsTreeKnown}
use Rattle.cxx_expr.specs.Nodes.{IsNodeHeld, node_tree}
use Rattle.cxx_expr.specs.Questions.{Questions}
use Rattle.cxx_expr.specs.SizesOf.{measured, size, size_by, spelled_as}
use Rattle.cxx_expr.proofs.Kept.{later_trans}
use Rattle.cxx_expr.proofs.NodeKept.{node_kept}

pub reply_is : (old mid new : Held) (result : Result TreeId Stop) (last whole : Answer (CxxTree × CxxState)) → Later old mid → last ≡ whole → IsAnswered tree IsTreeKnown mid new result last → IsAnswered tree IsTreeKnown old new result whole
reply_is old mid new result last whole later same answered = record {
  is = subst (λ (r : Answer (CxxTree × CxxState)). Replies tree IsTreeKnown new result r) same answered.is;
  later = later_trans old mid new later answered.later;
}

pub grows_later : (old mid new : Held) (result : Result TreeId Stop) (one two : CxxTree) → Later old mid → meaning mid ≡ meaning old → one ≡ two → GrowsTree mid new result one → GrowsTree old new result two
grows_later old mid new result one two later unchanged same grown = record {
  later = later_trans old mid new later grown.later;
  same = grown.same ∙ unchanged;
  made = subst (λ (t : CxxTree). IsNewTree new result t) same grown.made;
}

pub spelled_is : (old mid : Held) (node : Node) (text wanted : List ℕ) (one : Operand) (operand : CxxOperand) → Later old mid → IsNodeHeld old node → text ≡ wanted → operand_at mid.types one ≡ operand → spelled_as (node_tree mid node) text (operand_at mid.types one) ≡ spelled_as (node_tree old node) wanted operand
spelled_is old mid node text wanted one operand later ok same given =
    ap (λ (t : CxxTree). spelled_as t text (operand_at mid.types one)) (node_kept old mid node later ok)
    ∙ ap (λ w. spelled_as (node_tree old node) w (operand_at mid.types one)) same
    ∙ ap (λ (o : CxxOperand). spelled_as (node_tree old node) wanted o) given

pub size_is : (q : Questions) (old mid last : Held) (node : Node) (of : TypeId) (found : Result ℕ SizeReason) → Later old mid → Later mid last → meaning mid ≡ meaning old → IsNodeHeld old node → of.0 < length mid.types → type_at mid.types of.0 ≡ measured (node_tree old node) (meaning old) → q.size (type_at mid.types of.0) (meaning mid) ≡ Ok (found, meaning last) →
    size_by (node_tree last node) (type_at last.types of.0) found (meaning last) ≡ size q (node_tree old node) (meaning old)
unfolding size
size_is q old mid last node of found first second unchanged ok known is asked =
    let whole : CxxTree = node_tree old node in
    let t : CxxType = measured whole (meaning old) in
    let go : Result ℕ SizeReason → Asks CxxState CxxTree = size_by whole t in
    let answer : q.size t (meaning old) ≡ Ok (found, meaning last) = sym (ap (λ (s : CxxState). q.size t s) unchanged) ∙ sym (ap (λ (u : CxxType). q.size u (meaning mid)) is) ∙ asked in
    ap (λ (u : CxxTree). size_by u (type_at last.types of.0) found (meaning last)) (node_kept old last node (later_trans old mid last first second) ok)
    ∙ ap (λ (u : CxxType). size_by whole u found (meaning last)) (second.types.same of.0 known ∙ is)
    ∙ sym (ap (λ (r : Answer (Result ℕ SizeReason × CxxState)). then_asked r go) answer)
