-- A call of a member, asked of the state in which its object was made.
use Rattle.std.specs.Prelude.{◌≡◌, ◌<◌, false, List, [], ◌∷◌, length, Some, None, Result, Ok, refl}
use Rattle.std.proofs.Common.{ap, sym, subst, ◌∙◌}
use Rattle.cxx_model.specs.declared.place.Place.{Place}
use Rattle.cxx_model.specs.declared.sequence.Operand.{Operand}
use Rattle.cxx_model.specs.declared.stop.Stop.{Stop}
use Rattle.cxx_model.specs.declared.types.FactId.{FactId}
use Rattle.cxx_model.specs.Stops.{Answer}
use Rattle.cxx_meaning.specs.Conversions.Standard.{CxxOperand}
use Rattle.cxx_reading.specs.Seen.{Numbered}
use Rattle.cxx_reading.specs.State.{CxxState}
use Rattle.cxx_standard.specs.Views.{operand_at}
use Rattle.cxx_overload.specs.declared.object.Object.{Object}
use Rattle.cxx_tree.proofs.Graphs.{length_facts}
use Rattle.cxx_tree.specs.Answered.{IsAnswered}
use Rattle.cxx_tree.specs.Held.{Held, meaning}
use Rattle.cxx_tree.specs.Later.{Later}
use Rattle.cxx_expr.proofs.Kept.{later_trans, operand_kept, operand_later}
use Rattle.cxx_expr.specs.declared.questions.Chosen.{Chosen}
use Rattle.cxx_expr.specs.Questions.{CxxChosen, CxxQuestion}
use Rattle.cxx_expr.specs.Views.{AreFactsBelow, AreFactsKnown, AreOperandsBelow, IsChosen, chosen_of, member_question_of, numbered_in, operands_in}
use Rattle.cxx_answers.specs.Answers.{call_here}
use Rattle.cxx_answers.specs.Objects.{GrowsObject}
use Rattle.cxx_answers.specs.Ruled.{asked_of}

-- ---- what was there stays

facts_count : (held : Held) → length held.graph.facts ≡ length (meaning held).graph.facts
unfolding meaning
facts_count held = sym (length_facts held.types held.graph.facts)

pub facts_later : (old new : Held) (numbers : List FactId) → meaning new ≡ meaning old → AreFactsKnown old numbers → AreFactsKnown new numbers
facts_later old new numbers same known =
    let count : length old.graph.facts ≡ length new.graph.facts = facts_count old ∙ ap (λ (s : CxxState). length s.graph.facts) (sym same) ∙ sym (facts_count new) in
    subst (λ n. AreFactsBelow n numbers) count known

operands_kept : (old new : Held) (operands : List Operand) → Later old new → AreOperandsBelow (length old.types) operands → operands_in new.types operands ≡ operands_in old.types operands
operands_kept old new [] later below = refl
operands_kept old new (one ∷ operands) later below =
    ap (λ (o : CxxOperand). o ∷ operands_in new.types operands) (operand_kept old new one later below.0)
    ∙ ap (λ os. operand_at old.types one ∷ os) (operands_kept old new operands later below.1)

pub operands_later : (old new : Held) (operands : List Operand) → Later old new → AreOperandsBelow (length old.types) operands → AreOperandsBelow (length new.types) operands
operands_later old new [] later below = tt
operands_later old new (one ∷ operands) later below = (operand_later old new one later below.0, operands_later old new operands later below.1)

-- ---- the question

question_is : (old new : Held) (place : Place) (functions : List FactId) (operand : Operand) (object : Object) (operands : List Operand) → GrowsObject old new operand (Ok object) → operand.of.0 < length old.types → AreOperandsBelow (length old.types) operands
    → call_here (asked_of new place false [] functions (Some object) operands) (meaning new) ≡ call_here (member_question_of old place operand functions operands) (meaning old)
question_is old new place functions operand object operands grows there below =
    let make : List Numbered → CxxOperand → List CxxOperand → CxxQuestion = λ fs o os. record { place = place; word = None; functions = fs; object = Some o; operands = os } in
    ap (λ (s : CxxState). call_here (make (numbered_in s.graph functions) (operand_at new.types object.operand) (operands_in new.types operands)) s) grows.same
    ∙ ap (λ (o : Operand). call_here (make (numbered_in (meaning old).graph functions) (operand_at new.types o) (operands_in new.types operands)) (meaning old)) grows.made.0
    ∙ ap (λ o. call_here (make (numbered_in (meaning old).graph functions) o (operands_in new.types operands)) (meaning old)) (operand_kept old new operand grows.later there)
    ∙ ap (λ os. call_here (make (numbered_in (meaning old).graph functions) (operand_at old.types operand) os) (meaning old)) (operands_kept old new operands grows.later below)

pub member_called : (old middle new : Held) (place : Place) (functions : List FactId) (operand : Operand) (object : Object) (operands : List Operand) (result : Result Chosen Stop) → GrowsObject old middle operand (Ok object) → operand.of.0 < length old.types → AreOperandsBelow (length old.types) operands
    → IsAnswered chosen_of IsChosen middle new result (call_here (asked_of middle place false [] functions (Some object) operands) (meaning middle))
    → IsAnswered chosen_of IsChosen old new result (call_here (member_question_of old place operand functions operands) (meaning old))
member_called old middle new place functions operand object operands result grows there below answered =
    let same : IsAnswered chosen_of IsChosen middle new result (call_here (member_question_of old place operand functions operands) (meaning old)) =
    subst (λ (reply : Answer (CxxChosen × CxxState)). IsAnswered chosen_of IsChosen middle new result reply) (question_is old middle place functions operand object operands grows there below) answered in
    record { is = same.is; later = later_trans old middle new grows.later answered.later }
