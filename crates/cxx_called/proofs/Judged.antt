-- What the arguments of a call give, and the question that they make.
use Rattle.std.specs.Prelude.{ℕ, ◌≡◌, ◌<◌, ◌≤◌, ◌+◌, List, [], ◌∷◌, ◌++◌, length, Some, None, refl}
use Rattle.std.proofs.Common.{ap, sym, subst, ◌∙◌, append_assoc, get_or, drop}
use Rattle.std.proofs.lemmas.List.{append-nil, at_drop_more, at_drop_all}
use Rattle.cxx_model.specs.declared.place.Place.{Place}
use Rattle.cxx_model.specs.declared.sequence.Operand.{Operand}
use Rattle.cxx_model.specs.declared.tree.Node.{Node}
use Rattle.cxx_model.specs.declared.types.FactId.{FactId}
use Rattle.cxx_model.specs.declared.types.TreeId.{TreeId}
use Rattle.cxx_model.specs.declared.types.TypeId.{TypeId}
use Rattle.cxx_model.specs.Types.Trees.{CxxType}
use Rattle.cxx_meaning.specs.Conversions.Standard.{CxxOperand}
use Rattle.cxx_reading.specs.Seen.{Numbered}
use Rattle.cxx_reading.specs.State.{CxxState}
use Rattle.cxx_reading.specs.Trees.{CxxTree}
use Rattle.cxx_standard.specs.Views.{operand_at}
use Rattle.cxx_tree.proofs.Graphs.{length_facts}
use Rattle.cxx_tree.specs.Arena.{label_at}
use Rattle.cxx_tree.specs.Held.{Held, meaning, tree, trees, type_of}
use Rattle.cxx_tree.specs.Later.{Later}
use Rattle.cxx_called.specs.Tails.{object_question}
use Rattle.cxx_called.specs.Views.{asked_of}
use Rattle.cxx_expr.specs.Calls.{bare_word, is_bare, question}
use Rattle.cxx_expr.specs.Making.{AreTreesHeld, trees_held}
use Rattle.cxx_expr.specs.Names.{word_in}
use Rattle.cxx_expr.specs.Operands.{judged, judged_each, object_operand}
use Rattle.cxx_expr.specs.Questions.{CxxQuestion, Questions}
use Rattle.cxx_expr.specs.Views.{AreFactsBelow, AreFactsKnown, AreOperandsBelow, numbered, numbered_in, operands_in, question_of}
use Rattle.cxx_expr.proofs.Kept.{number_at, operand_kept, operand_later, type_kept}

pub operands_more : (types : List CxxType) (found : List Operand) (one : Operand) → operands_in types (found ++ one ∷ []) ≡ operands_in types found ++ operand_at types one ∷ []
operands_more types [] one = refl
operands_more types (first ∷ found) one = ap (λ os. operand_at types first ∷ os) (operands_more types found one)

pub operands_below_more : (count : ℕ) (found : List Operand) (one : Operand) → AreOperandsBelow count found → one.of.0 < count → AreOperandsBelow count (found ++ one ∷ [])
operands_below_more count [] one all last = (last, tt)
operands_below_more count (first ∷ found) one all last = (all.0, operands_below_more count found one all.1 last)

pub operands_kept : (old new : Held) (found : List Operand) → Later old new → AreOperandsBelow (length old.types) found → operands_in new.types found ≡ operands_in old.types found
operands_kept old new [] later ok = refl
operands_kept old new (one ∷ found) later ok =
    ap (λ (o : CxxOperand). o ∷ operands_in new.types found) (operand_kept old new one later ok.0)
    ∙ ap (λ os. operand_at old.types one ∷ os) (operands_kept old new found later ok.1)

pub operands_later : (old new : Held) (found : List Operand) → Later old new → AreOperandsBelow (length old.types) found → AreOperandsBelow (length new.types) found
operands_later old new [] later ok = tt
operands_later old new (one ∷ found) later ok = (operand_later old new one later ok.0, operands_later old new found later ok.1)

-- what one more argument gives
pub judged_step : (q : Questions) (first old new : Held) (found after : List Operand) (numbers : List TreeId) (i : ℕ) (number d : TreeId) (whole : List CxxOperand) → Later first old → meaning old ≡ meaning first → AreTreesHeld first numbers → i < length numbers → number ≡ get_or numbers i d →
    operands_in new.types after ≡ operands_in old.types found ++ judged q (tree old number) (meaning old) ∷ [] →
    operands_in old.types found ++ judged_each q (trees_held first (drop i numbers)) (meaning first) ≡ whole →
    operands_in new.types after ++ judged_each q (trees_held first (drop (i + 1) numbers)) (meaning first) ≡ whole
judged_step q first old new found after numbers i number d whole later unchanged ok within is added same =
    let rest : List CxxOperand = judged_each q (trees_held first (drop (i + 1) numbers)) (meaning first) in
    let before : List CxxOperand = operands_in old.types found in
    let there : number.0 < length (trees first) = number_at (length (trees first)) numbers i number d ok within is in
    ap (λ os. os ++ rest) added
    ∙ append_assoc before (judged q (tree old number) (meaning old) ∷ []) rest
    ∙ ap (λ (s : CxxState). before ++ (judged q (tree old number) s ∷ rest)) unchanged
    ∙ ap (λ (t : CxxTree). before ++ (judged q t (meaning first) ∷ rest)) (later.trees.same number.0 there)
    ∙ ap (λ (n : TreeId). before ++ (judged q (tree first n) (meaning first) ∷ rest)) is
    ∙ sym (at_drop_more (λ ns. before ++ judged_each q (trees_held first ns) (meaning first)) numbers i d within)
    ∙ same

pub judged_end : (q : Questions) (first new : Held) (found : List Operand) (numbers : List TreeId) (i : ℕ) (whole : List CxxOperand) → length numbers ≤ i →
    operands_in new.types found ++ judged_each q (trees_held first (drop i numbers)) (meaning first) ≡ whole → operands_in new.types found ≡ whole
judged_end q first new found numbers i whole past same =
    sym (append-nil (operands_in new.types found))
    ∙ sym (at_drop_all (λ ns. operands_in new.types found ++ judged_each q (trees_held first ns) (meaning first)) numbers i past)
    ∙ same

-- ---- the question

facts_count : (held : Held) → length held.graph.facts ≡ length (meaning held).graph.facts
unfolding meaning
facts_count held = sym (length_facts held.types held.graph.facts)

-- the declarations are there as before
pub facts_known : (old mid : Held) (functions : List FactId) → meaning mid ≡ meaning old → AreFactsKnown old functions → AreFactsKnown mid functions
facts_known old mid functions same ok =
    let count : length old.graph.facts ≡ length mid.graph.facts = facts_count old ∙ ap (λ (s : CxxState). length s.graph.facts) (sym same) ∙ sym (facts_count mid) in
    subst (λ n. AreFactsBelow n functions) count ok

-- the operands were made before
pub question_is : (q : Questions) (old mid : Held) (node : Node) (functions : List FactId) (arguments : List TreeId) (operands : List Operand) → meaning mid ≡ meaning old → operands_in mid.types operands ≡ judged_each q (trees_held old arguments) (meaning old) →
    q.call (question_of mid node.place (is_bare (label_at mid.types node)) (word_in (label_at mid.types node)).word functions operands) (meaning mid) ≡ q.call (question q (label_at old.types node) (numbered old functions) (trees_held old arguments) (meaning old)) (meaning old)
question_is q old mid node functions arguments operands same is =
    let make : List Numbered → List CxxOperand → CxxQuestion = λ fs os. record { place = node.place; word = bare_word (is_bare (label_at old.types node)) (word_in (label_at old.types node)).word; functions = fs; object = None; operands = os } in
    ap (λ (s : CxxState). q.call (make (numbered_in s.graph functions) (operands_in mid.types operands)) s) same
    ∙ ap (λ os. q.call (make (numbered old functions) os) (meaning old)) is

-- the same of a call that has an object
pub object_question_is : (q : Questions) (old mid : Held) (place : Place) (of : TypeId) (functions : List FactId) (arguments : List TreeId) (operands : List Operand) → of.0 < length old.types → Later old mid → meaning mid ≡ meaning old → operands_in mid.types operands ≡ judged_each q (trees_held old arguments) (meaning old) →
    q.call (asked_of mid place (type_of mid of) functions operands) (meaning mid) ≡ q.call (object_question q place (type_of old of) (numbered old functions) (trees_held old arguments) (meaning old)) (meaning old)
object_question_is q old mid place of functions arguments operands there later same is =
    let make : List Numbered → CxxType → List CxxOperand → CxxQuestion = λ fs t os. record { place = place; word = None; functions = fs; object = Some (object_operand t); operands = os } in
    ap (λ (s : CxxState). q.call (make (numbered_in s.graph functions) (type_of mid of) (operands_in mid.types operands)) s) same
    ∙ ap (λ t. q.call (make (numbered old functions) t (operands_in mid.types operands)) (meaning old)) (type_kept old mid of later there)
    ∙ ap (λ os. q.call (make (numbered old functions) (type_of old of) os) (meaning old)) is
