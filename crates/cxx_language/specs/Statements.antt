-- What statements are made of (clause 6): their expressions and declarations, and what these become.
use Rattle.std.specs.Prelude.{ℕ, ◌==◌, Bool, true, false, if◌then◌else◌, nat_eq, Option, Some, None, Ok, Err}
use Rattle.cxx_model.specs.declared.base.Base.{Base}
use Rattle.cxx_model.specs.declared.fault.FaultText.{FaultText}
use Rattle.cxx_model.specs.declared.fault.FaultText.TheVariants as says
use Rattle.cxx_model.specs.declared.fault.LeftOut.TheVariants as form
use Rattle.cxx_model.specs.declared.keyword.TheConstants as keyword
use Rattle.cxx_model.specs.declared.place.Place.{Place}
use Rattle.cxx_model.specs.declared.token.TokenKind.{TokenKind}
use Rattle.cxx_model.specs.declared.token.TokenKind.TheVariants.{Keyword}
use Rattle.cxx_model.specs.Stops.{fault, not_built_at}
use Rattle.cxx_model.specs.Types.Trees.{CxxType, fundamental}
use Rattle.cxx_meaning.specs.Conversions.Arithmetic.{integer_of, integral_promoted}
use Rattle.cxx_meaning.specs.Conversions.BuiltIn.{bool_type, is_condition, operand_kind}
use Rattle.cxx_reading.specs.Declarators.{is_void}
use Rattle.cxx_reading.specs.Declaring.{enter_block, leave_block, within_step}
use Rattle.cxx_reading.specs.Initializers.{operand_of}
use Rattle.cxx_reading.specs.Reads.{Reads, Asks, ◌>>=◌, give, ask, fault_at, kind_ahead, place_ahead}
use Rattle.cxx_reading.specs.State.{CxxState}
use Rattle.cxx_reading.specs.Trees.{CxxTree}
use Rattle.cxx_heads.specs.declared.head.Head as heads
use Rattle.cxx_heads.specs.declared.head.Head.TheVariants as heads_
use Rattle.cxx_heads.specs.Heads.{head_at, is_declared_condition}
use Rattle.cxx_phrases.specs.Levels.{conditional_at, whole_at}
use Rattle.cxx_expr.specs.Converting.{convert}
use Rattle.cxx_expr.specs.Operands.{is_of_class}
use Rattle.cxx_expr.specs.Questions.{Questions}
use Rattle.cxx_answers.specs.Answers.{constant_here}
use Rattle.cxx_statements.specs.declared.parts.Head.{Head}
use Rattle.cxx_statements.specs.declared.parts.Head.TheVariants as head
use Rattle.cxx_statements.specs.declared.parts.Purpose.{Purpose}
use Rattle.cxx_statements.specs.declared.parts.Purpose.TheVariants as purpose
use Rattle.cxx_statements.specs.Productions as production
use Rattle.cxx_statements.specs.Statements.{CxxTarget, to_bool, to_promoted, to_type, to_result, Parts}
use Rattle.cxx_language.specs.Asked.{answers, asked, inner_at, phrases_at}
use Rattle.cxx_language.specs.Blocks.{declared_condition_at, local_declaration_at}

-- ---- how a statement begins (6.8)

-- a statement that is left out begins with its keyword (6.6.4, 7.4, clause 15)
abbrev pub left_out_word : ℕ → Option FaultText
left_out_word n =
    if n == keyword.GOTO then Some (says.LeftOut form.Goto) else (
    if n == keyword.ASM then Some (says.LeftOut form.Asm) else (
    if n == keyword.TRY then Some (says.LeftOut form.Exception) else
    None))

abbrev pub left_out : TokenKind → Option FaultText
left_out (Keyword n) = left_out_word n
left_out kind = None

-- labels that are names are left out, which `goto` alone uses (6.1)
abbrev pub head_as : heads.Head → Reads CxxState Head
head_as heads_.Declaration = give head.Declaration
head_as heads_.Using = give head.Declaration
head_as heads_.Namespace = give head.Declaration
head_as heads_.Label = λ state ahead. fault_at (place_ahead ahead) (says.LeftOut form.Label) state ahead
head_as heads_.Expression = give head.Expression

abbrev pub begun_by : ℕ → Option FaultText → Reads CxxState Head
begun_by room None = head_at (asked room).kinds (inner_at room).types >>= head_as
begun_by room (Some text) = λ state ahead. fault_at (place_ahead ahead) text state ahead

unfoldable pub statement_head : ℕ → Reads CxxState Head
statement_head room state ahead = begun_by room (left_out (kind_ahead ahead)) state ahead

-- ---- expressions

-- 6.5.3: what a `for` does behind each turn
unfoldable pub set_in_step : Bool → Asks CxxState (Unit {0})
set_in_step inside state = Ok (tt, within_step inside state)

unfoldable pub step_at : ℕ → Reads CxxState CxxTree
step_at room = do
  begun ← ask (set_in_step true)
  tree ← whole_at (phrases_at room) (inner_at room).phrases
  ended ← ask (set_in_step false)
  give tree

-- 6.4: an expression, or a declaration of one object
abbrev pub condition_by : ℕ → Bool → Reads CxxState CxxTree
condition_by room true = declared_condition_at room
condition_by room false = whole_at (phrases_at room) (inner_at room).phrases

unfoldable pub condition_at : ℕ → Reads CxxState CxxTree
condition_at room = is_declared_condition (asked room).kinds (inner_at room).types >>= condition_by room

abbrev pub expression_for : ℕ → Purpose → Reads CxxState CxxTree
expression_for room purpose.Whole = whole_at (phrases_at room) (inner_at room).phrases
expression_for room purpose.Constant = conditional_at (phrases_at room) (inner_at room).phrases
expression_for room purpose.Condition = condition_at room
expression_for room purpose.Step = step_at room

-- ---- what an expression becomes

-- where a condition is asked about: at its first token, or at the name that it declares
abbrev pub condition_place : CxxTree → Place
condition_place tree = if nat_eq tree.label.production production.declaration_statement then tree.label.place else tree.label.start

-- 6.4, 6.5: what converts to `bool`; what is of a class is not read yet
unfoldable pub tested : Questions → CxxTree → Asks CxxState CxxTree
tested q tree state =
    if is_of_class tree then Err (not_built_at (condition_place tree)) else (
    if is_condition (operand_kind (operand_of tree)) then convert q (condition_place tree) bool_type tree state else
    Err (fault (condition_place tree) says.OperandsDoNotFit))

abbrev pub promoted_by : Questions → CxxTree → Option Base → Asks CxxState CxxTree
promoted_by q tree None state = Err (fault (condition_place tree) says.OperandsDoNotFit)
promoted_by q tree (Some of) state = convert q (condition_place tree) (fundamental (integral_promoted of)) tree state

-- 6.4.2: what is of an integral type or an enumeration, promoted
unfoldable pub switched : Questions → CxxTree → Asks CxxState CxxTree
switched q tree state =
    if is_of_class tree then Err (not_built_at (condition_place tree)) else
    promoted_by q tree (integer_of state.graph (operand_kind (operand_of tree))) state

abbrev pub labelled_by : Questions → CxxType → CxxTree → Option Base → Asks CxxState CxxTree
labelled_by q of tree None state = Err (fault tree.label.start says.NotAConstant)
labelled_by q of tree (Some base) state = convert q tree.label.start of tree state

-- 6.4.2: the constant of a label, of an integral type or an enumeration
unfoldable pub labelled : Questions → CxxType → CxxTree → Asks CxxState CxxTree
labelled q of tree state = labelled_by q of tree (integer_of state.graph (operand_kind (operand_of tree))) state

-- 6.6.3: a function that returns nothing answers an expression of type `void`, and others initialize what they return
abbrev pub returned_by : Questions → CxxTree → Option CxxType → Asks CxxState CxxTree
returned_by q tree None state = Ok (tree, state)
returned_by q tree (Some result) state =
    if is_void result then (if is_void (operand_of tree).of then Ok (tree, state) else Err (fault tree.label.start says.OperandsDoNotFit)) else
    convert q tree.label.start result tree state

unfoldable pub returned : Questions → CxxTree → Asks CxxState CxxTree
returned q tree state = returned_by q tree state.here.result state

abbrev pub become : Questions → CxxTarget → CxxTree → Asks CxxState CxxTree
become q to_bool tree = tested q tree
become q to_promoted tree = switched q tree
become q (to_type of) tree = labelled q of tree
become q to_result tree = returned q tree

-- ---- all of it

-- with room for so many more brackets and statements
unfoldable pub parts_at : ℕ → Parts CxxState
parts_at room = record {
  head = statement_head room;
  declaration = local_declaration_at room;
  expression = expression_for room;
  converted = become answers;
  value = constant_here;
  enter_block = enter_block None;
  leave_block = leave_block;
}
