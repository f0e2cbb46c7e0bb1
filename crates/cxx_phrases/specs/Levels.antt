-- Expressions by how loosely their operators bind (5.5 to 5.19).
use Rattle.std.specs.Prelude.{ℕ, zero, suc, if◌then◌else◌}
use Rattle.cxx_model.specs.declared.fault.FaultText.TheVariants as says
use Rattle.cxx_model.specs.declared.fault.LeftOut.TheVariants as form
use Rattle.cxx_model.specs.declared.keyword.TheConstants as keyword
use Rattle.cxx_model.specs.declared.punct.TheConstants as punct
use Rattle.cxx_phrases.specs.declared.level.Level.TheVariants as level
use Rattle.cxx_phrases.specs.Forms.{operator_tree, conditional_tree}
use Rattle.cxx_phrases.specs.Operands.{operand_at}
use Rattle.cxx_phrases.specs.Operators.{outermost, is_of_level, selects_member, is_assignment, operator_ahead}
use Rattle.cxx_phrases.specs.Phrases.{Phrases, Inner}
use Rattle.cxx_phrases.specs.Productions as phrase
use Rattle.cxx_reading.specs.Reads.{Reads, Ahead, Turn, More, Done, ◌>>=◌, got, give, fault_at, ask, looked, taken, tokens, kind_ahead, place_ahead, count_ahead, repeat}
use Rattle.cxx_reading.specs.Tokens.{is_punct, is_keyword, punct_taken}
use Rattle.cxx_reading.specs.Trees.{CxxTree}

-- ---- binary operators (5.5 to 5.15)

-- 5.5: pointers to members are left out
unfoldable pub no_member : {S : Type 0} → CxxTree → Reads S CxxTree
no_member tree state ahead =
    if selects_member (kind_ahead ahead) then fault_at (place_ahead ahead) (says.LeftOut form.PointerToMember) state ahead else got tree state ahead

unfoldable pub member_operand : {S : Type 0} → Phrases S → Inner S → Reads S CxxTree
member_operand asks inner = operand_at asks inner >>= no_member

-- an operator, which is ahead, and its right operand
unfoldable pub operation : {S : Type 0} → Phrases S → Reads S CxxTree → Ahead → CxxTree → Reads S (Turn CxxTree CxxTree)
operation asks operand from left = do
  at ← looked
  place ← taken
  right ← operand
  to ← looked
  tree ← ask (asks.whole (operator_tree phrase.binary (operator_ahead at) place left right from to))
  give (More tree)

unfoldable pub operation_step : {S : Type 0} → Phrases S → Reads S CxxTree → ℕ → Ahead → CxxTree → Reads S (Turn CxxTree CxxTree)
operation_step asks operand level from left state ahead =
    if is_of_level level (kind_ahead ahead) then operation asks operand from left state ahead else got (Done left) state ahead

-- operators of a level, from the left, behind the first operand, which began at `from`
unfoldable pub operations_at : {S : Type 0} → Phrases S → Reads S CxxTree → ℕ → Ahead → CxxTree → Reads S CxxTree
operations_at asks operand level from first state ahead = repeat (operation_step asks operand level from) give (count_ahead ahead) first state ahead

unfoldable pub operations_part : {S : Type 0} → Phrases S → Reads S CxxTree → ℕ → Reads S CxxTree
operations_part asks operand level state ahead = (operand >>= operations_at asks operand level ahead) state ahead

-- an expression of operators up to a level
unfoldable pub binary_at : {S : Type 0} → Phrases S → Inner S → ℕ → Reads S CxxTree
binary_at asks inner zero = member_operand asks inner
binary_at asks inner (suc level) = operations_part asks (binary_at asks inner level) (suc level)

-- ---- the conditional operator (5.16)

-- from its `?` on
unfoldable pub conditional_part : {S : Type 0} → Phrases S → Inner S → Ahead → CxxTree → Reads S CxxTree
conditional_part asks inner from condition = do
  place ← taken
  one ← inner.expression level.Whole
  colon ← tokens (punct_taken punct.COLON)
  other ← inner.expression level.Assignment
  to ← looked
  ask (asks.whole (conditional_tree place condition one other from to))

unfoldable pub conditional_by : {S : Type 0} → Phrases S → Inner S → Ahead → CxxTree → Reads S CxxTree
conditional_by asks inner from condition state ahead =
    if is_punct punct.QUESTION (kind_ahead ahead) then conditional_part asks inner from condition state ahead else got condition state ahead

unfoldable pub conditional_at : {S : Type 0} → Phrases S → Inner S → Reads S CxxTree
conditional_at asks inner = do
  from ← looked
  condition ← binary_at asks inner outermost
  conditional_by asks inner from condition

-- ---- assignment (5.17)

-- from its operator on
unfoldable pub assignment_part : {S : Type 0} → Phrases S → Inner S → Ahead → CxxTree → Reads S CxxTree
assignment_part asks inner from left = do
  at ← looked
  place ← taken
  right ← inner.expression level.Assignment
  to ← looked
  ask (asks.whole (operator_tree phrase.assignment (operator_ahead at) place left right from to))

unfoldable pub assignment_by : {S : Type 0} → Phrases S → Inner S → Ahead → CxxTree → Reads S CxxTree
assignment_by asks inner from left state ahead =
    if is_assignment (kind_ahead ahead) then assignment_part asks inner from left state ahead else conditional_by asks inner from left state ahead

unfoldable pub assignment_behind : {S : Type 0} → Phrases S → Inner S → Reads S CxxTree
assignment_behind asks inner = do
  from ← looked
  left ← binary_at asks inner outermost
  assignment_by asks inner from left

-- 15.1: `throw` is left out
unfoldable pub assignment_at : {S : Type 0} → Phrases S → Inner S → Reads S CxxTree
assignment_at asks inner state ahead =
    if is_keyword keyword.THROW (kind_ahead ahead) then fault_at (place_ahead ahead) (says.LeftOut form.Exception) state ahead else assignment_behind asks inner state ahead

-- ---- commas (5.18)

unfoldable pub comma_part : {S : Type 0} → Phrases S → Inner S → Ahead → CxxTree → Reads S (Turn CxxTree CxxTree)
comma_part asks inner from left = do
  at ← looked
  place ← taken
  right ← assignment_at asks inner
  to ← looked
  tree ← ask (asks.whole (operator_tree phrase.assignment (operator_ahead at) place left right from to))
  give (More tree)

unfoldable pub comma_step : {S : Type 0} → Phrases S → Inner S → Ahead → CxxTree → Reads S (Turn CxxTree CxxTree)
comma_step asks inner from left state ahead =
    if is_punct punct.COMMA (kind_ahead ahead) then comma_part asks inner from left state ahead else got (Done left) state ahead

unfoldable pub commas_at : {S : Type 0} → Phrases S → Inner S → Ahead → CxxTree → Reads S CxxTree
commas_at asks inner from first state ahead = repeat (comma_step asks inner from) give (count_ahead ahead) first state ahead

unfoldable pub whole_at : {S : Type 0} → Phrases S → Inner S → Reads S CxxTree
whole_at asks inner state ahead = (assignment_at asks inner >>= commas_at asks inner ahead) state ahead
