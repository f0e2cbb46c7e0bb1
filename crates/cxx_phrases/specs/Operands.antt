-- Postfix and unary expressions and casts (5.2 to 5.4): the operands of binary operators.
use Rattle.std.specs.Prelude.{ℕ, Bool, true, false, if◌then◌else◌, List, [], ◌∷◌, Option, Some, None, codes}
use Rattle.cxx_model.specs.declared.fault.FaultText.TheVariants as says
use Rattle.cxx_model.specs.declared.fault.LeftOut.TheVariants as form
use Rattle.cxx_model.specs.declared.keyword.TheConstants as keyword
use Rattle.cxx_model.specs.declared.punct.TheConstants as punct
use Rattle.cxx_model.specs.declared.tree.Kind.{Kind}
use Rattle.cxx_model.specs.declared.tree.Kind.TheVariants as kind
use Rattle.cxx_model.specs.Types.Trees.{CxxType}
use Rattle.cxx_phrases.specs.declared.level.Level.TheVariants as level
use Rattle.cxx_phrases.specs.declared.shape.TypeShape.{TypeShape}
use Rattle.cxx_phrases.specs.declared.shape.TypeShape.TheVariants as shape
use Rattle.cxx_phrases.specs.Arguments.{arguments_at}
use Rattle.cxx_phrases.specs.Brackets.{called_name, begins_cast}
use Rattle.cxx_phrases.specs.Forms.{called_tree, member_tree, subscript_tree, step_tree, prefix_tree, size_tree, cast_tree}
use Rattle.cxx_phrases.specs.Operators.{is_prefix, is_step, operator_ahead}
use Rattle.cxx_phrases.specs.Phrases.{Phrases, Inner}
use Rattle.cxx_phrases.specs.Primary.{called_at, parenthesis_at, primary_at}
use Rattle.cxx_phrases.specs.Productions as phrase
use Rattle.cxx_reading.specs.Reads.{Reads, Ahead, Turn, More, Done, ◌>>=◌, got, give, ask, fault_at, looked, taken, tokens, kind_ahead, place_ahead, count_ahead, repeat}
use Rattle.cxx_reading.specs.Shapes.{look, past}
use Rattle.cxx_reading.specs.Tokens.{is_punct, is_keyword, path_taken, punct_taken}
use Rattle.cxx_reading.specs.Trees.{CxxPath, CxxTree}

-- ---- postfix expressions (5.2)

-- 5.2.2: a call of what was read
unfoldable pub call_step : {S : Type 0} → Phrases S → Inner S → Ahead → CxxTree → Reads S (Turn CxxTree CxxTree)
call_step asks inner from function = do
  arguments ← arguments_at asks inner
  to ← looked
  tree ← ask (asks.whole (called_tree function arguments from to))
  give (More tree)

-- 5.2.1
unfoldable pub subscript_step : {S : Type 0} → Phrases S → Inner S → Ahead → CxxTree → Reads S (Turn CxxTree CxxTree)
subscript_step asks inner from object = do
  place ← taken
  index ← inner.expression level.Whole
  closed ← tokens (punct_taken punct.RIGHT_BRACKET)
  to ← looked
  tree ← ask (asks.whole (subscript_tree place object index from to))
  give (More tree)

-- 5.2.6
unfoldable pub step_step : {S : Type 0} → Phrases S → Ahead → CxxTree → Reads S (Turn CxxTree CxxTree)
step_step asks from operand = do
  at ← looked
  place ← taken
  to ← looked
  tree ← ask (asks.whole (step_tree (operator_ahead at) place operand from to))
  give (More tree)

-- 3.4.5, 12.4: what names the member, with its qualifiers; the call of a destructor is left out
unfoldable pub selected_name : {S : Type 0} → Reads S CxxPath
selected_name state ahead =
    if is_punct punct.TILDE (kind_ahead ahead) then fault_at (place_ahead ahead) (says.LeftOut form.DestructorCall) state ahead else
    path_taken state ahead

-- 5.2.5: from `.` or `->` on
unfoldable pub selected_step : {S : Type 0} → Phrases S → ℕ → Ahead → CxxTree → Reads S (Turn CxxTree CxxTree)
selected_step asks number from object = do
  place ← taken
  path ← selected_name
  to ← looked
  tree ← ask (asks.whole (member_tree number place path object from to))
  give (More tree)

unfoldable pub postfix_step : {S : Type 0} → Phrases S → Inner S → Ahead → CxxTree → Reads S (Turn CxxTree CxxTree)
postfix_step asks inner from so_far state ahead =
    if is_punct punct.LEFT_PARENTHESIS (kind_ahead ahead) then call_step asks inner from so_far state ahead else (
    if is_punct punct.LEFT_BRACKET (kind_ahead ahead) then subscript_step asks inner from so_far state ahead else (
    if is_step (kind_ahead ahead) then step_step asks from so_far state ahead else (
    if is_punct punct.DOT (kind_ahead ahead) then selected_step asks phrase.member from so_far state ahead else (
    if is_punct punct.ARROW (kind_ahead ahead) then selected_step asks phrase.arrow from so_far state ahead else
    got (Done so_far) state ahead))))

-- what goes on with a primary expression, which began at `from`
unfoldable pub postfixes_at : {S : Type 0} → Phrases S → Inner S → Ahead → CxxTree → Reads S CxxTree
postfixes_at asks inner from first state ahead = repeat (postfix_step asks inner from) give (count_ahead ahead) first state ahead

-- ---- brackets

-- 5.4
unfoldable pub cast_at : {S : Type 0} → Phrases S → Inner S → Reads S CxxTree
cast_at asks inner = do
  from ← looked
  opened ← taken
  of ← inner.type_id
  closed ← tokens (punct_taken punct.RIGHT_PARENTHESIS)
  operand ← inner.expression level.Operand
  to ← looked
  ask (asks.whole (cast_tree (codes "(") of operand from to))

unfoldable pub parenthesis_part : {S : Type 0} → Phrases S → Inner S → Reads S CxxTree
parenthesis_part asks inner state ahead = (parenthesis_at asks inner >>= postfixes_at asks inner ahead) state ahead

abbrev pub cast_by : {S : Type 0} → Phrases S → Inner S → Bool → Reads S CxxTree
cast_by asks inner true = cast_at asks inner
cast_by asks inner false = parenthesis_part asks inner

-- a cast or a parenthesis
unfoldable pub cast_or_parenthesis : {S : Type 0} → Phrases S → Inner S → Reads S CxxTree
cast_or_parenthesis asks inner = begins_cast inner >>= cast_by asks inner

-- 13.3.1.1.1: a call by the name that stands in brackets from `from` on; what is ahead is the bracket of its arguments
unfoldable pub called_part : {S : Type 0} → Phrases S → Inner S → Ahead → CxxPath → Reads S CxxTree
called_part asks inner from path = called_at asks inner (codes "(") from path >>= postfixes_at asks inner from

-- the name of a type is not called, nor is that of a namespace
abbrev pub called_by : {S : Type 0} → Phrases S → Inner S → Ahead → CxxPath → Kind → Reads S CxxTree
called_by asks inner from path kind.OfType state rest = cast_or_parenthesis asks inner state from
called_by asks inner from path kind.Space state rest = cast_or_parenthesis asks inner state from
called_by asks inner from path _ state rest = called_part asks inner from path state rest

unfoldable pub called_or_not : {S : Type 0} → Phrases S → Inner S → Ahead → CxxPath → Reads S CxxTree
called_or_not asks inner from path = ask (asks.kind path) >>= called_by asks inner from path

abbrev pub bracket_by : {S : Type 0} → Phrases S → Inner S → Ahead → Option CxxPath → Reads S CxxTree
bracket_by asks inner from (Some path) state rest = called_or_not asks inner from path state rest
bracket_by asks inner from None state rest = cast_or_parenthesis asks inner state from

-- what begins with `(`
unfoldable pub bracket_at : {S : Type 0} → Phrases S → Inner S → Reads S CxxTree
bracket_at asks inner state ahead = (tokens (called_name asks.room) >>= bracket_by asks inner ahead) state ahead

-- ---- unary expressions (5.3)

unfoldable pub prefix_at : {S : Type 0} → Phrases S → Inner S → Reads S CxxTree
prefix_at asks inner = do
  from ← looked
  operator ← taken
  operand ← inner.expression level.Operand
  to ← looked
  ask (asks.whole (prefix_tree (operator_ahead from) operand from to))

-- 5.3.3
unfoldable pub size_at : {S : Type 0} → Phrases S → Inner S → Reads S CxxTree
size_at asks inner = do
  from ← looked
  word ← taken
  sized ← inner.sized
  to ← looked
  ask (asks.whole (size_tree sized from to))

unfoldable pub primary_part : {S : Type 0} → Phrases S → Inner S → Reads S CxxTree
primary_part asks inner state ahead = (primary_at asks inner >>= postfixes_at asks inner ahead) state ahead

-- 5.4
unfoldable pub operand_at : {S : Type 0} → Phrases S → Inner S → Reads S CxxTree
operand_at asks inner state ahead =
    if is_prefix (kind_ahead ahead) then prefix_at asks inner state ahead else (
    if is_keyword keyword.SIZEOF (kind_ahead ahead) then size_at asks inner state ahead else (
    if is_punct punct.LEFT_PARENTHESIS (kind_ahead ahead) then bracket_at asks inner state ahead else
    primary_part asks inner state ahead))

-- ---- behind `sizeof` (5.3.3)

unfoldable pub sized_operand : {S : Type 0} → Phrases S → Inner S → Reads S (Option CxxType × List CxxTree)
sized_operand asks inner = do
  operand ← operand_at asks inner
  give (None, operand ∷ [])

unfoldable pub sized_type : {S : Type 0} → Inner S → Reads S (Option CxxType × List CxxTree)
sized_type inner = do
  opened ← taken
  of ← inner.type_id
  closed ← tokens (punct_taken punct.RIGHT_PARENTHESIS)
  give (Some of.0, of.1)

abbrev pub sized_by : {S : Type 0} → Phrases S → Inner S → TypeShape → Reads S (Option CxxType × List CxxTree)
sized_by asks inner shape.NoType = sized_operand asks inner
sized_by asks inner shape.Closed = sized_type inner
sized_by asks inner shape.Surely = sized_type inner

-- A type in brackets ends there, whatever follows.
unfoldable pub sized_at : {S : Type 0} → Phrases S → Inner S → Reads S (Option CxxType × List CxxTree)
sized_at asks inner state ahead =
    if is_punct punct.LEFT_PARENTHESIS (kind_ahead ahead) then (look (past inner.type_passed) >>= sized_by asks inner) state ahead else
    sized_operand asks inner state ahead
