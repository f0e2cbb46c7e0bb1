-- How statements are read (clause 6), over anyone who reads their expressions and declarations.
use Rattle.std.specs.Prelude.{ℕ, zero, suc, ℤ, Bool, true, false, ◌||◌, ◌==◌, if◌then◌else◌, length, List, [], ◌∷◌, ◌++◌, Option, Some, None, codes}
use Rattle.std.specs.List.{list_any}
use Rattle.std.specs.Ordering.{int_eq}
use Rattle.cxx_model.specs.declared.fault.FaultText.TheVariants as says
use Rattle.cxx_model.specs.declared.keyword.TheConstants as keyword
use Rattle.cxx_model.specs.declared.place.Place.{Place}
use Rattle.cxx_model.specs.declared.punct.TheConstants as punct
use Rattle.cxx_model.specs.declared.stop.LimitKind.TheVariants.{Nesting}
use Rattle.cxx_model.specs.declared.token.TokenKind.{TokenKind}
use Rattle.cxx_model.specs.Types.Trees.{CxxType}
use Rattle.cxx_reading.specs.Initializers.{operand_of}
use Rattle.cxx_reading.specs.Labels.{label_from}
use Rattle.cxx_reading.specs.Reads.{Reads, Asks, Ahead, Turn, More, Done, ◌>>=◌, got, give, ask, limited, fault_at, looked, taken, tokens, kind_ahead, place_ahead, count_ahead, behind, repeat}
use Rattle.cxx_reading.specs.Shapes.{look}
use Rattle.cxx_reading.specs.Tokens.{is_punct, is_keyword, punct_taken, refused}
use Rattle.cxx_reading.specs.Trees.{CxxTree, tree_of}
use Rattle.cxx_statements.specs.declared.parts.Head.{Head}
use Rattle.cxx_statements.specs.declared.parts.Head.TheVariants as head
use Rattle.cxx_statements.specs.declared.parts.Purpose.{Purpose}
use Rattle.cxx_statements.specs.declared.parts.Purpose.TheVariants as purpose
use Rattle.cxx_statements.specs.Productions as production

-- ---- what is asked

-- what an expression of a statement becomes
pub data CxxTarget : Type 0 where
  -- 6.4, 6.5: a condition
  to_bool : CxxTarget
  -- 6.4.2: what is switched over, by its promotion
  to_promoted : CxxTarget
  -- 6.4.2: the constant of a label, by the promoted type of its switch
  to_type : CxxType → CxxTarget
  -- 6.6.3: what a function answers
  to_result : CxxTarget

-- The readers of what statements are made of, and questions, with room for so many more brackets and statements.
pub record Parts (S : Type 0) : Type 0 where
  -- 6.8: whether a declaration or an expression begins ahead, where no other statement does by its keyword, or the fault of
  -- what begins none; no token is taken
  pub head : Reads S Head
  -- 6.7: a declaration with its end
  pub declaration : Reads S CxxTree
  -- clause 5; a condition may be a declaration (6.4)
  pub expression : Purpose → Reads S CxxTree
  -- it was read as a whole, and becomes what is wanted
  pub converted : CxxTarget → CxxTree → Asks S CxxTree
  -- 5.19: the value of the constant of a label
  pub value : CxxTree → Asks S ℤ
  -- 3.3.2
  pub enter_block : Asks S (Unit {0})
  pub leave_block : Asks S (Unit {0})

-- ---- what stands around a statement

-- 6.4.2: the switch to which labels belong: the promoted type of what it is over, and the labels so far
pub record Switch : Type 0 where
  pub of : CxxType
  pub values : List ℤ
  pub has_default : Bool

pub record Around : Type 0 where
  -- 6.6.2: whether there is a loop to go on with
  pub in_loop : Bool
  -- 6.6.1: whether there is a loop or a switch to end
  pub breaks : Bool
  pub switch : Option Switch

abbrev pub nothing_around : Around
nothing_around = record { in_loop = false; breaks = false; switch = None }

-- in the body of a loop
abbrev pub in_a_loop : Around → Around
in_a_loop around = record around { in_loop = true; breaks = true }

-- in the body of a switch over a type
abbrev pub in_a_switch : CxxType → Around → Around
in_a_switch of around = record around { breaks = true; switch = Some (record { of = of; values = []; has_default = false }) }

-- behind the body of a loop: the labels in it are those of the switch around
abbrev pub behind_loop : Around → Around → Around
behind_loop around inside = record around { switch = inside.switch }

-- ---- readers inside readers

-- The readers behind a bracket that was taken, and of a statement in another one, which count for the nesting.
pub record Within (S : Type 0) : Type 0 where
  -- 6.4: behind the `(`, up to its end, in a scope that is entered for it
  pub condition : CxxTarget → Reads S CxxTree
  -- 6.5.2: behind the `(` of a `do`
  pub last_condition : Reads S CxxTree
  -- 6.5.3: behind the `(` of a `for`, in a scope that is entered for it: its three parts
  pub loop_parts : Reads S (List CxxTree)
  -- 6.4, 6.5: a statement that is no block, in a scope of its own
  pub sub_statement : Around → Reads S (CxxTree × Around)
  -- 6.3: behind the `{`, in a scope of its own
  pub statements : Around → Reads S (List CxxTree × Around)

-- where there is no room
abbrev pub too_deep : {S : Type 0} → Within S
too_deep = record {
  condition = λ target. limited Nesting;
  last_condition = limited Nesting;
  loop_parts = limited Nesting;
  sub_statement = λ around. limited Nesting;
  statements = λ around. limited Nesting;
}

-- ---- trees

abbrev pub statement_tree : ℕ → List CxxTree → Ahead → Ahead → CxxTree
statement_tree production parts from to = tree_of (label_from production [] from to) parts

-- spelled by its keyword
abbrev pub word_tree : ℕ → List ℕ → List CxxTree → Ahead → Ahead → CxxTree
word_tree production word parts from to = tree_of (label_from production word from to) parts

-- 6.5.3: a part of a `for` that is left out covers no token
abbrev pub no_part : Ahead → CxxTree
no_part ahead = statement_tree production.expression_statement [] ahead ahead

abbrev pub stated : {S : Type 0} → CxxTree → Around → Reads S (CxxTree × Around)
stated tree around = give (tree, around)

-- the keyword with a number, taken, where it stands ahead
abbrev pub keyword_taken : {S : Type 0} → ℕ → Reads S (Unit {0})
keyword_taken n state ahead = if is_keyword n (kind_ahead ahead) then got tt state (behind ahead) else refused state ahead

-- ---- conditions (6.4)

-- what was read becomes what is wanted before the bracket is looked at
abbrev pub condition_ended : {S : Type 0} → Parts S → CxxTarget → CxxTree → Reads S CxxTree
condition_ended parts target tree = do
  value ← ask (parts.converted target tree)
  closed ← tokens (punct_taken punct.RIGHT_PARENTHESIS)
  give value

unfoldable pub condition_at : {S : Type 0} → Parts S → CxxTarget → Reads S CxxTree
condition_at parts target = do
  entered ← ask parts.enter_block
  tree ← parts.expression purpose.Condition
  condition_ended parts target tree

unfoldable pub last_condition_at : {S : Type 0} → Parts S → Reads S CxxTree
last_condition_at parts = do
  tree ← parts.expression purpose.Whole
  condition_ended parts to_bool tree

-- ---- expressions and declarations as statements (6.2, 6.7)

unfoldable pub expression_statement : {S : Type 0} → Parts S → Reads S CxxTree
expression_statement parts = do
  from ← looked
  tree ← parts.expression purpose.Whole
  ended ← tokens (punct_taken punct.SEMICOLON)
  to ← looked
  give (statement_tree production.expression_statement (tree ∷ []) from to)

unfoldable pub declaration_statement : {S : Type 0} → Parts S → Reads S CxxTree
declaration_statement parts = do
  from ← looked
  tree ← parts.declaration
  to ← looked
  give (statement_tree production.declaration_statement (tree ∷ []) from to)

abbrev pub plain_by : {S : Type 0} → Parts S → Head → Reads S CxxTree
plain_by parts head.Declaration = declaration_statement parts
plain_by parts head.Expression = expression_statement parts

-- one of both
unfoldable pub plain_statement : {S : Type 0} → Parts S → Reads S CxxTree
plain_statement parts = parts.head >>= plain_by parts

-- ---- `for` (6.5.3)

-- a keyword with which a statement begins that is neither
unfoldable pub begins_statement : TokenKind → Bool
begins_statement kind =
    is_keyword keyword.IF kind || (is_keyword keyword.SWITCH kind || (is_keyword keyword.CASE kind || (is_keyword keyword.DEFAULT kind || (is_keyword keyword.WHILE kind || (is_keyword keyword.DO kind || (is_keyword keyword.FOR kind || (is_keyword keyword.BREAK kind || (is_keyword keyword.CONTINUE kind || is_keyword keyword.RETURN kind))))))))

-- a block, and declarations of no objects
unfoldable pub begins_no_object : TokenKind → Bool
begins_no_object kind = is_punct punct.LEFT_BRACE kind || (is_keyword keyword.USING kind || is_keyword keyword.NAMESPACE kind)

unfoldable pub first_part : {S : Type 0} → Parts S → Reads S CxxTree
first_part parts state ahead =
    if is_punct punct.SEMICOLON (kind_ahead ahead) then got (no_part ahead) state (behind ahead) else (
    if begins_statement (kind_ahead ahead) || begins_no_object (kind_ahead ahead) then refused state ahead else
    plain_statement parts state ahead)

unfoldable pub some_condition : {S : Type 0} → Parts S → Reads S CxxTree
some_condition parts = do
  tree ← parts.expression purpose.Condition
  value ← ask (parts.converted to_bool tree)
  ended ← tokens (punct_taken punct.SEMICOLON)
  give value

unfoldable pub second_part : {S : Type 0} → Parts S → Reads S CxxTree
second_part parts state ahead =
    if is_punct punct.SEMICOLON (kind_ahead ahead) then got (no_part ahead) state (behind ahead) else some_condition parts state ahead

unfoldable pub some_step : {S : Type 0} → Parts S → Reads S CxxTree
some_step parts = do
  tree ← parts.expression purpose.Step
  closed ← tokens (punct_taken punct.RIGHT_PARENTHESIS)
  give tree

unfoldable pub third_part : {S : Type 0} → Parts S → Reads S CxxTree
third_part parts state ahead =
    if is_punct punct.RIGHT_PARENTHESIS (kind_ahead ahead) then got (no_part ahead) state (behind ahead) else some_step parts state ahead

unfoldable pub loop_parts_at : {S : Type 0} → Parts S → Reads S (List CxxTree)
loop_parts_at parts = do
  entered ← ask parts.enter_block
  first ← first_part parts
  second ← second_part parts
  third ← third_part parts
  give (first ∷ second ∷ third ∷ [])

-- ---- blocks and statements in statements (6.3)

unfoldable pub block_in : {S : Type 0} → Within S → Around → Reads S (CxxTree × Around)
block_in inner around = do
  from ← looked
  opened ← taken
  inside ← inner.statements around
  to ← looked
  stated (statement_tree production.block inside.0 from to) inside.1

-- what begins no statement at all is met before the limit of nesting
unfoldable pub begun : {S : Type 0} → Parts S → Reads S (Unit {0})
begun parts state ahead =
    if begins_statement (kind_ahead ahead) || is_punct punct.SEMICOLON (kind_ahead ahead) then got tt state ahead else
    (look parts.head >>= λ head. give tt) state ahead

abbrev pub nested_statement : {S : Type 0} → Parts S → Within S → Around → Reads S (CxxTree × Around)
nested_statement parts inner around = begun parts >>= λ begins. inner.sub_statement around

-- a statement in another one
unfoldable pub sub_in : {S : Type 0} → Parts S → Within S → Around → Reads S (CxxTree × Around)
sub_in parts inner around state ahead =
    if is_punct punct.LEFT_BRACE (kind_ahead ahead) then block_in inner around state ahead else nested_statement parts inner around state ahead

-- ---- selection (6.4)

-- behind the first statement of an `if`
unfoldable pub else_part : {S : Type 0} → Parts S → Within S → Around → Reads S (List CxxTree × Around)
else_part parts inner around = do
  word ← taken
  other ← sub_in parts inner around
  give (other.0 ∷ [], other.1)

unfoldable pub other_part : {S : Type 0} → Parts S → Within S → Around → Reads S (List CxxTree × Around)
other_part parts inner around state ahead =
    if is_keyword keyword.ELSE (kind_ahead ahead) then else_part parts inner around state ahead else got ([], around) state ahead

-- behind its condition, with a scope that was entered
unfoldable pub if_ended : {S : Type 0} → Parts S → Within S → Ahead → CxxTree → Around → Reads S (CxxTree × Around)
if_ended parts inner from condition around = do
  one ← sub_in parts inner around
  other ← other_part parts inner one.1
  left ← ask parts.leave_block
  to ← looked
  stated (statement_tree production.selection (condition ∷ one.0 ∷ other.0) from to) other.1

unfoldable pub if_in : {S : Type 0} → Parts S → Within S → Around → Reads S (CxxTree × Around)
if_in parts inner around = do
  from ← looked
  word ← taken
  opened ← tokens (punct_taken punct.LEFT_PARENTHESIS)
  condition ← inner.condition to_bool
  if_ended parts inner from condition around

unfoldable pub switch_in : {S : Type 0} → Parts S → Within S → Around → Reads S (CxxTree × Around)
switch_in parts inner around = do
  from ← looked
  word ← taken
  opened ← tokens (punct_taken punct.LEFT_PARENTHESIS)
  condition ← inner.condition to_promoted
  body ← sub_in parts inner (in_a_switch (operand_of condition).of around)
  left ← ask parts.leave_block
  to ← looked
  stated (statement_tree production.switch (condition ∷ body.0 ∷ []) from to) around

-- ---- loops (6.5)

-- behind what a loop has before its body, with a scope that was entered
unfoldable pub loop_ended : {S : Type 0} → Parts S → Within S → ℕ → Ahead → List CxxTree → Around → Reads S (CxxTree × Around)
loop_ended parts inner number from before around = do
  body ← sub_in parts inner (in_a_loop around)
  left ← ask parts.leave_block
  to ← looked
  stated (statement_tree number (before ++ body.0 ∷ []) from to) (behind_loop around body.1)

unfoldable pub while_in : {S : Type 0} → Parts S → Within S → Around → Reads S (CxxTree × Around)
while_in parts inner around = do
  from ← looked
  word ← taken
  opened ← tokens (punct_taken punct.LEFT_PARENTHESIS)
  condition ← inner.condition to_bool
  loop_ended parts inner production.while from (condition ∷ []) around

unfoldable pub do_in : {S : Type 0} → Parts S → Within S → Around → Reads S (CxxTree × Around)
do_in parts inner around = do
  from ← looked
  word ← taken
  body ← sub_in parts inner (in_a_loop around)
  while_ ← tokens (keyword_taken keyword.WHILE)
  opened ← tokens (punct_taken punct.LEFT_PARENTHESIS)
  condition ← inner.last_condition
  ended ← tokens (punct_taken punct.SEMICOLON)
  to ← looked
  stated (statement_tree production.do_ (body.0 ∷ condition ∷ []) from to) (behind_loop around body.1)

unfoldable pub for_in : {S : Type 0} → Parts S → Within S → Around → Reads S (CxxTree × Around)
for_in parts inner around = do
  from ← looked
  word ← taken
  opened ← tokens (punct_taken punct.LEFT_PARENTHESIS)
  all ← inner.loop_parts
  loop_ended parts inner production.for from all around

-- ---- jumps (6.6)

unfoldable pub jump_taken : {S : Type 0} → List ℕ → Around → Reads S (CxxTree × Around)
jump_taken word around = do
  from ← looked
  jump ← taken
  ended ← tokens (punct_taken punct.SEMICOLON)
  to ← looked
  stated (word_tree production.jump word [] from to) around

-- `break` and `continue`, where there is something to end or to go on with
unfoldable pub jump_in : {S : Type 0} → List ℕ → Bool → Around → Reads S (CxxTree × Around)
jump_in word is_there around state ahead =
    if is_there then jump_taken word around state ahead else fault_at (place_ahead ahead) says.OperandsDoNotFit state ahead

unfoldable pub some_answer : {S : Type 0} → Parts S → Reads S (List CxxTree)
some_answer parts = do
  tree ← parts.expression purpose.Whole
  value ← ask (parts.converted to_result tree)
  ended ← tokens (punct_taken punct.SEMICOLON)
  give (value ∷ [])

unfoldable pub answer : {S : Type 0} → Parts S → Reads S (List CxxTree)
answer parts state ahead =
    if is_punct punct.SEMICOLON (kind_ahead ahead) then got [] state (behind ahead) else some_answer parts state ahead

unfoldable pub return_in : {S : Type 0} → Parts S → Around → Reads S (CxxTree × Around)
return_in parts around = do
  from ← looked
  word ← taken
  value ← answer parts
  to ← looked
  stated (statement_tree production.return value from to) around

-- ---- labels (6.1)

abbrev pub has_value : ℤ → List ℤ → Bool
has_value value values = list_any (λ one. int_eq one value) values

abbrev pub with_label : ℤ → Switch → Switch
with_label value switch = record switch { values = switch.values ++ value ∷ [] }

-- 6.4.2: no two labels of a switch have one value
unfoldable pub fresh_label : {S : Type 0} → Place → ℤ → Switch → Reads S (Unit {0})
fresh_label place value switch state ahead = if has_value value switch.values then fault_at place says.OperandsDoNotFit state ahead else got tt state ahead

unfoldable pub case_of : {S : Type 0} → Parts S → Switch → Reads S (CxxTree × Switch)
case_of parts switch = do
  from ← looked
  word ← taken
  tree ← parts.expression purpose.Constant
  constant ← ask (parts.converted (to_type switch.of) tree)
  value ← ask (parts.value constant)
  is_fresh ← fresh_label word value switch
  colon ← tokens (punct_taken punct.COLON)
  to ← looked
  give (word_tree production.label (codes "case") (constant ∷ []) from to, with_label value switch)

abbrev pub with_default : Switch → Switch
with_default switch = record switch { has_default = true }

unfoldable pub default_taken : {S : Type 0} → Switch → Reads S (CxxTree × Switch)
default_taken switch = do
  from ← looked
  word ← taken
  colon ← tokens (punct_taken punct.COLON)
  to ← looked
  give (word_tree production.label (codes "default") [] from to, with_default switch)

unfoldable pub default_of : {S : Type 0} → Switch → Reads S (CxxTree × Switch)
default_of switch state ahead =
    if switch.has_default then fault_at (place_ahead ahead) says.OperandsDoNotFit state ahead else default_taken switch state ahead

-- a label, with its switch behind it
unfoldable pub label_in : {S : Type 0} → Parts S → Switch → Reads S (CxxTree × Switch)
label_in parts switch state ahead =
    if is_keyword keyword.CASE (kind_ahead ahead) then case_of parts switch state ahead else default_of switch state ahead

abbrev pub with_switch : {S : Type 0} → Around → CxxTree × Switch → Reads S (CxxTree × Around)
with_switch around one = give (one.0, record around { switch = Some one.1 })

abbrev pub label_of : {S : Type 0} → Parts S → Around → Option Switch → Reads S (CxxTree × Around)
label_of parts around None state ahead = fault_at (place_ahead ahead) says.OperandsDoNotFit state ahead
label_of parts around (Some switch) state ahead = (label_in parts switch >>= with_switch around) state ahead

-- where its keyword stands
unfoldable pub label_at : {S : Type 0} → Parts S → Around → Reads S (CxxTree × Around)
label_at parts around = label_of parts around around.switch

unfoldable pub is_label : TokenKind → Bool
is_label kind = is_keyword keyword.CASE kind || is_keyword keyword.DEFAULT kind

abbrev pub more_labels : {S : Type 0} → List CxxTree → CxxTree × Around → Reads S (Turn (List CxxTree × Around) (List CxxTree × Around))
more_labels so_far one = give (More (so_far ++ one.0 ∷ [], one.1))

unfoldable pub label_step : {S : Type 0} → Parts S → List CxxTree × Around → Reads S (Turn (List CxxTree × Around) (List CxxTree × Around))
label_step parts so_far state ahead =
    if is_label (kind_ahead ahead) then (label_at parts so_far.1 >>= more_labels so_far.0) state ahead else got (Done so_far) state ahead

-- all labels before a statement
unfoldable pub labels_in : {S : Type 0} → Parts S → Around → Reads S (List CxxTree × Around)
labels_in parts around state ahead = repeat (label_step parts) give (count_ahead ahead) ([], around) state ahead

-- ---- statements

unfoldable pub empty_statement : {S : Type 0} → Reads S CxxTree
empty_statement = do
  from ← looked
  ended ← taken
  to ← looked
  give (statement_tree production.expression_statement [] from to)

abbrev pub with_around : {S : Type 0} → Around → CxxTree → Reads S (CxxTree × Around)
with_around around tree = stated tree around

unfoldable pub empty_in : {S : Type 0} → Around → Reads S (CxxTree × Around)
empty_in around = empty_statement >>= with_around around

unfoldable pub plain_in : {S : Type 0} → Parts S → Around → Reads S (CxxTree × Around)
plain_in parts around = plain_statement parts >>= with_around around

-- 6.2, 6.6, 6.7: no statement stands in it
unfoldable pub flat_in : {S : Type 0} → Parts S → Around → Reads S (CxxTree × Around)
flat_in parts around state ahead =
    if is_keyword keyword.BREAK (kind_ahead ahead) then jump_in (codes "break") around.breaks around state ahead else (
    if is_keyword keyword.CONTINUE (kind_ahead ahead) then jump_in (codes "continue") around.in_loop around state ahead else (
    if is_keyword keyword.RETURN (kind_ahead ahead) then return_in parts around state ahead else
    plain_in parts around state ahead))

-- 6.4, 6.5, or one of these
unfoldable pub keyword_in : {S : Type 0} → Parts S → Within S → Around → Reads S (CxxTree × Around)
keyword_in parts inner around state ahead =
    if is_keyword keyword.IF (kind_ahead ahead) then if_in parts inner around state ahead else (
    if is_keyword keyword.SWITCH (kind_ahead ahead) then switch_in parts inner around state ahead else (
    if is_keyword keyword.WHILE (kind_ahead ahead) then while_in parts inner around state ahead else (
    if is_keyword keyword.DO (kind_ahead ahead) then do_in parts inner around state ahead else (
    if is_keyword keyword.FOR (kind_ahead ahead) then for_in parts inner around state ahead else
    flat_in parts around state ahead))))

-- one without labels
unfoldable pub unlabelled_in : {S : Type 0} → Parts S → Within S → Around → Reads S (CxxTree × Around)
unlabelled_in parts inner around state ahead =
    if is_punct punct.LEFT_BRACE (kind_ahead ahead) then block_in inner around state ahead else (
    if is_punct punct.SEMICOLON (kind_ahead ahead) then empty_in around state ahead else
    keyword_in parts inner around state ahead)

-- labels stand before their statement in one tree
unfoldable pub labelled : {S : Type 0} → Ahead → List CxxTree → CxxTree × Around → Reads S (CxxTree × Around)
labelled from labels one state ahead =
    if length labels == 0 then got one state ahead else
    stated (statement_tree production.label (labels ++ one.0 ∷ []) from ahead) one.1 state ahead

unfoldable pub statement_in : {S : Type 0} → Parts S → Within S → Around → Reads S (CxxTree × Around)
statement_in parts inner around = do
  from ← looked
  labels ← labels_in parts around
  one ← unlabelled_in parts inner labels.1
  labelled from labels.0 one

-- a statement that is no block, in another one (6.4 p1, 6.5 p2)
unfoldable pub sub_statement_at : {S : Type 0} → Parts S → Within S → Around → Reads S (CxxTree × Around)
sub_statement_at parts inner around = do
  entered ← ask parts.enter_block
  one ← statement_in parts inner around
  left ← ask parts.leave_block
  give one

-- ---- blocks (6.3)

abbrev pub more_statements : {S : Type 0} → List CxxTree → CxxTree × Around → Reads S (Turn (List CxxTree × Around) (List CxxTree × Around))
more_statements so_far one = give (More (so_far ++ one.0 ∷ [], one.1))

unfoldable pub statement_step : {S : Type 0} → Parts S → Within S → List CxxTree × Around → Reads S (Turn (List CxxTree × Around) (List CxxTree × Around))
statement_step parts inner so_far state ahead =
    if is_punct punct.RIGHT_BRACE (kind_ahead ahead) then got (Done so_far) state (behind ahead) else
    (statement_in parts inner so_far.1 >>= more_statements so_far.0) state ahead

abbrev pub never_ended : {S A B : Type 0} → A → Reads S B
never_ended so_far = refused

-- up to the `}`, in the scope where the reader stands
unfoldable pub statements_in : {S : Type 0} → Parts S → Within S → Around → Reads S (List CxxTree × Around)
statements_in parts inner around state ahead = repeat (statement_step parts inner) never_ended (count_ahead ahead) ([], around) state ahead

unfoldable pub statements_at : {S : Type 0} → Parts S → Within S → Around → Reads S (List CxxTree × Around)
statements_at parts inner around = do
  entered ← ask parts.enter_block
  inside ← statements_in parts inner around
  left ← ask parts.leave_block
  give inside

-- ---- the knot

abbrev pub within_by : {S : Type 0} → Parts S → Within S → Within S
within_by parts inner = record {
  condition = condition_at parts;
  last_condition = last_condition_at parts;
  loop_parts = loop_parts_at parts;
  sub_statement = sub_statement_at parts inner;
  statements = statements_at parts inner;
}

-- The readers behind a bracket with room for so many more. What is asked may depend on the room.
unfoldable pub within : {S : Type 0} → (ℕ → Parts S) → ℕ → Within S
within asks zero = too_deep
within asks (suc room) = within_by (asks room) (within asks room)

-- 6, 8.4: the statements of the body of a function, behind its `{`, whose scope was entered
unfoldable pub body_at : {S : Type 0} → (ℕ → Parts S) → ℕ → Reads S (List CxxTree)
body_at asks room = do
  inside ← statements_in (asks room) (within asks room) nothing_around
  give inside.0
