-- How initializers are read (8.5), and expressions of each level.
use Rattle.std.specs.Prelude.{◌==◌, if◌then◌else◌, List, [], ◌∷◌, ◌++◌}
use Rattle.cxx_model.specs.declared.punct.TheConstants as punct
use Rattle.cxx_model.specs.declared.stop.LimitKind.TheVariants.{Nesting}
use Rattle.cxx_model.specs.declared.tree.Form.{Form}
use Rattle.cxx_model.specs.declared.tree.Form.TheVariants as form
use Rattle.cxx_phrases.specs.declared.level.Level.{Level}
use Rattle.cxx_phrases.specs.declared.level.Level.TheVariants as level
use Rattle.cxx_phrases.specs.Arguments.{some_arguments}
use Rattle.cxx_phrases.specs.Forms.{braces_tree}
use Rattle.cxx_phrases.specs.Levels.{whole_at, assignment_at, conditional_at}
use Rattle.cxx_phrases.specs.Operands.{operand_at}
use Rattle.cxx_phrases.specs.Phrases.{Phrases, Inner}
use Rattle.cxx_reading.specs.Reads.{Reads, Turn, More, Done, ◌>>=◌, got, give, limited, looked, kind_ahead, count_ahead, behind, repeat}
use Rattle.cxx_reading.specs.Tokens.{is_punct, refused}
use Rattle.cxx_reading.specs.Trees.{CxxTree}

-- ---- braces (8.5.1)

-- behind a comma the end may stand
unfoldable pub clause_comma : {S : Type 0} → List CxxTree → Reads S (Turn (List CxxTree) (List CxxTree))
clause_comma so_far state ahead =
    if is_punct punct.RIGHT_BRACE (kind_ahead ahead) then got (Done so_far) state (behind ahead) else got (More so_far) state ahead

-- behind a part
unfoldable pub clause_ended : {S : Type 0} → List CxxTree → CxxTree → Reads S (Turn (List CxxTree) (List CxxTree))
clause_ended so_far tree state ahead =
    if is_punct punct.COMMA (kind_ahead ahead) then clause_comma (so_far ++ tree ∷ []) state (behind ahead) else (
    if is_punct punct.RIGHT_BRACE (kind_ahead ahead) then got (Done (so_far ++ tree ∷ [])) state (behind ahead) else
    refused state ahead)

unfoldable pub clause_step : {S : Type 0} → Inner S → List CxxTree → Reads S (Turn (List CxxTree) (List CxxTree))
clause_step inner so_far = inner.expression level.Clause >>= clause_ended so_far

unfoldable pub some_clauses : {S : Type 0} → Inner S → Reads S (List CxxTree)
some_clauses inner state ahead = repeat (clause_step inner) give (count_ahead ahead) [] state ahead

unfoldable pub clauses_behind : {S : Type 0} → Inner S → Reads S (List CxxTree)
clauses_behind inner state ahead =
    if is_punct punct.RIGHT_BRACE (kind_ahead ahead) then got [] state (behind ahead) else some_clauses inner state ahead

-- the parts of the braces that stand ahead, with their end
unfoldable pub clauses_at : {S : Type 0} → Phrases S → Inner S → Reads S (List CxxTree)
clauses_at asks inner state ahead =
    if asks.room == 0 then limited Nesting state ahead else clauses_behind inner state (behind ahead)

-- braces inside of braces
unfoldable pub braces_at : {S : Type 0} → Phrases S → Inner S → Reads S CxxTree
braces_at asks inner = do
  from ← looked
  parts ← clauses_at asks inner
  to ← looked
  give (braces_tree parts from to)

unfoldable pub clause_at : {S : Type 0} → Phrases S → Inner S → Reads S CxxTree
clause_at asks inner state ahead =
    if is_punct punct.LEFT_BRACE (kind_ahead ahead) then braces_at asks inner state ahead else assignment_at asks inner state ahead

-- ---- expressions of each level

abbrev pub expression_at : {S : Type 0} → Phrases S → Inner S → Level → Reads S CxxTree
expression_at asks inner level.Whole = whole_at asks inner
expression_at asks inner level.Assignment = assignment_at asks inner
expression_at asks inner level.Constant = conditional_at asks inner
expression_at asks inner level.Operand = operand_at asks inner
expression_at asks inner level.Clause = clause_at asks inner

-- ---- initializers (8.5)

-- how an object is initialized, and by what
pub record Initializer : Type 0 where
  pub form : Form
  pub parts : List CxxTree

abbrev pub initialized : {S : Type 0} → Form → List CxxTree → Reads S Initializer
initialized form parts = give (record { form = form; parts = parts })

unfoldable pub copy_at : {S : Type 0} → Phrases S → Inner S → Reads S Initializer
copy_at asks inner = do
  tree ← assignment_at asks inner
  initialized form.Copy (tree ∷ [])

-- 8.5.1
unfoldable pub aggregate_at : {S : Type 0} → Phrases S → Inner S → Reads S Initializer
aggregate_at asks inner = do
  parts ← clauses_at asks inner
  initialized form.Aggregate parts

-- behind `=`
unfoldable pub equals_at : {S : Type 0} → Phrases S → Inner S → Reads S Initializer
equals_at asks inner state ahead =
    if is_punct punct.LEFT_BRACE (kind_ahead ahead) then aggregate_at asks inner state ahead else copy_at asks inner state ahead

-- behind `(` at least one expression stands
unfoldable pub list_behind : {S : Type 0} → Inner S → Reads S Initializer
list_behind inner = do
  parts ← some_arguments inner
  initialized form.Direct parts

unfoldable pub direct_at : {S : Type 0} → Phrases S → Inner S → Reads S Initializer
direct_at asks inner state ahead = if asks.room == 0 then limited Nesting state ahead else list_behind inner state (behind ahead)

-- from `=` or `(` on
unfoldable pub initializer_at : {S : Type 0} → Phrases S → Inner S → Reads S Initializer
initializer_at asks inner state ahead =
    if is_punct punct.EQUALS (kind_ahead ahead) then equals_at asks inner state (behind ahead) else (
    if is_punct punct.LEFT_PARENTHESIS (kind_ahead ahead) then direct_at asks inner state ahead else
    refused state ahead)
