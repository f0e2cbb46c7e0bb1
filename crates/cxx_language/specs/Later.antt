-- Default arguments and bodies of functions in a class (8.3.6, 9.3). They are read where the outermost class has ended, since
-- all its members are known in them (3.3.6, 9.2 p2): their tokens are passed over first, and read then, one after another, the
-- default arguments before the bodies, whose calls may need them.
use Rattle.std.specs.Prelude.{ℕ, Bool, not, nat_lt, if◌then◌else◌, List, [], ◌∷◌, ◌++◌, Option, Some, None}
use Rattle.cxx_model.specs.declared.fault.FaultText.TheVariants as says
use Rattle.cxx_model.specs.declared.fault.LeftOut.TheVariants as form
use Rattle.cxx_model.specs.declared.keyword.TheConstants as keyword
use Rattle.cxx_model.specs.declared.punct.TheConstants as punct
use Rattle.cxx_model.specs.Types.Trees.{CxxType}
use Rattle.cxx_reading.specs.Declarators.{is_function_type}
use Rattle.cxx_reading.specs.Declaring.{scope_count}
use Rattle.cxx_reading.specs.Labels.{label_from}
use Rattle.cxx_reading.specs.Productions as production
use Rattle.cxx_reading.specs.Reads.{Reads, Ahead, Turn, Done, ◌>>=◌, got, give, ask, fault_at, looked, kind_ahead, place_ahead}
use Rattle.cxx_reading.specs.State.{CxxState}
use Rattle.cxx_reading.specs.Tokens.{is_keyword, is_punct, refused}
use Rattle.cxx_reading.specs.Trees.{CxxTree, tree_of}
use Rattle.cxx_reading.specs.Units.{Listed, declarator_ended, one_tree, with_declarator}
use Rattle.cxx_phrases.specs.Levels.{assignment_at}
use Rattle.cxx_answers.specs.Defaults.{begin_later, end_later}
use Rattle.cxx_declare.specs.Outside.{stand_in}
use Rattle.cxx_language.specs.Asked.{inner_at, phrases_at}
use Rattle.cxx_language.specs.Bodies.{function_body, standing}
use Rattle.cxx_later.specs.Defaults.{LaterDefault}
use Rattle.cxx_later.specs.Passing.{body_later, ends_where, forward_to}
use Rattle.cxx_later.specs.Waiting.{Waiting, name_declared}

-- ---- what a declarator leads to: its tree, what is kept of the default arguments that were passed over in it, and the body of
-- the function that it defines

pub record Declares : Type 0 where
  pub tree : CxxTree
  pub defaults : List CxxTree
  pub body : List CxxTree

abbrev pub alone : CxxTree → Reads CxxState Declares
alone tree = give (record { tree = tree; defaults = []; body = [] })

abbrev pub with_defaults : Listed → List CxxTree → Listed
with_defaults so_far defaults = record so_far { trees = so_far.trees ++ defaults }

-- behind a body a declaration has ended
abbrev pub ended_behind : Listed → CxxTree → List CxxTree → Reads CxxState (Turn Listed (List CxxTree))
ended_behind so_far tree [] = declarator_ended so_far tree
ended_behind so_far tree (body ∷ others) = give (Done ((with_declarator tree so_far).trees ++ body ∷ []))

abbrev pub ended_by : Listed → Declares → Reads CxxState (Turn Listed (List CxxTree))
ended_by so_far one = ended_behind (with_defaults so_far one.defaults) one.tree one.body

-- ---- behind a declarator

-- 8.4: a function that is defined has its own list of parameters
abbrev pub list_then_body : CxxTree → Option ℕ → Reads CxxState (List CxxTree)
list_then_body declarator None = refused
list_then_body declarator (Some list) = body_later list declarator >>= one_tree

-- it is defined by the first declarator of its declaration
abbrev pub first_then_body : Bool → CxxTree → Option ℕ → Reads CxxState (List CxxTree)
first_then_body is_first declarator list state ahead = if is_first then list_then_body declarator list state ahead else refused state ahead

-- 9.3: behind the declarator of a function in a class a body may stand; 15: exceptions are left out
unfoldable pub member_body : Bool → CxxType → CxxTree → Option ℕ → Reads CxxState (List CxxTree)
member_body is_first of declarator list state ahead =
    if not (is_function_type of) then got [] state ahead else (
    if is_punct punct.LEFT_BRACE (kind_ahead ahead) then first_then_body is_first declarator list state ahead else (
    if is_keyword keyword.TRY (kind_ahead ahead) then fault_at (place_ahead ahead) (says.LeftOut form.Exception) state ahead else
    got [] state ahead))

-- ---- reading

-- the tokens that were ahead at some place are ahead again
abbrev pub back_to : Ahead → Reads CxxState (Unit {0})
back_to there state ahead = got tt state there

abbrev pub definition_tree : CxxTree → CxxTree → Ahead → Ahead → CxxTree
definition_tree declarator body from to = tree_of (label_from production.function_definition [] from to) (declarator ∷ body ∷ [])

-- a scope that there is
unfoldable pub list_there : ℕ → Reads CxxState (Unit {0})
list_there list state ahead = if nat_lt list (scope_count state.graph) then got tt state ahead else refused state ahead

-- a body, from its `{` on, in the scope of a list of parameters: it ends where it ended when it was passed over
unfoldable pub body_read : Waiting → Reads CxxState CxxTree
body_read one = do
  from ← looked
  there ← list_there one.list
  body ← function_body one.room (name_declared one.declarator) one.of one.number one.list
  ended ← ends_where one.last
  to ← looked
  give (definition_tree one.declarator body from to)

-- the next one, from where the reader stands
unfoldable pub waiting_read : Waiting → Reads CxxState CxxTree
waiting_read one = forward_to one.first >>= λ there. body_read one

-- one after another
unfoldable pub each_read : List Waiting → List CxxTree → Reads CxxState (List CxxTree)
each_read [] so_far = give so_far
each_read (one ∷ others) so_far = waiting_read one >>= λ tree. each_read others (so_far ++ tree ∷ [])

-- a default argument, from behind its `=`, in the scope of its list: it ends where it ended when it was passed over, and the
-- reader stands where it stood before
unfoldable pub default_read : LaterDefault → Reads CxxState (Unit {0})
default_read one = do
  there ← list_there one.list
  outside ← standing
  entered ← ask (stand_in one.list)
  begun ← ask begin_later
  tree ← assignment_at (phrases_at one.room) (inner_at one.room).phrases
  kept ← ask (end_later one.equals one.number one.index one.of tree)
  left ← ask (stand_in outside)
  ends_where one.last

-- the next one, from where the reader stands
unfoldable pub later_read : LaterDefault → Reads CxxState (Unit {0})
later_read one = forward_to one.first >>= λ there. default_read one

-- one after another
unfoldable pub defaults_read : List LaterDefault → Reads CxxState (Unit {0})
defaults_read [] = give tt
defaults_read (one ∷ others) = later_read one >>= λ was_read. defaults_read others

-- 9.2 p2: those of a class whose definition stands from one place up to another, where the reader stands then; and its bodies
unfoldable pub all_read : Ahead → Ahead → List LaterDefault → List Waiting → Reads CxxState (List CxxTree)
all_read from to defaults waiting = do
  back ← back_to from
  were_read ← defaults_read defaults
  again ← back_to from
  bodies ← each_read waiting []
  there ← back_to to
  give bodies
