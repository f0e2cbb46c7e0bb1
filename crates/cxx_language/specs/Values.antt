-- The value of a static constant in its class (9.4.2).
use Rattle.std.specs.Prelude.{ℕ, ℤ, Bool, ◌&&◌, if◌then◌else◌, List, [], ◌∷◌, Option, Some, None, Ok, Err}
use Rattle.cxx_model.specs.declared.punct.TheConstants as punct
use Rattle.cxx_model.specs.declared.token.TokenKind.{TokenKind}
use Rattle.cxx_model.specs.declared.tree.Form.TheVariants as form
use Rattle.cxx_model.specs.Stops.{Answer}
use Rattle.cxx_model.specs.Text.Lexemes.{Lexeme}
use Rattle.cxx_model.specs.Types.Trees.{CxxType}
use Rattle.cxx_reading.specs.Reads.{Reads, Asks, ◌>>=◌, got, give, ask, looked, taken, kind_ahead}
use Rattle.cxx_reading.specs.State.{CxxState}
use Rattle.cxx_reading.specs.Tokens.{is_punct}
use Rattle.cxx_reading.specs.Trees.{CxxTree, children_of}
use Rattle.cxx_phrases.specs.Initializers.{Initializer}
use Rattle.cxx_phrases.specs.Levels.{conditional_at}
use Rattle.cxx_phrases.specs.Phrases.{Phrases, Inner}
use Rattle.cxx_expr.specs.Initializing.{initialize}
use Rattle.cxx_expr.specs.Operands.{only}
use Rattle.cxx_answers.specs.Answers.{constant_here}
use Rattle.cxx_language.specs.Asked.{answers, inner_at, phrases_at}
use Rattle.cxx_language.specs.Known.{is_constant_type, note_known}
use Rattle.cxx_language.specs.Objects.{initializer_tree}

-- ---- reading

abbrev pub copied : CxxTree → Initializer
copied tree = record { form = form.Copy; parts = tree ∷ [] }

-- 9.2: from the `=` on, a constant-expression
abbrev pub constant_read : Phrases CxxState → Inner CxxState → Reads CxxState Initializer
constant_read at inner = do
  equals ← taken
  tree ← conditional_at at inner
  give (copied tree)

-- ---- what it has to be

abbrev pub told_constant : Answer (ℤ × CxxState) → Answer (Unit {0} × CxxState)
told_constant (Ok answer) = Ok (tt, answer.1)
told_constant (Err why) = Err why

abbrev pub constant_one : Option CxxTree → Asks CxxState (Unit {0})
constant_one None state = Ok (tt, state)
constant_one (Some one) state = told_constant (constant_here one state)

-- 5.19: what is converted to the type of the member is a constant
abbrev pub is_constant_given : CxxTree → Asks CxxState (Unit {0})
is_constant_given tree = constant_one (only (children_of tree))

-- ---- the whole

-- from the `=` on, of the member with a declaration
unfoldable pub constant_part : ℕ → Lexeme → CxxType → ℕ → Reads CxxState (List CxxTree)
constant_part room name of number = do
  from ← looked
  read ← constant_read (phrases_at room) (inner_at room).phrases
  to ← looked
  tree ← ask (initialize answers of (initializer_tree read from to))
  value ← ask (is_constant_given tree)
  noted ← ask (note_known name number of tree)
  give (tree ∷ [])

-- 9.4.2 p4: a static member that is a constant of an integral type or an enumeration may have its value in the class
abbrev pub has_value : Bool → CxxType → TokenKind → Bool
has_value is_static of kind = is_static && (is_constant_type of && is_punct punct.EQUALS kind)

unfoldable pub member_value : ℕ → Bool → Lexeme → CxxType → ℕ → Reads CxxState (List CxxTree)
member_value room is_static name of number state ahead =
    if has_value is_static of (kind_ahead ahead) then constant_part room name of number state ahead else got [] state ahead
