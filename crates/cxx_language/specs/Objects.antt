-- How an object is initialized (8.5).
use Rattle.std.specs.Prelude.{ℕ, Bool, ◌&&◌, ◌||◌, false, if◌then◌else◌, nat_eq, List, [], ◌∷◌, Some, codes}
use Rattle.cxx_model.specs.declared.fault.FaultText.TheVariants as says
use Rattle.cxx_model.specs.declared.punct.TheConstants as punct
use Rattle.cxx_model.specs.declared.tree.Form.{Form}
use Rattle.cxx_model.specs.declared.tree.Form.TheVariants as form
use Rattle.cxx_model.specs.Text.Lexemes.{Lexeme}
use Rattle.cxx_model.specs.Types.Trees.{CxxType, array_of, number_bound}
use Rattle.cxx_reading.specs.Declaring.{define_declared}
use Rattle.cxx_reading.specs.Labels.{label_from}
use Rattle.cxx_reading.specs.Productions as production
use Rattle.cxx_reading.specs.Reads.{Reads, Ahead, ◌>>=◌, got, give, ask, fault_at, looked, kind_ahead}
use Rattle.cxx_reading.specs.State.{CxxState}
use Rattle.cxx_reading.specs.Tokens.{is_punct, refused}
use Rattle.cxx_reading.specs.Trees.{CxxTree, tree_of}
use Rattle.cxx_reading.specs.Units.{complete_object, ends_declarator, is_const_type, uninitialized}
use Rattle.cxx_phrases.specs.Initializers.{Initializer, initializer_at}
use Rattle.cxx_phrases.specs.Phrases.{Phrases, Inner}
use Rattle.cxx_expr.specs.Initializing.{initialize}
use Rattle.cxx_expr.specs.Questions.{Questions}
use Rattle.cxx_answers.specs.Typed.{type_so_far}
use Rattle.cxx_constant.specs.Forms.{value_of_name}
use Rattle.cxx_language.specs.Known.{is_some_value, note_known, type_known}

-- ---- the tree of an initializer

-- its spelling tells in which form it is written
abbrev pub form_text : Form → List ℕ
form_text form.Copy = codes "="
form_text form.Direct = codes "("
form_text form.Aggregate = codes "{"
form_text form.Default = []

-- an initializer as it is read, from its `=` or `(` on
abbrev pub initializer_tree : Initializer → Ahead → Ahead → CxxTree
initializer_tree read from to = tree_of (label_from production.initializer (form_text read.form) from to) read.parts

-- ---- reading

-- 8.3.4: an array has one element at least
abbrev pub is_empty_array : CxxType → Bool
is_empty_array (array_of of (number_bound n)) = nat_eq n 0
is_empty_array _ = false

unfoldable pub some_elements : Lexeme → CxxType → Reads CxxState (Unit {0})
some_elements name of state ahead = if is_empty_array of then fault_at name.place says.OperandsDoNotFit state ahead else got tt state ahead

-- 3.5, 8.3.4: the type of the object with a declaration, with the bound that any of its declarations gives
abbrev pub known_so_far : ℕ → CxxType → Reads CxxState CxxType
known_so_far number of state ahead = got (type_so_far state number of) state ahead

-- from `=` or `(` on, of the object with a declaration
unfoldable pub initialized_part : Questions → Phrases CxxState → Inner CxxState → Lexeme → CxxType → ℕ → Reads CxxState (List CxxTree)
initialized_part q at inner name of number = do
  whole ← complete_object name of
  from ← looked
  read ← initializer_at at inner
  to ← looked
  known ← known_so_far number of
  tree ← ask (initialize q known (initializer_tree read from to))
  fits ← some_elements name (type_known known tree)
  noted ← ask (note_known name number known tree)
  give (tree ∷ [])

abbrev pub begins_initializer : Ahead → Bool
begins_initializer ahead = is_punct punct.EQUALS (kind_ahead ahead) || is_punct punct.LEFT_PARENTHESIS (kind_ahead ahead)

-- 9.4.2 p4: whether the object with a declaration is a constant whose value is known already, as that of a member is which
-- its class gives
abbrev pub is_given : CxxState → ℕ → CxxType → Bool
is_given state number of = is_const_type of && is_some_value (value_of_name state.graph.facts (Some number))

unfoldable pub without_initializer : Lexeme → CxxType → ℕ → Reads CxxState (List CxxTree)
without_initializer name of number state ahead =
    if is_given state number of then got [] state ahead else uninitialized name (type_so_far state number of) state ahead

-- behind the name of an object that is defined
unfoldable pub defined_part : Questions → Phrases CxxState → Inner CxxState → Lexeme → CxxType → ℕ → Reads CxxState (List CxxTree)
defined_part q at inner name of number state ahead =
    if begins_initializer ahead then initialized_part q at inner name of number state ahead else (
    if ends_declarator (kind_ahead ahead) then without_initializer name of number state ahead else
    refused state ahead)

unfoldable pub defined_later : Questions → Phrases CxxState → Inner CxxState → Lexeme → CxxType → ℕ → Reads CxxState (List CxxTree)
defined_later q at inner name of number = do
  defined ← ask (define_declared name number)
  initialized_part q at inner name of number

-- behind the name of an object that is declared with `extern`, which an initializer defines (3.1)
unfoldable pub extern_part : Questions → Phrases CxxState → Inner CxxState → Lexeme → CxxType → ℕ → Reads CxxState (List CxxTree)
extern_part q at inner name of number state ahead =
    if begins_initializer ahead then defined_later q at inner name of number state ahead else (
    if ends_declarator (kind_ahead ahead) then got [] state ahead else
    refused state ahead)
