-- Declarations in blocks (6.7) and in conditions (6.4).
use Rattle.std.specs.Prelude.{ℕ, false, true, if◌then◌else◌, List, [], ◌∷◌, ◌++◌, Option, Some, Ok}
use Rattle.cxx_model.specs.declared.fault.FaultText.TheVariants as says
use Rattle.cxx_model.specs.declared.keyword.TheConstants as keyword
use Rattle.cxx_model.specs.declared.punct.TheConstants as punct
use Rattle.cxx_model.specs.Text.Lexemes.{Lexeme}
use Rattle.cxx_meaning.specs.Conversions.Sizes.{referred}
use Rattle.cxx_model.specs.Types.Trees.{CxxType}
use Rattle.cxx_reading.specs.declared.specifier.Naming.TheVariants as naming
use Rattle.cxx_reading.specs.declared.specifier.SpecifierPlace.TheVariants as where_
use Rattle.cxx_reading.specs.Declarators.{Specifiers, Declarator, declared_type, is_function_type, own_parameters}
use Rattle.cxx_reading.specs.Declaring.{declare_linked_object, define_object, with_tested}
use Rattle.cxx_reading.specs.Labels.{label_from}
use Rattle.cxx_reading.specs.Reads.{Reads, Asks, Ahead, Turn, ◌>>=◌, give, ask, fault_at, looked, kind_ahead, place_ahead, count_ahead, behind, repeat}
use Rattle.cxx_reading.specs.Specifiers.{specifiers_at}
use Rattle.cxx_reading.specs.State.{CxxState}
use Rattle.cxx_reading.specs.Syntax.{declarator_at}
use Rattle.cxx_reading.specs.Tokens.{is_punct, is_keyword, refused}
use Rattle.cxx_reading.specs.Trees.{CxxTree, tree_of}
use Rattle.cxx_reading.specs.Units.{complete_object, Said, Listed, specifiers_tree, declarator_tree, name_in, declared_fits, declarator_ended, give_trees, no_declarators, nothing_declared, said_by, simple_tree, synonym_ended}
use Rattle.cxx_declare.specs.Functions.{declare_function}
use Rattle.cxx_phrases.specs.Initializers.{Initializer, copy_at}
use Rattle.cxx_phrases.specs.Phrases.{Phrases, Inner}
use Rattle.cxx_expr.specs.Initializing.{initialize}
use Rattle.cxx_expr.specs.Operands.{object_operand}
use Rattle.cxx_expr.specs.Questions.{Questions}
use Rattle.cxx_statements.specs.Productions as production
use Rattle.cxx_language.specs.Asked.{answers, asked, inner_at, phrases_at}
use Rattle.cxx_language.specs.Synonyms.{bare_synonym}
use Rattle.cxx_language.specs.Made.{defined_object}
use Rattle.cxx_language.specs.Known.{note_known, type_known}
use Rattle.cxx_language.specs.Objects.{begins_initializer, initializer_tree, some_elements}
use Rattle.cxx_language.specs.Spaces.{local_alias_at, using_at}

-- ---- one declarator

-- 3.5: a function that is declared in a block is a member of its namespace
unfoldable pub local_function : Said → Ahead → Declarator → Reads CxxState CxxTree
local_function said from declarator = do
  number ← ask (declare_function (own_parameters declarator.layers) (name_in declarator) (declared_type declarator.layers said.of))
  ended ← synonym_ended
  to ← looked
  give (declarator_tree said.is_extern (name_in declarator) (declared_type declarator.layers said.of) number declarator.parts from to)

-- 3.5, 6.7: an object that a block declares with `extern` has no initializer there
unfoldable pub linked_ended : Reads CxxState (Unit {0})
linked_ended state ahead = if begins_initializer ahead then fault_at (place_ahead ahead) says.OperandsDoNotFit state ahead else synonym_ended state ahead

unfoldable pub local_extern : Said → Ahead → Declarator → Reads CxxState CxxTree
local_extern said from declarator = do
  number ← ask (declare_linked_object (name_in declarator) (declared_type declarator.layers said.of))
  ended ← linked_ended
  to ← looked
  give (declarator_tree true (name_in declarator) (declared_type declarator.layers said.of) number declarator.parts from to)

abbrev pub locally_declared : ℕ → Said → Ahead → Declarator → Reads CxxState CxxTree
locally_declared room said from declarator =
    if said.is_typedef then bare_synonym said declarator from else (
    if is_function_type (declared_type declarator.layers said.of) then local_function said from declarator else (
    if said.is_extern then local_extern said from declarator else
    defined_object room said declarator from))

unfoldable pub local_declarator_at : ℕ → Said → Reads CxxState CxxTree
local_declarator_at room said = do
  from ← looked
  declarator ← declarator_at (asked room).kinds (inner_at room).types naming.Required
  fits ← declared_fits said declarator
  locally_declared room said from declarator

-- ---- declarations in blocks

unfoldable pub local_step : ℕ → Said → Listed → Reads CxxState (Turn Listed (List CxxTree))
local_step room said so_far = local_declarator_at room said >>= declarator_ended so_far

unfoldable pub local_declarators_at : ℕ → Said → Reads CxxState (List CxxTree)
local_declarators_at room said state ahead = repeat (local_step room said) give_trees (count_ahead ahead) no_declarators state ahead

unfoldable pub local_declarators_of : ℕ → Specifiers → Reads CxxState (List CxxTree)
local_declarators_of room specifiers state ahead =
    if is_punct punct.SEMICOLON (kind_ahead ahead) then nothing_declared specifiers state ahead else
    local_declarators_at room (said_by false specifiers) state ahead

unfoldable pub simple_local_at : ℕ → Reads CxxState CxxTree
simple_local_at room = do
  from ← looked
  specifiers ← specifiers_at (asked room).kinds (inner_at room).types where_.Block
  between ← looked
  declarators ← local_declarators_of room specifiers
  to ← looked
  give (simple_tree (specifiers_tree specifiers from between) declarators from to)

-- a declaration in a block, with its end
unfoldable pub local_declaration_at : ℕ → Reads CxxState CxxTree
local_declaration_at room state ahead =
    if is_keyword keyword.NAMESPACE (kind_ahead ahead) then local_alias_at state ahead else (
    if is_keyword keyword.USING (kind_ahead ahead) then using_at state ahead else
    simple_local_at room state ahead)

-- ---- declarations in conditions

-- behind the declarator stands `=`, and behind that an assignment-expression
unfoldable pub condition_value : Phrases CxxState → Inner CxxState → Reads CxxState Initializer
condition_value at inner state ahead = if is_punct punct.EQUALS (kind_ahead ahead) then copy_at at inner state (behind ahead) else refused state ahead

unfoldable pub condition_part : Questions → Phrases CxxState → Inner CxxState → Lexeme → CxxType → ℕ → Reads CxxState (List CxxTree)
condition_part q at inner name of number = do
  whole ← complete_object name of
  from ← looked
  read ← condition_value at inner
  to ← looked
  tree ← ask (initialize q of (initializer_tree read from to))
  fits ← some_elements name (type_known of tree)
  noted ← ask (note_known name number of tree)
  give (tree ∷ [])

-- 6.5.3: the object is kept, since a `for` may not name it behind each turn
unfoldable pub keep_tested : ℕ → Asks CxxState (Unit {0})
keep_tested number state = Ok (tt, with_tested (Some number) state)

unfoldable pub tested_object : ℕ → Said → Declarator → Ahead → Reads CxxState CxxTree
tested_object room said declarator from = do
  number ← ask (define_object (name_in declarator) (declared_type declarator.layers said.of))
  parts ← condition_part answers (phrases_at room) (inner_at room).phrases (name_in declarator) (declared_type declarator.layers said.of) number
  kept ← ask (keep_tested number)
  to ← looked
  give (declarator_tree false (name_in declarator) (declared_type declarator.layers said.of) number (declarator.parts ++ parts) from to)

-- a function has no `=` behind it
unfoldable pub tested_function : Said → Declarator → Reads CxxState CxxTree
tested_function said declarator = do
  number ← ask (declare_function (own_parameters declarator.layers) (name_in declarator) (declared_type declarator.layers said.of))
  refused

abbrev pub tested_by : ℕ → Said → Ahead → Declarator → Reads CxxState CxxTree
tested_by room said from declarator =
    if is_function_type (declared_type declarator.layers said.of) then tested_function said declarator else tested_object room said declarator from

unfoldable pub tested_declarator_at : ℕ → Said → Reads CxxState CxxTree
tested_declarator_at room said = do
  from ← looked
  declarator ← declarator_at (asked room).kinds (inner_at room).types naming.Required
  fits ← declared_fits said declarator
  tested_by room said from declarator

-- the type of the object of a declarator, and its place
abbrev pub type_of_declarator : Option CxxType → CxxType → CxxType
type_of_declarator (Some of) other = of
type_of_declarator _ other = other

-- A declaration in a condition stands for its object, at whose name its questions are asked.
abbrev pub condition_tree : CxxType → CxxTree → CxxTree → Ahead → Ahead → CxxTree
condition_tree other specifiers declarator from to =
    tree_of (record (label_from production.declaration_statement [] from to) {
      place = declarator.label.place;
      operand = Some (object_operand (referred (type_of_declarator declarator.label.of other)));
    }) (simple_tree specifiers (declarator ∷ []) from to ∷ [])

unfoldable pub declared_condition_at : ℕ → Reads CxxState CxxTree
declared_condition_at room = do
  from ← looked
  specifiers ← specifiers_at (asked room).kinds (inner_at room).types where_.TypeId
  between ← looked
  declarator ← tested_declarator_at room (said_by false specifiers)
  to ← looked
  give (condition_tree (said_by false specifiers).of (specifiers_tree specifiers from between) declarator from to)
