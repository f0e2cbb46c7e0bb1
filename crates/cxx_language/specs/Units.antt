-- The reading of a unit with expressions: its declarations in order (3.5, clause 7).
use Rattle.std.specs.Prelude.{ℕ, zero, suc, nat_eq, Bool, true, false, not, ◌&&◌, ◌||◌, if◌then◌else◌, List, [], ◌∷◌, ◌++◌, Option, Some, None}
use Rattle.cxx_model.specs.declared.fault.FaultText.TheVariants as says
use Rattle.cxx_model.specs.declared.fault.LeftOut.TheVariants as form
use Rattle.cxx_model.specs.declared.keyword.TheConstants as keyword
use Rattle.cxx_model.specs.declared.limits.TheConstants as limits
use Rattle.cxx_model.specs.declared.options.Options.{Options}
use Rattle.cxx_model.specs.declared.punct.TheConstants as punct
use Rattle.cxx_model.specs.declared.stop.LimitKind.TheVariants.{Nesting}
use Rattle.cxx_model.specs.Stops.{Answer}
use Rattle.cxx_model.specs.Text.Lexemes.{Lexeme, first_place}
use Rattle.cxx_model.specs.Types.Trees.{CxxType}
use Rattle.cxx_reading.specs.declared.specifier.Naming.TheVariants as naming
use Rattle.cxx_reading.specs.Declarators.{Specifiers, Declarator, declared_type, is_function_type, own_parameters}
use Rattle.cxx_reading.specs.Labels.{label_from}
use Rattle.cxx_declare.specs.Outside.{agree_here, declare_again, stand_in}
use Rattle.cxx_answers.specs.Defaults.{is_some_class}
use Rattle.cxx_reading.specs.Declaring.{class_of_here}
use Rattle.cxx_reading.specs.Productions as production
use Rattle.cxx_reading.specs.Reads.{Reads, Asks, Ahead, Turn, More, Done, ◌>>=◌, got, give, ask, fault_at, limited, looked, kind_ahead, place_ahead, count_ahead, behind, repeat}
use Rattle.cxx_reading.specs.State.{CxxState, first_state}
use Rattle.cxx_reading.specs.Syntax.{declarator_at}
use Rattle.cxx_reading.specs.Tokens.{is_punct, is_keyword, is_end, no_declaration, refused}
use Rattle.cxx_reading.specs.Trees.{CxxTree, tree_of}
use Rattle.cxx_reading.specs.Units.{CxxReading, Said, Listed, read_as, part_added, specifiers_tree, declarator_tree, name_in, declared_fits, ends_declarator, one_tree, give_trees, no_declarators, nothing_declared, said_by, empty_tree, another_ahead, linkages_passed, linkage_list, linked_tree, inside_step}
use Rattle.cxx_declare.specs.Functions.{declare_function}
use Rattle.cxx_statements.specs.Productions as statement
use Rattle.cxx_language.specs.Asked.{asked, inner_at}
use Rattle.cxx_language.specs.Bodies.{function_body, standing}
use Rattle.cxx_language.specs.Classes.{declaration_specifiers}
use Rattle.cxx_language.specs.Later.{Declares, alone, ended_by}
use Rattle.cxx_language.specs.Made.{defined_object, extern_object}
use Rattle.cxx_language.specs.Spaces.{namespace_at, using_at}
use Rattle.cxx_language.specs.Synonyms.{bare_synonym}

-- ---- one declarator (8, 8.5)

-- 8.4: behind the first declarator of a declaration, where it has its own list of parameters, a body may stand
abbrev pub behind_list : ℕ → Lexeme → CxxType → ℕ → Option ℕ → Reads CxxState (List CxxTree)
behind_list room name of number None state ahead = refused state ahead
behind_list room name of number (Some list) state ahead =
    if is_punct punct.LEFT_BRACE (kind_ahead ahead) then (function_body room name of number list >>= one_tree) state ahead else (
    if is_keyword keyword.TRY (kind_ahead ahead) then fault_at (place_ahead ahead) (says.LeftOut form.Exception) state ahead else
    refused state ahead)

abbrev pub not_ended : ℕ → Bool → Lexeme → CxxType → ℕ → Option ℕ → Reads CxxState (List CxxTree)
not_ended room true name of number list = behind_list room name of number list
not_ended room false name of number list = refused

unfoldable pub function_ended : ℕ → Bool → Declarator → CxxType → ℕ → Reads CxxState (List CxxTree)
function_ended room is_first declarator of number state ahead =
    if ends_declarator (kind_ahead ahead) then got [] state ahead else
    not_ended room is_first (name_in declarator) of number (own_parameters declarator.layers) state ahead

-- whether the reader stands in the scope of a class, one of whose members is declared outside of it
abbrev pub stands_in_class : CxxState → Bool
stands_in_class state = is_some_class (class_of_here state)

-- 9.3: where it does, the function is one of the class
unfoldable pub function_declared : Said → Declarator → Asks CxxState ℕ
function_declared said declarator state =
    if stands_in_class state then declare_again (name_in declarator) declarator.cv (declared_type declarator.layers said.of) state else
    declare_function (own_parameters declarator.layers) (name_in declarator) (declared_type declarator.layers said.of) state

unfoldable pub declared_function : ℕ → Said → Bool → Declarator → Ahead → Reads CxxState Declares
declared_function room said is_first declarator from = do
  number ← ask (function_declared said declarator)
  to ← looked
  body ← function_ended room is_first declarator (declared_type declarator.layers said.of) number
  give (record { tree = declarator_tree said.is_extern (name_in declarator) (declared_type declarator.layers said.of) number declarator.parts from to; defaults = []; body = body })

-- 3.3.1: a name is declared once its declarator is complete, before what follows is looked at
abbrev pub declared_by : ℕ → Said → Bool → Ahead → Declarator → Reads CxxState Declares
declared_by room said is_first from declarator =
    if said.is_typedef then bare_synonym said declarator from >>= alone else (
    if is_function_type (declared_type declarator.layers said.of) then declared_function room said is_first declarator from else (
    if said.is_extern then extern_object room said declarator from >>= alone else
    defined_object room said declarator from >>= alone))

-- 9.3: whether a function of the class in whose scope the reader stands is declared; whether the class has declared it is asked
-- when that is
abbrev pub is_function_outside : Said → Declarator → CxxState → Bool
is_function_outside said declarator state = not said.is_typedef && (is_function_type (declared_type declarator.layers said.of) && stands_in_class state)

abbrev pub outside_agrees : Said → Declarator → Reads CxxState (Unit {0})
outside_agrees said declarator state ahead =
    if is_function_outside said declarator state then got tt state ahead else
    ask (agree_here said.is_typedef (name_in declarator) (declared_type declarator.layers said.of)) state ahead

-- 8.3: what has qualifiers was declared before
abbrev pub member_agrees : Said → Declarator → Reads CxxState (Unit {0})
member_agrees said declarator state ahead = if declarator.is_qualified then outside_agrees said declarator state ahead else got tt state ahead

-- Behind it the reader stands where it stood before.
unfoldable pub init_declarator_at : ℕ → Said → Bool → Reads CxxState Declares
init_declarator_at room said is_first = do
  outside ← standing
  from ← looked
  declarator ← declarator_at (asked room).kinds (inner_at room).types naming.Qualified
  fits ← declared_fits said declarator
  agrees ← member_agrees said declarator
  one ← declared_by room said is_first from declarator
  left ← ask (stand_in outside)
  give one

-- ---- simple declarations (clause 7)

unfoldable pub declarator_step : ℕ → Said → Listed → Reads CxxState (Turn Listed (List CxxTree))
declarator_step room said so_far = init_declarator_at room said so_far.is_first >>= ended_by so_far

unfoldable pub declarators_at : ℕ → Said → Reads CxxState (List CxxTree)
declarators_at room said state ahead = repeat (declarator_step room said) give_trees (count_ahead ahead) no_declarators state ahead

unfoldable pub declarators_of : ℕ → Bool → Specifiers → Reads CxxState (List CxxTree)
declarators_of room counts_as_extern specifiers state ahead =
    if is_punct punct.SEMICOLON (kind_ahead ahead) then nothing_declared specifiers state ahead else
    declarators_at room (said_by counts_as_extern specifiers) state ahead

-- a declaration with a body is the definition of a function
abbrev pub has_body : List CxxTree → Bool
has_body [] = false
has_body (tree ∷ others) = nat_eq tree.label.production statement.block || has_body others

abbrev pub declaration_tree : CxxTree → List CxxTree → Ahead → Ahead → CxxTree
declaration_tree specifiers declarators from to =
    tree_of (label_from (if has_body declarators then production.function_definition else production.simple_declaration) [] from to) (specifiers ∷ declarators)

unfoldable pub simple_declaration_at : ℕ → Bool → Reads CxxState CxxTree
simple_declaration_at room counts_as_extern = do
  from ← looked
  specifiers ← declaration_specifiers room
  between ← looked
  declarators ← declarators_of room counts_as_extern specifiers
  to ← looked
  give (declaration_tree (specifiers_tree specifiers from between) declarators from to)

unfoldable pub plain_declaration_at : ℕ → Bool → Reads CxxState CxxTree
plain_declaration_at room counts_as_extern state ahead =
    if is_punct punct.SEMICOLON (kind_ahead ahead) then got (empty_tree ahead) state (behind ahead) else (
    if another_ahead (kind_ahead ahead) then no_declaration state ahead else
    simple_declaration_at room counts_as_extern state ahead)

-- ---- linkage (7.5)

-- 7.5: a linkage reaches no further than to a namespace that it stands before
unfoldable pub linked_one : ℕ → Reads CxxState (List CxxTree) → Reads CxxState CxxTree
linked_one room inside state ahead =
    if is_keyword keyword.NAMESPACE (kind_ahead ahead) then namespace_at inside state ahead else (
    if is_keyword keyword.USING (kind_ahead ahead) then using_at state ahead else
    plain_declaration_at room true state ahead)

abbrev pub linked_by : ℕ → Reads CxxState (List CxxTree) → Reads CxxState (List CxxTree)
linked_by room inside state ahead = if is_punct punct.LEFT_BRACE (kind_ahead ahead) then linkage_list inside state ahead else (linked_one room inside >>= one_tree) state ahead

abbrev pub linkage_by : ℕ → Reads CxxState (List CxxTree) → Ahead → Bool → Reads CxxState CxxTree
linkage_by room inside from true = linked_by room inside >>= linked_tree from
linkage_by room inside from false = plain_declaration_at room false

-- a declaration, where `inside` reads those between the braces of a linkage or a namespace
unfoldable pub declaration_by : ℕ → Reads CxxState (List CxxTree) → Reads CxxState CxxTree
declaration_by room inside state ahead =
    if is_keyword keyword.NAMESPACE (kind_ahead ahead) then namespace_at inside state ahead else (
    if is_keyword keyword.USING (kind_ahead ahead) then using_at state ahead else
    (linkages_passed >>= linkage_by room inside ahead) state ahead)

-- the declarations behind a brace, with its end, with room for so many more braces
unfoldable pub linkage_opened : ℕ → Reads CxxState (List CxxTree)
linkage_opened zero = limited Nesting
linkage_opened (suc room) = λ state ahead. repeat (inside_step (declaration_by room (linkage_opened room))) give (count_ahead ahead) [] state ahead

unfoldable pub declaration_at : ℕ → Reads CxxState CxxTree
declaration_at room = declaration_by room (linkage_opened room)

-- ---- the unit

unfoldable pub unit_step : Unit {0} → Reads CxxState (Turn (Unit {0}) (Unit {0}))
unit_step so_far state ahead =
    if is_end (kind_ahead ahead) then got (Done tt) state ahead else
    (declaration_at limits.MOST_NESTING >>= λ tree. ask (part_added tree) >>= λ added. give (More tt)) state ahead

-- 2.1, 3.5: all declarations up to the end of the unit
unfoldable pub unit_reading : Options → List Lexeme → Answer CxxReading
unit_reading options tokens = read_as options (repeat unit_step give (count_ahead (record { last = first_place; tokens = tokens })) tt first_state (record { last = first_place; tokens = tokens }))
