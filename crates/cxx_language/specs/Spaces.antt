-- Namespaces (7.3.1), their other names (7.3.2), using-declarations (7.3.3) and using-directives (7.3.4).
use Rattle.std.specs.Prelude.{ℕ, if◌then◌else◌, List, []}
use Rattle.cxx_model.specs.declared.facts.Access.{Access}
use Rattle.cxx_model.specs.declared.keyword.TheConstants as keyword
use Rattle.cxx_model.specs.declared.place.Place.{Place}
use Rattle.cxx_model.specs.declared.punct.TheConstants as punct
use Rattle.cxx_model.specs.Text.Lexemes.{Lexeme}
use Rattle.cxx_reading.specs.Labels.{label_from}
use Rattle.cxx_reading.specs.Productions as production
use Rattle.cxx_reading.specs.Reads.{Reads, Asks, Ahead, ◌>>=◌, give, ask, looked, taken, tokens, kind_ahead, place_ahead, behind}
use Rattle.cxx_reading.specs.Spaces.{close_space, declare_alias, declare_directive, open_space, open_unnamed, space_here}
use Rattle.cxx_reading.specs.State.{CxxState}
use Rattle.cxx_reading.specs.Tokens.{is_punct, is_keyword, is_name, begins_name, is_plain_name, not_built, path_taken, refused, token_taken, punct_taken}
use Rattle.cxx_reading.specs.Trees.{CxxPath, CxxTree, last_part, tree_of}
use Rattle.cxx_reading.specs.Usings.{bring_here}
use Rattle.cxx_declare.specs.MemberUsings.{bring_member}

abbrev pub part_tree : ℕ → List CxxTree → Ahead → Ahead → CxxTree
part_tree number inside from to = tree_of (label_from number [] from to) inside

abbrev pub give_part : ℕ → Ahead → List CxxTree → Reads CxxState CxxTree
give_part number from inside = looked >>= λ to. give (part_tree number inside from to)

-- ---- names of namespaces (3.4.6)

-- a namespace that is named, and the place of its name
pub record NamedSpace : Type 0 where
  pub place : Place
  pub inner : ℕ

abbrev pub named_space : CxxPath → Reads CxxState NamedSpace
named_space path = ask (space_here path) >>= λ inner. give (record { place = (last_part path.parts).place; inner = inner })

unfoldable pub space_name_at : Reads CxxState NamedSpace
space_name_at state ahead = if begins_name ahead then (path_taken >>= named_space) state ahead else refused state ahead

-- ---- aliases

-- from the `=` on
unfoldable pub alias_at : Ahead → Lexeme → Reads CxxState CxxTree
alias_at from name = do
  equals ← taken
  space ← space_name_at
  declared ← ask (declare_alias name space.inner)
  ended ← tokens (punct_taken punct.SEMICOLON)
  give_part production.namespace_alias from []

abbrev pub alias_or_not : Ahead → Lexeme → Reads CxxState CxxTree
alias_or_not from name state ahead = if is_punct punct.EQUALS (kind_ahead ahead) then alias_at from name state ahead else refused state ahead

-- in a block no namespace is defined (7.3)
unfoldable pub behind_word : Ahead → Reads CxxState CxxTree
behind_word from state ahead = if is_name (kind_ahead ahead) then (token_taken >>= alias_or_not from) state ahead else refused state ahead

unfoldable pub local_alias_at : Reads CxxState CxxTree
local_alias_at = do
  from ← looked
  word ← taken
  behind_word from

-- ---- definitions, where `inside` reads the declarations behind a brace, with its end

-- from the `{` on
unfoldable pub space_opened : Asks CxxState (Unit {0}) → Reads CxxState (List CxxTree) → Ahead → Reads CxxState CxxTree
space_opened begin inside from = do
  begun ← ask begin
  opened ← taken
  trees ← inside
  closed ← ask close_space
  give_part production.namespace_definition from trees

abbrev pub space_or_alias : Reads CxxState (List CxxTree) → Ahead → Lexeme → Reads CxxState CxxTree
space_or_alias inside from name state ahead =
    if is_punct punct.LEFT_BRACE (kind_ahead ahead) then space_opened (open_space name) inside from state ahead else alias_or_not from name state ahead

unfoldable pub behind_namespace : Reads CxxState (List CxxTree) → Ahead → Reads CxxState CxxTree
behind_namespace inside from state ahead =
    if is_punct punct.LEFT_BRACE (kind_ahead ahead) then space_opened (open_unnamed (place_ahead from)) inside from state ahead else (
    if is_name (kind_ahead ahead) then (token_taken >>= space_or_alias inside from) state ahead else
    refused state ahead)

-- from the word `namespace` on
unfoldable pub namespace_at : Reads CxxState (List CxxTree) → Reads CxxState CxxTree
namespace_at inside = do
  from ← looked
  word ← taken
  behind_namespace inside from

-- ---- using-directives

unfoldable pub directive_at : Reads CxxState CxxTree
directive_at = do
  from ← looked
  using ← taken
  word ← taken
  space ← space_name_at
  declared ← ask (declare_directive space.place space.inner)
  ended ← tokens (punct_taken punct.SEMICOLON)
  give_part production.using_directive from []

-- ---- using-declarations (7.3.3)

-- its name has a qualifier
abbrev pub qualified_taken : Reads CxxState CxxPath
qualified_taken state ahead = if is_plain_name ahead then refused state (behind ahead) else path_taken state ahead

-- behind `typename` a name is not read yet (14.6)
unfoldable pub brought_name_at : Reads CxxState CxxPath
brought_name_at state ahead =
    if begins_name ahead then qualified_taken state ahead else (
    if is_keyword keyword.TYPENAME (kind_ahead ahead) then not_built state ahead else
    refused state ahead)

unfoldable pub using_declaration_at : Reads CxxState CxxTree
using_declaration_at = do
  from ← looked
  using ← taken
  path ← brought_name_at
  declared ← ask (bring_here path)
  ended ← tokens (punct_taken punct.SEMICOLON)
  give_part production.using_declaration from []

-- 11.1: In a class, where what it brings has an access. It has no tree.
unfoldable pub member_using_at : Access → Reads CxxState (Unit {0})
member_using_at label = do
  using ← taken
  path ← brought_name_at
  declared ← ask (bring_member label path)
  ended ← tokens (punct_taken punct.SEMICOLON)
  give tt

-- from the word `using` on
unfoldable pub using_at : Reads CxxState CxxTree
using_at state ahead = if is_keyword keyword.NAMESPACE (kind_ahead (behind ahead)) then directive_at state ahead else using_declaration_at state ahead
