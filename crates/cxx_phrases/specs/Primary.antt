-- Primary expressions, and what stands before a bracket of arguments (5.1, 5.2.2, 5.2.3, 5.2.9 to 5.2.11).
use Rattle.std.specs.Prelude.{ℕ, if◌then◌else◌, List, [], Option, Some, None}
use Rattle.cxx_model.specs.declared.base.Base.{Base}
use Rattle.cxx_model.specs.declared.punct.TheConstants as punct
use Rattle.cxx_model.specs.declared.tree.Kind.{Kind}
use Rattle.cxx_model.specs.declared.tree.Kind.TheVariants as kind
use Rattle.cxx_model.specs.Types.Trees.{CxxType, fundamental}
use Rattle.cxx_phrases.specs.declared.level.Level.TheVariants as level
use Rattle.cxx_phrases.specs.Arguments.{arguments_at}
use Rattle.cxx_phrases.specs.Forms.{literal_tree, name_tree, parenthesis_tree, call_tree, functional_tree, cast_tree, this_tree}
use Rattle.cxx_phrases.specs.Operators.{is_literal, is_cast_word, is_this, base_of_kind}
use Rattle.cxx_phrases.specs.Phrases.{Phrases, Inner}
use Rattle.cxx_reading.specs.Constants.{no_expression}
use Rattle.cxx_reading.specs.Reads.{Reads, Ahead, ◌>>=◌, give, ask, looked, taken, tokens, kind_ahead, word_ahead}
use Rattle.cxx_reading.specs.Tokens.{is_punct, begins_name, behind_name, kind_of_name, name_taken, path_ahead, path_taken, punct_taken, refused}
use Rattle.cxx_reading.specs.Trees.{CxxPath, CxxTree}

-- 2.13
unfoldable pub literal_part : {S : Type 0} → Phrases S → Reads S CxxTree
literal_part asks = do
  from ← looked
  token ← taken
  to ← looked
  ask (asks.whole (literal_tree from to))

-- 9.3.2
unfoldable pub this_part : {S : Type 0} → Phrases S → Reads S CxxTree
this_part asks = do
  from ← looked
  word ← taken
  to ← looked
  ask (asks.whole (this_tree from to))

-- ---- names

-- 5.1: a name that is not called
unfoldable pub name_at : {S : Type 0} → Phrases S → Reads S CxxTree
name_at asks = do
  from ← looked
  path ← path_taken
  to ← looked
  ask (asks.whole (name_tree path from to))

-- 5.2.2: a call by a name, from its bracket on; it is asked whole, its name with it
unfoldable pub called_at : {S : Type 0} → Phrases S → Inner S → List ℕ → Ahead → CxxPath → Reads S CxxTree
called_at asks inner spelling from path = do
  arguments ← arguments_at asks inner
  to ← looked
  ask (asks.whole (call_tree spelling path arguments from to))

unfoldable pub named_call : {S : Type 0} → Phrases S → Inner S → Reads S CxxTree
named_call asks inner = do
  from ← looked
  path ← path_taken
  called_at asks inner [] from path

-- the name of no type
unfoldable pub value_name_at : {S : Type 0} → Phrases S → Inner S → Reads S CxxTree
value_name_at asks inner state ahead =
    if is_punct punct.LEFT_PARENTHESIS (kind_ahead (behind_name ahead)) then named_call asks inner state ahead else name_at asks state ahead

-- 5.2.3: behind a type
unfoldable pub functional_cast : {S : Type 0} → Phrases S → Inner S → Ahead → CxxType → Reads S CxxTree
functional_cast asks inner from of = do
  arguments ← arguments_at asks inner
  to ← looked
  ask (asks.whole (functional_tree of arguments from to))

-- An expression begins with the name or the word of a type in no other way.
unfoldable pub functional_at : {S : Type 0} → Phrases S → Inner S → Ahead → CxxType → Reads S CxxTree
functional_at asks inner from of state ahead =
    if is_punct punct.LEFT_PARENTHESIS (kind_ahead ahead) then functional_cast asks inner from of state ahead else refused state ahead

unfoldable pub type_name_at : {S : Type 0} → Phrases S → Inner S → Reads S CxxTree
type_name_at asks inner = do
  from ← looked
  of ← ask (asks.type_named (path_ahead from))
  name ← name_taken
  functional_at asks inner from of

-- the name of a namespace is no expression (7.3)
abbrev pub named_by : {S : Type 0} → Phrases S → Inner S → Kind → Reads S CxxTree
named_by asks inner kind.OfType = type_name_at asks inner
named_by asks inner kind.Space = refused
named_by asks inner _ = value_name_at asks inner

-- a name, with qualifiers or without
unfoldable pub named_at : {S : Type 0} → Phrases S → Inner S → Reads S CxxTree
named_at asks inner = kind_of_name asks.kind >>= named_by asks inner

-- a word of a type
unfoldable pub word_at : {S : Type 0} → Phrases S → Inner S → Base → Reads S CxxTree
word_at asks inner base = do
  from ← looked
  word ← taken
  functional_at asks inner from (fundamental base)

-- ---- casts by a word (5.2.9 to 5.2.11)

-- up to its `>`: the type
unfoldable pub cast_opened : {S : Type 0} → Phrases S → Reads S (CxxType × List CxxTree)
cast_opened asks = do
  word ← taken
  less ← tokens (punct_taken punct.LESS)
  of ← asks.type_id
  greater ← tokens (punct_taken punct.GREATER)
  give of

-- from its `(` on
unfoldable pub cast_closed : {S : Type 0} → Phrases S → Inner S → Ahead → CxxType × List CxxTree → Reads S CxxTree
cast_closed asks inner from of = do
  opened ← tokens (punct_taken punct.LEFT_PARENTHESIS)
  operand ← inner.expression level.Whole
  closed ← tokens (punct_taken punct.RIGHT_PARENTHESIS)
  to ← looked
  ask (asks.whole (cast_tree (word_ahead from) of operand from to))

unfoldable pub cast_word_at : {S : Type 0} → Phrases S → Inner S → Reads S CxxTree
cast_word_at asks inner = do
  from ← looked
  of ← cast_opened asks
  cast_closed asks inner from of

-- ---- parentheses

-- 5.1
unfoldable pub parenthesis_at : {S : Type 0} → Phrases S → Inner S → Reads S CxxTree
parenthesis_at asks inner = do
  from ← looked
  opened ← taken
  inside ← inner.expression level.Whole
  closed ← tokens (punct_taken punct.RIGHT_PARENTHESIS)
  to ← looked
  ask (asks.whole (parenthesis_tree inside from to))

-- ---- all of them, but for brackets

abbrev pub word_by : {S : Type 0} → Phrases S → Inner S → Option Base → Reads S CxxTree
word_by asks inner (Some base) = word_at asks inner base
word_by asks inner None = no_expression

unfoldable pub primary_at : {S : Type 0} → Phrases S → Inner S → Reads S CxxTree
primary_at asks inner state ahead =
    if is_literal (kind_ahead ahead) then literal_part asks state ahead else (
    if begins_name ahead then named_at asks inner state ahead else (
    if is_cast_word (kind_ahead ahead) then cast_word_at asks inner state ahead else (
    if is_this (kind_ahead ahead) then this_part asks state ahead else
    word_by asks inner (base_of_kind (kind_ahead ahead)) state ahead)))
