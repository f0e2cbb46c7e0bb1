-- How specifiers are read (7.1).
use Rattle.std.specs.Prelude.{ℕ, Bool, true, false, not, ◌&&◌, ◌||◌, if◌then◌else◌, ◌==◌, List, [], ◌∷◌, ◌++◌, Option, Some, None, codes}
use Rattle.cxx_model.specs.declared.fault.FaultText.TheVariants as says
use Rattle.cxx_model.specs.declared.fault.LeftOut.TheVariants as form
use Rattle.cxx_model.specs.declared.keyword.TheConstants as keyword
use Rattle.cxx_model.specs.declared.place.Place.{Place}
use Rattle.cxx_model.specs.declared.punct.TheConstants as punct
use Rattle.cxx_model.specs.declared.token.TokenKind.{TokenKind}
use Rattle.cxx_model.specs.declared.token.TokenKind.TheVariants.{Name, Keyword, Punct}
use Rattle.cxx_model.specs.declared.tree.Kind.{Kind}
use Rattle.cxx_model.specs.declared.tree.Kind.TheVariants as kind
use Rattle.cxx_model.specs.declared.types.Cv.{Cv}
use Rattle.cxx_model.specs.Text.Lexemes.{Lexeme}
use Rattle.cxx_model.specs.Types.Trees.{CxxType, enumeration}
use Rattle.cxx_reading.specs.declared.specifier.SpecifierPlace.{SpecifierPlace}
use Rattle.cxx_reading.specs.declared.specifier.SpecifierPlace.TheVariants as where_
use Rattle.cxx_reading.specs.declared.specifier.StorageWord.{StorageWord}
use Rattle.cxx_reading.specs.declared.specifier.StorageWord.TheVariants as storage
use Rattle.cxx_reading.specs.declared.specifier.TypeWords.{TypeWords}
use Rattle.cxx_reading.specs.Declarators.{Specifiers, no_specifiers, has_type, type_word, TypeWord, with_word}
use Rattle.cxx_reading.specs.Kinds.{Kinds, Readers}
use Rattle.cxx_reading.specs.Productions as production
use Rattle.cxx_reading.specs.Reads.{Reads, Ahead, Turn, More, Done, ◌>>=◌, got, give, ask, fault_at, looked, taken, kind_ahead, place_ahead, count_ahead, behind, repeat}
use Rattle.cxx_reading.specs.Tokens.{is_punct, is_keyword, is_name, begins_name, kind_of_name, name_taken, path_ahead, path_taken, token_taken, refused, not_built}
use Rattle.cxx_reading.specs.Trees.{CxxTree, CxxPath, is_plain_path, last_part, tree_of}
use Rattle.cxx_reading.specs.Labels.{label_from}

-- ---- single words

-- 7.1.1, 7.1.3
abbrev pub storage_word : ℕ → Option StorageWord
storage_word n =
    if n == keyword.AUTO then Some storage.Auto else (
    if n == keyword.EXTERN then Some storage.Extern else (
    if n == keyword.MUTABLE then Some storage.Mutable else (
    if n == keyword.REGISTER then Some storage.Register else (
    if n == keyword.STATIC then Some storage.Static else (
    if n == keyword.TYPEDEF then Some storage.Typedef else
    None)))))

-- 7.1.1: which of these words may stand among the specifiers of a declaration of a namespace, of one in a block, of a member,
-- and of a parameter
abbrev pub may_store : SpecifierPlace → StorageWord → Bool
may_store where_.Declaration storage.Extern = true
may_store where_.Declaration storage.Static = true
may_store where_.Declaration storage.Typedef = true
may_store where_.Block storage.Auto = true
may_store where_.Block storage.Extern = true
may_store where_.Block storage.Register = true
may_store where_.Block storage.Static = true
may_store where_.Block storage.Typedef = true
may_store where_.Member storage.Mutable = true
may_store where_.Member storage.Static = true
may_store where_.Member storage.Typedef = true
may_store where_.Parameter storage.Auto = true
may_store where_.Parameter storage.Register = true
may_store _ _ = false

abbrev pub is_declaration : SpecifierPlace → Bool
is_declaration where_.Declaration = true
is_declaration where_.Block = true
is_declaration where_.Member = true
is_declaration _ = false

abbrev pub is_some_storage : Option StorageWord → Bool
is_some_storage None = false
is_some_storage (Some word) = true

-- 7.1.2, 11.4: words that stand among the specifiers of members alone
abbrev pub is_of_members : ℕ → Bool
is_of_members n = n == keyword.FRIEND || (n == keyword.VIRTUAL || n == keyword.EXPLICIT)

-- 7.1.5.3, 14.6: a class begins, or a type that a template gives
abbrev pub begins_class : ℕ → Bool
begins_class n = n == keyword.CLASS || (n == keyword.STRUCT || (n == keyword.UNION || n == keyword.TYPENAME))

-- the word was taken
abbrev pub went_on : {S : Type 0} → Specifiers → Reads S (Turn Specifiers Specifiers)
went_on so_far state ahead = got (More so_far) state (behind ahead)

unfoldable pub storage_step : {S : Type 0} → SpecifierPlace → StorageWord → Specifiers → Reads S (Turn Specifiers Specifiers)
storage_step place word so_far state ahead =
    if may_store place word && not (is_some_storage so_far.storage)
    then went_on (record so_far { storage = Some word }) state ahead
    else refused state ahead

-- 7.1.2
unfoldable pub inline_step : {S : Type 0} → SpecifierPlace → Specifiers → Reads S (Turn Specifiers Specifiers)
inline_step place so_far state ahead =
    if is_declaration place && not so_far.is_inline
    then went_on (record so_far { is_inline = true }) state ahead
    else refused state ahead

abbrev pub with_const : Cv → Cv
with_const cv = record { is_const = true; is_volatile = cv.is_volatile }

abbrev pub with_volatile : Cv → Cv
with_volatile cv = record { is_const = cv.is_const; is_volatile = true }

unfoldable pub const_step : {S : Type 0} → Specifiers → Reads S (Turn Specifiers Specifiers)
const_step so_far state ahead =
    if so_far.cv.is_const then refused state ahead else went_on (record so_far { cv = with_const so_far.cv }) state ahead

unfoldable pub volatile_step : {S : Type 0} → Specifiers → Reads S (Turn Specifiers Specifiers)
volatile_step so_far state ahead =
    if so_far.cv.is_volatile then refused state ahead else went_on (record so_far { cv = with_volatile so_far.cv }) state ahead

abbrev pub is_some_named : Option CxxType → Bool
is_some_named None = false
is_some_named (Some of) = true

abbrev pub worded : {S : Type 0} → Option TypeWords → Specifiers → Reads S (Turn Specifiers Specifiers)
worded (Some words) so_far state ahead = went_on (record so_far { words = words }) state ahead
worded None so_far state ahead = refused state ahead

-- 7.1.5.2: behind a type that a name gives no further word stands
unfoldable pub word_step : {S : Type 0} → TypeWord → Specifiers → Reads S (Turn Specifiers Specifiers)
word_step word so_far state ahead = if is_some_named so_far.named then refused state ahead else worded (with_word word so_far.words) so_far state ahead

-- ---- names of types

-- the name of a type is taken; it is whole
unfoldable pub type_name_step : {S : Type 0} → Kinds S → Specifiers → Reads S (Turn Specifiers Specifiers)
type_name_step asks so_far = do
  from ← looked
  of ← ask (asks.type_named (path_ahead from))
  name ← name_taken
  give (More (record so_far { named = Some of }))

abbrev pub named_by : {S : Type 0} → Kinds S → Specifiers → Kind → Reads S (Turn Specifiers Specifiers)
named_by asks so_far kind.OfType = type_name_step asks so_far
named_by asks so_far _ = give (Done so_far)

-- 7.1.5.2: A name of a type stands where no type is there yet; behind one it is the name of the declarator.
unfoldable pub named_step : {S : Type 0} → Kinds S → Specifiers → Reads S (Turn Specifiers Specifiers)
named_step asks so_far state ahead =
    if has_type so_far then got (Done so_far) state ahead else
    (kind_of_name asks.kind >>= named_by asks so_far) state ahead

-- ---- enumerations (7.1.5.3, 7.2)

abbrev pub path_of : Lexeme → CxxPath
path_of name = record { global = false; parts = record { word = name.spelling; place = name.place; arguments = None } ∷ [] }

abbrev pub path_of_option : Option Lexeme → Option CxxPath
path_of_option None = None
path_of_option (Some name) = Some (path_of name)

abbrev pub place_or : Place → Option Lexeme → Place
place_or place None = place
place_or place (Some name) = name.place

-- 7.1.5.3: a key and a name
abbrev pub elaborated_tree : List ℕ → CxxPath → CxxType → Ahead → Ahead → CxxTree
elaborated_tree key path of from to = tree_of (record (label_from production.elaborated key from to) { place = (last_part path.parts).place; path = Some path; of = Some of }) []

unfoldable pub elaborated_step : {S : Type 0} → Kinds S → Ahead → Specifiers → Reads S (Turn Specifiers Specifiers)
elaborated_step asks from so_far = do
  path ← path_taken
  of ← ask (asks.elaborated path)
  to ← looked
  give (More (record so_far { named = Some of; parts = so_far.parts ++ elaborated_tree (codes "enum") path of from to ∷ [] }))

abbrev pub enumeration_tree : Option Lexeme → ℕ → List CxxTree → Ahead → Ahead → CxxTree
enumeration_tree name number values from to = tree_of (record (label_from production.enumeration_list [] from to) { place = place_or (place_ahead from) name; path = path_of_option name; of = Some (enumeration number) }) values

-- 7.2: the list of an enumeration, with its end
unfoldable pub enumeration_body : {S : Type 0} → Kinds S → Readers S → ℕ → Reads S (List CxxTree)
enumeration_body asks inner number = do
  opened ← taken
  values ← inner.enumerators number
  ended ← ask (asks.enumerated number)
  give values

-- 7.2: an enumeration is declared before its list is read
unfoldable pub defined_step : {S : Type 0} → Kinds S → Readers S → Ahead → Option Lexeme → Specifiers → Reads S (Turn Specifiers Specifiers)
defined_step asks inner from name so_far = do
  number ← ask (asks.enumeration name (place_or (place_ahead from) name))
  values ← enumeration_body asks inner number
  to ← looked
  give (More (record so_far { named = Some (enumeration number); stands_alone = true; parts = so_far.parts ++ enumeration_tree name number values from to ∷ [] }))

-- 8.3.5, 5.3.3: no enumeration is defined among parameters and in a type that is named
unfoldable pub list_step : {S : Type 0} → Kinds S → Readers S → SpecifierPlace → Ahead → Option Lexeme → Specifiers → Reads S (Turn Specifiers Specifiers)
list_step asks inner place from name so_far state ahead =
    if is_declaration place then defined_step asks inner from name so_far state ahead else refused state ahead

-- 7.2: one name and its list
abbrev pub begins_named_list : Ahead → Bool
begins_named_list ahead = is_name (kind_ahead ahead) && is_punct punct.LEFT_BRACE (kind_ahead (behind ahead))

unfoldable pub named_list_step : {S : Type 0} → Kinds S → Readers S → SpecifierPlace → Ahead → Specifiers → Reads S (Turn Specifiers Specifiers)
named_list_step asks inner place from so_far = token_taken >>= λ name. list_step asks inner place from (Some name) so_far

-- behind `enum`
unfoldable pub key_step : {S : Type 0} → Kinds S → Readers S → SpecifierPlace → Ahead → Specifiers → Reads S (Turn Specifiers Specifiers)
key_step asks inner place from so_far state ahead =
    if is_punct punct.LEFT_BRACE (kind_ahead ahead) then list_step asks inner place from None so_far state ahead else (
    if begins_named_list ahead then named_list_step asks inner place from so_far state ahead else (
    if begins_name ahead then elaborated_step asks from so_far state ahead else
    refused state ahead))

unfoldable pub enumeration_step : {S : Type 0} → Kinds S → Readers S → SpecifierPlace → Specifiers → Reads S (Turn Specifiers Specifiers)
enumeration_step asks inner place so_far state ahead =
    if has_type so_far then refused state ahead else key_step asks inner place ahead so_far state (behind ahead)

-- ---- all specifiers

-- ---- classes (7.1.5.3, 9.1)

abbrev pub class_key : Bool → List ℕ
class_key true = codes "union"
class_key false = codes "struct"

-- no specifier stands before
abbrev pub is_first : Specifiers → Bool
is_first so_far = not (is_some_storage so_far.storage) && (not so_far.is_inline && (not so_far.cv.is_const && not so_far.cv.is_volatile))

-- 3.3.1: the key and the name are all of their declaration, where this is ahead behind them
abbrev pub is_all : SpecifierPlace → Specifiers → CxxPath → TokenKind → Bool
is_all place so_far path kind = is_declaration place && (is_first so_far && (is_plain_path path && is_punct punct.SEMICOLON kind))

unfoldable pub class_named_step : {S : Type 0} → Kinds S → Bool → Bool → Ahead → CxxPath → Specifiers → Reads S (Turn Specifiers Specifiers)
class_named_step asks is_union all from path so_far = do
  of ← ask (asks.class_named is_union all path)
  to ← looked
  give (More (record so_far { named = Some of; stands_alone = true; parts = so_far.parts ++ elaborated_tree (class_key is_union) path of from to ∷ [] }))

-- 9, 10: bases or members
abbrev pub begins_members : TokenKind → Bool
begins_members kind = is_punct punct.LEFT_BRACE kind || is_punct punct.COLON kind

-- 9: The head of a class that is defined. Among the specifiers of a declaration of a namespace or of a member reading stops
-- at its key. In a block the form is left out (9.8), and elsewhere no class is defined (8.3.5, 5.3.3).
abbrev pub head_reached : {S : Type 0} → SpecifierPlace → Ahead → Specifiers → Reads S (Turn Specifiers Specifiers)
head_reached where_.Declaration from so_far state ahead = got (Done so_far) state from
head_reached where_.Member from so_far state ahead = got (Done so_far) state from
head_reached where_.Block from so_far state ahead = fault_at (place_ahead from) (says.LeftOut form.LocalClass) state ahead
head_reached place from so_far state ahead = refused state ahead

unfoldable pub class_behind : {S : Type 0} → Kinds S → Bool → SpecifierPlace → Ahead → CxxPath → Specifiers → Reads S (Turn Specifiers Specifiers)
class_behind asks is_union place from path so_far state ahead =
    if begins_members (kind_ahead ahead) then head_reached place from so_far state ahead else
    class_named_step asks is_union (is_all place so_far path (kind_ahead ahead)) from path so_far state ahead

unfoldable pub class_name_step : {S : Type 0} → Kinds S → Bool → SpecifierPlace → Ahead → Specifiers → Reads S (Turn Specifiers Specifiers)
class_name_step asks is_union place from so_far = path_taken >>= λ path. class_behind asks is_union place from path so_far

-- behind `class`, `struct` or `union`
unfoldable pub class_key_step : {S : Type 0} → Kinds S → Bool → SpecifierPlace → Ahead → Specifiers → Reads S (Turn Specifiers Specifiers)
class_key_step asks is_union place from so_far state ahead =
    if begins_name ahead then class_name_step asks is_union place from so_far state ahead else (
    if begins_members (kind_ahead ahead) then head_reached place from so_far state ahead else
    refused state ahead)

-- 14.6: `typename` is not read yet
unfoldable pub class_step : {S : Type 0} → Kinds S → SpecifierPlace → ℕ → Specifiers → Reads S (Turn Specifiers Specifiers)
class_step asks place n so_far state ahead =
    if has_type so_far then refused state ahead else (
    if n == keyword.TYPENAME then not_built state ahead else
    class_key_step asks (n == keyword.UNION) place ahead so_far state (behind ahead))

-- of a member that has such a word nothing is read yet
abbrev pub member_word : {S : Type 0} → SpecifierPlace → Reads S (Turn Specifiers Specifiers)
member_word where_.Member = not_built
member_word place = refused

-- a keyword that is no storage word and no word of a type
unfoldable pub other_step : {S : Type 0} → Kinds S → Readers S → SpecifierPlace → ℕ → Specifiers → Reads S (Turn Specifiers Specifiers)
other_step asks inner place n so_far state ahead =
    if n == keyword.CONST then const_step so_far state ahead else (
    if n == keyword.VOLATILE then volatile_step so_far state ahead else (
    if n == keyword.INLINE then inline_step place so_far state ahead else (
    if n == keyword.ENUM then enumeration_step asks inner place so_far state ahead else (
    if begins_class n then class_step asks place n so_far state ahead else (
    if is_of_members n then member_word place state ahead else
    got (Done so_far) state ahead)))))

abbrev pub stored_by : {S : Type 0} → Option StorageWord → Reads S (Turn Specifiers Specifiers) → SpecifierPlace → Specifiers → Reads S (Turn Specifiers Specifiers)
stored_by (Some word) others place so_far = storage_step place word so_far
stored_by None others place so_far = others

abbrev pub worded_by : {S : Type 0} → Option TypeWord → Reads S (Turn Specifiers Specifiers) → Specifiers → Reads S (Turn Specifiers Specifiers)
worded_by (Some word) others so_far = word_step word so_far
worded_by None others so_far = others

unfoldable pub keyword_step : {S : Type 0} → Kinds S → Readers S → SpecifierPlace → ℕ → Specifiers → Reads S (Turn Specifiers Specifiers)
keyword_step asks inner place n so_far =
    stored_by (storage_word n) (worded_by (type_word n) (other_step asks inner place n so_far) so_far) place so_far

abbrev pub step_by : {S : Type 0} → Kinds S → Readers S → SpecifierPlace → TokenKind → Specifiers → Reads S (Turn Specifiers Specifiers)
step_by asks inner place (Keyword n) so_far = keyword_step asks inner place n so_far
step_by asks inner place Name so_far = named_step asks so_far
step_by asks inner place (Punct n) so_far = if n == punct.SCOPE then named_step asks so_far else give (Done so_far)
step_by asks inner place _ so_far = give (Done so_far)

unfoldable pub specifier_step : {S : Type 0} → Kinds S → Readers S → SpecifierPlace → Specifiers → Reads S (Turn Specifiers Specifiers)
specifier_step asks inner place so_far state ahead = step_by asks inner place (kind_ahead ahead) so_far state ahead

-- 9: where no type stands among the specifiers, a key of a class is that of a class that is defined there
abbrev pub is_head : SpecifierPlace → TokenKind → Bool
is_head where_.Declaration (Keyword n) = begins_class n
is_head where_.Member (Keyword n) = begins_class n
is_head _ _ = false

-- 7.1.5: a type stands among the specifiers, or a class follows that is one
unfoldable pub typed : {S : Type 0} → SpecifierPlace → Specifiers → Reads S Specifiers
typed place specifiers state ahead =
    if has_type specifiers || is_head place (kind_ahead ahead) then got specifiers state ahead else (
    if is_declaration place && is_keyword keyword.OPERATOR (kind_ahead ahead) then not_built state ahead else
    refused state ahead)

-- behind those that were read
unfoldable pub specifiers_from : {S : Type 0} → Kinds S → Readers S → SpecifierPlace → Specifiers → Reads S Specifiers
specifiers_from asks inner place so_far state ahead = (repeat (specifier_step asks inner place) give (count_ahead ahead) so_far >>= typed place) state ahead

abbrev pub specifiers_at : {S : Type 0} → Kinds S → Readers S → SpecifierPlace → Reads S Specifiers
specifiers_at asks inner place = specifiers_from asks inner place no_specifiers
