-- Whether parameters stand behind a bracket (8.2): told by the shape of what stands there and by the kinds of names.
use Rattle.std.specs.Prelude.{ℕ, suc, Bool, true, false, not, ◌&&◌, ◌||◌, if◌then◌else◌, ◌==◌, ◌-◌, Option, Some, None, Ok, Err}
use Rattle.cxx_model.specs.declared.keyword.TheConstants as keyword
use Rattle.cxx_model.specs.declared.punct.TheConstants as punct
use Rattle.cxx_model.specs.declared.token.TokenKind.{TokenKind}
use Rattle.cxx_model.specs.declared.token.TokenKind.TheVariants.{Name, Keyword, Punct}
use Rattle.cxx_model.specs.declared.tree.Kind.{Kind}
use Rattle.cxx_model.specs.declared.tree.Kind.TheVariants as kind
use Rattle.cxx_model.specs.Stops.{Answer}
use Rattle.cxx_reading.specs.Declarators.{type_word, TypeWord}
use Rattle.cxx_reading.specs.Kinds.{Kinds, Readers}
use Rattle.cxx_reading.specs.Reads.{Reads, Got, Ahead, Turn, More, Done, ◌>>=◌, got, give, tokens, kind_ahead, count_ahead, behind, repeat}
use Rattle.cxx_reading.specs.Specifiers.{storage_word, is_some_storage, is_of_members, begins_class}
use Rattle.cxx_reading.specs.Tokens.{is_punct, is_keyword, is_end, is_plain_name, is_whole_name, begins_name, behind_name, kind_of_name}

-- What is read is not taken: the tokens stay ahead.
abbrev pub returned : {S A : Type 0} → Ahead → Answer (Got S A) → Answer (Got S A)
returned ahead (Ok one) = got one.value one.state ahead
returned ahead (Err why) = Err why

abbrev pub look : {S A : Type 0} → Reads S A → Reads S A
look read state ahead = returned ahead (read state ahead)

-- what is read behind the token ahead
abbrev pub past : {S A : Type 0} → Reads S A → Reads S A
past read state ahead = read state (behind ahead)

-- ---- brackets

-- `(`, `[` and `{` open, and each of their ends closes
abbrev pub opens : TokenKind → Bool
opens kind = is_punct punct.LEFT_PARENTHESIS kind || (is_punct punct.LEFT_BRACKET kind || is_punct punct.LEFT_BRACE kind)

abbrev pub closes : TokenKind → Bool
closes kind = is_punct punct.RIGHT_PARENTHESIS kind || (is_punct punct.RIGHT_BRACKET kind || is_punct punct.RIGHT_BRACE kind)

-- one token of what stands between brackets, of which so many are open
unfoldable pub bracket_step : {S : Type 0} → ℕ → Reads S (Turn ℕ (Unit {0}))
bracket_step count state ahead =
    if is_end (kind_ahead ahead) then got (Done tt) state ahead else (
    if opens (kind_ahead ahead) then got (More (suc count)) state (behind ahead) else (
    if closes (kind_ahead ahead) then got (if count == 1 then Done tt else More (count - 1)) state (behind ahead) else
    got (More count) state (behind ahead)))

abbrev pub give_nothing : {S A : Type 0} → A → Reads S (Unit {0})
give_nothing so_far = give tt

-- from an opening bracket behind its end, or to the end of the unit
unfoldable pub brackets_passed : {S : Type 0} → Reads S (Unit {0})
brackets_passed state ahead = repeat bracket_step give_nothing (count_ahead ahead) 1 state (behind ahead)

-- ---- specifiers

-- what a run of specifiers holds: no type, a type, or what no initializer begins with
pub data Run : Type 0 where
  no_type : Run
  a_type : Run
  surely : Run

abbrev pub is_cv : ℕ → Bool
is_cv n = n == keyword.CONST || n == keyword.VOLATILE

abbrev pub is_some_word : Option TypeWord → Bool
is_some_word None = false
is_some_word (Some word) = true

-- 7.1: a word that is no part of a type
abbrev pub is_specifier : ℕ → Bool
is_specifier n = is_some_storage (storage_word n) || (is_cv n || (n == keyword.INLINE || is_of_members n))

abbrev pub is_key : ℕ → Bool
is_key n = n == keyword.ENUM || begins_class n

-- 7.1.5.3: behind a key; a list of members or enumerators, and a name that is not whole, are met when they are read
unfoldable pub key_shape : {S : Type 0} → Reads S (Turn Bool Run)
key_shape state ahead =
    if begins_name ahead && (is_whole_name ahead && not (is_punct punct.LEFT_BRACE (kind_ahead (behind_name ahead))))
    then got (More true) state (behind_name ahead)
    else got (Done surely) state ahead

abbrev pub kind_shape : {S : Type 0} → Kind → Reads S (Turn Bool Run)
kind_shape kind.OfType state ahead = got (More true) state (behind_name ahead)
kind_shape _ state ahead = got (Done no_type) state ahead

unfoldable pub name_shape : {S : Type 0} → Kinds S → Bool → Reads S (Turn Bool Run)
name_shape asks true state ahead = got (Done a_type) state ahead
name_shape asks false state ahead = (kind_of_name asks.kind >>= kind_shape) state ahead

abbrev pub ended : Bool → Run
ended true = a_type
ended false = no_type

unfoldable pub keyword_shape : {S : Type 0} → ℕ → Bool → Reads S (Turn Bool Run)
keyword_shape n typed state ahead =
    if is_specifier n then got (More typed) state (behind ahead) else (
    if is_some_word (type_word n) then got (More true) state (behind ahead) else (
    if is_key n && not typed then key_shape state (behind ahead) else
    got (Done (ended typed)) state ahead))

abbrev pub run_by : {S : Type 0} → Kinds S → TokenKind → Bool → Reads S (Turn Bool Run)
run_by asks (Keyword n) typed = keyword_shape n typed
run_by asks Name typed = name_shape asks typed
run_by asks (Punct n) typed = if n == punct.SCOPE then name_shape asks typed else give (Done (ended typed))
run_by asks _ typed = give (Done (ended typed))

unfoldable pub run_step : {S : Type 0} → Kinds S → Bool → Reads S (Turn Bool Run)
run_step asks typed state ahead = run_by asks (kind_ahead ahead) typed state ahead

abbrev pub give_ended : {S : Type 0} → Bool → Reads S Run
give_ended typed = give (ended typed)

-- specifiers with one type
unfoldable pub run_passed : {S : Type 0} → Kinds S → Reads S Run
run_passed asks state ahead = repeat (run_step asks) give_ended (count_ahead ahead) false state ahead

-- ---- where a type begins

abbrev pub is_type_kind : {S : Type 0} → Kind → Reads S Bool
is_type_kind kind.OfType = give true
is_type_kind _ = give false

abbrev pub begins_by : {S : Type 0} → Kinds S → TokenKind → Reads S Bool
begins_by asks (Keyword n) state ahead = got (is_some_word (type_word n) || (is_cv n || is_key n)) state ahead
begins_by asks (Punct n) state ahead = if n == punct.SCOPE then (kind_of_name asks.kind >>= is_type_kind) state ahead else got false state ahead
begins_by asks Name state ahead = (kind_of_name asks.kind >>= is_type_kind) state ahead
begins_by asks _ state ahead = got false state ahead

-- whether a type begins ahead
unfoldable pub begins_type : {S : Type 0} → Kinds S → Reads S Bool
begins_type asks state ahead = begins_by asks (kind_ahead ahead) state ahead

-- 7.1.1, 8.3.5: with what no declarator begins in brackets: their end, an ellipsis, a storage word of parameters
abbrev pub is_no_declarator : TokenKind → Bool
is_no_declarator kind =
    is_punct punct.RIGHT_PARENTHESIS kind || (is_punct punct.ELLIPSIS kind || (is_keyword keyword.AUTO kind || is_keyword keyword.REGISTER kind))

-- 8.2: whether a bracket, which stands ahead where no name was read, holds parameters
unfoldable pub is_abstract_list : {S : Type 0} → Kinds S → Reads S Bool
is_abstract_list asks state ahead =
    if is_no_declarator (kind_ahead (behind ahead))
    then got true state ahead
    else look (past (begins_type asks)) state ahead

-- ---- declarators

-- what was read of a declarator: how many brackets are open round its name, and whether it has one
pub record Outline : Type 0 where
  pub brackets : ℕ
  pub is_named : Bool

pub data Fits : Type 0 where
  fits : Fits
  fits_not : Fits

abbrev pub opened_by : {S : Type 0} → Bool → Outline → Reads S (Turn Outline Outline)
opened_by true outline state ahead = got (Done outline) state ahead
opened_by false outline state ahead = got (More (record outline { brackets = suc outline.brackets })) state (behind ahead)

-- Before the name: pointer operators with their cv words, and brackets. The name is one identifier: no declarator whose
-- shape is asked for has a name with qualifiers.
unfoldable pub prefix_step : {S : Type 0} → Kinds S → Outline → Reads S (Turn Outline Outline)
prefix_step asks outline state ahead =
    if is_punct punct.STAR (kind_ahead ahead) || (is_punct punct.AMPERSAND (kind_ahead ahead) || (is_keyword keyword.CONST (kind_ahead ahead) || is_keyword keyword.VOLATILE (kind_ahead ahead))) then got (More outline) state (behind ahead) else (
    if is_punct punct.LEFT_PARENTHESIS (kind_ahead ahead) then (is_abstract_list asks >>= λ is_list. opened_by is_list outline) state ahead else (
    if is_plain_name ahead then got (Done (record outline { is_named = true })) state (behind ahead) else
    got (Done outline) state ahead))

abbrev pub no_outline : Outline
no_outline = record { brackets = 0; is_named = false }

unfoldable pub prefix_passed : {S : Type 0} → Kinds S → Reads S Outline
prefix_passed asks state ahead = repeat (prefix_step asks) give (count_ahead ahead) no_outline state ahead

abbrev pub is_closed : Outline → Fits
is_closed outline = if outline.brackets == 0 then fits else fits_not

abbrev pub passed_by : {S : Type 0} → Bool → Outline → Reads S (Turn Outline Fits)
passed_by true outline = tokens brackets_passed >>= λ end. give (More outline)
passed_by false outline = give (Done fits_not)

-- 8.2: what stands in a bracket behind the name, or where it would stand, has to be parameters: else an expression stands
-- there, as in `T(f(1))`
unfoldable pub list_shape : {S : Type 0} → Readers S → Outline → Reads S (Turn Outline Fits)
list_shape inner outline state ahead = (look (past inner.holds_parameters) >>= λ is_list. passed_by is_list outline) state ahead

-- cv words and an empty list of exceptions behind parameters
unfoldable pub suffix_step : {S : Type 0} → Readers S → Outline → Reads S (Turn Outline Fits)
suffix_step inner outline state ahead =
    if is_punct punct.LEFT_PARENTHESIS (kind_ahead ahead) then list_shape inner outline state ahead else (
    if is_punct punct.LEFT_BRACKET (kind_ahead ahead) then passed_by true outline state ahead else (
    if is_keyword keyword.CONST (kind_ahead ahead) || (is_keyword keyword.VOLATILE (kind_ahead ahead) || is_keyword keyword.THROW (kind_ahead ahead)) then got (More outline) state (behind ahead) else (
    if is_punct punct.RIGHT_PARENTHESIS (kind_ahead ahead) && not (outline.brackets == 0) then got (More (record outline { brackets = outline.brackets - 1 })) state (behind ahead) else
    got (Done (is_closed outline)) state ahead)))

abbrev pub give_closed : {S : Type 0} → Outline → Reads S Fits
give_closed outline = give (is_closed outline)

unfoldable pub suffixes_by : {S : Type 0} → Readers S → Outline → Reads S Fits
suffixes_by inner outline state ahead = repeat (suffix_step inner) give_closed (count_ahead ahead) outline state ahead

-- 8, 8.1: a declarator, with a name or without one
unfoldable pub declarator_passed : {S : Type 0} → Kinds S → Readers S → Reads S Fits
declarator_passed asks inner = prefix_passed asks >>= suffixes_by inner

-- ---- parameters

-- what ends a default argument
abbrev pub ends_default : TokenKind → Bool
ends_default kind = is_punct punct.COMMA kind || (is_punct punct.RIGHT_PARENTHESIS kind || (is_punct punct.ELLIPSIS kind || is_end kind))

-- 8.3.6: a default argument goes to the next of these outside of brackets
unfoldable pub default_step : {S : Type 0} → Unit {0} → Reads S (Turn (Unit {0}) (Unit {0}))
default_step so_far state ahead =
    if ends_default (kind_ahead ahead) then got (Done tt) state ahead else (
    if opens (kind_ahead ahead) then (brackets_passed >>= λ end. give (More tt)) state ahead else
    got (More tt) state (behind ahead))

unfoldable pub default_passed : {S : Type 0} → Reads S (Unit {0})
default_passed state ahead =
    if is_punct punct.EQUALS (kind_ahead ahead) then repeat default_step give (count_ahead ahead) tt state (behind ahead) else got tt state ahead

abbrev pub separated : {S : Type 0} → Reads S (Turn (Unit {0}) Bool)
separated state ahead =
    if is_punct punct.COMMA (kind_ahead ahead) then got (More tt) state (behind ahead) else
    got (Done (is_punct punct.RIGHT_PARENTHESIS (kind_ahead ahead) || is_punct punct.ELLIPSIS (kind_ahead ahead))) state ahead

abbrev pub parameter_by : {S : Type 0} → Fits → Reads S (Turn (Unit {0}) Bool)
parameter_by fits = tokens default_passed >>= λ passed. separated
parameter_by fits_not = give (Done false)

abbrev pub piece_by : {S : Type 0} → Kinds S → Readers S → Run → Reads S (Turn (Unit {0}) Bool)
piece_by asks inner no_type = give (Done false)
piece_by asks inner a_type = declarator_passed asks inner >>= parameter_by
piece_by asks inner surely = give (Done true)

-- one parameter, and what separates it from the next
unfoldable pub piece_step : {S : Type 0} → Kinds S → Readers S → Unit {0} → Reads S (Turn (Unit {0}) Bool)
piece_step asks inner so_far state ahead =
    if is_punct punct.ELLIPSIS (kind_ahead ahead) then got (Done true) state ahead else (run_passed asks >>= piece_by asks inner) state ahead

abbrev pub give_false : {S : Type 0} → Unit {0} → Reads S Bool
give_false so_far = give false

-- 8.2: Behind a bracket: there is nothing, an ellipsis, or one parameter after another.
unfoldable pub parameters_shape : {S : Type 0} → Kinds S → Readers S → Reads S Bool
parameters_shape asks inner state ahead =
    if is_punct punct.RIGHT_PARENTHESIS (kind_ahead ahead) then got true state ahead else
    repeat (piece_step asks inner) give_false (count_ahead ahead) tt state ahead
