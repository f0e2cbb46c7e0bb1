-- How declarators and parameters are read (8.2, 8.3), and what stands behind an enumerator (7.2).
use Rattle.std.specs.Prelude.{ℕ, zero, ℤ, pos, negsuc, Bool, true, false, not, ◌&&◌, ◌||◌, if◌then◌else◌, List, [], ◌∷◌, ◌++◌, length, Option, Some, None}
use Rattle.cxx_model.specs.declared.fault.FaultText.TheVariants as says
use Rattle.cxx_model.specs.declared.fault.LeftOut.TheVariants as form
use Rattle.cxx_model.specs.declared.keyword.TheConstants as keyword
use Rattle.cxx_model.specs.declared.limits.TheConstants as limits
use Rattle.cxx_model.specs.declared.place.Place.{Place}
use Rattle.cxx_model.specs.declared.punct.TheConstants as punct
use Rattle.cxx_model.specs.declared.stop.LimitKind.TheVariants.{Arguments}
use Rattle.cxx_model.specs.declared.token.TokenKind.TheVariants.{Name}
use Rattle.cxx_model.specs.declared.types.Cv.{Cv}
use Rattle.cxx_model.specs.Text.Lexemes.{Lexeme}
use Rattle.cxx_model.specs.Types.Trees.{CxxType, CxxBound, unknown_bound, number_bound}
use Rattle.cxx_reading.specs.declared.specifier.Naming.{Naming}
use Rattle.cxx_reading.specs.declared.specifier.Naming.TheVariants as naming
use Rattle.cxx_reading.specs.declared.specifier.SpecifierPlace.TheVariants as where_
use Rattle.cxx_reading.specs.Declarators.{Specifiers, type_of_specifiers, Layer, pointer_layer, reference_layer, array_layer, function_layer, Declarator, no_declarator_yet, outward, own_cv, is_named, ParameterTypes, adjusted_types, parameter_type, declared_type, refused_in, is_refused, is_void, no_cv}
use Rattle.cxx_reading.specs.Kinds.{Kinds, Fallback, Readers}
use Rattle.cxx_reading.specs.Labels.{label_from}
use Rattle.cxx_reading.specs.Productions as production
use Rattle.cxx_reading.specs.Reads.{Reads, Ahead, Turn, More, Done, ◌>>=◌, got, give, ask, limited, fault_at, looked, taken, tokens, kind_ahead, place_ahead, count_ahead, behind, repeat}
use Rattle.cxx_reading.specs.Shapes.{look, past, is_abstract_list, begins_type}
use Rattle.cxx_reading.specs.Specifiers.{specifiers_at, with_const, with_volatile, path_of_option, place_or}
use Rattle.cxx_reading.specs.Tokens.{is_punct, is_keyword, is_plain_name, begins_name, no_qualifier, path_taken, points_to_member, token_taken, punct_taken, refused, no_declarator}
use Rattle.cxx_reading.specs.Trees.{CxxPathPart, CxxTree, last_part, tree_of}

-- ---- declarators (8.3)

abbrev pub is_required : Naming → Bool
is_required naming.Qualified = true
is_required naming.Required = true
is_required _ = false

abbrev pub may_qualify : Naming → Bool
may_qualify naming.Qualified = true
may_qualify _ = false

abbrev pub is_never : Naming → Bool
is_never naming.Never = true
is_never _ = false

-- 8.3.1: words behind `*`, each once
unfoldable pub cv_step : {S : Type 0} → Cv → Reads S (Turn Cv Cv)
cv_step cv state ahead =
    if is_keyword keyword.CONST (kind_ahead ahead) then (if cv.is_const then refused state ahead else got (More (with_const cv)) state (behind ahead)) else (
    if is_keyword keyword.VOLATILE (kind_ahead ahead) then (if cv.is_volatile then refused state ahead else got (More (with_volatile cv)) state (behind ahead)) else
    got (Done cv) state ahead)

unfoldable pub cv_at : {S : Type 0} → Reads S Cv
cv_at state ahead = repeat cv_step give (count_ahead ahead) no_cv state ahead

-- 8.3.4: a bound below one is none
abbrev pub bound_by : Option ℤ → CxxBound
bound_by None = unknown_bound
bound_by (Some (pos n)) = number_bound n
bound_by (Some (negsuc n)) = number_bound zero

-- what was read of a declarator, and whether it ends in a bound
pub record Suffixed : Type 0 where
  pub declarator : Declarator
  pub in_row : Bool

abbrev pub suffixed : Bool → Declarator → Turn Suffixed Declarator
suffixed in_row declarator = More (record { declarator = declarator; in_row = in_row })

abbrev pub array_part : Option ℤ × List CxxTree → Declarator → Declarator
array_part bound declarator = outward (array_layer (bound_by bound.0)) bound.1 declarator

abbrev pub function_part : ParameterTypes → Cv → Declarator → Declarator
function_part list cv declarator = record (outward (function_layer (adjusted_types list.types) list.ellipsis list.scope) list.parts declarator) { cv = own_cv declarator.layers cv declarator.cv }

-- 8.3.4: only the first bound of a row may be left out
unfoldable pub array_suffix : {S : Type 0} → Readers S → Suffixed → Reads S (Turn Suffixed Declarator)
array_suffix inner so_far = do
  opened ← taken
  bound ← inner.bound (not so_far.in_row)
  give (suffixed true (array_part bound so_far.declarator))

-- 15.4: an empty list of exceptions says nothing; others are left out
unfoldable pub exceptions_at : {S : Type 0} → Reads S (Unit {0})
exceptions_at state ahead =
    if not (is_keyword keyword.THROW (kind_ahead ahead)) then got tt state ahead else (
    if not (is_punct punct.LEFT_PARENTHESIS (kind_ahead (behind ahead))) then refused state (behind ahead) else (
    if is_punct punct.RIGHT_PARENTHESIS (kind_ahead (behind (behind ahead))) then got tt state (behind (behind (behind ahead))) else
    fault_at (place_ahead ahead) (says.LeftOut form.ExceptionSpecification) state ahead))

-- 8.3.5
unfoldable pub function_suffix : {S : Type 0} → Readers S → Suffixed → Reads S (Turn Suffixed Declarator)
function_suffix inner so_far = do
  opened ← taken
  list ← inner.parameters
  cv ← tokens cv_at
  exceptions ← tokens exceptions_at
  give (suffixed false (function_part list cv so_far.declarator))

abbrev pub function_by : {S : Type 0} → Readers S → Suffixed → Bool → Reads S (Turn Suffixed Declarator)
function_by inner so_far true = function_suffix inner so_far
function_by inner so_far false = give (Done so_far.declarator)

-- 8.2: behind a name a bracket holds parameters by its shape, and else an initializer, which is no part of a declarator
unfoldable pub bracket_suffix : {S : Type 0} → Readers S → Suffixed → Reads S (Turn Suffixed Declarator)
bracket_suffix inner so_far state ahead =
    if is_named so_far.declarator then (look (past inner.holds_parameters) >>= function_by inner so_far) state ahead else
    function_suffix inner so_far state ahead

unfoldable pub suffix_at : {S : Type 0} → Readers S → Suffixed → Reads S (Turn Suffixed Declarator)
suffix_at inner so_far state ahead =
    if is_punct punct.LEFT_PARENTHESIS (kind_ahead ahead) then bracket_suffix inner so_far state ahead else (
    if is_punct punct.LEFT_BRACKET (kind_ahead ahead) then array_suffix inner so_far state ahead else
    got (Done so_far.declarator) state ahead)

abbrev pub give_declarator : {S : Type 0} → Suffixed → Reads S Declarator
give_declarator so_far = give so_far.declarator

unfoldable pub suffixes_at : {S : Type 0} → Readers S → Declarator → Reads S Declarator
suffixes_at inner declarator state ahead = repeat (suffix_at inner) give_declarator (count_ahead ahead) (record { declarator = declarator; in_row = false }) state ahead

abbrev pub name_read : Lexeme → Declarator
name_read token = record no_declarator_yet { name = Some token }

abbrev pub named_declarator : {S : Type 0} → Readers S → Lexeme → Reads S Declarator
named_declarator inner token = suffixes_at inner (name_read token)

-- the token of a part of a name
abbrev pub token_of : CxxPathPart → Lexeme
token_of part = record { kind = Name; place = part.place; spelling = part.word }

abbrev pub member_read : CxxPathPart → Declarator
member_read part = record no_declarator_yet { name = Some (token_of part); is_qualified = true }

-- 8.3: a name with qualifiers; it is looked up before what stands behind it is read
unfoldable pub qualified_part : {S : Type 0} → Kinds S → Readers S → Reads S Declarator
qualified_part asks inner = do
  path ← path_taken
  entered ← ask (asks.entered path)
  suffixes_at inner (member_read (last_part path.parts))

-- a name, or none where none has to stand
unfoldable pub name_part : {S : Type 0} → Kinds S → Readers S → Naming → Reads S Declarator
name_part asks inner naming state ahead =
    if is_never naming then suffixes_at inner no_declarator_yet state ahead else (
    if is_plain_name ahead then (token_taken >>= named_declarator inner) state ahead else (
    if begins_name ahead then (if may_qualify naming then qualified_part asks inner state ahead else no_qualifier state ahead) else (
    if is_required naming then no_declarator state ahead else
    suffixes_at inner no_declarator_yet state ahead)))

-- pointers to members are left out
abbrev pub named_part : {S : Type 0} → Kinds S → Readers S → Naming → Reads S Declarator
named_part asks inner naming state ahead =
    if points_to_member ahead then fault_at (place_ahead ahead) (says.LeftOut form.PointerToMember) state ahead else name_part asks inner naming state ahead

unfoldable pub grouped_part : {S : Type 0} → Readers S → Naming → Reads S Declarator
grouped_part inner naming = do
  opened ← taken
  inside ← inner.grouped naming
  suffixes_at inner inside

abbrev pub grouped_by : {S : Type 0} → Readers S → Naming → Bool → Reads S Declarator
grouped_by inner naming true = suffixes_at inner no_declarator_yet
grouped_by inner naming false = grouped_part inner naming

-- 8.2: where no name has to stand, a bracket before a type, an ellipsis or its end holds parameters
unfoldable pub bracket_part : {S : Type 0} → Kinds S → Readers S → Naming → Reads S Declarator
bracket_part asks inner naming state ahead =
    if is_required naming then grouped_part inner naming state ahead else
    (is_abstract_list asks >>= grouped_by inner naming) state ahead

unfoldable pub star_part : {S : Type 0} → Readers S → Naming → Reads S Declarator
star_part inner naming = do
  star ← taken
  inner.pointed naming

unfoldable pub ampersand_part : {S : Type 0} → Readers S → Naming → Reads S Declarator
ampersand_part inner naming = do
  ampersand ← taken
  inner.referred naming

-- clause 8
unfoldable pub declarator_at : {S : Type 0} → Kinds S → Readers S → Naming → Reads S Declarator
declarator_at asks inner naming state ahead =
    if is_punct punct.STAR (kind_ahead ahead) then star_part inner naming state ahead else (
    if is_punct punct.AMPERSAND (kind_ahead ahead) then ampersand_part inner naming state ahead else (
    if is_punct punct.LEFT_PARENTHESIS (kind_ahead ahead) then bracket_part asks inner naming state ahead else
    named_part asks inner naming state ahead))

-- 8.3.1: behind `*`
unfoldable pub pointed_at : {S : Type 0} → Kinds S → Readers S → Naming → Reads S Declarator
pointed_at asks inner naming = do
  cv ← tokens cv_at
  inside ← declarator_at asks inner naming
  give (outward (pointer_layer cv) [] inside)

-- 8.3.2: behind `&`
unfoldable pub referred_at : {S : Type 0} → Kinds S → Readers S → Naming → Reads S Declarator
referred_at asks inner naming = do
  inside ← declarator_at asks inner naming
  give (outward reference_layer [] inside)

-- behind `(`
unfoldable pub grouped_at : {S : Type 0} → Kinds S → Readers S → Naming → Reads S Declarator
grouped_at asks inner naming = do
  inside ← declarator_at asks inner naming
  closed ← tokens (punct_taken punct.RIGHT_PARENTHESIS)
  give inside

-- ---- parameters (8.3.5)

abbrev pub some_or_void : Option CxxType → CxxType
some_or_void None = Rattle.cxx_model.specs.Types.Trees.fundamental Rattle.cxx_model.specs.declared.base.Base.TheVariants.Void
some_or_void (Some of) = of

abbrev pub specified_type : Specifiers → CxxType
specified_type specifiers = some_or_void (type_of_specifiers specifiers)

-- the place of a declared name, or else that of the last token of its type
abbrev pub place_of_declarator : Declarator → Ahead → Place
place_of_declarator declarator ahead = place_or ahead.last declarator.name

-- 8.3.5: whether no such parameter is declared
abbrev pub is_refused_parameter : List Layer → CxxType → Bool
is_refused_parameter layers of = is_refused (refused_in layers of) || is_void (declared_type layers of)

unfoldable pub parameter_fits : {S : Type 0} → Specifiers → Declarator → Reads S (Unit {0})
parameter_fits specifiers declarator state ahead =
    if is_refused_parameter declarator.layers (specified_type specifiers) then fault_at (place_of_declarator declarator ahead) says.OperandsDoNotFit state ahead else got tt state ahead

-- the tree of a parameter, whose declarator ends before the tokens of `to`
abbrev pub parameter_tree : Specifiers → Declarator → CxxType → List CxxTree → Ahead → Ahead → Ahead → CxxTree
parameter_tree specifiers declarator of default from to end = tree_of (record (label_from production.parameter [] from end) { place = place_of_declarator declarator to; path = path_of_option declarator.name; of = Some of }) ((specifiers.parts ++ declarator.parts) ++ default)

abbrev pub with_parameter : CxxType → CxxTree → ParameterTypes → ParameterTypes
with_parameter of tree so_far = record so_far { types = so_far.types ++ of ∷ []; parts = so_far.parts ++ tree ∷ [] }

abbrev pub with_ellipsis : ParameterTypes → ParameterTypes
with_ellipsis so_far = record so_far { ellipsis = true }

-- 8.3.6: the default argument, where one stands behind a parameter
unfoldable pub default_at : {S : Type 0} → Fallback S → ℕ → CxxType → Reads S (List CxxTree)
default_at fallback index of state ahead =
    if is_punct punct.EQUALS (kind_ahead ahead) then fallback index of state ahead else got [] state ahead

-- a parameter, which is declared before what follows is looked at (3.3.1)
unfoldable pub parameter_at : {S : Type 0} → Kinds S → Fallback S → Readers S → ParameterTypes → Reads S ParameterTypes
parameter_at asks fallback inner so_far = do
  from ← looked
  specifiers ← specifiers_at asks inner where_.Parameter
  declarator ← declarator_at asks inner naming.Either
  fits ← parameter_fits specifiers declarator
  to ← looked
  declared ← ask (asks.parameter declarator.name (place_of_declarator declarator to) (parameter_type declarator.layers (specified_type specifiers)))
  default ← default_at fallback (length so_far.types) (parameter_type declarator.layers (specified_type specifiers))
  end ← looked
  give (with_parameter (parameter_type declarator.layers (specified_type specifiers)) (parameter_tree specifiers declarator (parameter_type declarator.layers (specified_type specifiers)) default from to end) so_far)

-- behind `...`
unfoldable pub list_ended : {S : Type 0} → ParameterTypes → Reads S (Turn ParameterTypes ParameterTypes)
list_ended so_far = do
  ellipsis ← taken
  closed ← tokens (punct_taken punct.RIGHT_PARENTHESIS)
  give (Done (with_ellipsis so_far))

-- behind a comma
unfoldable pub comma_passed : {S : Type 0} → ParameterTypes → Reads S (Turn ParameterTypes ParameterTypes)
comma_passed so_far state ahead =
    if is_punct punct.ELLIPSIS (kind_ahead ahead) then list_ended so_far state ahead else got (More so_far) state ahead

-- behind a parameter
unfoldable pub parameter_ended : {S : Type 0} → ParameterTypes → Reads S (Turn ParameterTypes ParameterTypes)
parameter_ended so_far state ahead =
    if is_punct punct.COMMA (kind_ahead ahead) then comma_passed so_far state (behind ahead) else (
    if is_punct punct.RIGHT_PARENTHESIS (kind_ahead ahead) then got (Done so_far) state (behind ahead) else (
    if is_punct punct.ELLIPSIS (kind_ahead ahead) then list_ended so_far state ahead else
    refused state ahead))

unfoldable pub parameter_step : {S : Type 0} → Kinds S → Fallback S → Readers S → ParameterTypes → Reads S (Turn ParameterTypes ParameterTypes)
parameter_step asks fallback inner so_far = parameter_at asks fallback inner so_far >>= parameter_ended

abbrev pub past_most : {S A : Type 0} → Bool → Reads S A
past_most true = limited Arguments
past_most false = refused

-- a parameter more than there may be: `auto` and `register` begin one too (7.1.1)
unfoldable pub parameters_over : {S A : Type 0} → Kinds S → ParameterTypes → Reads S A
parameters_over asks so_far state ahead =
    if is_keyword keyword.AUTO (kind_ahead ahead) || is_keyword keyword.REGISTER (kind_ahead ahead) then past_most true state ahead else
    (begins_type asks >>= past_most) state ahead

abbrev pub no_parameters : ℕ → ParameterTypes
no_parameters scope = record { types = []; ellipsis = false; scope = scope; parts = [] }

unfoldable pub some_parameters : {S : Type 0} → Kinds S → Fallback S → Readers S → ℕ → Reads S ParameterTypes
some_parameters asks fallback inner scope = repeat (parameter_step asks fallback inner) (parameters_over asks) limits.MOST_ARGUMENTS (no_parameters scope)

abbrev pub turn_result : {S : Type 0} → Turn ParameterTypes ParameterTypes → Reads S ParameterTypes
turn_result (More so_far) = give so_far
turn_result (Done so_far) = give so_far

-- 8.3.5: `void` alone means no parameter
abbrev pub is_void_list : Ahead → Bool
is_void_list ahead = is_keyword keyword.VOID (kind_ahead ahead) && is_punct punct.RIGHT_PARENTHESIS (kind_ahead (behind ahead))

unfoldable pub list_at : {S : Type 0} → Kinds S → Fallback S → Readers S → ℕ → Reads S ParameterTypes
list_at asks fallback inner scope state ahead =
    if is_punct punct.RIGHT_PARENTHESIS (kind_ahead ahead) then got (no_parameters scope) state (behind ahead) else (
    if is_void_list ahead then got (no_parameters scope) state (behind (behind ahead)) else (
    if is_punct punct.ELLIPSIS (kind_ahead ahead) then (list_ended (no_parameters scope) >>= turn_result) state ahead else
    some_parameters asks fallback inner scope state ahead))

-- behind the `(` of a list
unfoldable pub parameters_at : {S : Type 0} → Kinds S → Fallback S → Readers S → Reads S ParameterTypes
parameters_at asks fallback inner = do
  scope ← ask asks.enter_parameters
  list ← list_at asks fallback inner scope
  left ← ask asks.leave_parameters
  give list

-- ---- enumerators (7.2)

-- where no value is written
unfoldable pub no_value : {S : Type 0} → Reads S (Option ℤ × List CxxTree)
no_value = give (None, [])

-- behind an enumerator
unfoldable pub enumerator_ended : {S : Type 0} → List CxxTree → Reads S (Turn (List CxxTree) (List CxxTree))
enumerator_ended so_far state ahead =
    if is_punct punct.COMMA (kind_ahead ahead) then got (More so_far) state (behind ahead) else (
    if is_punct punct.RIGHT_BRACE (kind_ahead ahead) then got (Done so_far) state (behind ahead) else
    refused state ahead)
