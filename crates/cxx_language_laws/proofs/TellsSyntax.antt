-- What the readers of declarators, parameters and enumerators keep of the state, and what stops them.
use Rattle.std.proofs.Common.{◌≡◌, refl}
use Rattle.cxx_model.specs.Stops.{Stopped}
use Rattle.std.specs.Prelude.{ℕ, Bool, true, false, not, if◌then◌else◌, ◌||◌, ◌==◌, List, [], length}
use Rattle.cxx_model.specs.declared.fault.FaultText.{FaultText}
use Rattle.cxx_model.specs.declared.keyword.TheConstants as keyword
use Rattle.cxx_model.specs.declared.limits.TheConstants as limits
use Rattle.cxx_model.specs.declared.punct.TheConstants as punct
use Rattle.cxx_model.specs.declared.types.Cv.{Cv}
use Rattle.cxx_reading.specs.declared.specifier.Naming.{Naming}
use Rattle.cxx_reading.specs.declared.specifier.Naming.TheVariants as naming
use Rattle.cxx_reading.specs.declared.specifier.SpecifierPlace.TheVariants as where_
use Rattle.cxx_reading.specs.Constants.{keyword_text, begins_operand, begins_unary, expression_text, no_expression}
use Rattle.cxx_reading.specs.Declarators.{Specifiers, pointer_layer, reference_layer, Declarator, no_declarator_yet, outward, is_named, ParameterTypes, parameter_type}
use Rattle.cxx_reading.specs.Specifiers.{with_const, with_volatile}
use Rattle.cxx_reading.specs.Tokens.{is_punct, is_keyword, is_plain_name, begins_name, no_declarator, is_name, no_qualifier, points_to_member}
use Rattle.cxx_reading.specs.Trees.{CxxTree}
use Rattle.cxx_model.specs.declared.token.TokenKind.{TokenKind}
use Rattle.cxx_model.specs.declared.token.TokenKind.TheVariants.{Name, Keyword, Punct, Text, Integer, Character, End}
use Rattle.cxx_reading.specs.Syntax.{default_at, is_required, is_never, may_qualify, qualified_part, cv_step, cv_at, suffixed, array_part, function_part, array_suffix, exceptions_at, function_suffix, function_by, bracket_suffix, suffix_at, give_declarator, suffixes_at, name_read, name_part, grouped_part, grouped_by, bracket_part, star_part, ampersand_part, declarator_at, pointed_at, referred_at, grouped_at, specified_type, place_of_declarator, is_refused_parameter, parameter_fits, parameter_tree, with_parameter, with_ellipsis, parameter_at, list_ended, comma_passed, parameter_ended, parameter_step, past_most, parameters_over, no_parameters, some_parameters, turn_result, is_void_list, list_at, parameters_at, enumerator_ended, Suffixed, named_part}
use Rattle.cxx_model.specs.Types.Trees.{CxxType}
use Rattle.cxx_reading.specs.Kinds.{Fallback, Kinds, Readers}
use Rattle.cxx_reading.specs.Reads.{Ahead, Turn, More, Done, give, kind_ahead, behind}
use Rattle.cxx_language_laws.proofs.Tells.{IsTold, Tells, ToldIn, saying, nothing, quiet_in, KindsTell, ReadersTell, if_in, past_in, then_in, ask_in, same_in, next_in, repeat_tells, taken_in, looked_in, token_told, punct_in, give_in, tokens_in, unit_is_told, returned_in, names_tell}
use Rattle.cxx_language_laws.proofs.TellsShapes.{begins_tells, abstract_tells}
use Rattle.cxx_language_laws.proofs.TellsSpecifiers.{specifiers_tell}

pub no_declarator_tells : {S A : Type 0} {kept : S → S → Type 0} {told : S → Ahead → Stopped → Type 0} → IsTold kept told → Tells kept told (no_declarator {S = S} {A = A})
unfolding no_declarator
no_declarator_tells is state ahead = if_in _ (quiet_in is refl) (quiet_in is refl)

pub quiet_if : (b : Bool) (x y : FaultText) → saying x ≡ nothing → saying y ≡ nothing → saying (if b then x else y) ≡ nothing
quiet_if true x y one two = one
quiet_if false x y one two = two

keyword_quiet : (n : ℕ) → saying (keyword_text n) ≡ nothing
keyword_quiet n = quiet_if (n == keyword.TYPEID) _ _ refl (quiet_if (n == keyword.DYNAMIC_CAST) _ _ refl (quiet_if (begins_operand n) _ _ refl refl))

expression_quiet : (kind : TokenKind) → saying (expression_text kind) ≡ nothing
expression_quiet Name = refl
expression_quiet Text = refl
expression_quiet (Keyword n) = keyword_quiet n
expression_quiet (Punct n) = quiet_if (begins_unary n) _ _ refl refl
expression_quiet Integer = refl
expression_quiet Character = refl
expression_quiet End = refl

pub no_expression_tells : {S : Type 0} {kept : S → S → Type 0} {told : S → Ahead → Stopped → Type 0} → IsTold kept told → {A : Type 0} → Tells kept told (no_expression {S = S} {A = A})
unfolding no_expression
no_expression_tells is state ahead = quiet_in is (expression_quiet (kind_ahead ahead))

pub cv_step_tells : {S : Type 0} {kept : S → S → Type 0} {told : S → Ahead → Stopped → Type 0} → IsTold kept told → (cv : Cv) → Tells kept told (cv_step {S = S} cv)
unfolding cv_step
cv_step_tells is cv state ahead = if_in (is_keyword keyword.CONST (kind_ahead ahead)) (if_in cv.is_const (quiet_in is refl) (next_in is (More (with_const cv)) state ahead)) (if_in (is_keyword keyword.VOLATILE (kind_ahead ahead)) (if_in cv.is_volatile (quiet_in is refl) (next_in is (More (with_volatile cv)) state ahead)) (same_in is (Done cv) state ahead))

pub cv_tells : {S : Type 0} {kept : S → S → Type 0} {told : S → Ahead → Stopped → Type 0} → IsTold kept told → Tells kept told (cv_at {S = S})
unfolding cv_at
cv_tells is state ahead = repeat_tells is cv_step give (cv_step_tells is) (give_in is) _ _ state ahead

pub array_tells : {S : Type 0} {kept : S → S → Type 0} {told : S → Ahead → Stopped → Type 0} → IsTold kept told → {inner : Readers S} → ReadersTell kept told inner → (so_far : Suffixed) → Tells kept told (array_suffix inner so_far)
unfolding array_suffix
array_tells is inner so_far state ahead = then_in is (taken_in is state ahead) (λ opened state ahead. then_in is (inner.bound (not so_far.in_row) state ahead) (λ bound. give_in is (suffixed true (array_part bound so_far.declarator))))

pub exceptions_tell : {S : Type 0} {kept : S → S → Type 0} {told : S → Ahead → Stopped → Type 0} → IsTold kept told → Tells kept told (exceptions_at {S = S})
unfolding exceptions_at
exceptions_tell is state ahead = if_in (not (is_keyword keyword.THROW (kind_ahead ahead))) (same_in is tt state ahead) (if_in (not (is_punct punct.LEFT_PARENTHESIS (kind_ahead (behind ahead)))) (quiet_in is refl) (if_in (is_punct punct.RIGHT_PARENTHESIS (kind_ahead (behind (behind ahead)))) (past_in is (past_in is (next_in is tt state (behind (behind ahead))))) (quiet_in is refl)))

pub function_tells : {S : Type 0} {kept : S → S → Type 0} {told : S → Ahead → Stopped → Type 0} → IsTold kept told → {inner : Readers S} → ReadersTell kept told inner → (so_far : Suffixed) → Tells kept told (function_suffix inner so_far)
unfolding function_suffix
function_tells is inner so_far state ahead = then_in is (taken_in is state ahead) (λ opened state ahead. then_in is (inner.parameters state ahead) (λ list state ahead. then_in is (tokens_in is (cv_tells unit_is_told) state ahead) (λ cv state ahead. then_in is (tokens_in is (exceptions_tell unit_is_told) state ahead) (λ exceptions. give_in is (suffixed false (function_part list cv so_far.declarator))))))

function_by_tells : {S : Type 0} {kept : S → S → Type 0} {told : S → Ahead → Stopped → Type 0} → IsTold kept told → {inner : Readers S} → ReadersTell kept told inner → (so_far : Suffixed) (is_list : Bool) → Tells kept told (function_by inner so_far is_list)
function_by_tells is inner so_far true state ahead = function_tells is inner so_far state ahead
function_by_tells is inner so_far false state ahead = same_in is (Done so_far.declarator) state ahead

pub bracket_suffix_tells : {S : Type 0} {kept : S → S → Type 0} {told : S → Ahead → Stopped → Type 0} → IsTold kept told → {inner : Readers S} → ReadersTell kept told inner → (so_far : Suffixed) → Tells kept told (bracket_suffix inner so_far)
unfolding bracket_suffix
bracket_suffix_tells is inner so_far state ahead = if_in (is_named so_far.declarator) (then_in is (returned_in ahead (past_in is (inner.holds_parameters state (behind ahead)))) (function_by_tells is inner so_far)) (function_tells is inner so_far state ahead)

pub suffix_tells : {S : Type 0} {kept : S → S → Type 0} {told : S → Ahead → Stopped → Type 0} → IsTold kept told → {inner : Readers S} → ReadersTell kept told inner → (so_far : Suffixed) → Tells kept told (suffix_at inner so_far)
unfolding suffix_at
suffix_tells is inner so_far state ahead = if_in (is_punct punct.LEFT_PARENTHESIS (kind_ahead ahead)) (bracket_suffix_tells is inner so_far state ahead) (if_in (is_punct punct.LEFT_BRACKET (kind_ahead ahead)) (array_tells is inner so_far state ahead) (same_in is (Done so_far.declarator) state ahead))

pub suffixes_tell : {S : Type 0} {kept : S → S → Type 0} {told : S → Ahead → Stopped → Type 0} → IsTold kept told → {inner : Readers S} → ReadersTell kept told inner → (declarator : Declarator) → Tells kept told (suffixes_at inner declarator)
unfolding suffixes_at
suffixes_tell is {inner = i} inner declarator state ahead = repeat_tells is (suffix_at i) give_declarator (suffix_tells is inner) (λ so_far. give_in is so_far.declarator) _ _ state ahead

-- 8.3: a name has no qualifiers where none may have them
pub name_tells : {S : Type 0} {kept : S → S → Type 0} {told : S → Ahead → Stopped → Type 0} → IsTold kept told → (asks : Kinds S) {inner : Readers S} → ReadersTell kept told inner → (naming : Naming) → may_qualify naming ≡ false → Tells kept told (name_part asks inner naming)
unfolding name_part
name_tells {kept = kept} {told = told} is asks {inner = i} inner naming plain state ahead =
    if_in (is_never naming) (suffixes_tell is inner no_declarator_yet state ahead) (
    if_in (is_plain_name ahead) (then_in is (token_told is state ahead) (λ token. suffixes_tell is inner (name_read token))) (by (may_qualify naming) plain))
  where
    others : ToldIn kept told state ahead (if is_required naming then no_declarator state ahead else suffixes_at i no_declarator_yet state ahead)
    others = if_in (is_required naming) (no_declarator_tells is state ahead) (suffixes_tell is inner no_declarator_yet state ahead)

    unqualified : (b : Bool) → b ≡ false → ToldIn kept told state ahead (if b then qualified_part asks i state ahead else no_qualifier state ahead)
    unqualified true plain = absurd cc
    unqualified false plain = if_in (is_name (kind_ahead ahead)) (quiet_in is refl) (quiet_in is refl)

    by : (b : Bool) → b ≡ false → ToldIn kept told state ahead (if begins_name ahead then (if b then qualified_part asks i state ahead else no_qualifier state ahead) else (if is_required naming then no_declarator state ahead else suffixes_at i no_declarator_yet state ahead))
    by b plain = if_in (begins_name ahead) (unqualified b plain) others

-- 8.3.3: pointers to members are left out
named_tells : {S : Type 0} {kept : S → S → Type 0} {told : S → Ahead → Stopped → Type 0} → IsTold kept told → (asks : Kinds S) {inner : Readers S} → ReadersTell kept told inner → (naming : Naming) → may_qualify naming ≡ false → Tells kept told (named_part asks inner naming)
named_tells is asks inner naming plain state ahead = if_in (points_to_member ahead) (quiet_in is refl) (name_tells is asks inner naming plain state ahead)

pub grouped_part_tells : {S : Type 0} {kept : S → S → Type 0} {told : S → Ahead → Stopped → Type 0} → IsTold kept told → {inner : Readers S} → ReadersTell kept told inner → (naming : Naming) → may_qualify naming ≡ false → Tells kept told (grouped_part inner naming)
unfolding grouped_part
grouped_part_tells is inner naming plain state ahead = then_in is (taken_in is state ahead) (λ opened state ahead. then_in is (inner.grouped naming plain state ahead) (suffixes_tell is inner))

grouped_by_tells : {S : Type 0} {kept : S → S → Type 0} {told : S → Ahead → Stopped → Type 0} → IsTold kept told → {inner : Readers S} → ReadersTell kept told inner → (naming : Naming) → may_qualify naming ≡ false → (is_list : Bool) → Tells kept told (grouped_by inner naming is_list)
grouped_by_tells is inner naming plain true state ahead = suffixes_tell is inner no_declarator_yet state ahead
grouped_by_tells is inner naming plain false state ahead = grouped_part_tells is inner naming plain state ahead

pub bracket_part_tells : {S : Type 0} {kept : S → S → Type 0} {told : S → Ahead → Stopped → Type 0} → IsTold kept told → {asks : Kinds S} → KindsTell kept told asks → {inner : Readers S} → ReadersTell kept told inner → (naming : Naming) → may_qualify naming ≡ false → Tells kept told (bracket_part asks inner naming)
unfolding bracket_part
bracket_part_tells is asks inner naming plain state ahead = if_in (is_required naming) (grouped_part_tells is inner naming plain state ahead) (then_in is (abstract_tells is (names_tell asks) state ahead) (grouped_by_tells is inner naming plain))

pub star_tells : {S : Type 0} {kept : S → S → Type 0} {told : S → Ahead → Stopped → Type 0} → IsTold kept told → {inner : Readers S} → ReadersTell kept told inner → (naming : Naming) → may_qualify naming ≡ false → Tells kept told (star_part inner naming)
unfolding star_part
star_tells is inner naming plain state ahead = then_in is (taken_in is state ahead) (λ star. inner.pointed naming plain)

pub ampersand_tells : {S : Type 0} {kept : S → S → Type 0} {told : S → Ahead → Stopped → Type 0} → IsTold kept told → {inner : Readers S} → ReadersTell kept told inner → (naming : Naming) → may_qualify naming ≡ false → Tells kept told (ampersand_part inner naming)
unfolding ampersand_part
ampersand_tells is inner naming plain state ahead = then_in is (taken_in is state ahead) (λ ampersand. inner.referred naming plain)

pub declarator_tells : {S : Type 0} {kept : S → S → Type 0} {told : S → Ahead → Stopped → Type 0} → IsTold kept told → {asks : Kinds S} → KindsTell kept told asks → {inner : Readers S} → ReadersTell kept told inner → (naming : Naming) → may_qualify naming ≡ false → Tells kept told (declarator_at asks inner naming)
unfolding declarator_at
declarator_tells is {asks = a} asks inner naming plain state ahead = if_in (is_punct punct.STAR (kind_ahead ahead)) (star_tells is inner naming plain state ahead) (if_in (is_punct punct.AMPERSAND (kind_ahead ahead)) (ampersand_tells is inner naming plain state ahead) (if_in (is_punct punct.LEFT_PARENTHESIS (kind_ahead ahead)) (bracket_part_tells is asks inner naming plain state ahead) (named_tells is a inner naming plain state ahead)))

pub pointed_tells : {S : Type 0} {kept : S → S → Type 0} {told : S → Ahead → Stopped → Type 0} → IsTold kept told → {asks : Kinds S} → KindsTell kept told asks → {inner : Readers S} → ReadersTell kept told inner → (naming : Naming) → may_qualify naming ≡ false → Tells kept told (pointed_at asks inner naming)
unfolding pointed_at
pointed_tells is asks inner naming plain state ahead = then_in is (tokens_in is (cv_tells unit_is_told) state ahead) (λ cv state ahead. then_in is (declarator_tells is asks inner naming plain state ahead) (λ inside. give_in is (outward (pointer_layer cv) [] inside)))

pub referred_tells : {S : Type 0} {kept : S → S → Type 0} {told : S → Ahead → Stopped → Type 0} → IsTold kept told → {asks : Kinds S} → KindsTell kept told asks → {inner : Readers S} → ReadersTell kept told inner → (naming : Naming) → may_qualify naming ≡ false → Tells kept told (referred_at asks inner naming)
unfolding referred_at
referred_tells is asks inner naming plain state ahead = then_in is (declarator_tells is asks inner naming plain state ahead) (λ inside. give_in is (outward reference_layer [] inside))

pub grouped_tells : {S : Type 0} {kept : S → S → Type 0} {told : S → Ahead → Stopped → Type 0} → IsTold kept told → {asks : Kinds S} → KindsTell kept told asks → {inner : Readers S} → ReadersTell kept told inner → (naming : Naming) → may_qualify naming ≡ false → Tells kept told (grouped_at asks inner naming)
unfolding grouped_at
grouped_tells is asks inner naming plain state ahead = then_in is (declarator_tells is asks inner naming plain state ahead) (λ inside state ahead. then_in is (tokens_in is (punct_in unit_is_told punct.RIGHT_PARENTHESIS) state ahead) (λ closed. give_in is inside))

pub parameter_fits_tells : {S : Type 0} {kept : S → S → Type 0} {told : S → Ahead → Stopped → Type 0} → IsTold kept told → (specifiers : Specifiers) (declarator : Declarator) → Tells kept told (parameter_fits {S = S} specifiers declarator)
unfolding parameter_fits
parameter_fits_tells is specifiers declarator state ahead = if_in (is_refused_parameter declarator.layers (specified_type specifiers)) (quiet_in is refl) (same_in is tt state ahead)

-- the reader of default arguments keeps and tells too
abbrev pub FallbackTells : {S : Type 0} → (S → S → Type 0) → (S → Ahead → Stopped → Type 0) → Fallback S → Type 0
FallbackTells kept told fallback = (index : ℕ) (of : CxxType) → Tells kept told (fallback index of)

pub default_tells : {S : Type 0} {kept : S → S → Type 0} {told : S → Ahead → Stopped → Type 0} → IsTold kept told → {fallback : Fallback S} → FallbackTells kept told fallback → (index : ℕ) (of : CxxType) → Tells kept told (default_at fallback index of)
unfolding default_at
default_tells is fallback index of state ahead = if_in (is_punct punct.EQUALS (kind_ahead ahead)) (fallback index of state ahead) (same_in is [] state ahead)

pub parameter_tells : {S : Type 0} {kept : S → S → Type 0} {told : S → Ahead → Stopped → Type 0} → IsTold kept told → {asks : Kinds S} → KindsTell kept told asks → {fallback : Fallback S} → FallbackTells kept told fallback → {inner : Readers S} → ReadersTell kept told inner → (so_far : ParameterTypes) → Tells kept told (parameter_at asks fallback inner so_far)
unfolding parameter_at
parameter_tells is asks fallback inner so_far state ahead = then_in is (looked_in is state ahead) (λ from state ahead. then_in is (specifiers_tell is asks inner where_.Parameter state ahead) (λ specifiers state ahead. then_in is (declarator_tells is asks inner naming.Either refl state ahead) (λ declarator state ahead. then_in is (parameter_fits_tells is specifiers declarator state ahead) (λ fits state ahead. then_in is (looked_in is state ahead) (λ to state ahead. then_in is (ask_in ahead (asks.parameter declarator.name (place_of_declarator declarator to) (parameter_type declarator.layers (specified_type specifiers)) state ahead)) (λ declared state ahead. then_in is (default_tells is fallback (length so_far.types) (parameter_type declarator.layers (specified_type specifiers)) state ahead) (λ default state ahead. then_in is (looked_in is state ahead) (λ end. give_in is (with_parameter (parameter_type declarator.layers (specified_type specifiers)) (parameter_tree specifiers declarator (parameter_type declarator.layers (specified_type specifiers)) default from to end) so_far)))))))))

pub list_ended_tells : {S : Type 0} {kept : S → S → Type 0} {told : S → Ahead → Stopped → Type 0} → IsTold kept told → (so_far : ParameterTypes) → Tells kept told (list_ended {S = S} so_far)
unfolding list_ended
list_ended_tells is so_far state ahead = then_in is (taken_in is state ahead) (λ ellipsis state ahead. then_in is (tokens_in is (punct_in unit_is_told punct.RIGHT_PARENTHESIS) state ahead) (λ closed. give_in is (Done (with_ellipsis so_far))))

pub comma_tells : {S : Type 0} {kept : S → S → Type 0} {told : S → Ahead → Stopped → Type 0} → IsTold kept told → (so_far : ParameterTypes) → Tells kept told (comma_passed {S = S} so_far)
unfolding comma_passed
comma_tells is so_far state ahead = if_in (is_punct punct.ELLIPSIS (kind_ahead ahead)) (list_ended_tells is so_far state ahead) (same_in is (More so_far) state ahead)

pub parameter_ended_tells : {S : Type 0} {kept : S → S → Type 0} {told : S → Ahead → Stopped → Type 0} → IsTold kept told → (so_far : ParameterTypes) → Tells kept told (parameter_ended {S = S} so_far)
unfolding parameter_ended
parameter_ended_tells is so_far state ahead = if_in (is_punct punct.COMMA (kind_ahead ahead)) (past_in is (comma_tells is so_far state (behind ahead))) (if_in (is_punct punct.RIGHT_PARENTHESIS (kind_ahead ahead)) (next_in is (Done so_far) state ahead) (if_in (is_punct punct.ELLIPSIS (kind_ahead ahead)) (list_ended_tells is so_far state ahead) (quiet_in is refl)))

pub parameter_step_tells : {S : Type 0} {kept : S → S → Type 0} {told : S → Ahead → Stopped → Type 0} → IsTold kept told → {asks : Kinds S} → KindsTell kept told asks → {fallback : Fallback S} → FallbackTells kept told fallback → {inner : Readers S} → ReadersTell kept told inner → (so_far : ParameterTypes) → Tells kept told (parameter_step asks fallback inner so_far)
unfolding parameter_step
parameter_step_tells is asks fallback inner so_far state ahead = then_in is (parameter_tells is asks fallback inner so_far state ahead) (parameter_ended_tells is)

past_most_tells : {S : Type 0} {kept : S → S → Type 0} {told : S → Ahead → Stopped → Type 0} → IsTold kept told → {A : Type 0} (begins : Bool) → Tells kept told (past_most {S = S} {A = A} begins)
past_most_tells is true state ahead = quiet_in is refl
past_most_tells is false state ahead = quiet_in is refl

pub parameters_over_tells : {S : Type 0} {kept : S → S → Type 0} {told : S → Ahead → Stopped → Type 0} → IsTold kept told → {asks : Kinds S} → KindsTell kept told asks → {A : Type 0} (so_far : ParameterTypes) → Tells kept told (parameters_over {A = A} asks so_far)
unfolding parameters_over
parameters_over_tells is asks so_far state ahead = if_in (is_keyword keyword.AUTO (kind_ahead ahead) || is_keyword keyword.REGISTER (kind_ahead ahead)) (past_most_tells is true state ahead) (then_in is (begins_tells is (names_tell asks) state ahead) (past_most_tells is))

pub some_parameters_tell : {S : Type 0} {kept : S → S → Type 0} {told : S → Ahead → Stopped → Type 0} → IsTold kept told → {asks : Kinds S} → KindsTell kept told asks → {fallback : Fallback S} → FallbackTells kept told fallback → {inner : Readers S} → ReadersTell kept told inner → (scope : ℕ) → Tells kept told (some_parameters asks fallback inner scope)
unfolding some_parameters
some_parameters_tell is {asks = a} asks {fallback = f} fallback {inner = i} inner scope = repeat_tells is (parameter_step a f i) (parameters_over a) (parameter_step_tells is asks fallback inner) (parameters_over_tells is asks) limits.MOST_ARGUMENTS (no_parameters scope)

turn_result_tells : {S : Type 0} {kept : S → S → Type 0} {told : S → Ahead → Stopped → Type 0} → IsTold kept told → (turn : Turn ParameterTypes ParameterTypes) → Tells kept told (turn_result {S = S} turn)
turn_result_tells is (More so_far) = give_in is so_far
turn_result_tells is (Done so_far) = give_in is so_far

pub parameter_list_tells : {S : Type 0} {kept : S → S → Type 0} {told : S → Ahead → Stopped → Type 0} → IsTold kept told → {asks : Kinds S} → KindsTell kept told asks → {fallback : Fallback S} → FallbackTells kept told fallback → {inner : Readers S} → ReadersTell kept told inner → (scope : ℕ) → Tells kept told (list_at asks fallback inner scope)
unfolding list_at
parameter_list_tells is asks fallback inner scope state ahead = if_in (is_punct punct.RIGHT_PARENTHESIS (kind_ahead ahead)) (next_in is (no_parameters scope) state ahead) (if_in (is_void_list ahead) (past_in is (next_in is (no_parameters scope) state (behind ahead))) (if_in (is_punct punct.ELLIPSIS (kind_ahead ahead)) (then_in is (list_ended_tells is (no_parameters scope) state ahead) (turn_result_tells is)) (some_parameters_tell is asks fallback inner scope state ahead)))

pub parameters_tell : {S : Type 0} {kept : S → S → Type 0} {told : S → Ahead → Stopped → Type 0} → IsTold kept told → {asks : Kinds S} → KindsTell kept told asks → {fallback : Fallback S} → FallbackTells kept told fallback → {inner : Readers S} → ReadersTell kept told inner → Tells kept told (parameters_at asks fallback inner)
unfolding parameters_at
parameters_tell is {asks = a} asks {fallback = f} fallback {inner = i} inner state ahead = asks.listed (list_at a f i) (parameter_list_tells is asks fallback inner) state ahead

pub enumerator_ended_tells : {S : Type 0} {kept : S → S → Type 0} {told : S → Ahead → Stopped → Type 0} → IsTold kept told → (so_far : List CxxTree) → Tells kept told (enumerator_ended {S = S} so_far)
unfolding enumerator_ended
enumerator_ended_tells is so_far state ahead = if_in (is_punct punct.COMMA (kind_ahead ahead)) (next_in is (More so_far) state ahead) (if_in (is_punct punct.RIGHT_BRACE (kind_ahead ahead)) (next_in is (Done so_far) state ahead) (quiet_in is refl))
