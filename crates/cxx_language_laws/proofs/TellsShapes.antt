-- What the test of shapes keeps of the state, and what stops it.
use Rattle.std.specs.Prelude.{ℕ, Bool, true, false, not, ◌&&◌, ◌||◌, ◌==◌}
use Rattle.cxx_model.specs.declared.keyword.TheConstants as keyword
use Rattle.cxx_model.specs.declared.punct.TheConstants as punct
use Rattle.cxx_reading.specs.Declarators.{type_word}
use Rattle.cxx_reading.specs.Tokens.{is_punct, is_keyword, is_end, is_plain_name, behind_name}
use Rattle.cxx_model.specs.declared.token.TokenKind.{TokenKind}
use Rattle.cxx_model.specs.declared.token.TokenKind.TheVariants.{Name, Keyword, Punct, Integer, Character, Text, End}
use Rattle.cxx_model.specs.declared.tree.Kind.{Kind}
use Rattle.cxx_model.specs.declared.tree.Kind.TheVariants as kind
use Rattle.cxx_model.specs.Stops.{Stopped}
use Rattle.cxx_reading.specs.Kinds.{Kinds, Readers}
use Rattle.cxx_reading.specs.Reads.{Ahead, More, give, got, kind_ahead}
use Rattle.cxx_reading.specs.Shapes.{opens, closes, is_specifier, is_some_word, is_key, ends_default, bracket_step, give_nothing, brackets_passed, Run, no_type, a_type, surely, key_shape, kind_shape, name_shape, keyword_shape, run_by, run_step, give_ended, run_passed, is_type_kind, begins_by, begins_type, is_abstract_list, Outline, Fits, fits, fits_not, opened_by, prefix_step, prefix_passed, passed_by, list_shape, suffix_step, give_closed, suffixes_by, declarator_passed, default_step, default_passed, separated, parameter_by, piece_by, piece_step, give_false, parameters_shape}
use Rattle.cxx_language_laws.proofs.Tells.{IsTold, Tells, ToldIn, NamesTell, ListsTell, tells_read, if_in, if_reads, kind_tells, name_stands, then_in, same_in, next_in, past_in, repeat_tells, give_in, tokens_in, unit_is_told, returned_in}

pub bracket_tells : {S : Type 0} {kept : S → S → Type 0} {told : S → Ahead → Stopped → Type 0} → IsTold kept told → (count : ℕ) → Tells kept told (bracket_step {S = S} count)
unfolding bracket_step
bracket_tells is count state ahead = if_in (is_end (kind_ahead ahead)) (same_in is _ state _) (if_in (opens (kind_ahead ahead)) (next_in is _ state ahead) (if_in (closes (kind_ahead ahead)) (next_in is _ state ahead) (next_in is _ state ahead)))

pub brackets_tell : {S : Type 0} {kept : S → S → Type 0} {told : S → Ahead → Stopped → Type 0} → IsTold kept told → Tells kept told (brackets_passed {S = S})
unfolding brackets_passed
brackets_tell is state ahead = past_in is (repeat_tells is bracket_step give_nothing (bracket_tells is) (λ so_far state ahead. same_in is _ state _) _ _ state _)

-- behind the name ahead
named_in : {S A : Type 0} {kept : S → S → Type 0} {told : S → Ahead → Stopped → Type 0} → IsTold kept told → (value : A) (state : S) (ahead : Ahead) → ToldIn kept told state ahead (got value state (behind_name ahead))
named_in is value state ahead = tells_read (record { value = value; state = state; rest = behind_name ahead }) (is.keeps.same state) (name_stands ahead)

pub key_shape_tells : {S : Type 0} {kept : S → S → Type 0} {told : S → Ahead → Stopped → Type 0} → IsTold kept told → Tells kept told (key_shape {S = S})
unfolding key_shape
key_shape_tells is state ahead = if_in _ (named_in is _ state ahead) (same_in is _ state _)

kind_shape_tells : {S : Type 0} {kept : S → S → Type 0} {told : S → Ahead → Stopped → Type 0} → IsTold kept told → (kind : Kind) → Tells kept told (kind_shape {S = S} kind)
kind_shape_tells is kind.OfType state ahead = named_in is _ state ahead
kind_shape_tells is kind.OfTemplate state ahead = same_in is _ state _
kind_shape_tells is kind.OfBoth state ahead = same_in is _ state _
kind_shape_tells is kind.Space state ahead = same_in is _ state _
kind_shape_tells is kind.Value state ahead = same_in is _ state _

pub name_shape_tells : {S : Type 0} {kept : S → S → Type 0} {told : S → Ahead → Stopped → Type 0} → IsTold kept told → {asks : Kinds S} → NamesTell kept told asks → (typed : Bool) → Tells kept told (name_shape asks typed)
unfolding name_shape
name_shape_tells is {asks = a} asks true state ahead = same_in is _ state _
name_shape_tells is {asks = a} asks false state ahead = then_in is (kind_tells is a.kind asks.kind state ahead) (kind_shape_tells is)

pub keyword_shape_tells : {S : Type 0} {kept : S → S → Type 0} {told : S → Ahead → Stopped → Type 0} → IsTold kept told → (n : ℕ) (typed : Bool) → Tells kept told (keyword_shape {S = S} n typed)
unfolding keyword_shape
keyword_shape_tells is n typed state ahead = if_in (is_specifier n) (next_in is _ state ahead) (if_in (is_some_word (type_word n)) (next_in is _ state ahead) (if_in (is_key n && not typed) (past_in is (key_shape_tells is state _)) (same_in is _ state _)))

run_by_tells : {S : Type 0} {kept : S → S → Type 0} {told : S → Ahead → Stopped → Type 0} → IsTold kept told → {asks : Kinds S} → NamesTell kept told asks → (kind : TokenKind) (typed : Bool) → Tells kept told (run_by asks kind typed)
run_by_tells is asks (Keyword n) typed state ahead = keyword_shape_tells is n typed state ahead
run_by_tells is asks Name typed state ahead = name_shape_tells is asks typed state ahead
run_by_tells is asks (Punct n) typed state ahead = if_reads _ (name_shape_tells is asks typed) (λ state ahead. same_in is _ state _) state ahead
run_by_tells is asks Integer typed state ahead = same_in is _ state _
run_by_tells is asks Character typed state ahead = same_in is _ state _
run_by_tells is asks Text typed state ahead = same_in is _ state _
run_by_tells is asks End typed state ahead = same_in is _ state _

pub run_tells : {S : Type 0} {kept : S → S → Type 0} {told : S → Ahead → Stopped → Type 0} → IsTold kept told → {asks : Kinds S} → NamesTell kept told asks → Tells kept told (run_passed asks)
unfolding run_passed run_step
run_tells is {asks = a} asks state ahead = repeat_tells is (run_step a) give_ended (λ typed state ahead. run_by_tells is asks (kind_ahead ahead) typed state ahead) (λ so_far state ahead. same_in is _ state _) _ _ state ahead

is_type_tells : {S : Type 0} {kept : S → S → Type 0} {told : S → Ahead → Stopped → Type 0} → IsTold kept told → (kind : Kind) → Tells kept told (is_type_kind {S = S} kind)
is_type_tells is kind.OfType state ahead = same_in is _ state _
is_type_tells is kind.OfTemplate state ahead = same_in is _ state _
is_type_tells is kind.OfBoth state ahead = same_in is _ state _
is_type_tells is kind.Space state ahead = same_in is _ state _
is_type_tells is kind.Value state ahead = same_in is _ state _

begins_by_tells : {S : Type 0} {kept : S → S → Type 0} {told : S → Ahead → Stopped → Type 0} → IsTold kept told → {asks : Kinds S} → NamesTell kept told asks → (kind : TokenKind) → Tells kept told (begins_by asks kind)
begins_by_tells is {asks = a} asks (Keyword n) state ahead = same_in is _ state _
begins_by_tells is {asks = a} asks (Punct n) state ahead = if_in (n == punct.SCOPE) (then_in is (kind_tells is a.kind asks.kind state ahead) (is_type_tells is)) (same_in is _ state _)
begins_by_tells is {asks = a} asks Name state ahead = then_in is (kind_tells is a.kind asks.kind state ahead) (is_type_tells is)
begins_by_tells is {asks = a} asks Integer state ahead = same_in is _ state _
begins_by_tells is {asks = a} asks Character state ahead = same_in is _ state _
begins_by_tells is {asks = a} asks Text state ahead = same_in is _ state _
begins_by_tells is {asks = a} asks End state ahead = same_in is _ state _

pub begins_tells : {S : Type 0} {kept : S → S → Type 0} {told : S → Ahead → Stopped → Type 0} → IsTold kept told → {asks : Kinds S} → NamesTell kept told asks → Tells kept told (begins_type asks)
unfolding begins_type
begins_tells is asks state ahead = begins_by_tells is asks (kind_ahead ahead) state ahead

pub abstract_tells : {S : Type 0} {kept : S → S → Type 0} {told : S → Ahead → Stopped → Type 0} → IsTold kept told → {asks : Kinds S} → NamesTell kept told asks → Tells kept told (is_abstract_list asks)
unfolding is_abstract_list
abstract_tells is asks state ahead = if_in _ (same_in is _ state _) (returned_in ahead (past_in is (begins_tells is asks state _)))

opened_by_tells : {S : Type 0} {kept : S → S → Type 0} {told : S → Ahead → Stopped → Type 0} → IsTold kept told → (is_list : Bool) (outline : Outline) → Tells kept told (opened_by {S = S} is_list outline)
opened_by_tells is true outline state ahead = same_in is _ state _
opened_by_tells is false outline state ahead = next_in is _ state ahead

pub prefix_tells : {S : Type 0} {kept : S → S → Type 0} {told : S → Ahead → Stopped → Type 0} → IsTold kept told → {asks : Kinds S} → NamesTell kept told asks → (outline : Outline) → Tells kept told (prefix_step asks outline)
unfolding prefix_step
prefix_tells is asks outline state ahead = if_in (is_punct punct.STAR (kind_ahead ahead) || (is_punct punct.AMPERSAND (kind_ahead ahead) || (is_keyword keyword.CONST (kind_ahead ahead) || is_keyword keyword.VOLATILE (kind_ahead ahead)))) (next_in is _ state ahead) (if_in (is_punct punct.LEFT_PARENTHESIS (kind_ahead ahead)) (then_in is (abstract_tells is asks state ahead) (λ is_list. opened_by_tells is is_list outline)) (if_in (is_plain_name ahead) (next_in is _ state ahead) (same_in is _ state _)))

pub prefixes_tell : {S : Type 0} {kept : S → S → Type 0} {told : S → Ahead → Stopped → Type 0} → IsTold kept told → {asks : Kinds S} → NamesTell kept told asks → Tells kept told (prefix_passed asks)
unfolding prefix_passed
prefixes_tell is {asks = a} asks state ahead = repeat_tells is (prefix_step a) give (prefix_tells is asks) (λ so_far state ahead. same_in is _ state _) _ _ state ahead

passed_by_tells : {S : Type 0} {kept : S → S → Type 0} {told : S → Ahead → Stopped → Type 0} → IsTold kept told → (is_list : Bool) (outline : Outline) → Tells kept told (passed_by {S = S} is_list outline)
passed_by_tells is true outline state ahead = then_in is (tokens_in is (brackets_tell unit_is_told) state ahead) (λ end. give_in is (More outline))
passed_by_tells is false outline state ahead = same_in is _ state _

pub list_shape_tells : {S : Type 0} {kept : S → S → Type 0} {told : S → Ahead → Stopped → Type 0} → IsTold kept told → {inner : Readers S} → ListsTell kept told inner → (outline : Outline) → Tells kept told (list_shape inner outline)
unfolding list_shape
list_shape_tells is inner outline state ahead = then_in is (returned_in ahead (past_in is (inner.holds_parameters state _))) (λ is_list. passed_by_tells is is_list outline)

pub suffix_shape_tells : {S : Type 0} {kept : S → S → Type 0} {told : S → Ahead → Stopped → Type 0} → IsTold kept told → {inner : Readers S} → ListsTell kept told inner → (outline : Outline) → Tells kept told (suffix_step inner outline)
unfolding suffix_step
suffix_shape_tells is inner outline state ahead = if_in (is_punct punct.LEFT_PARENTHESIS (kind_ahead ahead)) (list_shape_tells is inner outline state ahead) (if_in (is_punct punct.LEFT_BRACKET (kind_ahead ahead)) (passed_by_tells is true outline state ahead) (if_in (is_keyword keyword.CONST (kind_ahead ahead) || (is_keyword keyword.VOLATILE (kind_ahead ahead) || is_keyword keyword.THROW (kind_ahead ahead))) (next_in is _ state ahead) (if_in (is_punct punct.RIGHT_PARENTHESIS (kind_ahead ahead) && not (outline.brackets == 0)) (next_in is _ state ahead) (same_in is _ state _))))

pub suffixes_by_tells : {S : Type 0} {kept : S → S → Type 0} {told : S → Ahead → Stopped → Type 0} → IsTold kept told → {inner : Readers S} → ListsTell kept told inner → (outline : Outline) → Tells kept told (suffixes_by inner outline)
unfolding suffixes_by
suffixes_by_tells is {inner = i} inner outline state ahead = repeat_tells is (suffix_step i) give_closed (suffix_shape_tells is inner) (λ so_far state ahead. same_in is _ state _) _ _ state ahead

pub declarator_shape_tells : {S : Type 0} {kept : S → S → Type 0} {told : S → Ahead → Stopped → Type 0} → IsTold kept told → {asks : Kinds S} → NamesTell kept told asks → {inner : Readers S} → ListsTell kept told inner → Tells kept told (declarator_passed asks inner)
unfolding declarator_passed
declarator_shape_tells is asks inner state ahead = then_in is (prefixes_tell is asks state ahead) (suffixes_by_tells is inner)

default_step_tells : {S : Type 0} {kept : S → S → Type 0} {told : S → Ahead → Stopped → Type 0} → IsTold kept told → (so_far : Unit {0}) → Tells kept told (default_step {S = S} so_far)
unfolding default_step
default_step_tells is so_far state ahead = if_in (ends_default (kind_ahead ahead)) (same_in is _ state _) (if_in (opens (kind_ahead ahead)) (then_in is (brackets_tell is state ahead) (λ end. give_in is (More tt))) (next_in is _ state ahead))

pub default_tells : {S : Type 0} {kept : S → S → Type 0} {told : S → Ahead → Stopped → Type 0} → IsTold kept told → Tells kept told (default_passed {S = S})
unfolding default_passed
default_tells is state ahead = if_in (is_punct punct.EQUALS (kind_ahead ahead)) (past_in is (repeat_tells is default_step give (default_step_tells is) (λ so_far state ahead. same_in is _ state _) _ _ state _)) (same_in is _ state _)

separated_tells : {S : Type 0} {kept : S → S → Type 0} {told : S → Ahead → Stopped → Type 0} → IsTold kept told → Tells kept told (separated {S = S})
separated_tells is state ahead = if_in _ (next_in is _ state ahead) (same_in is _ state _)

parameter_by_tells : {S : Type 0} {kept : S → S → Type 0} {told : S → Ahead → Stopped → Type 0} → IsTold kept told → (one : Fits) → Tells kept told (parameter_by {S = S} one)
parameter_by_tells is fits state ahead = then_in is (tokens_in is (default_tells unit_is_told) state ahead) (λ passed. separated_tells is)
parameter_by_tells is fits_not state ahead = same_in is _ state _

piece_by_tells : {S : Type 0} {kept : S → S → Type 0} {told : S → Ahead → Stopped → Type 0} → IsTold kept told → {asks : Kinds S} → NamesTell kept told asks → {inner : Readers S} → ListsTell kept told inner → (run : Run) → Tells kept told (piece_by asks inner run)
piece_by_tells is asks inner no_type state ahead = same_in is _ state _
piece_by_tells is asks inner a_type state ahead = then_in is (declarator_shape_tells is asks inner state ahead) (parameter_by_tells is)
piece_by_tells is asks inner surely state ahead = same_in is _ state _

pub piece_tells : {S : Type 0} {kept : S → S → Type 0} {told : S → Ahead → Stopped → Type 0} → IsTold kept told → {asks : Kinds S} → NamesTell kept told asks → {inner : Readers S} → ListsTell kept told inner → (so_far : Unit {0}) → Tells kept told (piece_step asks inner so_far)
unfolding piece_step
piece_tells is asks inner so_far state ahead = if_in (is_punct punct.ELLIPSIS (kind_ahead ahead)) (same_in is _ state _) (then_in is (run_tells is asks state ahead) (piece_by_tells is asks inner))

pub parameters_shape_tells : {S : Type 0} {kept : S → S → Type 0} {told : S → Ahead → Stopped → Type 0} → IsTold kept told → {asks : Kinds S} → NamesTell kept told asks → {inner : Readers S} → ListsTell kept told inner → Tells kept told (parameters_shape asks inner)
unfolding parameters_shape
parameters_shape_tells is {asks = a} asks {inner = i} inner state ahead = if_in (is_punct punct.RIGHT_PARENTHESIS (kind_ahead ahead)) (same_in is _ state _) (repeat_tells is (piece_step a i) give_false (piece_tells is asks inner) (λ so_far state ahead. same_in is _ state _) _ _ state ahead)
