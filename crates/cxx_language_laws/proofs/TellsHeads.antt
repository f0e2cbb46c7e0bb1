-- What the test of how a statement begins keeps of the state, and what stops it.
use Rattle.std.specs.Prelude.{ℕ, suc, Bool, true, false, not, ◌&&◌, ◌==◌, ◌-◌, Option, Some, None}
use Rattle.cxx_heads.specs.declared.head.Head.TheVariants as head
use Rattle.cxx_heads.specs.declared.shape.Shape.{Shape}
use Rattle.cxx_heads.specs.Heads.{is_cv_word, no_shape, name_step, give_no_name, name_passed, gone_past, listed_by, list_step, exceptions_step, suffix_step, give_unclosed, suffixes_passed, closing_step, closed_passed, bound_step, bounds_passed, bounded_by, declared_by, declarator_begins, specified_by, specifiers_begin, begins_declaration, is_declaration, head_of, head_at, is_no_type_word, type_word_step, give_true, types_alone, initialized_by, named_by, initializer_follows, typed_by, look_from, conditioned_by, condition_begins, is_declared_condition}
use Rattle.cxx_model.specs.declared.keyword.TheConstants as keyword
use Rattle.cxx_model.specs.declared.punct.TheConstants as punct
use Rattle.cxx_model.specs.Stops.{Answer, Stopped}
use Rattle.cxx_reading.specs.Kinds.{Kinds, Readers}
use Rattle.cxx_reading.specs.Reads.{Ahead, Got, Reads, More, Done, beside, tokens, kind_ahead, count_ahead, behind}
use Rattle.cxx_reading.specs.Shapes.{Run, no_type, a_type, surely, give_false, returned}
use Rattle.cxx_reading.specs.Tokens.{is_punct, is_keyword, is_name, is_plain_name}
use Rattle.cxx_language_laws.proofs.Tells.{IsTold, ToldIn, tells_read, tells_stop, Tells, Always, Quietly, NamesTell, ListsTell, whole_stands, if_in, then_in, same_in, next_in, past_in, repeat_tells, give_in, tokens_in, unit_is_told, returned_in}
use Rattle.cxx_language_laws.proofs.TellsShapes.{brackets_tell, run_tells}

-- ---- up to the name of a declarator

name_step_tells : {S : Type 0} {kept : S → S → Type 0} {told : S → Ahead → Stopped → Type 0} → IsTold kept told → (shape : Shape) → Tells kept told (name_step {S = S} shape)
unfolding name_step
name_step_tells is shape state ahead =
    if_in (is_punct punct.STAR (kind_ahead ahead)) (next_in is (More (record shape { takes_cv = true })) state ahead) (
    if_in (is_cv_word (kind_ahead ahead) && shape.takes_cv) (next_in is (More shape) state ahead) (
    if_in (is_punct punct.AMPERSAND (kind_ahead ahead)) (next_in is (More (record shape { takes_cv = false })) state ahead) (
    if_in (is_punct punct.LEFT_PARENTHESIS (kind_ahead ahead)) (next_in is (More (record { brackets = suc shape.brackets; takes_cv = false })) state ahead) (
    if_in (is_plain_name ahead) (next_in is (Done (Some (record shape { takes_cv = false }))) state ahead) (same_in is (Done None) state ahead)))))

name_tells : {S : Type 0} {kept : S → S → Type 0} {told : S → Ahead → Stopped → Type 0} → IsTold kept told → Tells kept told (name_passed {S = S})
unfolding name_passed
name_tells is state ahead = repeat_tells is name_step give_no_name (name_step_tells is) (λ shape. give_in is None) (count_ahead ahead) no_shape state ahead

-- ---- behind the name

gone_tells : {S : Type 0} {kept : S → S → Type 0} {told : S → Ahead → Stopped → Type 0} → IsTold kept told → (takes_cv : Bool) (shape : Shape) → Tells kept told (gone_past {S = S} takes_cv shape)
gone_tells is takes_cv shape state ahead = then_in is (tokens_in is (brackets_tell unit_is_told) state ahead) (λ end. give_in is (More (record shape { takes_cv = takes_cv })))

listed_by_tells : {S : Type 0} {kept : S → S → Type 0} {told : S → Ahead → Stopped → Type 0} → IsTold kept told → (shape : Shape) (is_list : Bool) → Tells kept told (listed_by {S = S} shape is_list)
listed_by_tells is shape true = gone_tells is true shape
listed_by_tells is shape false = give_in is (Done false)

list_step_tells : {S : Type 0} {kept : S → S → Type 0} {told : S → Ahead → Stopped → Type 0} → IsTold kept told → {inner : Readers S} → ListsTell kept told inner → (shape : Shape) → Tells kept told (list_step inner shape)
unfolding list_step
list_step_tells is inner shape state ahead = then_in is (returned_in ahead (past_in is (inner.holds_parameters state (behind ahead)))) (listed_by_tells is shape)

exceptions_step_tells : {S : Type 0} {kept : S → S → Type 0} {told : S → Ahead → Stopped → Type 0} → IsTold kept told → (shape : Shape) → Tells kept told (exceptions_step {S = S} shape)
unfolding exceptions_step
exceptions_step_tells is shape state ahead = if_in _ (gone_tells is false shape state ahead) (same_in is _ state ahead)

suffix_step_tells : {S : Type 0} {kept : S → S → Type 0} {told : S → Ahead → Stopped → Type 0} → IsTold kept told → {inner : Readers S} → ListsTell kept told inner → (shape : Shape) → Tells kept told (suffix_step inner shape)
unfolding suffix_step
suffix_step_tells is inner shape state ahead =
    if_in (is_punct punct.LEFT_PARENTHESIS (kind_ahead ahead)) (list_step_tells is inner shape state ahead) (
    if_in (is_punct punct.LEFT_BRACKET (kind_ahead ahead)) (gone_tells is false shape state ahead) (
    if_in (is_cv_word (kind_ahead ahead) && shape.takes_cv) (next_in is (More shape) state ahead) (
    if_in (is_keyword keyword.THROW (kind_ahead ahead) && shape.takes_cv) (past_in is (exceptions_step_tells is shape state (behind ahead))) (
    if_in (is_punct punct.RIGHT_PARENTHESIS (kind_ahead ahead) && not (shape.brackets == 0)) (next_in is (More (record { brackets = shape.brackets - 1; takes_cv = false })) state ahead) (same_in is (Done (shape.brackets == 0)) state ahead)))))

suffixes_tell : {S : Type 0} {kept : S → S → Type 0} {told : S → Ahead → Stopped → Type 0} → IsTold kept told → {inner : Readers S} → ListsTell kept told inner → (shape : Shape) → Tells kept told (suffixes_passed inner shape)
unfolding suffixes_passed
suffixes_tell is {inner = i} inner shape state ahead = repeat_tells is (suffix_step i) give_unclosed (suffix_step_tells is inner) (λ shape. give_in is false) (count_ahead ahead) shape state ahead

closing_step_tells : {S : Type 0} {kept : S → S → Type 0} {told : S → Ahead → Stopped → Type 0} → IsTold kept told → {inner : Readers S} → ListsTell kept told inner → (shape : Shape) → Tells kept told (closing_step inner shape)
unfolding closing_step
closing_step_tells is inner shape state ahead = if_in _ (same_in is _ state ahead) (suffix_step_tells is inner shape state ahead)

closed_tells : {S : Type 0} {kept : S → S → Type 0} {told : S → Ahead → Stopped → Type 0} → IsTold kept told → {inner : Readers S} → ListsTell kept told inner → (shape : Shape) → Tells kept told (closed_passed inner shape)
unfolding closed_passed
closed_tells is {inner = i} inner shape state ahead = repeat_tells is (closing_step i) give_unclosed (closing_step_tells is inner) (λ shape. give_in is false) (count_ahead ahead) shape state ahead

-- ---- what a declaration goes on with

bound_step_tells : {S : Type 0} {kept : S → S → Type 0} {told : S → Ahead → Stopped → Type 0} → IsTold kept told → (so_far : Unit {0}) → Tells kept told (bound_step {S = S} so_far)
unfolding bound_step
bound_step_tells is so_far state ahead = if_in _ (then_in is (tokens_in is (brackets_tell unit_is_told) state ahead) (λ end. give_in is (More tt))) (same_in is _ state ahead)

bounds_tell : {S : Type 0} {kept : S → S → Type 0} {told : S → Ahead → Stopped → Type 0} → IsTold kept told → Tells kept told (bounds_passed {S = S})
unfolding bounds_passed
bounds_tell is state ahead = repeat_tells is bound_step give_false (bound_step_tells is) (λ so_far. give_in is false) (count_ahead ahead) tt state ahead

bounded_tells : {S : Type 0} {kept : S → S → Type 0} {told : S → Ahead → Stopped → Type 0} → IsTold kept told → (is_closed : Bool) → Tells kept told (bounded_by {S = S} is_closed)
bounded_tells is true = tokens_in is (bounds_tell unit_is_told)
bounded_tells is false = give_in is false

declared_by_tells : {S : Type 0} {kept : S → S → Type 0} {told : S → Ahead → Stopped → Type 0} → IsTold kept told → {inner : Readers S} → ListsTell kept told inner → (name : Option Shape) → Tells kept told (declared_by inner name)
declared_by_tells is inner None state ahead = give_in is false state ahead
declared_by_tells is inner (Some shape) state ahead = then_in is (closed_tells is inner shape state ahead) (bounded_tells is)

declarator_begins_tells : {S : Type 0} {kept : S → S → Type 0} {told : S → Ahead → Stopped → Type 0} → IsTold kept told → {inner : Readers S} → ListsTell kept told inner → Tells kept told (declarator_begins inner)
unfolding declarator_begins
declarator_begins_tells is inner state ahead = then_in is (tokens_in is (name_tells unit_is_told) state ahead) (declared_by_tells is inner)

-- ---- statements

specified_tells : {S : Type 0} {kept : S → S → Type 0} {told : S → Ahead → Stopped → Type 0} → IsTold kept told → {inner : Readers S} → ListsTell kept told inner → (run : Run) → Tells kept told (specified_by inner run)
specified_tells is inner no_type state ahead = same_in is false state ahead
specified_tells is inner a_type state ahead = declarator_begins_tells is inner state ahead
specified_tells is inner surely state ahead = same_in is _ state ahead

specifiers_begin_tells : {S : Type 0} {kept : S → S → Type 0} {told : S → Ahead → Stopped → Type 0} → IsTold kept told → {asks : Kinds S} → NamesTell kept told asks → {inner : Readers S} → ListsTell kept told inner → Tells kept told (specifiers_begin asks inner)
unfolding specifiers_begin
specifiers_begin_tells is asks inner state ahead = then_in is (run_tells is asks state ahead) (specified_tells is inner)

is_declaration_tells : {S : Type 0} {kept : S → S → Type 0} {told : S → Ahead → Stopped → Type 0} → IsTold kept told → {asks : Kinds S} → NamesTell kept told asks → {inner : Readers S} → ListsTell kept told inner → Tells kept told (is_declaration asks inner)
unfolding is_declaration
is_declaration_tells is asks inner state ahead = if_in (begins_declaration (kind_ahead ahead)) (same_in is true state ahead) (returned_in ahead (specifiers_begin_tells is asks inner state ahead))

head_of_tells : {S : Type 0} {kept : S → S → Type 0} {told : S → Ahead → Stopped → Type 0} → IsTold kept told → (declares : Bool) → Tells kept told (head_of {S = S} declares)
head_of_tells is true = give_in is head.Declaration
head_of_tells is false = give_in is head.Expression

pub head_tells : {S : Type 0} {kept : S → S → Type 0} {told : S → Ahead → Stopped → Type 0} → IsTold kept told → {asks : Kinds S} → NamesTell kept told asks → {inner : Readers S} → ListsTell kept told inner → Tells kept told (head_at asks inner)
unfolding head_at
head_tells is asks inner state ahead =
    if_in (is_keyword keyword.USING (kind_ahead ahead)) (same_in is head.Using state ahead) (
    if_in (is_keyword keyword.NAMESPACE (kind_ahead ahead)) (same_in is head.Namespace state ahead) (
    if_in (is_name (kind_ahead ahead) && is_punct punct.COLON (kind_ahead (behind ahead))) (same_in is head.Label state ahead) (then_in is (is_declaration_tells is asks inner state ahead) (head_of_tells is))))

-- ---- conditions

type_word_tells : {S : Type 0} {kept : S → S → Type 0} {told : S → Ahead → Stopped → Type 0} → IsTold kept told → (so_far : Unit {0}) → Tells kept told (type_word_step {S = S} so_far)
unfolding type_word_step
type_word_tells is so_far state ahead = if_in (is_no_type_word (kind_ahead ahead)) (same_in is _ state ahead) (next_in is _ state ahead)

types_alone_tell : {S : Type 0} {kept : S → S → Type 0} {told : S → Ahead → Stopped → Type 0} → IsTold kept told → (count : ℕ) → Tells kept told (types_alone {S = S} count)
unfolding types_alone
types_alone_tell is count = repeat_tells is type_word_step give_true (type_word_tells is) (λ so_far. give_in is true) count tt

initialized_tells : {S : Type 0} {kept : S → S → Type 0} {told : S → Ahead → Stopped → Type 0} → IsTold kept told → (is_whole : Bool) → Tells kept told (initialized_by {S = S} is_whole)
initialized_tells is true state ahead = same_in is _ state ahead
initialized_tells is false state ahead = same_in is false state ahead

named_tells : {S : Type 0} {kept : S → S → Type 0} {told : S → Ahead → Stopped → Type 0} → IsTold kept told → {inner : Readers S} → ListsTell kept told inner → (name : Option Shape) → Tells kept told (named_by inner name)
named_tells is inner None state ahead = give_in is false state ahead
named_tells is inner (Some shape) state ahead = then_in is (suffixes_tell is inner shape state ahead) (initialized_tells is)

follows_tells : {S : Type 0} {kept : S → S → Type 0} {told : S → Ahead → Stopped → Type 0} → IsTold kept told → {inner : Readers S} → ListsTell kept told inner → Tells kept told (initializer_follows inner)
unfolding initializer_follows
follows_tells is inner state ahead = then_in is (tokens_in is (name_tells unit_is_told) state ahead) (named_tells is inner)

typed_tells : {S : Type 0} {kept : S → S → Type 0} {told : S → Ahead → Stopped → Type 0} → IsTold kept told → {inner : Readers S} → ListsTell kept told inner → (run : Run) (are_types : Bool) → Tells kept told (typed_by inner run are_types)
typed_tells is inner run false state ahead = same_in is false state ahead
typed_tells is inner no_type true state ahead = same_in is false state ahead
typed_tells is inner a_type true state ahead = follows_tells is inner state ahead
typed_tells is inner surely true state ahead = same_in is _ state ahead

-- tokens that are read again say nothing of declarations
again_tells : {S A : Type 0} {kept : S → S → Type 0} {told : S → Ahead → Stopped → Type 0} → IsTold kept told → {read : Reads (Unit {0}) A} → Tells Always Quietly read → (from : Ahead) → Tells kept told (look_from from (tokens {S = S} read))
again_tells {S = S} {A = A} {kept = kept} {told = told} is tells from state ahead = by (tells tt from)
  where
    by : {r : Answer (Got (Unit {0}) A)} → ToldIn Always Quietly tt from r → ToldIn kept told state ahead (returned ahead (beside state r))
    by (tells_read one keeps stands) = tells_read (record { value = one.value; state = state; rest = ahead }) (is.keeps.same state) (whole_stands ahead.tokens)
    by (tells_stop why quiet) = tells_stop why (is.quiet state ahead why quiet)

conditioned_tells : {S : Type 0} {kept : S → S → Type 0} {told : S → Ahead → Stopped → Type 0} → IsTold kept told → {inner : Readers S} → ListsTell kept told inner → (from : Ahead) (run : Run) → Tells kept told (conditioned_by inner from run)
conditioned_tells is inner from run state ahead = then_in is (again_tells is (types_alone_tell unit_is_told (count_ahead from - count_ahead ahead)) from state ahead) (typed_tells is inner run)

condition_begins_tells : {S : Type 0} {kept : S → S → Type 0} {told : S → Ahead → Stopped → Type 0} → IsTold kept told → {asks : Kinds S} → NamesTell kept told asks → {inner : Readers S} → ListsTell kept told inner → Tells kept told (condition_begins asks inner)
unfolding condition_begins
condition_begins_tells is asks inner state ahead = then_in is (run_tells is asks state ahead) (conditioned_tells is inner ahead)

pub declared_condition_tells : {S : Type 0} {kept : S → S → Type 0} {told : S → Ahead → Stopped → Type 0} → IsTold kept told → {asks : Kinds S} → NamesTell kept told asks → {inner : Readers S} → ListsTell kept told inner → Tells kept told (is_declared_condition asks inner)
unfolding is_declared_condition
declared_condition_tells is asks inner state ahead = returned_in ahead (condition_begins_tells is asks inner state ahead)
