-- What the readers of primary expressions keep of the state, and what stops them.
use Rattle.std.proofs.Common.{◌≡◌, refl}
use Rattle.std.specs.Prelude.{Bool, true, false, if◌then◌else◌, ◌||◌, ◌==◌, List, [], ◌∷◌, ◌++◌, Option, Some, None}
use Rattle.cxx_model.specs.declared.base.Base.{Base}
use Rattle.cxx_model.specs.declared.keyword.TheConstants as keyword
use Rattle.cxx_model.specs.declared.limits.TheConstants as limits
use Rattle.cxx_model.specs.declared.punct.TheConstants as punct
use Rattle.cxx_model.specs.declared.tree.Kind.{Kind}
use Rattle.cxx_model.specs.declared.tree.Kind.TheVariants as kind
use Rattle.cxx_model.specs.Stops.{Stopped}
use Rattle.cxx_model.specs.Types.Trees.{CxxType, fundamental}
use Rattle.cxx_phrases.specs.declared.level.Level.TheVariants as level
use Rattle.cxx_phrases.specs.Arguments.{argument_ended, argument_step, arguments_over, some_arguments, arguments_behind, arguments_at}
use Rattle.cxx_phrases.specs.Forms.{literal_tree, this_tree, parenthesis_tree, functional_tree, cast_tree}
use Rattle.cxx_phrases.specs.Operators.{is_literal, is_cast_word, is_this, base_of_kind, begins_expression}
use Rattle.cxx_phrases.specs.Phrases.{Phrases, Inner}
use Rattle.cxx_phrases.specs.Primary.{literal_part, this_part, name_at, called_at, named_call, value_name_at, functional_cast, functional_at, type_name_at, named_by, named_at, word_at, cast_opened, cast_closed, cast_word_at, parenthesis_at, word_by, primary_at}
use Rattle.cxx_reading.specs.Reads.{Ahead, More, Done, ask, got, then_read, kind_ahead, word_ahead, behind}
use Rattle.cxx_reading.specs.Tokens.{begins_name, behind_name, is_punct, is_keyword, is_whole_name, kind_of_name, path_ahead}
use Rattle.cxx_reading.specs.Trees.{CxxTree}
use Rattle.cxx_language_laws.specs.Told.{EndsIn, IsCalledSo}
use Rattle.cxx_language_laws.proofs.PhrasesTell.{PhrasesTell, brackets_of, InnerTell, asked_in}
use Rattle.cxx_language_laws.proofs.Tells.{IsTold, ToldIn, Tells, quiet_in, if_in, when_in, past_in, then_in, then_from, from_in, ask_from, ask_in, next_in, repeat_tells, taken_in, looked_in, punct_in, give_in, tokens_in, unit_is_told, whole_stands, ends_later, name_stands, name_told, path_then}
use Rattle.cxx_language_laws.proofs.TellsSyntax.{no_expression_tells}

-- ---- arguments

argument_ended_tells : {S : Type 0} {kept : S → S → Type 0} {told : S → Ahead → Stopped → Type 0} → IsTold kept told → (so_far : List CxxTree) (tree : CxxTree) → Tells kept told (argument_ended {S = S} so_far tree)
unfolding argument_ended
argument_ended_tells is so_far tree state ahead = if_in (is_punct punct.COMMA (kind_ahead ahead)) (next_in is (More (so_far ++ tree ∷ [])) state ahead) (if_in (is_punct punct.RIGHT_PARENTHESIS (kind_ahead ahead)) (next_in is (Done (so_far ++ tree ∷ [])) state ahead) (quiet_in is refl))

argument_step_tells : {S : Type 0} {kept : S → S → Type 0} {told : S → Ahead → Stopped → Type 0} → IsTold kept told → {inner : Inner S} → InnerTell kept told inner → (so_far : List CxxTree) → Tells kept told (argument_step inner so_far)
unfolding argument_step
argument_step_tells is inner so_far state ahead = then_in is (inner.expression level.Assignment state ahead) (argument_ended_tells is so_far)

arguments_over_tells : {A : Type 0} → {S : Type 0} {kept : S → S → Type 0} {told : S → Ahead → Stopped → Type 0} → IsTold kept told → (so_far : List CxxTree) → Tells kept told (arguments_over {S = S} {A = A} so_far)
unfolding arguments_over
arguments_over_tells is so_far state ahead = if_in (begins_expression (kind_ahead ahead) || is_keyword keyword.THROW (kind_ahead ahead)) (quiet_in is refl) (quiet_in is refl)

pub some_arguments_tell : {S : Type 0} {kept : S → S → Type 0} {told : S → Ahead → Stopped → Type 0} → IsTold kept told → {inner : Inner S} → InnerTell kept told inner → Tells kept told (some_arguments inner)
unfolding some_arguments
some_arguments_tell is {inner = i} inner = repeat_tells is (argument_step i) arguments_over (argument_step_tells is inner) (arguments_over_tells is) limits.MOST_ARGUMENTS []

arguments_behind_tell : {S : Type 0} {kept : S → S → Type 0} {told : S → Ahead → Stopped → Type 0} → IsTold kept told → {inner : Inner S} → InnerTell kept told inner → Tells kept told (arguments_behind inner)
unfolding arguments_behind
arguments_behind_tell is inner state ahead = if_in (is_punct punct.RIGHT_PARENTHESIS (kind_ahead ahead)) (next_in is [] state ahead) (some_arguments_tell is inner state ahead)

pub arguments_tell : {S : Type 0} {kept : S → S → Type 0} {told : S → Ahead → Stopped → Type 0} → IsTold kept told → {asks : Phrases S} {inner : Inner S} → PhrasesTell kept told asks inner → InnerTell kept told inner → Tells kept told (arguments_at asks inner)
unfolding arguments_at
arguments_tell is {asks = a} asks inner state ahead = if_in (a.room == 0) (quiet_in is refl) (past_in is (arguments_behind_tell is inner state (behind ahead)))

-- ---- literals

literal_part_tells : {S : Type 0} {kept : S → S → Type 0} {told : S → Ahead → Stopped → Type 0} → IsTold kept told → {asks : Phrases S} {inner : Inner S} → PhrasesTell kept told asks inner → InnerTell kept told inner → Tells kept told (literal_part asks)
unfolding literal_part
literal_part_tells is asks inner state ahead = then_in is (looked_in is state ahead) (λ from state ahead. then_in is (taken_in is state ahead) (λ token state ahead. then_in is (looked_in is state ahead) (λ to state ahead. ask_in ahead (asks.whole (literal_tree from to) refl state ahead))))

-- 9.3.2
this_part_tells : {S : Type 0} {kept : S → S → Type 0} {told : S → Ahead → Stopped → Type 0} → IsTold kept told → {asks : Phrases S} {inner : Inner S} → PhrasesTell kept told asks inner → InnerTell kept told inner → Tells kept told (this_part asks)
unfolding this_part
this_part_tells is asks inner state ahead = then_in is (looked_in is state ahead) (λ from state ahead. then_in is (taken_in is state ahead) (λ token state ahead. then_in is (looked_in is state ahead) (λ to state ahead. ask_in ahead (asks.whole (this_tree from to) refl state ahead))))

-- ---- names

-- a name is ahead
name_tells : {S : Type 0} {kept : S → S → Type 0} {told : S → Ahead → Stopped → Type 0} → IsTold kept told → {asks : Phrases S} {inner : Inner S} → PhrasesTell kept told asks inner → InnerTell kept told inner → (state : S) (ahead : Ahead) → begins_name ahead ≡ true → ToldIn kept told state ahead (name_at asks state ahead)
unfolding name_at
name_tells is asks inner state ahead begins = path_then is _ state ahead (λ whole. ask_from (behind_name ahead) (name_stands ahead) (asks.name state ahead begins whole))

-- behind a name that is ahead the arguments begin
pub called_tells : {S : Type 0} {kept : S → S → Type 0} {told : S → Ahead → Stopped → Type 0} → IsTold kept told → {asks : Phrases S} {inner : Inner S} → PhrasesTell kept told asks inner → InnerTell kept told inner → (state : S) (ahead opened : Ahead) (is_open : Bool) (from named : Ahead) → EndsIn ahead.tokens named.tokens → EndsIn (behind_name named).tokens opened.tokens → begins_name named ≡ true → is_whole_name named ≡ true → IsCalledSo ahead named opened is_open
    → ToldIn kept told state ahead (called_at asks inner (brackets_of is_open) from (path_ahead named) state opened)
unfolding called_at
called_tells is asks inner state ahead opened is_open from named stands follows begins whole so =
    then_from _ (from_in is state state ahead opened (is.keeps.same state) (ends_later ahead.tokens named.tokens opened.tokens stands (ends_later named.tokens (behind_name named).tokens opened.tokens (name_stands named) follows)) (arguments_tell is asks inner state opened))
    (λ one lists keeps ends. ask_from one.rest ends (asks.call state ahead (record { named = named; stands = stands; begins = begins; whole = whole; opened = opened; follows = follows; is_open = is_open; so = so; arguments = one.value; at = one.state; rest = one.rest; lists = lists }) keeps from))

named_call_tells : {S : Type 0} {kept : S → S → Type 0} {told : S → Ahead → Stopped → Type 0} → IsTold kept told → {asks : Phrases S} {inner : Inner S} → PhrasesTell kept told asks inner → InnerTell kept told inner → (state : S) (ahead : Ahead) → begins_name ahead ≡ true → ToldIn kept told state ahead (named_call asks inner state ahead)
unfolding named_call
named_call_tells is asks inner state ahead begins = path_then is _ state ahead (λ whole. called_tells is asks inner state ahead (behind_name ahead) true ahead ahead (whole_stands ahead.tokens) (whole_stands (behind_name ahead).tokens) begins whole (refl, refl))

value_name_tells : {S : Type 0} {kept : S → S → Type 0} {told : S → Ahead → Stopped → Type 0} → IsTold kept told → {asks : Phrases S} {inner : Inner S} → PhrasesTell kept told asks inner → InnerTell kept told inner → (state : S) (ahead : Ahead) → begins_name ahead ≡ true → ToldIn kept told state ahead (value_name_at asks inner state ahead)
unfolding value_name_at
value_name_tells is asks inner state ahead begins = if_in (is_punct punct.LEFT_PARENTHESIS (kind_ahead (behind_name ahead))) (named_call_tells is asks inner state ahead begins) (name_tells is asks inner state ahead begins)

functional_cast_tells : {S : Type 0} {kept : S → S → Type 0} {told : S → Ahead → Stopped → Type 0} → IsTold kept told → {asks : Phrases S} {inner : Inner S} → PhrasesTell kept told asks inner → InnerTell kept told inner → (from : Ahead) (of : CxxType) → Tells kept told (functional_cast asks inner from of)
unfolding functional_cast
functional_cast_tells is asks inner from of state ahead = then_in is (arguments_tell is asks inner state ahead) (λ arguments state ahead. then_in is (looked_in is state ahead) (λ to state ahead. ask_in ahead (asks.whole (functional_tree of arguments from to) refl state ahead)))

functional_tells : {S : Type 0} {kept : S → S → Type 0} {told : S → Ahead → Stopped → Type 0} → IsTold kept told → {asks : Phrases S} {inner : Inner S} → PhrasesTell kept told asks inner → InnerTell kept told inner → (from : Ahead) (of : CxxType) → Tells kept told (functional_at asks inner from of)
unfolding functional_at
functional_tells is asks inner from of state ahead = if_in (is_punct punct.LEFT_PARENTHESIS (kind_ahead ahead)) (functional_cast_tells is asks inner from of state ahead) (quiet_in is refl)

type_name_tells : {S : Type 0} {kept : S → S → Type 0} {told : S → Ahead → Stopped → Type 0} → IsTold kept told → {asks : Phrases S} {inner : Inner S} → PhrasesTell kept told asks inner → InnerTell kept told inner → Tells kept told (type_name_at asks inner)
unfolding type_name_at
type_name_tells is asks inner state ahead = then_in is (looked_in is state ahead) (λ from state ahead. then_in is (ask_in ahead (asks.type_named (path_ahead from) state ahead)) (λ of state ahead. then_in is (name_told is state ahead) (λ name. functional_tells is asks inner from of)))

named_by_tells : {S : Type 0} {kept : S → S → Type 0} {told : S → Ahead → Stopped → Type 0} → IsTold kept told → {asks : Phrases S} {inner : Inner S} → PhrasesTell kept told asks inner → InnerTell kept told inner → (kind : Kind) (state : S) (ahead : Ahead) → begins_name ahead ≡ true → ToldIn kept told state ahead (named_by asks inner kind state ahead)
named_by_tells is asks inner kind.OfType state ahead begins = type_name_tells is asks inner state ahead
named_by_tells is asks inner kind.OfTemplate state ahead begins = value_name_tells is asks inner state ahead begins
named_by_tells is asks inner kind.OfBoth state ahead begins = value_name_tells is asks inner state ahead begins
named_by_tells is asks inner kind.Space state ahead begins = quiet_in is refl
named_by_tells is asks inner kind.Value state ahead begins = value_name_tells is asks inner state ahead begins

named_tells : {S : Type 0} {kept : S → S → Type 0} {told : S → Ahead → Stopped → Type 0} → IsTold kept told → {asks : Phrases S} {inner : Inner S} → PhrasesTell kept told asks inner → InnerTell kept told inner → (state : S) (ahead : Ahead) → begins_name ahead ≡ true → ToldIn kept told state ahead (named_at asks inner state ahead)
unfolding named_at kind_of_name
named_tells {kept = kept} {told = told} is {asks = a} {inner = i} asks inner state ahead begins = by (is_whole_name ahead)
  where
    by : (b : Bool) → ToldIn kept told state ahead (then_read (if b then ask (a.kind (path_ahead ahead)) state ahead else got kind.Value state ahead) (named_by a i))
    by true = asked_in is _ ahead (asks.kind (path_ahead ahead) state ahead) (λ kind state. named_by_tells is asks inner kind state ahead begins)
    by false = named_by_tells is asks inner kind.Value state ahead begins

word_tells : {S : Type 0} {kept : S → S → Type 0} {told : S → Ahead → Stopped → Type 0} → IsTold kept told → {asks : Phrases S} {inner : Inner S} → PhrasesTell kept told asks inner → InnerTell kept told inner → (base : Base) → Tells kept told (word_at asks inner base)
unfolding word_at
word_tells is asks inner base state ahead = then_in is (looked_in is state ahead) (λ from state ahead. then_in is (taken_in is state ahead) (λ word. functional_tells is asks inner from (fundamental base)))

-- ---- casts by a word

cast_opened_tells : {S : Type 0} {kept : S → S → Type 0} {told : S → Ahead → Stopped → Type 0} → IsTold kept told → {asks : Phrases S} {inner : Inner S} → PhrasesTell kept told asks inner → InnerTell kept told inner → Tells kept told (cast_opened asks)
unfolding cast_opened
cast_opened_tells is asks inner state ahead = then_in is (taken_in is state ahead) (λ word state ahead. then_in is (tokens_in is (punct_in unit_is_told punct.LESS) state ahead) (λ less state ahead. then_in is (asks.type_id state ahead) (λ of state ahead. then_in is (tokens_in is (punct_in unit_is_told punct.GREATER) state ahead) (λ greater. give_in is of))))

cast_closed_tells : {S : Type 0} {kept : S → S → Type 0} {told : S → Ahead → Stopped → Type 0} → IsTold kept told → {asks : Phrases S} {inner : Inner S} → PhrasesTell kept told asks inner → InnerTell kept told inner → (from : Ahead) (of : CxxType × List CxxTree) → Tells kept told (cast_closed asks inner from of)
unfolding cast_closed
cast_closed_tells is asks inner from of state ahead = then_in is (tokens_in is (punct_in unit_is_told punct.LEFT_PARENTHESIS) state ahead) (λ opened state ahead. then_in is (inner.expression level.Whole state ahead) (λ operand state ahead. then_in is (tokens_in is (punct_in unit_is_told punct.RIGHT_PARENTHESIS) state ahead) (λ closed state ahead. then_in is (looked_in is state ahead) (λ to state ahead. ask_in ahead (asks.whole (cast_tree (word_ahead from) of operand from to) refl state ahead)))))

cast_word_tells : {S : Type 0} {kept : S → S → Type 0} {told : S → Ahead → Stopped → Type 0} → IsTold kept told → {asks : Phrases S} {inner : Inner S} → PhrasesTell kept told asks inner → InnerTell kept told inner → Tells kept told (cast_word_at asks inner)
unfolding cast_word_at
cast_word_tells is asks inner state ahead = then_in is (looked_in is state ahead) (λ from state ahead. then_in is (cast_opened_tells is asks inner state ahead) (cast_closed_tells is asks inner from))

-- ---- parentheses

pub parenthesis_tells : {S : Type 0} {kept : S → S → Type 0} {told : S → Ahead → Stopped → Type 0} → IsTold kept told → {asks : Phrases S} {inner : Inner S} → PhrasesTell kept told asks inner → InnerTell kept told inner → Tells kept told (parenthesis_at asks inner)
unfolding parenthesis_at
parenthesis_tells is asks inner state ahead = then_in is (looked_in is state ahead) (λ from state ahead. then_in is (taken_in is state ahead) (λ opened state ahead. then_in is (inner.expression level.Whole state ahead) (λ inside state ahead. then_in is (tokens_in is (punct_in unit_is_told punct.RIGHT_PARENTHESIS) state ahead) (λ closed state ahead. then_in is (looked_in is state ahead) (λ to state ahead. ask_in ahead (asks.whole (parenthesis_tree inside from to) refl state ahead))))))

-- ---- all of them

word_by_tells : {S : Type 0} {kept : S → S → Type 0} {told : S → Ahead → Stopped → Type 0} → IsTold kept told → {asks : Phrases S} {inner : Inner S} → PhrasesTell kept told asks inner → InnerTell kept told inner → (base : Option Base) → Tells kept told (word_by asks inner base)
word_by_tells is asks inner (Some base) state ahead = word_tells is asks inner base state ahead
word_by_tells is asks inner None state ahead = no_expression_tells is state ahead

pub primary_tells : {S : Type 0} {kept : S → S → Type 0} {told : S → Ahead → Stopped → Type 0} → IsTold kept told → {asks : Phrases S} {inner : Inner S} → PhrasesTell kept told asks inner → InnerTell kept told inner → Tells kept told (primary_at asks inner)
unfolding primary_at
primary_tells is asks inner state ahead =
    if_in (is_literal (kind_ahead ahead)) (literal_part_tells is asks inner state ahead) (
    when_in (begins_name ahead) (λ begins. named_tells is asks inner state ahead begins) (
    if_in (is_cast_word (kind_ahead ahead)) (cast_word_tells is asks inner state ahead) (
    if_in (is_this (kind_ahead ahead)) (this_part_tells is asks inner state ahead)
    (word_by_tells is asks inner (base_of_kind (kind_ahead ahead)) state ahead))))
