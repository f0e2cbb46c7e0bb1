-- What the readers of postfix and unary expressions and of casts keep of the state, and what stops them.
use Rattle.std.proofs.Common.{◌≡◌, inl, inr, refl, sym, ap, ◌∙◌}
use Rattle.std.specs.Prelude.{ℕ, Bool, true, false, not, ◌||◌, if◌then◌else◌, List, [], ◌∷◌, Option, Some, None, codes}
use Rattle.cxx_model.specs.declared.fault.FaultText.TheVariants as says
use Rattle.cxx_model.specs.declared.fault.LeftOut.TheVariants as form
use Rattle.cxx_model.specs.declared.keyword.TheConstants as keyword
use Rattle.cxx_model.specs.declared.place.Place.{Place}
use Rattle.cxx_model.specs.declared.punct.TheConstants as punct
use Rattle.cxx_model.specs.declared.tree.Kind.{Kind}
use Rattle.cxx_model.specs.declared.tree.Kind.TheVariants as kind
use Rattle.cxx_model.specs.Stops.{Answer, Stopped}
use Rattle.cxx_model.specs.Text.Lexemes.{Lexeme}
use Rattle.cxx_phrases.specs.declared.level.Level.TheVariants as level
use Rattle.cxx_phrases.specs.declared.shape.TypeShape.{TypeShape}
use Rattle.cxx_phrases.specs.declared.shape.TypeShape.TheVariants as shape
use Rattle.cxx_phrases.specs.Forms.{called_tree, member_tree, subscript_tree, step_tree, prefix_tree, size_tree, cast_tree}
use Rattle.cxx_phrases.specs.Operands.{call_step, subscript_step, step_step, selected_name, selected_step, postfix_step, postfixes_at, cast_at, parenthesis_part, cast_by, cast_or_parenthesis, called_part, called_by, called_or_not, bracket_by, bracket_at, prefix_at, size_at, primary_part, operand_at, sized_operand, sized_type, sized_by, sized_at}
use Rattle.cxx_phrases.specs.Operators.{is_prefix, is_step, operator_ahead}
use Rattle.cxx_phrases.specs.Phrases.{Phrases, Inner}
use Rattle.cxx_phrases.specs.Productions as phrase
use Rattle.cxx_reading.specs.Reads.{Ahead, Got, Reads, More, Done, ◌>>=◌, ask, fault_at, give, looked, then_read, beside, count_ahead, kind_ahead, place_ahead, behind}
use Rattle.cxx_reading.specs.Tokens.{begins_name, behind_name, is_name, is_punct, is_keyword, is_whole_name, part_of, part_then, passed_from, passed_to, path_ahead, path_taken}
use Rattle.cxx_reading.specs.Trees.{CxxPath, CxxTree}
use Rattle.cxx_language_laws.specs.Told.{EndsIn, IsPostfix, is_primary, is_bracketed, is_called, goes_on, IsSelector}
use Rattle.cxx_language_laws.proofs.PhrasesTell.{PhrasesTell, InnerTell, asked_in}
use Rattle.cxx_language_laws.proofs.Tells.{IsTold, ToldIn, Tells, quiet_in, if_in, when_in, past_in, then_in, then_from, from_in, ask_from, ask_in, same_in, repeat_holds, taken_in, looked_in, punct_in, give_in, returned_in, tokens_in, unit_is_told, behind_stands, ends_later, name_stands, path_from}
use Rattle.cxx_language_laws.proofs.TellsBrackets.{NameIn, stops_quietly, finds_none, finds_name, called_name_finds, begins_cast_tells}
use Rattle.cxx_language_laws.proofs.TellsPrimary.{arguments_tell, called_tells, parenthesis_tells, primary_tells}

-- ---- postfix expressions

call_step_tells : {S : Type 0} {kept : S → S → Type 0} {told : S → Ahead → Stopped → Type 0} → IsTold kept told → {asks : Phrases S} {inner : Inner S} → PhrasesTell kept told asks inner → InnerTell kept told inner → (from : Ahead) (function : CxxTree) (state : S) (ahead : Ahead) → IsPostfix asks inner from function state ahead → is_punct punct.LEFT_PARENTHESIS (kind_ahead ahead) ≡ true → ToldIn kept told state ahead (call_step asks inner from function state ahead)
unfolding call_step
call_step_tells is {asks = a} asks inner from function state ahead reads opened =
    then_from (λ arguments. looked >>= λ to. ask (a.whole (called_tree function arguments from to)) >>= λ tree. give (More tree)) (arguments_tell is asks inner state ahead) (λ one lists keeps ends.
    then_in is (ask_from one.rest ends (asks.through state ahead (record { from = from; callee = function; reads = reads; opened = opened; arguments = one.value; at = one.state; rest = one.rest; lists = lists }) keeps)) (λ tree. give_in is (More tree)))

subscript_step_tells : {S : Type 0} {kept : S → S → Type 0} {told : S → Ahead → Stopped → Type 0} → IsTold kept told → {asks : Phrases S} {inner : Inner S} → PhrasesTell kept told asks inner → InnerTell kept told inner → (from : Ahead) (object : CxxTree) → Tells kept told (subscript_step asks inner from object)
unfolding subscript_step
subscript_step_tells is asks inner from object state ahead = then_in is (taken_in is state ahead) (λ place state ahead. then_in is (inner.expression level.Whole state ahead) (λ index state ahead. then_in is (tokens_in is (punct_in unit_is_told punct.RIGHT_BRACKET) state ahead) (λ closed state ahead. then_in is (looked_in is state ahead) (λ to state ahead. then_in is (ask_in ahead (asks.whole (subscript_tree place object index from to) refl state ahead)) (λ tree. give_in is (More tree))))))

step_step_tells : {S : Type 0} {kept : S → S → Type 0} {told : S → Ahead → Stopped → Type 0} → IsTold kept told → {asks : Phrases S} {inner : Inner S} → PhrasesTell kept told asks inner → InnerTell kept told inner → (from : Ahead) (operand : CxxTree) → Tells kept told (step_step asks from operand)
unfolding step_step
step_step_tells is asks inner from operand state ahead = then_in is (looked_in is state ahead) (λ at state ahead. then_in is (taken_in is state ahead) (λ place state ahead. then_in is (looked_in is state ahead) (λ to state ahead. then_in is (ask_in ahead (asks.whole (step_tree (operator_ahead at) place operand from to) refl state ahead)) (λ tree. give_in is (More tree)))))

-- a name that is whole begins
none_whole : (ahead : Ahead) → begins_name ahead ≡ false → is_whole_name ahead ≡ true → ⊥
unfolding passed_from is_name is_punct
none_whole ahead none whole = by ahead.last ahead.tokens none whole
  where
    no_name : (last : Place) (token : Lexeme) (tokens : List Lexeme) (named scoped : Bool) → is_name token.kind ≡ named → is_punct punct.SCOPE token.kind ≡ scoped → (named || scoped) ≡ false → (passed_from (not (is_punct punct.SCOPE token.kind)) last (token ∷ tokens)).is_whole ≡ false
    no_name last token tokens true scoped is_so so none = absurd cc
    no_name last token tokens false true is_so so none = absurd cc
    no_name last token tokens false false is_so so none = ap (λ (b : Bool). (passed_from (not b) last (token ∷ tokens)).is_whole) so ∙ ap (λ (b : Bool). (if b then part_then (part_of token) (passed_from false token.place tokens) else passed_to last (token ∷ tokens) false).is_whole) is_so

    apart : false ≡ true → ⊥
    apart e = cc

    by : (last : Place) (tokens : List Lexeme) → begins_name (record { last = last; tokens = tokens }) ≡ false → is_whole_name (record { last = last; tokens = tokens }) ≡ true → ⊥
    by last [] none whole = apart whole
    by last (token ∷ tokens) none whole = apart (sym (no_name last token tokens (is_name token.kind) (is_punct punct.SCOPE token.kind) refl refl none) ∙ whole)

-- what follows the name of a member
selected_then : {S B : Type 0} {kept : S → S → Type 0} {told : S → Ahead → Stopped → Type 0} → IsTold kept told → (go : CxxPath → Reads S B) (state : S) (from ahead : Ahead) → EndsIn from.tokens ahead.tokens → (begins_name ahead ≡ true → is_whole_name ahead ≡ true → ToldIn kept told state from (go (path_ahead ahead) state (behind_name ahead))) → ToldIn kept told state from (then_read (selected_name state ahead) go)
unfolding selected_name
selected_then {S = S} {B = B} {kept = kept} {told = told} is go state from ahead stands tells = by (is_punct punct.TILDE (kind_ahead ahead)) (begins_name ahead) refl
  where
    by : (tilde begins : Bool) → begins_name ahead ≡ begins → ToldIn kept told state from (then_read (if tilde then fault_at (place_ahead ahead) (says.LeftOut form.DestructorCall) state ahead else path_taken state ahead) go)
    by true begins b = quiet_in is refl
    by false true b = path_from is go state from ahead stands (λ whole. tells b whole)
    by false false b = path_from is go state from ahead stands (λ whole. absurd (none_whole ahead b whole))

selected_step_tells : {S : Type 0} {kept : S → S → Type 0} {told : S → Ahead → Stopped → Type 0} → IsTold kept told → {asks : Phrases S} {inner : Inner S} → PhrasesTell kept told asks inner → (number : ℕ) (from : Ahead) (object : CxxTree) (state : S) (ahead : Ahead) → IsPostfix asks inner from object state ahead → IsSelector number ahead → ToldIn kept told state ahead (selected_step asks number from object state ahead)
unfolding selected_step
selected_step_tells is {asks = a} asks number from object state ahead reads selects =
    selected_then is (λ path. looked >>= λ to. ask (a.whole (member_tree number (place_ahead ahead) path object from to)) >>= λ tree. give (More tree)) state ahead (behind ahead) (behind_stands ahead) (λ begins whole.
    then_in is (ask_from (behind_name (behind ahead)) (ends_later ahead.tokens (behind ahead).tokens (behind_name (behind ahead)).tokens (behind_stands ahead) (name_stands (behind ahead))) (asks.member state ahead (record { from = from; object = object; reads = reads; number = number; selects = selects; begins = begins; whole = whole }))) (λ tree. give_in is (More tree)))

postfix_step_tells : {S : Type 0} {kept : S → S → Type 0} {told : S → Ahead → Stopped → Type 0} → IsTold kept told → {asks : Phrases S} {inner : Inner S} → PhrasesTell kept told asks inner → InnerTell kept told inner → (from : Ahead) (so_far : CxxTree) (state : S) (ahead : Ahead) → IsPostfix asks inner from so_far state ahead → ToldIn kept told state ahead (postfix_step asks inner from so_far state ahead)
unfolding postfix_step
postfix_step_tells is asks inner from so_far state ahead reads =
    when_in (is_punct punct.LEFT_PARENTHESIS (kind_ahead ahead)) (λ opened. call_step_tells is asks inner from so_far state ahead reads opened) (
    if_in (is_punct punct.LEFT_BRACKET (kind_ahead ahead)) (subscript_step_tells is asks inner from so_far state ahead) (
    if_in (is_step (kind_ahead ahead)) (step_step_tells is asks inner from so_far state ahead) (
    when_in (is_punct punct.DOT (kind_ahead ahead)) (λ dot. selected_step_tells is asks phrase.member from so_far state ahead reads (inl (dot, refl))) (
    when_in (is_punct punct.ARROW (kind_ahead ahead)) (λ arrow. selected_step_tells is asks phrase.arrow from so_far state ahead reads (inr (arrow, refl)))
    (same_in is (Done so_far) state ahead)))))

pub postfixes_tell : {S : Type 0} {kept : S → S → Type 0} {told : S → Ahead → Stopped → Type 0} → IsTold kept told → {asks : Phrases S} {inner : Inner S} → PhrasesTell kept told asks inner → InnerTell kept told inner → (from : Ahead) (first : CxxTree) (state : S) (ahead : Ahead) → IsPostfix asks inner from first state ahead → ToldIn kept told state ahead (postfixes_at asks inner from first state ahead)
unfolding postfixes_at
postfixes_tell is {asks = a} {inner = i} asks inner from first state ahead reads =
    repeat_holds is (IsPostfix a i from) (postfix_step a i from) give (postfix_step_tells is asks inner from) (λ so_far next before at ahead rest so gives. goes_on before at so_far next ahead rest so gives) (give_in is) (count_ahead ahead) first state ahead reads

-- ---- brackets

cast_tells : {S : Type 0} {kept : S → S → Type 0} {told : S → Ahead → Stopped → Type 0} → IsTold kept told → {asks : Phrases S} {inner : Inner S} → PhrasesTell kept told asks inner → InnerTell kept told inner → Tells kept told (cast_at asks inner)
unfolding cast_at
cast_tells is asks inner state ahead = then_in is (looked_in is state ahead) (λ from state ahead. then_in is (taken_in is state ahead) (λ opened state ahead. then_in is (inner.type_id state ahead) (λ of state ahead. then_in is (tokens_in is (punct_in unit_is_told punct.RIGHT_PARENTHESIS) state ahead) (λ closed state ahead. then_in is (inner.expression level.Operand state ahead) (λ operand state ahead. then_in is (looked_in is state ahead) (λ to state ahead. ask_in ahead (asks.whole (cast_tree (codes "(") of operand from to) refl state ahead)))))))

parenthesis_part_tells : {S : Type 0} {kept : S → S → Type 0} {told : S → Ahead → Stopped → Type 0} → IsTold kept told → {asks : Phrases S} {inner : Inner S} → PhrasesTell kept told asks inner → InnerTell kept told inner → Tells kept told (parenthesis_part asks inner)
unfolding parenthesis_part
parenthesis_part_tells is asks inner state ahead = then_from _ (parenthesis_tells is asks inner state ahead) (λ one gives keeps stands. from_in is state one.state ahead one.rest keeps stands (postfixes_tell is asks inner ahead one.value one.state one.rest (is_bracketed state one.state one.value one.rest gives)))

cast_by_tells : {S : Type 0} {kept : S → S → Type 0} {told : S → Ahead → Stopped → Type 0} → IsTold kept told → {asks : Phrases S} {inner : Inner S} → PhrasesTell kept told asks inner → InnerTell kept told inner → (casts : Bool) → Tells kept told (cast_by asks inner casts)
cast_by_tells is asks inner true state ahead = cast_tells is asks inner state ahead
cast_by_tells is asks inner false state ahead = parenthesis_part_tells is asks inner state ahead

cast_or_parenthesis_tells : {S : Type 0} {kept : S → S → Type 0} {told : S → Ahead → Stopped → Type 0} → IsTold kept told → {asks : Phrases S} {inner : Inner S} → PhrasesTell kept told asks inner → InnerTell kept told inner → Tells kept told (cast_or_parenthesis asks inner)
unfolding cast_or_parenthesis
cast_or_parenthesis_tells is asks inner state ahead = then_in is (begins_cast_tells is inner state ahead) (cast_by_tells is asks inner)

-- a name that stands in brackets, with what is ahead of its arguments
called_part_tells : {S : Type 0} {kept : S → S → Type 0} {told : S → Ahead → Stopped → Type 0} → IsTold kept told → {asks : Phrases S} {inner : Inner S} → PhrasesTell kept told asks inner → InnerTell kept told inner → (state : S) (ahead rest : Ahead) (named : Ahead) → EndsIn ahead.tokens named.tokens → EndsIn (behind_name named).tokens rest.tokens → begins_name named ≡ true → is_whole_name named ≡ true → is_punct punct.LEFT_PARENTHESIS (kind_ahead ahead) ≡ true
    → ToldIn kept told state ahead (called_part asks inner ahead (path_ahead named) state rest)
unfolding called_part
called_part_tells is asks inner state ahead rest named stands follows begins whole opens = then_from _ (called_tells is asks inner state ahead rest false ahead named stands follows begins whole opens) (λ one gives keeps stands. from_in is state one.state ahead one.rest keeps stands (postfixes_tell is asks inner ahead one.value one.state one.rest (is_called state one.state (path_ahead named) rest one.value one.rest gives)))

called_by_tells : {S : Type 0} {kept : S → S → Type 0} {told : S → Ahead → Stopped → Type 0} → IsTold kept told → {asks : Phrases S} {inner : Inner S} → PhrasesTell kept told asks inner → InnerTell kept told inner → (kind : Kind) (state : S) (ahead rest : Ahead) (named : Ahead) → EndsIn ahead.tokens named.tokens → EndsIn (behind_name named).tokens rest.tokens → begins_name named ≡ true → is_whole_name named ≡ true → is_punct punct.LEFT_PARENTHESIS (kind_ahead ahead) ≡ true
    → ToldIn kept told state ahead (called_by asks inner ahead (path_ahead named) kind state rest)
called_by_tells is asks inner kind.OfType state ahead rest named stands follows begins whole opens = cast_or_parenthesis_tells is asks inner state ahead
called_by_tells is asks inner kind.OfTemplate state ahead rest named stands follows begins whole opens = called_part_tells is asks inner state ahead rest named stands follows begins whole opens
called_by_tells is asks inner kind.OfBoth state ahead rest named stands follows begins whole opens = called_part_tells is asks inner state ahead rest named stands follows begins whole opens
called_by_tells is asks inner kind.Space state ahead rest named stands follows begins whole opens = cast_or_parenthesis_tells is asks inner state ahead
called_by_tells is asks inner kind.Value state ahead rest named stands follows begins whole opens = called_part_tells is asks inner state ahead rest named stands follows begins whole opens

called_or_not_tells : {S : Type 0} {kept : S → S → Type 0} {told : S → Ahead → Stopped → Type 0} → IsTold kept told → {asks : Phrases S} {inner : Inner S} → PhrasesTell kept told asks inner → InnerTell kept told inner → (state : S) (ahead rest : Ahead) (named : Ahead) → EndsIn ahead.tokens named.tokens → EndsIn (behind_name named).tokens rest.tokens → begins_name named ≡ true → is_whole_name named ≡ true → is_punct punct.LEFT_PARENTHESIS (kind_ahead ahead) ≡ true
    → ToldIn kept told state ahead (called_or_not asks inner ahead (path_ahead named) state rest)
unfolding called_or_not
called_or_not_tells is asks inner state ahead rest named stands follows begins whole opens = asked_in is _ rest (asks.kind (path_ahead named) state ahead) (λ kind state. called_by_tells is asks inner kind state ahead rest named stands follows begins whole opens)

bracket_by_tells : {S : Type 0} {kept : S → S → Type 0} {told : S → Ahead → Stopped → Type 0} → IsTold kept told → {asks : Phrases S} {inner : Inner S} → PhrasesTell kept told asks inner → InnerTell kept told inner → (state : S) (ahead : Ahead) {r : Answer (Got (Unit {0}) (Option CxxPath))} → NameIn ahead r → is_punct punct.LEFT_PARENTHESIS (kind_ahead ahead) ≡ true → ToldIn kept told state ahead (then_read (beside state r) (bracket_by asks inner ahead))
bracket_by_tells is asks inner state ahead (stops_quietly why quiet) opens = quiet_in is quiet
bracket_by_tells is asks inner state ahead (finds_none rest) opens = cast_or_parenthesis_tells is asks inner state ahead
bracket_by_tells is asks inner state ahead (finds_name named rest stands follows begins whole) opens = called_or_not_tells is asks inner state ahead rest named stands follows begins whole opens

bracket_tells : {S : Type 0} {kept : S → S → Type 0} {told : S → Ahead → Stopped → Type 0} → IsTold kept told → {asks : Phrases S} {inner : Inner S} → PhrasesTell kept told asks inner → InnerTell kept told inner → (state : S) (ahead : Ahead) → is_punct punct.LEFT_PARENTHESIS (kind_ahead ahead) ≡ true → ToldIn kept told state ahead (bracket_at asks inner state ahead)
unfolding bracket_at
bracket_tells is {asks = a} asks inner state ahead opens = bracket_by_tells is asks inner state ahead (called_name_finds a.room ahead) opens

-- ---- unary expressions

prefix_tells : {S : Type 0} {kept : S → S → Type 0} {told : S → Ahead → Stopped → Type 0} → IsTold kept told → {asks : Phrases S} {inner : Inner S} → PhrasesTell kept told asks inner → InnerTell kept told inner → Tells kept told (prefix_at asks inner)
unfolding prefix_at
prefix_tells is asks inner state ahead = then_in is (looked_in is state ahead) (λ from state ahead. then_in is (taken_in is state ahead) (λ operator state ahead. then_in is (inner.expression level.Operand state ahead) (λ operand state ahead. then_in is (looked_in is state ahead) (λ to state ahead. ask_in ahead (asks.whole (prefix_tree (operator_ahead from) operand from to) refl state ahead)))))

size_tells : {S : Type 0} {kept : S → S → Type 0} {told : S → Ahead → Stopped → Type 0} → IsTold kept told → {asks : Phrases S} {inner : Inner S} → PhrasesTell kept told asks inner → InnerTell kept told inner → Tells kept told (size_at asks inner)
unfolding size_at
size_tells is asks inner state ahead = then_in is (looked_in is state ahead) (λ from state ahead. then_in is (taken_in is state ahead) (λ word state ahead. then_in is (inner.sized state ahead) (λ sized state ahead. then_in is (looked_in is state ahead) (λ to state ahead. ask_in ahead (asks.whole (size_tree sized from to) refl state ahead)))))

primary_part_tells : {S : Type 0} {kept : S → S → Type 0} {told : S → Ahead → Stopped → Type 0} → IsTold kept told → {asks : Phrases S} {inner : Inner S} → PhrasesTell kept told asks inner → InnerTell kept told inner → Tells kept told (primary_part asks inner)
unfolding primary_part
primary_part_tells is asks inner state ahead = then_from _ (primary_tells is asks inner state ahead) (λ one gives keeps stands. from_in is state one.state ahead one.rest keeps stands (postfixes_tell is asks inner ahead one.value one.state one.rest (is_primary state one.state one.value one.rest gives)))

pub operand_tells : {S : Type 0} {kept : S → S → Type 0} {told : S → Ahead → Stopped → Type 0} → IsTold kept told → {asks : Phrases S} {inner : Inner S} → PhrasesTell kept told asks inner → InnerTell kept told inner → Tells kept told (operand_at asks inner)
unfolding operand_at
operand_tells is asks inner state ahead =
    if_in (is_prefix (kind_ahead ahead)) (prefix_tells is asks inner state ahead) (
    if_in (is_keyword keyword.SIZEOF (kind_ahead ahead)) (size_tells is asks inner state ahead) (
    when_in (is_punct punct.LEFT_PARENTHESIS (kind_ahead ahead)) (bracket_tells is asks inner state ahead)
    (primary_part_tells is asks inner state ahead)))

-- ---- behind `sizeof`

sized_operand_tells : {S : Type 0} {kept : S → S → Type 0} {told : S → Ahead → Stopped → Type 0} → IsTold kept told → {asks : Phrases S} {inner : Inner S} → PhrasesTell kept told asks inner → InnerTell kept told inner → Tells kept told (sized_operand asks inner)
unfolding sized_operand
sized_operand_tells is asks inner state ahead = then_in is (operand_tells is asks inner state ahead) (λ operand. give_in is (None, operand ∷ []))

sized_type_tells : {S : Type 0} {kept : S → S → Type 0} {told : S → Ahead → Stopped → Type 0} → IsTold kept told → {inner : Inner S} → InnerTell kept told inner → Tells kept told (sized_type inner)
unfolding sized_type
sized_type_tells is inner state ahead = then_in is (taken_in is state ahead) (λ opened state ahead. then_in is (inner.type_id state ahead) (λ of state ahead. then_in is (tokens_in is (punct_in unit_is_told punct.RIGHT_PARENTHESIS) state ahead) (λ closed. give_in is (Some of.0, of.1))))

sized_by_tells : {S : Type 0} {kept : S → S → Type 0} {told : S → Ahead → Stopped → Type 0} → IsTold kept told → {asks : Phrases S} {inner : Inner S} → PhrasesTell kept told asks inner → InnerTell kept told inner → (found : TypeShape) → Tells kept told (sized_by asks inner found)
sized_by_tells is asks inner shape.NoType state ahead = sized_operand_tells is asks inner state ahead
sized_by_tells is asks inner shape.Closed state ahead = sized_type_tells is inner state ahead
sized_by_tells is asks inner shape.Surely state ahead = sized_type_tells is inner state ahead

pub sized_tells : {S : Type 0} {kept : S → S → Type 0} {told : S → Ahead → Stopped → Type 0} → IsTold kept told → {asks : Phrases S} {inner : Inner S} → PhrasesTell kept told asks inner → InnerTell kept told inner → Tells kept told (sized_at asks inner)
unfolding sized_at
sized_tells is asks inner state ahead =
    if_in (is_punct punct.LEFT_PARENTHESIS (kind_ahead ahead)) (then_in is (returned_in ahead (past_in is (inner.type_passed state (behind ahead)))) (sized_by_tells is asks inner))
    (sized_operand_tells is asks inner state ahead)
