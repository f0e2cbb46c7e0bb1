-- What the statements of a body keep of the state, and what stops them.
use Rattle.std.proofs.Common.{arith, ◌≡◌, ◌<◌, inr, refl}
use Rattle.std.specs.Prelude.{ℕ, zero, suc, ◌+◌, ◌==◌, Bool, true, false, if◌then◌else◌, nat_eq, length, [], ◌∷◌, Option, Some, None, Ok, Err}
use Rattle.cxx_model.specs.declared.base.Base.{Base}
use Rattle.cxx_model.specs.declared.facts.ScopeKind.TheVariants as scope_kind
use Rattle.cxx_model.specs.declared.fault.FaultText.{FaultText}
use Rattle.cxx_model.specs.declared.keyword.TheConstants as keyword
use Rattle.cxx_model.specs.declared.stop.LimitKind.TheVariants.{Facts}
use Rattle.cxx_model.specs.declared.token.TokenKind.{TokenKind}
use Rattle.cxx_model.specs.declared.token.TokenKind.TheVariants.{Keyword}
use Rattle.cxx_model.specs.declared.types.FactId.{FactId}
use Rattle.cxx_model.specs.Stops.{Stopped, Limited, ◌>>=◌}
use Rattle.cxx_model.specs.Types.Trees.{CxxType, fundamental}
use Rattle.cxx_meaning.specs.Conversions.Arithmetic.{integer_of, integral_promoted}
use Rattle.cxx_meaning.specs.Conversions.BuiltIn.{bool_type, is_condition, operand_kind}
use Rattle.cxx_reading.specs.Declarators.{is_void}
use Rattle.cxx_reading.specs.Declaring.{added, at_scope, block_scope, enter_block, entered_block, most_facts, number_id, scope_count, with_fact, with_result, within_step}
use Rattle.cxx_reading.specs.Initializers.{operand_of}
use Rattle.cxx_reading.specs.Reads.{Ahead, kind_ahead}
use Rattle.cxx_reading.specs.State.{CxxState}
use Rattle.cxx_reading.specs.Trees.{CxxTree}
use Rattle.cxx_heads.specs.declared.head.Head as heads
use Rattle.cxx_heads.specs.declared.head.Head.TheVariants as heads_
use Rattle.cxx_expr.specs.Operands.{is_of_class}
use Rattle.cxx_statements.specs.declared.parts.Head.TheVariants as head
use Rattle.cxx_statements.specs.Statements.{CxxTarget, to_bool, to_promoted, to_type, to_result}
use Rattle.cxx_phrases.specs.Levels.{whole_at}
use Rattle.cxx_heads.specs.Heads.{is_declared_condition}
use Rattle.cxx_knot.specs.Readers.{both}
use Rattle.cxx_language.specs.Answers.{asking}
use Rattle.cxx_language.specs.Asked.{answers, asked, inner_at, phrases_at}
use Rattle.cxx_language.specs.Statements.{left_out_word, left_out, head_as, begun_by, statement_head, set_in_step, step_at, condition_place, tested, promoted_by, switched, labelled_by, labelled, returned_by, returned, become}
use Rattle.cxx_language_laws.specs.Told.{IsGrown}
use Rattle.cxx_language_laws.proofs.Asked.{phrases_tell}
use Rattle.cxx_language_laws.proofs.Both.{both_tell}
use Rattle.cxx_language_laws.proofs.Later.{IsLater, kind_tells, grown_by, grown_later, grown_same, same_calls, later_is_kept, later_is_quiet, later_same}
use Rattle.cxx_language_laws.proofs.QuestionsTell.{if_by, quiet_by, same_by}
use Rattle.cxx_language_laws.proofs.Reached.{IsReached, count_more, Told, later_is_told}
use Rattle.cxx_language_laws.proofs.Scopes.{entered, scope_is_there, scope_within, scopes_at, scopes_entered, scopes_same}
use Rattle.cxx_language_laws.proofs.Tells.{IsTold, Quietly, saying, nothing, ToldBy, tells_answer, tells_refusal, Tells, Answers, quiet_in, then_in, ask_in, same_in, give_in, NamesTell, ListsTell}
use Rattle.cxx_language_laws.proofs.TellsConversions.{convert_tells}
use Rattle.cxx_language_laws.proofs.TellsHeads.{declared_condition_tells, head_tells}
use Rattle.cxx_language_laws.proofs.TellsShapes.{parameters_shape_tells}
use Rattle.cxx_language_laws.proofs.TellsLevels.{whole_tells}

-- ---- how a statement begins

-- of a text, where there is one
abbrev IsCalm : Option FaultText → Type 0
IsCalm None = Unit {0}
IsCalm (Some text) = saying text ≡ nothing

if_calm : (b : Bool) (x y : Option FaultText) → IsCalm x → IsCalm y → IsCalm (if b then x else y)
if_calm true x y one two = one
if_calm false x y one two = two

left_out_word_calm : (n : ℕ) → IsCalm (left_out_word n)
left_out_word_calm n = if_calm (n == keyword.GOTO) _ _ refl (if_calm (n == keyword.ASM) _ _ refl (if_calm (n == keyword.TRY) _ _ refl tt))

left_out_calm : (kind : TokenKind) → IsCalm (left_out kind)
left_out_calm (Keyword n) = left_out_word_calm n
left_out_calm _ = tt

head_as_tells : (begins : heads.Head) → Tells IsLater Quietly (head_as begins)
head_as_tells heads_.Declaration state ahead = give_in later_is_quiet head.Declaration state ahead
head_as_tells heads_.Using state ahead = give_in later_is_quiet head.Declaration state ahead
head_as_tells heads_.Namespace state ahead = give_in later_is_quiet head.Declaration state ahead
head_as_tells heads_.Label state ahead = quiet_in later_is_quiet refl
head_as_tells heads_.Expression state ahead = give_in later_is_quiet head.Expression state ahead

-- the kinds of names, and whether a bracket holds parameters
quiet_names : (room : ℕ) → NamesTell IsLater Quietly (asked room).kinds
unfolding asking
quiet_names room = record { kind = kind_tells }

quiet_lists : (room : ℕ) → ListsTell IsLater Quietly (inner_at room).types
unfolding both
quiet_lists zero = record { holds_parameters = λ state ahead. same_in later_is_quiet true state ahead }
quiet_lists (suc room) = record { holds_parameters = parameters_shape_tells later_is_quiet (quiet_names room) (quiet_lists room) }

begun_by_tells : (room : ℕ) (text : Option FaultText) → IsCalm text → Tells IsLater Quietly (begun_by room text)
begun_by_tells room None calm state ahead = then_in later_is_quiet (head_tells later_is_quiet (quiet_names room) (quiet_lists room) state ahead) head_as_tells
begun_by_tells room (Some text) calm state ahead = quiet_in later_is_quiet calm

pub statement_head_tells : (room : ℕ) → Tells IsLater Quietly (statement_head room)
unfolding statement_head
statement_head_tells room state ahead = begun_by_tells room (left_out (kind_ahead ahead)) (left_out_calm (kind_ahead ahead)) state ahead

pub is_declared_tells : (room : ℕ) → Tells IsLater Quietly (is_declared_condition (asked room).kinds (inner_at room).types)
is_declared_tells room = declared_condition_tells later_is_quiet (quiet_names room) (quiet_lists room)

-- ---- expressions

set_in_step_tells : (inside : Bool) → Answers IsLater Told (set_in_step inside)
unfolding set_in_step
set_in_step_tells inside state ahead = tells_answer (tt, within_step inside state) (later_same state (within_step inside state) refl refl refl)

pub expression_tells : (room : ℕ) → Tells IsLater Told (whole_at (phrases_at room) (inner_at room).phrases)
expression_tells room = whole_tells later_is_told (phrases_tell room (both_tell room).types) (both_tell room).phrases

pub step_tells : (room : ℕ) → Tells IsLater Told (step_at room)
unfolding step_at
step_tells room state ahead =
    then_in later_is_told (ask_in ahead (set_in_step_tells true state ahead)) (λ begun state ahead.
    then_in later_is_told (expression_tells room state ahead) (λ tree state ahead.
    then_in later_is_told (ask_in ahead (set_in_step_tells false state ahead)) (λ ended. give_in later_is_told tree)))

-- ---- what an expression becomes

tested_tells : {told : CxxState → Ahead → Stopped → Type 0} → IsTold IsLater told → (tree : CxxTree) → Answers IsLater told (tested answers tree)
unfolding tested
tested_tells is tree state ahead = if_by (is_of_class tree) (quiet_by is refl) (if_by (is_condition (operand_kind (operand_of tree))) (convert_tells is answers (condition_place tree) bool_type tree state ahead) (quiet_by is refl))

promoted_tells : {told : CxxState → Ahead → Stopped → Type 0} → IsTold IsLater told → (tree : CxxTree) (base : Option Base) → Answers IsLater told (promoted_by answers tree base)
promoted_tells is tree None state ahead = quiet_by is refl
promoted_tells is tree (Some of) state ahead = convert_tells is answers (condition_place tree) (fundamental (integral_promoted of)) tree state ahead

switched_tells : {told : CxxState → Ahead → Stopped → Type 0} → IsTold IsLater told → (tree : CxxTree) → Answers IsLater told (switched answers tree)
unfolding switched
switched_tells is tree state ahead = if_by (is_of_class tree) (quiet_by is refl) (promoted_tells is tree (integer_of state.graph (operand_kind (operand_of tree))) state ahead)

labelled_by_tells : {told : CxxState → Ahead → Stopped → Type 0} → IsTold IsLater told → (of : CxxType) (tree : CxxTree) (base : Option Base) → Answers IsLater told (labelled_by answers of tree base)
labelled_by_tells is of tree None state ahead = quiet_by is refl
labelled_by_tells is of tree (Some base) state ahead = convert_tells is answers tree.label.start of tree state ahead

labelled_tells : {told : CxxState → Ahead → Stopped → Type 0} → IsTold IsLater told → (of : CxxType) (tree : CxxTree) → Answers IsLater told (labelled answers of tree)
unfolding labelled
labelled_tells is of tree state ahead = labelled_by_tells is of tree (integer_of state.graph (operand_kind (operand_of tree))) state ahead

returned_by_tells : {told : CxxState → Ahead → Stopped → Type 0} → IsTold IsLater told → (tree : CxxTree) (result : Option CxxType) → Answers IsLater told (returned_by answers tree result)
returned_by_tells is tree None state ahead = same_by is tree state ahead
returned_by_tells is tree (Some result) state ahead = if_by (is_void result) (if_by (is_void (operand_of tree).of) (same_by is tree state ahead) (quiet_by is refl)) (convert_tells is answers tree.label.start result tree state ahead)

returned_tells : {told : CxxState → Ahead → Stopped → Type 0} → IsTold IsLater told → (tree : CxxTree) → Answers IsLater told (returned answers tree)
unfolding returned
returned_tells is tree state ahead = returned_by_tells is tree state.here.result state ahead

pub become_tells : {told : CxxState → Ahead → Stopped → Type 0} → IsTold IsLater told → (target : CxxTarget) (tree : CxxTree) → Answers IsLater told (become answers target tree)
become_tells is to_bool tree = tested_tells is tree
become_tells is to_promoted tree = switched_tells is tree
become_tells is (to_type of) tree = labelled_tells is of tree
become_tells is to_result tree = returned_tells is tree

-- ---- blocks

-- a state stands in a block that begins in the scope of another
abbrev pub IsInBlock : Option FactId → CxxState → CxxState → Type 0
IsInBlock function s t = IsLater (entered (scope_kind.Block function) s) t

pub enter_tells : (function : Option FactId) (state : CxxState) (ahead : Ahead) → ToldBy (IsInBlock function) Quietly state ahead (enter_block function state)
unfolding enter_block added
enter_tells function state ahead = by (nat_eq (length state.graph.facts + length state.graph.classes) most_facts)
  where
    by : (b : Bool) → ToldBy (IsInBlock function) Quietly state ahead ((if b then Err (Limited Facts) else Ok (length state.graph.facts, with_fact (block_scope function state) state)) >>= λ answer. Ok (entered_block (scope_count state.graph) answer))
    by true = tells_refusal (Limited Facts) refl
    by false = tells_answer (tt, entered (scope_kind.Block function) state) (later_is_kept.same (entered (scope_kind.Block function) state))

-- ---- bodies

-- a body begins in the scope of a list of parameters
abbrev pub in_list : ℕ → CxxType → CxxState → CxxState
in_list list result state = at_scope list (with_result (Some result) state)

abbrev pub begun_body : ℕ → ℕ → CxxType → CxxState → CxxState
begun_body list number result state = entered (scope_kind.Block (Some (number_id number))) (in_list list result state)

-- behind it the reader stands in a scope again
abbrev pub ended_body : ℕ → CxxState → CxxState
ended_body scope state = at_scope scope (with_result None state)

body_grown : (list number : ℕ) (result : CxxType) (state : CxxState) → IsGrown state (begun_body list number result state)
body_grown list number result state = grown_by state (begun_body list number result state) (scope_within (scope_kind.Block (Some (number_id number))) (in_list list result state) ∷ []) refl

pub body_reached : (list number : ℕ) (result : CxxType) (state : CxxState) → list < scope_count state.graph → IsReached state (begun_body list number result state)
body_reached list number result state there = record {
  grown = body_grown list number result state;
  scopes = λ is. scopes_entered (scope_kind.Block (Some (number_id number))) (in_list list result state) (scopes_at list (with_result (Some result) state) there (scopes_same state (with_result (Some result) state) refl refl is));
  scope = λ is. inr (omega arith);
}

-- where all of it was read
pub body_later : (list number : ℕ) (result : CxxType) (state t : CxxState) → list < scope_count state.graph → IsLater (begun_body list number result state) t → IsLater state (ended_body state.here.scope t)
body_later list number result state t there later =
    let begun = begun_body list number result state in
    let ended = ended_body state.here.scope t in
    let grown = grown_later state begun t (body_grown list number result state) later.grown in
    let more = count_more state t grown in
    record {
      grown = grown_later state t ended grown (grown_same t ended refl);
      scopes = λ is. let stands = scope_is_there state is in scopes_at state.here.scope (with_result None t) (omega (arith, stands, more)) (scopes_same t (with_result None t) refl refl (later.scopes ((body_reached list number result state there).scopes is)));
      best = λ is. same_calls t ended (grown_same t ended refl) refl (later.best (same_calls state begun (body_grown list number result state) refl is));
      here = λ is. refl;
    }
