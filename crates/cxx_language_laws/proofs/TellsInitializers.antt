-- What the readers of initializers keep of the state, and what stops them.
use Rattle.std.proofs.Common.{refl}
use Rattle.std.specs.Prelude.{◌==◌, List, [], ◌∷◌, ◌++◌}
use Rattle.cxx_model.specs.declared.punct.TheConstants as punct
use Rattle.cxx_model.specs.declared.tree.Form.{Form}
use Rattle.cxx_model.specs.declared.tree.Form.TheVariants as form
use Rattle.cxx_model.specs.Stops.{Stopped}
use Rattle.cxx_phrases.specs.declared.level.Level.{Level}
use Rattle.cxx_phrases.specs.declared.level.Level.TheVariants as level
use Rattle.cxx_phrases.specs.Forms.{braces_tree}
use Rattle.cxx_phrases.specs.Initializers.{clause_comma, clause_ended, clause_step, some_clauses, clauses_behind, clauses_at, braces_at, clause_at, expression_at, initialized, copy_at, aggregate_at, equals_at, list_behind, direct_at, initializer_at}
use Rattle.cxx_phrases.specs.Phrases.{Phrases, Inner}
use Rattle.cxx_reading.specs.Reads.{Ahead, More, Done, give, count_ahead, kind_ahead, behind}
use Rattle.cxx_reading.specs.Tokens.{is_punct}
use Rattle.cxx_reading.specs.Trees.{CxxTree}
use Rattle.cxx_language_laws.proofs.PhrasesTell.{PhrasesTell, InnerTell}
use Rattle.cxx_language_laws.proofs.Tells.{IsTold, Tells, quiet_in, if_in, past_in, then_in, same_in, next_in, repeat_tells, looked_in, give_in}
use Rattle.cxx_language_laws.proofs.TellsLevels.{assignment_tells, conditional_tells, whole_tells}
use Rattle.cxx_language_laws.proofs.TellsOperands.{operand_tells}
use Rattle.cxx_language_laws.proofs.TellsPrimary.{some_arguments_tell}

-- ---- braces

clause_comma_tells : {S : Type 0} {kept : S → S → Type 0} {told : S → Ahead → Stopped → Type 0} → IsTold kept told → (so_far : List CxxTree) → Tells kept told (clause_comma {S = S} so_far)
unfolding clause_comma
clause_comma_tells is so_far state ahead = if_in (is_punct punct.RIGHT_BRACE (kind_ahead ahead)) (next_in is (Done so_far) state ahead) (same_in is (More so_far) state ahead)

clause_ended_tells : {S : Type 0} {kept : S → S → Type 0} {told : S → Ahead → Stopped → Type 0} → IsTold kept told → (so_far : List CxxTree) (tree : CxxTree) → Tells kept told (clause_ended {S = S} so_far tree)
unfolding clause_ended
clause_ended_tells is so_far tree state ahead = if_in (is_punct punct.COMMA (kind_ahead ahead)) (past_in is (clause_comma_tells is (so_far ++ tree ∷ []) state (behind ahead))) (if_in (is_punct punct.RIGHT_BRACE (kind_ahead ahead)) (next_in is (Done (so_far ++ tree ∷ [])) state ahead) (quiet_in is refl))

clause_step_tells : {S : Type 0} {kept : S → S → Type 0} {told : S → Ahead → Stopped → Type 0} → IsTold kept told → {inner : Inner S} → InnerTell kept told inner → (so_far : List CxxTree) → Tells kept told (clause_step inner so_far)
unfolding clause_step
clause_step_tells is inner so_far state ahead = then_in is (inner.expression level.Clause state ahead) (clause_ended_tells is so_far)

some_clauses_tell : {S : Type 0} {kept : S → S → Type 0} {told : S → Ahead → Stopped → Type 0} → IsTold kept told → {inner : Inner S} → InnerTell kept told inner → Tells kept told (some_clauses inner)
unfolding some_clauses
some_clauses_tell is {inner = i} inner state ahead = repeat_tells is (clause_step i) give (clause_step_tells is inner) (give_in is) (count_ahead ahead) [] state ahead

clauses_behind_tell : {S : Type 0} {kept : S → S → Type 0} {told : S → Ahead → Stopped → Type 0} → IsTold kept told → {inner : Inner S} → InnerTell kept told inner → Tells kept told (clauses_behind inner)
unfolding clauses_behind
clauses_behind_tell is inner state ahead = if_in (is_punct punct.RIGHT_BRACE (kind_ahead ahead)) (next_in is [] state ahead) (some_clauses_tell is inner state ahead)

clauses_tell : {S : Type 0} {kept : S → S → Type 0} {told : S → Ahead → Stopped → Type 0} → IsTold kept told → {asks : Phrases S} {inner : Inner S} → PhrasesTell kept told asks inner → InnerTell kept told inner → Tells kept told (clauses_at asks inner)
unfolding clauses_at
clauses_tell is {asks = a} asks inner state ahead = if_in (a.room == 0) (quiet_in is refl) (past_in is (clauses_behind_tell is inner state (behind ahead)))

braces_tell : {S : Type 0} {kept : S → S → Type 0} {told : S → Ahead → Stopped → Type 0} → IsTold kept told → {asks : Phrases S} {inner : Inner S} → PhrasesTell kept told asks inner → InnerTell kept told inner → Tells kept told (braces_at asks inner)
unfolding braces_at
braces_tell is asks inner state ahead = then_in is (looked_in is state ahead) (λ from state ahead. then_in is (clauses_tell is asks inner state ahead) (λ parts state ahead. then_in is (looked_in is state ahead) (λ to. give_in is (braces_tree parts from to))))

clause_tells : {S : Type 0} {kept : S → S → Type 0} {told : S → Ahead → Stopped → Type 0} → IsTold kept told → {asks : Phrases S} {inner : Inner S} → PhrasesTell kept told asks inner → InnerTell kept told inner → Tells kept told (clause_at asks inner)
unfolding clause_at
clause_tells is asks inner state ahead = if_in (is_punct punct.LEFT_BRACE (kind_ahead ahead)) (braces_tell is asks inner state ahead) (assignment_tells is asks inner state ahead)

-- ---- expressions of each level

pub expression_tells : {S : Type 0} {kept : S → S → Type 0} {told : S → Ahead → Stopped → Type 0} → IsTold kept told → {asks : Phrases S} {inner : Inner S} → PhrasesTell kept told asks inner → InnerTell kept told inner → (level : Level) → Tells kept told (expression_at asks inner level)
expression_tells is asks inner level.Whole = whole_tells is asks inner
expression_tells is asks inner level.Assignment = assignment_tells is asks inner
expression_tells is asks inner level.Constant = conditional_tells is asks inner
expression_tells is asks inner level.Operand = operand_tells is asks inner
expression_tells is asks inner level.Clause = clause_tells is asks inner

-- ---- initializers

initialized_tells : {S : Type 0} {kept : S → S → Type 0} {told : S → Ahead → Stopped → Type 0} → IsTold kept told → (form : Form) (parts : List CxxTree) → Tells kept told (initialized {S = S} form parts)
initialized_tells is form parts = give_in is (record { form = form; parts = parts })

pub copy_tells : {S : Type 0} {kept : S → S → Type 0} {told : S → Ahead → Stopped → Type 0} → IsTold kept told → {asks : Phrases S} {inner : Inner S} → PhrasesTell kept told asks inner → InnerTell kept told inner → Tells kept told (copy_at asks inner)
unfolding copy_at
copy_tells is asks inner state ahead = then_in is (assignment_tells is asks inner state ahead) (λ tree. initialized_tells is form.Copy (tree ∷ []))

aggregate_tells : {S : Type 0} {kept : S → S → Type 0} {told : S → Ahead → Stopped → Type 0} → IsTold kept told → {asks : Phrases S} {inner : Inner S} → PhrasesTell kept told asks inner → InnerTell kept told inner → Tells kept told (aggregate_at asks inner)
unfolding aggregate_at
aggregate_tells is asks inner state ahead = then_in is (clauses_tell is asks inner state ahead) (initialized_tells is form.Aggregate)

equals_tells : {S : Type 0} {kept : S → S → Type 0} {told : S → Ahead → Stopped → Type 0} → IsTold kept told → {asks : Phrases S} {inner : Inner S} → PhrasesTell kept told asks inner → InnerTell kept told inner → Tells kept told (equals_at asks inner)
unfolding equals_at
equals_tells is asks inner state ahead = if_in (is_punct punct.LEFT_BRACE (kind_ahead ahead)) (aggregate_tells is asks inner state ahead) (copy_tells is asks inner state ahead)

list_behind_tells : {S : Type 0} {kept : S → S → Type 0} {told : S → Ahead → Stopped → Type 0} → IsTold kept told → {inner : Inner S} → InnerTell kept told inner → Tells kept told (list_behind inner)
unfolding list_behind
list_behind_tells is inner state ahead = then_in is (some_arguments_tell is inner state ahead) (initialized_tells is form.Direct)

direct_tells : {S : Type 0} {kept : S → S → Type 0} {told : S → Ahead → Stopped → Type 0} → IsTold kept told → {asks : Phrases S} {inner : Inner S} → PhrasesTell kept told asks inner → InnerTell kept told inner → Tells kept told (direct_at asks inner)
unfolding direct_at
direct_tells is {asks = a} asks inner state ahead = if_in (a.room == 0) (quiet_in is refl) (past_in is (list_behind_tells is inner state (behind ahead)))

pub initializer_tells : {S : Type 0} {kept : S → S → Type 0} {told : S → Ahead → Stopped → Type 0} → IsTold kept told → {asks : Phrases S} {inner : Inner S} → PhrasesTell kept told asks inner → InnerTell kept told inner → Tells kept told (initializer_at asks inner)
unfolding initializer_at
initializer_tells is asks inner state ahead = if_in (is_punct punct.EQUALS (kind_ahead ahead)) (past_in is (equals_tells is asks inner state (behind ahead))) (if_in (is_punct punct.LEFT_PARENTHESIS (kind_ahead ahead)) (direct_tells is asks inner state ahead) (quiet_in is refl))
