-- What the readers of binary operators, conditionals, assignments and commas keep of the state, and what stops them.
use Rattle.std.proofs.Common.{refl}
use Rattle.std.specs.Prelude.{ℕ, zero, suc}
use Rattle.cxx_model.specs.declared.keyword.TheConstants as keyword
use Rattle.cxx_model.specs.declared.punct.TheConstants as punct
use Rattle.cxx_model.specs.Stops.{Stopped}
use Rattle.cxx_phrases.specs.declared.level.Level.TheVariants as level
use Rattle.cxx_phrases.specs.Forms.{operator_tree, conditional_tree}
use Rattle.cxx_phrases.specs.Levels.{no_member, member_operand, operation, operation_step, operations_at, operations_part, binary_at, conditional_part, conditional_by, conditional_at, assignment_part, assignment_by, assignment_behind, assignment_at, comma_part, comma_step, commas_at, whole_at}
use Rattle.cxx_phrases.specs.Operators.{outermost, is_of_level, selects_member, is_assignment, operator_ahead}
use Rattle.cxx_phrases.specs.Phrases.{Phrases, Inner}
use Rattle.cxx_phrases.specs.Productions as phrase
use Rattle.cxx_reading.specs.Reads.{Ahead, Reads, More, Done, give, count_ahead, kind_ahead}
use Rattle.cxx_reading.specs.Tokens.{is_punct, is_keyword}
use Rattle.cxx_reading.specs.Trees.{CxxTree}
use Rattle.cxx_language_laws.proofs.PhrasesTell.{PhrasesTell, InnerTell}
use Rattle.cxx_language_laws.proofs.Tells.{IsTold, Tells, quiet_in, if_in, then_in, ask_in, same_in, repeat_tells, taken_in, looked_in, punct_in, give_in, tokens_in, unit_is_told}
use Rattle.cxx_language_laws.proofs.TellsOperands.{operand_tells}

-- ---- binary operators

no_member_tells : {S : Type 0} {kept : S → S → Type 0} {told : S → Ahead → Stopped → Type 0} → IsTold kept told → (tree : CxxTree) → Tells kept told (no_member {S = S} tree)
unfolding no_member
no_member_tells is tree state ahead = if_in (selects_member (kind_ahead ahead)) (quiet_in is refl) (same_in is tree state ahead)

member_operand_tells : {S : Type 0} {kept : S → S → Type 0} {told : S → Ahead → Stopped → Type 0} → IsTold kept told → {asks : Phrases S} {inner : Inner S} → PhrasesTell kept told asks inner → InnerTell kept told inner → Tells kept told (member_operand asks inner)
unfolding member_operand
member_operand_tells is asks inner state ahead = then_in is (operand_tells is asks inner state ahead) (no_member_tells is)

operation_tells : {S : Type 0} {kept : S → S → Type 0} {told : S → Ahead → Stopped → Type 0} → IsTold kept told → {asks : Phrases S} {inner : Inner S} → PhrasesTell kept told asks inner → InnerTell kept told inner → (operand : Reads S CxxTree) → Tells kept told operand → (from : Ahead) (left : CxxTree) → Tells kept told (operation asks operand from left)
unfolding operation
operation_tells is asks inner operand tells from left state ahead = then_in is (looked_in is state ahead) (λ at state ahead. then_in is (taken_in is state ahead) (λ place state ahead. then_in is (tells state ahead) (λ right state ahead. then_in is (looked_in is state ahead) (λ to state ahead. then_in is (ask_in ahead (asks.whole (operator_tree phrase.binary (operator_ahead at) place left right from to) refl state ahead)) (λ tree. give_in is (More tree))))))

operation_step_tells : {S : Type 0} {kept : S → S → Type 0} {told : S → Ahead → Stopped → Type 0} → IsTold kept told → {asks : Phrases S} {inner : Inner S} → PhrasesTell kept told asks inner → InnerTell kept told inner → (operand : Reads S CxxTree) → Tells kept told operand → (level : ℕ) (from : Ahead) (left : CxxTree) → Tells kept told (operation_step asks operand level from left)
unfolding operation_step
operation_step_tells is asks inner operand tells level from left state ahead = if_in (is_of_level level (kind_ahead ahead)) (operation_tells is asks inner operand tells from left state ahead) (same_in is (Done left) state ahead)

operations_tell : {S : Type 0} {kept : S → S → Type 0} {told : S → Ahead → Stopped → Type 0} → IsTold kept told → {asks : Phrases S} {inner : Inner S} → PhrasesTell kept told asks inner → InnerTell kept told inner → (operand : Reads S CxxTree) → Tells kept told operand → (level : ℕ) (from : Ahead) (first : CxxTree) → Tells kept told (operations_at asks operand level from first)
unfolding operations_at
operations_tell is {asks = a} asks inner operand tells level from first state ahead = repeat_tells is (operation_step a operand level from) give (operation_step_tells is asks inner operand tells level from) (give_in is) (count_ahead ahead) first state ahead

operations_part_tells : {S : Type 0} {kept : S → S → Type 0} {told : S → Ahead → Stopped → Type 0} → IsTold kept told → {asks : Phrases S} {inner : Inner S} → PhrasesTell kept told asks inner → InnerTell kept told inner → (operand : Reads S CxxTree) → Tells kept told operand → (level : ℕ) → Tells kept told (operations_part asks operand level)
unfolding operations_part
operations_part_tells is asks inner operand tells level state ahead = then_in is (tells state ahead) (operations_tell is asks inner operand tells level ahead)

pub binary_tells : {S : Type 0} {kept : S → S → Type 0} {told : S → Ahead → Stopped → Type 0} → IsTold kept told → {asks : Phrases S} {inner : Inner S} → PhrasesTell kept told asks inner → InnerTell kept told inner → (level : ℕ) → Tells kept told (binary_at asks inner level)
unfolding binary_at
binary_tells is asks inner zero state ahead = member_operand_tells is asks inner state ahead
binary_tells is {asks = a} {inner = i} asks inner (suc level) state ahead = operations_part_tells is asks inner (binary_at a i level) (binary_tells is asks inner level) (suc level) state ahead

-- ---- the conditional operator

conditional_part_tells : {S : Type 0} {kept : S → S → Type 0} {told : S → Ahead → Stopped → Type 0} → IsTold kept told → {asks : Phrases S} {inner : Inner S} → PhrasesTell kept told asks inner → InnerTell kept told inner → (from : Ahead) (condition : CxxTree) → Tells kept told (conditional_part asks inner from condition)
unfolding conditional_part
conditional_part_tells is asks inner from condition state ahead = then_in is (taken_in is state ahead) (λ place state ahead. then_in is (inner.expression level.Whole state ahead) (λ one state ahead. then_in is (tokens_in is (punct_in unit_is_told punct.COLON) state ahead) (λ colon state ahead. then_in is (inner.expression level.Assignment state ahead) (λ other state ahead. then_in is (looked_in is state ahead) (λ to state ahead. ask_in ahead (asks.whole (conditional_tree place condition one other from to) refl state ahead))))))

conditional_by_tells : {S : Type 0} {kept : S → S → Type 0} {told : S → Ahead → Stopped → Type 0} → IsTold kept told → {asks : Phrases S} {inner : Inner S} → PhrasesTell kept told asks inner → InnerTell kept told inner → (from : Ahead) (condition : CxxTree) → Tells kept told (conditional_by asks inner from condition)
unfolding conditional_by
conditional_by_tells is asks inner from condition state ahead = if_in (is_punct punct.QUESTION (kind_ahead ahead)) (conditional_part_tells is asks inner from condition state ahead) (same_in is condition state ahead)

pub conditional_tells : {S : Type 0} {kept : S → S → Type 0} {told : S → Ahead → Stopped → Type 0} → IsTold kept told → {asks : Phrases S} {inner : Inner S} → PhrasesTell kept told asks inner → InnerTell kept told inner → Tells kept told (conditional_at asks inner)
unfolding conditional_at
conditional_tells is asks inner state ahead = then_in is (looked_in is state ahead) (λ from state ahead. then_in is (binary_tells is asks inner outermost state ahead) (conditional_by_tells is asks inner from))

-- ---- assignment

assignment_part_tells : {S : Type 0} {kept : S → S → Type 0} {told : S → Ahead → Stopped → Type 0} → IsTold kept told → {asks : Phrases S} {inner : Inner S} → PhrasesTell kept told asks inner → InnerTell kept told inner → (from : Ahead) (left : CxxTree) → Tells kept told (assignment_part asks inner from left)
unfolding assignment_part
assignment_part_tells is asks inner from left state ahead = then_in is (looked_in is state ahead) (λ at state ahead. then_in is (taken_in is state ahead) (λ place state ahead. then_in is (inner.expression level.Assignment state ahead) (λ right state ahead. then_in is (looked_in is state ahead) (λ to state ahead. ask_in ahead (asks.whole (operator_tree phrase.assignment (operator_ahead at) place left right from to) refl state ahead)))))

assignment_by_tells : {S : Type 0} {kept : S → S → Type 0} {told : S → Ahead → Stopped → Type 0} → IsTold kept told → {asks : Phrases S} {inner : Inner S} → PhrasesTell kept told asks inner → InnerTell kept told inner → (from : Ahead) (left : CxxTree) → Tells kept told (assignment_by asks inner from left)
unfolding assignment_by
assignment_by_tells is asks inner from left state ahead = if_in (is_assignment (kind_ahead ahead)) (assignment_part_tells is asks inner from left state ahead) (conditional_by_tells is asks inner from left state ahead)

assignment_behind_tells : {S : Type 0} {kept : S → S → Type 0} {told : S → Ahead → Stopped → Type 0} → IsTold kept told → {asks : Phrases S} {inner : Inner S} → PhrasesTell kept told asks inner → InnerTell kept told inner → Tells kept told (assignment_behind asks inner)
unfolding assignment_behind
assignment_behind_tells is asks inner state ahead = then_in is (looked_in is state ahead) (λ from state ahead. then_in is (binary_tells is asks inner outermost state ahead) (assignment_by_tells is asks inner from))

pub assignment_tells : {S : Type 0} {kept : S → S → Type 0} {told : S → Ahead → Stopped → Type 0} → IsTold kept told → {asks : Phrases S} {inner : Inner S} → PhrasesTell kept told asks inner → InnerTell kept told inner → Tells kept told (assignment_at asks inner)
unfolding assignment_at
assignment_tells is asks inner state ahead = if_in (is_keyword keyword.THROW (kind_ahead ahead)) (quiet_in is refl) (assignment_behind_tells is asks inner state ahead)

-- ---- commas

comma_part_tells : {S : Type 0} {kept : S → S → Type 0} {told : S → Ahead → Stopped → Type 0} → IsTold kept told → {asks : Phrases S} {inner : Inner S} → PhrasesTell kept told asks inner → InnerTell kept told inner → (from : Ahead) (left : CxxTree) → Tells kept told (comma_part asks inner from left)
unfolding comma_part
comma_part_tells is asks inner from left state ahead = then_in is (looked_in is state ahead) (λ at state ahead. then_in is (taken_in is state ahead) (λ place state ahead. then_in is (assignment_tells is asks inner state ahead) (λ right state ahead. then_in is (looked_in is state ahead) (λ to state ahead. then_in is (ask_in ahead (asks.whole (operator_tree phrase.assignment (operator_ahead at) place left right from to) refl state ahead)) (λ tree. give_in is (More tree))))))

comma_step_tells : {S : Type 0} {kept : S → S → Type 0} {told : S → Ahead → Stopped → Type 0} → IsTold kept told → {asks : Phrases S} {inner : Inner S} → PhrasesTell kept told asks inner → InnerTell kept told inner → (from : Ahead) (left : CxxTree) → Tells kept told (comma_step asks inner from left)
unfolding comma_step
comma_step_tells is asks inner from left state ahead = if_in (is_punct punct.COMMA (kind_ahead ahead)) (comma_part_tells is asks inner from left state ahead) (same_in is (Done left) state ahead)

commas_tell : {S : Type 0} {kept : S → S → Type 0} {told : S → Ahead → Stopped → Type 0} → IsTold kept told → {asks : Phrases S} {inner : Inner S} → PhrasesTell kept told asks inner → InnerTell kept told inner → (from : Ahead) (first : CxxTree) → Tells kept told (commas_at asks inner from first)
unfolding commas_at
commas_tell is {asks = a} {inner = i} asks inner from first state ahead = repeat_tells is (comma_step a i from) give (comma_step_tells is asks inner from) (give_in is) (count_ahead ahead) first state ahead

pub whole_tells : {S : Type 0} {kept : S → S → Type 0} {told : S → Ahead → Stopped → Type 0} → IsTold kept told → {asks : Phrases S} {inner : Inner S} → PhrasesTell kept told asks inner → InnerTell kept told inner → Tells kept told (whole_at asks inner)
unfolding whole_at
whole_tells is asks inner state ahead = then_in is (assignment_tells is asks inner state ahead) (commas_tell is asks inner ahead)
