-- What statements and labels in which no expression stands keep of the state, and what stops them.
use Rattle.std.proofs.Common.{refl}
use Rattle.std.specs.Prelude.{ℕ, ℤ, Bool, ◌==◌, length, List, [], codes}
use Rattle.cxx_model.specs.declared.place.Place.{Place}
use Rattle.cxx_model.specs.declared.punct.TheConstants as punct
use Rattle.cxx_model.specs.Stops.{Stopped}
use Rattle.cxx_reading.specs.Reads.{Ahead}
use Rattle.cxx_reading.specs.Trees.{CxxTree}
use Rattle.cxx_statements.specs.Productions as production
use Rattle.cxx_statements.specs.Statements.{Switch, Around, statement_tree, word_tree, jump_taken, jump_in, has_value, fresh_label, with_default, default_taken, default_of, empty_statement, empty_in, labelled}
use Rattle.cxx_language_laws.proofs.Tells.{IsTold, Tells, quiet_in, if_in, then_in, same_in, taken_in, looked_in, punct_in, give_in, tokens_in, unit_is_told}

-- ---- jumps

jump_taken_tells : {S : Type 0} {kept : S → S → Type 0} {told : S → Ahead → Stopped → Type 0} → IsTold kept told → (word : List ℕ) (around : Around) → Tells kept told (jump_taken {S = S} word around)
unfolding jump_taken
jump_taken_tells is word around state ahead =
    then_in is (looked_in is state ahead) (λ from state ahead.
    then_in is (taken_in is state ahead) (λ jump state ahead.
    then_in is (tokens_in is (punct_in unit_is_told punct.SEMICOLON) state ahead) (λ ended state ahead.
    then_in is (looked_in is state ahead) (λ to. give_in is (word_tree production.jump word [] from to, around)))))

pub jump_tells : {S : Type 0} {kept : S → S → Type 0} {told : S → Ahead → Stopped → Type 0} → IsTold kept told → (word : List ℕ) (is_there : Bool) (around : Around) → Tells kept told (jump_in {S = S} word is_there around)
unfolding jump_in
jump_tells is word is_there around state ahead = if_in is_there (jump_taken_tells is word around state ahead) (quiet_in is refl)

-- ---- labels

pub fresh_tells : {S : Type 0} {kept : S → S → Type 0} {told : S → Ahead → Stopped → Type 0} → IsTold kept told → (place : Place) (value : ℤ) (switch : Switch) → Tells kept told (fresh_label {S = S} place value switch)
unfolding fresh_label
fresh_tells is place value switch state ahead = if_in (has_value value switch.values) (quiet_in is refl) (same_in is tt state ahead)

default_taken_tells : {S : Type 0} {kept : S → S → Type 0} {told : S → Ahead → Stopped → Type 0} → IsTold kept told → (switch : Switch) → Tells kept told (default_taken {S = S} switch)
unfolding default_taken
default_taken_tells is switch state ahead =
    then_in is (looked_in is state ahead) (λ from state ahead.
    then_in is (taken_in is state ahead) (λ word state ahead.
    then_in is (tokens_in is (punct_in unit_is_told punct.COLON) state ahead) (λ colon state ahead.
    then_in is (looked_in is state ahead) (λ to. give_in is (word_tree production.label (codes "default") [] from to, with_default switch)))))

pub default_tells : {S : Type 0} {kept : S → S → Type 0} {told : S → Ahead → Stopped → Type 0} → IsTold kept told → (switch : Switch) → Tells kept told (default_of {S = S} switch)
unfolding default_of
default_tells is switch state ahead = if_in switch.has_default (quiet_in is refl) (default_taken_tells is switch state ahead)

-- behind the labels of a statement
pub labelled_tells : {S : Type 0} {kept : S → S → Type 0} {told : S → Ahead → Stopped → Type 0} → IsTold kept told → (from : Ahead) (labels : List CxxTree) (one : CxxTree × Around) → Tells kept told (labelled {S = S} from labels one)
unfolding labelled
labelled_tells is from labels one state ahead = if_in (length labels == 0) (same_in is one state ahead) (same_in is _ state ahead)

-- ---- statements that are empty

empty_tells : {S : Type 0} {kept : S → S → Type 0} {told : S → Ahead → Stopped → Type 0} → IsTold kept told → Tells kept told (empty_statement {S = S})
unfolding empty_statement
empty_tells is state ahead =
    then_in is (looked_in is state ahead) (λ from state ahead.
    then_in is (taken_in is state ahead) (λ ended state ahead.
    then_in is (looked_in is state ahead) (λ to. give_in is (statement_tree production.expression_statement [] from to))))

pub empty_in_tells : {S : Type 0} {kept : S → S → Type 0} {told : S → Ahead → Stopped → Type 0} → IsTold kept told → (around : Around) → Tells kept told (empty_in {S = S} around)
unfolding empty_in
empty_in_tells is around state ahead = then_in is (empty_tells is state ahead) (λ tree. give_in is (tree, around))
