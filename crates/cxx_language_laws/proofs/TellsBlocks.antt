-- What functions and objects with `extern` that a block declares (3.5), and the initializer of an object that a condition
-- declares, keep of the state, and what stops them.
use Rattle.std.proofs.Common.{refl}
use Rattle.std.specs.Prelude.{ℕ, true, [], ◌∷◌, Some}
use Rattle.cxx_model.specs.declared.punct.TheConstants as punct
use Rattle.cxx_model.specs.Stops.{Stopped}
use Rattle.cxx_model.specs.Text.Lexemes.{Lexeme}
use Rattle.cxx_model.specs.Types.Trees.{CxxType}
use Rattle.cxx_reading.specs.Declarators.{Declarator, declared_type, own_parameters}
use Rattle.cxx_reading.specs.Declaring.{with_tested}
use Rattle.cxx_reading.specs.Reads.{Ahead, kind_ahead, behind}
use Rattle.cxx_reading.specs.State.{CxxState}
use Rattle.cxx_reading.specs.Tokens.{is_punct}
use Rattle.cxx_reading.specs.Units.{Said, declarator_tree, name_in as name_of_declarator}
use Rattle.cxx_language.specs.Asked.{answers, inner_at, phrases_at}
use Rattle.cxx_language.specs.Blocks.{condition_value, condition_part, keep_tested, linked_ended, local_extern, local_function, tested_function}
use Rattle.cxx_language.specs.Known.{type_known}
use Rattle.cxx_language.specs.Objects.{begins_initializer, initializer_tree}
use Rattle.cxx_language_laws.proofs.Asked.{phrases_tell}
use Rattle.cxx_language_laws.proofs.Both.{both_tell}
use Rattle.cxx_language_laws.proofs.Declared.{complete_tells, synonym_ended_tells}
use Rattle.cxx_language_laws.proofs.Later.{IsLater, calm_by, function_answer_tells, later_is_quiet, later_same, linked_object_tells}
use Rattle.cxx_language_laws.proofs.Objects.{HasNumber, note_tells, some_elements_tell, then_there}
use Rattle.cxx_language_laws.proofs.Reached.{Told, later_is_told}
use Rattle.cxx_language_laws.proofs.Tells.{Quietly, Tells, ToldIn, Answers, tells_answer, quiet_in, if_in, past_in, then_in, ask_in, looked_in, give_in}
use Rattle.cxx_language_laws.proofs.TellsExpressions.{initialize_tells}
use Rattle.cxx_language_laws.proofs.TellsInitializers.{copy_tells}

condition_value_tells : (room : ℕ) → Tells IsLater Told (condition_value (phrases_at room) (inner_at room).phrases)
unfolding condition_value
condition_value_tells room state ahead = if_in (is_punct punct.EQUALS (kind_ahead ahead)) (past_in later_is_told (copy_tells later_is_told (phrases_tell room (both_tell room).types) (both_tell room).phrases state (behind ahead))) (quiet_in later_is_told refl)

pub condition_part_tells : (room : ℕ) (name : Lexeme) (of : CxxType) (number : ℕ) (state : CxxState) (ahead : Ahead) → HasNumber number state → ToldIn IsLater Told state ahead (condition_part answers (phrases_at room) (inner_at room).phrases name of number state ahead)
unfolding condition_part
condition_part_tells room name of number state ahead there =
    then_there later_is_told number there (complete_tells later_is_told name of state ahead) (λ whole state ahead there.
    then_there later_is_told number there (looked_in later_is_told state ahead) (λ from state ahead there.
    then_there later_is_told number there (condition_value_tells room state ahead) (λ read state ahead there.
    then_there later_is_told number there (looked_in later_is_told state ahead) (λ to state ahead there.
    then_there later_is_told number there (ask_in ahead (initialize_tells later_is_told answers of (initializer_tree read from to) state ahead)) (λ tree state ahead there.
    then_there later_is_told number there (some_elements_tell name (type_known of tree) state ahead) (λ fits state ahead there.
    then_in later_is_told (ask_in ahead (calm_by later_is_told (note_tells name number of tree state ahead there))) (λ noted.
    give_in later_is_told (tree ∷ []))))))))

pub keep_tested_tells : {told : CxxState → Ahead → Stopped → Type 0} → (number : ℕ) → Answers IsLater told (keep_tested number)
unfolding keep_tested
keep_tested_tells number state ahead = tells_answer (tt, with_tested (Some number) state) (later_same state (with_tested (Some number) state) refl refl refl)

-- ---- what is linked (3.5)

pub local_function_tells : (said : Said) (from : Ahead) (declarator : Declarator) → Tells IsLater Quietly (local_function said from declarator)
unfolding local_function
local_function_tells said from declarator state ahead =
    let name = name_of_declarator declarator in
    let of = declared_type declarator.layers said.of in
    then_in later_is_quiet (ask_in ahead (function_answer_tells (own_parameters declarator.layers) name of state ahead)) (λ number state ahead.
    then_in later_is_quiet (synonym_ended_tells state ahead) (λ ended state ahead.
    then_in later_is_quiet (looked_in later_is_quiet state ahead) (λ to. give_in later_is_quiet (declarator_tree said.is_extern name of number declarator.parts from to))))

linked_ended_tells : Tells IsLater Quietly linked_ended
unfolding linked_ended
linked_ended_tells state ahead = if_in (begins_initializer ahead) (quiet_in later_is_quiet refl) (synonym_ended_tells state ahead)

pub local_extern_tells : (said : Said) (from : Ahead) (declarator : Declarator) → Tells IsLater Quietly (local_extern said from declarator)
unfolding local_extern
local_extern_tells said from declarator state ahead =
    let name = name_of_declarator declarator in
    let of = declared_type declarator.layers said.of in
    then_in later_is_quiet (ask_in ahead (linked_object_tells name of state ahead)) (λ number state ahead.
    then_in later_is_quiet (linked_ended_tells state ahead) (λ ended state ahead.
    then_in later_is_quiet (looked_in later_is_quiet state ahead) (λ to. give_in later_is_quiet (declarator_tree true name of number declarator.parts from to))))

-- 6.4: a function in a condition has no `=` behind it
pub tested_function_tells : (said : Said) (declarator : Declarator) → Tells IsLater Quietly (tested_function said declarator)
unfolding tested_function
tested_function_tells said declarator state ahead =
    then_in later_is_quiet (ask_in ahead (function_answer_tells (own_parameters declarator.layers) (name_of_declarator declarator) (declared_type declarator.layers said.of) state ahead)) (λ number state ahead. quiet_in later_is_quiet refl)
