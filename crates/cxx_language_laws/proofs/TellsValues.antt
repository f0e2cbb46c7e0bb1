-- What the readers of bounds and of the values of enumerators keep of the state, and what stops them.
use Rattle.std.proofs.Common.{refl}
use Rattle.std.specs.Prelude.{ℕ, Bool, List, [], ◌∷◌, ◌++◌, Some, None}
use Rattle.cxx_model.specs.declared.punct.TheConstants as punct
use Rattle.cxx_model.specs.Stops.{Stopped}
use Rattle.cxx_model.specs.Text.Lexemes.{Lexeme}
use Rattle.cxx_phrases.specs.Phrases.{Phrases, Inner}
use Rattle.cxx_reading.specs.Reads.{Ahead, give, count_ahead, kind_ahead, behind}
use Rattle.cxx_reading.specs.Tokens.{is_punct, is_name}
use Rattle.cxx_reading.specs.Syntax.{no_value}
use Rattle.cxx_reading.specs.Trees.{CxxTree}
use Rattle.cxx_knot.specs.Readers.{Asking, valued, bound_value, bound_at, value_at, enumerator_at, enumerator_step, enumerators_at}
use Rattle.cxx_language_laws.proofs.PhrasesTell.{PhrasesTell, InnerTell}
use Rattle.cxx_language_laws.proofs.Tells.{IsTold, Tells, quiet_in, KindsTell, if_in, past_in, then_in, ask_in, same_in, next_in, repeat_tells, token_told, punct_in, give_in, tokens_in, unit_is_told}
use Rattle.cxx_language_laws.proofs.TellsLevels.{conditional_tells}
use Rattle.cxx_language_laws.proofs.TellsSyntax.{enumerator_ended_tells}

valued_tells : {S : Type 0} {kept : S → S → Type 0} {told : S → Ahead → Stopped → Type 0} → IsTold kept told → (asks : Asking S) → KindsTell kept told asks.kinds → {at : Phrases S} {inner : Inner S} → PhrasesTell kept told at inner → InnerTell kept told inner → Tells kept told (valued asks at inner)
unfolding valued
valued_tells is asks kinds at inner state ahead = then_in is (conditional_tells is at inner state ahead) (λ tree state ahead. then_in is (ask_in ahead (kinds.constant tree state ahead)) (λ value. give_in is (Some value, tree ∷ [])))

bound_value_tells : {S : Type 0} {kept : S → S → Type 0} {told : S → Ahead → Stopped → Type 0} → IsTold kept told → (asks : Asking S) → KindsTell kept told asks.kinds → {at : Phrases S} {inner : Inner S} → PhrasesTell kept told at inner → InnerTell kept told inner → Tells kept told (bound_value asks at inner)
unfolding bound_value
bound_value_tells is asks kinds at inner state ahead = then_in is (valued_tells is asks kinds at inner state ahead) (λ value state ahead. then_in is (tokens_in is (punct_in unit_is_told punct.RIGHT_BRACKET) state ahead) (λ closed. give_in is value))

pub bound_tells : {S : Type 0} {kept : S → S → Type 0} {told : S → Ahead → Stopped → Type 0} → IsTold kept told → (asks : Asking S) → KindsTell kept told asks.kinds → {at : Phrases S} {inner : Inner S} → PhrasesTell kept told at inner → InnerTell kept told inner → (is_first : Bool) → Tells kept told (bound_at asks at inner is_first)
unfolding bound_at
bound_tells is asks kinds at inner is_first state ahead = if_in (is_punct punct.RIGHT_BRACKET (kind_ahead ahead)) (if_in is_first (next_in is (None, []) state ahead) (quiet_in is refl)) (bound_value_tells is asks kinds at inner state ahead)

value_tells : {S : Type 0} {kept : S → S → Type 0} {told : S → Ahead → Stopped → Type 0} → IsTold kept told → (asks : Asking S) → KindsTell kept told asks.kinds → {at : Phrases S} {inner : Inner S} → PhrasesTell kept told at inner → InnerTell kept told inner → Tells kept told (value_at asks at inner)
unfolding value_at no_value
value_tells is asks kinds at inner state ahead = if_in (is_punct punct.EQUALS (kind_ahead ahead)) (past_in is (valued_tells is asks kinds at inner state (behind ahead))) (same_in is (None, []) state ahead)

enumerator_tells : {S : Type 0} {kept : S → S → Type 0} {told : S → Ahead → Stopped → Type 0} → IsTold kept told → (asks : Asking S) → KindsTell kept told asks.kinds → {at : Phrases S} {inner : Inner S} → PhrasesTell kept told at inner → InnerTell kept told inner → (number : ℕ) (so_far : List CxxTree) (name : Lexeme) → Tells kept told (enumerator_at asks at inner number so_far name)
unfolding enumerator_at
enumerator_tells is asks kinds at inner number so_far name state ahead = then_in is (value_tells is asks kinds at inner state ahead) (λ value state ahead. then_in is (ask_in ahead (kinds.enumerator number name value.0 state ahead)) (λ declared. give_in is (so_far ++ value.1)))

enumerator_step_tells : {S : Type 0} {kept : S → S → Type 0} {told : S → Ahead → Stopped → Type 0} → IsTold kept told → (asks : Asking S) → KindsTell kept told asks.kinds → {at : Phrases S} {inner : Inner S} → PhrasesTell kept told at inner → InnerTell kept told inner → (number : ℕ) (so_far : List CxxTree) → Tells kept told (enumerator_step asks at inner number so_far)
unfolding enumerator_step
enumerator_step_tells is asks kinds at inner number so_far state ahead = if_in (is_name (kind_ahead ahead)) (then_in is (then_in is (token_told is state ahead) (enumerator_tells is asks kinds at inner number so_far)) (enumerator_ended_tells is)) (quiet_in is refl)

pub enumerators_tell : {S : Type 0} {kept : S → S → Type 0} {told : S → Ahead → Stopped → Type 0} → IsTold kept told → (asks : Asking S) → KindsTell kept told asks.kinds → {at : Phrases S} {inner : Inner S} → PhrasesTell kept told at inner → InnerTell kept told inner → (number : ℕ) → Tells kept told (enumerators_at asks at inner number)
unfolding enumerators_at
enumerators_tell is a kinds {at = h} {inner = i} at inner number state ahead = if_in (is_punct punct.RIGHT_BRACE (kind_ahead ahead)) (next_in is [] state ahead) (repeat_tells is (enumerator_step a h i number) give (enumerator_step_tells is a kinds at inner number) (give_in is) (count_ahead ahead) [] state ahead)
