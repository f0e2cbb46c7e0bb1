-- What the reader of default arguments keeps of the state, and what stops it.
use Rattle.std.specs.Prelude.{ℕ, Bool, true, false, [], ◌∷◌}
use Rattle.cxx_model.specs.declared.place.Place.{Place}
use Rattle.cxx_model.specs.Stops.{Stopped}
use Rattle.cxx_model.specs.Types.Trees.{CxxType}
use Rattle.cxx_phrases.specs.Phrases.{Phrases, Inner}
use Rattle.cxx_reading.specs.Reads.{Ahead}
use Rattle.cxx_reading.specs.Trees.{CxxTree}
use Rattle.cxx_knot.specs.Readers.{Asking, Offering, fallback_at, fallback_by, fallback_later, fallback_now}
use Rattle.cxx_later.specs.Defaults.{passed_default_tree}
use Rattle.cxx_language_laws.proofs.PhrasesTell.{PhrasesTell, InnerTell}
use Rattle.cxx_language_laws.proofs.Tells.{IsTold, Tells, Answers, then_in, ask_in, looked_in, taken_in, tokens_in, give_in}
use Rattle.cxx_language_laws.proofs.TellsLevels.{assignment_tells}
use Rattle.cxx_language_laws.proofs.TellsPassing.{deferred_tells}
use Rattle.cxx_language_laws.proofs.TellsSyntax.{FallbackTells}

-- what is asked of a default argument (8.3.6)
pub record OffersTell {S : Type 0} (kept : S → S → Type 0) (told : S → Ahead → Stopped → Type 0) (asks : Offering S) : Type 0 where
  pub is_later : Answers kept told asks.is_later
  pub passed : (index : ℕ) (tree : CxxTree) → Answers kept told (asks.passed index tree)
  pub begun : (equals : Place) → Answers kept told (asks.begun equals)
  pub ended : (equals : Place) (was : Bool) (index : ℕ) (of : CxxType) (tree : CxxTree) → Answers kept told (asks.ended equals was index of tree)

fallback_now_tells : {S : Type 0} {kept : S → S → Type 0} {told : S → Ahead → Stopped → Type 0} → IsTold kept told → (asks : Asking S) → OffersTell kept told asks.defaults → {at : Phrases S} {inner : Inner S} → PhrasesTell kept told at inner → InnerTell kept told inner → FallbackTells kept told (fallback_now asks at inner)
unfolding fallback_now
fallback_now_tells is asks offers at inner index of state ahead = then_in is (taken_in is state ahead) (λ equals state ahead. then_in is (ask_in ahead (offers.begun equals state ahead)) (λ was state ahead. then_in is (assignment_tells is at inner state ahead) (λ tree state ahead. then_in is (ask_in ahead (offers.ended equals was index of tree state ahead)) (λ converted. give_in is (converted ∷ [])))))

-- 9.2 p2: one in a class is passed over
fallback_later_tells : {S : Type 0} {kept : S → S → Type 0} {told : S → Ahead → Stopped → Type 0} → IsTold kept told → (asks : Asking S) → OffersTell kept told asks.defaults → (room : ℕ) → FallbackTells kept told (fallback_later asks room)
unfolding fallback_later
fallback_later_tells is asks offers room index of state ahead =
    then_in is (taken_in is state ahead) (λ equals state ahead.
    then_in is (looked_in is state ahead) (λ from state ahead.
    then_in is (tokens_in is deferred_tells state ahead) (λ passed state ahead.
    then_in is (looked_in is state ahead) (λ to state ahead.
    then_in is (ask_in ahead (offers.passed index (passed_default_tree room equals of from to) state ahead)) (λ kept. give_in is (passed_default_tree room equals of from to ∷ []))))))

fallback_by_tells : {S : Type 0} {kept : S → S → Type 0} {told : S → Ahead → Stopped → Type 0} → IsTold kept told → (asks : Asking S) → OffersTell kept told asks.defaults → {at : Phrases S} {inner : Inner S} → PhrasesTell kept told at inner → InnerTell kept told inner → (index : ℕ) (of : CxxType) (is_later : Bool) → Tells kept told (fallback_by asks at inner index of is_later)
fallback_by_tells is asks offers {at = here} at inner index of true = fallback_later_tells is asks offers here.room index of
fallback_by_tells is asks offers at inner index of false = fallback_now_tells is asks offers at inner index of

pub fallback_at_tells : {S : Type 0} {kept : S → S → Type 0} {told : S → Ahead → Stopped → Type 0} → IsTold kept told → (asks : Asking S) → OffersTell kept told asks.defaults → {at : Phrases S} {inner : Inner S} → PhrasesTell kept told at inner → InnerTell kept told inner → FallbackTells kept told (fallback_at asks at inner)
unfolding fallback_at
fallback_at_tells is asks offers at inner index of state ahead = then_in is (ask_in ahead (offers.is_later state ahead)) (fallback_by_tells is asks offers at inner index of)
