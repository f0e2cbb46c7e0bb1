-- What the bytes of a unit are, and what a plain form that was read again shows.
use Rattle.std.proofs.Common.{◌≡◌, ◌≤◌, ◌∙◌, ℕ, List, length, sym, ap, subst, Err}
use Rattle.std.specs.Prelude.{Result}
use Rattle.std.proofs.lemmas.Bool.{le-ltb}
use Rattle.cxx_model.specs.declared.fault.FaultText.TheVariants as says
use Rattle.cxx_model.specs.declared.limits.TheConstants as limits
use Rattle.cxx_model.specs.declared.options.Options.{Options}
use Rattle.cxx_model.specs.declared.place.Place.{Place}
use Rattle.cxx_model.specs.declared.token.Token.{Token}
use Rattle.cxx_model.specs.declared.token.TokenReason.{TokenReason}
use Rattle.cxx_model.specs.Stops.{fault}
use Rattle.cxx_model.specs.Text.Tokens.{Unread, BadAt, tokens_of}
use Rattle.cxx_tokens.specs.Answers.{IsFault}
use Rattle.cxx_tokens.specs.declared.fault.TokenFault.{TokenFault}
use Rattle.cxx_tokens.specs.declared.fault.TokenFault.TheVariants.{Bad}
use Rattle.cxx_command.specs.declared.unit.Outcome.{Outcome}
use Rattle.cxx_command.specs.Outcomes.{IsOutcome}
use Rattle.cxx_form.specs.Text.{plain_text}
use Rattle.cxx_reading.specs.Units.{CxxReading}
use Rattle.cxx_command.specs.declared.again.Shown.{Shown}
use Rattle.cxx_command.specs.Again.{read_again, shown_by}
use Rattle.cxx_command.specs.Outcome.{UnitOutcome, outcome_of, stopped_outcome, tokens_outcome}
use Rattle.cxx_command.specs.Shown.{IsShown}

pub unread_bad : (options : Options) (bytes : List ℕ) (why : TokenFault) (found : Result (List Token) Unread) (place : Place) (reason : TokenReason) (outcome : Outcome) → why ≡ Bad place reason → IsFault why found → IsOutcome options (stopped_outcome (fault place (says.BadToken reason))) outcome → IsOutcome options (tokens_outcome options bytes found) outcome
unread_bad options bytes why found place reason outcome is bad so =
    let told : found ≡ Err (BadAt place reason) = subst (λ (f : TokenFault). IsFault f found) is bad in
    subst (λ (f : Result (List Token) Unread). IsOutcome options (tokens_outcome options bytes f) outcome) (sym told) so

pub short_outcome : (options : Options) (bytes : List ℕ) (outcome : Outcome) → length bytes ≤ limits.MOST_BYTES → IsOutcome options (tokens_outcome options bytes (tokens_of bytes)) outcome → IsOutcome options (outcome_of options bytes) outcome
unfolding outcome_of
short_outcome options bytes outcome within is = rw (le-ltb limits.MOST_BYTES (length bytes) within) is

pub shown_as : (options : Options) (first : CxxReading) (text : List ℕ) (o : UnitOutcome) (shown : Shown) → text ≡ plain_text first → outcome_of options text ≡ o → IsShown (shown_by first o) shown → IsShown (read_again options first) shown
unfolding read_again
shown_as options first text o shown same is given =
    let found : o ≡ outcome_of options (plain_text first) = sym is ∙ ap (outcome_of options) same in
    subst (λ (x : UnitOutcome). IsShown (shown_by first x) shown) found given
