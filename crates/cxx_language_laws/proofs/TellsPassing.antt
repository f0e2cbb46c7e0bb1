-- What stops the readers that pass over tokens says nothing of declarations.
use Rattle.std.proofs.Common.{refl}
use Rattle.std.specs.Prelude.{ℕ, List, [], not, ◌&&◌}
use Rattle.cxx_reading.specs.Reads.{More, Done, kind_ahead, count_ahead}
use Rattle.cxx_reading.specs.Shapes.{closes, opens}
use Rattle.cxx_reading.specs.Tokens.{is_end}
use Rattle.cxx_later.specs.Defaults.{are_closed, deferred_passed, deferred_step, ends_parameter}
use Rattle.cxx_later.specs.Passing.{body_passed, closed, closes_by, innermost, never_closed, passing_step, token_passed}
use Rattle.cxx_language_laws.proofs.Tells.{Always, Quietly, Tells, give_in, if_in, next_in, quiet_in, repeat_tells, same_in, then_in, unit_is_told}

token_passed_tells : (closers : List ℕ) → Tells Always Quietly (token_passed closers)
unfolding token_passed
token_passed_tells closers state ahead =
    if_in (is_end (kind_ahead ahead)) (quiet_in unit_is_told refl) (
    if_in (opens (kind_ahead ahead)) (next_in unit_is_told _ state ahead) (
    if_in (not (closes (kind_ahead ahead))) (next_in unit_is_told _ state ahead) (
    if_in (closes_by (innermost closers) (kind_ahead ahead)) (next_in unit_is_told _ state ahead) (quiet_in unit_is_told refl))))

never_closed_tells : (closers : List ℕ) → Tells Always Quietly (never_closed closers)
never_closed_tells closers state ahead = quiet_in unit_is_told refl

-- ---- a body (9.3)

passing_tells : (closers : List ℕ) → Tells Always Quietly (passing_step closers)
unfolding passing_step
passing_tells closers state ahead = then_in unit_is_told (token_passed_tells closers state ahead) (λ left. give_in unit_is_told (closed left))

pub passed_tells : Tells Always Quietly body_passed
unfolding body_passed
passed_tells state ahead = repeat_tells unit_is_told passing_step never_closed passing_tells never_closed_tells _ _ state _

-- ---- a default argument (8.3.6)

deferred_step_tells : (closers : List ℕ) → Tells Always Quietly (deferred_step closers)
unfolding deferred_step
deferred_step_tells closers state ahead =
    if_in (are_closed closers && ends_parameter (kind_ahead ahead)) (same_in unit_is_told (Done tt) state ahead)
    (then_in unit_is_told (token_passed_tells closers state ahead) (λ left. give_in unit_is_told (More left)))

pub deferred_tells : Tells Always Quietly deferred_passed
unfolding deferred_passed
deferred_tells state ahead = repeat_tells unit_is_told deferred_step never_closed deferred_step_tells never_closed_tells (count_ahead ahead) [] state ahead
