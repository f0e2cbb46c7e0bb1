-- Who is asked which function a call means, behind the reading of a unit.
use Rattle.std.specs.Prelude.{◌≡◌, Bool, IsTrue, List, Option, Some, None, is_some, Result, Ok, Err, IfOk}
use Rattle.std.proofs.Common.{ap, ◌∙◌}
use Rattle.cxx_model.specs.declared.place.Place.{Place}
use Rattle.cxx_model.specs.declared.stop.Stop.{Stop}
use Rattle.cxx_overload.specs.declared.chooser.Choosing.{Choosing}
use Rattle.cxx_overload.specs.Choosers.{told_by}
use Rattle.cxx_reading.specs.State.{CxxCall}
use Rattle.cxx_tree.specs.Asked.{places_of, told_where}
use Rattle.cxx_tree.specs.Held.{Held, meaning}
use Rattle.cxx_tree.specs.Later.{Later}
use Rattle.cxx_tree.specs.Told.{IsAskedBy, told, told_as}

told_by_as : (told : Option (List Place)) (tells : Bool) (calls : List CxxCall) → tells ≡ is_some told → told_where tells (places_of calls) ≡ told_as told calls
told_by_as None tells calls is = ap (λ b. told_where b (places_of calls)) is
told_by_as (Some places) tells calls is = ap (λ b. told_where b (places_of calls)) is

is_asked : (chooser : Choosing) (held : Held) → held.tells ≡ is_some (told_by chooser) → IsTrue held.asks → IsAskedBy chooser held
unfolding told
is_asked chooser held tells asks = record { asks = asks; places = told_by_as (told_by chooser) held.tells (meaning held).calls tells }

-- what was told of the first state is told of the last
pub asked_by : (chooser : Choosing) (first ended : Held) (result : Result Held Stop) → first.tells ≡ is_some (told_by chooser) → Later first ended → IfOk result (λ after. after ≡ ended) → IfOk result (λ after. IsTrue after.asks) → IfOk result (IsAskedBy chooser)
asked_by chooser first ended (Ok after) tells later same asks = is_asked chooser after (ap (λ (h : Held). h.tells) same ∙ (later.tells ∙ tells)) asks
asked_by chooser first ended (Err why) tells later same asks = tt
