-- The places at which somebody was asked which function a call means, as far as it tells them.
use Rattle.std.specs.Prelude.{◌≡◌, List, [], ◌∷◌, ◌++◌, Option, Some, None}
use Rattle.cxx_model.specs.declared.place.Place.{Place}
use Rattle.cxx_model.specs.declared.stop.Stop.{Stop}
use Rattle.cxx_model.specs.declared.stop.Stop.TheVariants as stop

-- it was asked at one place more, and answered
abbrev pub told_more : Place → Option (List Place) → Option (List Place)
told_more place None = None
told_more place (Some places) = Some (places ++ place ∷ [])

-- it was refused an answer: then nothing more is told, unless memory ran out
abbrev pub HasStayed : Option (List Place) → Option (List Place) → Stop → Type 0
HasStayed old new stop.OutOfMemory = Unit {0}
HasStayed old new (stop.Fault fault) = new ≡ old
HasStayed old new (stop.Limit kind) = new ≡ old
