-- What each of those who are asked tells.
use Rattle.std.specs.Prelude.{◌≡◌, List, [], Option, Some, None, IfSome}
use Rattle.cxx_model.specs.declared.place.Place.{Place}
use Rattle.cxx_overload.specs.declared.chooser.Choosing.{Choosing}
use Rattle.cxx_overload.specs.declared.chooser.Choosing.TheVariants as choosing

abbrev pub told_by : Choosing → Option (List Place)
told_by (choosing.Champion champion) = None
told_by (choosing.Recorder places) = Some places

-- it was asked nothing yet, as far as it tells
abbrev pub IsNew : Choosing → Type 0
IsNew chooser = IfSome (told_by chooser) (λ places. places ≡ [])
