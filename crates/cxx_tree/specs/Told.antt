-- The places at which somebody was asked which function a call means, as a state tells them.
use Rattle.std.specs.Prelude.{◌≡◌, IsTrue, List, Option, Some, None}
use Rattle.cxx_model.specs.declared.place.Place.{Place}
use Rattle.cxx_overload.specs.declared.chooser.Choosing.{Choosing}
use Rattle.cxx_overload.specs.Choosers.{told_by}
use Rattle.cxx_reading.specs.State.{CxxCall}
use Rattle.cxx_tree.specs.Asked.{places_of, told_where}
use Rattle.cxx_tree.specs.Held.{Held, meaning}

-- those of the calls, where any are told
unfoldable pub told : Held → Option (List Place)
told held = told_where held.tells (places_of (meaning held).calls)

-- the places of some calls, where somebody tells at which places it was asked
abbrev pub told_as : Option (List Place) → List CxxCall → Option (List Place)
told_as None calls = None
told_as (Some before) calls = Some (places_of calls)

-- Somebody is there who can be asked. Places are told exactly where `chooser` tells any, and they are those of the calls, in
-- order.
pub record IsAskedBy (chooser : Choosing) (held : Held) : Type 0 where
  pub asks : IsTrue held.asks
  pub places : told held ≡ told_as (told_by chooser) (meaning held).calls
