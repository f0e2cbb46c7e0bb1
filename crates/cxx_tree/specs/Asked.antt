-- The calls of a reading, and who is asked which function a call means (13.3).
use Rattle.std.specs.Prelude.{◌≡◌, Bool, true, false, List, [], ◌∷◌, Option, Some, None}
use Rattle.cxx_model.specs.declared.place.Place.{Place}
use Rattle.cxx_overload.specs.declared.chooser.Choosing.{Choosing}
use Rattle.cxx_overload.specs.Choosers.{told_by}
use Rattle.cxx_reading.specs.State.{CxxCall}
use Rattle.cxx_tree.specs.declared.kept.Decided.{Decided}

-- The calls that were decided so far, whether the one who is asked tells where that was, and whether it is there: it is not
-- while it is asked, and where memory ran out meanwhile.
pub record Asked : Type 0 where
  pub calls : List Decided
  pub tells : Bool
  pub asks : Bool

abbrev pub places_at : List Decided → List Place
places_at [] = []
places_at (call ∷ others) = call.place ∷ places_at others

-- the places of the calls of a reading, in order
abbrev pub places_of : List CxxCall → List Place
places_of [] = []
places_of (call ∷ others) = call.place ∷ places_of others

-- some places, where they are told
abbrev pub told_where : Bool → List Place → Option (List Place)
told_where true places = Some places
told_where false places = None

-- Whoever is there tells the places of the calls, where it tells any.
abbrev pub TellsCalls : Option Choosing → Bool → List Decided → Type 0
TellsCalls None tells calls = Unit {0}
TellsCalls (Some chooser) tells calls = told_by chooser ≡ told_where tells (places_at calls)
