-- Lists of parameters whose types are not made yet.
use Rattle.std.specs.Prelude.{List, [], ◌∷◌, map, Option, Some, None}
use Rattle.std.specs.List.{flat_map}
use Rattle.cxx_candidates.specs.declared.shapes.Form.{Form}
use Rattle.cxx_candidates.specs.declared.shapes.Form.TheVariants as form
use Rattle.cxx_candidates.specs.declared.shapes.Shape.{Shape}
use Rattle.cxx_candidates.specs.declared.shapes.Slot.{Slot}

abbrev pub shape : Form → Slot → Option Slot → Shape
shape how one other = record { form = how; first = one; second = other }

abbrev pub alone : Slot → Shape
alone one = shape form.Value one None

abbrev pub beside : List Slot → Slot → List Shape
beside others one = map (λ other. shape form.Value one (Some other)) others

abbrev pub twice : Slot → Shape
twice one = shape form.Value one (Some one)

abbrev pub changing : Option Slot → Slot → List Shape
changing other one = shape form.Reference one other ∷ shape form.VolatileReference one other ∷ []

abbrev pub changing_beside : List Slot → Slot → List Shape
changing_beside others one = flat_map (λ other. changing (Some other) one) others

abbrev pub changing_same : Slot → List Shape
changing_same one = changing (Some one) one
