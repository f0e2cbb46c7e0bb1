-- A declared type is forbidden exactly where a layer of its declarator is refused, if its parts are not.
use Rattle.std.specs.Prelude.{Bool, true, false, ◌≡◌, refl, List, [], ◌∷◌, None, if◌then◌else◌}
use Rattle.cxx_model.specs.declared.types.Cv.{Cv}
use Rattle.cxx_model.specs.Types.Trees.{CxxType, pointer_to, qualified, layered, any_cv}
use Rattle.cxx_reading.specs.Declarators.{Layer, pointer_layer, reference_layer, array_layer, function_layer, layer_on, declared_type, refused_on, refused_in, forbidden, or_later, HasParts, HaveParts}

-- cv words forbid nothing
layered_forbids : (cv : Cv) (of : CxxType) → forbidden (layered cv of) ≡ forbidden of
layered_forbids cv of = by (any_cv cv)
  where
    by : (b : Bool) → forbidden (if b then qualified cv of else of) ≡ forbidden of
    by true = refl
    by false = refl

-- of one layer on a type
layer_forbids : (layer : Layer) (of : CxxType) → HasParts layer → forbidden (layer_on layer of) ≡ or_later (forbidden of) (refused_on layer of)
layer_forbids (pointer_layer cv) of parts = layered_forbids cv (pointer_to of)
layer_forbids reference_layer of parts = refl
layer_forbids (array_layer bound) of parts = refl
layer_forbids (function_layer parameters ellipsis scope) of parts = rw parts refl

-- of a whole declarator
pub declared_forbids : (layers : List Layer) (of : CxxType) → forbidden of ≡ None → HaveParts layers → forbidden (declared_type layers of) ≡ refused_in layers of
unfolding declared_type refused_in
declared_forbids [] of base parts = base
declared_forbids (layer ∷ layers) of base parts = rw (layer_forbids layer (declared_type layers of) parts.0) (rw (declared_forbids layers of base parts.1) refl)
