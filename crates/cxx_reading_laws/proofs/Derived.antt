-- The type that the layers of a declarator make is that of 8.3, and no other.
use Rattle.std.proofs.Common.{refl, sym, ap, subst, ◌≡◌, ◌∙◌}
use Rattle.std.specs.Prelude.{List, [], ◌∷◌, ◌++◌}
use Rattle.std.proofs.lemmas.List.{append-nil, append_assoc}
use Rattle.cxx_model.specs.Types.Trees.{CxxType, pointer_to, reference_to, array_of, function_of, with_cv}
use Rattle.cxx_reading.specs.Declarators.{Layer, pointer_layer, reference_layer, array_layer, function_layer, layer_on, declared_type, no_cv}
use Rattle.cxx_reading_laws.specs.Derived.{HasType, name_alone, star_before, ampersand_before, bound_behind, parameters_behind}

-- the last layer is made of the type of the specifiers
outermost : (inside : List Layer) (layer : Layer) (of : CxxType) → declared_type (inside ++ layer ∷ []) of ≡ declared_type inside (layer_on layer of)
unfolding declared_type
outermost [] layer of = refl
outermost (first ∷ inside) layer of = ap (λ made. layer_on first made) (outermost inside layer of)

-- what is so of a declarator
abbrev IsSo : List Layer → Type 0
IsSo layers = (of : CxxType) → HasType layers of (declared_type layers of)

one_more : (inside : List Layer) → IsSo inside → (layer : Layer) → IsSo (inside ++ layer ∷ [])
one_more inside is layer of = subst (λ made. HasType (inside ++ layer ∷ []) of made) (sym (outermost inside layer of)) (by layer)
  where
    by : (layer : Layer) → HasType (inside ++ layer ∷ []) of (declared_type inside (layer_on layer of))
    by (pointer_layer cv) = star_before inside (declared_type inside) is cv of
    by reference_layer = ampersand_before inside (declared_type inside) is of
    by (array_layer bound) = bound_behind inside (declared_type inside) is bound of
    by (function_layer parameters ellipsis scope) = parameters_behind inside (declared_type inside) is parameters ellipsis scope of

and_more : (inside layers : List Layer) → IsSo inside → IsSo (inside ++ layers)
and_more inside [] is = subst IsSo (sym (append-nil inside)) is
and_more inside (layer ∷ layers) is = subst IsSo (append_assoc inside (layer ∷ []) layers) (and_more (inside ++ layer ∷ []) layers (one_more inside is layer))

none : IsSo []
unfolding declared_type
none of = name_alone of

pub type_is_derived : (layers : List Layer) (of : CxxType) → HasType layers of (declared_type layers of)
type_is_derived layers = and_more [] layers none

pub only_type : (layers : List Layer) (of type : CxxType) → HasType layers of type → type ≡ declared_type layers of
unfolding declared_type
only_type layers of type (name_alone t) = refl
only_type layers of type (star_before inside derived is cv t) = only_type inside _ _ (is (with_cv cv (pointer_to t))) ∙ sym (outermost inside (pointer_layer cv) t)
only_type layers of type (ampersand_before inside derived is t) = only_type inside _ _ (is (reference_to t)) ∙ sym (outermost inside reference_layer t)
only_type layers of type (bound_behind inside derived is bound t) = only_type inside _ _ (is (array_of t bound)) ∙ sym (outermost inside (array_layer bound) t)
only_type layers of type (parameters_behind inside derived is parameters ellipsis scope t) = only_type inside _ _ (is (function_of t parameters ellipsis no_cv)) ∙ sym (outermost inside (function_layer parameters ellipsis scope) t)
