-- The type that a declarator gives its name, in the words of 8.3.
use Rattle.std.specs.Prelude.{ℕ, Bool, List, [], ◌∷◌, ◌++◌}
use Rattle.cxx_model.specs.declared.types.Cv.{Cv}
use Rattle.cxx_model.specs.Types.Trees.{CxxType, pointer_to, reference_to, array_of, function_of, CxxTypes, CxxBound, with_cv}
use Rattle.cxx_reading.specs.Declarators.{Layer, pointer_layer, reference_layer, array_layer, function_layer, no_cv}

-- 8.3: In a declaration `T D`, where `of` is the type T of the specifiers, the name in D has a type. Of D it matters what
-- stands round the name, from it outward, so that what `* E`, `& E`, `E [ .. ]` and `E ( .. )` add to E comes last.
-- Brackets alone, `( E )`, add nothing.
--
-- In each sentence `derived` is the derived-declarator-type-list: for whatever T, in `T E` the name has the type "derived T".
pub data HasType : List Layer → CxxType → CxxType → Type 0 where
  -- 8.3: D is the name alone: the name has the type T
  name_alone : (of : CxxType) → HasType [] of of
  -- 8.3.1: D is `* cv E`: the name has the type "derived cv pointer to T"
  star_before : (inside : List Layer) (derived : CxxType → CxxType) → ((of : CxxType) → HasType inside of (derived of))
      → (cv : Cv) (of : CxxType) → HasType (inside ++ pointer_layer cv ∷ []) of (derived (with_cv cv (pointer_to of)))
  -- 8.3.2: D is `& E`: the name has the type "derived reference to T"
  ampersand_before : (inside : List Layer) (derived : CxxType → CxxType) → ((of : CxxType) → HasType inside of (derived of))
      → (of : CxxType) → HasType (inside ++ reference_layer ∷ []) of (derived (reference_to of))
  -- 8.3.4: D is `E [ bound ]`: the name has the type "derived array of bound T"
  bound_behind : (inside : List Layer) (derived : CxxType → CxxType) → ((of : CxxType) → HasType inside of (derived of))
      → (bound : CxxBound) (of : CxxType) → HasType (inside ++ array_layer bound ∷ []) of (derived (array_of of bound))
  -- 8.3.5: D is `E ( parameters )`: the name has the type "derived function of (parameters) returning T"
  parameters_behind : (inside : List Layer) (derived : CxxType → CxxType) → ((of : CxxType) → HasType inside of (derived of))
      → (parameters : CxxTypes) (ellipsis : Bool) (scope : ℕ) (of : CxxType) → HasType (inside ++ function_layer parameters ellipsis scope ∷ []) of (derived (function_of of parameters ellipsis no_cv))
