-- A list of parameters with one more.
use Rattle.std.specs.Prelude.{◌≡◌, ◌<◌, ◌++◌, ◌∷◌, [], length, List, Result, Ok, Err, IfOk, IfErr, refl}
use Rattle.std.proofs.Common.{ap, sym, subst, ◌∙◌, arith}
use Rattle.cxx_model.specs.declared.stop.Stop.{Stop}
use Rattle.cxx_model.specs.declared.stop.Stop.TheVariants as stop
use Rattle.cxx_model.specs.declared.types.TreeId.{TreeId}
use Rattle.cxx_model.specs.declared.types.TypeId.{TypeId}
use Rattle.cxx_model.specs.Stops.{Stops}
use Rattle.cxx_model.specs.Types.Numbers.{type_at, AreTypesBelow}
use Rattle.cxx_model.specs.Types.Trees.{CxxType}
use Rattle.cxx_reading.specs.Declarators as definition
use Rattle.cxx_reading.specs.Reads.{Ahead, got}
use Rattle.cxx_reading.specs.State.{CxxState}
use Rattle.cxx_reading.specs.Syntax.{with_parameter}
use Rattle.cxx_reading.specs.Trees.{CxxTree}
use Rattle.cxx_cursor.specs.declared.declarator.ParameterTypes.{ParameterTypes}
use Rattle.cxx_cursor.specs.Reading.{IsRead}
use Rattle.cxx_cursor.specs.Views.{AreParameters, parameters_of, types_in}
use Rattle.cxx_tree.specs.Arena.{tree_in, trees_in}
use Rattle.cxx_tree.specs.Held.{Held, meaning, trees, type_of}
use Rattle.cxx_tree.specs.Later.{Later}
use Rattle.cxx_cursor.proofs.Kept as kept

abbrev more : TypeId → TreeId → ParameterTypes → ParameterTypes
more of number so_far = record so_far { types = so_far.types ++ of ∷ []; parts = so_far.parts ++ number ∷ [] }

types_more : (old new : Held) (of : TypeId) (so_far : ParameterTypes) → Later old new → of.0 < length old.types → AreParameters old so_far → types_in new.types (so_far.types ++ of ∷ []) ≡ types_in old.types so_far.types ++ type_of old of ∷ []
types_more old new of so_far later known are =
    kept.types_append new.types so_far.types (of ∷ [])
    ∙ (ap (λ ts. ts ++ type_at new.types of.0 ∷ []) (kept.types_kept old new so_far.types later are.types)
    ∙ ap (λ (t : CxxType). types_in old.types so_far.types ++ t ∷ []) (kept.type_kept old new of later known))

trees_more : (old new : Held) (number : TreeId) (tree : CxxTree) (so_far : ParameterTypes) → Later old new → tree_in (trees new) number.0 ≡ tree → AreParameters old so_far → trees_in (trees new) (so_far.parts ++ number ∷ []) ≡ trees_in (trees old) so_far.parts ++ tree ∷ []
trees_more old new number tree so_far later is are =
    kept.trees_append (trees new) so_far.parts (number ∷ [])
    ∙ (ap (λ ts. ts ++ tree_in (trees new) number.0 ∷ []) (kept.trees_kept old new so_far.parts later are.parts)
    ∙ ap (λ (t : CxxTree). trees_in (trees old) so_far.parts ++ t ∷ []) is)

list_more : (old new : Held) (of : TypeId) (number : TreeId) (tree : CxxTree) (so_far : ParameterTypes) → Later old new → of.0 < length old.types → AreParameters old so_far → tree_in (trees new) number.0 ≡ tree
    → with_parameter (type_of old of) tree (parameters_of old so_far) ≡ parameters_of new (more of number so_far)
list_more old new of number tree so_far later known are is =
    let make : List CxxType → List CxxTree → definition.ParameterTypes = λ ts ps. record { types = ts; ellipsis = so_far.ellipsis; scope = so_far.scope.0; parts = ps } in
    ap (λ ts. make ts (trees_in (trees old) so_far.parts ++ tree ∷ [])) (sym (types_more old new of so_far later known are))
    ∙ ap (λ ps. make (types_in new.types (so_far.types ++ of ∷ [])) ps) (sym (trees_more old new number tree so_far later is are))

types_below_more : (count : _) (types : List TypeId) (of : TypeId) → AreTypesBelow count types → of.0 < count → AreTypesBelow count (types ++ of ∷ [])
types_below_more count types of all ok = kept.types_below_append count types (of ∷ []) all (ok, tt)

are_more : (old new : Held) (of : TypeId) (number : TreeId) (so_far : ParameterTypes) → Later old new → of.0 < length old.types → AreParameters old so_far → number.0 < length (trees new) → AreParameters new (more of number so_far)
are_more old new of number so_far later known are there = record {
  types = types_below_more (length new.types) so_far.types of (kept.types_later old new so_far.types later are.types) (kept.type_later old new of later known);
  parts = kept.trees_below_append (length (trees new)) so_far.parts (number ∷ []) (kept.trees_later old new so_far.parts later are.parts) (there, tt);
}

pub parameter_more : (old new : Held) (end : Ahead) (of : TypeId) (number : TreeId) (tree : CxxTree) (so_far : ParameterTypes) (r : Result ParameterTypes Stop) → Later old new → meaning new ≡ meaning old → of.0 < length old.types → AreParameters old so_far → number.0 < length (trees new) → tree_in (trees new) number.0 ≡ tree
    → IfOk r (λ list. list ≡ record so_far { types = so_far.types ++ of ∷ []; parts = so_far.parts ++ number ∷ [] }) → IfErr r (λ why. why ≡ stop.OutOfMemory)
    → IsRead parameters_of AreParameters old new end r (got (with_parameter (type_of old of) tree (parameters_of old so_far)) (meaning old) end)
parameter_more old new end of number tree so_far (Ok list) later same known are there is made memory =
    subst (λ (l : ParameterTypes). IsRead parameters_of AreParameters old new end (Ok l) (got (with_parameter (type_of old of) tree (parameters_of old so_far)) (meaning old) end)) (sym made) (record {
      is = (
        ap (λ (p : definition.ParameterTypes). got p (meaning old) end) (list_more old new of number tree so_far later known are is) ∙ ap (λ (s : CxxState). got (parameters_of new (more of number so_far)) s end) (sym same),
        are_more old new of number so_far later known are there,
      );
      later = later;
    })
parameter_more old new end of number tree so_far (Err why) later same known are there is made memory = record {
  is = subst (λ (w : Stop). Stops w (got (with_parameter (type_of old of) tree (parameters_of old so_far)) (meaning old) end)) (sym memory) tt;
  later = later;
}

-- each parameter has a type
pub types_counted : (types : List CxxType) (numbers : List TypeId) → length (types_in types numbers) ≡ length numbers
types_counted types [] = refl
types_counted types (number ∷ numbers) = let e : length (types_in types numbers) ≡ length numbers = types_counted types numbers in omega arith
