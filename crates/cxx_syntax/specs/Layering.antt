-- What the layers of a declarator make of a type, from the type of the specifiers inward.
use Rattle.std.specs.Prelude.{ℕ, ◌≡◌, ◌<◌, Bool, false, true, if◌then◌else◌, ◌||◌, List, length, drop, Option, None, Some}
use Rattle.cxx_model.specs.declared.base.Base.TheVariants as base
use Rattle.cxx_model.specs.declared.evidence.SubstitutionText.{SubstitutionText}
use Rattle.cxx_model.specs.declared.evidence.SubstitutionText.TheVariants as text
use Rattle.cxx_model.specs.declared.types.TypeId.{TypeId}
use Rattle.cxx_model.specs.Types.Trees.{CxxType, fundamental}
use Rattle.cxx_reading.specs.Declarators as definition
use Rattle.cxx_reading.specs.Declarators.{pointer_layer, reference_layer, array_layer, function_layer, declared_type, is_below_one, is_function_type, is_reference, is_void, refused_in}
use Rattle.cxx_cursor.specs.declared.declarator.Layer.{Layer}
use Rattle.cxx_syntax.specs.declared.layers.Footing.{Footing}
use Rattle.cxx_cursor.specs.Views.{layers_in}
use Rattle.cxx_tree.specs.Held.{Held, meaning, type_of}
use Rattle.cxx_tree.specs.Later.{Later}

-- `void` without cv words
abbrev pub is_bare_void : CxxType → Bool
is_bare_void (fundamental base.Void) = true
is_bare_void _ = false

-- what of a type decides whether a layer may stand on it
abbrev pub footing_of : CxxType → Footing
footing_of of = record { is_void = is_void of; is_reference = is_reference of; is_function = is_function_type of }

-- the same of what a layer makes
abbrev pub footing_on : definition.Layer → Footing
footing_on (pointer_layer cv) = record { is_void = false; is_reference = false; is_function = false }
footing_on reference_layer = record { is_void = false; is_reference = true; is_function = false }
footing_on (array_layer bound) = record { is_void = false; is_reference = false; is_function = false }
footing_on (function_layer parameters ellipsis scope) = record { is_void = false; is_reference = false; is_function = true }

-- why a layer is not made on such a footing
abbrev pub refused_by : definition.Layer → Footing → Option SubstitutionText
refused_by (pointer_layer cv) footing = if footing.is_reference then Some text.PointerToReference else None
refused_by reference_layer footing = if footing.is_reference then Some text.ReferenceToReference else (if footing.is_void then Some text.ReferenceToVoid else None)
refused_by (array_layer bound) footing =
    if footing.is_void || (footing.is_reference || footing.is_function) then Some text.ForbiddenElement else (
    if is_below_one bound then Some text.SizeBelowOne else
    None)
refused_by (function_layer parameters ellipsis scope) footing = None

-- The layers behind the first ones made a type.
pub record IsDeclaredFrom (at : ℕ) (layers : List Layer) (old new : Held) (of made : TypeId) : Type 0 where
  pub is : type_of new made ≡ declared_type (layers_in old.types (drop at layers)) (type_of old of)
  pub known : made.0 < length new.types
  pub later : Later old new
  pub same : meaning new ≡ meaning old

-- The layers behind the first ones are not refused, and what they make of a type is such a footing.
pub record IsFooting (at : ℕ) (types : List CxxType) (layers : List Layer) (of : CxxType) (footing : Footing) : Type 0 where
  pub fits : refused_in (layers_in types (drop at layers)) of ≡ None
  pub is : footing_of (declared_type (layers_in types (drop at layers)) of) ≡ footing
