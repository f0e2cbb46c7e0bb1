-- What is read behind a type that was made is read as before it.
use Rattle.std.specs.Prelude.{◌≡◌, Result}
use Rattle.std.proofs.Common.{subst}
use Rattle.cxx_model.specs.declared.stop.Stop.{Stop}
use Rattle.cxx_model.specs.declared.types.TypeId.{TypeId}
use Rattle.cxx_model.specs.Types.Numbers.{type_at}
use Rattle.cxx_model.specs.Types.Trees.{CxxType}
use Rattle.cxx_phrases.specs.Knot.{type_declared}
use Rattle.cxx_reading.specs.Reads.{Ahead}
use Rattle.cxx_cursor.proofs.Kept.{later_trans, layers_kept, trees_kept}
use Rattle.cxx_cursor.specs.Asking.{IsTypeKnown}
use Rattle.cxx_cursor.specs.declared.declarator.Declarator.{Declarator}
use Rattle.cxx_cursor.specs.Reading.{IsRead}
use Rattle.cxx_cursor.specs.Views.{IsDeclarator, declarator_of}
use Rattle.cxx_tree.specs.Held.{Held, meaning, type_of}
use Rattle.cxx_tree.specs.Later.{Later}

pub type_carried : (old mid new : Held) (end : Ahead) (result : Result TypeId Stop) (of : TypeId) (wanted : CxxType) (declarator : Declarator) → Later old mid → meaning mid ≡ meaning old → type_at mid.types of.0 ≡ wanted → IsDeclarator old declarator
    → IsRead type_of IsTypeKnown mid new end result (type_declared (type_of mid of) (declarator_of mid declarator) (meaning mid) end)
    → IsRead type_of IsTypeKnown old new end result (type_declared wanted (declarator_of old declarator) (meaning old) end)
type_carried old mid new end result of wanted declarator later same is known read = record {
  is = (
      let layers = layers_kept old mid declarator.layers later known.layers in
      let parts = trees_kept old mid declarator.parts later known.parts in
      let whole : declarator_of mid declarator ≡ declarator_of old declarator = cc in
      let all : type_declared (type_of mid of) (declarator_of mid declarator) (meaning mid) end ≡ type_declared wanted (declarator_of old declarator) (meaning old) end = cc in
      subst (λ r. IsRead type_of IsTypeKnown mid new end result r) all read).is;
  later = later_trans old mid new later read.later;
}
