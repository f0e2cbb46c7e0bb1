-- What a name means and what a call means stay the same while the state grows.
use Rattle.std.specs.Prelude.{◌≡◌, List, length, Option, Some, None, refl}
use Rattle.std.proofs.Common.{ap, ◌∙◌}
use Rattle.cxx_model.specs.declared.types.TypeId.{TypeId}
use Rattle.cxx_model.specs.Facts.Declarations.{type_of_option}
use Rattle.cxx_model.specs.Facts.Fitted.{IsTypeNumberBelow}
use Rattle.cxx_model.specs.Types.Numbers.{type_at}
use Rattle.cxx_model.specs.Types.Trees.{CxxType}
use Rattle.cxx_tree.specs.Held.{Held}
use Rattle.cxx_tree.specs.Later.{Later}
use Rattle.cxx_expr.specs.declared.questions.Chosen.{Chosen}
use Rattle.cxx_expr.specs.Names.{Means}
use Rattle.cxx_expr.specs.Questions.{CxxChosen}
use Rattle.cxx_expr.specs.Views.{IsChosen, chosen_of, types_in}
use Rattle.cxx_expr.proofs.Kept.{type_later, types_kept, types_later}
use Rattle.cxx_called.specs.declared.names.Meant.{Meant}
use Rattle.cxx_called.specs.Views.{IsMeant, means_of}

pub means_later : (old new : Held) (meant : Meant) → Later old new → IsMeant old meant → IsMeant new meant
means_later old new meant later ok = type_later old new meant.operand.of later ok

pub means_kept : (old new : Held) (meant : Meant) → Later old new → IsMeant old meant → means_of new meant ≡ means_of old meant
means_kept old new meant later ok =
    (let make : CxxType → Means = λ t. record { target = meant.target.0; operand = record { of = t; lvalue = meant.operand.lvalue; constant = meant.operand.constant }; is_enumerator = meant.is_enumerator } in
    ap make (later.types.same meant.operand.of.0 ok))

pub chosen_later : (old new : Held) (chosen : Chosen) → Later old new → IsChosen old chosen → IsChosen new chosen
chosen_later old new chosen later ok = record {
  parameters = types_later old new chosen.parameters later ok.parameters;
  result = type_later old new chosen.result later ok.result;
}

pub chosen_kept : (old new : Held) (chosen : Chosen) → Later old new → IsChosen old chosen → chosen_of new chosen ≡ chosen_of old chosen
chosen_kept old new chosen later ok =
    let make : List CxxType → CxxType → CxxChosen = λ ts t. record { target = chosen.target.0; parameters = ts; result = t; ellipsis = chosen.ellipsis; number = chosen.number } in
    ap (λ ts. make ts (type_at new.types chosen.result.0)) (types_kept old new chosen.parameters later ok.parameters)
    ∙ ap (λ t. make (types_in old.types chosen.parameters) t) (later.types.same chosen.result.0 ok.result)

-- the type of an object, where there is one
pub object_later : (old new : Held) (object : Option TypeId) → Later old new → IsTypeNumberBelow (length old.types) object → IsTypeNumberBelow (length new.types) object
object_later old new None later ok = tt
object_later old new (Some of) later ok = type_later old new of later ok

pub object_kept : (old new : Held) (object : Option TypeId) → Later old new → IsTypeNumberBelow (length old.types) object → type_of_option new.types object ≡ type_of_option old.types object
object_kept old new None later ok = refl
object_kept old new (Some of) later ok = (let make : CxxType → Option CxxType = λ t. Some t in ap make (later.types.same of.0 ok))
