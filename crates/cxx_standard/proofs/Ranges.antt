-- What the kind of a type names is in the graph.
use Rattle.std.specs.Prelude.{ℕ, ◌≡◌, ◌<◌, List, length}
use Rattle.std.proofs.Common.{subst, sym}
use Rattle.cxx_model.specs.declared.base.Base.{Base}
use Rattle.cxx_model.specs.declared.base.Base.TheVariants as base
use Rattle.cxx_model.specs.Facts.Fitted.{Fitted}
use Rattle.cxx_model.specs.Facts.Graph.{Graph, IsTypeInRange}
use Rattle.cxx_model.specs.Types.Numbers.{type_at}
use Rattle.cxx_model.specs.Types.Trees.{CxxType, fundamental, class_type, enumeration, pointer_to, reference_to, array_of, function_of, qualified, type_parameter, specialisation, nested_in}
use Rattle.cxx_meaning.specs.Conversions.Kinds.{CxxKind, kind_of, kind_of_base}
use Rattle.cxx_standard.specs.Views.{IsKindInRange}

base_in_range : (graph : Graph) (of : Base) → IsKindInRange graph (kind_of_base of)
base_in_range graph base.Void = tt
base_in_range graph _ = tt

type_in_range : (graph : Graph) (t : CxxType) → IsTypeInRange graph t → IsKindInRange graph (kind_of t)
type_in_range graph (fundamental of) ok = base_in_range graph of
type_in_range graph (class_type n) ok = ok
type_in_range graph (enumeration n) ok = ok
type_in_range graph (pointer_to t) ok = tt
type_in_range graph (reference_to t) ok = tt
type_in_range graph (array_of t bound) ok = tt
type_in_range graph (function_of r ts ellipsis cv) ok = tt
type_in_range graph (qualified cv t) ok = type_in_range graph t ok
type_in_range graph (type_parameter depth index) ok = tt
type_in_range graph (specialisation n arguments) ok = tt
type_in_range graph (nested_in t word) ok = tt

pub kind_in_range : (graph : Graph) (types : List CxxType) (n : ℕ) (k : CxxKind) → Fitted graph types → n < length types → k ≡ kind_of (type_at types n) → IsKindInRange graph k
kind_in_range graph types n k fitted known is =
    subst (λ (k : CxxKind). IsKindInRange graph k) (sym is) (type_in_range graph (type_at types n) (fitted.names n known))
