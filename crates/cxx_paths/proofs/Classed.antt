-- The class that a name means is there (3.4.3.1).
use Rattle.std.specs.Prelude.{ℕ, ◌≡◌, ◌<◌, Bool, true, false, List, [], ◌∷◌, length, Option, Some, None, option_map, refl}
use Rattle.std.specs.List.{slice_get}
use Rattle.std.proofs.Common.{ap, sym, subst, ◌∙◌}
use Rattle.cxx_model.specs.declared.types.ClassId.{ClassId}
use Rattle.cxx_model.specs.Facts.Declarations as facts
use Rattle.cxx_model.specs.Facts.Declarations.{CxxFact, Declares, facts_at, graph_at}
use Rattle.cxx_model.specs.Facts.Fitted.{Fitted}
use Rattle.cxx_model.specs.Facts.Graph.{Graph, InRange, IsClassNumberInRange, IsTypeInRange}
use Rattle.cxx_model.specs.Types.Trees.{CxxType, class_type, qualified}
use Rattle.cxx_reading.specs.Paths.{class_meant, class_of_type, first_meant, plain_class}
use Rattle.cxx_reading.specs.Seen.{numbered_at, numbered_by, type_in}
use Rattle.cxx_tree.specs.Held.{Held}
use Rattle.cxx_tree.proofs.Graphs.{numbered_range}
use Rattle.cxx_paths.specs.Asked.{class_number}

plain_there : (graph : Graph) (t : CxxType) (n : ℕ) → IsTypeInRange graph t → plain_class t ≡ Some n → n < length graph.classes
plain_there graph (class_type m) n ok is = (let same : m ≡ n = cc in subst (λ (one : ℕ). one < length graph.classes) same ok)
plain_there graph _ n ok is = absurd cc

type_there : (graph : Graph) (t : CxxType) (n : ℕ) → IsTypeInRange graph t → class_of_type t ≡ Some n → n < length graph.classes
type_there graph (class_type m) n ok is = (let same : m ≡ n = cc in subst (λ (one : ℕ). one < length graph.classes) same ok)
type_there graph (qualified cv t) n ok is = plain_there graph t n ok is
type_there graph _ n ok is = absurd cc

first_there : (graph : Graph) (types : List CxxType) (numbers : List ℕ) (n : ℕ) → Fitted graph types → InRange graph → first_meant (numbered_at (graph_at types graph) numbers) ≡ Some n → n < length graph.classes
first_there graph types [] n fitted ok is = absurd cc
first_there graph types (number ∷ others) n fitted ok is = by (slice_get (facts_at types graph.facts) number) (numbered_range graph types (number ∷ []) fitted ok) is (λ later. first_there graph types others n fitted ok later)
  where
    on : (fact : CxxFact) (what : Declares) → IsTypeInRange graph (type_in (record { number = number; fact = record fact { what = what } } ∷ [])) → class_meant what ≡ Some n → n < length graph.classes
    on fact (facts.class class is_union) there is = (let same : class.0 ≡ n = cc in subst (λ (one : ℕ). one < length graph.classes) same there)
    on fact (facts.injected class) there is = (let same : class.0 ≡ n = cc in subst (λ (one : ℕ). one < length graph.classes) same there)
    on fact (facts.synonym of) there is = type_there graph of n there is
    on fact _ there is = absurd cc

    by : (o : Option CxxFact) → IsTypeInRange graph (type_in (numbered_by number o [])) → first_meant (numbered_by number o (numbered_at (graph_at types graph) others)) ≡ Some n
        → (first_meant (numbered_at (graph_at types graph) others) ≡ Some n → n < length graph.classes) → n < length graph.classes
    by None there is later = later is
    by (Some fact) there is later = on fact fact.what there is

pub class_there : (held : Held) (graph : Graph) (types : List CxxType) (numbers : List ℕ) (r : Option ClassId) → graph ≡ held.graph → types ≡ held.types → Fitted held.graph held.types → InRange graph → option_map class_number r ≡ first_meant (numbered_at (graph_at types graph) numbers) → IsClassNumberInRange held.graph r
class_there held graph types numbers None same typed fitted ok is = tt
class_there held graph types numbers (Some class) same typed fitted ok is =
    first_there held.graph held.types numbers class.0 fitted (subst (λ (g : Graph). InRange g) same ok)
    (ap (λ (g : Graph). first_meant (numbered_at (graph_at held.types g) numbers)) (sym same) ∙ (ap (λ (ts : List CxxType). first_meant (numbered_at (graph_at ts graph) numbers)) (sym typed) ∙ sym is))
