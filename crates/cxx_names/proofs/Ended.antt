-- The ends of classes among the facts of a graph (9.2).
use Rattle.std.proofs.Common.{◌≡◌, ℕ, ◌≤◌, Bool, false, ◌||◌, List, [], ◌∷◌, length, refl, ap, sym, ◌∙◌, nat_eq}
use Rattle.cxx_graph.proofs.Marks.{open-class}
use Rattle.cxx_model.specs.declared.facts.Entity.{Entity}
use Rattle.cxx_model.specs.declared.facts.Entity.TheVariants as entity
use Rattle.cxx_model.specs.declared.facts.Fact.{Fact}
use Rattle.cxx_model.specs.Facts.Declarations.{facts_at}
use Rattle.cxx_model.specs.Facts.Entities.{has_end}
use Rattle.cxx_model.specs.Facts.Graph.{Graph, InRange, is_complete}
use Rattle.cxx_model.specs.Types.Trees.{CxxType}

pub end_is : (types : List CxxType) (facts : List Fact) (n : ℕ) → has_end n (facts_at types facts) ≡ is_complete facts n
end_is types [] n = refl
end_is types (fact ∷ facts) n = by fact.what (end_is types facts n)
  where
    by : (what : Entity) → has_end n (facts_at types facts) ≡ is_complete facts n → has_end n (facts_at types (record fact { what = what } ∷ facts)) ≡ is_complete (record fact { what = what } ∷ facts) n
    by (entity.Complete class) later = ap (λ b. nat_eq class.0 n || b) later
    by _ later = later

-- a class that is in the graph
pub ended_known : (types : List CxxType) (facts : List Fact) (n : ℕ) (b : Bool) → b ≡ is_complete facts n → b ≡ has_end n (facts_at types facts)
ended_known types facts n b is = is ∙ sym (end_is types facts n)

-- a class that is not
pub ended_past : (types : List CxxType) (graph : Graph) (n : ℕ) → InRange graph → length graph.classes ≤ n → false ≡ has_end n (facts_at types graph.facts)
ended_past types graph n range past = sym (end_is types graph.facts n ∙ open-class graph n range past)
