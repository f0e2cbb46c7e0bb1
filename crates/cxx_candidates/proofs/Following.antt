-- Candidates that are added one after the other.
use Rattle.std.specs.Prelude.{List, ◌++◌}
use Rattle.std.proofs.Common.{ap, ◌∙◌, append_assoc}
use Rattle.cxx_model.specs.Facts.Graph.{Graph}
use Rattle.cxx_model.specs.Types.Trees.{CxxType}
use Rattle.cxx_candidates.specs.declared.shapes.Shape.{Shape}
use Rattle.cxx_candidates.specs.Shapes.{shapes_at, Adds}

-- one after the other
pub then_adds : (graph : Graph) (types : List CxxType) (old mid new : List Shape) (first second : List (List CxxType)) → Adds graph types old mid first → Adds graph types mid new second → Adds graph types old new (first ++ second)
then_adds graph types old mid new first second one two = record {
  is = two.is ∙ ap (λ ms. ms ++ second) one.is ∙ append_assoc (shapes_at types old) first second;
  known = λ before. two.known (one.known before);
}
