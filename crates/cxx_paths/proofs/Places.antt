-- Where declarations stand.
use Rattle.std.specs.Prelude.{ℕ, zero, suc, ◌≡◌, List, [], ◌∷◌, Option, Some, None, refl}
use Rattle.std.specs.List.{slice_get}
use Rattle.std.specs.Option.{option_map}
use Rattle.std.proofs.Common.{ap, sym, ◌∙◌}
use Rattle.cxx_model.specs.declared.facts.Fact.{Fact}
use Rattle.cxx_model.specs.Facts.Declarations.{CxxFact, declares_at, fact_at, facts_at, graph_at}
use Rattle.cxx_model.specs.Facts.Graph.{Graph}
use Rattle.cxx_model.specs.Text.Lexemes.{nowhere}
use Rattle.cxx_model.specs.Types.Trees.{CxxType}
use Rattle.cxx_paths.specs.Asked.{not_wanted_at, part_of}
use Rattle.cxx_reading.specs.Paths.{class_meant, first_meant, not_held as not_held_so, place_in, place_of_fact}
use Rattle.cxx_reading.specs.Seen.{Numbered, numbered_at, numbered_by, place_of_first}
use Rattle.cxx_reading.specs.Trees.{CxxPathPart}

pub fact_seen : (types : List CxxType) (facts : List Fact) (n : ℕ) → slice_get (facts_at types facts) n ≡ option_map (fact_at types) (slice_get facts n)
fact_seen types [] n = refl
fact_seen types (fact ∷ facts) zero = refl
fact_seen types (fact ∷ facts) (suc n) = fact_seen types facts n

pub place_there : (types : List CxxType) (graph : Graph) (n : ℕ) (fact : Fact) → slice_get graph.facts n ≡ Some fact → fact.place ≡ place_of_fact (graph_at types graph) n
place_there types graph n fact at = sym (ap place_in (fact_seen types graph.facts n ∙ ap (option_map (fact_at types)) at))

pub place_none : (types : List CxxType) (graph : Graph) (n : ℕ) → slice_get graph.facts n ≡ None → nowhere ≡ place_of_fact (graph_at types graph) n
place_none types graph n at = sym (ap place_in (fact_seen types graph.facts n ∙ ap (option_map (fact_at types)) at))

-- where the first of some declarations stands
pub place_more : (types : List CxxType) (graph : Graph) (n : ℕ) (others : List ℕ) → slice_get graph.facts n ≡ None → place_of_first (numbered_at (graph_at types graph) (n ∷ others)) ≡ place_of_first (numbered_at (graph_at types graph) others)
place_more types graph n others e = ap (λ (o : Option CxxFact). place_of_first (numbered_by n o (numbered_at (graph_at types graph) others))) (fact_seen types graph.facts n ∙ ap (option_map (fact_at types)) e)

pub place_first : (types : List CxxType) (graph : Graph) (n : ℕ) (others : List ℕ) (fact : Fact) → slice_get graph.facts n ≡ Some fact → place_of_first (numbered_at (graph_at types graph) (n ∷ others)) ≡ Some fact.place
place_first types graph n others fact e = ap (λ (o : Option CxxFact). place_of_first (numbered_by n o (numbered_at (graph_at types graph) others))) (fact_seen types graph.facts n ∙ ap (option_map (fact_at types)) e)

-- the class that the first of some declarations names
pub class_more : (types : List CxxType) (graph : Graph) (n : ℕ) (others : List ℕ) → slice_get graph.facts n ≡ None → first_meant (numbered_at (graph_at types graph) (n ∷ others)) ≡ first_meant (numbered_at (graph_at types graph) others)
class_more types graph n others e = ap (λ (o : Option CxxFact). first_meant (numbered_by n o (numbered_at (graph_at types graph) others))) (fact_seen types graph.facts n ∙ ap (option_map (fact_at types)) e)

pub class_here : (types : List CxxType) (graph : Graph) (n : ℕ) (others : List ℕ) (fact : Fact) → slice_get graph.facts n ≡ Some fact → first_meant (numbered_at (graph_at types graph) (n ∷ others)) ≡ class_meant (declares_at types fact.what)
class_here types graph n others fact e = ap (λ (o : Option CxxFact). first_meant (numbered_by n o (numbered_at (graph_at types graph) others))) (fact_seen types graph.facts n ∙ ap (option_map (fact_at types)) e)

-- why a part before `::` means nothing that may stand there
pub not_held : (part : CxxPathPart) (all : List Numbered) → not_wanted_at (part_of part.place part.word) (place_of_first all) ≡ not_held_so part all
not_held part [] = refl
not_held part (one ∷ others) = refl
