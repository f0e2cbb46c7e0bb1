-- The class of a static member, and whether a declaration is a function.
use Rattle.std.specs.Prelude.{ℕ, zero, suc, ◌≡◌, false, List, [], ◌∷◌, Option, Some, None, option_map, refl}
use Rattle.std.specs.List.{slice_get}
use Rattle.std.proofs.Common.{ap, sym, ◌∙◌}
use Rattle.cxx_model.specs.declared.facts.Fact.{Fact}
use Rattle.cxx_model.specs.Facts.Declarations.{fact_at, facts_at}
use Rattle.cxx_model.specs.Types.Trees.{CxxType}
use Rattle.cxx_expr.specs.Names.{class_of_fact, is_function_at, is_function_fact, static_class}
use Rattle.cxx_tree.specs.Held.{Held, meaning}

-- ---- by the number of a declaration

seen : (types : List CxxType) (facts : List Fact) (n : ℕ) → slice_get (facts_at types facts) n ≡ option_map (fact_at types) (slice_get facts n)
seen types [] n = refl
seen types (fact ∷ facts) zero = refl
seen types (fact ∷ facts) (suc n) = seen types facts n

pub class_some : (held : Held) (n : ℕ) (fact : Fact) → slice_get held.graph.facts n ≡ Some fact → class_of_fact (meaning held).graph (Some (fact_at held.types fact)) ≡ static_class (meaning held).graph n
unfolding static_class meaning
class_some held n fact at = sym (ap (class_of_fact (meaning held).graph) (seen held.types held.graph.facts n ∙ ap (option_map (fact_at held.types)) at))

pub class_none : (held : Held) (n : ℕ) → slice_get held.graph.facts n ≡ None → None ≡ static_class (meaning held).graph n
unfolding static_class meaning
class_none held n at = sym (ap (class_of_fact (meaning held).graph) (seen held.types held.graph.facts n ∙ ap (option_map (fact_at held.types)) at))

-- ---- whether it is a function

pub function_some : (held : Held) (n : ℕ) (fact : Fact) → slice_get held.graph.facts n ≡ Some fact → is_function_fact (Some (fact_at held.types fact)) ≡ is_function_at (meaning held).graph n
unfolding is_function_at meaning
function_some held n fact at = sym (ap is_function_fact (seen held.types held.graph.facts n ∙ ap (option_map (fact_at held.types)) at))

pub function_none : (held : Held) (n : ℕ) → slice_get held.graph.facts n ≡ None → false ≡ is_function_at (meaning held).graph n
unfolding is_function_at meaning
function_none held n at = sym (ap is_function_fact (seen held.types held.graph.facts n ∙ ap (option_map (fact_at held.types)) at))
