-- The class that declares a function, by the number of a declaration.
use Rattle.std.proofs.Common.{◌≡◌, ℕ, Some, None, ap, sym}
use Rattle.std.specs.List.{slice_get}
use Rattle.cxx_model.specs.declared.facts.Fact.{Fact}
use Rattle.cxx_model.specs.Facts.Declarations.{fact_at}
use Rattle.cxx_tree.specs.Held.{Held, meaning}
use Rattle.cxx_form.specs.Definitions.{class_declaring, class_of_function}
use Rattle.cxx_form.proofs.Defining.{found_is}

pub class_some : (held : Held) (number : ℕ) (fact : Fact) → Some fact ≡ slice_get held.graph.facts number → class_of_function (meaning held).graph (Some (fact_at held.types fact)) ≡ class_declaring (meaning held).graph number
unfolding class_declaring meaning
class_some held number fact is = sym (ap (class_of_function (meaning held).graph) (found_is held number (Some fact) is))

pub class_none : (held : Held) (number : ℕ) → None ≡ slice_get held.graph.facts number → None ≡ class_declaring (meaning held).graph number
unfolding class_declaring meaning
class_none held number is = sym (ap (class_of_function (meaning held).graph) (found_is held number None is))
