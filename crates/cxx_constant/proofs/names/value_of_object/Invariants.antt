-- what was gone over gives no value
use Rattle.std.proofs.Common.{List, ◌≡◌, drop}
use Rattle.cxx_model.specs.Facts.Declarations.{facts_at}
use Rattle.cxx_model.specs.Types.Trees.{CxxType}
use Rattle.cxx_constant.specs.Given.{first_given}
use Rattle.cxx_constant.proofs.names.value_of_object.Given as goal

abbrev pub invariant-loop-number : goal.invariant-loop-number
invariant-loop-number l = (types : List CxxType) → first_given l.entity.0 l.number (facts_at types (drop l.number l.graph.facts)) ≡ first_given l.entity.0 0 (facts_at types l.graph.facts)
