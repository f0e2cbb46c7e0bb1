use Rattle.std.proofs.Common.{◌≡◌, List, drop}
use Rattle.cxx_model.specs.Types.Trees.{CxxType}
use Rattle.cxx_names.specs.Looked.{looked_up}
use Rattle.cxx_tree.specs.Held.{fact_of_option}
use Rattle.cxx_answers.specs.Answers.{names_tested}
use Rattle.cxx_answers.proofs.names.names_tested.Given as goal

abbrev pub invariant-loop-number : goal.invariant-loop-number
invariant-loop-number l = (types : List CxxType) → names_tested (fact_of_option l.tested) l.scope.0 (looked_up types l.graph.facts (drop l.number-index l.numbers)) ≡ names_tested (fact_of_option l.tested) l.scope.0 (looked_up types l.graph.facts l.numbers)
