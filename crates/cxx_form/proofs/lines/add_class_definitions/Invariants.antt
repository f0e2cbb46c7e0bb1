use Rattle.cxx_meaning.specs.Lookups.Gathered.{gathered}
use Rattle.cxx_tree.specs.Held.{trees}
use Rattle.cxx_form.specs.Giving.{class_definition_given}
use Rattle.cxx_form.specs.Views.{facts_from, facts_in}
use Rattle.cxx_form.proofs.Lined.{SoFar}
use Rattle.cxx_form.proofs.lines.add_class_definitions.Given as goal

abbrev pub invariant-loop-number : goal.invariant-loop-number
invariant-loop-number l = SoFar (trees l.state) l.fn.lines.items l.lines.items (gathered (class_definition_given (facts_in l.state)) l.number (facts_from l.state l.number)) (gathered (class_definition_given (facts_in l.state)) 0 (facts_in l.state))
