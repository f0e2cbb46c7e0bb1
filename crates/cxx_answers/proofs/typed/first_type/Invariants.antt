-- what was gone over says nothing
use Rattle.std.proofs.Common.{◌≡◌, drop}
use Rattle.cxx_model.specs.Facts.Declarations.{facts_at}
use Rattle.cxx_answers.specs.Typed.{first_said, typed}
use Rattle.cxx_answers.proofs.typed.first_type.Given as goal

abbrev pub invariant-loop-number : goal.invariant-loop-number
invariant-loop-number l = first_said (typed l.entity.0) l.number (facts_at l.types (drop l.number l.graph.facts)) ≡ first_said (typed l.entity.0) 0 (facts_at l.types l.graph.facts)
