use Rattle.std.proofs.Common.{◌≡◌, ◌++◌, drop, map}
use Rattle.cxx_overload.specs.Calls.{outcome_of}
use Rattle.cxx_overload.specs.Views.{rated_at}
use Rattle.cxx_answers.proofs.record.outcomes.Given as goal

abbrev pub invariant-loop-one : goal.invariant-loop-one
invariant-loop-one l = l.found ++ map outcome_of (map (rated_at l.types l.fn.object l.operands l.conversions) (drop l.one-index l.all)) ≡ map outcome_of (map (rated_at l.types l.fn.object l.operands l.conversions) l.all)
