use Rattle.std.proofs.Common.{◌≡◌, ◌++◌, drop, map}
use Rattle.cxx_overload.specs.Calls.{number_of}
use Rattle.cxx_overload.specs.Views.{rated_at}
use Rattle.cxx_tree.specs.Held.{numbers_at}
use Rattle.cxx_answers.proofs.record.numbers.Given as goal

abbrev pub invariant-loop-one : goal.invariant-loop-one
invariant-loop-one l = numbers_at l.found ++ map number_of (map (rated_at l.types l.fn.object l.operands l.conversions) (drop l.one-index l.all)) ≡ map number_of (map (rated_at l.types l.fn.object l.operands l.conversions) l.all)
