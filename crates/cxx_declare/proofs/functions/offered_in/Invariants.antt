use Rattle.std.proofs.Common.{◌≡◌, ◌++◌, drop}
use Rattle.cxx_declare.specs.Given.{read_in}
use Rattle.cxx_declare.proofs.functions.offered_in.Given as goal

abbrev pub invariant-loop-one : goal.invariant-loop-one
invariant-loop-one l = l.found ++ read_in l.scope.0 (drop l.one-index l.all) ≡ read_in l.scope.0 l.all
