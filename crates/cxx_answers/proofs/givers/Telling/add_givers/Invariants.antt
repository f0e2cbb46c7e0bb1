use Rattle.std.proofs.Common.{◌≡◌, ◌++◌, drop}
use Rattle.cxx_reading.specs.Givers.{givers}
use Rattle.cxx_answers.specs.Told.{AreNumbersBelow, count_in, graph_of, those_in}
use Rattle.cxx_answers.proofs.givers.Telling.add_givers.Given as goal

abbrev pub invariant-loop-number : goal.invariant-loop-number
invariant-loop-number l = record {
  is : those_in l.self l.found ++ givers (graph_of l.self) l.scope.0 (those_in l.self (drop l.number-index l.numbers)) ≡ those_in l.self l.fn.found ++ givers (graph_of l.self) l.scope.0 (those_in l.self l.numbers);
  below : AreNumbersBelow (count_in l.self) l.found;
}
