-- the last one of those that were gone over, where none behind them is
use Rattle.std.proofs.Common.{◌≡◌, drop, ◌<◌, length}
use Rattle.std.specs.Prelude.{IfSome}
use Rattle.cxx_model.specs.Facts.Declarations.{name_at}
use Rattle.cxx_names.specs.Looked.{looked_up}
use Rattle.cxx_names.specs.Named.{named_among}
use Rattle.cxx_reading.specs.Givers.{last_of, or_before}
use Rattle.cxx_answers.specs.Told.{told}
use Rattle.cxx_answers.proofs.givers.Telling.last_named.Given as goal

abbrev pub invariant-loop-number : goal.invariant-loop-number
invariant-loop-number l = record {
  is : or_before (last_of l.function.0 (looked_up l.self.types.now l.self.graph.now.facts (named_among l.self.types.now l.self.graph.now.facts (name_at l.self.types.now l.name) (drop l.number-index l.numbers)))) (told l.self.types.now l.self.graph.now.facts l.found) ≡ last_of l.function.0 (looked_up l.self.types.now l.self.graph.now.facts (named_among l.self.types.now l.self.graph.now.facts (name_at l.self.types.now l.name) l.numbers));
  there : IfSome l.found (λ one. one.0 < length l.self.graph.now.facts);
}
