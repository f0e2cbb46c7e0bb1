-- what is left of the way gives the whole answer
use Rattle.std.proofs.Common.{◌≡◌, ◌-◌}
use Rattle.cxx_model.specs.Facts.Declarations.{name_at}
use Rattle.cxx_reading.specs.Givers.{outward_from}
use Rattle.cxx_answers.specs.Told.{graph_of}
use Rattle.cxx_answers.proofs.givers.Telling.outward.Given as goal

abbrev pub invariant-loop-turn : goal.invariant-loop-turn
invariant-loop-turn l = outward_from (graph_of l.self) l.function.0 (name_at l.self.types.now l.name) (l.fn.scope.0 - l.turn) l.now.0 ≡ outward_from (graph_of l.self) l.function.0 (name_at l.self.types.now l.name) l.fn.scope.0 l.fn.scope.0
