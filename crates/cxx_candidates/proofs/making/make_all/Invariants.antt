use Rattle.std.proofs.Common.{take, Ok}
use Rattle.cxx_candidates.specs.Shapes.{shapes_at, MakesLists}
use Rattle.cxx_candidates.proofs.making.make_all.Given as goal

abbrev pub invariant-loop-shape : goal.invariant-loop-shape
invariant-loop-shape l = MakesLists l.graph l.initial.types l.types (Ok l.lists) (shapes_at l.initial.types (take l.shape-index l.shapes))
