use Rattle.std.specs.Prelude.{ℕ, ◌+◌, Option, Some, None}
use Rattle.cxx_model.specs.declared.types.TypeId.{TypeId}
use Rattle.cxx_builtin.proofs.making.+joined.Given as goal

abbrev pub size : Option TypeId → ℕ
size None = 0
size (Some of) = of.0 + 1

abbrev pub decreases-joined : goal.decreases-joined
decreases-joined l = size l.one
