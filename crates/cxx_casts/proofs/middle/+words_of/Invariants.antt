use Rattle.std.specs.Prelude.{ℕ, ◌+◌, Option, Some, None}
use Rattle.cxx_model.specs.declared.types.TypeId.{TypeId}
use Rattle.cxx_casts.proofs.middle.+words_of.Given as goal

abbrev pub size : Option TypeId → ℕ
size None = 0
size (Some of) = of.0 + 1

abbrev pub decreases-words_of : goal.decreases-words_of
decreases-words_of l = size l.of
