use Rattle.std.specs.Prelude.{ℕ, ◌+◌, Option, Some, None}
use Rattle.cxx_model.specs.declared.types.TypeId.{TypeId}
use Rattle.cxx_casts.proofs.middle.+merged_words.Given as goal

abbrev pub size : Option TypeId → ℕ
size None = 0
size (Some of) = of.0 + 1

abbrev pub decreases-merged_words : goal.decreases-merged_words
decreases-merged_words l = size l.one
