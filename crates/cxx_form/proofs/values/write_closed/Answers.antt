use Rattle.std.proofs.Common.{[], ◌∷◌}
use Rattle.std.proofs.Math.Facts.{to_z-of_z}
use Rattle.cxx_reading.specs.Words.{close_word, value_words}
use Rattle.cxx_form.proofs.Handed.{words_behind_value}
use Rattle.cxx_form.proofs.values.write_closed.Goals as goal

pub returns : goal.returns
returns c = words_behind_value c.word.result c.args.page.now c.write_value.new.page c.word.new.self value_words (close_word ∷ []) c.args.value _ (to_z-of_z c.ranges.value) c.in_ok-write_value.ensures c.word.ensures
