use Rattle.std.proofs.Common.{[], ◌∷◌, ◌++◌}
use Rattle.std.proofs.Math.Facts.{to_z-of_z}
use Rattle.cxx_reading.specs.Words.{close_word, greater_word, open_word, value_words}
use Rattle.cxx_form.proofs.Handed.{value_behind_words}
use Rattle.cxx_form.proofs.values.write_operand.Goals as goal

pub returns : goal.returns
returns c =
    value_behind_words c.write_closed.result c.args.page.now c.write_between.new.page c.write_closed.new.page (greater_word ∷ open_word ∷ []) (λ value. value_words value ++ close_word ∷ []) c.args.value _ (to_z-of_z c.ranges.value) c.in_ok-write_between.ensures c.write_closed.ensures
