use Rattle.std.proofs.Common.{[], ◌∷◌}
use Rattle.std.specs.Prelude.{codes}
use Rattle.std.proofs.Math.Facts.{to_z-of_z}
use Rattle.cxx_reading.specs.Words.{keyword_word}
use Rattle.cxx_form.specs.Books.{names_of, type_for}
use Rattle.cxx_form.specs.Text.{constant_words}
use Rattle.cxx_form.proofs.Handed.{value_behind_words}
use Rattle.cxx_form.proofs.values.write_given.Goals as goal

pub returns : goal.returns
returns c =
    let words = constant_words (names_of c.args.book.now) (type_for c.args.book.now c.args.of) in
    value_behind_words c.write_constant.result c.args.page.now c.word.new.self c.write_constant.new.page (keyword_word (codes "=") ∷ []) words c.args.value _ (to_z-of_z c.ranges.value) c.in_ok-word.ensures c.write_constant.ensures
