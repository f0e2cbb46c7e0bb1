use Rattle.std.proofs.Common.{[], ◌∷◌, ◌++◌}
use Rattle.std.proofs.Math.Facts.{to_z-of_z}
use Rattle.cxx_model.specs.Types.Numbers.{type_at}
use Rattle.cxx_reading.specs.Declarators.{no_cv}
use Rattle.cxx_reading.specs.Words.{close_word, declared, greater_word, open_word, value_words}
use Rattle.cxx_form.specs.Books.{names_of}
use Rattle.cxx_form.proofs.Handed.{value_behind_words}
use Rattle.cxx_form.proofs.values.write_type_and_operand.Goals as goal

pub returns : goal.returns
returns c =
    let of = type_at c.args.book.now.state.now.types c.args.of.0 in
    value_behind_words c.write_operand.result c.args.page.now c.write_alone.new.page c.write_operand.new.page (declared (names_of c.args.book.now).tags no_cv of []) (λ value. greater_word ∷ open_word ∷ (value_words value ++ close_word ∷ [])) c.args.value _ (to_z-of_z c.ranges.value) c.in_ok-write_alone.ensures c.write_operand.ensures
