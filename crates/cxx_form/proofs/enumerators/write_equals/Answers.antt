use Rattle.std.proofs.Common.{◌≡◌, ◌∙◌, [], ◌∷◌, ap, subst, sym, Option, Some}
use Rattle.std.specs.Prelude.{ℤ, codes}
use Rattle.std.proofs.Math.Facts.{to_z-of_z}
use Rattle.cxx_page.specs.Sheets.{and_then, put, Sheet, Writes}
use Rattle.cxx_page.proofs.Put.{put_more}
use Rattle.cxx_reading.specs.Words.{keyword_word, value_words}
use Rattle.cxx_form.proofs.enumerators.write_equals.Goals as goal

pub returns : goal.returns
returns c =
    let value : ℤ = c.args.value in
    let written : Writes c.write_value.result c.write_value.new.page (put (value_words value) c.word.new.self) = subst (λ (v : ℤ). Writes c.write_value.result c.write_value.new.page (put (value_words v) c.word.new.self)) (to_z-of_z c.ranges.value) c.write_value.ensures in
    let first : put (keyword_word (codes "=") ∷ []) c.args.page.now ≡ Some c.word.new.self = c.in_ok-word.ensures in
    subst (λ (o : Option Sheet). Writes c.write_value.result c.write_value.new.page o) (sym (put_more (keyword_word (codes "=")) (value_words value) c.args.page.now ∙ ap (λ (o : Option Sheet). and_then o (put (value_words value))) first)) written
