use Rattle.std.proofs.Common.{ℕ, List, [], ◌∷◌, subst}
use Rattle.cxx_page.specs.Sheets.{put, Writes}
use Rattle.cxx_form.specs.Order.{text_order}
use Rattle.cxx_form.specs.Views.{facts_in}
use Rattle.cxx_reading.specs.Words.{name_word}
use Rattle.cxx_tree.specs.Held.{meaning}
use Rattle.cxx_form.proofs.Typed.{name_is}
use Rattle.cxx_form.proofs.words.write_name.Goals as goal

pub returns : goal.returns
returns c =
    let book = c.args.book.now in
    subst (λ (name : List ℕ). Writes c.write_name.result c.write_name.new.page (put (name_word name ∷ []) c.args.page.now))
    (name_is book c.number.result c.representative-first.result.0 c.args.number.0 c.stem_at.result.now (c.representative-first.ensures (facts_in book.state.now) c.requires.shared) (c.number.ensures (text_order (meaning book.state.now)) c.requires.numbered) c.stem_at.ensures) c.write_name.ensures
