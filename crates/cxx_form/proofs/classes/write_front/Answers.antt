use Rattle.std.proofs.Common.{subst, List}
use Rattle.cxx_page.specs.Sheets.{put_line, Writes}
use Rattle.cxx_reading.specs.Words.{Word}
use Rattle.cxx_form.proofs.Derived.{front_is}
use Rattle.cxx_form.proofs.classes.write_front.Goals as goal

pub returns : goal.returns
returns c =
    subst (λ (ws : List Word). Writes c.write_front_with.result c.write_front_with.new.page (put_line ws c.args.page.now))
    (front_is c.args.book.now c.args.number.0 c.bases.result.now c.bases.ensures) c.write_front_with.ensures
