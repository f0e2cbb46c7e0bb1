use Rattle.std.proofs.Common.{List, subst}
use Rattle.cxx_page.specs.Sheets.{put, Writes}
use Rattle.cxx_reading.specs.Words.{Word}
use Rattle.cxx_form.proofs.Valued.{enumeration_is}
use Rattle.cxx_form.proofs.enumerators.write_enumeration.Goals as goal

pub returns : goal.returns
returns c =
    subst (λ (ws : List Word). Writes c.write_parts.result c.write_parts.new.page (put ws c.args.page.now))
    (enumeration_is c.args.book.now c.args.named.0 c.args.number.0 c.row.result.now c.requires c.row.ensures) c.write_parts.ensures
