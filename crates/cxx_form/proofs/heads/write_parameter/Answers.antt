use Rattle.std.proofs.Common.{subst, List}
use Rattle.cxx_page.specs.Sheets.{put, Writes}
use Rattle.cxx_reading.specs.Words.{Word}
use Rattle.cxx_form.specs.Books.{type_for}
use Rattle.cxx_form.proofs.Heading.{parameter_is}
use Rattle.cxx_form.proofs.heads.write_parameter.Goals as goal

pub returns : goal.returns
returns c =
    let book = c.args.book.now in
    subst (λ (ws : List Word). Writes c.write_as.result c.write_as.new.page (put ws c.args.page.now))
    (parameter_is book c.args.number (type_for book c.object_type-of.result) c.is_named.result c.object_type-of.ensures.is c.is_named.ensures) c.write_as.ensures
