use Rattle.std.proofs.Common.{subst}
use Rattle.cxx_page.specs.Sheets.{put_lines, Writes}
use Rattle.cxx_statement_text.specs.Statements.{Lines}
use Rattle.cxx_form.proofs.Membered.{class_is}
use Rattle.cxx_form.proofs.classes.write_class_definition.Goals as goal

pub returns : goal.returns
returns c =
    subst (λ (ls : Lines). Writes c.write_parts.result c.write_parts.new.page (put_lines ls c.args.page.now))
    (class_is c.args.book.now c.args.scope.0 c.args.number.0 c.row.result.now c.requires c.row.ensures) c.write_parts.ensures
