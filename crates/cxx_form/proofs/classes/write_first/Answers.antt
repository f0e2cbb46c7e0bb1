use Rattle.std.proofs.Common.{subst}
use Rattle.cxx_page.specs.Sheets.{put_lines, Writes}
use Rattle.cxx_statement_text.specs.Statements.{Lines}
use Rattle.cxx_form.proofs.Membered.{member_is}
use Rattle.cxx_form.proofs.classes.write_first.Goals as goal

pub returns : goal.returns
returns c =
    subst (λ (ls : Lines). Writes c.write_if.result c.write_if.new.page (put_lines ls c.args.page.now))
    (member_is c.args.book.now c.args.number c.args.value c.is_first.result c.is_first.ensures) c.write_if.ensures
