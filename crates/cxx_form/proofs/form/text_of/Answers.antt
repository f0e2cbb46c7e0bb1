use Rattle.std.proofs.Common.{◌≡◌, ◌<◌, ◌∙◌, ap, arith, length, sym}
use Rattle.std.specs.Prelude.{flat_map}
use Rattle.std.proofs.lemmas.Grind.{common_steps}
use Rattle.cxx_model.specs.declared.limits.TheConstants.{MOST_OUTPUT}
use Rattle.cxx_page.specs.declared.fault.PlainFault.TheVariants as fault
use Rattle.cxx_page.specs.Sheets.{put_lines}
use Rattle.cxx_tree.specs.Held.{meaning}
use Rattle.cxx_form.specs.Parts.{lines_written}
use Rattle.cxx_form.specs.Text.{plain_text}
use Rattle.cxx_form.proofs.Whole.{over, whole, written_text}
use Rattle.cxx_form.proofs.form.text_of.Goals as goal

pub returns-in_err-write_lines-clause-full : goal.returns-in_err-write_lines-clause-full
returns-in_err-write_lines-clause-full c options =
    let long : c.in_err-write_lines.field-0.0 ≡ fault.Limit → MOST_OUTPUT < length (plain_text (record { options = options; state = meaning c.args.book.now.state.now })) = over options c.args.book.now c.args.lines.now c.in_err-write_lines.field-0.0 c.new-page.result c.write_lines.new.page c.requires.is c.new-page.ensures c.in_err-write_lines.ensures in
    grind (arith, common_steps, long)

pub returns-clause-text : goal.returns-clause-text
returns-clause-text c options =
    c.into_bytes.ensures.text
    ∙ written_text (flat_map (lines_written c.args.book.now) c.args.lines.now) c.write_lines.new.page (sym (ap (put_lines (flat_map (lines_written c.args.book.now) c.args.lines.now)) c.new-page.ensures) ∙ c.in_ok-write_lines.ensures)
    ∙ whole options c.args.book.now c.args.lines.now c.requires.is
