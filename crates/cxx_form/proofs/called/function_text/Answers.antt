use Rattle.std.proofs.Common.{◌≡◌, ◌<◌, ◌∙◌, arith, length}
use Rattle.std.proofs.lemmas.Grind.{common_steps}
use Rattle.cxx_model.specs.declared.limits.TheConstants.{MOST_OUTPUT}
use Rattle.cxx_page.specs.declared.fault.PlainFault.TheVariants as fault
use Rattle.cxx_tree.specs.Held.{meaning}
use Rattle.cxx_form.specs.Called as called
use Rattle.cxx_form.proofs.CallLines.{line_over, text_is}
use Rattle.cxx_form.proofs.called.function_text.Goals as goal

pub returns-in_err-write_line_of-clause-full : goal.returns-in_err-write_line_of-clause-full
returns-in_err-write_line_of-clause-full c =
    let long : c.in_err-write_line_of.field-0.0 ≡ fault.Limit → MOST_OUTPUT < length (called.function_text (meaning c.args.book.now.state.now) c.args.number.0) = line_over c.args.book.now c.args.number.0 c.in_err-write_line_of.field-0.0 c.new-page.result c.write_line_of.new.page c.new-page.ensures c.in_err-write_line_of.ensures in
    grind (arith, common_steps, long)

pub returns-clause-text : goal.returns-clause-text
returns-clause-text c = c.into_bytes.ensures.text ∙ text_is c.args.book.now c.args.number.0 c.new-page.result c.write_line_of.new.page c.new-page.ensures c.in_ok-write_line_of.ensures
