use Rattle.std.proofs.Common.{ap, ◌∙◌}
use Rattle.cxx_form.specs.Lines.{numbers_in}
use Rattle.cxx_form.proofs.Ordered.{in_order}
use Rattle.cxx_form.proofs.order.numbering.Goals as goal

pub returns : goal.returns
returns c =
    let numbering = c.in_ok-numbering.numbering in
    in_order c.args.state.now c.args.lines.now c.as_slice.result.now numbering.count numbering.slots c.requires.lines (ap numbers_in c.as_slice.ensures.value ∙ c.in_ok-numbers.ensures) c.in_ok-numbering.ensures
