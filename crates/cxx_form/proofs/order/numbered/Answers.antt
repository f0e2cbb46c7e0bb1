use Rattle.std.proofs.Common.{take}
use Rattle.cxx_form.specs.Views.{facts_in}
use Rattle.cxx_form.proofs.Ordered.{numbered_by, numbered_more}
use Rattle.cxx_form.proofs.order.numbered.Goals as goal

pub loop-number-preserved : goal.loop-number-preserved
loop-number-preserved c =
    let all = facts_in c.args.all.now in
    numbered_more all c.args.numbers.now c.loop-number.number-index (record { 0 = 0 }) c.representative.result.0 c.note.new.self.count c.note.new.self.slots c.loop-number-test.true (c.representative.ensures all c.requires)
    (c.in_ok-note.ensures (numbered_by all (take c.loop-number.number-index c.args.numbers.now)) c.loop-number.invariant)
