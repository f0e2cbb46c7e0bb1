use Rattle.std.proofs.Common.{◌≡◌, ◌∙◌, sym}
use Rattle.cxx_form.specs.Slots.{slot_at}
use Rattle.cxx_form.proofs.Numbers.{one_numbered}
use Rattle.cxx_form.proofs.numbering.Numbering.note.Goals as goal

pub returns : goal.returns
returns c order is =
    let none : slot_at c.args.self.now.slots c.args.number ≡ 0 = sym c.at.ensures ∙ c.if-at-ne0.false in
    one_numbered order c.args.self.now.count c.args.self.now.slots c.set.new.self c.args.number is none c.in_ok-set.ensures
