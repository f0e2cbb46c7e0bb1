use Rattle.std.proofs.Common.{take}
use Rattle.cxx_form.specs.Numbered.{IsNumbering}
use Rattle.cxx_form.specs.Views.{facts_in}
use Rattle.cxx_form.proofs.Ordered.{numbered_by}
use Rattle.cxx_form.proofs.order.numbered.Given as goal

abbrev pub invariant-loop-number : goal.invariant-loop-number
invariant-loop-number l = IsNumbering (numbered_by (facts_in l.all) (take l.number-index l.numbers)) l.numbering.count l.numbering.slots
