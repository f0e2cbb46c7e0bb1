use Rattle.std.proofs.Common.{◌∙◌, sym}
use Rattle.cxx_form.proofs.Signed.{none_left}
use Rattle.cxx_form.proofs.signatures.same_types.Goals as goal

pub returns : goal.returns
returns c = c.is_empty.ensures ∙ (sym (none_left c.args.types.now c.loop-ones.ones.now c.loop-ones.twos.now c.in_default.len_below) ∙ c.loop-ones.invariant.rest)
