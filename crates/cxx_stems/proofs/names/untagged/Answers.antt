use Rattle.std.proofs.Common.{◌≡◌, ◌-◌, length, sym, ap, ◌∙◌, take, drop, arith}
use Rattle.std.proofs.lemmas.Grind.{common_steps}
use Rattle.cxx_model.specs.Printing.Names.{is_tag}
use Rattle.cxx_stems.proofs.Stems.{untagged_more}
use Rattle.cxx_stems.proofs.names.untagged.Goals as goal

pub loop-i-preserved : goal.loop-i-preserved
loop-i-preserved c =
    let word = c.args.word.now in
    let i = c.loop-i.i in
    let whole : take (length word - i) (drop i word) ≡ drop i word = grind (arith, common_steps) in
    sym (untagged_more word i c.loop-i-test.true (sym (ap is_tag whole) ∙ sym c.is_tag.ensures ∙ c.if-is_tag.false)) ∙ c.loop-i.invariant
