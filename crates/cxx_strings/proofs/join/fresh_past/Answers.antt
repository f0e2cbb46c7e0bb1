use Rattle.std.proofs.Common.{◌<◌, length, get_or, take, arith, ap, ◌∙◌}
use Rattle.std.proofs.lemmas.List.{take_more}
use Rattle.cxx_model.specs.Text.Tokens.{fresh_after}
use Rattle.cxx_model.proofs.Readings.{fresh_append}
use Rattle.std.specs.Prelude.{[], ◌∷◌}
use Rattle.cxx_strings.proofs.join.fresh_past.Goals as goal

pub loop-b-preserved : goal.loop-b-preserved
loop-b-preserved c =
    let text = c.args.text.now in
    let i = c.loop-b.b-index in
    let b = get_or text i 0 in
    let inside : i < length text = omega arith in
    rw (take_more text i 0 inside, fresh_append (take i text) (b ∷ []) c.args.fresh)
    (c.fresh_after-fresh.ensures ∙ ap (fresh_after b) c.loop-b.invariant)
