use Rattle.std.proofs.Common.{◌≡◌, ◌<◌, ◌+◌, ◌*◌, ◌^◌, min, length, get_or, take, arith, ◌∙◌, ap}
use Rattle.std.proofs.lemmas.List.{take_more}
use Rattle.cxx_model.specs.Text.Spelling.{value_after, digit_value}
use Rattle.cxx_literals.proofs.Amounts.{value_after_push, too_much}
use Rattle.cxx_literals.proofs.values.value_of.Goals as goal

pub loop-b-preserved : goal.loop-b-preserved
loop-b-preserved c =
    let digits = c.args.digits.now in
    let base = c.args.base in
    let i = c.loop-b.b-index in
    let inside : i < length digits = omega arith in
    let is : c.with_digit-value.result ≡ min (base * c.loop-b.value + digit_value (get_or digits i 0)) (2 ^ 64) = c.with_digit-value.ensures in
    rw (take_more digits i 0 inside, value_after_push base 0 (take i digits) (get_or digits i 0))
    (is ∙ ap (λ v. min (base * v + digit_value (get_or digits i 0)) (2 ^ 64)) c.loop-b.invariant ∙ too_much base (value_after base 0 (take i digits)) (digit_value (get_or digits i 0)) c.requires.some)
