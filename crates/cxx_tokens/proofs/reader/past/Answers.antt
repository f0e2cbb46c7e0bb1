use Rattle.std.proofs.Common.{◌≡◌, ◌<◌, length, get_or, take, ap, arith}
use Rattle.std.proofs.lemmas.List.{take_more}
use Rattle.cxx_model.specs.Text.Lexemes.{after}
use Rattle.cxx_tokens.proofs.Pushes.{past_push, after_line, after_column}
use Rattle.cxx_tokens.proofs.reader.past.Goals as goal

pub loop-b-preserved : goal.loop-b-preserved
loop-b-preserved c =
    let text = c.args.text.now in
    let i = c.loop-b.b-index in
    let b = get_or text i 0 in
    let place = c.loop-b.place in
    let inside : i < length text = omega arith in
    let is : c.after-place.result ≡ after b place = c.after-place.ensures in (
      rw (take_more text i 0 inside, past_push (take i text) b c.args.place, ← c.loop-b.invariant.0) is,
      omega (arith, ap (λ p. p.line) is, after_line b place, c.loop-b.invariant.1),
      omega (arith, ap (λ p. p.column) is, after_column b place, c.loop-b.invariant.2),
    )
