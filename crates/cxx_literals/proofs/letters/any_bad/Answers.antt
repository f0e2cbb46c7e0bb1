use Rattle.std.proofs.Common.{◌≡◌, sym, ap, ◌∙◌, arith, false}
use Rattle.cxx_literals.proofs.Escaping.{letters_go, bad_capped}
use Rattle.cxx_literals.specs.Escapes.{letter_at}
use Rattle.cxx_model.specs.Text.Spelling.{is_bad_letter}
use Rattle.cxx_literals.proofs.letters.any_bad.Goals as goal

pub loop-rest-preserved : goal.loop-rest-preserved
loop-rest-preserved c =
    let rest = c.loop-rest.rest.now in
    let fine : is_bad_letter c.args.wide (letter_at rest).is ≡ false = sym (bad_capped c.args.wide (letter_at rest).is) ∙ ap (λ f. is_bad_letter c.args.wide f.is) (sym c.first_letter-found.ensures.value) ∙ sym c.is_bad.ensures ∙ c.if-is_bad.false in
    letters_go (is_bad_letter c.args.wide) rest c.args.body.now c.first_letter-found.result.len (grind arith) (ap (λ f. f.len) c.first_letter-found.ensures.value) fine c.loop-rest.invariant
