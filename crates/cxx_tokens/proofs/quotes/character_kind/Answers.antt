use Rattle.std.proofs.Common.{◌≡◌, sym, ap, ◌∙◌, arith, false, true}
use Rattle.cxx_literals.proofs.Escaping.{character_bad, character_multi, character_one, universal_capped}
use Rattle.cxx_literals.specs.Escapes.{letter_at}
use Rattle.cxx_model.specs.Text.Spelling.{is_universal_letter}
use Rattle.cxx_tokens.proofs.quotes.character_kind.Goals as goal

pub returns-then-any_bad : goal.returns-then-any_bad
returns-then-any_bad c = character_bad c.args.wide c.args.body.now (grind arith) (sym c.any_bad.ensures ∙ c.if-any_bad.true)

pub returns-then-first-body : goal.returns-then-first-body
returns-then-first-body c = character_multi c.args.wide c.args.body.now c.first_letter-first.result.len (grind arith) (sym c.any_bad.ensures ∙ c.if-any_bad.false) (ap (λ f. f.len) c.first_letter-first.ensures.value) c.if-first-body.true

pub returns-then-is_universal : goal.returns-then-is_universal
returns-then-is_universal c =
    let seen : is_universal_letter (letter_at c.args.body.now).is ≡ true = sym (universal_capped (letter_at c.args.body.now).is) ∙ ap (λ f. is_universal_letter f.is) (sym c.first_letter-first.ensures.value) ∙ sym c.is_universal.ensures ∙ c.if-is_universal.true in
    character_one c.args.wide c.args.body.now c.first_letter-first.result.len true (grind arith) (sym c.any_bad.ensures ∙ c.if-any_bad.false) (ap (λ f. f.len) c.first_letter-first.ensures.value) c.if-first-body.false seen

pub returns-else-is_universal : goal.returns-else-is_universal
returns-else-is_universal c =
    let seen : is_universal_letter (letter_at c.args.body.now).is ≡ false = sym (universal_capped (letter_at c.args.body.now).is) ∙ ap (λ f. is_universal_letter f.is) (sym c.first_letter-first.ensures.value) ∙ sym c.is_universal.ensures ∙ c.if-is_universal.false in
    character_one c.args.wide c.args.body.now c.first_letter-first.result.len false (grind arith) (sym c.any_bad.ensures ∙ c.if-any_bad.false) (ap (λ f. f.len) c.first_letter-first.ensures.value) c.if-first-body.false seen
