use Rattle.std.proofs.Common.{◌≡◌, ◌<◌, ◌+◌, ◌*◌, ◌∙◌, ap, sym, subst, arith, length, Option}
use Rattle.std.specs.Prelude.{IfSome}
use Rattle.cxx_model.specs.declared.types.TreeId.{TreeId}
use Rattle.cxx_tree.specs.Held.{trees}
use Rattle.cxx_phrase_text.specs.Named.{NamedState}
use Rattle.cxx_phrase_text.specs.Phrases.{Phrase}
use Rattle.cxx_phrase_text.proofs.Parts.{part_is, phrase_is}
use Rattle.cxx_phrase_text.proofs.standing.+standing.Goals as goal

pub first_standing-standing-requires : goal.first_standing-standing-requires
first_standing-standing-requires t c =
    let within : c.in-Some.number.0 < c.args.end.0 = subst (λ (found : Option TreeId). IfSome found (λ number. number.0 < c.args.end.0)) c.in-Some.is (c.child.ensures.below c.args.end.0 c.requires.earlier) in
    let whole : t ≡ 4 * c.args.end.0 = sym c.decreases in
    let known : c.args.end.0 < length (trees c.args.state.now) = c.requires.known in
    let small : 4 * c.in-Some.number.0 + 3 < t = omega arith in
    (small, omega arith)

pub first_standing-returns-in-Some : goal.first_standing-returns-in-Some
first_standing-returns-in-Some t c tags name =
    let named : NamedState = record { held = c.args.state.now; tags = tags; name = name } in
    c.standing.ensures tags name ∙ ap (λ (p : Phrase). p.standing) (part_is named c.args.parts.now 0 _ (sym c.in-Some.is ∙ c.child.ensures.is))

pub first_standing-returns-in-None : goal.first_standing-returns-in-None
first_standing-returns-in-None t c tags name =
    let named : NamedState = record { held = c.args.state.now; tags = tags; name = name } in
    ap (λ (p : Phrase). p.standing) (part_is named c.args.parts.now 0 _ (sym c.in-None.is ∙ c.child.ensures.is))

pub standing-returns : goal.standing-returns
standing-returns t c tags name =
    let named : NamedState = record { held = c.args.state.now; tags = tags; name = name } in
    c.form_standing.ensures tags name
    ∙ ap (λ (p : Phrase). p.standing) (phrase_is named c.node-node.result.now c.args.number c.form_of.result c.node-node.ensures.tree c.form_of.ensures)
