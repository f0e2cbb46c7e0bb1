use Rattle.std.proofs.Common.{◌∙◌, ◌++◌, ap, subst, rules, get_or, map, Option, true, List}
use Rattle.cxx_model.specs.declared.types.TreeId.{TreeId}
use Rattle.cxx_page.specs.Sheets.{put, Sheet, Writes}
use Rattle.cxx_page.specs.Sides.{comma_unless}
use Rattle.cxx_reading.specs.Words.{Word}
use Rattle.cxx_phrase_text.specs.Listed.{listed_words}
use Rattle.cxx_phrase_text.specs.Phrases.{operand, Phrase}
use Rattle.cxx_phrase_text.specs.Written.{brace_parts, element_at}
use Rattle.cxx_phrase_text.proofs.Listing.{ends, fails, goes_on, no_room}
use Rattle.cxx_phrase_text.proofs.Parts.{element_is, expression_is, form_call, form_cast, form_zero, initial_is, last_is, operand_is, part_is}
use Rattle.cxx_phrase_text.proofs.+words.Goals as goal

pub operands::write_operand-returns : goal.operands::write_operand-returns
operands::write_operand-returns g t c =
    subst (λ (ws : List Word). Writes c.write_bracketed.result c.write_bracketed.new.page (put ws c.args.page.now))
    (operand_is (g.N.Names.named c.args.names.now) c.state.result.now c.args.number c.standing.result c.is_primary-stands.result c.state.ensures c.standing.ensures c.is_primary-stands.ensures) c.write_bracketed.ensures

pub operands::write_element-returns : goal.operands::write_element-returns
operands::write_element-returns g t c =
    subst (λ (ws : List Word). Writes c.write_bracketed.result c.write_bracketed.new.page (put ws c.args.page.now))
    (element_is (g.N.Names.named c.args.names.now) c.state.result.now c.args.number c.standing.result c.is_comma-stands.result c.state.ensures c.standing.ensures c.is_comma-stands.ensures) c.write_bracketed.ensures

pub operands::write_operand_part-returns : goal.operands::write_operand_part-returns
operands::write_operand_part-returns g t c =
    subst (λ (p : Phrase). Writes c.write_found_operand.result c.write_found_operand.new.page (put (operand p) c.args.page.now))
    (part_is (g.N.Names.named c.args.names.now) c.args.parts.now c.args.index c.child.result c.child.ensures.is) c.write_found_operand.ensures

pub operands::write_part-returns : goal.operands::write_part-returns
operands::write_part-returns g t c =
    subst (λ (p : Phrase). Writes c.write_found.result c.write_found.new.page (put p.words c.args.page.now))
    (part_is (g.N.Names.named c.args.names.now) c.args.parts.now c.args.index c.child.result c.child.ensures.is) c.write_found.ensures

pub operands::write_last-returns : goal.operands::write_last-returns
operands::write_last-returns g t c =
    subst (λ (p : Phrase). Writes c.write_found.result c.write_found.new.page (put p.words c.args.page.now))
    (last_is (g.N.Names.named c.args.names.now) c.args.parts.now c.last_child.result c.last_child.ensures.is) c.write_found.ensures

pub lists::write_elements-loop-part-preserved : goal.lists::write_elements-loop-part-preserved
lists::write_elements-loop-part-preserved g t c =
    goes_on (element_at (g.N.Names.named c.args.names.now)) c.args.parts.now c.loop-part.is_first c.loop-part.part-index (record { 0 = 0 }) c.loop-part.page c.write_next.new.page _ c.loop-part-test.true c.loop-part.invariant c.in_ok-write_next.ensures

pub lists::write_elements-returns-in_err-write_next : goal.lists::write_elements-returns-in_err-write_next
lists::write_elements-returns-in_err-write_next g t c =
    let none : TreeId = record { 0 = 0 } in
    let words = element_at (g.N.Names.named c.args.names.now) in
    let part : Option Sheet = put (comma_unless c.loop-part.is_first ++ words (get_or c.args.parts.now c.loop-part.part-index none)) c.loop-part.page in
    let whole : Option Sheet = put (listed_words true (map words c.args.parts.now)) c.args.page.now in
    let failed = fails c.in_err-write_next.field-0.0 c.write_next.new.page part whole (no_room words c.args.parts.now c.loop-part.is_first c.loop-part.part-index none c.loop-part.page whole c.loop-part-test.true c.loop-part.invariant) c.in_err-write_next.ensures in
    search rules

pub lists::write_elements-returns : goal.lists::write_elements-returns
lists::write_elements-returns g t c = ends (element_at (g.N.Names.named c.args.names.now)) c.args.parts.now c.loop-part.is_first c.loop-part.part-index c.loop-part.page _ c.loop-part-test.false c.loop-part.invariant

pub expressions::write_expression-returns : goal.expressions::write_expression-returns
expressions::write_expression-returns g t c =
    subst (λ (ws : List Word). Writes c.write_form.result c.write_form.new.page (put ws c.args.page.now))
    (expression_is (g.N.Names.named c.args.names.now) c.state.result.now c.node-node.result.now c.args.number c.form_of.result c.state.ensures c.node-node.ensures.tree c.form_of.ensures) c.write_form.ensures

pub expressions::write_initial-returns-then-is_braced : goal.expressions::write_initial-returns-then-is_braced
expressions::write_initial-returns-then-is_braced g t c =
    subst (λ (ws : List Word). Writes c.write_braces.result c.write_braces.new.page (put ws c.args.page.now))
    (ap (λ (ns : List TreeId). brace_parts (g.N.Names.named c.args.names.now) ns) c.as_slice-parts.ensures ∙ initial_is (g.N.Names.named c.args.names.now) c.state.result.now c.args.node.now c.is_braced.result c.state.ensures c.is_braced.ensures c.if-is_braced.true) c.write_braces.ensures

pub expressions::write_form-returns-in-Call : goal.expressions::write_form-returns-in-Call
expressions::write_form-returns-in-Call g t c =
    subst (λ (ws : List Word). Writes c.write_call.result c.write_call.new.page (put ws c.args.page.now))
    (form_call (g.N.Names.named c.args.names.now) c.args.node.now c.args.form c.is_by_name.result c.as_slice-parts.result.now c.in-Call.is c.is_by_name.ensures c.as_slice-parts.ensures) c.write_call.ensures

pub expressions::write_form-returns-in-Zero : goal.expressions::write_form-returns-in-Zero
expressions::write_form-returns-in-Zero g t c =
    subst (λ (ws : List Word). Writes c.write_zero.result c.write_zero.new.page (put ws c.args.page.now))
    (form_zero (g.N.Names.named c.args.names.now) c.args.node.now c.args.form c.in-Zero.is) c.write_zero.ensures

pub expressions::write_form-returns-in-Cast : goal.expressions::write_form-returns-in-Cast
expressions::write_form-returns-in-Cast g t c =
    subst (λ (ws : List Word). Writes c.write_cast.result c.write_cast.new.page (put ws c.args.page.now))
    (form_cast (g.N.Names.named c.args.names.now) c.args.node.now c.args.form c.as_slice-spelling.result.now c.as_slice-parts.result.now c.in-Cast.is c.as_slice-spelling.ensures c.as_slice-parts.ensures) c.write_cast.ensures
