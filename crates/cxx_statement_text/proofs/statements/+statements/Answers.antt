use Rattle.std.proofs.Common.{◌++◌, suc, rules, get_or, subst, Option}
use Rattle.std.specs.Prelude.{flat_map}
use Rattle.cxx_model.specs.declared.types.TreeId.{TreeId}
use Rattle.cxx_page.specs.Sheets.{put_lines, Sheet, Writes}
use Rattle.cxx_phrase_text.proofs.Listing.{fails}
use Rattle.cxx_reading.specs.Trees.{CxxTrees}
use Rattle.cxx_statement_text.specs.Statements.{Lines, Statement, closed, declared_in, part, round_lines}
use Rattle.cxx_statement_text.specs.Written.{lines_at, lines_or_empty_at, parts_in, scene_of, statements_at}
use Rattle.cxx_statement_text.proofs.Conditional.{a_declared, no_declared}
use Rattle.cxx_statement_text.proofs.Lining.{lines_end, lines_on, no_lines_on}
use Rattle.cxx_statement_text.proofs.Parts.{a_label, an_else, behind_labels, block_is, form_block, inner_is, no_block_is, no_else, nothing_is, part_is, something_is}
use Rattle.cxx_statement_text.proofs.statements.+statements.Goals as goal

pub write_all-loop-part-preserved : goal.write_all-loop-part-preserved
write_all-loop-part-preserved g t c =
    lines_on (lines_at (g.N.Names.named c.args.names.now) (g.N.StatementNames.value c.args.names.now) c.args.depth) c.args.parts.now c.loop-part.part-index (record { 0 = 0 }) c.loop-part.page c.write_next.new.page _ c.loop-part-test.true c.loop-part.invariant c.in_ok-write_next.ensures

pub write_all-returns-in_err-write_next : goal.write_all-returns-in_err-write_next
write_all-returns-in_err-write_next g t c =
    let none : TreeId = record { 0 = 0 } in
    let lines : TreeId → Lines = (lines_at (g.N.Names.named c.args.names.now) (g.N.StatementNames.value c.args.names.now) c.args.depth) in
    let part : Option Sheet = put_lines (lines (get_or c.args.parts.now c.loop-part.part-index none)) c.loop-part.page in
    let whole : Option Sheet = put_lines (flat_map lines c.args.parts.now) c.args.page.now in
    let failed = fails c.in_err-write_next.field-0.0 c.write_next.new.page part whole (no_lines_on lines c.args.parts.now c.loop-part.part-index none c.loop-part.page whole c.loop-part-test.true c.loop-part.invariant) c.in_err-write_next.ensures in
    search rules

pub write_all-returns : goal.write_all-returns
write_all-returns g t c = lines_end (lines_at (g.N.Names.named c.args.names.now) (g.N.StatementNames.value c.args.names.now) c.args.depth) c.args.parts.now c.loop-part.part-index c.loop-part.page _ c.loop-part-test.false c.loop-part.invariant

pub write_each-loop-part-preserved : goal.write_each-loop-part-preserved
write_each-loop-part-preserved g t c =
    lines_on (lines_or_empty_at (g.N.Names.named c.args.names.now) (g.N.StatementNames.value c.args.names.now) c.args.depth) c.args.parts.now c.loop-part.part-index (record { 0 = 0 }) c.loop-part.page c.write_behind.new.page _ c.loop-part-test.true c.loop-part.invariant c.in_ok-write_behind.ensures

pub write_each-returns-in_err-write_behind : goal.write_each-returns-in_err-write_behind
write_each-returns-in_err-write_behind g t c =
    let none : TreeId = record { 0 = 0 } in
    let lines : TreeId → Lines = (lines_or_empty_at (g.N.Names.named c.args.names.now) (g.N.StatementNames.value c.args.names.now) c.args.depth) in
    let part : Option Sheet = put_lines (lines (get_or c.args.parts.now c.loop-part.part-index none)) c.loop-part.page in
    let whole : Option Sheet = put_lines (flat_map lines c.args.parts.now) c.args.page.now in
    let failed = fails c.in_err-write_behind.field-0.0 c.write_behind.new.page part whole (no_lines_on lines c.args.parts.now c.loop-part.part-index none c.loop-part.page whole c.loop-part-test.true c.loop-part.invariant) c.in_err-write_behind.ensures in
    search rules

pub write_each-returns : goal.write_each-returns
write_each-returns g t c = lines_end (lines_or_empty_at (g.N.Names.named c.args.names.now) (g.N.StatementNames.value c.args.names.now) c.args.depth) c.args.parts.now c.loop-part.part-index c.loop-part.page _ c.loop-part-test.false c.loop-part.invariant

pub write_part-returns : goal.write_part-returns
write_part-returns g t c =
    subst (λ (s : Statement). Writes c.write_found.result c.write_found.new.page (put_lines (s.inner c.args.depth) c.args.page.now))
    (part_is (g.N.Names.named c.args.names.now) (g.N.StatementNames.value c.args.names.now) c.args.parts.now c.args.index c.child.result c.child.ensures.is) c.write_found.ensures

pub write_inner-returns : goal.write_inner-returns
write_inner-returns g t c =
    subst (λ (ls : Lines). Writes c.write_form.result c.write_form.new.page (put_lines ls c.args.page.now))
    (inner_is (g.N.Names.named c.args.names.now) (g.N.StatementNames.value c.args.names.now) c.state.result.now c.node-node.result.now c.args.number c.form_of.result c.args.depth c.state.ensures c.node-node.ensures.tree c.form_of.ensures) c.write_form.ensures

pub write_for_rounds-returns : goal.write_for_rounds-returns
write_for_rounds-returns g t c =
    subst (λ (ts : CxxTrees). Writes c.write_rounds.result c.write_rounds.new.page (put_lines (round_lines (scene_of (g.N.Names.named c.args.names.now) (g.N.StatementNames.value c.args.names.now)) ts (declared_in ts) (part (statements_at (g.N.Names.named c.args.names.now) (g.N.StatementNames.value c.args.names.now) c.args.parts.now) 3) (suc c.args.depth) ++ closed c.args.depth) c.args.page.now))
    (c.after.ensures.is (g.N.Names.named c.args.names.now).held) c.write_rounds.ensures

pub write_else-returns-in-Some : goal.write_else-returns-in-Some
write_else-returns-in-Some g t c =
    subst (λ (ls : Lines). Writes c.write_otherwise_part.result c.write_otherwise_part.new.page (put_lines ls c.args.page.now))
    (an_else (g.N.Names.named c.args.names.now) (g.N.StatementNames.value c.args.names.now) c.args.parts.now c.child.result c.in-Some.number c.args.depth c.child.ensures.is c.in-Some.is) c.write_otherwise_part.ensures

pub write_else-returns-in-None : goal.write_else-returns-in-None
write_else-returns-in-None g t c =
    subst (λ (ls : Lines). Writes c.write_close_brace.result c.write_close_brace.new.page (put_lines ls c.args.page.now))
    (no_else (g.N.Names.named c.args.names.now) (g.N.StatementNames.value c.args.names.now) c.args.parts.now c.child.result c.args.depth c.child.ensures.is c.in-None.is) c.write_close_brace.ensures

pub write_round-returns-in-Some : goal.write_round-returns-in-Some
write_round-returns-in-Some g t c =
    subst (λ (o : Option CxxTrees). Writes c.write_declared_round.result c.write_declared_round.new.page (put_lines (round_lines (scene_of (g.N.Names.named c.args.names.now) (g.N.StatementNames.value c.args.names.now)) (parts_in (g.N.Names.named c.args.names.now).held c.args.condition.now) o (part (statements_at (g.N.Names.named c.args.names.now) (g.N.StatementNames.value c.args.names.now) c.args.parts.now) c.args.index) c.args.depth) c.args.page.now))
    (a_declared (g.N.Names.named c.args.names.now) (g.N.StatementNames.value c.args.names.now) c.state.result.now c.args.condition.now c.declared.result c.in-Some.declaration c.state.ensures c.declared.ensures.is c.in-Some.is) c.write_declared_round.ensures

pub write_round-returns-in-None : goal.write_round-returns-in-None
write_round-returns-in-None g t c =
    subst (λ (o : Option CxxTrees). Writes c.write_part.result c.write_part.new.page (put_lines (round_lines (scene_of (g.N.Names.named c.args.names.now) (g.N.StatementNames.value c.args.names.now)) (parts_in (g.N.Names.named c.args.names.now).held c.args.condition.now) o (part (statements_at (g.N.Names.named c.args.names.now) (g.N.StatementNames.value c.args.names.now) c.args.parts.now) c.args.index) c.args.depth) c.args.page.now))
    (no_declared (g.N.Names.named c.args.names.now) (g.N.StatementNames.value c.args.names.now) c.state.result.now c.args.condition.now c.declared.result c.state.ensures c.declared.ensures.is c.in-None.is) c.write_part.ensures

pub write_labels-returns-in-empty : goal.write_labels-returns-in-empty
write_labels-returns-in-empty g t c =
    subst (λ (ls : Lines). Writes c.write_each.result c.write_each.new.page (put_lines ls c.args.page.now))
    (behind_labels (g.N.Names.named c.args.names.now) (g.N.StatementNames.value c.args.names.now) c.args.keyword.now c.args.parts.now c.args.depth c.in-empty.len_below) c.write_each.ensures

pub write_labels-returns-in_default : goal.write_labels-returns-in_default
write_labels-returns-in_default g t c =
    subst (λ (ls : Lines). Writes c.write_label.result c.write_label.new.page (put_lines ls c.args.page.now))
    (a_label (g.N.Names.named c.args.names.now) (g.N.StatementNames.value c.args.names.now) c.args.keyword.now c.args.parts.now c.args.depth c.in_default.len_at_least) c.write_label.ensures

pub write_form-returns-in-Block : goal.write_form-returns-in-Block
write_form-returns-in-Block g t c =
    subst (λ (ls : Lines). Writes c.write_all.result c.write_all.new.page (put_lines ls c.args.page.now))
    (form_block (g.N.Names.named c.args.names.now) (g.N.StatementNames.value c.args.names.now) c.args.node.now c.args.form c.as_slice-parts.result.now c.args.depth c.in-Block.is c.as_slice-parts.ensures) c.write_all.ensures

pub write_lines-returns-then-is_one : goal.write_lines-returns-then-is_one
write_lines-returns-then-is_one g t c =
    subst (λ (ls : Lines). Writes c.write_block.result c.write_block.new.page (put_lines ls c.args.page.now))
    (block_is (g.N.Names.named c.args.names.now) (g.N.StatementNames.value c.args.names.now) c.state-held.result.now c.args.number c.args.depth c.in_ok-is_one.is_one c.state-held.ensures c.in_ok-is_one.ensures c.if-is_one.true) c.write_block.ensures

pub write_lines-returns : goal.write_lines-returns
write_lines-returns g t c =
    subst (λ (ls : Lines). Writes c.write_inner.result c.write_inner.new.page (put_lines ls c.args.page.now))
    (no_block_is (g.N.Names.named c.args.names.now) (g.N.StatementNames.value c.args.names.now) c.state-held.result.now c.args.number c.args.depth c.in_ok-is_one.is_one c.state-held.ensures c.in_ok-is_one.ensures c.if-is_one.false) c.write_inner.ensures

pub write_or_empty-returns-then-is_none : goal.write_or_empty-returns-then-is_none
write_or_empty-returns-then-is_none g t c =
    subst (λ (ls : Lines). Writes c.write_empty.result c.write_empty.new.page (put_lines ls c.args.page.now))
    (nothing_is (g.N.Names.named c.args.names.now) (g.N.StatementNames.value c.args.names.now) c.state-held.result.now c.args.number c.args.depth c.in_ok-is_none.is_none c.state-held.ensures c.in_ok-is_none.ensures c.if-is_none.true) c.write_empty.ensures

pub write_or_empty-returns : goal.write_or_empty-returns
write_or_empty-returns g t c =
    subst (λ (ls : Lines). Writes c.write_lines.result c.write_lines.new.page (put_lines ls c.args.page.now))
    (something_is (g.N.Names.named c.args.names.now) (g.N.StatementNames.value c.args.names.now) c.state-held.result.now c.args.number c.args.depth c.in_ok-is_none.is_none c.state-held.ensures c.in_ok-is_none.ensures c.if-is_none.false) c.write_lines.ensures
