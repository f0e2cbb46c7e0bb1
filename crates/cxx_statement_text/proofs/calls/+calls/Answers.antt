use Rattle.std.proofs.Common.{ℕ, ◌≡◌, ◌<◌, ◌+◌, ◌*◌, ◌++◌, arith, length, List, map, slice_index_or, subst, sym}
use Rattle.std.specs.Prelude.{OnOk}
use Rattle.cxx_model.specs.declared.types.TreeId.{TreeId}
use Rattle.cxx_tree.specs.Held.{trees}
use Rattle.cxx_phrase_text.specs.Calls.{CallOfText}
use Rattle.cxx_phrase_text.specs.Listing.{call_of}
use Rattle.cxx_phrase_text.proofs.Parts.{child_below}
use Rattle.cxx_statement_text.proofs.Calling.{calls_are}
use Rattle.cxx_statement_text.proofs.calls.+calls.Goals as goal

pub add_each-add_statement_calls-requires : goal.add_each-add_statement_calls-requires
add_each-add_statement_calls-requires t c =
    let none : TreeId = record { 0 = 0 } in
    let number : ℕ = (slice_index_or c.args.parts.now c.loop-part.part-index none).0 in
    let within : number < c.args.end.0 = child_below c.args.end.0 c.args.parts.now c.loop-part.part-index none c.requires.earlier c.loop-part-test.true in
    let known : c.args.end.0 < length (trees c.args.state.now) = c.requires.known in
    let whole : t ≡ 8 * c.args.end.0 = sym c.decreases in
    let small : 8 * number + 6 < t = omega arith in
    (small, omega arith)

pub add_statement_calls-returns : goal.add_statement_calls-returns
add_statement_calls-returns t c =
    subst (λ (cs : List CallOfText). OnOk c.add_form.result (map call_of c.add_form.new.found.items ≡ map call_of c.args.found.now.items ++ cs))
    (calls_are c.args.state.now c.node-node.result.now c.args.number c.form_of.result c.node-node.ensures.tree c.form_of.ensures) c.add_form.ensures
