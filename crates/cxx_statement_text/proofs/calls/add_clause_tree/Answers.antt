use Rattle.std.proofs.Common.{◌≡◌, ◌++◌, map, subst, List}
use Rattle.std.specs.Prelude.{OnOk}
use Rattle.cxx_phrase_text.specs.Calls.{CallOfText}
use Rattle.cxx_phrase_text.specs.Listing.{call_of}
use Rattle.cxx_statement_text.proofs.Calling.{a_clause}
use Rattle.cxx_statement_text.proofs.calls.add_clause_tree.Goals as goal

pub returns : goal.returns
returns c =
    subst (λ (cs : List CallOfText). OnOk c.add_calls.result (map call_of c.add_calls.new.found.items ≡ map call_of c.args.found.now.items ++ cs))
    (a_clause c.args.state.now c.node-node.result.now c.args.number c.node-node.ensures.tree c.if-node-eq-EXPRESSION_STATEMENT.false) c.add_calls.ensures
