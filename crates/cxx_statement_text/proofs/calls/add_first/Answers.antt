use Rattle.std.proofs.Common.{◌≡◌, ◌++◌, map, subst, List}
use Rattle.std.specs.Prelude.{OnOk}
use Rattle.cxx_phrase_text.specs.Calls.{CallOfText}
use Rattle.cxx_phrase_text.specs.Listing.{call_of}
use Rattle.cxx_statement_text.proofs.Calling.{an_expression}
use Rattle.cxx_statement_text.proofs.calls.add_first.Goals as goal

pub returns-in-len1-up : goal.returns-in-len1-up
returns-in-len1-up c =
    subst (λ (cs : List CallOfText). OnOk c.add_calls.result (map call_of c.add_calls.new.found.items ≡ map call_of c.args.found.now.items ++ cs))
    (an_expression c.args.state.now c.args.parts.now _ c.in-len1-up.len_at_least) c.add_calls.ensures
