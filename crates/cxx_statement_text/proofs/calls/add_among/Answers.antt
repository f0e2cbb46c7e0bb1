use Rattle.std.proofs.Common.{◌≡◌, ◌++◌, map, subst, List}
use Rattle.std.specs.Prelude.{OnOk}
use Rattle.cxx_phrase_text.specs.Calls.{CallOfText}
use Rattle.cxx_phrase_text.specs.Listing.{call_of}
use Rattle.cxx_statement_text.proofs.Calling.{an_initializer}
use Rattle.cxx_statement_text.proofs.calls.add_among.Goals as goal

pub returns : goal.returns
returns c =
    subst (λ (cs : List CallOfText). OnOk c.add_calls.result (map call_of c.add_calls.new.found.items ≡ map call_of c.args.found.now.items ++ cs))
    (an_initializer c.args.state.now c.args.parts.now c.in-Some.number c.in-Some.ensures.is) c.add_calls.ensures
