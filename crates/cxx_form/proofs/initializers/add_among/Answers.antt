use Rattle.std.proofs.Common.{◌≡◌, ◌++◌, map, subst, List}
use Rattle.std.specs.Prelude.{OnOk}
use Rattle.cxx_phrase_text.specs.Calls.{CallOfText}
use Rattle.cxx_phrase_text.specs.Listing.{call_of}
use Rattle.cxx_tree.specs.Held.{trees}
use Rattle.cxx_form.proofs.Initial.{its_calls, no_calls}
use Rattle.cxx_form.proofs.initializers.add_among.Goals as goal

pub returns-in_default : goal.returns-in_default
returns-in_default c = no_calls (trees c.args.state.now) c.args.parts.now (map call_of c.args.found.now.items) c.in_default.ensures.is

pub returns : goal.returns
returns c =
    subst (λ (cs : List CallOfText). OnOk c.add_calls.result (map call_of c.add_calls.new.found.items ≡ map call_of c.args.found.now.items ++ cs))
    (its_calls c.args.state.now c.args.parts.now c.in-Some.number c.in-Some.ensures.is) c.add_calls.ensures
