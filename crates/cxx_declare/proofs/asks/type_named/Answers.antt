use Rattle.std.proofs.Common.{ap, ◌∙◌}
use Rattle.cxx_reading.specs.Seen.{fact_numbers, numbered_at}
use Rattle.cxx_tree.specs.Held.{meaning}
use Rattle.cxx_declare.proofs.Asking.{type_found}
use Rattle.cxx_declare.proofs.asks.type_named.Goals as goal

pub returns-in-Ok : goal.returns-in-Ok
returns-in-Ok c = λ one place. type_found c.args.state.now c.type_among.new.state one place c.args.word.now _ c.type_among.result (ap (λ ns. numbered_at (meaning c.args.state.now).graph (fact_numbers ns)) c.as_slice.ensures ∙ c.in-Ok.ensures) c.type_among.ensures
