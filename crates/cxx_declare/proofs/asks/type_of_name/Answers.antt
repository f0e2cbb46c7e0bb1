use Rattle.std.proofs.Common.{ap, ◌∙◌}
use Rattle.cxx_reading.specs.Seen.{fact_numbers, numbered_at}
use Rattle.cxx_tree.specs.Arena.{path_at}
use Rattle.cxx_tree.specs.Held.{meaning}
use Rattle.cxx_declare.proofs.Asking.{type_there}
use Rattle.cxx_declare.proofs.asks.type_of_name.Goals as goal

pub returns-in-Ok : goal.returns-in-Ok
returns-in-Ok c = type_there c.args.state.now c.type_among.new.state (path_at c.args.path.now) _ c.type_among.result (ap (λ ns. numbered_at (meaning c.args.state.now).graph (fact_numbers ns)) c.as_slice.ensures ∙ c.in-Ok.ensures) c.type_among.ensures
