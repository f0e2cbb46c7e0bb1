use Rattle.std.proofs.Common.{Some, ap, sym, ◌∙◌}
use Rattle.std.specs.Option.{option_copied}
use Rattle.cxx_graph.proofs.Awaiting.{pending_some}
use Rattle.cxx_graph.proofs.graph.Graph.pending.Goals as goal

pub returns-in-Some : goal.returns-in-Some
returns-in-Some c =
    let reserved = c.specialisation.ensures ∙ ap (λ r. Some (option_copied r)) c.in-Some.is in
    λ types. c.is_waiting.ensures ∙ sym (pending_some types c.args.self.now c.args.class.0 c.in-Some.of.now reserved)
