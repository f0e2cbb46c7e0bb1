use Rattle.std.proofs.Common.{ap, ◌∙◌}
use Rattle.cxx_model.specs.Facts.Declarations.{graph_at}
use Rattle.cxx_model.specs.Facts.Graph.{Graph}
use Rattle.cxx_reading.specs.Declaring.{scope_count}
use Rattle.cxx_declare.proofs.Spacing.{opened_newly}
use Rattle.cxx_declare.proofs.spaces.open_new.Goals as goal

pub returns-in-Ok : goal.returns-in-Ok
returns-in-Ok c = λ kind. opened_newly c.args.state.now c.declare_first.new.state kind c.args.place c.args.word.now c.scopes-inner.result c.in-Ok.fact c.declare_first.result (c.scopes-inner.ensures.is c.args.state.now.types ∙ ap (λ (g : Graph). scope_count (graph_at c.args.state.now.types g)) c.graph.ensures.is) c.in-Ok.ensures.is c.declare_first.ensures
