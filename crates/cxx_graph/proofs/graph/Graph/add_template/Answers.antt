use Rattle.std.proofs.Common.{sym, subst, length, List, ◌<◌}
use Rattle.cxx_model.specs.declared.facts.Pattern.{Pattern}
use Rattle.cxx_model.specs.Facts.Graph.{Graph, IsPatternInRange}
use Rattle.cxx_graph.specs.Stored.{IsStored, graph_of}
use Rattle.cxx_graph.proofs.Classes.{stored-pattern}
use Rattle.cxx_graph.proofs.graph.Graph.add_template.Goals as goal

pub invariant_of-self-2 : goal.invariant_of-self-2
invariant_of-self-2 c =
    let graph : Graph = graph_of c.self.inside.facts.items c.self.inside.specialisations.entries c.self.inside.classes.items c.self.inside.patterns.items in
    let fewer : length graph.patterns < length graph.facts = subst (λ (g : Graph). length g.patterns < length g.facts) (sym c.self.view_is) c.requires.fewer in
    let range : IsPatternInRange graph (length graph.patterns) c.args.pattern = subst (λ (g : Graph). IsPatternInRange g (length g.patterns) c.args.pattern) (sym c.self.view_is) c.requires.range in
    record {
      stored =
          subst (λ (patterns : List Pattern). IsStored c.self.inside.facts.items c.self.inside.specialisations.entries c.self.inside.classes.items c.self.inside.completed.items patterns) (sym c.in_ok-push.ensures.items)
          (stored-pattern c.self.inside.facts.items c.self.inside.specialisations.entries c.self.inside.classes.items c.self.inside.completed.items c.self.inside.patterns.items c.self.invariant.stored c.args.pattern fewer range);
      kept = c.self.invariant.kept;
    }
