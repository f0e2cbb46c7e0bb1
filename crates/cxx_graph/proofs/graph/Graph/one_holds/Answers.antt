use Rattle.std.proofs.Common.{ap, sym, ◌∙◌, ℤ, to_z-of_z}
use Rattle.std.specs.Int.{w128}
use Rattle.cxx_model.specs.Facts.Graph.{Graph}
use Rattle.cxx_graph.specs.Kept.{with_value}
use Rattle.cxx_graph.proofs.Keeping.{one_more_holds}
use Rattle.cxx_graph.proofs.graph.Graph.one_holds.Goals as goal

pub returns : goal.returns
returns c = one_more_holds c.args.self.now.facts c.self.inside.facts.items c.args.number.0 c.args.value c.holders_of.result c.with.result c.any.result (sym (ap (λ (g : Graph). g.facts) c.self.view_is)) (c.holders_of.ensures ∙ c.self.invariant.kept.of_enumerations c.args.number.0) (c.with.ensures ∙ ap (λ (v : ℤ). with_value c.holders_of.result v) (to_z-of_z {w = w128} {z = c.args.value} (record { sfits = c.ranges.value.sfits }))) c.any.ensures
