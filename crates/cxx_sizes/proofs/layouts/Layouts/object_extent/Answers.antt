use Rattle.std.proofs.Common.{◌∙◌}
use Rattle.cxx_model.specs.Facts.Declarations.{graph_at}
use Rattle.cxx_model.specs.Types.Numbers.{type_at}
use Rattle.cxx_sizes.proofs.Noting.{object_extent_is}
use Rattle.cxx_sizes.proofs.layouts.Layouts.object_extent.Goals as goal

pub returns : goal.returns
returns c = c.extent_of.ensures ∙ object_extent_is (graph_at c.args.types.now c.args.graph.now) c.args.self.now (type_at c.args.types.now c.args.of.0) c.requires.noted
