use Rattle.std.proofs.Common.{ap, ◌∙◌, length}
use Rattle.cxx_model.specs.Facts.Graph.{Graph}
use Rattle.cxx_declare.proofs.Defining.{object_definable_is}
use Rattle.cxx_declare.proofs.conflict.definable_object.Goals as goal

pub returns : goal.returns
returns c = object_definable_is c.args.state.now c.args.fact.now c.word_of.result.now c.length.result c.undefined.result c.in_ok-free_object.field-0 c.word_of.ensures (c.length.ensures.count ∙ ap (λ (g : Graph). length g.facts) c.graph.ensures.is) c.in_ok-free_object.ensures c.undefined.ensures
