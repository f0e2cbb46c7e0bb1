use Rattle.std.proofs.Common.{◌∙◌, ap, length}
use Rattle.cxx_model.specs.Facts.Graph.{Graph}
use Rattle.cxx_form.specs.Order.{text_order}
use Rattle.cxx_tree.specs.Held.{meaning}
use Rattle.cxx_form.proofs.Tagged.{class_tag_is}
use Rattle.cxx_form.proofs.names.class_tag.Goals as goal

pub returns : goal.returns
returns c =
    let held = c.args.state.now in
    class_tag_is held c.args.places.now c.args.class c.in_ok-text.text c.stem_at.result.now c.number.result c.declaration-number.result.0 c.length.result c.requires.places (c.length.ensures.count ∙ ap (λ (graph : Graph). length graph.facts) c.graph.ensures.is) c.declaration-number.ensures c.stem_at.ensures (c.number.ensures (text_order (meaning held)) c.requires.numbered) c.in_ok-text.ensures
