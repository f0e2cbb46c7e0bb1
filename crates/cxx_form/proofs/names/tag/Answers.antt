use Rattle.std.proofs.Common.{◌∙◌, ap, length}
use Rattle.cxx_model.specs.Facts.Graph.{Graph}
use Rattle.cxx_form.specs.Order.{text_order}
use Rattle.cxx_tree.specs.Held.{meaning}
use Rattle.cxx_form.proofs.Tagged.{tag_is}
use Rattle.cxx_form.proofs.names.tag.Goals as goal

pub returns : goal.returns
returns c =
    let held = c.args.state.now in
    tag_is held c.args.declared.now c.args.named.0 c.in_ok-text.text c.stem_at.result.now c.number.result c.declaration-number.result.0 c.length.result c.requires.declared (c.length.ensures.count ∙ ap (λ (graph : Graph). length graph.facts) c.graph.ensures.is) c.declaration-number.ensures c.stem_at.ensures (c.number.ensures (text_order (meaning held)) c.requires.numbered) c.in_ok-text.ensures
