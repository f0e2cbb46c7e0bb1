use Rattle.std.proofs.Common.{List, subst}
use Rattle.cxx_page.specs.Sheets.{put, Writes}
use Rattle.cxx_reading.specs.Words.{Word}
use Rattle.cxx_phrase_text.proofs.Initials.{an_initializer, no_initializer}
use Rattle.cxx_phrase_text.proofs.initializers.write_initializer.Goals as goal

pub returns-then-is_nothing : goal.returns-then-is_nothing
returns-then-is_nothing g c =
    no_initializer (g.N.Names.named c.args.names.now) c.state.result.now c.node-node.result.now c.args.number c.as_slice.result.now c.is_nothing.result c.args.page.now c.state.ensures c.node-node.ensures.tree c.as_slice.ensures c.is_nothing.ensures c.if-is_nothing.true

pub returns : goal.returns
returns g c =
    subst (λ (ws : List Word). Writes c.write_equals.result c.write_equals.new.page (put ws c.args.page.now))
    (an_initializer (g.N.Names.named c.args.names.now) c.state.result.now c.node-node.result.now c.args.number c.as_slice.result.now c.is_nothing.result c.state.ensures c.node-node.ensures.tree c.as_slice.ensures c.is_nothing.ensures c.if-is_nothing.false) c.write_equals.ensures
