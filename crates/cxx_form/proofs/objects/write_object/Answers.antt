use Rattle.std.proofs.Common.{length, subst, List}
use Rattle.cxx_page.specs.Sheets.{put, Writes}
use Rattle.cxx_reading.specs.Words.{Word}
use Rattle.cxx_form.specs.Books.{trees_of}
use Rattle.cxx_form.proofs.Initial.{earlier_below, object_is}
use Rattle.cxx_form.proofs.objects.write_object.Goals as goal

pub write_parts-requires-clause-below : goal.write_parts-requires-clause-below
write_parts-requires-clause-below c = earlier_below c.args.tree.0 (length (trees_of c.args.book.now)) c.node-node.result.now.children c.node-node.ensures.children c.requires.known

pub returns : goal.returns
returns c =
    subst (λ (ws : List Word). Writes c.write_parts.result c.write_parts.new.page (put ws c.args.page.now))
    (object_is c.args.book.now c.node-node.result.now c.args.tree c.args.number.0 c.node-node.ensures.tree) c.write_parts.ensures
