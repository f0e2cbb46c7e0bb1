use Rattle.std.proofs.Common.{length}
use Rattle.cxx_tree.specs.Held.{trees}
use Rattle.cxx_form.specs.Giving.{enumeration_given}
use Rattle.cxx_form.specs.Views.{facts_in}
use Rattle.cxx_form.proofs.Lined.{line_given}
use Rattle.cxx_form.proofs.lines.add_enumeration.Goals as goal

pub returns : goal.returns
returns c =
    let held = c.args.state.now in
    line_given enumeration_given held.types (trees held) (facts_in held) c.args.number c.fact-fact.result.now c.args.lines.now.items c.add.new.lines.items c.enumeration_line.result c.fact-fact.ensures.is (c.enumeration_line.ensures.is held.types (trees held)) c.in_ok-add.ensures

pub add-requires : goal.add-requires
add-requires c = c.enumeration_line.ensures.below (length (trees c.args.state.now))
