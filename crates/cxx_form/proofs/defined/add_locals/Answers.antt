use Rattle.std.proofs.Common.{◌∙◌, ap}
use Rattle.cxx_tree.specs.Arena.{trees_in}
use Rattle.cxx_tree.specs.Held.{trees}
use Rattle.cxx_form.specs.Lines.{numbers_in}
use Rattle.cxx_form.proofs.Defining.{all_locals}
use Rattle.cxx_form.proofs.defined.add_locals.Goals as goal

pub returns : goal.returns
returns c =
    let held = c.args.state.now in
    all_locals held c.args.body c.in-Some.body c.as_slice.result.now (numbers_in c.args.found.now.items) (numbers_in c.add_each_printed.new.found.items) c.in-Some.is
    (ap (trees_in (trees held)) c.as_slice.ensures.value ∙ c.in_ok-declarators.ensures.is) c.in_ok-add_each_printed.ensures
