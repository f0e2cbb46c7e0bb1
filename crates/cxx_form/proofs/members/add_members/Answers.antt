use Rattle.std.proofs.Common.{◌∙◌, ◌++◌, ap, List, ℕ}
use Rattle.cxx_form.specs.Lines.{numbers_in}
use Rattle.cxx_form.specs.Views.{facts_in}
use Rattle.cxx_form.proofs.Membered.{members_are}
use Rattle.cxx_form.proofs.members.add_members.Goals as goal

pub returns : goal.returns
returns c =
    c.in_ok-add_firsts.ensures
    ∙ ap (λ (ns : List ℕ). numbers_in c.args.found.now.items ++ ns) (members_are (facts_in c.args.state.now) c.args.parts.now c.args.scope.0 c.row.result.now c.requires c.row.ensures)
