use Rattle.std.proofs.Common.{◌++◌, ◌∙◌, ap, List, ℕ}
use Rattle.std.specs.Prelude.{flat_map}
use Rattle.cxx_form.specs.Lines.{numbers_in}
use Rattle.cxx_form.specs.Views.{facts_in}
use Rattle.cxx_form.proofs.Defining.{gives_all, gives_more}
use Rattle.cxx_form.proofs.Membered.{first_at, firsts_are}
use Rattle.cxx_form.proofs.members.add_firsts.Goals as goal

pub loop-number-preserved : goal.loop-number-preserved
loop-number-preserved c =
    gives_more (first_at (facts_in c.args.state.now)) c.args.numbers.now c.loop-number.number-index (record { 0 = 0 }) (numbers_in c.loop-number.found.items) (numbers_in c.add_if_first.new.found.items) (numbers_in c.args.found.now.items ++ flat_map (first_at (facts_in c.args.state.now)) c.args.numbers.now) c.loop-number-test.true c.in_ok-add_if_first.ensures c.loop-number.invariant

pub returns : goal.returns
returns c =
    gives_all (first_at (facts_in c.args.state.now)) c.args.numbers.now c.loop-number.number-index (numbers_in c.loop-number.found.items) (numbers_in c.args.found.now.items ++ flat_map (first_at (facts_in c.args.state.now)) c.args.numbers.now) c.loop-number-test.false c.loop-number.invariant
    ∙ ap (λ (ns : List ℕ). numbers_in c.args.found.now.items ++ ns) (firsts_are (facts_in c.args.state.now) c.args.numbers.now)
