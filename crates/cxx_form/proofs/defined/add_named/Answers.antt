use Rattle.std.proofs.Common.{◌++◌, ◌∙◌, ap, List, ℕ}
use Rattle.std.specs.Prelude.{flat_map}
use Rattle.cxx_form.specs.Lines.{numbers_in}
use Rattle.cxx_form.specs.Views.{facts_in}
use Rattle.cxx_form.proofs.Defining.{gives_all, gives_more, named_are, named_at}
use Rattle.cxx_form.proofs.defined.add_named.Goals as goal

pub loop-number-preserved : goal.loop-number-preserved
loop-number-preserved c =
    gives_more (named_at (facts_in c.args.state.now)) c.args.numbers.now c.loop-number.number-index (record { 0 = 0 }) (numbers_in c.loop-number.found.items) (numbers_in c.add_if_named.new.found.items) (numbers_in c.args.found.now.items ++ flat_map (named_at (facts_in c.args.state.now)) c.args.numbers.now) c.loop-number-test.true c.in_ok-add_if_named.ensures c.loop-number.invariant

pub returns : goal.returns
returns c =
    gives_all (named_at (facts_in c.args.state.now)) c.args.numbers.now c.loop-number.number-index (numbers_in c.loop-number.found.items) (numbers_in c.args.found.now.items ++ flat_map (named_at (facts_in c.args.state.now)) c.args.numbers.now) c.loop-number-test.false c.loop-number.invariant
    ∙ ap (λ (ns : List ℕ). numbers_in c.args.found.now.items ++ ns) (named_are (facts_in c.args.state.now) c.args.numbers.now)
