use Rattle.std.proofs.Common.{◌≡◌, ◌++◌, drop}
use Rattle.std.specs.Prelude.{flat_map}
use Rattle.cxx_form.specs.Lines.{numbers_in}
use Rattle.cxx_form.specs.Views.{facts_in}
use Rattle.cxx_form.proofs.Defining.{named_at}
use Rattle.cxx_form.proofs.defined.add_named.Given as goal

abbrev pub invariant-loop-number : goal.invariant-loop-number
invariant-loop-number l = numbers_in l.found.items ++ flat_map (named_at (facts_in l.state)) (drop l.number-index l.numbers) ≡ numbers_in l.fn.found.items ++ flat_map (named_at (facts_in l.state)) l.numbers
