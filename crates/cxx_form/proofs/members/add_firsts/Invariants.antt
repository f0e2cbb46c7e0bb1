use Rattle.std.proofs.Common.{◌≡◌, ◌++◌, drop}
use Rattle.std.specs.Prelude.{flat_map}
use Rattle.cxx_form.specs.Lines.{numbers_in}
use Rattle.cxx_form.specs.Views.{facts_in}
use Rattle.cxx_form.proofs.Membered.{first_at}
use Rattle.cxx_form.proofs.members.add_firsts.Given as goal

abbrev pub invariant-loop-number : goal.invariant-loop-number
invariant-loop-number l = numbers_in l.found.items ++ flat_map (first_at (facts_in l.state)) (drop l.number-index l.numbers) ≡ numbers_in l.fn.found.items ++ flat_map (first_at (facts_in l.state)) l.numbers
