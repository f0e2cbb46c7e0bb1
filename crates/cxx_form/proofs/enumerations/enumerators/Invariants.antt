use Rattle.std.proofs.Common.{ℕ, ◌≡◌, ◌++◌}
use Rattle.cxx_meaning.specs.Lookups.Gathered.{gathered}
use Rattle.cxx_form.specs.Giving.{enumerator_given}
use Rattle.cxx_form.specs.Rows.{row_at}
use Rattle.cxx_form.specs.Views.{facts_from, facts_in}
use Rattle.cxx_form.proofs.enumerations.enumerators.Given as goal

abbrev pub invariant-loop-number : goal.invariant-loop-number
invariant-loop-number l = (n : ℕ) → row_at l.rows n ++ gathered (enumerator_given n) l.number (facts_from l.state l.number) ≡ gathered (enumerator_given n) 0 (facts_in l.state)
