use Rattle.std.proofs.Common.{ℕ, ◌≡◌, ◌++◌}
use Rattle.cxx_meaning.specs.Lookups.Gathered.{gathered}
use Rattle.cxx_form.specs.Giving.{held_given, scope_of_part}
use Rattle.cxx_form.specs.Rows.{row_at}
use Rattle.cxx_form.specs.Views.{facts_from, facts_in}
use Rattle.cxx_form.proofs.scoped.parts.Given as goal

abbrev pub invariant-loop-number : goal.invariant-loop-number
invariant-loop-number l = (n : ℕ) → row_at l.rows n ++ gathered (held_given scope_of_part n) l.number (facts_from l.state l.number) ≡ gathered (held_given scope_of_part n) 0 (facts_in l.state)
