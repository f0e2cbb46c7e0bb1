use Rattle.std.proofs.Common.{◌≡◌, ◌++◌, drop}
use Rattle.std.specs.Prelude.{flat_map}
use Rattle.cxx_form.specs.Order.{declared_on}
use Rattle.cxx_tree.specs.Held.{trees}
use Rattle.cxx_form.specs.Lines.{lines_at, numbers_in}
use Rattle.cxx_form.specs.Views.{facts_in}
use Rattle.cxx_form.proofs.order.declared.Given as goal

abbrev pub invariant-loop-line : goal.invariant-loop-line
invariant-loop-line l = numbers_in l.found.items ++ flat_map (declared_on (facts_in l.state)) (lines_at (trees l.state) (drop l.line-index l.lines)) ≡ flat_map (declared_on (facts_in l.state)) (lines_at (trees l.state) l.lines)
