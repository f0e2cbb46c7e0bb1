use Rattle.std.proofs.Common.{◌≡◌, ◌++◌, drop}
use Rattle.std.specs.Prelude.{flat_map}
use Rattle.cxx_form.specs.Lines.{numbers_in}
use Rattle.cxx_form.proofs.Defining.{printed_at}
use Rattle.cxx_form.proofs.defined.add_each_printed.Given as goal

abbrev pub invariant-loop-tree : goal.invariant-loop-tree
invariant-loop-tree l = numbers_in l.found.items ++ flat_map (printed_at l.state) (drop l.tree-index l.declarators) ≡ numbers_in l.fn.found.items ++ flat_map (printed_at l.state) l.declarators
