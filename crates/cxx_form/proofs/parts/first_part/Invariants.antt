use Rattle.std.proofs.Common.{◌≡◌, drop}
use Rattle.cxx_reading.specs.Trees.{in_turn}
use Rattle.cxx_tree.specs.Arena.{trees_in}
use Rattle.cxx_tree.specs.Held.{trees}
use Rattle.cxx_form.specs.Order.{first_tree, parts_of_production}
use Rattle.cxx_form.proofs.parts.first_part.Given as goal

abbrev pub invariant-loop-part : goal.invariant-loop-part
invariant-loop-part l = first_tree (parts_of_production l.production (in_turn (trees_in (trees l.state) (drop l.part-index l.parts)))) ≡ first_tree (parts_of_production l.production (in_turn (trees_in (trees l.state) l.parts)))
