use Rattle.std.proofs.Common.{◌≡◌, drop}
use Rattle.cxx_language.specs.Units.{has_body}
use Rattle.cxx_cursor.specs.Views.{AreTreesHeld, trees_held}
use Rattle.cxx_space.proofs.declarations.has_body.Given as goal

abbrev pub invariant-loop-one : goal.invariant-loop-one
invariant-loop-one l = record {
  known : AreTreesHeld l.state (drop l.one-index l.declarators);
  is : has_body (trees_held l.state (drop l.one-index l.declarators)) ≡ has_body (trees_held l.state l.declarators);
}
