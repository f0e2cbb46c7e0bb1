-- what was found inside so far is there, and is of the type of the whole
use Rattle.std.proofs.Common.{◌<◌, length}
use Rattle.cxx_tree.specs.Held.{tree, trees}
use Rattle.cxx_answers.proofs.Opened.{SameType}
use Rattle.cxx_answers.proofs.measured.bare.Given as goal

abbrev pub invariant-loop-node : goal.invariant-loop-node
invariant-loop-node l = record {
  known : l.number.0 < length (trees l.state);
  same : SameType (tree l.state l.initial.number) (tree l.state l.number);
}

abbrev pub decreases-loop-node : goal.decreases-loop-node
decreases-loop-node l = l.number.0
