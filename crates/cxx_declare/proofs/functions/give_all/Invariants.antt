use Rattle.std.proofs.Common.{◌≡◌, drop}
use Rattle.cxx_declare.specs.Functions.{with_all_given}
use Rattle.cxx_tree.specs.Held.{meaning, offers_at, trees}
use Rattle.cxx_tree.specs.Later.{Later}
use Rattle.cxx_declare.proofs.functions.give_all.Given as goal

abbrev pub invariant-loop-one : goal.invariant-loop-one
invariant-loop-one l = record {
  later : Later l.fn.state l.state;
  is : with_all_given l.number.0 (offers_at (trees l.fn.state) (drop l.one-index l.offers)) (meaning l.state) ≡ with_all_given l.number.0 (offers_at (trees l.fn.state) l.offers) (meaning l.fn.state);
}
