use Rattle.std.proofs.Common.{◌≡◌, List, drop}
use Rattle.cxx_reading.specs.Trees.{CxxTree}
use Rattle.cxx_declare.specs.Functions.{is_offered}
use Rattle.cxx_tree.specs.Held.{offers_at}
use Rattle.cxx_declare.proofs.functions.is_offered.Given as goal

abbrev pub invariant-loop-one : goal.invariant-loop-one
invariant-loop-one l = (trees : List CxxTree) → is_offered l.index (offers_at trees (drop l.one-index l.offers)) ≡ is_offered l.index (offers_at trees l.offers)
