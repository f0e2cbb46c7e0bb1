use Rattle.std.proofs.Common.{◌≡◌, drop}
use Rattle.cxx_declare.specs.Functions.{not_given}
use Rattle.cxx_tree.specs.Held.{meaning, offers_at, trees}
use Rattle.cxx_declare.proofs.functions.not_given.Given as goal

abbrev pub invariant-loop-one : goal.invariant-loop-one
invariant-loop-one l = not_given (meaning l.state) l.place l.word l.first (offers_at (trees l.state) (drop l.one-index l.offers)) ≡ not_given (meaning l.state) l.place l.word l.first (offers_at (trees l.state) l.offers)
