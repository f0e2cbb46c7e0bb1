use Rattle.std.proofs.Common.{◌≡◌, drop}
use Rattle.cxx_members.specs.Tables.{holds}
use Rattle.cxx_members.proofs.table.holds.Given as goal

abbrev pub invariant-loop-other : goal.invariant-loop-other
invariant-loop-other l = holds (drop l.other-index l.holders) l.class ≡ holds l.holders l.class
