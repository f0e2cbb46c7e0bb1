use Rattle.std.proofs.Common.{◌≡◌, None, drop}
use Rattle.cxx_members.specs.Ways.{latest}
use Rattle.cxx_members.proofs.ways.latest_of.Given as goal

abbrev pub invariant-loop-one : goal.invariant-loop-one
invariant-loop-one l = latest l.class l.found (drop l.one-index l.records) ≡ latest l.class None l.records
