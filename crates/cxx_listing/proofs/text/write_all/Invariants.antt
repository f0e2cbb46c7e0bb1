-- what is written and the calls that are left are the whole
use Rattle.std.proofs.Common.{◌≡◌, ◌++◌, drop}
use Rattle.cxx_listing.specs.Views.{text_from}
use Rattle.cxx_listing.proofs.text.write_all.Given as goal

abbrev pub invariant-loop-one : goal.invariant-loop-one
invariant-loop-one l = l.text.items ++ text_from l.state (drop l.one-index l.calls) ≡ text_from l.state l.calls
