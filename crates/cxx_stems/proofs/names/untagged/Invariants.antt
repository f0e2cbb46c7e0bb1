-- no tag begins in what is passed
use Rattle.std.proofs.Common.{◌≡◌, ◌++◌, take, drop}
use Rattle.cxx_model.specs.Printing.Names.{untagged}
use Rattle.cxx_stems.proofs.names.untagged.Given as goal

abbrev pub invariant-loop-i : goal.invariant-loop-i
invariant-loop-i l = take l.i l.word ++ untagged (drop l.i l.word) ≡ untagged l.word
