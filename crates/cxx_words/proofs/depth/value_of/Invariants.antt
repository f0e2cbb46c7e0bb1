-- what is left gives the whole value
use Rattle.std.proofs.Common.{◌≡◌, ◌≤◌, drop}
use Rattle.cxx_words.specs.Words.{value_from, within_most}
use Rattle.cxx_words.proofs.depth.value_of.Given as goal

abbrev pub invariant-loop-byte : goal.invariant-loop-byte
invariant-loop-byte l = (within_most (value_from l.value (drop l.byte-index l.text)) ≡ within_most (value_from 0 l.text)) × (l.value ≤ 256)
