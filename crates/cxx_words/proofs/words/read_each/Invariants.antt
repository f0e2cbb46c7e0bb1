-- what is left chooses what all words choose
use Rattle.std.proofs.Common.{◌≡◌, drop, map}
use Rattle.std.specs.Prelude.{string_bytes}
use Rattle.cxx_words.specs.Reader.{at_start, read_on}
use Rattle.cxx_words.proofs.words.read_each.Given as goal

abbrev pub invariant-loop-word : goal.invariant-loop-word
invariant-loop-word l = read_on l.reader (map string_bytes (drop l.word-index l.words)) ≡ read_on at_start (map string_bytes l.words)
