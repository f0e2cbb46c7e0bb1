use Rattle.std.proofs.Common.{◌∙◌, sym}
use Rattle.cxx_words.proofs.Reading.{digit_too_large}
use Rattle.cxx_words.proofs.depth.value_of.Goals as goal

pub returns-then-value-gt-MOST_DEPTH : goal.returns-then-value-gt-MOST_DEPTH
returns-then-value-gt-MOST_DEPTH c = digit_too_large c.args.text.now c.loop-byte.byte-index 0 c.loop-byte.value _ c.loop-byte-test.true (sym c.is_digit.ensures ∙ c.if-not-is_digit.false) c.if-value-gt-MOST_DEPTH.true c.loop-byte.invariant.0
