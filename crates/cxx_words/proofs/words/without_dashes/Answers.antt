use Rattle.std.proofs.Common.{◌∙◌, true, false, sym}
use Rattle.std.specs.Prelude.{string_bytes}
use Rattle.cxx_words.proofs.Reading.{last_word}
use Rattle.cxx_words.proofs.words.without_dashes.Goals as goal

pub returns-then-is_dashes : goal.returns-then-is_dashes
returns-then-is_dashes c = sym (last_word string_bytes c.args.words.now c.last-item.result true c.in-len1-up.len_at_least c.last-item.is (sym c.is_dashes.ensures ∙ c.if-is_dashes.true))

pub returns-else-is_dashes : goal.returns-else-is_dashes
returns-else-is_dashes c = sym (last_word string_bytes c.args.words.now c.last-item.result false c.in-len1-up.len_at_least c.last-item.is (sym c.is_dashes.ensures ∙ c.if-is_dashes.false))
