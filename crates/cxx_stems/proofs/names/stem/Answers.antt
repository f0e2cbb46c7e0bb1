use Rattle.std.proofs.Common.{arith}
use Rattle.std.proofs.lemmas.Grind.{common_steps}
use Rattle.cxx_stems.proofs.Stems.{stem_empty, stem_full}
use Rattle.cxx_stems.proofs.names.stem.Goals as goal

pub returns-then-is_empty : goal.returns-then-is_empty
returns-then-is_empty c = stem_empty c.args.word.now c.untagged-text.result.now c.untagged-text.ensures (grind (arith, common_steps))

pub returns-else-is_empty : goal.returns-else-is_empty
returns-else-is_empty c = stem_full c.args.word.now c.untagged-text.result.now c.untagged-text.ensures (λ z. grind (arith, common_steps))
