use Rattle.std.proofs.Common.{arith}
use Rattle.std.proofs.lemmas.Bool.Decides.{nat_tests}
use Rattle.cxx_tokens.proofs.Pieces.{universal_at, stray_at}
use Rattle.cxx_tokens.proofs.front.backslash.Goals as goal

pub returns-in-117 : goal.returns-in-117
returns-in-117 c = universal_at c.args.fresh c.args.text.now c.requires (omega arith) (grind (arith, nat_tests))

pub returns-in_default : goal.returns-in_default
returns-in_default c = stray_at c.args.fresh c.args.text.now c.requires (λ long. absurd (omega arith))

pub returns-in_default-2 : goal.returns-in_default-2
returns-in_default-2 c = stray_at c.args.fresh c.args.text.now c.requires (λ long. grind (arith, nat_tests))
