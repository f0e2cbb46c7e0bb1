use Rattle.std.proofs.Common.{length}
use Rattle.cxx_declare.proofs.again.again_by.Goals as goal

pub returns-then-is_again-clause-below : goal.returns-then-is_again-clause-below
returns-then-is_again-clause-below c = c.again_what.ensures.below (length c.args.types.now) c.requires.what
