use Rattle.std.proofs.Common.{length}
use Rattle.cxx_found.specs.Views.{types_of}
use Rattle.cxx_found.proofs.seeking.Seeking.is_again.Goals as goal

pub same_plain-requires-clause-one : goal.same_plain-requires-clause-one
same_plain-requires-clause-one c = c.plain_of-first.ensures.below (length (types_of c.args.self.now)) c.requires.one

pub same_plain-requires-clause-two : goal.same_plain-requires-clause-two
same_plain-requires-clause-two c = c.plain_of-second.ensures.below (length (types_of c.args.self.now)) c.requires.two
