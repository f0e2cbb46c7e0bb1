use Rattle.std.proofs.Common.{length}
use Rattle.cxx_members.proofs.looking.Looking.lesser.Goals as goal

pub same_entity-requires-clause-two : goal.same_entity-requires-clause-two
same_entity-requires-clause-two c = c.meaning_of.ensures.below (length c.args.self.now.types.now) c.requires.one
