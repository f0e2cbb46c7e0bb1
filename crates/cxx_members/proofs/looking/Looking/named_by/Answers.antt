use Rattle.std.proofs.Common.{length}
use Rattle.cxx_members.proofs.looking.Looking.named_by.Goals as goal

pub least_of-requires : goal.least_of-requires
least_of-requires c = record { entity = c.meaning_of-entity.ensures.below (length c.args.self.now.types.now) c.requires.one; sightings = c.requires.sightings }
