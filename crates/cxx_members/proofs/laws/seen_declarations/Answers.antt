use Rattle.cxx_meaning.proofs.Seen.{each_is_seen}
use Rattle.cxx_members.proofs.laws.seen_declarations.Goals as goal

pub returns : goal.returns
returns c = each_is_seen
