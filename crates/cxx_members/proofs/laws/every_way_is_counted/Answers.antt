use Rattle.cxx_meaning.proofs.Counted.{each_way_is_counted}
use Rattle.cxx_meaning.proofs.Ordered.{facts_are_in_order}
use Rattle.cxx_members.proofs.laws.every_way_is_counted.Goals as goal

pub returns : goal.returns
returns c = record { counted = each_way_is_counted; order = facts_are_in_order }
