use Rattle.cxx_meaning.proofs.Subobjects.{ways_are_paths}
use Rattle.cxx_meaning.proofs.Ways.{each_is_way}
use Rattle.cxx_members.proofs.laws.found_by_bases.Goals as goal

pub returns : goal.returns
returns c = record { way = each_is_way; path = ways_are_paths }
