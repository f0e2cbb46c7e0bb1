use Rattle.cxx_listing.proofs.Kept.{each_listed}
use Rattle.cxx_listing.proofs.laws.calls_are_listed.Goals as goal

pub returns : goal.returns
returns c = each_listed
