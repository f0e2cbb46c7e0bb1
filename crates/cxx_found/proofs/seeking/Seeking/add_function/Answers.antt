use Rattle.std.proofs.Common.{subst}
use Rattle.std.specs.Prelude.{OnOk}
use Rattle.cxx_members.specs.Sighted.{Adds}
use Rattle.cxx_found.specs.Views.{types_of}
use Rattle.cxx_found.proofs.seeking.Seeking.add_function.Goals as goal

pub returns : goal.returns
returns c = subst (λ more. OnOk c.add_sighting.result (Adds (types_of c.args.self.now) c.args.found.now.items c.add_sighting.new.found.items more)) c.function_of-function.ensures.is c.add_sighting.ensures
