use Rattle.std.proofs.Common.{ap}
use Rattle.cxx_tree.specs.Held.{meaning}
use Rattle.cxx_this.specs.This.{object_in}
use Rattle.cxx_this.proofs.Made.{makes_as, makes_none}
use Rattle.cxx_this.proofs.this.object_of.Goals as goal

pub returns-in-Some : goal.returns-in-Some
returns-in-Some c = makes_as c.args.state.now c.object_by.new.state c.object_by.result _ _ (ap (object_in (meaning c.args.state.now).graph) c.in-Some.ensures.is) c.object_by.ensures

pub returns-in-None : goal.returns-in-None
returns-in-None c = makes_none c.args.state.now _ (ap (object_in (meaning c.args.state.now).graph) c.in-None.ensures.is)
