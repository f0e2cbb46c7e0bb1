use Rattle.std.proofs.Common.{Some, None}
use Rattle.cxx_this.proofs.Made.{makes_as, makes_none, none_in_default, this_by_function}
use Rattle.cxx_this.proofs.this.this_object.Goals as goal

pub returns-then-in_default : goal.returns-then-in_default
returns-then-in_default c = makes_none c.args.state.now _ (none_in_default c.args.state.now c.in_default.result c.in_default.ensures c.if-in_default.true)

pub returns-in-Some : goal.returns-in-Some
returns-in-Some c = makes_as c.args.state.now c.object_of.new.state c.object_of.result _ _ (this_by_function c.args.state.now c.in_default.result c.scope.result (Some c.in-Some.function) c.in_default.ensures c.scope.ensures.is c.if-in_default.false c.in-Some.ensures) c.object_of.ensures

pub returns-in-None : goal.returns-in-None
returns-in-None c = makes_none c.args.state.now _ (this_by_function c.args.state.now c.in_default.result c.scope.result None c.in_default.ensures c.scope.ensures.is c.if-in_default.false c.in-None.ensures)
