use Rattle.std.specs.Prelude.{Result}
use Rattle.std.proofs.Common.{subst}
use Rattle.cxx_model.specs.declared.stop.Stop.{Stop}
use Rattle.cxx_cursor.specs.Asking.{AnyKnown, itself}
use Rattle.cxx_cursor.specs.Reading.{Answers}
use Rattle.cxx_units.proofs.Ended.{ended_whole, stopped}
use Rattle.cxx_units.proofs.unit.whole.Goals as goal

-- src/unit.rt:43:1
pub returns-in-Err-clause-is : goal.returns-in-Err-clause-is
returns-in-Err-clause-is c = λ end reading given. stopped c.args.options c.in-Err.why reading (subst (λ (ended : Result (Unit {0}) Stop). Answers itself AnyKnown c.args.state end ended reading) c.in-Err.is given)

pub returns-in-Ok-settled-clause-is : goal.returns-in-Ok-settled-clause-is
returns-in-Ok-settled-clause-is c = λ end reading given. ended_whole c.args.options c.args.state c.in-Ok-settled.state end c.args.ended c.in-Ok.field-0 reading c.in-Ok.is c.in-Ok-settled.ensures.same given
