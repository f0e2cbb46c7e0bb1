use Rattle.std.proofs.Common.{ap}
use Rattle.cxx_declare.specs.Made.{unit_of}
use Rattle.cxx_declare.proofs.Making.{parameter_declared}
use Rattle.cxx_declare.proofs.objects.declare_parameter.Goals as goal

pub returns-in-Ok : goal.returns-in-Ok
returns-in-Ok c = λ one named. parameter_declared c.args.state.now c.declare.new.state c.scope.result c.args.name c.args.place c.args.of one c.fact_in-fact.result c.declare.result _ c.scope.ensures.is c.fact_in-fact.ensures named (ap unit_of c.in-Ok.is) c.declare.ensures.answered

pub returns-in-Err : goal.returns-in-Err
returns-in-Err c = λ one named. parameter_declared c.args.state.now c.declare.new.state c.scope.result c.args.name c.args.place c.args.of one c.fact_in-fact.result c.declare.result _ c.scope.ensures.is c.fact_in-fact.ensures named (ap unit_of c.in-Err.is) c.declare.ensures.answered
