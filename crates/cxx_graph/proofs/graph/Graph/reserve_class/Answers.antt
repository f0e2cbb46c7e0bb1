use Rattle.std.proofs.Common.{ap, ◌∙◌}
use Rattle.cxx_model.specs.Types.Numbers.{arguments_at}
use Rattle.cxx_model.specs.Facts.Graph.{IsReservedAlready}
use Rattle.cxx_graph.specs.Reserved.{IsUnknown}
use Rattle.cxx_graph.proofs.Classes.{already-for, reserved-for, unknown-for}
use Rattle.cxx_graph.proofs.graph.Graph.reserve_class.Goals as goal

known : (c : goal.After-drop-of) → IsReservedAlready c.args.self.now c.args.template c.args.arguments.now c.in-Some-class_of.class.0
known c = already-for c.args.self.now c.args.template c.in-Some.template c.in_ok-arguments-in-Some.arguments c.args.arguments.now c.in-Some-class_of.class.0 c.in-Some.is (λ types. c.in_ok-arguments-in-Some.ensures.at types ∙ ap (arguments_at types) c.as_slice.ensures) c.in-Some-class_of.ensures.found

pub returns-in-Some-class_of-clause-fresh : goal.returns-in-Some-class_of-clause-fresh
returns-in-Some-class_of-clause-fresh c = λ new. absurd (new c.in-Some-class_of.class.0 (known c))

pub returns-in-Some-class_of-clause-grown : goal.returns-in-Some-class_of-clause-grown
returns-in-Some-class_of-clause-grown c = λ new. absurd (new c.in-Some-class_of.class.0 (known c))

pub returns-in-Some-class_of-clause-full : goal.returns-in-Some-class_of-clause-full
returns-in-Some-class_of-clause-full c = λ full new. absurd (new c.in-Some-class_of.class.0 (known c))

unknown : (c : goal.After-reserve-in-None-class_of) → IsUnknown c.args.self.now c.args.template c.args.arguments.now
unknown c = unknown-for c.args.self.now c.args.template c.in-Some.template c.in_ok-arguments-in-Some.arguments c.args.arguments.now c.in-Some.is (λ types. c.in_ok-arguments-in-Some.ensures.at types ∙ ap (arguments_at types) c.as_slice.ensures) c.in-None-class_of.ensures.missing

pub returns-in-None-class_of-clause-is : goal.returns-in-None-class_of-clause-is
returns-in-None-class_of-clause-is c =
    reserved-for c.args.self.now c.reserve-in-None-class_of.new.self c.args.template (record { template = c.in-Some.template; arguments = c.in_ok-arguments-in-Some.arguments }) c.args.arguments.now c.reserve-in-None-class_of.result c.in-Some.is (λ types. c.in_ok-arguments-in-Some.ensures.at types ∙ ap (arguments_at types) c.as_slice.ensures) c.reserve-in-None-class_of.ensures.number c.reserve-in-None-class_of.ensures.added

pub returns-in-None-class_of-clause-already : goal.returns-in-None-class_of-clause-already
returns-in-None-class_of-clause-already c = λ n there. absurd (unknown c n there)

pub returns-in-None-class_of-clause-kept : goal.returns-in-None-class_of-clause-kept
returns-in-None-class_of-clause-kept c = λ n there. absurd (unknown c n there)

pub returns-in-None-class_of-clause-limit_when_new : goal.returns-in-None-class_of-clause-limit_when_new
returns-in-None-class_of-clause-limit_when_new c = λ _. unknown c
