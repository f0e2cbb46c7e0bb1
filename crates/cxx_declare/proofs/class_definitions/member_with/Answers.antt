use Rattle.std.proofs.Common.{ap, ◌∙◌}
use Rattle.cxx_model.specs.Types.Numbers.{type_at}
use Rattle.cxx_reading.specs.Declarators.{is_function_type}
use Rattle.cxx_declare.specs.Begun.{member_entity}
use Rattle.cxx_declare.proofs.Begun.{member_is, member_ready}
use Rattle.cxx_declare.proofs.class_definitions.member_with.Goals as goal

pub returns-clause-is : goal.returns-clause-is
returns-clause-is c = λ kind. member_is c.args.state.now kind c.args.words c.args.place c.args.word.now c.args.of c.args.defaults c.member_what-what.result c.scope.result c.in_ok-name.name (c.member_what-what.ensures ∙ ap (λ ts. member_entity (is_function_type (type_at ts c.args.of.0)) c.args.words c.args.of c.args.defaults) c.types.ensures.is) c.scope.ensures.is c.in_ok-name.ensures

pub returns-clause-ready : goal.returns-clause-ready
returns-clause-ready c = member_ready c.args.state.now c.args.words.access _ c.args.words c.args.place c.args.word.now c.args.of c.args.defaults c.member_what-what.result c.scope.result c.in_ok-name.name c.scope.ensures.there c.requires c.member_what-what.ensures c.in_ok-name.ensures
