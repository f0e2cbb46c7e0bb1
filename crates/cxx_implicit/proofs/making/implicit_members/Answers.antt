use Rattle.std.specs.Prelude.{◌++◌}
use Rattle.std.specs.Option.{option_to_list}
use Rattle.cxx_model.specs.Facts.Declarations.{graph_at}
use Rattle.cxx_implicit.proofs.Joining.{all_at, all_ready, below_listed, fitted_one, fitted_three, fitted_two, follow_listed, keeps_all, members_listed}
use Rattle.cxx_implicit.proofs.making.implicit_members.Goals as goal

pub returns-in_err-one-clause-fitted : goal.returns-in_err-one-clause-fitted
returns-in_err-one-clause-fitted c = fitted_one c.args.graph.now c.args.class.0 c.requires.class_known c.args.scope c.args.types.now c.default_constructor.new.types _ _ c.requires.fitted c.default_constructor.ensures

pub returns-in_err-two-clause-fitted : goal.returns-in_err-two-clause-fitted
returns-in_err-two-clause-fitted c = fitted_two c.args.graph.now c.args.class.0 c.requires.class_known c.args.scope c.args.types.now c.default_constructor.new.types c.copy_constructor.new.types _ _ _ _ c.requires.fitted c.in_ok-one.ensures c.copy_constructor.ensures

pub returns-in_err-three-clause-fitted : goal.returns-in_err-three-clause-fitted
returns-in_err-three-clause-fitted c = fitted_three c.args.graph.now c.args.class.0 c.requires.class_known c.args.scope c.args.types.now c.default_constructor.new.types c.copy_constructor.new.types c.copy_assignment.new.types _ _ _ _ _ _ c.requires.fitted c.in_ok-one.ensures c.in_ok-two.ensures c.copy_assignment.ensures

pub returns-clause-fitted : goal.returns-clause-fitted
returns-clause-fitted c = fitted_three c.args.graph.now c.args.class.0 c.requires.class_known c.args.scope c.args.types.now c.default_constructor.new.types c.copy_constructor.new.types c.copy_assignment.new.types _ _ _ _ _ _ c.requires.fitted c.in_ok-one.ensures c.in_ok-two.ensures c.in_ok-three.ensures

pub returns-clause-members : goal.returns-clause-members
returns-clause-members c =
    members_listed c.args.graph.now c.args.class.0 c.args.scope c.args.place c.args.types.now c.copy_assignment.new.types c.listed.result (option_to_list c.in_ok-one.one ++ (option_to_list c.in_ok-two.two ++ option_to_list c.in_ok-three.three)) c.listed.ensures
    c.implied-implied.result (c.implied-implied.ensures (graph_at c.args.types.now c.args.graph.now) c.requires.noted) c.requires.fitted
    (keeps_all c.args.class.0 c.args.scope c.args.types.now c.default_constructor.new.types c.copy_constructor.new.types c.copy_assignment.new.types c.in_ok-one.one c.in_ok-two.two c.in_ok-three.three _ _ _ c.in_ok-one.ensures c.in_ok-two.ensures c.in_ok-three.ensures)
    (all_at c.args.class.0 c.args.scope c.args.types.now c.default_constructor.new.types c.copy_constructor.new.types c.copy_assignment.new.types c.in_ok-one.one c.in_ok-two.two c.in_ok-three.three _ _ _ c.in_ok-one.ensures c.in_ok-two.ensures c.in_ok-three.ensures)

pub returns-clause-follow : goal.returns-clause-follow
returns-clause-follow c =
    follow_listed c.args.graph.now c.args.class.0 c.args.scope c.args.place c.args.types.now c.copy_assignment.new.types c.listed.result (option_to_list c.in_ok-one.one ++ (option_to_list c.in_ok-two.two ++ option_to_list c.in_ok-three.three)) c.listed.ensures
    c.requires.scope_known
    (all_ready c.args.class.0 c.args.scope c.args.types.now c.default_constructor.new.types c.copy_constructor.new.types c.copy_assignment.new.types c.in_ok-one.one c.in_ok-two.two c.in_ok-three.three _ _ _ c.in_ok-one.ensures c.in_ok-two.ensures c.in_ok-three.ensures)

pub returns-clause-below : goal.returns-clause-below
returns-clause-below c =
    below_listed c.args.graph.now c.args.class.0 c.args.scope c.args.place c.args.types.now c.copy_assignment.new.types c.listed.result (option_to_list c.in_ok-one.one ++ (option_to_list c.in_ok-two.two ++ option_to_list c.in_ok-three.three)) c.listed.ensures
    (all_ready c.args.class.0 c.args.scope c.args.types.now c.default_constructor.new.types c.copy_constructor.new.types c.copy_assignment.new.types c.in_ok-one.one c.in_ok-two.two c.in_ok-three.three _ _ _ c.in_ok-one.ensures c.in_ok-two.ensures c.in_ok-three.ensures)
