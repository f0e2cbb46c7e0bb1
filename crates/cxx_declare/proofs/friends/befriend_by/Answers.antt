use Rattle.std.specs.Prelude.{Option}
use Rattle.std.proofs.Common.{subst, sym}
use Rattle.cxx_model.specs.declared.types.ClassId.{ClassId}
use Rattle.cxx_model.specs.Facts.Graph.{IsClassNumberInRange}
use Rattle.cxx_declare.specs.Friends.{befriend_by}
use Rattle.cxx_declare.proofs.Befriending.{friend_added, friend_ready}
use Rattle.cxx_tree.specs.Answered.{AnyKnown, IsAnswered, itself}
use Rattle.cxx_tree.specs.Held.{meaning}
use Rattle.cxx_declare.proofs.friends.befriend_by.Goals as goal

pub add_told-requires : goal.add_told-requires
add_told-requires c = friend_ready c.args.state.now c.scope-scope.result c.args.place c.in-Some.class c.args.target c.friend_fact.result c.scope-scope.ensures.there (subst (IsClassNumberInRange c.args.state.now.graph) c.in-Some.is c.requires.class) c.requires.target c.friend_fact.ensures

pub returns-in-Some : goal.returns-in-Some
returns-in-Some c =
    subst (λ (o : Option ClassId). IsAnswered itself AnyKnown c.args.state.now c.add_told.new.state c.add_told.result (befriend_by c.args.place c.args.target.0 o (meaning c.args.state.now))) (sym c.in-Some.is)
    (friend_added c.args.state.now c.add_told.new.state c.scope-scope.result c.args.place c.in-Some.class c.args.target c.friend_fact.result c.add_told.result c.scope-scope.ensures.is c.friend_fact.ensures c.add_told.ensures)
