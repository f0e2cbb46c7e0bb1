use Rattle.std.proofs.Common.{length, slice_index_or}
use Rattle.cxx_later.specs.Defaults.{later_trees}
use Rattle.cxx_later.proofs.Gathered.{offer_there, one_more, tree_later}
use Rattle.cxx_tree.specs.declared.kept.Offer.{Offer}
use Rattle.cxx_tree.specs.Answered.{scope_of_option}
use Rattle.cxx_tree.specs.Arena.{number_of_option}
use Rattle.cxx_tree.specs.Held.{offers_at, trees}
use Rattle.cxx_later.proofs.defaults.later_trees.Goals as goal

abbrev none : Offer
none = record { scope = record { 0 = 0 }; index = 0; tree = record { 0 = 0 } }

pub add_later-requires : goal.add_later-requires
add_later-requires c =
    tree_later c.args.state.now c.loop-one.state (slice_index_or c.args.offers.now c.loop-one.one-index none).tree c.loop-one.invariant.later
    (offer_there (length (trees c.args.state.now)) c.loop-one.one-index c.args.offers.now none c.requires c.loop-one-test.true)

pub loop-one-preserved : goal.loop-one-preserved
loop-one-preserved c =
    one_more (scope_of_option c.args.list) (number_of_option c.args.number) c.args.state.now c.loop-one.state c.add_later.new.state c.args.found.now c.loop-one.found c.add_later.new.found c.args.offers.now c.loop-one.one-index none
    (later_trees (scope_of_option c.args.list) (number_of_option c.args.number) (offers_at (trees c.args.state.now) c.args.offers.now))
    c.loop-one-test.true c.requires c.loop-one.invariant c.in_ok-add_later.ensures
