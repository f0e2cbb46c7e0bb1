use Rattle.std.proofs.Common.{[], ◌∷◌, List, subst, sym}
use Rattle.cxx_later.specs.Defaults.{later_tree}
use Rattle.cxx_later.specs.Kept.{AreAdded}
use Rattle.cxx_later.proofs.Gathered.{one_added}
use Rattle.cxx_model.specs.declared.types.TreeId.{TreeId}
use Rattle.cxx_reading.specs.Trees.{CxxTree}
use Rattle.cxx_tree.specs.Answered.{scope_of_option}
use Rattle.cxx_tree.specs.Arena.{number_of_option}
use Rattle.cxx_tree.specs.Held.{offer_at, trees}
use Rattle.cxx_later.proofs.defaults.add_tree.Goals as goal

pub returns : goal.returns
returns c =
    let made : CxxTree = later_tree (scope_of_option c.args.list) (number_of_option c.args.number) (offer_at (trees c.args.state.now) c.args.one) in
    record {
      later = c.later_tree.ensures.later;
      same = c.later_tree.ensures.same;
      made = λ known.
          subst (λ (after : List TreeId). AreAdded c.args.state.now c.later_tree.new.state c.args.found.now after (made ∷ [])) (sym c.in_ok-push.ensures.ok)
          (one_added c.args.state.now c.later_tree.new.state c.args.found.now c.in_ok-number.number made c.later_tree.ensures.later c.in_ok-number.ensures.made.0 c.in_ok-number.ensures.made.1 known);
    }
