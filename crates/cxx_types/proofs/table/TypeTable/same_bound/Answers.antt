use Rattle.std.proofs.Common.{sym, subst, ◌∙◌}
use Rattle.cxx_model.specs.Types.Numbers.{AreApart}
use Rattle.cxx_model.proofs.Equal.{bound_from, bound_to}
use Rattle.cxx_types.proofs.table.TypeTable.same_bound.Goals as goal

pub returns : goal.returns
returns c = (
  λ r. bound_from c.args.self.now c.args.one.now c.args.two.now (sym c.eq.ensures ∙ r),
  λ e. c.eq.ensures ∙ bound_to c.args.self.now c.args.one.now c.args.two.now (subst AreApart c.self.view_is c.self.invariant.apart) c.requires.one_below c.requires.two_below e,
)
