use Rattle.std.proofs.Common.{ap, nat_eq, subst}
use Rattle.std.proofs.lemmas.Bool.{eqb-true, eq-eqb}
use Rattle.cxx_model.specs.Types.Numbers.{type_at, AreApart}
use Rattle.cxx_types.proofs.Told.{told}
use Rattle.cxx_types.proofs.table.TypeTable.same.Goals as goal

pub returns-clause-is : goal.returns-clause-is
returns-clause-is c =
    told (nat_eq c.args.one.0 c.args.two.0) (type_at c.args.self.now c.args.one.0) (type_at c.args.self.now c.args.two.0)
    (λ e. ap (type_at c.args.self.now) (eqb-true c.args.one.0 c.args.two.0 e), λ e. eq-eqb c.args.one.0 c.args.two.0 (subst AreApart c.self.view_is c.self.invariant.apart c.args.one.0 c.args.two.0 c.requires.one_known c.requires.two_known e))
