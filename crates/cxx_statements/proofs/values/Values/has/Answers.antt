use Rattle.std.specs.Int.{w128}
use Rattle.std.specs.BTreeSet.{contains}
use Rattle.std.proofs.Common.{ap, ◌∙◌, ℤ, int_cmp, to_z-of_z}
use Rattle.cxx_statements.specs.Statements.{has_value}
use Rattle.cxx_statements.proofs.values.Values.has.Goals as goal

pub returns : goal.returns
returns c =
    c.contains.ensures
    ∙ (ap (λ (v : ℤ). contains int_cmp c.self.inside.known v) (to_z-of_z {w = w128} {z = c.args.value} (record { sfits = c.ranges.value.sfits }))
    ∙ (c.self.invariant.same c.args.value ∙ ap (has_value c.args.value) c.self.view_is))
