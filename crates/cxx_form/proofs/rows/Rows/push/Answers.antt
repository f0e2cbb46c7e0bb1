use Rattle.std.proofs.Common.{◌<◌, length, List, subst, sym}
use Rattle.cxx_model.specs.declared.types.FactId.{FactId}
use Rattle.cxx_form.proofs.Rowed.{pushed, rows_of}
use Rattle.cxx_form.proofs.rows.Rows.push.Goals as goal

pub returns : goal.returns
returns c =
    let within : c.args.number < length (rows_of c.self.inside.rows.items) = subst (λ (rows : List (List FactId)). c.args.number < length rows) (sym c.self.view_is) c.in_ok-reach.ensures.there in
    pushed c.self.inside.rows.items c.args.number c.index_mut-row.result.now c.push.new.self within c.index_mut-row.ensures.value c.args.self.now c.reach.new.self c.args.fact c.in_ok-reach.ensures.same c.self.view_is c.in_ok-push.ensures.items
