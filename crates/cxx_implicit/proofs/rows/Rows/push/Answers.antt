use Rattle.std.proofs.Common.{◌<◌, length, List, subst, sym}
use Rattle.cxx_model.specs.declared.types.ClassId.{ClassId}
use Rattle.cxx_implicit.proofs.Rowed.{on_err, pushed, rows_of, unpushed}
use Rattle.cxx_implicit.proofs.rows.Rows.push.Goals as goal

pub returns-clause-added : goal.returns-clause-added
returns-clause-added c =
    let within : c.args.number < length (rows_of c.self.inside.rows.items) = subst (λ (rows : List (List ClassId)). c.args.number < length rows) (sym c.self.view_is) c.in_ok-reach.ensures.there in
    pushed c.self.inside.rows.items c.args.number c.index_mut-row.result.now c.push.new.self within c.index_mut-row.ensures.value c.args.self.now c.reach.new.self c.args.class c.in_ok-reach.ensures.same c.self.view_is c.in_ok-push.ensures.items

pub returns-in_err-push-clause-unchanged : goal.returns-in_err-push-clause-unchanged
returns-in_err-push-clause-unchanged c =
    let within : c.args.number < length (rows_of c.self.inside.rows.items) = subst (λ (rows : List (List ClassId)). c.args.number < length rows) (sym c.self.view_is) c.in_ok-reach.ensures.there in
    on_err c.from_residual-in_err-push.result (unpushed c.self.inside.rows.items c.args.number c.index_mut-row.result.now c.push.new.self within c.index_mut-row.ensures.value c.args.self.now c.reach.new.self c.in_ok-reach.ensures.same c.self.view_is c.in_err-push.ensures.items)
