use Rattle.std.proofs.lemmas.Result.{err_from_is_err_and}
use Rattle.cxx_declare.proofs.Making.{added_there_by, object_put, object_stopped}
use Rattle.cxx_declare.proofs.objects.add_object.Goals as goal

pub returns-in_err-free_object-clause-answered : goal.returns-in_err-free_object-clause-answered
returns-in_err-free_object-clause-answered c =
    let p = err_from_is_err_and c.from_residual.result c.from_residual.ensures.1 in
    rw (p.1, p.2) (object_stopped c.args.state.now _ _ c.in_err-free_object.field-0.0 c.in_err-free_object.ensures)

pub returns-clause-answered : goal.returns-clause-answered
returns-clause-answered c = object_put c.args.state.now c.add.new.self _ _ c.add.result c.in_ok-free_object.field-0 c.in_ok-free_object.ensures c.add.ensures.answered

pub returns-clause-at : goal.returns-clause-at
returns-clause-at c = added_there_by c.args.state.now c.add.new.self c.args.fact _ c.add.result c.add.ensures.answered c.add.ensures.held
