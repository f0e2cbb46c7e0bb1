use Rattle.std.proofs.lemmas.Result.{err_from_is_err_and}
use Rattle.cxx_overload.proofs.Converting.{conversion_means, conversion_waits, empty_means}
use Rattle.cxx_overload.proofs.conversion.conversion_to.Goals as goal

pub returns-in-empty : goal.returns-in-empty
returns-in-empty c = empty_means _ _ _ _ _ _ c.in-empty.len_below c.beyond.ensures

pub returns-in_err-steps_between-in-len1-up : goal.returns-in_err-steps_between-in-len1-up
returns-in_err-steps_between-in-len1-up c =
    let p = err_from_is_err_and c.from_residual.result c.from_residual.ensures.1 in
    rw (p.1, p.2) (conversion_waits _ _ _ _ _ _ _ c.in-len1-up.len_at_least c.in_err-steps_between-in-len1-up.ensures)

pub returns-in_ok-steps_between-in-len1-up : goal.returns-in_ok-steps_between-in-len1-up
returns-in_ok-steps_between-in-len1-up c =
    conversion_means _ _ _ _ _ _ _ c.conversion_by.result c.in-len1-up.len_at_least c.in_ok-steps_between-in-len1-up.ensures c.conversion_by.ensures
