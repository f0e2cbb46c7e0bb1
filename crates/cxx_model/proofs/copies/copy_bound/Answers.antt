use Rattle.cxx_model.proofs.Copied.{boxed, copied-bound}
use Rattle.cxx_model.proofs.copies.copy_bound.Goals as goal

pub returns-in_ok-formula-in-Computed : goal.returns-in_ok-formula-in-Computed
returns-in_ok-formula-in-Computed c =
    copied-bound _ c.in-Computed.formula c.in_ok-formula-in-Computed.formula c.in-Computed.is
    (boxed _ _ c.in-Computed.formula c.in_ok-formula-in-Computed.formula c.in_ok-copy_formula-in-Computed.ensures c.deref.ensures c.in_ok-formula-in-Computed.ensures.ok)
