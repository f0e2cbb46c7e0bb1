use Rattle.cxx_overload.proofs.Gathering.{function_below}
use Rattle.cxx_overload.proofs.candidate.candidate_by.Goals as goal

pub returns-in-Function-clause-below : goal.returns-in-Function-clause-below
returns-in-Function-clause-below c =
    function_below _ _ c.node.result.now _ _ _ _ _ _ _ _ _ _ c.node.ensures.below c.in-Function.is c.as_slice.ensures c.requires
