use Rattle.cxx_types.proofs.TypeForm.{normal_is_normal, normal_fixed, normal_idempotent}
use Rattle.cxx_types.proofs.laws.one_form.Goals as goal

pub returns-clause-formed : goal.returns-clause-formed
returns-clause-formed c = normal_is_normal

pub returns-clause-fixed : goal.returns-clause-fixed
returns-clause-fixed c = normal_fixed

pub returns-clause-idempotent : goal.returns-clause-idempotent
returns-clause-idempotent c = normal_idempotent
