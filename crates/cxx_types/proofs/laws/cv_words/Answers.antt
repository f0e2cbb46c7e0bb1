use Rattle.cxx_types.proofs.TypeForm.{with_cv_merges, with_cv_normal, unqualified_normal}
use Rattle.cxx_types.proofs.laws.cv_words.Goals as goal

pub returns-clause-merges : goal.returns-clause-merges
returns-clause-merges c = with_cv_merges

pub returns-clause-with : goal.returns-clause-with
returns-clause-with c = with_cv_normal

pub returns-clause-without : goal.returns-clause-without
returns-clause-without c = unqualified_normal
