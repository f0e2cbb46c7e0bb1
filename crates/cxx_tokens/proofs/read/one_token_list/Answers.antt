use Rattle.cxx_model.proofs.Readings.{one_list, one_bad_place, not_both}
use Rattle.cxx_tokens.proofs.read.one_token_list.Goals as goal

pub returns-clause-list : goal.returns-clause-list
returns-clause-list c = one_list

pub returns-clause-place : goal.returns-clause-place
returns-clause-place c = one_bad_place

pub returns-clause-apart : goal.returns-clause-apart
returns-clause-apart c = not_both
