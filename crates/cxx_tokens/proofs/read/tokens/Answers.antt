use Rattle.cxx_tokens.proofs.Steps.{says_list, says_bad, says_limit, says_within, only_list, only_place, only_past}
use Rattle.cxx_tokens.proofs.read.tokens.Goals as goal

pub returns-clause-listed : goal.returns-clause-listed
returns-clause-listed c = says_list c.args.bytes.now c.read_all.result c.read_all.ensures

pub returns-clause-only : goal.returns-clause-only
returns-clause-only c = only_list c.args.bytes.now c.read_all.result c.read_all.ensures

pub returns-clause-bad : goal.returns-clause-bad
returns-clause-bad c = says_bad c.args.bytes.now c.read_all.result c.read_all.ensures

pub returns-clause-only_bad : goal.returns-clause-only_bad
returns-clause-only_bad c = only_place c.args.bytes.now c.read_all.result c.read_all.ensures

pub returns-clause-limit : goal.returns-clause-limit
returns-clause-limit c = says_limit c.args.bytes.now c.read_all.result c.read_all.ensures

pub returns-clause-only_limit : goal.returns-clause-only_limit
returns-clause-only_limit c = only_past c.args.bytes.now c.read_all.result c.read_all.ensures

pub returns-clause-within : goal.returns-clause-within
returns-clause-within c = says_within c.args.bytes.now c.read_all.result c.read_all.ensures
