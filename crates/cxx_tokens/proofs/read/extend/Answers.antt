use Rattle.cxx_tokens.proofs.Steps.{extended_last}
use Rattle.cxx_tokens.proofs.read.extend.Goals as goal

pub returns-in-Ok-clause-added : goal.returns-in-Ok-clause-added
returns-in-Ok-clause-added c = extended_last c.args.tokens.now.items c.pop.new.self.items c.push.new.self.items c.in-Some.last c.args.token c.in-Some.ensures.items c.in-Ok.ensures.items
