use Rattle.cxx_inherited.proofs.Reaching.{below_inserted, noted_one}
use Rattle.cxx_inherited.proofs.bases.note.Goals as goal

pub returns-in_ok-insert-clause-below : goal.returns-in_ok-insert-clause-below
returns-in_ok-insert-clause-below c = below_inserted c.args.before c.args.waiting.now.keys c.insert.new.self.keys c.args.number c.requires c.if-number-before.true c.in_ok-insert.ensures.keys

pub returns-in_ok-insert-clause-noted : goal.returns-in_ok-insert-clause-noted
returns-in_ok-insert-clause-noted c good = noted_one good c.args.waiting.now.keys c.insert.new.self.keys c.args.number c.args.before c.if-number-before.true c.in_ok-insert.ensures.keys
