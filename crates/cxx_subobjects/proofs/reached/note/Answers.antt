use Rattle.cxx_subobjects.proofs.Walking.{below_inserted, has_kept}
use Rattle.cxx_subobjects.proofs.reached.note.Goals as goal

pub returns-in_ok-insert-clause-below : goal.returns-in_ok-insert-clause-below
returns-in_ok-insert-clause-below c = below_inserted c.args.before c.args.waiting.now.keys c.insert.new.self.keys c.args.number c.requires c.if-number-before.true c.in_ok-insert.ensures.keys

pub returns-in_ok-insert-clause-kept : goal.returns-in_ok-insert-clause-kept
returns-in_ok-insert-clause-kept c j h = has_kept c.args.waiting.now.keys c.insert.new.self.keys c.args.number j c.in_ok-insert.ensures.keys h
