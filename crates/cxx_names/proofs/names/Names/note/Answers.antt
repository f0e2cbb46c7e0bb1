use Rattle.cxx_names.proofs.Noting.{same_kept}
use Rattle.cxx_names.proofs.names.Names.note.Goals as goal

pub returns-in-Err-clause-same : goal.returns-in-Err-clause-same
returns-in-Err-clause-same c = record {
  words = c.take_back.ensures c.args.self.now.words c.in_ok-add.ensures.more;
  representatives = c.in-Err.ensures.same;
  kept = same_kept c.args.self.now.kept;
}

pub returns-in-Err-note-clause-same : goal.returns-in-Err-note-clause-same
returns-in-Err-note-clause-same c = record {
  words = c.take_back-in-Err-note-2.ensures c.args.self.now.words c.in_ok-add.ensures.more;
  representatives = c.take_back-in-Err-note.ensures c.args.self.now.representatives.rows.entries c.in_default.ensures.more;
  kept = c.in-Err-note.ensures.same;
}
