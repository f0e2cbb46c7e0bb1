use Rattle.std.proofs.Common.{refl}
use Rattle.cxx_names.proofs.spaces.Spaces.note.Goals as goal

pub returns-in-Err-clause-same : goal.returns-in-Err-clause-same
returns-in-Err-clause-same c = record {
  directives = c.take_back.ensures c.args.self.now.directives.rows.entries c.in_ok-add.ensures.more;
  openings = c.in-Err.ensures.same;
  unnamed = λ scope. refl;
}

pub returns-in-Err-add-clause-same : goal.returns-in-Err-add-clause-same
returns-in-Err-add-clause-same c = record {
  directives = c.take_back-in-Err-add-2.ensures c.args.self.now.directives.rows.entries c.in_ok-add.ensures.more;
  openings = c.take_back-in-Err-add.ensures c.args.self.now.openings.rows.entries c.in_default.ensures.more;
  unnamed = c.in-Err-add.ensures.same;
}
