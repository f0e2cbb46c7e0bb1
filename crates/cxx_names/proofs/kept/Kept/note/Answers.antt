use Rattle.std.proofs.Common.{refl}
use Rattle.cxx_names.proofs.kept.Kept.note.Goals as goal

pub returns-in-Err-add-clause-same : goal.returns-in-Err-add-clause-same
returns-in-Err-add-clause-same c = record {
  scopes = c.pop_some-in-Err-add.ensures c.args.self.now.scopes.items c.in_ok-push_some.ensures.more;
  blocks = c.take_back.ensures c.args.self.now.blocks.rows.entries c.in_default.ensures.more;
  enumerations = refl;
  values = c.in-Err-add.ensures.same;
  classes = λ class. refl;
  holders = λ class. refl;
  friends = λ class. refl;
  spaces = record { directives = λ scope. refl; openings = λ scope. refl; unnamed = λ scope. refl };
}

pub returns-in-Err-add-2-clause-same : goal.returns-in-Err-add-2-clause-same
returns-in-Err-add-2-clause-same c = record {
  scopes = c.pop_some-in-Err-add-2.ensures c.args.self.now.scopes.items c.in_ok-push_some.ensures.more;
  blocks = c.take_back-in-Err-add-2-2.ensures c.args.self.now.blocks.rows.entries c.in_default.ensures.more;
  enumerations = refl;
  values = c.take_back-in-Err-add-2.ensures c.args.self.now.values.rows.entries c.in_default-add.ensures.more;
  classes = c.in-Err-add-2.ensures.same;
  holders = λ class. refl;
  friends = λ class. refl;
  spaces = record { directives = λ scope. refl; openings = λ scope. refl; unnamed = λ scope. refl };
}

pub returns-in-Err-add-3-clause-same : goal.returns-in-Err-add-3-clause-same
returns-in-Err-add-3-clause-same c = record {
  scopes = c.pop_some-in-Err-add-3.ensures c.args.self.now.scopes.items c.in_ok-push_some.ensures.more;
  blocks = c.take_back-in-Err-add-3-3.ensures c.args.self.now.blocks.rows.entries c.in_default.ensures.more;
  enumerations = refl;
  values = c.take_back-in-Err-add-3-2.ensures c.args.self.now.values.rows.entries c.in_default-add.ensures.more;
  classes = c.take_back-in-Err-add-3.ensures c.args.self.now.classes.rows.entries c.in_default-add-2.ensures.more;
  holders = c.in-Err-add-3.ensures.same;
  friends = λ class. refl;
  spaces = record { directives = λ scope. refl; openings = λ scope. refl; unnamed = λ scope. refl };
}

pub returns-in-Err-add-4-clause-same : goal.returns-in-Err-add-4-clause-same
returns-in-Err-add-4-clause-same c = record {
  scopes = c.pop_some-in-Err-add-4.ensures c.args.self.now.scopes.items c.in_ok-push_some.ensures.more;
  blocks = c.take_back-in-Err-add-4-4.ensures c.args.self.now.blocks.rows.entries c.in_default.ensures.more;
  enumerations = refl;
  values = c.take_back-in-Err-add-4-3.ensures c.args.self.now.values.rows.entries c.in_default-add.ensures.more;
  classes = c.take_back-in-Err-add-4-2.ensures c.args.self.now.classes.rows.entries c.in_default-add-2.ensures.more;
  holders = c.take_back-in-Err-add-4.ensures c.args.self.now.holders.rows.entries c.in_default-add-3.ensures.more;
  friends = c.in-Err-add-4.ensures.same;
  spaces = record { directives = λ scope. refl; openings = λ scope. refl; unnamed = λ scope. refl };
}

pub returns-in-Err-note-clause-same : goal.returns-in-Err-note-clause-same
returns-in-Err-note-clause-same c = record {
  scopes = c.pop_some-in-Err-note.ensures c.args.self.now.scopes.items c.in_ok-push_some.ensures.more;
  blocks = c.take_back-in-Err-note-5.ensures c.args.self.now.blocks.rows.entries c.in_default.ensures.more;
  enumerations = refl;
  values = c.take_back-in-Err-note-4.ensures c.args.self.now.values.rows.entries c.in_default-add.ensures.more;
  classes = c.take_back-in-Err-note-3.ensures c.args.self.now.classes.rows.entries c.in_default-add-2.ensures.more;
  holders = c.take_back-in-Err-note-2.ensures c.args.self.now.holders.rows.entries c.in_default-add-3.ensures.more;
  friends = c.take_back-in-Err-note.ensures c.args.self.now.friends.rows.entries c.in_default-add-4.ensures.more;
  spaces = c.in-Err-note.ensures.same;
}

pub returns-in-Err-push_some-clause-same : goal.returns-in-Err-push_some-clause-same
returns-in-Err-push_some-clause-same c = record {
  scopes = c.pop_some-in-Err-push_some.ensures c.args.self.now.scopes.items c.in_ok-push_some.ensures.more;
  blocks = c.take_back-in-Err-push_some-6.ensures c.args.self.now.blocks.rows.entries c.in_default.ensures.more;
  enumerations = c.in-Err-push_some.ensures.same;
  values = c.take_back-in-Err-push_some-5.ensures c.args.self.now.values.rows.entries c.in_default-add.ensures.more;
  classes = c.take_back-in-Err-push_some-4.ensures c.args.self.now.classes.rows.entries c.in_default-add-2.ensures.more;
  holders = c.take_back-in-Err-push_some-3.ensures c.args.self.now.holders.rows.entries c.in_default-add-3.ensures.more;
  friends = c.take_back-in-Err-push_some-2.ensures c.args.self.now.friends.rows.entries c.in_default-add-4.ensures.more;
  spaces = c.take_back-in-Err-push_some.ensures c.args.self.now.spaces c.in_default-note.ensures.noted;
}
