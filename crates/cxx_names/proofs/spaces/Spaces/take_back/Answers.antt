use Rattle.cxx_names.proofs.spaces.Spaces.take_back.Goals as goal

pub returns : goal.returns
returns c = λ before has. record {
  directives = c.take_back.ensures before.directives.rows.entries has.directives;
  openings = c.take_back-2.ensures before.openings.rows.entries has.openings;
  unnamed = c.take_back-3.ensures before.unnamed.rows.entries has.unnamed;
}
