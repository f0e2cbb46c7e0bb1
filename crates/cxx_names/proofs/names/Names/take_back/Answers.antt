use Rattle.cxx_names.proofs.names.Names.take_back.Goals as goal

pub returns : goal.returns
returns c = λ before has. record {
  words = c.take_back.ensures before.words has.words;
  representatives = c.take_back-2.ensures before.representatives.rows.entries has.representatives;
  kept = c.take_back-3.ensures before.kept has.kept;
}
