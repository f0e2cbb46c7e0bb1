use Rattle.cxx_names.proofs.kept.Kept.take_back.Goals as goal

pub returns : goal.returns
returns c = λ before has. record {
  scopes = c.pop_some.ensures before.scopes.items has.scopes;
  blocks = c.take_back.ensures before.blocks.rows.entries has.blocks;
  enumerations = c.pop_some-2.ensures before.enumerations.items has.enumerations;
  values = c.take_back-2.ensures before.values.rows.entries has.values;
  classes = c.take_back-3.ensures before.classes.rows.entries has.classes;
  holders = c.take_back-4.ensures before.holders.rows.entries has.holders;
  friends = c.take_back-5.ensures before.friends.rows.entries has.friends;
  spaces = c.take_back-6.ensures before.spaces has.spaces;
}
