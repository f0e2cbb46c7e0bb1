use Rattle.cxx_declare.proofs.Based.{base_added, base_ready}
use Rattle.cxx_declare.proofs.bases.add_whole.Goals as goal

pub add_told-requires : goal.add_told-requires
add_told-requires c = base_ready c.args.state.now c.args.of c.args.place c.args.base c.base_fact.result c.requires.scope c.requires.class c.requires.base c.requires.whole c.requires.unended c.base_fact.ensures

pub returns : goal.returns
returns c = base_added c.args.state.now c.add_told.new.state c.args.of c.args.place c.args.base c.base_fact.result c.add_told.result c.base_fact.ensures c.add_told.ensures
