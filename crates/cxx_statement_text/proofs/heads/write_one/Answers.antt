use Rattle.cxx_phrase_text.specs.Named.{trees_of}
use Rattle.cxx_statement_text.specs.Written.{scene_of}
use Rattle.cxx_statement_text.proofs.Firsts.{no_object, several_objects}
use Rattle.cxx_statement_text.proofs.heads.write_one.Goals as goal

pub returns-in_default : goal.returns-in_default
returns-in_default g c = no_object (scene_of (g.N.Names.named c.args.names.now) (g.N.StatementNames.value c.args.names.now)) c.args.is_static (trees_of (g.N.Names.named c.args.names.now)) c.args.numbers.now c.args.page.now c.in_default.len_below

pub returns-in_default-2 : goal.returns-in_default-2
returns-in_default-2 g c = several_objects (scene_of (g.N.Names.named c.args.names.now) (g.N.StatementNames.value c.args.names.now)) c.args.is_static (trees_of (g.N.Names.named c.args.names.now)) c.args.numbers.now c.args.page.now c.in_default.len_at_least
