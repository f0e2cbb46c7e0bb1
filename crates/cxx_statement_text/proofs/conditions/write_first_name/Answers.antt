use Rattle.cxx_phrase_text.specs.Named.{trees_of}
use Rattle.cxx_statement_text.specs.Written.{scene_of}
use Rattle.cxx_statement_text.proofs.Firsts.{no_name}
use Rattle.cxx_statement_text.proofs.conditions.write_first_name.Goals as goal

pub returns-in-empty : goal.returns-in-empty
returns-in-empty g c = no_name (scene_of (g.N.Names.named c.args.names.now) (g.N.StatementNames.value c.args.names.now)) (trees_of (g.N.Names.named c.args.names.now)) c.args.numbers.now c.args.page.now c.in-empty.len_below
