use Rattle.cxx_statement_text.specs.Written.{scene_of}
use Rattle.cxx_statement_text.proofs.Firsts.{no_first_part}
use Rattle.cxx_statement_text.proofs.heads.write_first_part.Goals as goal

pub returns-in-empty : goal.returns-in-empty
returns-in-empty g c = no_first_part (scene_of (g.N.Names.named c.args.names.now) (g.N.StatementNames.value c.args.names.now)) (g.N.Names.named c.args.names.now).held c.args.parts.now c.args.page.now c.in-empty.len_below
