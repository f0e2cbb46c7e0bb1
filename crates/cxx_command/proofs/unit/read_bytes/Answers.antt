use Rattle.cxx_model.specs.Text.Tokens.{tokens_of}
use Rattle.cxx_command.proofs.Showing.{short_outcome}
use Rattle.cxx_command.proofs.unit.read_bytes.Goals as goal

pub returns-in-Err : goal.returns-in-Err
returns-in-Err c = short_outcome c.args.options c.args.bytes.now c.unread.result c.if-bytes.false (c.unread.ensures c.args.options c.args.bytes.now (tokens_of c.args.bytes.now) c.in-Err.ensures.exact)
