use Rattle.cxx_command.specs.Again.{read_again}
use Rattle.cxx_command.proofs.due.read_back.Goals as goal

pub returns : goal.returns
returns c reading is = c.written.ensures reading (read_again c.args.options reading) is.text (c.again-shown.ensures reading is)
