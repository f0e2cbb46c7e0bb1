use Rattle.cxx_command.proofs.Runs.{past_bytes}
use Rattle.cxx_command.proofs.answers.answer_job.Goals as goal

pub returns-in-Err-TooLong : goal.returns-in-Err-TooLong
returns-in-Err-TooLong g c = past_bytes c.args.job _ (c.read_all.ensures.longer (cc))
