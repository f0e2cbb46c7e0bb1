use Rattle.std.proofs.Common.{sym}
use Rattle.std.specs.Prelude.{map, string_bytes}
use Rattle.cxx_command.proofs.Runs.{job_answered}
use Rattle.cxx_command.proofs.answers.read_and_answer.Goals as goal

pub returns-in-Some : goal.returns-in-Some
returns-in-Some g c = job_answered (map string_bytes c.args.words.now) _ c.in-Some.job c.answer_job.result (sym c.in-Some.ensures) c.answer_job.ensures
