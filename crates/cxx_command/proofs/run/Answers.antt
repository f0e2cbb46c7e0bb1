-- The contract follows from what is due and where it was told, by the laws of every unit.
use Rattle.std.specs.Prelude.{map, string_bytes}
use Rattle.cxx_command.proofs.Runs.{Laws, answered}
use Rattle.cxx_command.proofs.run.Goals as goal

pub returns : goal.returns
returns g c =
    let laws : Laws = record { best = c.each_call_is_best.ensures; told = c.choice_faults_are_told.ensures; undeclared = c.undeclared_names_are_told.ensures; listed = c.calls_are_listed.ensures } in
    answered laws (map string_bytes c.args.words.now) _ _ _ _ _ c.read_and_answer-answer.ensures c.deliver.ensures
