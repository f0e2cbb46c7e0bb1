use Rattle.std.proofs.Common.{ap, ◌∙◌}
use Rattle.cxx_reading.specs.Seen.{fact_numbers, numbered_at}
use Rattle.cxx_tree.specs.Held.{meaning, type_of}
use Rattle.cxx_declare.proofs.Agreeing.{agreed_here}
use Rattle.cxx_declare.proofs.outside.agree_here.Goals as goal

pub returns-in-Ok : goal.returns-in-Ok
returns-in-Ok c = λ kind. agreed_here c.args.state.now c.args.is_typedef kind c.args.place c.args.word.now (type_of c.args.state.now c.args.of) _ c.region_of_members.result c.agreed_among.result c.region_of_members.ensures (ap (λ ns. numbered_at (meaning c.args.state.now).graph (fact_numbers ns)) c.as_slice.ensures ∙ c.in-Ok.ensures) (c.agreed_among.ensures kind)
