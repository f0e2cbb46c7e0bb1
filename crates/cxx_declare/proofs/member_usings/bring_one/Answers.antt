use Rattle.std.proofs.Common.{ap, ◌∙◌}
use Rattle.cxx_reading.specs.Trees.{last_part}
use Rattle.cxx_tree.specs.Arena.{path_at, path_parts_at}
use Rattle.cxx_declare.proofs.BringingMembers.{one_brought}
use Rattle.cxx_declare.proofs.member_usings.bring_one.Goals as goal

pub returns-in-Ok-clause-answered : goal.returns-in-Ok-clause-answered
returns-in-Ok-clause-answered c =
    one_brought c.args.state.now c.tell.new.state c.args.label (last_part (path_at c.args.path.now).parts) c.last_place.result c.last_word.result.now c.args.target c.in-Ok.fact c.tell.result
    (c.last_place.ensures ∙ ap (λ parts. (last_part (path_parts_at parts)).place) c.as_slice-parts.ensures)
    (c.last_word.ensures ∙ ap (λ parts. (last_part (path_parts_at parts)).word) c.as_slice-parts.ensures)
    c.in-Ok.ensures.is c.tell.ensures.answered
