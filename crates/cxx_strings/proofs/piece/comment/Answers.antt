use Rattle.cxx_model.specs.Text.Continuing.{comment}
use Rattle.cxx_model.specs.Text.Spelling.{Blank}
use Rattle.cxx_tokens.proofs.Pieces.{behind_two, comment_at}
use Rattle.cxx_strings.proofs.Begins.{other_behind}
use Rattle.cxx_strings.proofs.piece.comment.Goals as goal

pub returns-in-Some : goal.returns-in-Some
returns-in-Some c = comment_at c.args.fresh c.args.text.now c.in-Some.len Blank c.requires.first c.requires.long c.requires.second c.in-Some.ensures

pub returns-in-None : goal.returns-in-None
returns-in-None c = other_behind c.args.fresh c.args.text.now (behind_two c.args.text.now) comment 2 (λ n spells found. comment_at c.args.fresh c.args.text.now n spells c.requires.first c.requires.long c.requires.second found) c.in-None.ensures
