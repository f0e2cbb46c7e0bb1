use Rattle.cxx_tokens.specs.Pieces.{spelled}
use Rattle.cxx_tokens.proofs.Pieces.{number_at}
use Rattle.cxx_tokens.proofs.numbers.number.Goals as goal

pub returns : goal.returns
returns c =
    let run = c.number_len-len in
    number_at c.args.fresh c.args.text.now run.result (spelled c.number_kind.result) c.requires run.ensures.within run.ensures.number run.ensures.ends c.number_kind.ensures
