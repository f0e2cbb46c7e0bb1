use Rattle.cxx_tokens.specs.Pieces.{spelled}
use Rattle.cxx_tokens.proofs.Pieces.{wide_at, wide_quote}
use Rattle.cxx_tokens.proofs.words.wide.Goals as goal

pub literal-found-requires : goal.literal-found-requires
literal-found-requires c = wide_quote c.args.text.now c.requires

pub returns : goal.returns
returns c = wide_at c.args.fresh c.args.text.now c.literal-found.result.len (spelled c.literal-found.result.spells) c.requires c.literal-found.ensures
