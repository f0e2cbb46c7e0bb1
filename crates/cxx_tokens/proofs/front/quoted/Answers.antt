use Rattle.cxx_tokens.specs.Pieces.{spelled}
use Rattle.cxx_tokens.proofs.Pieces.{quoted_at}
use Rattle.cxx_tokens.proofs.front.quoted.Goals as goal

pub returns : goal.returns
returns c = quoted_at c.args.fresh c.args.text.now c.literal-found.result.len (spelled c.literal-found.result.spells) c.requires c.literal-found.ensures
