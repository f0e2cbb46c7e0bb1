use Rattle.cxx_tokens.specs.Pieces.{spelled}
use Rattle.std.proofs.Common.{arith}
use Rattle.cxx_tokens.proofs.Pieces.{hash_at, stale_hash_at}
use Rattle.cxx_tokens.proofs.front.hash.Goals as goal

pub returns-then-not-fresh : goal.returns-then-not-fresh
returns-then-not-fresh c = stale_hash_at c.args.fresh c.args.text.now c.requires c.if-not-fresh.true

pub returns : goal.returns
returns c = hash_at c.args.fresh c.args.text.now c.marker-found.result.len (spelled c.marker-found.result.spells) c.requires (grind arith) c.marker-found.ensures
