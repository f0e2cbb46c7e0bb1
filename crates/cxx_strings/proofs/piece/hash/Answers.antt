use Rattle.std.proofs.Common.{◌≡◌, true, arith}
use Rattle.cxx_model.specs.Text.Spelling.{Blank, hash}
use Rattle.cxx_tokens.proofs.Pieces.{behind_first, hash_at}
use Rattle.cxx_strings.proofs.Begins.{stale_hash, other_behind}
use Rattle.cxx_strings.proofs.piece.hash.Goals as goal

pub returns-then-not-fresh : goal.returns-then-not-fresh
returns-then-not-fresh c = stale_hash c.args.fresh c.args.text.now c.requires c.if-not-fresh.true

pub returns-in-Some : goal.returns-in-Some
returns-in-Some c = hash_at c.args.fresh c.args.text.now c.in-Some.len Blank c.requires (grind arith) c.in-Some.ensures

pub returns-in-None : goal.returns-in-None
returns-in-None c =
    let fresh : c.args.fresh ≡ true = grind arith in
    other_behind c.args.fresh c.args.text.now (behind_first c.args.text.now) (hash true) 1 (λ n spells found. hash_at c.args.fresh c.args.text.now n spells c.requires fresh found) c.in-None.ensures
