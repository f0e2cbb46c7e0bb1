use Rattle.cxx_tokens.specs.Pieces.{spelled}
use Rattle.std.proofs.Common.{sym, ◌∙◌}
use Rattle.cxx_tokens.proofs.Pieces.{word_at}
use Rattle.cxx_tokens.proofs.words.word.Goals as goal

pub returns : goal.returns
returns c =
    let run = c.word_len-len in
    word_at c.args.fresh c.args.text.now run.result (spelled c.word_kind.result) c.requires (sym c.begins_wide.ensures ∙ c.if-begins_wide.false) run.ensures.value c.word_kind.ensures
