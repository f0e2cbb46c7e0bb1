use Rattle.std.proofs.Common.{◌≡◌, ◌≤◌, length}
use Rattle.cxx_model.specs.declared.limits.TheConstants as limits
use Rattle.cxx_model.specs.Text.Tokens.{tokens_of}
use Rattle.cxx_tokens.specs.Answers.{list_at, IsSound}
use Rattle.cxx_tokens.specs.Pieces.{width_seen}
use Rattle.cxx_tokens.proofs.read.read_all.Given as goal

abbrev pub invariant-loop-tokens : goal.invariant-loop-tokens
invariant-loop-tokens l =
    (list_at l.tokens.items (width_seen l.reader.before) l.reader.fresh l.reader.at l.reader.place l.reader.rest.now ≡ tokens_of l.bytes) × (length l.tokens.items ≤ limits.MOST_TOKENS) × IsSound (width_seen l.reader.before) l.tokens.items

abbrev pub decreases-loop-tokens : goal.decreases-loop-tokens
decreases-loop-tokens l = length l.reader.rest.now
