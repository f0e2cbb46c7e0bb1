use Rattle.std.proofs.Common.{◌≡◌, length}
use Rattle.cxx_phrases.specs.Forms as form
use Rattle.cxx_phrases.proofs.forms.opens_behind.Given as goal

abbrev pub invariant-loop-ahead : goal.invariant-loop-ahead
invariant-loop-ahead l = form.opens_behind l.ahead.tokens ≡ form.opens_behind l.to.tokens

abbrev pub decreases-loop-ahead : goal.decreases-loop-ahead
decreases-loop-ahead l = length l.ahead.tokens
