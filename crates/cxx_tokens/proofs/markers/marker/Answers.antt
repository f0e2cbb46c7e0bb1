use Rattle.std.proofs.Common.{sym, ◌∙◌}
use Rattle.cxx_tokens.proofs.Lines.{code_marker, code_directive}
use Rattle.cxx_tokens.proofs.markers.marker.Goals as goal

pub returns-then-makes_marker : goal.returns-then-makes_marker
returns-then-makes_marker c = code_marker c.args.rest.now c.blanks_len-blanks.result c.word_len-word.result c.line_len.result c.blanks_len-blanks.ensures.value c.word_len-word.ensures.value (sym c.makes_marker.ensures ∙ c.if-makes_marker.true) c.line_len.ensures

pub returns-else-makes_marker : goal.returns-else-makes_marker
returns-else-makes_marker c = code_directive c.args.rest.now c.blanks_len-blanks.result c.word_len-word.result c.blanks_len-blanks.ensures.value c.word_len-word.ensures.value (sym c.makes_marker.ensures ∙ c.if-makes_marker.false)
