use Rattle.std.proofs.Common.{sym, ◌∙◌, ◌+◌, refl}
use Rattle.cxx_model.specs.declared.token.TokenReason.TheVariants as reason
use Rattle.cxx_model.specs.Text.Spelling.{Ill}
use Rattle.cxx_tokens.proofs.Lines.{code_marker, code_directive}
use Rattle.cxx_strings.proofs.blanks.marker_len.Goals as goal

pub returns-then-makes_marker : goal.returns-then-makes_marker
returns-then-makes_marker c = code_marker c.args.rest.now c.blanks_len-blanks.result c.word_len-word.result c.line_len.result c.blanks_len-blanks.ensures.value c.word_len-word.ensures.value (sym c.makes_marker.ensures ∙ c.if-makes_marker.true) c.line_len.ensures

pub returns-else-makes_marker : goal.returns-else-makes_marker
returns-else-makes_marker c = record {
  len = c.blanks_len-blanks.result + c.word_len-word.result;
  spells = Ill reason.Directive;
  longest = code_directive c.args.rest.now c.blanks_len-blanks.result c.word_len-word.result c.blanks_len-blanks.ensures.value c.word_len-word.ensures.value (sym c.makes_marker.ensures ∙ c.if-makes_marker.false);
  other = refl;
}
