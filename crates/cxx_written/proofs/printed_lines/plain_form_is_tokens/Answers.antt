use Rattle.cxx_written.proofs.PlainForm.{plain_form_reads}
use Rattle.cxx_written.proofs.printed_lines.plain_form_is_tokens.Goals as goal

pub returns : goal.returns
returns c = plain_form_reads
