use Rattle.std.proofs.Common.{subst}
use Rattle.cxx_page.specs.Sheets.{put_lines, Writes}
use Rattle.cxx_statement_text.specs.Statements.{Lines}
use Rattle.cxx_form.proofs.Heading.{definition_is}
use Rattle.cxx_form.proofs.definitions.write_definition.Goals as goal

pub returns : goal.returns
returns c =
    subst (λ (ls : Lines). Writes c.write_parts.result c.write_parts.new.page (put_lines ls c.args.page.now))
    (definition_is c.args.book.now c.args.number c.declarator_of-declarator.result c.body_of-body.result c.parameters-numbers.result.now c.declarator_of-declarator.ensures.is c.body_of-body.ensures.is c.parameters-numbers.ensures) c.write_parts.ensures
