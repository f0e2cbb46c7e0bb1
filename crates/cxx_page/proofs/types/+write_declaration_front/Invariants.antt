use Rattle.cxx_page.proofs.types.+write_declaration_front.Given as goal

abbrev pub decreases-write_declaration_front : goal.decreases-write_declaration_front
decreases-write_declaration_front l = l.number.0
