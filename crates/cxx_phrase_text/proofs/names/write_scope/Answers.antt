use Rattle.std.proofs.Common.{subst, Bool}
use Rattle.cxx_page.specs.Sheets.{put, Writes}
use Rattle.cxx_phrase_text.specs.Named.{type_for}
use Rattle.cxx_phrase_text.specs.Phrases.{scope_words}
use Rattle.cxx_phrase_text.proofs.names.write_scope.Goals as goal

pub returns : goal.returns
returns g c =
    subst (λ (b : Bool). Writes c.write_class_where.result c.write_class_where.new.page (put (scope_words (g.N.Names.named c.args.names.now).tags (type_for (g.N.Names.named c.args.names.now) c.args.of) b) c.args.page.now))
    c.is_in_class.ensures c.write_class_where.ensures
