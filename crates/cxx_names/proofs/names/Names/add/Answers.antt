use Rattle.std.proofs.Common.{ap, sym, subst, ◌∙◌, length}
use Rattle.cxx_names.proofs.Noting.{notes_more}
use Rattle.cxx_names.specs.Index.{Notes}
use Rattle.cxx_names.proofs.names.Names.add.Goals as goal

pub returns-in-Ok-clause-noted : goal.returns-in-Ok-clause-noted
returns-in-Ok-clause-noted c =
    let of = c.of-one.ensures in
    subst (λ g. Notes c.note.new.self g.facts) (sym c.in-Ok.ensures.appended)
    (notes_more c.meet.new.self c.note.new.self c.of-one.result c.args.graph.now.facts c.args.fact c.in_ok-name.name (record { 0 = c.length-length.result }) c.scopes.result.0 c.length-length.ensures.count (c.scopes.ensures.kept ∙ ap length c.meet.ensures.noted.kept.scopes) c.in_ok-name.ensures.number of.name (of.representative ∙ c.representative-representative.ensures) of.noted of.block of.value of.enumeration of.class of.holder of.friend of.directive of.opening of.unnamed c.meet.ensures.noted c.in_ok-note.ensures.noted)
