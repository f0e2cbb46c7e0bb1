use Rattle.std.proofs.Common.{ap, true, cond, ◌∙◌}
use Rattle.cxx_linked.proofs.Filing.{links_more}
use Rattle.cxx_linked.specs.Links.{holds_fact, same_fact}
use Rattle.cxx_linked.proofs.linkages.Linkages.add.Goals as goal

pub returns-clause-more : goal.returns-clause-more
returns-clause-more c = λ linked links.
    links_more c.args.self.now (record { words = c.file.new.self.words; known = c.insert.new.self }) c.args.graph.now.facts linked c.args.number c.requires.there c.file.ensures.sound c.in_ok-file.ensures.more
    (λ other. c.in_ok-insert.ensures.updates.0 other ∙ ap (λ ks. cond (same_fact c.args.number other) true (holds_fact ks other)) (ap (λ s. s.keys) c.file.ensures.known ∙ c.reserve.ensures.keys)) links
