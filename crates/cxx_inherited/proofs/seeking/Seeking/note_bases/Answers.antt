use Rattle.cxx_meaning.specs.Lookups.Member.{declares_member}
use Rattle.cxx_inherited.specs.Views.{graph_of, name_of, types_of, wanted_of}
use Rattle.cxx_inherited.proofs.Reaching.{noted_cover}
use Rattle.cxx_inherited.proofs.seeking.Seeking.note_bases.Goals as goal

pub returns-clause-covers : goal.returns-clause-covers
returns-clause-covers c =
    let seeking = c.args.self.now in
    noted_cover (types_of seeking) (declares_member (graph_of seeking) (wanted_of seeking) (name_of seeking)) seeking.looking.graph.now.facts c.args.class c.args.before c.args.waiting.now.keys c.note_all.new.waiting.keys c.ancestors.result.now c.ancestors.ensures (λ good. c.in_ok-note_all.ensures.noted good)
