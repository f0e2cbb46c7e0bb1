use Rattle.std.proofs.Common.{◌∙◌, map, sym}
use Rattle.cxx_found.specs.Views.{cut_of, facts_of, shown_of}
use Rattle.cxx_found.proofs.Inside.{none_left}
use Rattle.cxx_found.proofs.Shows.{shows_nothing}
use Rattle.cxx_found.proofs.seeking.Seeking.add_shown.Goals as goal

pub returns-then-is_empty : goal.returns-then-is_empty
returns-then-is_empty c =
    let self = c.args.self.now in
    shows_nothing (facts_of self) (cut_of self) c.args.scope (map shown_of c.args.shown.now.items) (sym c.nominated.ensures ∙ none_left c.nominated.result.now (sym c.is_empty.ensures ∙ c.if-is_empty.true))
