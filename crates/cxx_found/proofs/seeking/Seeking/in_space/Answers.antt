use Rattle.std.proofs.Common.{◌∙◌, sym}
use Rattle.cxx_found.specs.Rows.{sighted_in}
use Rattle.cxx_found.specs.Views.{cut_of, found_near, graph_of, name_of, types_of, wanted_of}
use Rattle.cxx_found.proofs.Inside.{none_left}
use Rattle.cxx_found.proofs.Searching.{found_own_alone, found_own_first}
use Rattle.cxx_found.proofs.seeking.Seeking.in_space.Goals as goal

pub returns-then-not-is_nothing-clause-is : goal.returns-then-not-is_nothing-clause-is
returns-then-not-is_nothing-clause-is c =
    let self = c.args.self.now in
    found_own_first (graph_of self) (cut_of self) (wanted_of self) (name_of self) c.args.space (sighted_in (graph_of self) (wanted_of self) c.row.result.now) (found_near (types_of self) (graph_of self) c.in_ok-own.own) c.row.ensures c.in_ok-own.ensures.is (sym (c.is_nothing.ensures (types_of self) (graph_of self)) ∙ c.if-not-is_nothing.true)

pub returns-then-is_empty-clause-is : goal.returns-then-is_empty-clause-is
returns-then-is_empty-clause-is c =
    let self = c.args.self.now in
    found_own_alone (graph_of self) (cut_of self) (wanted_of self) (name_of self) c.args.space (sighted_in (graph_of self) (wanted_of self) c.row.result.now) (found_near (types_of self) (graph_of self) c.in_ok-own.own) c.row.ensures c.in_ok-own.ensures.is (sym c.nominated.ensures ∙ none_left c.nominated.result.now (sym c.is_empty.ensures ∙ c.if-is_empty.true))
