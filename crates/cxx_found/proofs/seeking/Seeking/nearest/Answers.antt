use Rattle.std.proofs.Common.{◌≡◌, ◌∙◌, ◌+◌, ◌-◌, ◌<◌, ◌≤◌, ◌++◌, ap, arith, map, sym}
use Rattle.std.proofs.lemmas.Result.{IfOk-weaker}
use Rattle.cxx_meaning.specs.Lookups.Directives.{shows}
use Rattle.cxx_meaning.specs.Lookups.Ordinary.{found_in_scope, ordinary, ordinary_in}
use Rattle.cxx_meaning.specs.Lookups.Scopes.{up}
use Rattle.cxx_found.specs.Here.{found_here as there, or_nowhere}
use Rattle.cxx_found.specs.Views.{cut_of, facts_of, graph_of, name_of, shown_of, types_of, wanted_of}
use Rattle.cxx_found.proofs.Chained.{found_here, found_at_unit, found_at_last, further_out}
use Rattle.cxx_found.proofs.seeking.Seeking.nearest.Goals as goal

pub returns-then-not-is_nothing-clause-is : goal.returns-then-not-is_nothing-clause-is
returns-then-not-is_nothing-clause-is c =
    let self = c.args.self.now in
    sym c.loop-turn.invariant ∙ found_here (graph_of self) (wanted_of self) (name_of self) (cut_of self) (map shown_of c.loop-turn.shown.items) c.loop-turn.now (c.args.scope.0 - c.loop-turn.turn) (there (types_of self) (graph_of self) c.in_ok-here.here) c.in_ok-here.ensures.is (sym (c.is_nothing.ensures (types_of self) (graph_of self)) ∙ c.if-not-is_nothing.true)

pub returns-then-now-eq0-clause-is : goal.returns-then-now-eq0-clause-is
returns-then-now-eq0-clause-is c =
    let self = c.args.self.now in
    let lt : c.loop-turn.turn < c.args.scope.0 = omega arith in
    sym c.loop-turn.invariant ∙ found_at_unit (graph_of self) (wanted_of self) (name_of self) (cut_of self) (map shown_of c.loop-turn.shown.items) c.loop-turn.now c.args.scope.0 c.loop-turn.turn (there (types_of self) (graph_of self) c.in_ok-here.here) lt c.if-now-eq0.true c.in_ok-here.ensures.is

pub loop-turn-preserved : goal.loop-turn-preserved
loop-turn-preserved c =
    let self = c.args.self.now in
    let now = map shown_of c.next.new.shown.items in
    let lt : c.loop-turn.turn < c.args.scope.0 = omega arith in
    ap (λ s. ordinary_in (graph_of self) (wanted_of self) (name_of self) (cut_of self) now (up (facts_of self) (c.args.scope.0 - (c.loop-turn.turn + 1)) s)) c.outer-now.ensures ∙ (further_out (graph_of self) (wanted_of self) (name_of self) (cut_of self) (map shown_of c.loop-turn.shown.items) c.loop-turn.now c.args.scope.0 c.loop-turn.turn now (there (types_of self) (graph_of self) c.in_ok-here.here) lt c.if-now-eq0.false c.in_ok-here.ensures.is (sym (c.is_nothing.ensures (types_of self) (graph_of self)) ∙ c.if-not-is_nothing.false) c.in_ok-here.ensures.shown ∙ c.loop-turn.invariant)

pub returns-clause-is : goal.returns-clause-is
returns-clause-is c =
    let self = c.args.self.now in
    let shown = map shown_of c.loop-turn.shown.items in
    let le : c.args.scope.0 ≤ c.loop-turn.turn = omega arith in
    IfOk-weaker c.next-2.result (λ here. found_in_scope (graph_of self) (wanted_of self) (name_of self) (cut_of self) (shown ++ shows (facts_of self) (cut_of self) c.loop-turn.now) c.loop-turn.now ≡ there (types_of self) (graph_of self) here) (λ here. ordinary (graph_of self) (wanted_of self) c.args.scope (name_of self) (cut_of self) ≡ or_nowhere (there (types_of self) (graph_of self) here))
    (λ here e. sym c.loop-turn.invariant ∙ found_at_last (graph_of self) (wanted_of self) (name_of self) (cut_of self) shown c.loop-turn.now c.args.scope.0 c.loop-turn.turn (there (types_of self) (graph_of self) here) le e)
    c.next-2.ensures.is
