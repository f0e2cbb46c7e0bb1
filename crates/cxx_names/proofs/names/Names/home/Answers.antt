use Rattle.std.proofs.Common.{◌≡◌, ◌+◌, ◌-◌, suc, ap, sym, ◌∙◌, arith}
use Rattle.std.specs.List.{slice_get}
use Rattle.cxx_model.specs.Facts.Declarations.{facts_at}
use Rattle.cxx_names.specs.Looked.{outer_in}
use Rattle.cxx_names.proofs.Openings.{home_from, home_here, home_is, home_last, home_of_unit, home_outside, not_zero, outer_is}
use Rattle.cxx_names.proofs.names.Names.home.Goals as goal

pub returns-then-is_space : goal.returns-then-is_space
returns-then-is_space c = λ types.
    let facts = facts_at types c.args.graph.now.facts in
    sym (home_here facts (c.args.scope.0 - c.loop-turn._turn) c.loop-turn.now.0 (sym (c.is_space.ensures types) ∙ c.if-is_space.true)) ∙ (c.loop-turn.invariant types ∙ home_is types c.args.graph.now c.args.scope.0)

pub returns-then-now-eq0 : goal.returns-then-now-eq0
returns-then-now-eq0 c = λ types.
    let facts = facts_at types c.args.graph.now.facts in
    let room = c.args.scope.0 - c.loop-turn._turn in
    c.if-now-eq0.true ∙ (sym (home_of_unit facts room) ∙ (ap (home_from facts room) (sym c.if-now-eq0.true) ∙ (c.loop-turn.invariant types ∙ home_is types c.args.graph.now c.args.scope.0)))

pub loop-turn-preserved : goal.loop-turn-preserved
loop-turn-preserved c = λ types.
    let facts = facts_at types c.args.graph.now.facts in
    let less = c.args.scope.0 - (c.loop-turn._turn + 1) in
    let room : c.args.scope.0 - c.loop-turn._turn ≡ suc (c.args.scope.0 - (c.loop-turn._turn + 1)) = omega arith in
    let outer = c.outer-now.ensures ∙ (ap (λ xs. outer_in (slice_get xs c.loop-turn.now.0)) c.requires.kept.scopes ∙ outer_is types c.args.graph.now.facts c.loop-turn.now) in
    ap (home_from facts less) outer
    ∙ (sym (home_outside facts less c.loop-turn.now.0 (sym (c.is_space.ensures types) ∙ c.if-is_space.false) (not_zero c.loop-turn.now.0 c.if-now-eq0.false))
    ∙ (ap (λ r. home_from facts r c.loop-turn.now.0) (sym room) ∙ c.loop-turn.invariant types))

pub returns-then-is_space-2 : goal.returns-then-is_space-2
returns-then-is_space-2 c = λ types.
    let facts = facts_at types c.args.graph.now.facts in
    sym (home_here facts (c.args.scope.0 - c.loop-turn._turn) c.loop-turn.now.0 (sym (c.is_space-2.ensures types) ∙ c.if-is_space-2.true)) ∙ (c.loop-turn.invariant types ∙ home_is types c.args.graph.now c.args.scope.0)

pub returns : goal.returns
returns c = λ types.
    let facts = facts_at types c.args.graph.now.facts in
    let room : c.args.scope.0 - c.loop-turn._turn ≡ 0 = omega arith in
    sym (home_last facts c.loop-turn.now.0 (sym (c.is_space-2.ensures types) ∙ c.if-is_space-2.false))
    ∙ (ap (λ r. home_from facts r c.loop-turn.now.0) (sym room) ∙ (c.loop-turn.invariant types ∙ home_is types c.args.graph.now c.args.scope.0))
