use Rattle.std.proofs.Common.{◌≡◌, ◌+◌, ◌-◌, suc, ap, sym, ◌∙◌, arith}
use Rattle.std.specs.List.{slice_get}
use Rattle.cxx_model.specs.Facts.Declarations.{facts_at}
use Rattle.cxx_names.specs.Looked.{outer_in}
use Rattle.cxx_names.proofs.Outer.{open_from, open_here, open_last, open_of_unit, open_outside, opened_is}
use Rattle.cxx_names.proofs.Openings.{not_zero, outer_is}
use Rattle.cxx_names.proofs.names.Names.open_scope.Goals as goal

pub returns-then-is_open : goal.returns-then-is_open
returns-then-is_open c = λ types.
    let facts = facts_at types c.args.graph.now.facts in
    sym (open_here facts (c.args.scope.0 - c.loop-turn._turn) c.loop-turn.now.0 (sym (c.is_open.ensures types) ∙ c.if-is_open.true)) ∙ (c.loop-turn.invariant types ∙ opened_is types c.args.graph.now c.args.scope.0)

pub returns-then-now-eq0 : goal.returns-then-now-eq0
returns-then-now-eq0 c = λ types.
    let facts = facts_at types c.args.graph.now.facts in
    let room = c.args.scope.0 - c.loop-turn._turn in
    c.if-now-eq0.true ∙ (sym (open_of_unit facts room) ∙ (ap (open_from facts room) (sym c.if-now-eq0.true) ∙ (c.loop-turn.invariant types ∙ opened_is types c.args.graph.now c.args.scope.0)))

pub loop-turn-preserved : goal.loop-turn-preserved
loop-turn-preserved c = λ types.
    let facts = facts_at types c.args.graph.now.facts in
    let less = c.args.scope.0 - (c.loop-turn._turn + 1) in
    let room : c.args.scope.0 - c.loop-turn._turn ≡ suc (c.args.scope.0 - (c.loop-turn._turn + 1)) = omega arith in
    let outer = c.outer-now.ensures ∙ (ap (λ xs. outer_in (slice_get xs c.loop-turn.now.0)) c.requires.kept.scopes ∙ outer_is types c.args.graph.now.facts c.loop-turn.now) in
    ap (open_from facts less) outer
    ∙ (sym (open_outside facts less c.loop-turn.now.0 (sym (c.is_open.ensures types) ∙ c.if-is_open.false) (not_zero c.loop-turn.now.0 c.if-now-eq0.false))
    ∙ (ap (λ r. open_from facts r c.loop-turn.now.0) (sym room) ∙ c.loop-turn.invariant types))

pub returns-then-is_open-2 : goal.returns-then-is_open-2
returns-then-is_open-2 c = λ types.
    let facts = facts_at types c.args.graph.now.facts in
    sym (open_here facts (c.args.scope.0 - c.loop-turn._turn) c.loop-turn.now.0 (sym (c.is_open-2.ensures types) ∙ c.if-is_open-2.true)) ∙ (c.loop-turn.invariant types ∙ opened_is types c.args.graph.now c.args.scope.0)

pub returns : goal.returns
returns c = λ types.
    let facts = facts_at types c.args.graph.now.facts in
    let room : c.args.scope.0 - c.loop-turn._turn ≡ 0 = omega arith in
    sym (open_last facts c.loop-turn.now.0 (sym (c.is_open-2.ensures types) ∙ c.if-is_open-2.false))
    ∙ (ap (λ r. open_from facts r c.loop-turn.now.0) (sym room) ∙ (c.loop-turn.invariant types ∙ opened_is types c.args.graph.now c.args.scope.0))
