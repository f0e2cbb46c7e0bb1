use Rattle.std.specs.Prelude.{◌≡◌, ◌∷◌, length}
use Rattle.std.specs.Vec.Iter.{into_iter_items}
use Rattle.std.proofs.Common.{ap, sym, ◌∙◌, arith, rules}
use Rattle.std.proofs.lemmas.Result.{err_from_is_err_and}
use Rattle.cxx_declare.proofs.Begun.{all_left, fewer_left, left_ready, none_left, nothing_left, stopped_left}
use Rattle.cxx_declare.proofs.class_definitions.add_each.Goals as goal

pub loop-fact-init : goal.loop-fact-init
loop-fact-init c = (all_left c.args.state.now c.args.all.items (into_iter_items c.into_iter-fact-iterator.result) c.into_iter-fact-iterator.ensures.into_iter_gives.0 c.requires.follow c.requires.below c.requires.plain, search rules)

pub add-requires-clause-follows : goal.add-requires-clause-follows
add-requires-clause-follows c = (left_ready c.args.state.now c.loop-fact.state c.args.all.items (into_iter_items c.loop-fact.fact-iterator) (into_iter_items c.next.new.self) c.in-Some.fact c.loop-fact.invariant.0 c.in-Some.ensures.steps.0).follows

pub add-requires-clause-below : goal.add-requires-clause-below
add-requires-clause-below c = (left_ready c.args.state.now c.loop-fact.state c.args.all.items (into_iter_items c.loop-fact.fact-iterator) (into_iter_items c.next.new.self) c.in-Some.fact c.loop-fact.invariant.0 c.in-Some.ensures.steps.0).below

pub add-requires-clause-plain : goal.add-requires-clause-plain
add-requires-clause-plain c = (left_ready c.args.state.now c.loop-fact.state c.args.all.items (into_iter_items c.loop-fact.fact-iterator) (into_iter_items c.next.new.self) c.in-Some.fact c.loop-fact.invariant.0 c.in-Some.ensures.steps.0).plain

pub loop-fact-preserved : goal.loop-fact-preserved
loop-fact-preserved c =
    let at = c.loop-fact in
    let steps : into_iter_items at.fact-iterator ≡ c.in-Some.fact ∷ into_iter_items c.next.new.self = c.in-Some.ensures.steps.0 in (
      fewer_left c.args.state.now at.state c.add.new.self c.args.all.items (into_iter_items at.fact-iterator) (into_iter_items c.next.new.self) c.in-Some.fact c.in_ok-add.field-0 at.invariant.0 steps c.in_ok-add.ensures.answered c.in_ok-add.ensures.held,
      let was = at.invariant.1 in
          let gone = c.in-Some.ensures.steps.1 in
          let short = ap length steps in
          omega arith,
    )

pub returns-in_err-add-clause-answered : goal.returns-in_err-add-clause-answered
returns-in_err-add-clause-answered c =
    let p = err_from_is_err_and c.from_residual.result c.from_residual.ensures.1 in
    rw (p.1, p.2) (stopped_left c.args.state.now c.loop-fact.state c.add.new.self c.args.all.items (into_iter_items c.loop-fact.fact-iterator) (into_iter_items c.next.new.self) c.in-Some.fact c.in_err-add.field-0.0 c.loop-fact.invariant.0 c.in-Some.ensures.steps.0 c.in_err-add.ensures.answered)

pub returns-clause-answered : goal.returns-clause-answered
returns-clause-answered c =
    none_left c.args.state.now c.loop-fact.state c.args.all.items (into_iter_items c.loop-fact.fact-iterator) c.loop-fact.invariant.0
    (nothing_left (into_iter_items c.loop-fact.fact-iterator) (sym c.loop-fact.invariant.1 ∙ c.in-None.ensures.steps.0))

pub returns-clause-held : goal.returns-clause-held
returns-clause-held c = c.loop-fact.invariant.0.classes
