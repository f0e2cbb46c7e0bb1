use Rattle.std.proofs.lemmas.Result.{err_from_is_err_and}
use Rattle.std.proofs.Common.{Ok, ap, sym, ◌∙◌}
use Rattle.cxx_model.specs.Facts.Declarations.{fact_at}
use Rattle.cxx_tree.specs.Held.{Held}
use Rattle.cxx_tree.proofs.Wholes.{below_here, fact_answered, fact_in_range, fitted_added, if_ok, noted_before, on_ok, opened_none, opened_one, shown_answered, stopped_ok, whole_fact}
use Rattle.cxx_tree.proofs.state.State.add.Goals as goal
use Rattle.cxx_tree.proofs.state.State.add.Goals.{in-Some+in_ok-push, in_default}

pub add-requires-clause-range : goal.add-requires-clause-range
add-requires-clause-range c = fact_in_range _ _ c.args.fact c.self.view_is c.in_range.ensures c.requires.follows

pub returns-in_err-number-clause-answered : goal.returns-in_err-number-clause-answered
returns-in_err-number-clause-answered c =
    let p = err_from_is_err_and c.from_residual-in_err-number.result c.from_residual-in_err-number.ensures.1 in
    rw (p.1, p.2) (fact_answered _ _ _ c.args.fact _ c.add.result _ c.self.view_is (ap (λ (h : Held). fact_at h.types c.args.fact) c.self.view_is) (sym c.in_err-number.was ∙ c.stopped.ensures) c.add.ensures.number c.add.ensures.appended c.add.ensures.unchanged c.add.ensures.limit)

pub note-requires-clause-fitted : goal.note-requires-clause-fitted
note-requires-clause-fitted c =
    let added = stopped_ok c.add.result c.in_ok-number.number (sym c.in_ok-number.was ∙ c.stopped.ensures) in
    fitted_added _ _ c.args.fact c.self.invariant.sound (below_here _ _ c.args.fact c.self.view_is c.requires.below) (on_ok c.add.result c.in_ok-number.number _ added c.add.ensures.appended)

pub note-requires-clause-noted : goal.note-requires-clause-noted
note-requires-clause-noted c =
    let added = stopped_ok c.add.result c.in_ok-number.number (sym c.in_ok-number.was ∙ c.stopped.ensures) in
    noted_before _ _ _ _ _ _ _ c.args.fact _ c.self.invariant (if_ok c.add.result c.in_ok-number.number _ added c.add.ensures.number) (on_ok c.add.result c.in_ok-number.number _ added c.add.ensures.appended)

pub invariant_of-self-in-Continue-branch-3 : goal.invariant_of-self-in-Continue-branch-3
invariant_of-self-in-Continue-branch-3 c =
    let added = stopped_ok c.add.result c.in_ok-number.number (sym c.in_ok-number.was ∙ c.stopped.ensures) in
    whole_fact _ _ _ _ _ _ _ _ _ _ _ c.args.fact c.self.view_is c.in_range.ensures c.self.invariant c.requires.below c.requires.plain (on_ok c.add.result c.in_ok-number.number _ added c.add.ensures.appended) (opened_one _ _ _ c.place_opened-opened.result _ c.in-Some.place c.reserve.ensures.items c.in_ok-push.ensures.items c.place_opened-opened.ensures c.in-Some.is) c.add.ensures.noted c.note.ensures

pub invariant_of-self-in_default : goal.invariant_of-self-in_default
invariant_of-self-in_default c =
    let added = stopped_ok c.add.result c.in_ok-number.number (sym c.in_ok-number.was ∙ c.stopped.ensures) in
    whole_fact _ _ _ _ _ _ _ _ _ _ _ c.args.fact c.self.view_is c.in_range.ensures c.self.invariant c.requires.below c.requires.plain (on_ok c.add.result c.in_ok-number.number _ added c.add.ensures.appended) (opened_none _ _ c.place_opened-opened.result _ c.reserve.ensures.items c.place_opened-opened.ensures c.in_default.is) c.add.ensures.noted c.note.ensures

pub returns-clause-answered : goal.returns-clause-answered
returns-clause-answered c =
    let answered = fact_answered _ _ _ c.args.fact _ c.add.result (Ok c.in_ok-number.number) c.self.view_is (ap (λ (h : Held). fact_at h.types c.args.fact) c.self.view_is) (sym c.in_ok-number.was ∙ c.stopped.ensures) c.add.ensures.number c.add.ensures.appended c.add.ensures.unchanged c.add.ensures.limit in
    elim c.match-opened.branch [ in-Some+in_ok-push w ↦ shown_answered _ _ _ _ _ w.self-is answered | in_default w ↦ shown_answered _ _ _ _ _ w.self-is answered ]
