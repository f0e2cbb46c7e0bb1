use Rattle.std.proofs.Common.{◌∙◌, ap, List}
use Rattle.cxx_model.specs.Facts.Declarations.{name_at}
use Rattle.cxx_model.specs.Types.Numbers.{type_at}
use Rattle.cxx_model.specs.Types.Trees.{CxxType}
use Rattle.cxx_form.specs.Sharing.{mark_by}
use Rattle.cxx_form.specs.Views.{facts_in}
use Rattle.cxx_form.proofs.Sharings.{first_is, none_is, pushed}
use Rattle.cxx_form.proofs.shared.first_signed.Goals as goal

pub returns-in-Some-clause-first : goal.returns-in-Some-clause-first
returns-in-Some-clause-first c =
    let held = c.args.state.now in
    (first_is (facts_in held) c.args.number c.args.rows.now.rows.entries (name_at held.types c.args.name.now) (type_at held.types c.args.of.0) c.in_ok-mark.mark c.row.result.now c.requires.marked c.requires.is
    (c.in_ok-mark.ensures ∙ ap (λ (ts : List CxxType). mark_by (name_at ts c.args.name.now) (type_at ts c.args.of.0)) c.types.ensures.is) c.row.ensures c.in-Some.first.0 c.in-Some.ensures).0

pub returns-in-Some-clause-marked : goal.returns-in-Some-clause-marked
returns-in-Some-clause-marked c =
    let held = c.args.state.now in
    (first_is (facts_in held) c.args.number c.args.rows.now.rows.entries (name_at held.types c.args.name.now) (type_at held.types c.args.of.0) c.in_ok-mark.mark c.row.result.now c.requires.marked c.requires.is
    (c.in_ok-mark.ensures ∙ ap (λ (ts : List CxxType). mark_by (name_at ts c.args.name.now) (type_at ts c.args.of.0)) c.types.ensures.is) c.row.ensures c.in-Some.first.0 c.in-Some.ensures).1

pub returns-clause-first : goal.returns-clause-first
returns-clause-first c =
    let held = c.args.state.now in
    none_is (facts_in held) c.args.number c.args.rows.now.rows.entries (name_at held.types c.args.name.now) (type_at held.types c.args.of.0) c.in_ok-mark.mark c.row.result.now c.requires.marked c.requires.is
    (c.in_ok-mark.ensures ∙ ap (λ (ts : List CxxType). mark_by (name_at ts c.args.name.now) (type_at ts c.args.of.0)) c.types.ensures.is) c.row.ensures c.in_default.ensures

pub returns-clause-marked : goal.returns-clause-marked
returns-clause-marked c =
    let held = c.args.state.now in
    pushed (facts_in held) c.args.number c.args.rows.now.rows.entries (name_at held.types c.args.name.now) (type_at held.types c.args.of.0) c.in_ok-mark.mark c.row.result.now c.requires.marked c.requires.is
    (c.in_ok-mark.ensures ∙ ap (λ (ts : List CxxType). mark_by (name_at ts c.args.name.now) (type_at ts c.args.of.0)) c.types.ensures.is) c.row.ensures c.push.new.self.rows.entries c.in_default.ensures c.in_ok-push.ensures
