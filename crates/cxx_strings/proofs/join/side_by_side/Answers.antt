use Rattle.std.proofs.Common.{◌≡◌, Some, None, IfOk, ◌∙◌, subst}
use Rattle.cxx_strings.specs.Spacing.{IsWritten}
use Rattle.cxx_strings.proofs.Spaced.{spelled_by, stays}
use Rattle.cxx_strings.proofs.join.side_by_side.Goals as goal

pub returns-in-Some : goal.returns-in-Some
returns-in-Some c =
    let text = c.args.text.now in
    let h : IsWritten text (Some c.in-Some.spaced) = subst (IsWritten text) c.in-Some.is c.in_ok-spaced.ensures in
    c.from_vec.ensures ∙ spelled_by text c.in-Some.spaced.items h

pub returns-in-None : goal.returns-in-None
returns-in-None c =
    let text = c.args.text.now in
    let h : IsWritten text None = subst (IsWritten text) c.in-None.is c.in_ok-spaced.ensures in
    subst (λ t. IfOk c.from_slice.result (λ spelling. spelling ≡ t)) (stays text h) c.from_slice.ensures
