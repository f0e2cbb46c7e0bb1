use Rattle.std.proofs.Common.{◌++◌, ap, ◌∙◌, append_assoc}
use Rattle.std.specs.Prelude.{codes}
use Rattle.std.proofs.lemmas.Result.{on_ok_weaker}
use Rattle.cxx_model.specs.Printing.Reports.{shown_text}
use Rattle.cxx_report.proofs.reports.write_pair.Goals as goal

pub returns : goal.returns
returns c =
    let out = c.args.out.now.items in
    let one = shown_text c.args.one in
    let two = shown_text c.args.two in
    let said = codes " does not beat " in
    let front = c.in_ok-write.ensures ∙ ap (λ t. t ++ said) c.in_ok-write_shown.ensures in
    on_ok_weaker c.write_shown-2.result (λ e. e ∙ ap (λ t. t ++ two) (front ∙ append_assoc out one said) ∙ append_assoc out (one ++ said) two) c.write_shown-2.ensures
