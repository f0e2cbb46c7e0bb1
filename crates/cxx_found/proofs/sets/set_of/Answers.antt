use Rattle.std.proofs.Common.{◌∙◌, ap, sym}
use Rattle.cxx_model.specs.Facts.Declarations.{graph_at}
use Rattle.cxx_reading.specs.Seen.{fact_numbers, numbered_at, set_in}
use Rattle.cxx_names.specs.Index.{numbers_in}
use Rattle.cxx_found.proofs.Facts.{kept_numbered, kept_numbers, length_at}
use Rattle.cxx_found.proofs.sets.set_of.Goals as goal

pub returns-in-Set-clause-numbered : goal.returns-in-Set-clause-numbered
returns-in-Set-clause-numbered c = λ types.
    let graph = graph_at types c.args.graph.now in
    let counted = c.length.ensures.count ∙ sym (length_at types c.args.graph.now.facts) in
    ap (λ all. numbered_at graph (fact_numbers all)) c.known.ensures ∙ (kept_numbered graph c.length.result c.in-Set.facts counted ∙ ap (set_in graph) (sym c.in-Set.is))

pub returns-in-Set-clause-numbers : goal.returns-in-Set-clause-numbers
returns-in-Set-clause-numbers c = λ types.
    let graph = graph_at types c.args.graph.now in
    let counted = c.length.ensures.count ∙ sym (length_at types c.args.graph.now.facts) in
    ap (λ found. numbers_in (set_in graph found)) c.in-Set.is ∙ (ap numbers_in (sym (kept_numbered graph c.length.result c.in-Set.facts counted)) ∙ (kept_numbers graph c.length.result c.in-Set.facts counted ∙ sym c.known.ensures))

pub returns-in-Member-clause-numbered : goal.returns-in-Member-clause-numbered
returns-in-Member-clause-numbered c = λ types.
    let graph = graph_at types c.args.graph.now in
    let counted = c.length-in-Member.ensures.count ∙ sym (length_at types c.args.graph.now.facts) in
    ap (λ all. numbered_at graph (fact_numbers all)) c.known-in-Member.ensures ∙ (kept_numbered graph c.length-in-Member.result c.members_of.result counted ∙ (ap (λ all. numbered_at graph (fact_numbers all)) c.members_of.ensures ∙ ap (set_in graph) (sym c.in-Member.is)))

pub returns-in-Member-clause-numbers : goal.returns-in-Member-clause-numbers
returns-in-Member-clause-numbers c = λ types.
    let graph = graph_at types c.args.graph.now in
    let counted = c.length-in-Member.ensures.count ∙ sym (length_at types c.args.graph.now.facts) in
    ap (λ found. numbers_in (set_in graph found)) c.in-Member.is ∙ (ap (λ all. numbers_in (numbered_at graph (fact_numbers all))) (sym c.members_of.ensures) ∙ (ap numbers_in (sym (kept_numbered graph c.length-in-Member.result c.members_of.result counted)) ∙ (kept_numbers graph c.length-in-Member.result c.members_of.result counted ∙ sym c.known-in-Member.ensures)))
