use Rattle.std.proofs.Common.{◌∙◌, ap, nat_lt, rules}
use Rattle.std.proofs.lemmas.Fn.{filter_same}
use Rattle.std.specs.List.{filter}
use Rattle.cxx_model.specs.declared.types.FactId.{FactId}
use Rattle.cxx_found.proofs.sets.known.Goals as goal

pub returns : goal.returns
returns c =
    let e = filter_same _ (λ (fact : FactId). nat_lt fact.0 c.args.count) _ (λ x b f' k. search rules) _ _ c.retain.ensures.filtered in
    c.from_vec.ensures ∙ (e ∙ ap (filter (λ fact. nat_lt fact.0 c.args.count)) c.into_vec-facts.ensures)
