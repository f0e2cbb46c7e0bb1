use Rattle.std.proofs.Common.{◌≡◌, ◌∷◌, [], OnOk, subst}
use Rattle.cxx_model.specs.Facts.Declarations.{fact_at}
use Rattle.cxx_meaning.specs.Lookups.Gathered.{with_facts}
use Rattle.cxx_adl.specs.Functions.{firsts}
use Rattle.cxx_adl.specs.Views.{facts_of, graph_of}
use Rattle.cxx_adl.proofs.Standing.{sighted}
use Rattle.cxx_adl.proofs.asking.Asking.add_meant.Goals as goal

pub returns : goal.returns
returns g c =
    let asking = c.args.self.now in
    let fact = fact_at asking.types.now c.args.fact.now in
    subst (λ s. OnOk c.add_function.result (c.add_function.new.found.items ≡ with_facts c.args.found.now.items (firsts (graph_of asking) (s ∷ [])))) (sighted asking.types.now (facts_of asking) c.meant-meant.result c.args.number fact c.meant-meant.ensures) (c.add_function.ensures (record { 0 = fact.scope }) c.args.number)
