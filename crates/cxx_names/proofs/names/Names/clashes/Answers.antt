use Rattle.std.proofs.Common.{ap, ◌∙◌, ◌&&◌, ◌||◌, not}
use Rattle.std.specs.List.{slice_get}
use Rattle.cxx_model.specs.Facts.Declarations.{declares_at, facts_at, graph_at}
use Rattle.cxx_model.specs.Facts.Conflicts.{is_closed}
use Rattle.cxx_names.specs.Clashes.{is_class_in, stand_in}
use Rattle.cxx_names.proofs.Clashing.{clash_is}
use Rattle.cxx_names.proofs.names.Names.clashes.Goals as goal

pub returns : goal.returns
returns c =
    let types = c.args.types.now in
    let graph = graph_at types c.args.graph.now in
    let scopes = c.args.self.now.kept.scopes.items in
    let in_class = c.either-in_class.result in
    let closed = c.either-closed.result in
    c.is_clash.ensures
    ∙ (ap (λ b. c.is_one_scope-one.result && (c.of_one_name-named.result && (b || not c.stand_together-stands.result))) c.either.ensures
    ∙ clash_is types c.args.graph.now scopes c.args.number.0 c.args.scope c.args.old.now c.args.new.now c.is_one_scope-one.result c.of_one_name-named.result c.is_parameters-first.result c.is_parameters-second.result in_class closed c.stand_together-stands.result
    c.requires.noted.kept.scopes c.is_one_scope-one.ensures (c.of_one_name-named.ensures types) c.is_parameters-first.ensures c.is_parameters-second.ensures
    (c.either-in_class.ensures ∙ (ap (λ b. b || c.is_class-2.result) c.is_class.ensures ∙ ap (λ b. is_class_in (slice_get scopes c.args.scope.0) || b) c.is_class-2.ensures))
    (c.either-closed.ensures ∙ (ap (λ b. b || c.is_closed-2.result) (c.is_closed.ensures types) ∙ ap (λ b. is_closed (facts_at types c.args.graph.now.facts) c.args.scope.0 || b) (c.is_closed-2.ensures types)))
    (c.stand_together-stands.ensures ∙ ap (λ k. stand_in graph in_class closed c.args.number.0 (declares_at types c.args.old.now.what) k (declares_at types c.args.new.now.what)) c.length.ensures.count))
