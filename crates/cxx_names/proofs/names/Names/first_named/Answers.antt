use Rattle.std.proofs.Common.{◌∷◌, [], refl, None, ap, sym, ◌∙◌, option_map}
use Rattle.std.specs.List.{slice_get}
use Rattle.std.specs.Option.{option_to_list}
use Rattle.cxx_model.specs.Facts.Declarations.{fact_at, graph_at, name_at, spelled}
use Rattle.cxx_names.specs.Clashes.{conflict_in_scopes, holder_of_block}
use Rattle.cxx_names.specs.Index.{blocks_from, scopes_of}
use Rattle.cxx_names.proofs.Clashing.{first_among, in_both}
use Rattle.cxx_names.proofs.Pairs.{plain_free}
use Rattle.cxx_names.proofs.names.Names.first_named.Goals as goal

pub returns : goal.returns
returns c =
    let types = c.args.types.now in
    let graph = graph_at types c.args.graph.now in
    let new = fact_at types c.args.new.now in
    let word = spelled c.args.word.now in
    let scopes = scopes_of c.args.graph.now.facts in
    let scope = c.args.new.now.scope in
    let holder = option_to_list c.holder_of_block-holder.result in
    let held = c.holder_of_block-holder.ensures ∙ ap (λ xs. holder_of_block (slice_get xs scope.0)) c.requires.noted.kept.scopes in
    let blocks = c.row-blocks.ensures ∙ c.requires.noted.kept.blocks scope in
    let base = conflict_in_scopes graph new word (scope ∷ []) None in
    c.soonest_in.ensures
    ∙ (ap (λ bs. conflict_in_scopes graph new word bs (option_map (λ n. n.0) c.soonest_held-held.result)) blocks
    ∙ (ap (conflict_in_scopes graph new word (blocks_from 0 scope.0 scopes)) (c.soonest_held-held.ensures ∙ ap (conflict_in_scopes graph new word holder) c.sooner_in-own.ensures)
    ∙ (ap (λ hs. conflict_in_scopes graph new word (blocks_from 0 scope.0 scopes) (conflict_in_scopes graph new word hs base)) held
    ∙ (sym (in_both graph new word (holder_of_block (slice_get scopes scope.0)) (blocks_from 0 scope.0 scopes) base)
    ∙ first_among types c.args.graph.now new scope c.args.word.now refl (ap (name_at types) c.requires.named) (plain_free types c.args.new.now.what c.requires.plain.what)))))
