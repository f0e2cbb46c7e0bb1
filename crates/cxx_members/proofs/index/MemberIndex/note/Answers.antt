use Rattle.std.proofs.Common.{◌∙◌, ◌++◌, ◌∷◌, [], get_or, take, ap, sym}
use Rattle.std.proofs.lemmas.List.{append-nil}
use Rattle.cxx_meaning.specs.Lookups.Gathered.{before}
use Rattle.cxx_members.specs.Views.{scopes_of}
use Rattle.cxx_members.proofs.Scanned.{scopes_more}
use Rattle.cxx_members.proofs.index.MemberIndex.note.Goals as goal

pub returns-in_ok-push-clause-ok : goal.returns-in_ok-push-clause-ok
returns-in_ok-push-clause-ok c =
    let fact = c.index-facts-number.result in
    let e = c.index-facts-number.is ∙ ap (λ fs. get_or fs c.args.number.0 fact) c.facts.ensures in
    let m = scopes_more c.args.graph.now.facts c.args.number.0 fact c.requires.known e in
    let i = c.in_ok-push.ensures.items ∙ ap (λ xs. xs ++ c.in-Some.noted ∷ []) c.requires.noted.scopes in
    let w = ap (λ o. before o []) c.in-Some.ensures in
    record { scopes = i ∙ (ap (λ xs. scopes_of (take c.args.number.0 c.args.graph.now.facts) ++ xs) w ∙ sym m) }

pub returns-in_default-clause-ok : goal.returns-in_default-clause-ok
returns-in_default-clause-ok c =
    let fact = c.index-facts-number.result in
    let e = c.index-facts-number.is ∙ ap (λ fs. get_or fs c.args.number.0 fact) c.facts.ensures in
    let m = scopes_more c.args.graph.now.facts c.args.number.0 fact c.requires.known e in
    let w = ap (λ o. before o []) c.in_default.ensures in
    record { scopes = c.requires.noted.scopes ∙ (sym (append-nil _) ∙ (ap (λ xs. scopes_of (take c.args.number.0 c.args.graph.now.facts) ++ xs) w ∙ sym m)) }
