use Rattle.std.proofs.Common.{ap, ◌∙◌, ◌++◌, ◌∷◌, []}
use Rattle.cxx_tree.proofs.Wholes.{fitted_first, meaning_first, whole_first}
use Rattle.cxx_tree.specs.Asked.{Asked}
use Rattle.cxx_tree.proofs.state.State.new.Goals as goal

pub note-requires-clause-fitted : goal.note-requires-clause-fitted
note-requires-clause-fitted c = fitted_first _ _ c.in_ok-begin.ensures.added c.new-types.ensures

pub invariant_of-result : goal.invariant_of-result
invariant_of-result c = whole_first _ _ _ _ _ _ _ _ _ _ _ _ _ _ _ c.in_ok-begin.ensures.added c.new-types.ensures c.new-3.ensures c.new-4.ensures.items c.new-5.ensures.items c.new-6.ensures c.new-7.ensures (ap (λ (all : Asked). all.calls) c.new-8.ensures) c.new-9.ensures c.new-10.ensures _ _ (c.in_ok-push.ensures.items ∙ ap (λ ps. ps ++ record { line = 1; column = 1 } ∷ []) c.new-openings.ensures.items) c.begin.ensures.noted c.new.ensures c.new-2.ensures c.note.ensures

pub returns-clause-is : goal.returns-clause-is
returns-clause-is c = meaning_first c.begin.new.names c.new.result c.new-2.result _ _ _ _ _ _ _ _ _ _ _ _ c.in_ok-begin.ensures.added c.new-types.ensures c.new-3.ensures c.new-4.ensures.items c.new-5.ensures.items c.new-6.ensures c.new-7.ensures (ap (λ (all : Asked). all.calls) c.new-8.ensures) c.new-9.ensures c.new-10.ensures
