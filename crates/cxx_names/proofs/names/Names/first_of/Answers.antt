use Rattle.std.proofs.Common.{◌<◌, ◌+◌, cond, length, drop, get_or, Some, ap, sym, ◌∙◌, arith}
use Rattle.cxx_model.specs.declared.types.FactId.{FactId}
use Rattle.cxx_model.specs.Facts.Declarations.{fact_at, graph_at}
use Rattle.cxx_names.specs.Clashes.{conflict_in}
use Rattle.cxx_names.specs.Looked.{looked_up}
use Rattle.cxx_names.proofs.Clashing.{conflict_step}
use Rattle.cxx_names.proofs.names.Names.first_of.Goals as goal

pub returns-then-clashes_at : goal.returns-then-clashes_at
returns-then-clashes_at c =
    let types = c.args.types.now in
    let graph = graph_at types c.args.graph.now in
    let new = fact_at types c.args.new.now in
    let numbers = c.args.numbers.now in
    let i = c.loop-number.number-index in
    let none : FactId = record { 0 = 0 } in
    let lt : c.loop-number.number-index < length c.args.numbers.now = omega arith in
    let later = conflict_in graph new (looked_up types c.args.graph.now.facts (drop (i + 1) numbers)) in
    let step = conflict_step graph new types c.args.graph.now.facts numbers i none c.clashes_at.result lt c.clashes_at.ensures in
    sym (ap (λ b. cond b (Some (get_or numbers i none).0) later) c.if-clashes_at.true) ∙ (sym step ∙ c.loop-number.invariant)

pub loop-number-preserved : goal.loop-number-preserved
loop-number-preserved c =
    let types = c.args.types.now in
    let graph = graph_at types c.args.graph.now in
    let new = fact_at types c.args.new.now in
    let numbers = c.args.numbers.now in
    let i = c.loop-number.number-index in
    let none : FactId = record { 0 = 0 } in
    let lt : c.loop-number.number-index < length c.args.numbers.now = omega arith in
    let later = conflict_in graph new (looked_up types c.args.graph.now.facts (drop (i + 1) numbers)) in
    let step = conflict_step graph new types c.args.graph.now.facts numbers i none c.clashes_at.result lt c.clashes_at.ensures in
    sym (ap (λ b. cond b (Some (get_or numbers i none).0) later) c.if-clashes_at.false) ∙ (sym step ∙ c.loop-number.invariant)
