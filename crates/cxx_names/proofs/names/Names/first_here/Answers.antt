use Rattle.std.proofs.Common.{◌<◌, ◌+◌, cond, length, drop, get_or, Some, ap, sym, ◌∙◌, arith}
use Rattle.cxx_model.specs.declared.types.FactId.{FactId}
use Rattle.cxx_model.specs.Facts.Declarations.{fact_at, graph_at}
use Rattle.cxx_reading.specs.Linked.{clash_among}
use Rattle.cxx_names.specs.Looked.{looked_up}
use Rattle.cxx_names.proofs.Clashing.{here_step}
use Rattle.cxx_names.proofs.names.Names.first_here.Goals as goal

pub returns-then-clashes_here : goal.returns-then-clashes_here
returns-then-clashes_here c =
    let types = c.args.types.now in
    let graph = graph_at types c.args.graph.now in
    let new = fact_at types c.args.new.now in
    let numbers = c.args.numbers.now in
    let i = c.loop-number.number-index in
    let none : FactId = record { 0 = 0 } in
    let lt : c.loop-number.number-index < length c.args.numbers.now = omega arith in
    let later = clash_among graph new (looked_up types c.args.graph.now.facts (drop (i + 1) numbers)) in
    let step = here_step graph new types c.args.graph.now.facts numbers i none c.clashes_here.result lt c.clashes_here.ensures in
    sym (ap (λ b. cond b (Some (get_or numbers i none).0) later) c.if-clashes_here.true) ∙ (sym step ∙ c.loop-number.invariant)

pub loop-number-preserved : goal.loop-number-preserved
loop-number-preserved c =
    let types = c.args.types.now in
    let graph = graph_at types c.args.graph.now in
    let new = fact_at types c.args.new.now in
    let numbers = c.args.numbers.now in
    let i = c.loop-number.number-index in
    let none : FactId = record { 0 = 0 } in
    let lt : c.loop-number.number-index < length c.args.numbers.now = omega arith in
    let later = clash_among graph new (looked_up types c.args.graph.now.facts (drop (i + 1) numbers)) in
    let step = here_step graph new types c.args.graph.now.facts numbers i none c.clashes_here.result lt c.clashes_here.ensures in
    sym (ap (λ b. cond b (Some (get_or numbers i none).0) later) c.if-clashes_here.false) ∙ (sym step ∙ c.loop-number.invariant)
