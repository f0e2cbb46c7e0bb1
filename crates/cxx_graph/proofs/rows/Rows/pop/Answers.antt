use Rattle.std.proofs.Common.{◌<◌, sym, length, List, subst, arith}
use Rattle.std.proofs.Math.ListN.{length-map}
use Rattle.cxx_model.specs.declared.types.FactId.{FactId}
use Rattle.std.specs.Global.{Vec}
use Rattle.cxx_graph.specs.Rows.{IsRowMore}
use Rattle.cxx_graph.proofs.Rowed.{popped_by, rows_of}
use Rattle.cxx_graph.proofs.rows.Rows.pop.Goals as goal

pub returns-then-number-len : goal.returns-then-number-len
returns-then-number-len c before fact more =
    let within : c.args.number < length (rows_of c.self.inside.rows.items) = omega (arith, length-map c.self.inside.rows.items (λ (row : Vec FactId). row.items), c.len.ensures) in
    popped_by c.self.inside.rows.items c.args.number c.index_mut-row.result.now c.pop.new.self c.pop.result within c.index_mut-row.ensures.value c.pop.ensures.items c.pop.ensures.variant before fact
    (subst (λ (rows : List (List FactId)). IsRowMore before rows c.args.number fact) (sym c.self.view_is) more)
