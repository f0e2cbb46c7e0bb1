use Rattle.std.proofs.Common.{◌∙◌, ◌≤◌, take, length, ap, sym, subst, arith}
use Rattle.cxx_model.specs.Facts.Declarations.{facts_at, name_at}
use Rattle.cxx_meaning.specs.Lookups.Member.{ways, ways_after}
use Rattle.cxx_members.specs.Tables.{IsTable, holds, own_by}
use Rattle.cxx_members.specs.Views.{graph_of, wanted_at}
use Rattle.cxx_members.proofs.Holders.{holders_are, table_start, take_past, ways_are}
use Rattle.cxx_members.proofs.Tables.{table_as}
use Rattle.cxx_members.proofs.looking.Looking.table.Goals as goal

pub loop-number-init : goal.loop-number-init
loop-number-init g c =
    let looking = c.args.self.now in
    let table = c.in_ok-table.table in
    let first = table_start table.paths.items c.in_ok-holders.holders.items table.records.items c.in_ok-table.ensures.table in
    record {
      sound = c.in_ok-table.ensures.sound;
      holders = c.in_ok-table.ensures.holders ∙ c.in_ok-holders.ensures;
      is = subst (λ hs. IsTable table.paths.items hs table.records.items (ways_after (holds hs) (own_by hs) (facts_at looking.types.now (take 0 looking.graph.now.facts)))) (sym c.in_ok-table.ensures.holders) first;
    }

pub returns-clause-is : goal.returns-clause-is
returns-clause-is g c =
    let looking = c.args.self.now in
    let table = c.loop-number.table in
    let hs = table.holders.items in
    let graph = graph_of looking in
    let wanted = wanted_at c.args.sought.now.wanted in
    let name = name_at looking.types.now c.args.sought.now.name.now in
    let past : length looking.graph.now.facts ≤ c.loop-number.number = omega (arith, c.length-number-end.ensures.count) in
    let all = take_past looking.graph.now.facts c.loop-number.number past in
    table_as table.paths.items hs table.records.items (ways_after (holds hs) (own_by hs) (facts_at looking.types.now (take c.loop-number.number looking.graph.now.facts))) (ways graph wanted name) c.loop-number.invariant.is (λ class. ap (λ fs. ways_after (holds hs) (own_by hs) (facts_at looking.types.now fs) class) all ∙ ways_are graph wanted name hs (λ k. ap (λ h. holds h k) c.loop-number.invariant.holders ∙ holders_are graph wanted name k) class)
