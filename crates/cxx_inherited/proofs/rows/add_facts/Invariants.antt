use Rattle.std.proofs.Common.{◌≡◌, drop}
use Rattle.cxx_meaning.specs.Lookups.Gathered.{with_facts}
use Rattle.cxx_inherited.proofs.rows.add_facts.Given as goal

abbrev pub invariant-loop-fact : goal.invariant-loop-fact
invariant-loop-fact l = with_facts l.facts.items (drop l.fact-index l.more) ≡ with_facts l.fn.facts.items l.more
