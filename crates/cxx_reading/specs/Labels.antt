-- What stands at the top of a tree that covers some tokens.
use Rattle.std.specs.Prelude.{ℕ, List, None}
use Rattle.cxx_reading.specs.Reads.{Ahead, place_ahead, count_ahead}
use Rattle.cxx_reading.specs.Trees.{Label}

-- the label of what was read from one place up to another
abbrev pub label_from : ℕ → List ℕ → Ahead → Ahead → Label
label_from production spelling from to = record {
  production = production;
  spelling = spelling;
  first = count_ahead from;
  last = count_ahead to;
  start = place_ahead from;
  place = place_ahead from;
  path = None;
  operand = None;
  of = None;
  target = None;
  call = None;
}
