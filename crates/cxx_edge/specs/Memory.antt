-- What a clause sees of a source and a sink in memory.
use Rattle.std.specs.Prelude.{ℕ, ◌-◌, ◌==◌, ◌||◌, Bool, List, [], length, min}
use Rattle.std.specs.List.{list_any}
use Rattle.cxx_edge.specs.Count.{one_more}

pub record SourceState : Type 0 where
  pub unread : List ℕ
  pub piece : ℕ
  pub failing : List ℕ
  pub calls : ℕ
  pub faults : ℕ

pub record SinkState : Type 0 where
  pub written : List ℕ
  pub room : ℕ
  pub piece : ℕ
  pub failing : List ℕ
  pub calls : ℕ
  pub faults : ℕ

-- the call of this number is one of those that fail
abbrev pub is_listed : List ℕ → ℕ → Bool
is_listed failing call = list_any (λ number. number == call) failing

-- before any call
abbrev pub fresh_source : List ℕ → ℕ → List ℕ → SourceState
fresh_source bytes piece failing = record { unread = bytes; piece = piece; failing = failing; calls = 0; faults = 0 }

abbrev pub fresh_sink : ℕ → ℕ → List ℕ → SinkState
fresh_sink room piece failing = record { written = []; room = room; piece = piece; failing = failing; calls = 0; faults = 0 }

-- the next read fails exactly where its number is listed
abbrev pub next_read_fails : SourceState → Bool
next_read_fails s = is_listed s.failing (one_more s.calls)

-- the next write fails exactly where its number is listed or no room is left
abbrev pub next_write_fails : SinkState → Bool
next_write_fails s = is_listed s.failing (one_more s.calls) || (s.room == length s.written)

-- how many bytes the next read gives to so much space, and the next write takes of a piece of this length
abbrev pub next_read_count : SourceState → ℕ → ℕ
next_read_count s space = min s.piece (min space (length s.unread))

abbrev pub next_write_count : SinkState → ℕ → ℕ
next_write_count s len = min s.piece (min len (s.room - length s.written))
