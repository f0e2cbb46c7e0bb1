-- Hashing by a key that is made of some bytes.
use Rattle.std.specs.Prelude.{List, ℕ, [], ◌∷◌, ◌++◌, fold}
use Rattle.std.specs.Hash.{u64}
use Rattle.std.specs.Hash.DefaultHasher as sip
use Rattle.std.specs.declared.hash.DefaultHasher.{DefaultHasher}
use Rattle.cxx_hash.specs.declared.Key.{Key}

-- the two halves of a key: the hash of the bytes, and the hash of the bytes with a zero behind them
abbrev pub first_half : List ℕ → ℕ
first_half bytes = sip.finish (sip.write sip.initial bytes)

abbrev pub second_half : List ℕ → ℕ
second_half bytes = sip.finish (sip.write (sip.write sip.initial bytes) (0 ∷ []))

-- the hasher that has read a key of these bytes
abbrev pub keyed_by : List ℕ → DefaultHasher
keyed_by bytes = fold sip.write sip.initial (u64 (first_half bytes) ++ u64 (second_half bytes))

-- the hasher with which each hash by a key begins
abbrev pub start_of : Key → DefaultHasher
start_of key = key.start
