-- What reads and writes do to told bytes over a whole loop.
use Rattle.std.proofs.Common.{◌≡◌, ℕ, ◌+◌, ◌-◌, ◌<◌, ◌≤◌, List, [], ◌++◌, Some, None, sym, ap, ◌∙◌, subst, length, take, drop, arith, min, length-append, length-drop}
use Rattle.std.proofs.KnownBytes.{Appends-trans, Consumes-trans}
use Rattle.std.proofs.Math.Seq.{take-add, take-append_seam}
use Rattle.std.proofs.lemmas.List.{length-take-le, take_rest, take-append-drop, drop-drop, drop_all}
use Rattle.std.specs.Io.KnownBytes.{Appends, Consumes}
use Rattle.std.specs.Prelude.{slice_range, Option}
use Rattle.cxx_edge.specs.Sink.{AppendsPart}
use Rattle.cxx_edge.specs.Source.{GivesMore, IsLonger}

-- one more read
pub gives_more : (a b c : Option (List ℕ)) (bytes buf : List ℕ) (n limit : ℕ)
    → Consumes a b bytes → Consumes b c (take n buf) → n ≤ length buf → limit < length bytes + n → GivesMore a c limit
gives_more a b c bytes buf n limit p q h k =
    let len = length-take-le n buf h in
    (bytes ++ take n buf, Consumes-trans a b c bytes (take n buf) p q, omega (arith, length-append bytes (take n buf), len))

-- a piece of what stands from `at` on follows what stands before
pub front_and_piece : (text : List ℕ) (at n : ℕ) → take at text ++ take n (slice_range text at (length text)) ≡ take (at + n) text
front_and_piece text at n = ap (λ l. take at text ++ take n l) (take_rest text at) ∙ sym (take-add at n text)

-- one more write
pub appends_more : (a b c : Option (List ℕ)) (text : List ℕ) (at n : ℕ)
    → Appends a b (take at text) → Appends b c (take n (slice_range text at (length text))) → Appends a c (take (at + n) text)
appends_more a b c text at n p q =
    subst (Appends a c) (front_and_piece text at n) (Appends-trans a b c _ _ p q)

-- one more write that failed
pub appends_part_more : (a b c : Option (List ℕ)) (text : List ℕ) (at : ℕ)
    → Appends a b (take at text) → AppendsPart b c (slice_range text at (length text)) → AppendsPart a c text
appends_part_more a b c text at p q = (at + q.0, appends_more a b c text at q.0 p q.1)

-- the bytes that a read copied to the front of a buffer, and those after them
copied_and_rest : (unread new tail : List ℕ) (n : ℕ) → new ≡ take n unread → n ≤ length unread → unread ≡ take n (new ++ tail) ++ drop n unread
copied_and_rest unread new tail n e h =
    let len : length new ≡ n = ap length e ∙ length-take-le n unread h in
    let front : take n (new ++ tail) ≡ take n unread = ap (λ k. take k (new ++ tail)) (sym len) ∙ take-append_seam new tail ∙ e in
    sym (ap (λ l. l ++ drop n unread) front ∙ take-append-drop n unread)

-- a read of a source in memory
pub read_from_memory : (items buf new : List ℕ) (at n piece : ℕ) → 0 < piece → at ≤ length items
    → n ≡ min piece (min (length buf) (length items - at)) → new ≡ take (at + n - at) (drop at items)
    → (drop at items ≡ take n (new ++ drop n buf) ++ drop (at + n) items) × (n ≡ 0 → 0 < length (new ++ drop n buf) → drop (at + n) items ≡ [])
read_from_memory items buf new at n piece some within count copied =
    let rest : length (drop at items) ≡ length items - at = length-drop at items in
    let copied_n : new ≡ take n (drop at items) = copied ∙ ap (λ k. take k (drop at items)) (omega arith) in
    let len : length new ≡ n = ap length copied_n ∙ length-take-le n (drop at items) (omega arith) in
    let room : length (new ++ drop n buf) ≡ length buf = omega (arith, length-append new (drop n buf), length-drop n buf) in (
      copied_and_rest (drop at items) new (drop n buf) n copied_n (omega arith) ∙ ap (λ l. take n (new ++ drop n buf) ++ l) (drop-drop n at items),
      λ none more. drop_all (at + n) items (omega arith),
    )

-- what was taken is no longer than what was left
pub longer : (a b : Option (List ℕ)) (limit : ℕ) → GivesMore a b limit → IsLonger a limit
longer None b limit more = tt
longer (Some x) None limit more = absurd more.1
longer (Some x) (Some y) limit more = omega (arith, ap length more.1, length-append more.0 y, more.2)
