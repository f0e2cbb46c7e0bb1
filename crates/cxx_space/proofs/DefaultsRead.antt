-- The default arguments of a class, read one after another.
use Rattle.std.specs.Prelude.{ℕ, zero, suc, ◌≡◌, ◌<◌, ◌≤◌, ◌+◌, length, drop, List, [], ◌∷◌, Ok, Err, refl}
use Rattle.std.proofs.Common.{add-one, ap, arith, slice_index_or, sym, ◌∙◌}
use Rattle.std.proofs.lemmas.List.{drop_all}
use Rattle.std.proofs.lemmas.List.Elements.{All-drop}
use Rattle.cxx_cursor.specs.Asking.{AnyKnown, itself}
use Rattle.cxx_cursor.specs.Looping.{IsTurning}
use Rattle.cxx_cursor.specs.Reading.{IsRead}
use Rattle.cxx_cursor.proofs.Kept.{later_trans}
use Rattle.cxx_language.specs.Later.{defaults_read, later_read}
use Rattle.cxx_later.specs.declared.found.LaterDefault as code
use Rattle.cxx_later.specs.FoundDefaults.{AreDefaultsHeld, IsDefaultKnown, default_of, defaults_held}
use Rattle.cxx_later.proofs.KeptDefaults.{all_defaults_kept, all_defaults_later}
use Rattle.cxx_model.specs.declared.stop.Stop.{Stop}
use Rattle.cxx_model.specs.declared.stop.Stop.TheVariants as stop
use Rattle.cxx_model.specs.Stops.{Answer, Stops}
use Rattle.cxx_reading.specs.Reads.{Ahead, Got, Reads, then_read}
use Rattle.cxx_reading.specs.State.{CxxState}
use Rattle.cxx_tree.specs.Held.{Held, meaning}

-- the next one, and those behind it
each_left : (held : Held) (all : List code.LaterDefault) (i : ℕ) (d : code.LaterDefault) (s : CxxState) (a : Ahead) → i < length all
    → defaults_read (defaults_held held (drop i all)) s a ≡ then_read (later_read (default_of held (slice_index_or all i d)) s a) (λ was_read. defaults_read (defaults_held held (drop (suc i) all)))
unfolding defaults_read
each_left held [] i d s a within = absurd (omega arith)
each_left held (one ∷ others) zero d s a within = refl
each_left held (one ∷ others) (suc i) d s a within = each_left held others i d s a (omega arith)

-- what is left of a loop where one more was read
module _ (first at new : Held) (all : List code.LaterDefault) (i : ℕ) (d : code.LaterDefault) (ahead end : Ahead) (whole : Answer (Got CxxState (Unit {0}))) (within : i < length all) (held : AreDefaultsHeld first all) (turning : IsTurning (defaults_read (defaults_held at (drop i all)) (meaning at) ahead) whole (Unit {0}) first at) where
  abbrev pub left : List code.LaterDefault
  left = drop (i + 1) all

  abbrev pub next : Unit {0} → Reads CxxState (Unit {0})
  next was_read = defaults_read (defaults_held at left)

  begins : then_read (later_read (default_of at (slice_index_or all i d)) (meaning at) ahead) next ≡ whole
  begins =
      ap (λ n. then_read (later_read (default_of at (slice_index_or all i d)) (meaning at) ahead) (λ was_read. defaults_read (defaults_held at (drop n all)))) (add-one i)
      ∙ sym (each_left at all i d (meaning at) ahead within) ∙ turning.is

  pub one_more : (was_read : Unit {0}) → IsRead itself AnyKnown at new end (Ok was_read) (later_read (default_of at (slice_index_or all i d)) (meaning at) ahead)
      → IsTurning (defaults_read (defaults_held new left) (meaning new) end) whole (Unit {0}) first new
  one_more was_read read =
      let known : AreDefaultsHeld at all = all_defaults_later first at all turning.later held in
      let kept : defaults_held new left ≡ defaults_held at left = all_defaults_kept at new left read.later (All-drop (IsDefaultKnown at) (i + 1) all known) in
      record {
        is =
            ap (λ ds. defaults_read ds (meaning new) end) kept
            ∙ sym (ap (λ (r : Answer (Got CxxState (Unit {0}))). then_read r next) read.is.0)
            ∙ begins;
        fits = tt;
        later = later_trans first at new turning.later read.later;
      }

  -- where that stops
  stops : (why : Stop) → Stops why (later_read (default_of at (slice_index_or all i d)) (meaning at) ahead) → Stops why whole
  stops stop.OutOfMemory is = tt
  stops (stop.Fault f) is = sym begins ∙ ap (λ (r : Answer (Got CxxState (Unit {0}))). then_read r next) is
  stops (stop.Limit k) is = sym begins ∙ ap (λ (r : Answer (Got CxxState (Unit {0}))). then_read r next) is

  pub one_stops : (why : Stop) → IsRead itself AnyKnown at new end (Err why) (later_read (default_of at (slice_index_or all i d)) (meaning at) ahead) → IsRead itself AnyKnown first new end (Err why) whole
  one_stops why read = record { is = stops why read.is; later = later_trans first at new turning.later read.later }

-- where none is left
pub none_left : (first at : Held) (all : List code.LaterDefault) (i : ℕ) (ahead : Ahead) (whole : Answer (Got CxxState (Unit {0}))) → length all ≤ i
    → IsTurning (defaults_read (defaults_held at (drop i all)) (meaning at) ahead) whole (Unit {0}) first at → IsRead itself AnyKnown first at ahead (Ok (tt {0})) whole
unfolding defaults_read
none_left first at all i ahead whole past turning = record {
  is = (sym turning.is ∙ ap (λ (xs : List code.LaterDefault). defaults_read (defaults_held at xs) (meaning at) ahead) (drop_all i all past), tt);
  later = turning.later;
}
