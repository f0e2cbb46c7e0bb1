-- The bodies of a class, read one after another.
use Rattle.std.specs.Prelude.{ℕ, zero, suc, ◌≡◌, ◌<◌, ◌≤◌, ◌+◌, length, drop, List, [], ◌∷◌, ◌++◌, Ok, Err, refl}
use Rattle.std.proofs.Common.{add-one, ap, arith, slice_index_or, subst, sym, ◌∙◌}
use Rattle.std.proofs.lemmas.List.{drop_all}
use Rattle.std.proofs.lemmas.List.Elements.{All-drop}
use Rattle.cxx_cursor.specs.Asking.{IsTreeKnown}
use Rattle.cxx_cursor.specs.Looping.{IsTurning}
use Rattle.cxx_cursor.specs.Reading.{IsRead}
use Rattle.cxx_cursor.specs.Views.{AreTreesHeld, trees_held}
use Rattle.cxx_cursor.proofs.Kept.{later_trans, trees_append, trees_below_append, trees_kept, trees_later}
use Rattle.cxx_language.specs.Later.{each_read, waiting_read}
use Rattle.cxx_later.specs.declared.waiting.Waiting as code
use Rattle.cxx_later.specs.Views.{AreWaitingHeld, IsWaitingKnown, waiting_held, waiting_of}
use Rattle.cxx_later.proofs.Kept.{all_waiting_kept, all_waiting_later}
use Rattle.cxx_model.specs.declared.stop.Stop.{Stop}
use Rattle.cxx_model.specs.declared.stop.Stop.TheVariants as stop
use Rattle.cxx_model.specs.declared.types.TreeId.{TreeId}
use Rattle.cxx_model.specs.Stops.{Answer, Stops}
use Rattle.cxx_reading.specs.Reads.{Ahead, Got, Reads, then_read}
use Rattle.cxx_reading.specs.State.{CxxState}
use Rattle.cxx_reading.specs.Trees.{CxxTree}
use Rattle.cxx_tree.specs.Held.{Held, meaning, tree, trees}

-- the next one, and those behind it
each_left : (held : Held) (all : List code.Waiting) (i : ℕ) (d : code.Waiting) (so_far : List CxxTree) (s : CxxState) (a : Ahead) → i < length all
    → each_read (waiting_held held (drop i all)) so_far s a ≡ then_read (waiting_read (waiting_of held (slice_index_or all i d)) s a) (λ one. each_read (waiting_held held (drop (suc i) all)) (so_far ++ one ∷ []))
unfolding each_read
each_left held [] i d so_far s a within = absurd (omega arith)
each_left held (one ∷ others) zero d so_far s a within = refl
each_left held (one ∷ others) (suc i) d so_far s a within = each_left held others i d so_far s a (omega arith)

-- what is left of a loop where one more was read
module _ (first at new : Held) (all : List code.Waiting) (i : ℕ) (d : code.Waiting) (so_far : List TreeId) (ahead end : Ahead) (whole : Answer (Got CxxState (List CxxTree))) (within : i < length all) (held : AreWaitingHeld first all) (turning : IsTurning (each_read (waiting_held at (drop i all)) (trees_held at so_far) (meaning at) ahead) whole (AreTreesHeld at so_far) first at) where
  abbrev pub left : List code.Waiting
  left = drop (i + 1) all

  abbrev pub next : List CxxTree → CxxTree → Reads CxxState (List CxxTree)
  next before one = each_read (waiting_held at left) (before ++ one ∷ [])

  begins : then_read (waiting_read (waiting_of at (slice_index_or all i d)) (meaning at) ahead) (next (trees_held at so_far)) ≡ whole
  begins =
      ap (λ n. then_read (waiting_read (waiting_of at (slice_index_or all i d)) (meaning at) ahead) (λ one. each_read (waiting_held at (drop n all)) (trees_held at so_far ++ one ∷ []))) (add-one i)
      ∙ sym (each_left at all i d (trees_held at so_far) (meaning at) ahead within) ∙ turning.is

  pub one_more : (number : TreeId) (numbers : List TreeId) → numbers ≡ so_far ++ number ∷ [] → IsRead tree IsTreeKnown at new end (Ok number) (waiting_read (waiting_of at (slice_index_or all i d)) (meaning at) ahead)
      → IsTurning (each_read (waiting_held new left) (trees_held new numbers) (meaning new) end) whole (AreTreesHeld new numbers) first new
  one_more number numbers same read =
      let known : AreWaitingHeld at all = all_waiting_later first at all turning.later held in
      let kept : waiting_held new left ≡ waiting_held at left = all_waiting_kept at new left read.later (All-drop (IsWaitingKnown at) (i + 1) all known) in
      let grown : trees_held new numbers ≡ trees_held at so_far ++ tree new number ∷ [] =
      ap (trees_held new) same ∙ trees_append (trees new) so_far (number ∷ []) ∙ ap (λ (ts : List CxxTree). ts ++ tree new number ∷ []) (trees_kept at new so_far read.later turning.fits) in
      record {
        is =
            ap (λ ws. each_read ws (trees_held new numbers) (meaning new) end) kept
            ∙ ap (λ (ts : List CxxTree). each_read (waiting_held at left) ts (meaning new) end) grown
            ∙ sym (ap (λ (r : Answer (Got CxxState CxxTree)). then_read r (next (trees_held at so_far))) read.is.0)
            ∙ begins;
        fits = subst (AreTreesHeld new) (sym same) (trees_below_append (length (trees new)) so_far (number ∷ []) (trees_later at new so_far read.later turning.fits) (read.is.1, tt));
        later = later_trans first at new turning.later read.later;
      }

  -- where that stops
  stops : (why : Stop) → Stops why (waiting_read (waiting_of at (slice_index_or all i d)) (meaning at) ahead) → Stops why whole
  stops stop.OutOfMemory is = tt
  stops (stop.Fault f) is = sym begins ∙ ap (λ (r : Answer (Got CxxState CxxTree)). then_read r (next (trees_held at so_far))) is
  stops (stop.Limit k) is = sym begins ∙ ap (λ (r : Answer (Got CxxState CxxTree)). then_read r (next (trees_held at so_far))) is

  pub one_stops : (why : Stop) → IsRead tree IsTreeKnown at new end (Err why) (waiting_read (waiting_of at (slice_index_or all i d)) (meaning at) ahead) → IsRead trees_held AreTreesHeld first new end (Err why) whole
  one_stops why read = record { is = stops why read.is; later = later_trans first at new turning.later read.later }

-- where none is left
pub none_left : (first at : Held) (all : List code.Waiting) (i : ℕ) (so_far : List TreeId) (ahead : Ahead) (whole : Answer (Got CxxState (List CxxTree))) → length all ≤ i
    → IsTurning (each_read (waiting_held at (drop i all)) (trees_held at so_far) (meaning at) ahead) whole (AreTreesHeld at so_far) first at → IsRead trees_held AreTreesHeld first at ahead (Ok so_far) whole
unfolding each_read
none_left first at all i so_far ahead whole past turning = record {
  is = (sym turning.is ∙ ap (λ (xs : List code.Waiting). each_read (waiting_held at xs) (trees_held at so_far) (meaning at) ahead) (drop_all i all past), turning.fits);
  later = turning.later;
}
