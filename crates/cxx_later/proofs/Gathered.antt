-- Trees of default arguments that are kept, made one after another.
use Rattle.std.proofs.Common.{◌≡◌, ℕ, zero, suc, ◌+◌, ◌<◌, ◌≤◌, Bool, true, false, cond, List, [], ◌∷◌, ◌++◌, Option, Ok, Err, length, drop, get_or, refl, ap, sym, ◌∙◌, append-nil, append_assoc, arith}
use Rattle.std.proofs.lemmas.List.{at_drop_more, drop_all}
use Rattle.cxx_cursor.specs.Views.{AreTreesHeld, trees_held}
use Rattle.cxx_cursor.proofs.Kept.{later_refl, later_trans, trees_append, trees_below_append, trees_kept, trees_later}
use Rattle.cxx_later.specs.declared.defaults.Span.{Span}
use Rattle.cxx_later.specs.Defaults.{is_passed, kept_tree, later_default, later_tree, later_trees, number_tree, own_number, span_of}
use Rattle.cxx_later.specs.Kept.{AreAdded, GathersLater}
use Rattle.cxx_model.specs.declared.stop.Stop.{Stop}
use Rattle.cxx_model.specs.declared.tree.Node.{Node}
use Rattle.cxx_model.specs.declared.types.FactId.{FactId}
use Rattle.cxx_model.specs.declared.types.TreeId.{TreeId}
use Rattle.cxx_model.specs.Facts.Declarations.{type_of_option}
use Rattle.cxx_model.specs.Types.Trees.{CxxType}
use Rattle.cxx_reading.specs.State.{CxxOffered}
use Rattle.cxx_reading.specs.Trees.{CxxTree, Label}
use Rattle.cxx_tree.specs.declared.kept.Offer.{Offer}
use Rattle.cxx_tree.specs.Arena.{label_at, number_of_option, tree_over}
use Rattle.cxx_tree.specs.Held.{AreOffersBelow, Held, meaning, offer_at, offers_at, tree, trees}
use Rattle.cxx_tree.specs.Later.{Later}

pub tree_kept : (old new : Held) (n : TreeId) → Later old new → n.0 < length (trees old) → tree new n ≡ tree old n
tree_kept old new n later known = later.trees.same n.0 known

pub tree_later : (old new : Held) (n : TreeId) → Later old new → n.0 < length (trees old) → n.0 < length (trees new)
tree_later old new n later known = (let more : length (trees old) ≤ length (trees new) = later.trees.grows in omega arith)

-- ---- one of them

pub one_added : (old new : Held) (before : List TreeId) (n : TreeId) (made : CxxTree) → Later old new → n.0 < length (trees new) → tree new n ≡ made → AreTreesHeld old before → AreAdded old new before (before ++ n ∷ []) (made ∷ [])
one_added old new before n made later known is held = record {
  held = trees_below_append (length (trees new)) before (n ∷ []) (trees_later old new before later held) (known, tt);
  is = trees_append (trees new) before (n ∷ []) ∙ ap (λ (ts : List CxxTree). ts ++ tree new n ∷ []) (trees_kept old new before later held) ∙ ap (λ t. trees_held old before ++ t ∷ []) is;
}

-- the tree of one, by the node of what was passed over
pub later_made : (held : Held) (node : Node) (one : Offer) (list number : Option ℕ) (target : Option FactId) (span : Span) → tree held one.tree ≡ tree_over held.types (trees held) node → ((types : List CxxType) → span ≡ span_of (label_at types node)) → number_of_option target ≡ own_number list number one.scope.0
    → kept_tree later_default span (type_of_option held.types node.of) (number_of_option target) (tree held one.tree ∷ number_tree one.scope.0 span ∷ number_tree one.index span ∷ []) ≡ later_tree list number (offer_at (trees held) one)
later_made held node one list number target span is spans told =
    let passed : CxxTree = tree held one.tree in
    let own : Option ℕ = own_number list number one.scope.0 in
    let label : passed.label ≡ label_at held.types node = ap (λ (t : CxxTree). t.label) is in
    ap (λ (o : Option ℕ). kept_tree later_default span (type_of_option held.types node.of) o (passed ∷ number_tree one.scope.0 span ∷ number_tree one.index span ∷ [])) told
    ∙ ap (λ (s : Span). kept_tree later_default s (type_of_option held.types node.of) own (passed ∷ number_tree one.scope.0 s ∷ number_tree one.index s ∷ [])) (spans held.types)
    ∙ ap (λ (l : Label). kept_tree later_default (span_of l) l.of own (passed ∷ number_tree one.scope.0 (span_of l) ∷ number_tree one.index (span_of l) ∷ [])) (sym label)

pub none_added : (held : Held) (before : List TreeId) → AreTreesHeld held before → AreAdded held held before before []
none_added held before known = record { held = known; is = sym (append-nil (trees_held held before)) }

-- ---- one after another

-- Those before an index were looked at, from the first list of trees on.
pub record SoFarKept (old new : Held) (before now : List TreeId) (left all : List CxxTree) : Type 0 where
  pub later : Later old new
  pub same : meaning new ≡ meaning old
  pub held : AreTreesHeld old before → AreTreesHeld new now
  pub is : AreTreesHeld old before → trees_held new now ++ left ≡ trees_held old before ++ all

pub none_kept : (old : Held) (before : List TreeId) (all : List CxxTree) → SoFarKept old old before before all all
none_kept old before all = record { later = later_refl old; same = refl; held = λ known. known; is = λ known. refl }

pub offer_there : (count i : ℕ) (all : List Offer) (none : Offer) → AreOffersBelow count all → i < length all → (get_or all i none).tree.0 < count
offer_there count i [] none below within = absurd (omega arith)
offer_there count zero (one ∷ all) none below within = below.0
offer_there count (suc i) (one ∷ all) none below within = offer_there count i all none below.1 (omega arith)

module _ (list number : Option ℕ) where
  first_of : (one : CxxOffered) (others : List CxxOffered) → later_trees list number (one ∷ others) ≡ later_trees list number (one ∷ []) ++ later_trees list number others
  first_of one others = by (is_passed one)
    where
      by : (t : Bool) → cond t (later_tree list number one ∷ later_trees list number others) (later_trees list number others) ≡ cond t (later_tree list number one ∷ []) [] ++ later_trees list number others
      by true = refl
      by false = refl

  cut_at : (all : List CxxTree) (offers : List Offer) (i : ℕ) (none : Offer) → i < length offers → later_trees list number (offers_at all (drop i offers)) ≡ later_trees list number (offer_at all (get_or offers i none) ∷ []) ++ later_trees list number (offers_at all (drop (i + 1) offers))
  cut_at all offers i none within = at_drop_more (λ (os : List Offer). later_trees list number (offers_at all os)) offers i none within ∙ first_of (offer_at all (get_or offers i none)) (offers_at all (drop (i + 1) offers))

  -- one more was looked at
  pub one_more : (old mid new : Held) (before now after : List TreeId) (offers : List Offer) (i : ℕ) (none : Offer) (all : List CxxTree)
      → i < length offers → AreOffersBelow (length (trees old)) offers
      → SoFarKept old mid before now (later_trees list number (offers_at (trees old) (drop i offers))) all
      → GathersLater mid new now after (Ok tt) (later_trees list number (offer_at (trees mid) (get_or offers i none) ∷ []))
      → SoFarKept old new before after (later_trees list number (offers_at (trees old) (drop (i + 1) offers))) all
  one_more old mid new before now after offers i none all within below so gathers = record {
    later = later_trans old mid new so.later gathers.later;
    same = gathers.same ∙ so.same;
    held = λ known. (added known).held;
    is = λ known.
        ap (λ (ts : List CxxTree). ts ++ rest) (added known).is
        ∙ append_assoc (trees_held mid now) (later_trees list number (offer_at (trees mid) one ∷ [])) rest
        ∙ ap (λ (t : CxxTree). trees_held mid now ++ (later_trees list number (record { scope = one.scope.0; index = one.index; tree = t } ∷ []) ++ rest)) (tree_kept old mid one.tree so.later there)
        ∙ ap (λ (ts : List CxxTree). trees_held mid now ++ ts) (sym (cut_at (trees old) offers i none within))
        ∙ so.is known;
  }
    where
      one : Offer
      one = get_or offers i none

      rest : List CxxTree
      rest = later_trees list number (offers_at (trees old) (drop (i + 1) offers))

      there : one.tree.0 < length (trees old)
      there = offer_there (length (trees old)) i offers none below within

      added : AreTreesHeld old before → AreAdded mid new now after (later_trees list number (offer_at (trees mid) one ∷ []))
      added known = gathers.made (so.held known)

  -- past the last one there are no more
  pub all_kept : (old new : Held) (before now : List TreeId) (offers : List Offer) (i : ℕ) → length offers ≤ i
      → SoFarKept old new before now (later_trees list number (offers_at (trees old) (drop i offers))) (later_trees list number (offers_at (trees old) offers))
      → GathersLater old new before now (Ok tt) (later_trees list number (offers_at (trees old) offers))
  all_kept old new before now offers i past so = record {
    later = so.later;
    same = so.same;
    made = λ known. record {
      held = so.held known;
      is =
          sym (append-nil (trees_held new now))
          ∙ ap (λ (os : List Offer). trees_held new now ++ later_trees list number (offers_at (trees old) os)) (sym (drop_all i offers past))
          ∙ so.is known;
    };
  }

  -- one of them failed
  pub one_failed : (old mid new : Held) (before now after : List TreeId) (why : Stop) (left all added : List CxxTree)
      → SoFarKept old mid before now left all
      → GathersLater mid new now after (Err why) added
      → GathersLater old new before after (Err why) all
  one_failed old mid new before now after why left all added so gathers = record {
    later = later_trans old mid new so.later gathers.later;
    same = gathers.same ∙ so.same;
    made = λ known. gathers.made (so.held known);
  }
