-- What a state answers of what it keeps, and what becomes of it when it keeps more.
use Rattle.std.specs.Prelude.{ℕ, Bool, ◌≡◌, ◌<◌, ◌+◌, List, [], ◌∷◌, ◌++◌, length, Option, Some, refl}
use Rattle.std.specs.List.{slice_get}
use Rattle.std.proofs.Common.{ap, sym, subst, ◌∙◌, arith}
use Rattle.cxx_model.specs.declared.tree.Node.{Node}
use Rattle.cxx_model.specs.declared.place.Place.{Place}
use Rattle.cxx_model.specs.declared.types.FactId.{FactId}
use Rattle.cxx_model.specs.declared.types.ScopeId.{ScopeId}
use Rattle.cxx_model.specs.declared.types.TreeId.{TreeId}
use Rattle.cxx_model.specs.declared.types.TypeId.{TypeId}
use Rattle.cxx_model.specs.Facts.Declarations.{type_of_option}
use Rattle.cxx_model.specs.Types.Trees.{CxxType}
use Rattle.cxx_reading.specs.Declaring.{at_scope, with_result, with_tested, within_step}
use Rattle.cxx_reading.specs.Initializers.{with_call}
use Rattle.cxx_reading.specs.State.{CxxCall, CxxGiven, CxxOffered, CxxPart, CxxState, CxxUse}
use Rattle.cxx_reading.specs.Trees.{CxxTree}
use Rattle.cxx_reading.specs.Units.{with_part}
use Rattle.cxx_tree.specs.declared.kept.Binding.{Binding}
use Rattle.cxx_tree.specs.declared.kept.Decided.{Decided}
use Rattle.cxx_tree.specs.declared.kept.Fallback.{Fallback}
use Rattle.cxx_tree.specs.declared.kept.Offer.{Offer}
use Rattle.cxx_tree.specs.declared.kept.Piece.{Piece}
use Rattle.cxx_tree.specs.Arena.{AreTreesBelow, IsNodeBelow, tree_in, tree_over}
use Rattle.cxx_tree.specs.Defaults.{without_offers, with_given, with_offer, within_default}
use Rattle.cxx_tree.specs.Uses.{with_use}
use Rattle.cxx_tree.specs.Held.{AreCallsBelow, AreFallbacksBelow, AreOffersBelow, ArePiecesBelow, Held, IsSound, call_at, calls_at, fact_of_option, fallback_at, fallbacks_at, meaning, offer_at, offers_at, piece_at, pieces_at, tree, trees, use_at, uses_at}
use Rattle.cxx_tree.proofs.Arenas.{children_below, length_trees, node_below, tree_after}

-- ---- nodes

pub node_within : (seen held : Held) (n : ℕ) → held ≡ seen → n < length (trees seen) → n < length held.nodes
node_within seen held n same within = subst (λ k. n < k) (length_trees held.types held.nodes) (subst (λ (h : Held). n < length (trees h)) (sym same) within)

pub node_is_below : (seen held : Held) (n : ℕ) (x : Node) → held ≡ seen → IsSound held → slice_get held.nodes n ≡ Some x → IsNodeBelow (length seen.types) x
node_is_below seen held n x same sound at = subst (λ (h : Held). IsNodeBelow (length h.types) x) same (node_below (length held.types) held.nodes n x sound.nodes at)

pub node_children : (held : Held) (n : ℕ) (x : Node) → IsSound held → slice_get held.nodes n ≡ Some x → AreTreesBelow n x.children
node_children held n x sound at = (let e : 0 + n ≡ n = omega arith in subst (λ k. AreTreesBelow k x.children) e (children_below 0 held.nodes n x sound.children at))

pub node_tree : (seen held : Held) (n : TreeId) (x : Node) → held ≡ seen → IsSound held → slice_get held.nodes n.0 ≡ Some x → tree seen n ≡ tree_over seen.types (trees seen) x
node_tree seen held n x same sound at = subst (λ (h : Held). tree h n ≡ tree_over h.types (trees h) x) same (let e : 0 + n.0 ≡ n.0 = omega arith in ap (tree_in (trees held)) (sym e) ∙ tree_after held.types [] held.nodes n.0 x sound.children at)

pub pieces_below : (seen held : Held) (pieces : List Piece) → held ≡ seen → IsSound held → pieces ≡ held.pieces → ArePiecesBelow (length (trees seen)) pieces
pieces_below seen held pieces same sound is = subst (λ (h : Held). ArePiecesBelow (length (trees h)) pieces) same (subst (λ ps. ArePiecesBelow (length (trees held)) ps) (sym is) (subst (λ n. ArePiecesBelow n held.pieces) (sym (length_trees held.types held.nodes)) sound.pieces))

pub trees_counted : (seen held : Held) → held ≡ seen → length (trees seen) ≡ length seen.nodes
trees_counted seen held same = length_trees seen.types seen.nodes

-- ---- calls

calls_more : (count : ℕ) (calls : List Decided) (call : Decided) → AreCallsBelow count calls → AreCallsBelow count (call ∷ []) → AreCallsBelow count (calls ++ call ∷ [])
calls_more count [] call all ok = ok
calls_more count (one ∷ others) call all ok = (all.0, calls_more count others call all.1 ok)

calls_at_more : (types : List CxxType) (calls : List Decided) (call : Decided) → calls_at types (calls ++ call ∷ []) ≡ calls_at types calls ++ call_at types call ∷ []
calls_at_more types [] call = refl
calls_at_more types (one ∷ others) call = ap (λ cs. call_at types one ∷ cs) (calls_at_more types others call)

length_calls : (types : List CxxType) (calls : List Decided) → length (calls_at types calls) ≡ length calls
length_calls types [] = refl
length_calls types (one ∷ others) = let e : length (calls_at types others) ≡ length others = length_calls types others in omega arith

pub sound_call : (seen held : Held) (new : List Decided) (call : Decided) → held ≡ seen → IsSound held → AreCallsBelow (length seen.types) (call ∷ []) → new ≡ held.calls ++ call ∷ [] → IsSound (record held { calls = new })
sound_call seen held new call same sound ok is = record {
  fitted = sound.fitted;
  nodes = sound.nodes;
  children = sound.children;
  fallbacks = sound.fallbacks;
  offers = sound.offers;
  pieces = sound.pieces;
  calls = subst (λ cs. AreCallsBelow (length held.types) cs) (sym is) (calls_more (length held.types) held.calls call sound.calls (subst (λ (h : Held). AreCallsBelow (length h.types) (call ∷ [])) (sym same) ok));
  scope = sound.scope;
  result = sound.result;
}

pub call_number : (seen held : Held) (count : ℕ) → held ≡ seen → count ≡ length held.calls → count ≡ length (meaning seen).calls
unfolding meaning
call_number seen held count same is = subst (λ (h : Held). count ≡ length (calls_at h.types h.calls)) same (is ∙ sym (length_calls held.types held.calls))

pub call_added : (seen held : Held) (new : List Decided) (call : Decided) → held ≡ seen → new ≡ held.calls ++ call ∷ [] → meaning (record held { calls = new }) ≡ with_call (call_at seen.types call) (meaning seen)
unfolding meaning
call_added seen held new call same is = subst (λ (h : Held). meaning (record held { calls = new }) ≡ with_call (call_at h.types call) (meaning h)) same (ap make (ap (calls_at held.types) is ∙ calls_at_more held.types held.calls call))
  where
    make : List CxxCall → CxxState
    make calls = record (meaning held) { calls = calls }

-- ---- names that are bound

uses_more : (uses : List Binding) (one : Binding) → uses_at (uses ++ one ∷ []) ≡ uses_at uses ++ use_at one ∷ []
uses_more [] one = refl
uses_more (other ∷ others) one = ap (λ us. use_at other ∷ us) (uses_more others one)

pub sound_use : (held : Held) (new : List Binding) → IsSound held → IsSound (record held { uses = new })
sound_use held new sound = record { fitted = sound.fitted; nodes = sound.nodes; children = sound.children; fallbacks = sound.fallbacks; offers = sound.offers; pieces = sound.pieces; calls = sound.calls; scope = sound.scope; result = sound.result }

pub use_added : (seen held : Held) (new : List Binding) (place : Place) (target : FactId) → held ≡ seen → new ≡ held.uses ++ record { scope = held.scope; place = place; target = target } ∷ [] → meaning (record held { uses = new }) ≡ with_use place target.0 (meaning seen)
unfolding meaning
use_added seen held new place target same is = subst (λ (h : Held). meaning (record held { uses = new }) ≡ with_use place target.0 (meaning h)) same (ap make (ap uses_at is ∙ uses_more held.uses (record { scope = held.scope; place = place; target = target })))
  where
    make : List CxxUse → CxxState
    make bound = record (meaning held) { uses = bound }

-- ---- default arguments

fallbacks_more : (count : ℕ) (fallbacks : List Fallback) (one : Fallback) → AreFallbacksBelow count fallbacks → one.tree.0 < count → AreFallbacksBelow count (fallbacks ++ one ∷ [])
fallbacks_more count [] one all ok = (ok, tt)
fallbacks_more count (other ∷ others) one all ok = (all.0, fallbacks_more count others one all.1 ok)

fallbacks_at_more : (all : List CxxTree) (fallbacks : List Fallback) (one : Fallback) → fallbacks_at all (fallbacks ++ one ∷ []) ≡ fallbacks_at all fallbacks ++ fallback_at all one ∷ []
fallbacks_at_more all [] one = refl
fallbacks_at_more all (other ∷ others) one = ap (λ fs. fallback_at all other ∷ fs) (fallbacks_at_more all others one)

pub fallbacks_below : (seen held : Held) (fallbacks : List Fallback) → held ≡ seen → IsSound held → fallbacks ≡ held.fallbacks → AreFallbacksBelow (length (trees seen)) fallbacks
fallbacks_below seen held fallbacks same sound is = subst (λ (h : Held). AreFallbacksBelow (length (trees h)) fallbacks) same (subst (λ fs. AreFallbacksBelow (length (trees held)) fs) (sym is) (subst (λ n. AreFallbacksBelow n held.fallbacks) (sym (length_trees held.types held.nodes)) sound.fallbacks))

pub sound_fallback : (seen held : Held) (new : List Fallback) (one : Fallback) → held ≡ seen → IsSound held → one.tree.0 < length (trees seen) → new ≡ held.fallbacks ++ one ∷ [] → IsSound (record held { fallbacks = new })
sound_fallback seen held new one same sound ok is = record {
  fitted = sound.fitted;
  nodes = sound.nodes;
  children = sound.children;
  fallbacks = subst (λ fs. AreFallbacksBelow (length held.nodes) fs) (sym is) (fallbacks_more (length held.nodes) held.fallbacks one sound.fallbacks (node_within seen held one.tree.0 same ok));
  offers = sound.offers;
  pieces = sound.pieces;
  calls = sound.calls;
  scope = sound.scope;
  result = sound.result;
}

pub fallback_added : (seen held : Held) (new : List Fallback) (declaration : FactId) (index : ℕ) (number : TreeId) → held ≡ seen → new ≡ held.fallbacks ++ record { declaration = declaration; index = index; tree = number } ∷ []
    → meaning (record held { fallbacks = new }) ≡ with_given declaration.0 index (tree seen number) (meaning seen)
unfolding meaning
fallback_added seen held new declaration index number same is =
    subst (λ (h : Held). meaning (record held { fallbacks = new }) ≡ with_given declaration.0 index (tree h number) (meaning h)) same
    (ap make (ap (fallbacks_at (trees held)) is ∙ fallbacks_at_more (trees held) held.fallbacks (record { declaration = declaration; index = index; tree = number })))
  where
    make : List CxxGiven → CxxState
    make given = record (meaning held) { given = given }

offers_more : (count : ℕ) (offers : List Offer) (one : Offer) → AreOffersBelow count offers → one.tree.0 < count → AreOffersBelow count (offers ++ one ∷ [])
offers_more count [] one all ok = (ok, tt)
offers_more count (other ∷ others) one all ok = (all.0, offers_more count others one all.1 ok)

offers_at_more : (all : List CxxTree) (offers : List Offer) (one : Offer) → offers_at all (offers ++ one ∷ []) ≡ offers_at all offers ++ offer_at all one ∷ []
offers_at_more all [] one = refl
offers_at_more all (other ∷ others) one = ap (λ os. offer_at all other ∷ os) (offers_at_more all others one)

pub offers_below : (seen held : Held) (offers : List Offer) → held ≡ seen → IsSound held → offers ≡ held.offers → AreOffersBelow (length (trees seen)) offers
offers_below seen held offers same sound is = subst (λ (h : Held). AreOffersBelow (length (trees h)) offers) same (subst (λ os. AreOffersBelow (length (trees held)) os) (sym is) (subst (λ n. AreOffersBelow n held.offers) (sym (length_trees held.types held.nodes)) sound.offers))

pub sound_offer : (seen held : Held) (new : List Offer) (one : Offer) → held ≡ seen → IsSound held → one.tree.0 < length (trees seen) → new ≡ held.offers ++ one ∷ [] → IsSound (record held { offers = new })
sound_offer seen held new one same sound ok is = record {
  fitted = sound.fitted;
  nodes = sound.nodes;
  children = sound.children;
  fallbacks = sound.fallbacks;
  offers = subst (λ os. AreOffersBelow (length held.nodes) os) (sym is) (offers_more (length held.nodes) held.offers one sound.offers (node_within seen held one.tree.0 same ok));
  pieces = sound.pieces;
  calls = sound.calls;
  scope = sound.scope;
  result = sound.result;
}

pub offer_added : (seen held : Held) (new : List Offer) (index : ℕ) (number : TreeId) → held ≡ seen → new ≡ held.offers ++ record { scope = held.scope; index = index; tree = number } ∷ []
    → meaning (record held { offers = new }) ≡ with_offer index (tree seen number) (meaning seen)
unfolding meaning
offer_added seen held new index number same is =
    subst (λ (h : Held). meaning (record held { offers = new }) ≡ with_offer index (tree h number) (meaning h)) same
    (ap make (ap (offers_at (trees held)) is ∙ offers_at_more (trees held) held.offers (record { scope = held.scope; index = index; tree = number })))
  where
    make : List CxxOffered → CxxState
    make offered = record (meaning held) { offered = offered }

pub default_set : (seen held : Held) (inside : Bool) → held ≡ seen → meaning (record held { in_default = inside }) ≡ within_default inside (meaning seen)
unfolding meaning
default_set seen held inside same = subst (λ (h : Held). meaning (record held { in_default = inside }) ≡ within_default inside (meaning h)) same refl

pub offers_cleared : (seen held : Held) (offers : List Offer) → held ≡ seen → offers ≡ [] → meaning (record held { offers = offers }) ≡ without_offers (meaning seen)
unfolding meaning
offers_cleared seen held offers same none = ap (λ (all : List Offer). meaning (record held { offers = all })) none ∙ subst (λ (h : Held). meaning (record held { offers = [] }) ≡ without_offers (meaning h)) same refl

-- ---- what was read by itself

pieces_more : (count : ℕ) (pieces : List Piece) (piece : Piece) → ArePiecesBelow count pieces → piece.tree.0 < count → ArePiecesBelow count (pieces ++ piece ∷ [])
pieces_more count [] piece all ok = (ok, tt)
pieces_more count (one ∷ others) piece all ok = (all.0, pieces_more count others piece all.1 ok)

pieces_at_more : (all : List CxxTree) (pieces : List Piece) (piece : Piece) → pieces_at all (pieces ++ piece ∷ []) ≡ pieces_at all pieces ++ piece_at all piece ∷ []
pieces_at_more all [] piece = refl
pieces_at_more all (one ∷ others) piece = ap (λ ps. piece_at all one ∷ ps) (pieces_at_more all others piece)

pub sound_piece : (seen held : Held) (new : List Piece) (uses : List Binding) (offers : List Offer) (piece : Piece) → held ≡ seen → IsSound held → piece.tree.0 < length (trees seen) → offers ≡ [] → new ≡ held.pieces ++ piece ∷ [] → IsSound (record held { pieces = new; uses = uses; offers = offers })
sound_piece seen held new uses offers piece same sound ok left is = record {
  fitted = sound.fitted;
  nodes = sound.nodes;
  children = sound.children;
  fallbacks = sound.fallbacks;
  offers = subst (λ os. AreOffersBelow (length held.nodes) os) (sym left) tt;
  pieces = subst (λ ps. ArePiecesBelow (length held.nodes) ps) (sym is) (pieces_more (length held.nodes) held.pieces piece sound.pieces (node_within seen held piece.tree.0 same ok));
  calls = sound.calls;
  scope = sound.scope;
  result = sound.result;
}

pub piece_added : (seen held : Held) (new : List Piece) (uses : List Binding) (offers : List Offer) (piece : Piece) → held ≡ seen → piece.scope.0 ≡ 0 → piece.uses ≡ held.uses → uses ≡ [] → offers ≡ [] → new ≡ held.pieces ++ piece ∷ []
    → meaning (record held { pieces = new; uses = uses; offers = offers }) ≡ with_part (tree seen piece.tree) (meaning seen)
unfolding meaning
piece_added seen held new uses offers piece same outside taken none left is =
    subst (λ (h : Held). meaning (record held { pieces = new; uses = uses; offers = offers }) ≡ with_part (tree h piece.tree) (meaning h)) same
    (ap (λ us. make (pieces_at (trees held) new) (uses_at us) (offers_at (trees held) offers)) none
    ∙ (ap (λ os. make (pieces_at (trees held) new) [] (offers_at (trees held) os)) left
    ∙ ap (λ ps. make ps [] []) (ap (pieces_at (trees held)) is ∙ (pieces_at_more (trees held) held.pieces piece
    ∙ (ap (λ n. pieces_at (trees held) held.pieces ++ part n piece.uses ∷ []) outside
    ∙ ap (λ us. pieces_at (trees held) held.pieces ++ part 0 us ∷ []) taken)))))
  where
    make : List CxxPart → List CxxUse → List CxxOffered → CxxState
    make parts bound offered = record (meaning held) { parts = parts; uses = bound; offered = offered }

    part : ℕ → List Binding → CxxPart
    part scope bound = record { tree = tree_in (trees held) piece.tree.0; scope = scope; uses = uses_at bound }

-- ---- where the reader stands

pub scope_set : (seen held : Held) (scope : ScopeId) → held ≡ seen → meaning (record held { scope = scope }) ≡ at_scope scope.0 (meaning seen)
unfolding meaning
scope_set seen held scope same = subst (λ (h : Held). meaning (record held { scope = scope }) ≡ at_scope scope.0 (meaning h)) same refl

-- ---- bodies

pub result_set : (seen held : Held) (of : Option TypeId) → held ≡ seen → meaning (record held { result = of }) ≡ with_result (type_of_option seen.types of) (meaning seen)
unfolding meaning
result_set seen held of same = subst (λ (h : Held). meaning (record held { result = of }) ≡ with_result (type_of_option h.types of) (meaning h)) same refl

pub tested_set : (seen held : Held) (number : Option FactId) → held ≡ seen → meaning (record held { tested = number }) ≡ with_tested (fact_of_option number) (meaning seen)
unfolding meaning
tested_set seen held number same = subst (λ (h : Held). meaning (record held { tested = number }) ≡ with_tested (fact_of_option number) (meaning h)) same refl

pub step_set : (seen held : Held) (inside : Bool) → held ≡ seen → meaning (record held { in_step = inside }) ≡ within_step inside (meaning seen)
unfolding meaning
step_set seen held inside same = subst (λ (h : Held). meaning (record held { in_step = inside }) ≡ within_step inside (meaning h)) same refl
