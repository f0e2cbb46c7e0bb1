-- The list of trees of an arena, and what becomes of it when a node is added or the table of types grows.
use Rattle.std.specs.Prelude.{ℕ, zero, suc, ◌≡◌, ◌<◌, ◌≤◌, ◌+◌, List, [], ◌∷◌, ◌++◌, length, Option, Some, None, refl}
use Rattle.std.specs.List.{slice_get}
use Rattle.std.proofs.Common.{ap, ◌∙◌, subst, sym, arith, length-append}
use Rattle.std.proofs.Math.ListN.{get_or-append}
use Rattle.std.proofs.Math.Seq.{get_or-append_seam}
use Rattle.cxx_model.specs.declared.sequence.Operand.{Operand}
use Rattle.cxx_model.specs.declared.tree.Node.{Node}
use Rattle.cxx_model.specs.declared.types.TreeId.{TreeId}
use Rattle.cxx_model.specs.declared.types.TypeId.{TypeId}
use Rattle.cxx_model.specs.Facts.Declarations.{type_of_option}
use Rattle.cxx_model.specs.Facts.Fitted.{IsTypeNumberBelow}
use Rattle.cxx_model.specs.Types.Trees.{CxxType}
use Rattle.cxx_model.specs.Types.Numbers.{type_at, Keeps}
use Rattle.cxx_meaning.specs.Conversions.Standard.{CxxOperand}
use Rattle.cxx_reading.specs.State.{CxxGiven, CxxOffered, CxxPart}
use Rattle.cxx_reading.specs.Trees.{CxxTree, Label, tree_of}
use Rattle.cxx_tree.specs.Arena.{AreNodesBelow, AreTreesBelow, HaveEarlierChildren, IsNodeBelow, IsOperandBelow, KeepsTrees, label_at, no_tree, number_of_option, operand_of_option, path_of_option, tree_in, trees_in, tree_over, trees_after, trees_of}
use Rattle.cxx_tree.specs.declared.kept.Fallback.{Fallback}
use Rattle.cxx_tree.specs.declared.kept.Offer.{Offer}
use Rattle.cxx_tree.specs.declared.kept.Piece.{Piece}
use Rattle.cxx_tree.specs.Held.{AreFallbacksBelow, AreOffersBelow, ArePiecesBelow, fallback_at, fallbacks_at, offer_at, offers_at, piece_at, pieces_at, uses_at}

pub KeepsTrees_refl : (trees : List CxxTree) → KeepsTrees trees trees
KeepsTrees_refl trees = record { grows = omega arith; same = λ i within. refl }

pub KeepsTrees_trans : (one two three : List CxxTree) → KeepsTrees one two → KeepsTrees two three → KeepsTrees one three
KeepsTrees_trans one two three p q = record {
  grows = (let a : length one ≤ length two = p.grows in let b : length two ≤ length three = q.grows in omega arith);
  same = λ i within. (let a : length one ≤ length two = p.grows in let e : tree_in two i ≡ tree_in one i = p.same i within in let f : tree_in three i ≡ tree_in two i = q.same i (omega arith) in cc);
}

pub keeps_more : (trees : List CxxTree) (t : CxxTree) → KeepsTrees trees (trees ++ t ∷ [])
keeps_more trees t = record {
  grows = omega (arith, length-append trees (t ∷ []));
  same = λ i within. get_or-append trees (t ∷ []) no_tree i within;
}

pub after_more : (types : List CxxType) (done : List CxxTree) (nodes : List Node) (x : Node) → trees_after types done (nodes ++ x ∷ []) ≡ trees_after types done nodes ++ tree_over types (trees_after types done nodes) x ∷ []
after_more types done [] x = refl
after_more types done (y ∷ ys) x = after_more types (done ++ tree_over types done y ∷ []) ys x

length_after : (types : List CxxType) (done : List CxxTree) (nodes : List Node) → length (trees_after types done nodes) ≡ length done + length nodes
length_after types done [] = omega arith
length_after types done (x ∷ xs) =
    let e : length (trees_after types (done ++ tree_over types done x ∷ []) xs) ≡ length (done ++ tree_over types done x ∷ []) + length xs = length_after types (done ++ tree_over types done x ∷ []) xs in
    omega (arith, length-append done (tree_over types done x ∷ []))

pub length_trees : (types : List CxxType) (nodes : List Node) → length (trees_of types nodes) ≡ length nodes
length_trees types nodes = let e : length (trees_of types nodes) ≡ 0 + length nodes = length_after types [] nodes in omega arith

-- ---- a larger table

operand_kept : (old new : List CxxType) (x : Option Operand) → Keeps old new → IsOperandBelow (length old) x → operand_of_option new x ≡ operand_of_option old x
operand_kept old new None kept ok = refl
operand_kept old new (Some x) kept ok = (let same : type_at new x.of.0 ≡ type_at old x.of.0 = kept.same x.of.0 ok in let make : CxxType → Option CxxOperand = λ of. Some (record { of = of; lvalue = x.lvalue; constant = x.constant }) in ap make same)

pub of_kept : (old new : List CxxType) (x : Option TypeId) → Keeps old new → IsTypeNumberBelow (length old) x → type_of_option new x ≡ type_of_option old x
of_kept old new None kept ok = refl
of_kept old new (Some x) kept ok = (let same : type_at new x.0 ≡ type_at old x.0 = kept.same x.0 ok in let make : CxxType → Option CxxType = λ of. Some of in ap make same)

label_kept : (old new : List CxxType) (x : Node) → Keeps old new → IsNodeBelow (length old) x → label_at new x ≡ label_at old x
label_kept old new x kept ok =
    let whole : Option CxxOperand → Option CxxType → Label = λ operand of. record { production = x.production; spelling = x.spelling; first = x.first; last = x.last; start = x.start; place = x.place; path = path_of_option x.path; operand = operand; of = of; target = number_of_option x.target; call = x.call } in
    ap (λ operand. whole operand (type_of_option new x.of)) (operand_kept old new x.operand kept ok.operand) ∙ ap (whole (operand_of_option old x.operand)) (of_kept old new x.of kept ok.of)

over_kept : (old new : List CxxType) (done : List CxxTree) (x : Node) → Keeps old new → IsNodeBelow (length old) x → tree_over new done x ≡ tree_over old done x
over_kept old new done x kept ok = (let f : Label → CxxTree = λ label. record { label = label; children = (tree_over old done x).children } in ap f (label_kept old new x kept ok))

pub after_kept : (old new : List CxxType) (done : List CxxTree) (nodes : List Node) → Keeps old new → AreNodesBelow (length old) nodes → trees_after new done nodes ≡ trees_after old done nodes
after_kept old new done [] kept ok = refl
after_kept old new done (x ∷ xs) kept ok =
    ap (λ (t : CxxTree). trees_after new (done ++ t ∷ []) xs) (over_kept old new done x kept ok.0) ∙ after_kept old new (done ++ tree_over old done x ∷ []) xs kept ok.1

operand_later : (old new : ℕ) (x : Option Operand) → old ≤ new → IsOperandBelow old x → IsOperandBelow new x
operand_later old new None more ok = tt
operand_later old new (Some x) more ok = omega arith

pub of_later : (old new : ℕ) (x : Option TypeId) → old ≤ new → IsTypeNumberBelow old x → IsTypeNumberBelow new x
of_later old new None more ok = tt
of_later old new (Some x) more ok = omega arith

pub nodes_later : (old new : ℕ) (nodes : List Node) → old ≤ new → AreNodesBelow old nodes → AreNodesBelow new nodes
nodes_later old new [] more ok = tt
nodes_later old new (x ∷ xs) more ok = (record { operand = operand_later old new x.operand more ok.0.operand; of = of_later old new x.of more ok.0.of }, nodes_later old new xs more ok.1)

pub nodes_more : (count : ℕ) (nodes : List Node) (x : Node) → AreNodesBelow count nodes → IsNodeBelow count x → AreNodesBelow count (nodes ++ x ∷ [])
nodes_more count [] x all ok = (ok, tt)
nodes_more count (y ∷ ys) x all ok = (all.0, nodes_more count ys x all.1 ok)

pub children_more : (number : ℕ) (nodes : List Node) (x : Node) → HaveEarlierChildren number nodes → AreTreesBelow (number + length nodes) x.children → HaveEarlierChildren number (nodes ++ x ∷ [])
children_more number [] x all ok = (let e : number + 0 ≡ number = omega arith in subst (λ n. AreTreesBelow n x.children) e ok, tt)
children_more number (y ∷ ys) x all ok = (let e : number + length (y ∷ ys) ≡ suc number + length ys = omega arith in (all.0, children_more (suc number) ys x all.1 (subst (λ n. AreTreesBelow n x.children) e ok)))

-- ---- what names trees

pub pieces_later : (old new : ℕ) (pieces : List Piece) → old ≤ new → ArePiecesBelow old pieces → ArePiecesBelow new pieces
pieces_later old new [] more ok = tt
pieces_later old new (x ∷ xs) more ok = (omega arith, pieces_later old new xs more ok.1)

pub pieces_kept : (old new : List CxxTree) (pieces : List Piece) → KeepsTrees old new → ArePiecesBelow (length old) pieces → pieces_at new pieces ≡ pieces_at old pieces
pieces_kept old new [] kept ok = refl
pieces_kept old new (x ∷ xs) kept ok =
    let one : piece_at new x ≡ piece_at old x = (let make : CxxTree → CxxPart = λ t. record { tree = t; scope = x.scope.0; uses = uses_at x.uses } in ap make (kept.same x.tree.0 ok.0)) in
    let rest : pieces_at new xs ≡ pieces_at old xs = pieces_kept old new xs kept ok.1 in cc

pub fallbacks_later : (old new : ℕ) (fallbacks : List Fallback) → old ≤ new → AreFallbacksBelow old fallbacks → AreFallbacksBelow new fallbacks
fallbacks_later old new [] more ok = tt
fallbacks_later old new (x ∷ xs) more ok = (omega arith, fallbacks_later old new xs more ok.1)

pub fallbacks_kept : (old new : List CxxTree) (fallbacks : List Fallback) → KeepsTrees old new → AreFallbacksBelow (length old) fallbacks → fallbacks_at new fallbacks ≡ fallbacks_at old fallbacks
fallbacks_kept old new [] kept ok = refl
fallbacks_kept old new (x ∷ xs) kept ok =
    let one : fallback_at new x ≡ fallback_at old x = (let make : CxxTree → CxxGiven = λ t. record { declaration = x.declaration.0; index = x.index; tree = t } in ap make (kept.same x.tree.0 ok.0)) in
    let rest : fallbacks_at new xs ≡ fallbacks_at old xs = fallbacks_kept old new xs kept ok.1 in cc

pub offers_later : (old new : ℕ) (offers : List Offer) → old ≤ new → AreOffersBelow old offers → AreOffersBelow new offers
offers_later old new [] more ok = tt
offers_later old new (x ∷ xs) more ok = (omega arith, offers_later old new xs more ok.1)

pub offers_kept : (old new : List CxxTree) (offers : List Offer) → KeepsTrees old new → AreOffersBelow (length old) offers → offers_at new offers ≡ offers_at old offers
offers_kept old new [] kept ok = refl
offers_kept old new (x ∷ xs) kept ok =
    let one : offer_at new x ≡ offer_at old x = (let make : CxxTree → CxxOffered = λ t. record { scope = x.scope.0; index = x.index; tree = t } in ap make (kept.same x.tree.0 ok.0)) in
    let rest : offers_at new xs ≡ offers_at old xs = offers_kept old new xs kept ok.1 in cc

-- ---- lists of trees

pub trees_kept : (old new : List CxxTree) (numbers : List TreeId) → KeepsTrees old new → AreTreesBelow (length old) numbers → trees_in new numbers ≡ trees_in old numbers
trees_kept old new [] kept ok = refl
trees_kept old new (x ∷ xs) kept ok = (let one : tree_in new x.0 ≡ tree_in old x.0 = kept.same x.0 ok.0 in let rest : trees_in new xs ≡ trees_in old xs = trees_kept old new xs kept ok.1 in cc)

pub below_later : (old new : ℕ) (numbers : List TreeId) → old ≤ new → AreTreesBelow old numbers → AreTreesBelow new numbers
below_later old new [] more ok = tt
below_later old new (x ∷ xs) more ok = (omega arith, below_later old new xs more ok.1)

pub trees_append : (trees : List CxxTree) (one two : List TreeId) → trees_in trees (one ++ two) ≡ trees_in trees one ++ trees_in trees two
trees_append trees [] two = refl
trees_append trees (x ∷ xs) two = ap (λ ts. tree_in trees x.0 ∷ ts) (trees_append trees xs two)

pub below_append : (count : ℕ) (one two : List TreeId) → AreTreesBelow count one → AreTreesBelow count two → AreTreesBelow count (one ++ two)
below_append count [] two first second = second
below_append count (x ∷ xs) two first second = (first.0, below_append count xs two first.1 second)

pub last_tree : (trees : List CxxTree) (t : CxxTree) → tree_in (trees ++ t ∷ []) (length trees) ≡ t
last_tree trees t = get_or-append_seam trees t [] no_tree

-- ---- the tree of a node

pub node_below : (count : ℕ) (nodes : List Node) (i : ℕ) (x : Node) → AreNodesBelow count nodes → slice_get nodes i ≡ Some x → IsNodeBelow count x
node_below count [] i x all at = absurd (cc)
node_below count (y ∷ ys) zero x all at = (let same : y ≡ x = cc in subst (λ n. IsNodeBelow count n) same all.0)
node_below count (y ∷ ys) (suc i) x all at = node_below count ys i x all.1 at

pub children_below : (number : ℕ) (nodes : List Node) (i : ℕ) (x : Node) → HaveEarlierChildren number nodes → slice_get nodes i ≡ Some x → AreTreesBelow (number + i) x.children
children_below number [] i x all at = absurd (cc)
children_below number (y ∷ ys) zero x all at = (let same : y ≡ x = cc in let e : number ≡ number + 0 = omega arith in subst (λ n. AreTreesBelow n x.children) e (subst (λ n. AreTreesBelow number n.children) same all.0))
children_below number (y ∷ ys) (suc i) x all at = (let e : suc number + i ≡ number + suc i = omega arith in subst (λ n. AreTreesBelow n x.children) e (children_below (suc number) ys i x all.1 at))

-- what is done stays in front
after_keeps : (types : List CxxType) (done : List CxxTree) (nodes : List Node) → KeepsTrees done (trees_after types done nodes)
after_keeps types done [] = KeepsTrees_refl done
after_keeps types done (x ∷ xs) = KeepsTrees_trans done (done ++ tree_over types done x ∷ []) (trees_after types (done ++ tree_over types done x ∷ []) xs) (keeps_more done (tree_over types done x)) (after_keeps types (done ++ tree_over types done x ∷ []) xs)

pub tree_after : (types : List CxxType) (done : List CxxTree) (nodes : List Node) (i : ℕ) (x : Node) → HaveEarlierChildren (length done) nodes → slice_get nodes i ≡ Some x → tree_in (trees_after types done nodes) (length done + i) ≡ tree_over types (trees_after types done nodes) x
tree_after types done [] i x all at = absurd (cc)
tree_after types done (y ∷ ys) zero x all at =
    let t : CxxTree = tree_over types done y in
    let last : List CxxTree = trees_after types (done ++ t ∷ []) ys in
    let same : y ≡ x = cc in
    let here : length done + 0 ≡ length done = omega arith in
    let grown : length done < length (done ++ t ∷ []) = omega (arith, length-append done (t ∷ [])) in
    let stays : tree_in last (length done) ≡ t = (after_keeps types (done ++ t ∷ []) ys).same (length done) grown ∙ last_tree done t in
    let make : List CxxTree → CxxTree = λ children. tree_of (label_at types y) children in
    let under : tree_over types last y ≡ t = ap make (trees_kept done last y.children (KeepsTrees_trans done (done ++ t ∷ []) last (keeps_more done t) (after_keeps types (done ++ t ∷ []) ys)) all.0) in
    ap (tree_in last) here ∙ (stays ∙ (sym under ∙ ap (tree_over types last) same))
tree_after types done (y ∷ ys) (suc i) x all at =
    let t : CxxTree = tree_over types done y in
    let longer : length (done ++ t ∷ []) ≡ suc (length done) = omega (arith, length-append done (t ∷ [])) in
    let place : length done + suc i ≡ length (done ++ t ∷ []) + i = omega arith in
    ap (tree_in (trees_after types (done ++ t ∷ []) ys)) place ∙ tree_after types (done ++ t ∷ []) ys i x (subst (λ n. HaveEarlierChildren n ys) (sym longer) all.1) at
