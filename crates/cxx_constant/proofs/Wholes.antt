-- The parts of an expression, by the numbers of their trees.
use Rattle.std.proofs.Common.{◌≡◌, ℕ, zero, suc, Bool, true, false, List, [], ◌∷◌, ◌+◌, ◌<◌, drop, length, Option, Some, map, refl, ap, subst, sym, ◌∙◌, arith}
use Rattle.std.specs.Prelude.{if◌then◌else◌, nat_eq}
use Rattle.std.specs.List.{slice_get}
use Rattle.cxx_model.specs.declared.tree.Node.{Node}
use Rattle.cxx_model.specs.declared.types.TreeId.{TreeId}
use Rattle.cxx_model.specs.Types.Trees.{CxxType}
use Rattle.cxx_reading.specs.Productions as reading
use Rattle.cxx_reading.specs.Trees.{CxxTree, Label, in_turn}
use Rattle.cxx_tree.specs.Arena.{label_at, tree_in, tree_over, trees_in as trees_with, trees_of, AreTreesBelow, HaveEarlierChildren}
use Rattle.cxx_tree.proofs.Arenas.{below_later, children_below, tree_after}
use Rattle.cxx_constant.specs.declared.known.Known.{Known}
use Rattle.cxx_constant.specs.declared.form.Form.{Form}
use Rattle.cxx_constant.specs.Constants.{CxxValue, Part, last_alone, last_of, missing_by, operands_in, part_by, part_of, part_over, parts, typed, value_by}
use Rattle.cxx_constant.specs.Forms.{cast_form, form_of, functional_form}
use Rattle.cxx_constant.specs.Known.{graph_in, labels_in, part_at, tree_at, trees_in}

pub below_it : (nodes : List Node) (i : ℕ) (node : Node) → HaveEarlierChildren 0 nodes → slice_get nodes i ≡ Some node → AreTreesBelow i node.children
below_it nodes i node all at = (let e : 0 + i ≡ i = omega arith in subst (λ n. AreTreesBelow n node.children) e (children_below 0 nodes i node all at))

pub tree_is : (types : List CxxType) (nodes : List Node) (i : ℕ) (node : Node) → HaveEarlierChildren 0 nodes → slice_get nodes i ≡ Some node → tree_in (trees_of types nodes) i ≡ tree_over types (trees_of types nodes) node
tree_is types nodes i node all at = (let e : i ≡ 0 + i = omega arith in ap (tree_in (trees_of types nodes)) e ∙ tree_after types [] nodes i node all at)

pub each_is : (known : Known) (children : List TreeId) → parts (graph_in known) (in_turn (trees_with (trees_in known) children)) ≡ map (part_at known) children
unfolding part_at part_of
each_is known [] = refl
each_is known (child ∷ children) = ap (λ (ps : List Part). part_of (graph_in known) (tree_at known child) ∷ ps) (each_is known children)

-- ---- operands

last_map : {A B : Type 0} (f : A → B) (one : A) (others : List A) → last_of (f one) (map f others) ≡ f (last_of one others)
last_map f one [] = refl
last_map f one (next ∷ others) = last_map f next others

alone_map : {A B : Type 0} (f : A → B) (xs : List A) → last_alone (map f xs) ≡ map f (last_alone xs)
alone_map f [] = refl
alone_map f (one ∷ others) = ap (λ x. x ∷ []) (last_map f one others)

if_map : {A B : Type 0} (b : Bool) (f : A → B) (xs : List A) → (if b then last_alone (map f xs) else map f xs) ≡ map f (if b then last_alone xs else xs)
if_map true f xs = alone_map f xs
if_map false f xs = refl

operands_map : {A B : Type 0} (label : Label) (f : A → B) (xs : List A) → operands_in label (map f xs) ≡ map f (operands_in label xs)
operands_map label f xs = if_map (nat_eq label.production reading.cast) f xs

-- all but the last left out
pub last_drop : (xs : List TreeId) (n : ℕ) → suc n ≡ length xs → drop n xs ≡ last_alone xs
last_drop [] n e = absurd (omega (arith, e))
last_drop (x ∷ []) zero e = refl
last_drop (x ∷ y ∷ xs) zero e = absurd (omega (arith, e))
last_drop (x ∷ []) (suc n) e = absurd (omega (arith, e))
last_drop (x ∷ y ∷ xs) (suc n) e = (let less : suc n ≡ length (y ∷ xs) = omega (arith, e) in last_drop (y ∷ xs) n less)

last_below : (n : ℕ) (x : TreeId) (xs : List TreeId) → x.0 < n → AreTreesBelow n xs → (last_of x xs).0 < n
last_below n x [] one all = one
last_below n x (y ∷ xs) one all = last_below n y xs all.0 all.1

pub alone_below : (n : ℕ) (xs : List TreeId) → AreTreesBelow n xs → AreTreesBelow n (last_alone xs)
alone_below n [] all = tt
alone_below n (x ∷ xs) all = (last_below n x xs all.0 all.1, tt)

-- a part, by the parts of its operands
pub part_is : (known : Known) (node : Node) (number : TreeId) (operands : List TreeId) → tree_at known number ≡ tree_over known.types.now (trees_in known) node → operands ≡ operands_in (label_at known.types.now node) node.children → part_at known number ≡ part_over (graph_in known) (tree_at known number) (map (part_at known) operands)
unfolding part_at part_of
part_is known node number operands is are =
    ap (λ (tree : CxxTree). part_by (graph_in known) (tree_at known number) (parts (graph_in known) tree.children)) is
    ∙ ap (part_by (graph_in known) (tree_at known number)) (each_is known node.children)
    ∙ ap (λ (tree : CxxTree). part_over (graph_in known) (tree_at known number) (operands_in tree.label (map (part_at known) node.children))) is
    ∙ ap (part_over (graph_in known) (tree_at known number)) (operands_map (label_at known.types.now node) (part_at known) node.children)
    ∙ ap (λ (ns : List TreeId). part_over (graph_in known) (tree_at known number) (map (part_at known) ns)) (sym are)

pub label_is : (known : Known) (node : Node) (number : TreeId) → tree_at known number ≡ tree_over known.types.now (trees_in known) node → (part_at known number).label ≡ label_at known.types.now node
unfolding part_at part_of
label_is known node number is = ap (λ (tree : CxxTree). tree.label) is

-- the children of a tree are there
pub there_too : (count number : ℕ) (operands : List TreeId) → number < count → AreTreesBelow number operands → AreTreesBelow count operands
there_too count number operands within all = below_later number count operands (omega arith) all

formed : (known : Known) (node : Node) (number : TreeId) (children : List TreeId) (is : Form) → tree_at known number ≡ tree_over known.types.now (trees_in known) node → is ≡ form_of (graph_in known) (label_at known.types.now node) (labels_in known children) → form_of (graph_in known) (tree_at known number).label (labels_in known children) ≡ is
formed known node number children is same made = ap (λ (tree : CxxTree). form_of (graph_in known) tree.label (labels_in known children)) same ∙ sym made

-- the part that is no constant
pub missing_is : (known : Known) (node : Node) (number : TreeId) (children : List TreeId) (is : Form) (found : Option CxxTree) → tree_at known number ≡ tree_over known.types.now (trees_in known) node → children ≡ operands_in (label_at known.types.now node) node.children → is ≡ form_of (graph_in known) (label_at known.types.now node) (labels_in known children) → found ≡ missing_by (tree_at known number) is (map (part_at known) children) → found ≡ (part_at known number).missing
missing_is known node number children is found same are made so =
    so ∙ sym (ap (λ (part : Part). part.missing) (part_is known node number children same are) ∙ ap (λ (f : Form). missing_by (tree_at known number) f (map (part_at known) children)) (formed known node number children is same made))

-- the value
pub value_is : (known : Known) (node : Node) (number : TreeId) (children : List TreeId) (is : Form) (found whole : CxxValue) → tree_at known number ≡ tree_over known.types.now (trees_in known) node → children ≡ operands_in (label_at known.types.now node) node.children → is ≡ form_of (graph_in known) (label_at known.types.now node) (labels_in known children) → found ≡ value_by (tree_at known number) is (map (part_at known) children) → whole ≡ typed (label_at known.types.now node) found → whole ≡ (part_at known number).value
value_is known node number children is found whole same are made so as_typed =
    as_typed ∙ ap (typed (label_at known.types.now node)) so
    ∙ sym (ap (λ (part : Part). part.value) (part_is known node number children same are) ∙ ap (λ (f : Form). typed (tree_at known number).label (value_by (tree_at known number) f (map (part_at known) children))) (formed known node number children is same made) ∙ ap (λ (tree : CxxTree). typed tree.label (value_by (tree_at known number) is (map (part_at known) children))) same)

pub some_operands : (known : Known) (of : Option CxxType) (operands : List TreeId) → 0 < length operands → functional_form of (labels_in known operands) ≡ cast_form of
some_operands known of [] some = absurd (omega arith)
some_operands known of (first ∷ operands) some = refl
