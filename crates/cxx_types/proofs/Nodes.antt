-- The list of types of a table, and what becomes of it when a node is added.
use Rattle.std.specs.Prelude.{ℕ, zero, suc, ◌≡◌, ◌<◌, ◌≤◌, ◌+◌, Bool, true, false, not, nat_lt, if◌then◌else◌, List, [], ◌∷◌, ◌++◌, length, map, Some, Ok, refl, ◌⊎◌}
use Rattle.std.specs.List.{slice_get, list_any}
use Rattle.std.proofs.Common.{ap, sym, subst, ◌∙◌, arith, get_or, ⊎_elim, length-append, add-zero, inl, inr}
use Rattle.std.proofs.lemmas.List.{map-append}
use Rattle.std.proofs.Math.ListN.{get_or-append}
use Rattle.std.proofs.Math.Seq.{get_or-append_seam}
use Rattle.std.proofs.lemmas.Option.{slice_get-get_or}
use Rattle.std.proofs.lemmas.List.Folds.{list_any_at}
use Rattle.cxx_model.specs.declared.types.TypeNode.{TypeNode}
use Rattle.cxx_model.specs.declared.base.Base.TheVariants.{Void}
use Rattle.cxx_model.specs.Types.Trees.{CxxType, IsNormal, fundamental}
use Rattle.cxx_model.specs.Types.Proper.{IsProper}
use Rattle.cxx_model.specs.Types.Numbers.{AreApart, type_at, type_over, IsNodeBelow, Keeps}
use Rattle.cxx_model.proofs.TypeTrees.{node_kept, node_later, Keeps-refl, Keeps-trans}
use Rattle.std.proofs.lemmas.Bool.{ltb-true, ltb-false}
use Rattle.indexmap.specs.IndexSet.{insert_key}
use Rattle.cxx_model.proofs.Equal.{same_node, node_from, node_to}
use Rattle.cxx_model.specs.Facts.Graph.{IsTypeInRange}
use Rattle.cxx_types.specs.Levels.{level_count}
use Rattle.cxx_types.specs.Makes.{Fits, Makes}
use Rattle.cxx_types.specs.Table.{types_after, types_of, AreNormal, AreProper, AreShallow, IsTable}
use Rattle.cxx_types.proofs.Depths.{node-shallow}

-- one more type
pub Keeps-more : (types : List CxxType) (t : CxxType) → Keeps types (types ++ t ∷ [])
Keeps-more types t = record {
  grows = omega (arith, length-append types (t ∷ []));
  same = λ i within. get_or-append types (t ∷ []) (fundamental Void) i within;
}

pub Keeps-after : (done : List CxxType) (nodes : List TypeNode) → Keeps done (types_after done nodes)
Keeps-after done [] = Keeps-refl done
Keeps-after done (x ∷ xs) = Keeps-trans _ _ _ (Keeps-more done (type_over done x)) (Keeps-after (done ++ type_over done x ∷ []) xs)

pub length-after : (done : List CxxType) (nodes : List TypeNode) → length (types_after done nodes) ≡ length done + length nodes
length-after done [] = omega arith
length-after done (x ∷ xs) =
    let e : length (types_after (done ++ type_over done x ∷ []) xs) ≡ length (done ++ type_over done x ∷ []) + length xs = length-after (done ++ type_over done x ∷ []) xs in
    omega (arith, length-append done (type_over done x ∷ []))

pub length-types : (nodes : List TypeNode) → length (types_of nodes) ≡ length nodes
length-types nodes = let e : length (types_of nodes) ≡ 0 + length nodes = length-after [] nodes in omega arith

pub after-more : (done : List CxxType) (nodes : List TypeNode) (x : TypeNode) → types_after done (nodes ++ x ∷ []) ≡ types_after done nodes ++ type_over (types_after done nodes) x ∷ []
after-more done [] x = refl
after-more done (y ∷ ys) x = after-more (done ++ type_over done y ∷ []) ys x

-- the type of a number is that of its node
pub node-at : (done : List CxxType) (nodes : List TypeNode) (j : ℕ) (x : TypeNode) → slice_get nodes j ≡ Some x → IsNodeBelow (length done + j) x → type_at (types_after done nodes) (length done + j) ≡ type_over (types_after done nodes) x
node-at done [] j x e ok = cc
node-at done (y ∷ ys) zero x e ok =
    let last : CxxType = type_over done y in
    let more : List CxxType = done ++ last ∷ [] in
    let all : List CxxType = types_after more ys in
    let kept : Keeps more all = Keeps-after more ys in
    let known : length done < length more = omega (arith, length-append done (last ∷ [])) in
    let one : type_at all (length done) ≡ type_at more (length done) = kept.same (length done) known in
    let two : type_at more (length done) ≡ last = get_or-append_seam done last [] (fundamental Void) in
    let same : y ≡ x = cc in
    let below : IsNodeBelow (length done) y = subst (λ (n : TypeNode). IsNodeBelow (length done) n) (sym same) (subst (λ (n : ℕ). IsNodeBelow n x) (add-zero (length done)) ok) in
    let three : type_over all y ≡ last = node_kept done all y (Keeps-trans _ _ _ (Keeps-more done last) kept) below in
    rw add-zero (one ∙ two ∙ sym three ∙ ap (type_over all) same)
node-at done (y ∷ ys) (suc j) x e ok =
    let last : CxxType = type_over done y in
    let more : List CxxType = done ++ last ∷ [] in
    let all : List CxxType = types_after more ys in
    let count : length more + j ≡ length done + suc j = omega (arith, length-append done (last ∷ [])) in
    let P : ℕ → Type 0 = λ n. type_at all n ≡ type_over all x in
    subst P count (node-at more ys j x e (subst (λ (n : ℕ). IsNodeBelow n x) (sym count) ok))

pub type-of-node : (nodes : List TypeNode) (counts : List ℕ) (j : ℕ) (x : TypeNode) → IsTable nodes counts → slice_get nodes j ≡ Some x → type_at (types_of nodes) j ≡ type_over (types_of nodes) x
type-of-node nodes counts j x table e =
    let zeroed : 0 + j ≡ j = omega arith in
    let P : ℕ → Type 0 = λ n. type_at (types_of nodes) n ≡ type_over (types_of nodes) x in
    subst P zeroed (node-at [] nodes j x e (subst (λ (n : ℕ). IsNodeBelow n x) (sym zeroed) (table.below j x e)))

-- a node of a list with one more
split-more : (nodes : List TypeNode) (x : TypeNode) (i : ℕ) (y : TypeNode) → slice_get (nodes ++ x ∷ []) i ≡ Some y → (slice_get nodes i ≡ Some y) ⊎ ((i ≡ length nodes) × (x ≡ y))
split-more [] x zero y e = inr (refl, cc)
split-more [] x (suc i) y e = cc
split-more (n ∷ ns) x zero y e = inl e
split-more (n ∷ ns) x (suc i) y e = ⊎_elim (λ p. inl p) (λ p. inr (ap suc p.0, p.1)) (split-more ns x i y e)

below-or-last : (i n : ℕ) → i < n + 1 → (i < n) ⊎ (i ≡ n)
below-or-last i n h = by (nat_lt i n) refl
  where
    by : (b : Bool) → nat_lt i n ≡ b → (i < n) ⊎ (i ≡ n)
    by true e = inl (ltb-true i n e)
    by false e = inr (let g : n ≤ i = ltb-false i n e in omega arith)

-- a node that is not yet there
module _ (nodes : List TypeNode) (counts : List ℕ) (x : TypeNode) (table : IsTable nodes counts) (ok : IsNodeBelow (length (types_of nodes)) x) (form : IsNormal (type_over (types_of nodes) x)) (proper : IsProper (type_over (types_of nodes) x)) (absent : list_any (same_node x) nodes ≡ false) where
  abbrev old : List CxxType
  old = types_of nodes

  abbrev new : List CxxType
  new = types_of (nodes ++ x ∷ [])

  new-is : new ≡ old ++ type_over old x ∷ []
  new-is = after-more [] nodes x

  kept : Keeps old new
  kept = subst (λ (ts : List CxxType). Keeps old ts) (sym new-is) (Keeps-more old (type_over old x))

  last : type_at new (length old) ≡ type_over old x
  last = subst (λ (ts : List CxxType). type_at ts (length old) ≡ type_over old x) (sym new-is) (get_or-append_seam old (type_over old x) [] (fundamental Void))

  count : length new ≡ length old + 1
  count = ap length new-is ∙ omega (arith, length-append old (type_over old x ∷ []))

  -- the new type is none of the old ones
  differs : (j : ℕ) → j < length old → type_over old x ≡ type_at old j → ⊥
  differs j within e =
      let inside : j < length nodes = omega (arith, length-types nodes) in
      let node : TypeNode = get_or nodes j x in
      let there : slice_get nodes j ≡ Some node = slice_get-get_or nodes j x inside in
      let is : type_at old j ≡ type_over old node = type-of-node nodes counts j node table there in
      let below : IsNodeBelow (length old) node = node_later j (length old) node (omega arith) (table.below j node there) in
      let same : same_node x node ≡ true = node_to old x node table.apart ok below (e ∙ is) in
      let any : list_any (same_node x) nodes ≡ true = list_any_at (same_node x) nodes j x inside same in
      cc

  apart-more : AreApart new
  apart-more i j p q e =
      let P : i < length old + 1 = omega (arith, count) in
      let Q : j < length old + 1 = omega (arith, count) in
      by (below-or-last i (length old) P) (below-or-last j (length old) Q)
    where
      by : (i < length old) ⊎ (i ≡ length old) → (j < length old) ⊎ (j ≡ length old) → i ≡ j
      by (inl a) (inl b) = table.apart i j a b (sym (kept.same i a) ∙ e ∙ kept.same j b)
      by (inl a) (inr b) = absurd (differs i a (sym last ∙ sym (subst (λ (n : ℕ). type_at new i ≡ type_at new n) b e) ∙ kept.same i a))
      by (inr a) (inl b) = absurd (differs j b (sym last ∙ subst (λ (n : ℕ). type_at new n ≡ type_at new j) a e ∙ kept.same j b))
      by (inr a) (inr b) = a ∙ sym b

  normal-more : AreNormal new
  normal-more i p =
      let P : i < length old + 1 = omega (arith, count) in
      by (below-or-last i (length old) P)
    where
      by : (i < length old) ⊎ (i ≡ length old) → IsNormal (type_at new i)
      by (inl a) = subst IsNormal (sym (kept.same i a)) (table.normal i a)
      by (inr a) = subst (λ (n : ℕ). IsNormal (type_at new n)) (sym a) (subst IsNormal (sym last) form)

  proper-more : AreProper new
  proper-more i p =
      let P : i < length old + 1 = omega (arith, count) in
      by (below-or-last i (length old) P)
    where
      by : (i < length old) ⊎ (i ≡ length old) → IsProper (type_at new i)
      by (inl a) = subst (λ (t : CxxType). IsProper t) (sym (kept.same i a)) (table.proper i a)
      by (inr a) = subst (λ (n : ℕ). IsProper (type_at new n)) (sym a) (subst (λ (t : CxxType). IsProper t) (sym last) proper)

  below-more : (i : ℕ) (y : TypeNode) → slice_get (nodes ++ x ∷ []) i ≡ Some y → IsNodeBelow i y
  below-more i y e = by (split-more nodes x i y e)
    where
      by : (slice_get nodes i ≡ Some y) ⊎ ((i ≡ length nodes) × (x ≡ y)) → IsNodeBelow i y
      by (inl p) = table.below i y p
      by (inr p) = subst (λ (n : TypeNode). IsNodeBelow i n) p.1 (subst (λ (n : ℕ). IsNodeBelow n x) (length-types nodes ∙ sym p.0) ok)

  shallow-last : level_count (type_over old x) ≤ length old
  shallow-last = node-shallow old (length old) x ok table.shallow

  shallow-more : AreShallow new
  shallow-more i p =
      let P : i < length old + 1 = omega (arith, count) in
      by (below-or-last i (length old) P)
    where
      by : (i < length old) ⊎ (i ≡ length old) → level_count (type_at new i) ≤ i
      by (inl a) = subst (λ (t : CxxType). level_count t ≤ i) (sym (kept.same i a)) (table.shallow i a)
      by (inr a) = subst (λ (n : ℕ). level_count (type_at new n) ≤ n) (sym a) (subst (λ (t : CxxType). level_count t ≤ length old) (sym last) shallow-last)

  table-more : IsTable (nodes ++ x ∷ []) (counts ++ level_count (type_over old x) ∷ [])
  table-more = record {
    below = below-more;
    apart = apart-more;
    normal = normal-more;
    proper = proper-more;
    shallow = shallow-more;
    leveled = ap (λ (cs : List ℕ). cs ++ level_count (type_over old x) ∷ []) table.leveled ∙ sym (map-append level_count old (type_over old x ∷ [])) ∙ ap (map level_count) (sym new-is);
  }

-- a node that may be there
pub table-stays : (nodes : List TypeNode) (counts : List ℕ) (x : TypeNode) (new : Bool) → IsTable nodes counts → new ≡ not (list_any (same_node x) nodes) → new ≡ false → IsTable (insert_key same_node nodes x) counts
table-stays nodes counts x new table is told = by (list_any (same_node x) nodes) refl
  where
    by : (b : Bool) → list_any (same_node x) nodes ≡ b → IsTable (if b then nodes else nodes ++ x ∷ []) counts
    by true e = table
    by false e = (let wrong : false ≡ true = sym told ∙ is ∙ ap not e in cc)

pub table-grows : (nodes : List TypeNode) (counts : List ℕ) (x : TypeNode) (new : Bool) → IsTable nodes counts → IsNodeBelow (length (types_of nodes)) x → IsNormal (type_over (types_of nodes) x) → IsProper (type_over (types_of nodes) x) → new ≡ not (list_any (same_node x) nodes) → new ≡ true → IsTable (insert_key same_node nodes x) (counts ++ level_count (type_over (types_of nodes) x) ∷ [])
table-grows nodes counts x new table ok form proper is told = by (list_any (same_node x) nodes) refl
  where
    by : (b : Bool) → list_any (same_node x) nodes ≡ b → IsTable (if b then nodes else nodes ++ x ∷ []) (counts ++ level_count (type_over (types_of nodes) x) ∷ [])
    by true e = (let wrong : true ≡ false = sym told ∙ is ∙ ap not e in cc)
    by false e = table-more nodes counts x table ok form proper e

pub Keeps-insert : (nodes : List TypeNode) (x : TypeNode) → Keeps (types_of nodes) (types_of (insert_key same_node nodes x))
Keeps-insert nodes x = by (list_any (same_node x) nodes)
  where
    by : (b : Bool) → Keeps (types_of nodes) (types_of (if b then nodes else nodes ++ x ∷ []))
    by true = Keeps-refl (types_of nodes)
    by false = subst (λ (ts : List CxxType). Keeps (types_of nodes) ts) (sym (after-more [] nodes x)) (Keeps-more (types_of nodes) (type_over (types_of nodes) x))

Fits-more : (types : List CxxType) (t : CxxType) → Fits types (types ++ t ∷ []) t
Fits-more types t graph all last i within =
    let less : i < length types + 1 = omega (arith, length-append types (t ∷ [])) in
    by (below-or-last i (length types) less)
  where
    by : (i < length types) ⊎ (i ≡ length types) → IsTypeInRange graph (type_at (types ++ t ∷ []) i)
    by (inl a) = subst (λ (u : CxxType). IsTypeInRange graph u) (sym ((Keeps-more types t).same i a)) (all i a)
    by (inr a) = subst (λ (n : ℕ). IsTypeInRange graph (type_at (types ++ t ∷ []) n)) (sym a) (subst (λ (u : CxxType). IsTypeInRange graph u) (sym (get_or-append_seam types t [] (fundamental Void))) last)

pub Fits-insert : (nodes : List TypeNode) (x : TypeNode) → Fits (types_of nodes) (types_of (insert_key same_node nodes x)) (type_over (types_of nodes) x)
Fits-insert nodes x = by (list_any (same_node x) nodes)
  where
    by : (b : Bool) → Fits (types_of nodes) (types_of (if b then nodes else nodes ++ x ∷ [])) (type_over (types_of nodes) x)
    by true = λ graph all last. all
    by false = subst (λ (ts : List CxxType). Fits (types_of nodes) ts (type_over (types_of nodes) x)) (sym (after-more [] nodes x)) (Fits-more (types_of nodes) (type_over (types_of nodes) x))

-- the type of the number that a node has
pub type-of-stored : (old : List CxxType) (nodes : List TypeNode) (counts : List ℕ) (x stored : TypeNode) (i : ℕ) → IsTable nodes counts → Keeps old (types_of nodes) → IsNodeBelow (length old) x → slice_get nodes i ≡ Some stored → same_node x stored ≡ true → type_at (types_of nodes) i ≡ type_over old x
type-of-stored old nodes counts x stored i table kept ok e same =
    type-of-node nodes counts i stored table e ∙ sym (node_from (types_of nodes) x stored same) ∙ node_kept old (types_of nodes) x kept ok

-- what a table is once a node was inserted
pub made-by-insert : (old : List CxxType) (nodes keys : List TypeNode) (counts : List ℕ) (x stored : TypeNode) (i : ℕ) → types_of nodes ≡ old → keys ≡ insert_key same_node nodes x → IsTable keys counts → IsNodeBelow (length old) x → slice_get keys i ≡ Some stored → same_node x stored ≡ true → i < length keys → Makes old (types_of keys) (Ok (record { 0 = i })) (type_over old x)
made-by-insert old nodes keys counts x stored i view are table ok there same within =
    let P : List TypeNode → List CxxType → Type 0 = λ ks types. Keeps types (types_of ks) in
    let Q : List TypeNode → List CxxType → Type 0 = λ ks types. Fits types (types_of ks) (type_over types x) in
    let kept : Keeps old (types_of keys) = subst (λ (types : List CxxType). P keys types) view (subst (λ (ks : List TypeNode). P ks (types_of nodes)) (sym are) (Keeps-insert nodes x)) in
    record {
      keeps = kept;
      made = (omega (arith, length-types keys), type-of-stored old keys counts x stored i table kept ok there same);
      fits = subst (λ (types : List CxxType). Q keys types) view (subst (λ (ks : List TypeNode). Q ks (types_of nodes)) (sym are) (Fits-insert nodes x));
    }

-- a number at hand is that of the node that stands there
there-inside : (nodes : List TypeNode) (i : ℕ) (x : TypeNode) → slice_get nodes i ≡ Some x → i < length nodes
there-inside [] i x e = cc
there-inside (n ∷ ns) zero x e = omega arith
there-inside (n ∷ ns) (suc i) x e = let h : i < length ns = there-inside ns i x e in omega arith

pub at-hand : (old : List CxxType) (nodes : List TypeNode) (counts : List ℕ) (x stored : TypeNode) (i : ℕ) → types_of nodes ≡ old → IsTable nodes counts → IsNodeBelow (length old) x → slice_get nodes i ≡ Some stored → same_node x stored ≡ true → (i < length old) × (type_at old i ≡ type_over old x)
at-hand old nodes counts x stored i view table ok there same =
    let inside : i < length nodes = there-inside nodes i stored there in
    let below : IsNodeBelow (length (types_of nodes)) x = subst (λ (ts : List CxxType). IsNodeBelow (length ts) x) (sym view) ok in
    subst (λ (ts : List CxxType). (i < length ts) × (type_at ts i ≡ type_over ts x)) view (omega (arith, length-types nodes, inside), type-of-stored (types_of nodes) nodes counts x stored i table (Keeps-refl (types_of nodes)) below there same)
