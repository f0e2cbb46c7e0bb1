-- What has a value is a constant in each of its parts.
use Rattle.std.proofs.Common.{◌≡◌, Bool, true, false, List, [], ◌∷◌, Option, Some, None, refl, ap, ◌∙◌, Ok, Err, ℤ}
use Rattle.std.specs.Prelude.{if◌then◌else◌, nat_eq}
use Rattle.cxx_computed.specs.Values.{is_zero}
use Rattle.cxx_model.specs.Facts.Declarations.{CxxGraph}
use Rattle.cxx_reading.specs.Productions as reading
use Rattle.cxx_reading.specs.Trees.{CxxTree, CxxTrees, no_trees, tree_then}
use Rattle.cxx_constant.specs.declared.form.Form.{Form}
use Rattle.cxx_constant.specs.declared.form.Form.TheVariants as form
use Rattle.cxx_constant.specs.Constants.{constant, labels, last_alone, last_of, missing_by, operands_in, or_else, part_by, part_of, part_over, parts, unless_missing, value_by, CxxFault, CxxValue, Part, ◌then◌}
use Rattle.cxx_constant.specs.Forms.{form_of}

abbrev IsSound : Part → Type 0
IsSound part = (v : ℤ) → part.value ≡ Ok v → part.missing ≡ None

abbrev AreSound : List Part → Type 0
AreSound [] = Unit {0}
AreSound (part ∷ others) = IsSound part × AreSound others

-- what stands before `then` has a value
abbrev Split : CxxValue → (ℤ → CxxValue) → ℤ → Type 0
Split x f v = (w : ℤ) × (x ≡ Ok w) × (f w ≡ Ok v)

split : (x : CxxValue) (f : ℤ → CxxValue) (v : ℤ) → (x then f) ≡ Ok v → Split x f v
split (Ok w) f v e = (w, refl, e)
split (Err why) f v e = absurd (cc)

err_ok : (why : CxxFault) (v : ℤ) → Err why ≡ Ok v → ⊥
err_ok why v e = cc

none_missing : (missing : Option CxxTree) (x : CxxValue) (v : ℤ) → unless_missing missing x ≡ Ok v → missing ≡ None
none_missing None x v e = refl
none_missing (Some part) x v e = absurd (cc)

then_missing : (missing : Option CxxTree) (x : CxxValue) (v : ℤ) → unless_missing missing x ≡ Ok v → x ≡ Ok v
then_missing None x v e = e
then_missing (Some part) x v e = absurd (cc)

both : (one two : Option CxxTree) → one ≡ None → two ≡ None → or_else one two ≡ None
both one two e f = ap (λ (m : Option CxxTree). or_else m two) e ∙ f

-- one of two ways
either : (b : Bool) (one two : CxxValue) (v : ℤ) (P : Type 0) → (one ≡ Ok v → P) → (two ≡ Ok v → P) → (if b then one else two) ≡ Ok v → P
either true one two v P p q e = p e
either false one two v P p q e = q e

sound_by : (tree : CxxTree) (is : Form) (ps : List Part) → AreSound ps → (v : ℤ) → value_by tree is ps ≡ Ok v → missing_by tree is ps ≡ None
sound_by tree (form.Value own) ps all v e = refl
sound_by tree form.Other ps all v e = absurd (err_ok _ v e)
sound_by tree form.Cast [] all v e = absurd (err_ok _ v e)
sound_by tree form.Cast (p ∷ []) all v e = all.0 v e
sound_by tree form.Cast (p ∷ q ∷ ps) all v e = absurd (err_ok _ v e)
sound_by tree (form.Unary operator of) [] all v e = absurd (err_ok _ v e)
sound_by tree (form.Unary operator of) (p ∷ []) all v e = (let s = split p.value _ v e in all.0 s.0 s.1)
sound_by tree (form.Unary operator of) (p ∷ q ∷ ps) all v e = absurd (err_ok _ v e)
sound_by tree (form.Binary operator of) [] all v e = absurd (err_ok _ v e)
sound_by tree (form.Binary operator of) (p ∷ []) all v e = absurd (err_ok _ v e)
sound_by tree (form.Binary operator of) (p ∷ q ∷ []) all v e = (let s = split p.value _ v e in let t = split q.value _ v s.2 in both p.missing q.missing (all.0 s.0 s.1) (all.1.0 t.0 t.1))
sound_by tree (form.Binary operator of) (p ∷ q ∷ r ∷ ps) all v e = absurd (err_ok _ v e)
sound_by tree form.And [] all v e = absurd (err_ok _ v e)
sound_by tree form.And (p ∷ []) all v e = absurd (err_ok _ v e)
sound_by tree form.And (p ∷ q ∷ []) all v e = (let s = split p.value _ v e in both p.missing q.missing (all.0 s.0 s.1) (either (is_zero s.0) _ q.value v (q.missing ≡ None) (λ f. none_missing q.missing _ v f) (λ f. all.1.0 v f) s.2))
sound_by tree form.And (p ∷ q ∷ r ∷ ps) all v e = absurd (err_ok _ v e)
sound_by tree form.Or [] all v e = absurd (err_ok _ v e)
sound_by tree form.Or (p ∷ []) all v e = absurd (err_ok _ v e)
sound_by tree form.Or (p ∷ q ∷ []) all v e = (let s = split p.value _ v e in both p.missing q.missing (all.0 s.0 s.1) (either (is_zero s.0) q.value _ v (q.missing ≡ None) (λ f. all.1.0 v f) (λ f. none_missing q.missing _ v f) s.2))
sound_by tree form.Or (p ∷ q ∷ r ∷ ps) all v e = absurd (err_ok _ v e)
sound_by tree form.Conditional [] all v e = absurd (err_ok _ v e)
sound_by tree form.Conditional (p ∷ []) all v e = absurd (err_ok _ v e)
sound_by tree form.Conditional (p ∷ q ∷ []) all v e = absurd (err_ok _ v e)
sound_by tree form.Conditional (p ∷ q ∷ r ∷ []) all v e =
    let s = split p.value _ v e in
    both p.missing (or_else q.missing r.missing) (all.0 s.0 s.1) (either (is_zero s.0) (unless_missing q.missing r.value) _ v (or_else q.missing r.missing ≡ None)
    (λ f. both q.missing r.missing (none_missing q.missing r.value v f) (all.1.1.0 v (then_missing q.missing r.value v f)))
    (λ f. (let t = split q.value _ v f in both q.missing r.missing (all.1.0 t.0 t.1) (none_missing r.missing (Ok t.0) v t.2))) s.2)
sound_by tree form.Conditional (p ∷ q ∷ r ∷ o ∷ ps) all v e = absurd (err_ok _ v e)

over_sound : (graph : CxxGraph) (tree : CxxTree) (ps : List Part) → AreSound ps → IsSound (part_over graph tree ps)
over_sound graph tree ps all v e = (let s = split (value_by tree (form_of graph tree.label (labels ps)) ps) _ v e in sound_by tree (form_of graph tree.label (labels ps)) ps all s.0 s.1)

last_sound : (p : Part) (ps : List Part) → IsSound p → AreSound ps → IsSound (last_of p ps)
last_sound p [] one all = one
last_sound p (q ∷ ps) one all = last_sound q ps all.0 all.1

alone_sound : (ps : List Part) → AreSound ps → AreSound (last_alone ps)
alone_sound [] all = tt
alone_sound (p ∷ ps) all = (last_sound p ps all.0 all.1, tt)

operands_sound : (b : Bool) (ps : List Part) → AreSound ps → AreSound (if b then last_alone ps else ps)
operands_sound true ps all = alone_sound ps all
operands_sound false ps all = all

part_sound : (graph : CxxGraph) (tree : CxxTree) (ps : List Part) → AreSound ps → IsSound (part_by graph tree ps)
part_sound graph tree ps all = over_sound graph tree (operands_in tree.label ps) (operands_sound (nat_eq tree.label.production reading.cast) ps all)

parts_sound : (graph : CxxGraph) (trees : CxxTrees) → AreSound (parts graph trees)
parts_sound graph no_trees = tt
parts_sound graph (tree_then label children next) = (part_sound graph (record { label = label; children = children }) (parts graph children) (parts_sound graph children), parts_sound graph next)

pub constant_sound : (graph : CxxGraph) (tree : CxxTree) (v : ℤ) → constant graph tree ≡ Ok v → (part_of graph tree).missing ≡ None
unfolding constant part_of
constant_sound graph tree v e = part_sound graph tree (parts graph tree.children) (parts_sound graph tree.children) v e
