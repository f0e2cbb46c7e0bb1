-- Conversions to bases, casts back, and operators of classes, written and shown as other trees are (4.10, 5.2.9, 8.5.3,
-- 10.2, 13.3.1.2).
use Rattle.std.specs.Prelude.{◌≡◌, [], ◌∷◌, None, Ok, Err, codes, refl}
use Rattle.cxx_model.specs.declared.fault.FaultText.TheVariants as says
use Rattle.cxx_model.specs.Stops.{Stopped, fault, not_built_at}
use Rattle.cxx_model.specs.Types.Trees.{pointer_to, reference_to}
use Rattle.cxx_expr.specs.Bases.{ambiguous_base_at}
use Rattle.cxx_expr.proofs.Sample.{assigned_to, begins, binary, call, class_d, class_l, class_v, constant, gives, name, node, prefix, text, to_type}

-- v = l, k(o), const V &r = o
conversion_rows : (gives (assigned_to (codes "=") (name (codes "v")) (name (codes "l"))) ≡ Ok (codes "=(v, <C0*>(l)) : C0*&"))
    × (gives (call (codes "k") (name (codes "o") ∷ [])) ≡ Ok (codes "k(<C0&>(o)) : void"))
    × (begins (reference_to (constant class_v)) (node 22 (codes "=") None (name (codes "o") ∷ [])) ≡ Ok (codes "=<const C0&>(<const C0&>(o))"))
unfolding gives begins
conversion_rows = (refl, refl, refl)

-- static_cast<V &>(o), (const V &)o, static_cast<L *>(v), (L *)v, (L &)w
cast_rows : (gives (to_type (codes "static_cast") (reference_to class_v) (name (codes "o"))) ≡ Ok (codes "static_cast<C0&>(o) : C0&"))
    × (gives (to_type (codes "(") (reference_to (constant class_v)) (name (codes "o"))) ≡ Ok (codes "static_cast<const C0&>(o) : const C0&"))
    × (gives (to_type (codes "static_cast") (pointer_to class_l) (name (codes "v"))) ≡ Ok (codes "static_cast<C1*>(v) : C1*"))
    × (gives (to_type (codes "(") (pointer_to class_l) (name (codes "v"))) ≡ Ok (codes "static_cast<C1*>(v) : C1*"))
    × (gives (to_type (codes "(") (reference_to class_l) (name (codes "w"))) ≡ Ok (codes "const_cast<C1&>(static_cast<const C1&>(w)) : C1&"))
unfolding gives
cast_rows = (refl, refl, refl, refl, refl)

-- from `D` to `V` through `L`, and through `R`
abbrev ambiguous : Stopped
ambiguous = ambiguous_base_at (record { line = 1; column = 2 }) (1 ∷ 1 ∷ []) (2 ∷ 1 ∷ [])

-- v = d, at the operand; V *v = d, static_cast<V *>(d), (V &)w
ambiguous_rows : (gives (assigned_to (codes "=") (name (codes "v")) (name (codes "d"))) ≡ Err (ambiguous_base_at (record { line = 1; column = 1 }) (1 ∷ 1 ∷ []) (2 ∷ 1 ∷ [])))
    × (begins (pointer_to class_v) (node 22 (codes "=") None (name (codes "d") ∷ [])) ≡ Err ambiguous)
    × (gives (to_type (codes "static_cast") (pointer_to class_v) (name (codes "d"))) ≡ Err ambiguous)
    × (gives (to_type (codes "(") (reference_to class_v) (name (codes "w"))) ≡ Err ambiguous)
unfolding gives begins
ambiguous_rows = (refl, refl, refl, refl)

-- 5.2.9 p8: static_cast<D *>(v), with two ways down; static_cast<L &>(w), which loses a word
cast_faults : (gives (to_type (codes "static_cast") (pointer_to class_d) (name (codes "v"))) ≡ Err (fault (record { line = 1; column = 2 }) says.OperandsDoNotFit))
    × (gives (to_type (codes "static_cast") (reference_to class_l) (name (codes "w"))) ≡ Err (fault (record { line = 1; column = 2 }) says.OperandsDoNotFit))
unfolding gives
cast_faults = (refl, refl)

-- 13.3.1.2 p9: &o, &w, (o, w), (1, w); -o asks for a function
operator_rows : (gives (prefix (codes "&") (name (codes "o"))) ≡ Ok (codes "&(o) : C1*"))
    × (gives (prefix (codes "&") (name (codes "w"))) ≡ Ok (codes "&(w) : const C3*"))
    × (gives (assigned_to (codes ",") (name (codes "o")) (name (codes "w"))) ≡ Ok (codes ",(o, w) : const C3&"))
    × (gives (assigned_to (codes ",") (text (codes "1")) (name (codes "w"))) ≡ Ok (codes ",(1, w) : const C3&"))
    × (gives (prefix (codes "-") (name (codes "o"))) ≡ Err (not_built_at (record { line = 1; column = 2 })))
    × (gives (binary (codes "+") (name (codes "o")) (text (codes "1"))) ≡ Err (not_built_at (record { line = 1; column = 2 })))
unfolding gives
operator_rows = (refl, refl, refl, refl, refl, refl)
