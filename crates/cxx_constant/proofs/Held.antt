-- A constant is one of the values of its type.
use Rattle.std.proofs.Common.{◌≡◌, ◌<◌, Bool, true, false, List, refl, ap, sym, ◌∙◌, Ok, Err, ℤ}
use Rattle.std.specs.Prelude.{if◌then◌else◌}
use Rattle.std.proofs.lemmas.Bool.{ltb-true}
use Rattle.cxx_model.specs.declared.base.Base.{Base}
use Rattle.cxx_model.specs.Facts.Declarations.{CxxGraph}
use Rattle.cxx_model.specs.Types.Integral.{holds, width}
use Rattle.cxx_meaning.specs.Conversions.Kinds.{CxxKind, arithmetic}
use Rattle.cxx_computed.specs.Formulas.{is_integral, value_as}
use Rattle.cxx_computed.proofs.Converted.{converted_held}
use Rattle.cxx_reading.specs.Trees.{CxxTree}
use Rattle.cxx_constant.specs.declared.form.Form.{Form}
use Rattle.cxx_constant.specs.declared.form.Form.TheVariants as form
use Rattle.cxx_constant.specs.Constants.{constant, labels, operands_in, part_of, parts, value_by, CxxValue, Part, ◌then◌}
use Rattle.cxx_constant.specs.Forms.{form_by, form_of, is_integral_kind, kind_of_expression}

as_held : (of : Base) (found : CxxValue) (value : ℤ) → 0 < width of → (found then λ v. Ok (value_as (arithmetic of) v)) ≡ Ok value → holds of value ≡ true
as_held of (Ok v) value wide e = (let same : value_as (arithmetic of) v ≡ value = cc in ap (holds of) (sym same) ∙ converted_held of v wide)
as_held of (Err why) value wide e = absurd (cc)

none : (tree : CxxTree) (kind : CxxKind) (whole : List Part) (value : ℤ) → (value_by tree form.Other whole then λ v. Ok (value_as kind v)) ≡ Ok value → ⊥
none tree kind whole value e = cc

by_test : (b : Bool) (of : Base) (tree : CxxTree) (is : Form) (whole : List Part) (value : ℤ) → is_integral of ≡ b → (value_by tree (if b then is else form.Other) whole then λ v. Ok (value_as (arithmetic of) v)) ≡ Ok value → holds of value ≡ true
by_test true of tree is whole value e so = as_held of (value_by tree is whole) value (ltb-true 0 (width of) e) so
by_test false of tree is whole value e so = absurd (none tree (arithmetic of) whole value so)

pub constant_held : (graph : CxxGraph) (tree : CxxTree) (of : Base) (value : ℤ) → kind_of_expression tree.label ≡ arithmetic of → constant graph tree ≡ Ok value → holds of value ≡ true
unfolding constant part_of form_of
constant_held graph tree of value kind so =
    let whole : List Part = operands_in tree.label (parts graph tree.children) in
    let is : Form = form_by graph tree.label (labels whole) in
    let said : CxxKind → CxxValue = λ k. value_by tree (if is_integral_kind k then is else form.Other) whole then λ v. Ok (value_as k v) in
    by_test (is_integral of) of tree is whole value refl (sym (ap said kind) ∙ so)
