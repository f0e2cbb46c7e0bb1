-- What is kept says which members a class declares by itself.
use Rattle.std.specs.Prelude.{ℕ, ◌≡◌, Bool, not, List, Option}
use Rattle.std.specs.List.{list_all}
use Rattle.std.proofs.Math.Path.{fun_ext}
use Rattle.std.proofs.Common.{ap, ◌∙◌}
use Rattle.cxx_model.specs.declared.types.ClassId.{ClassId}
use Rattle.cxx_model.specs.declared.types.Cv.{Cv}
use Rattle.cxx_model.specs.Facts.Declarations.{CxxGraph}
use Rattle.cxx_implicit.specs.declared.deciding.Implied.{Implied}
use Rattle.cxx_implicit.specs.declared.index.SpecialMembers.{SpecialMembers}
use Rattle.cxx_implicit.specs.declared.specials.Special.{Special}
use Rattle.cxx_implicit.specs.Members.{assigned_cv, copied_cv, has_copy_assignment, has_copy_assignment_of_const, has_copy_constructor, has_copy_constructor_of_const, has_constructor, implied, only_const, parts_of, unless}
use Rattle.cxx_implicit.specs.Noted.{Notes, assigned_by_parts, copied_by_parts, implied_by, special_in}
use Rattle.cxx_implicit.specs.Rows.{row_at}

abbrev one_implied : Bool → Option Cv → Option Cv → Implied
one_implied a b c = record { default_constructor = a; copy_constructor = b; copy_assignment = c }

module _ (graph : CxxGraph) (kept : SpecialMembers) (class : ℕ) (noted : Notes kept graph.facts) where
  copied : copied_by_parts kept class ≡ list_all (λ part. has_copy_constructor_of_const graph part.0) (parts_of graph class)
  copied =
      ap (λ (test : ClassId → Bool). list_all test (row_at kept.parts class)) (fun_ext (λ (part : ClassId). ap (λ (s : Special). s.copies_const) (noted.specials part.0)))
      ∙ ap (λ (row : List ClassId). list_all (λ part. has_copy_constructor_of_const graph part.0) row) (noted.parts class)

  assigned : assigned_by_parts kept class ≡ list_all (λ part. has_copy_assignment_of_const graph part.0) (parts_of graph class)
  assigned =
      ap (λ (test : ClassId → Bool). list_all test (row_at kept.parts class)) (fun_ext (λ (part : ClassId). ap (λ (s : Special). s.assigns_const) (noted.specials part.0)))
      ∙ ap (λ (row : List ClassId). list_all (λ part. has_copy_assignment_of_const graph part.0) row) (noted.parts class)

  pub implied_is : implied_by kept class ≡ implied graph class
  implied_is =
      let before : Implied = implied_by kept class in
      let constructor : not (special_in kept.specials.items class).constructor ≡ not (has_constructor graph class) = ap (λ (s : Special). not s.constructor) (noted.specials class) in
      let copy : before.copy_constructor ≡ unless (has_copy_constructor graph class) (copied_cv graph class) =
      ap (λ (s : Special). unless s.copy_constructor (only_const (copied_by_parts kept class))) (noted.specials class) ∙ ap (λ (b : Bool). unless (has_copy_constructor graph class) (only_const b)) copied in
      let assignment : before.copy_assignment ≡ unless (has_copy_assignment graph class) (assigned_cv graph class) =
      ap (λ (s : Special). unless s.copy_assignment (only_const (assigned_by_parts kept class))) (noted.specials class) ∙ ap (λ (b : Bool). unless (has_copy_assignment graph class) (only_const b)) assigned in
      ap (λ (q : Bool). one_implied q before.copy_constructor before.copy_assignment) constructor
      ∙ ap (λ (q : Option Cv). one_implied (not (has_constructor graph class)) q before.copy_assignment) copy
      ∙ ap (one_implied (not (has_constructor graph class)) (unless (has_copy_constructor graph class) (copied_cv graph class))) assignment
