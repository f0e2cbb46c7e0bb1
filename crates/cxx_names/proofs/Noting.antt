-- What is kept after one more fact.
use Rattle.std.proofs.Common.{◌≡◌, ℕ, zero, suc, ◌+◌, ℤ, Bool, true, false, cond, ◌&&◌, List, [], ◌∷◌, ◌++◌, length, Option, Some, None, refl, sym, ap, ◌∙◌, subst, arith, append-nil, append_assoc, nat_eq}
use Rattle.std.specs.Global.{Vec}
use Rattle.std.specs.Map.{lookup}
use Rattle.std.specs.Option.{option_to_list}
use Rattle.std.proofs.lemmas.Bool.{eqb-true}
use Rattle.cxx_model.specs.declared.facts.Entity.{Entity}
use Rattle.cxx_model.specs.declared.facts.Entity.TheVariants as entity
use Rattle.cxx_model.specs.declared.facts.Fact.{Fact}
use Rattle.cxx_model.specs.declared.facts.Name.{Name}
use Rattle.cxx_model.specs.declared.facts.Name.TheVariants as name
use Rattle.cxx_model.specs.declared.types.ClassId.{ClassId}
use Rattle.cxx_model.specs.declared.types.EnumId.{EnumId}
use Rattle.cxx_model.specs.declared.types.FactId.{FactId}
use Rattle.cxx_model.specs.declared.types.ScopeId.{ScopeId}
use Rattle.cxx_model.specs.Facts.Conflicts.{declares_name, same_name}
use Rattle.cxx_model.specs.Facts.Declarations.{CxxName, declares_at, fact_at, facts_at, name_at, spelled}
use Rattle.cxx_model.specs.Types.Trees.{CxxType}
use Rattle.cxx_meaning.specs.Conversions.Enumerations.{values_in}
use Rattle.cxx_reading.specs.Seen.{declared_from, declares_in}
use Rattle.cxx_names.specs.declared.entry.Entry.{Entry}
use Rattle.cxx_names.specs.declared.entry.Noted.{Noted}
use Rattle.cxx_names.specs.declared.entry.Spelling.{Spelling}
use Rattle.cxx_names.specs.declared.kept.Kept.{Kept}
use Rattle.cxx_names.specs.declared.names.Names.{Names}
use Rattle.cxx_names.specs.Filed.{row, those_in, IsMoreBy}
use Rattle.cxx_names.specs.declared.words.Words.{Words}
use Rattle.cxx_names.specs.Words.{same_spelling, number_among, numbered_row, is_text, word_declared_by, IsNumbered, HasMet, HasWord}
use Rattle.cxx_names.proofs.Known.{one_name, sound_met, row_met, sound_more}
use Rattle.cxx_names.specs.Roles.{AreBelow, representative_by, representatives, role_by}
use Rattle.cxx_names.proofs.Sampling.{below_noted, sampled_noted}
use Rattle.cxx_names.specs.declared.entry.SpaceEntry.{SpaceEntry}
use Rattle.cxx_names.specs.declared.spaces.Spaces.{Spaces}
use Rattle.cxx_names.proofs.Holding.{held_push, scopes_are}
use Rattle.cxx_names.specs.Holders.{held_by, held_from, kind_in}
use Rattle.cxx_names.specs.Index.{class_by, class_scopes, of_class, same_class, under, enumeration_by, enumeration_scopes, directive_by, directives_of, opening_by, openings_from, unnamed_by, unnamed_of, KeepsSpaces, HasSpaces, same_scope, same_enumeration, filed_by, noted_by, value_by, is_outermost_kind, block_by, scopes_of, blocks_from, numbers_in, Keeps, Notes, AreSameKept, HasKept, HasNoted, friend_by, friends_of}

-- ---- declarations of a name

numbers_more : (types : List CxxType) (scope : ℕ) (word : CxxName) (n : ℕ) (facts : List Fact) (fact : Fact)
    → numbers_in (declared_from scope word n (facts_at types (facts ++ fact ∷ []))) ≡ cond (declares_in scope word (fact_at types fact)) (numbers_in (declared_from scope word n (facts_at types facts)) ++ record { 0 = n + length facts } ∷ []) (numbers_in (declared_from scope word n (facts_at types facts)))
numbers_more types scope word n [] fact = let e : n + 0 ≡ n = omega arith in rw e (by (declares_in scope word (fact_at types fact)))
  where
    by : (p : Bool) → numbers_in (cond p (record { number = n; fact = fact_at types fact } ∷ []) []) ≡ cond p (record { 0 = n } ∷ []) []
    by true = refl
    by false = refl
numbers_more types scope word n (one ∷ facts) fact =
    by (declares_in scope word (fact_at types one)) (declares_in scope word (fact_at types fact)) (numbers_more types scope word (suc n) facts fact ∙ ap (λ (k : ℕ). cond (declares_in scope word (fact_at types fact)) (later ++ record { 0 = k } ∷ []) later) place)
  where
    later : List FactId
    later = numbers_in (declared_from scope word (suc n) (facts_at types facts))

    place : suc n + length facts ≡ n + length (one ∷ facts)
    place = omega arith

    by : (p q : Bool) → numbers_in (declared_from scope word (suc n) (facts_at types (facts ++ fact ∷ []))) ≡ cond q (later ++ record { 0 = n + length (one ∷ facts) } ∷ []) later
        → numbers_in (cond p (record { number = n; fact = fact_at types one } ∷ declared_from scope word (suc n) (facts_at types (facts ++ fact ∷ []))) (declared_from scope word (suc n) (facts_at types (facts ++ fact ∷ []))))
        ≡ cond q (numbers_in (cond p (record { number = n; fact = fact_at types one } ∷ declared_from scope word (suc n) (facts_at types facts)) (declared_from scope word (suc n) (facts_at types facts))) ++ record { 0 = n + length (one ∷ facts) } ∷ []) (numbers_in (cond p (record { number = n; fact = fact_at types one } ∷ declared_from scope word (suc n) (facts_at types facts)) (declared_from scope word (suc n) (facts_at types facts))))
    by true true ih = ap (λ ns. record { 0 = n } ∷ ns) ih
    by true false ih = ap (λ ns. record { 0 = n } ∷ ns) ih
    by false true ih = ih
    by false false ih = ih

declares_alike : (types : List CxxType) (what : Entity) → declares_name (declares_at types what) ≡ declares_name (declares_at [] what)
declares_alike types (entity.Scope parent kind) = refl
declares_alike types (entity.Object of member is_mutable value first) = refl
declares_alike types (entity.Function of member flags defaults first) = refl
declares_alike types (entity.Template number member defaults is_explicit first) = refl
declares_alike types (entity.Parameter depth index of) = refl
declares_alike types (entity.Injected number) = refl
declares_alike types (entity.Class number is_union) = refl
declares_alike types (entity.Complete number) = refl
declares_alike types (entity.Passed number) = refl
declares_alike types (entity.Ancestor number parent index access) = refl
declares_alike types (entity.Enumeration number) = refl
declares_alike types (entity.Enumerator number value) = refl
declares_alike types (entity.Synonym of) = refl
declares_alike types (entity.Namespace inner) = refl
declares_alike types (entity.Directive nominated) = refl
declares_alike types (entity.Using target) = refl
declares_alike types (entity.Friend number target) = refl

named_alike : (types : List CxxType) (scope : ℕ) (word : List ℕ) (fact : Fact) → declares_in scope (spelled word) (fact_at types fact) ≡ (nat_eq fact.scope.0 scope && (declares_name (declares_at [] fact.what) && is_text fact.name word))
named_alike types scope word fact = ap (λ b. nat_eq fact.scope.0 scope && (b && (true && same_name (name_at types fact.name) (spelled word)))) (declares_alike types fact.what) ∙ by fact.name
  where
    by : (n : Name) → (nat_eq fact.scope.0 scope && (declares_name (declares_at [] fact.what) && (true && same_name (name_at types n) (spelled word)))) ≡ (nat_eq fact.scope.0 scope && (declares_name (declares_at [] fact.what) && is_text n word))
    by name.Unnamed = refl
    by (name.Spelled v) = refl
    by (name.Operator o) = refl
    by (name.Conversion of) = refl
    by name.Destructor = refl

-- the declarations of each name, with one more
pub names_noted : (types : List CxxType) (known : List (Vec ℕ)) (old new : List (Spelling × Vec FactId)) (facts : List Fact) (fact : Fact) (name : Option Spelling) (number : FactId) → number.0 ≡ length facts → IsNumbered known fact name
    → ((scope : ScopeId) (word : List ℕ) → numbered_row old scope (number_among known word) ≡ numbers_in (declared_from scope.0 (spelled word) zero (facts_at types facts)))
    → IsMoreBy same_spelling old new (filed_by number name)
    → (scope : ScopeId) (word : List ℕ) → numbered_row new scope (number_among known word) ≡ numbers_in (declared_from scope.0 (spelled word) zero (facts_at types (facts ++ fact ∷ [])))
names_noted types known old new facts fact name number n is kept more scope word =
    let test : Bool = nat_eq fact.scope.0 scope.0 && (declares_name (declares_at [] fact.what) && is_text fact.name word) in
    let before : List FactId = numbers_in (declared_from scope.0 (spelled word) zero (facts_at types facts)) in
    let place : 0 + length facts ≡ number.0 = omega (arith, n) in
    one_name known old new fact.scope number fact.name (declares_name (declares_at [] fact.what)) name is more scope word
    ∙ ap (λ ns. cond test (ns ++ number ∷ []) ns) (kept scope word)
    ∙ ap (λ k. cond test (before ++ record { 0 = k } ∷ []) before) (sym place)
    ∙ ap (λ t. cond t (before ++ record { 0 = 0 + length facts } ∷ []) before) (sym (named_alike types scope.0 word fact))
    ∙ sym (numbers_more types scope.0 (spelled word) zero facts fact)

-- ---- scopes and enumerations

pub scopes_more : (facts : List Fact) (fact : Fact) → scopes_of (facts ++ fact ∷ []) ≡ scopes_of facts ++ option_to_list (noted_by fact.scope fact.what)
scopes_more [] fact = append-nil _
scopes_more (one ∷ facts) fact = ap (λ xs. option_to_list (noted_by one.scope one.what) ++ xs) (scopes_more facts fact) ∙ sym (append_assoc (option_to_list (noted_by one.scope one.what)) (scopes_of facts) (option_to_list (noted_by fact.scope fact.what)))

blocks_more : (scope : ℕ) (n : ℕ) (scopes : List Noted) (noted : Noted)
    → blocks_from n scope (scopes ++ noted ∷ []) ≡ cond (is_outermost_kind noted.kind && nat_eq noted.parent.0 scope) (blocks_from n scope scopes ++ record { 0 = n + length scopes } ∷ []) (blocks_from n scope scopes)
blocks_more scope n [] noted = let e : n + 0 ≡ n = omega arith in rw e refl
blocks_more scope n (one ∷ scopes) noted =
    by (is_outermost_kind one.kind && nat_eq one.parent.0 scope) (is_outermost_kind noted.kind && nat_eq noted.parent.0 scope) (blocks_more scope (suc n) scopes noted ∙ ap (λ (k : ℕ). cond (is_outermost_kind noted.kind && nat_eq noted.parent.0 scope) (later ++ record { 0 = k } ∷ []) later) place)
  where
    later : List ScopeId
    later = blocks_from (suc n) scope scopes

    place : suc n + length scopes ≡ n + length (one ∷ scopes)
    place = omega arith

    by : (p q : Bool) → blocks_from (suc n) scope (scopes ++ noted ∷ []) ≡ cond q (later ++ record { 0 = n + length (one ∷ scopes) } ∷ []) later
        → cond p (record { 0 = n } ∷ blocks_from (suc n) scope (scopes ++ noted ∷ [])) (blocks_from (suc n) scope (scopes ++ noted ∷ [])) ≡ cond q (cond p (record { 0 = n } ∷ later) later ++ record { 0 = n + length (one ∷ scopes) } ∷ []) (cond p (record { 0 = n } ∷ later) later)
    by true true ih = ap (λ ns. record { 0 = n } ∷ ns) ih
    by true false ih = ap (λ ns. record { 0 = n } ∷ ns) ih
    by false true ih = ih
    by false false ih = ih

module _ (old new : List (ScopeId × Vec ScopeId)) (scopes : List Noted) (kept : (scope : ScopeId) → row same_scope old scope ≡ blocks_from zero scope.0 scopes) where
  abbrev of_scope : ℕ → List ScopeId
  of_scope m = those_in (lookup (λ k. nat_eq m k.0) old)

  one_block : (noted : Noted) (o : Bool) → is_outermost_kind noted.kind ≡ o → IsMoreBy same_scope old new (cond o (Some (noted.parent, record { 0 = length scopes })) None) → (scope : ScopeId) → row same_scope new scope ≡ blocks_from zero scope.0 (scopes ++ noted ∷ [])
  one_block noted false o more scope = more scope ∙ kept scope ∙ sym (blocks_more scope.0 zero scopes noted ∙ ap (λ b. cond (b && nat_eq noted.parent.0 scope.0) (blocks_from zero scope.0 scopes ++ record { 0 = zero + length scopes } ∷ []) (blocks_from zero scope.0 scopes)) o)
  one_block noted true o more scope =
      more scope ∙ same (nat_eq noted.parent.0 scope.0) refl
      ∙ ap (λ k. cond (nat_eq noted.parent.0 scope.0) (blocks_from zero scope.0 scopes ++ record { 0 = k } ∷ []) (blocks_from zero scope.0 scopes)) place
      ∙ sym (blocks_more scope.0 zero scopes noted ∙ ap (λ b. cond (b && nat_eq noted.parent.0 scope.0) (blocks_from zero scope.0 scopes ++ record { 0 = zero + length scopes } ∷ []) (blocks_from zero scope.0 scopes)) o)
    where
      place : length scopes ≡ zero + length scopes
      place = omega arith

      same : (t : Bool) → nat_eq noted.parent.0 scope.0 ≡ t → cond t (row same_scope old noted.parent ++ record { 0 = length scopes } ∷ []) (row same_scope old scope) ≡ cond t (blocks_from zero scope.0 scopes ++ record { 0 = length scopes } ∷ []) (blocks_from zero scope.0 scopes)
      same true e = ap (λ ns. ns ++ record { 0 = length scopes } ∷ []) (ap of_scope (eqb-true noted.parent.0 scope.0 e) ∙ kept scope)
      same false e = kept scope

  blocks_noted : (noted : Option Noted) → IsMoreBy same_scope old new (block_by (length scopes) noted) → (scope : ScopeId) → row same_scope new scope ≡ blocks_from zero scope.0 (scopes ++ option_to_list noted)
  blocks_noted None more scope = more scope ∙ kept scope ∙ ap (blocks_from zero scope.0) (sym (append-nil scopes))
  blocks_noted (Some noted) more scope = one_block noted (is_outermost_kind noted.kind) refl more scope

enumerations_more : (facts : List Fact) (fact : Fact) → enumeration_scopes (facts ++ fact ∷ []) ≡ enumeration_scopes facts ++ option_to_list (enumeration_by fact.scope fact.what)
enumerations_more [] fact = append-nil _
enumerations_more (one ∷ facts) fact = ap (λ xs. option_to_list (enumeration_by one.scope one.what) ++ xs) (enumerations_more facts fact) ∙ sym (append_assoc (option_to_list (enumeration_by one.scope one.what)) (enumeration_scopes facts) (option_to_list (enumeration_by fact.scope fact.what)))

-- 7.2: the values of one more fact
abbrev value_for : ℕ → Option (EnumId × ℤ) → List ℤ
value_for n None = []
value_for n (Some one) = cond (nat_eq one.0.0 n) (one.1 ∷ []) []

value_head : (types : List CxxType) (n : ℕ) (fact : Fact) (facts : List Fact) → values_in n (facts_at types (fact ∷ facts)) ≡ value_for n (value_by fact.what) ++ values_in n (facts_at types facts)
value_head types n fact facts = by fact.what
  where
    one : (t : Bool) (value : ℤ) (vs : List ℤ) → cond t (value ∷ vs) vs ≡ cond t (value ∷ []) [] ++ vs
    one true value vs = refl
    one false value vs = refl

    by : (what : Entity) → values_in n (fact_at types (record fact { what = what }) ∷ facts_at types facts) ≡ value_for n (value_by what) ++ values_in n (facts_at types facts)
    by (entity.Enumerator number value) = one (nat_eq number.0 n) value (values_in n (facts_at types facts))
    by _ = refl

values_more : (types : List CxxType) (n : ℕ) (facts : List Fact) (fact : Fact) → values_in n (facts_at types (facts ++ fact ∷ [])) ≡ values_in n (facts_at types facts) ++ value_for n (value_by fact.what)
values_more types n [] fact = value_head types n fact [] ∙ append-nil _
values_more types n (one ∷ facts) fact =
    value_head types n one (facts ++ fact ∷ [])
    ∙ ap (λ vs. value_for n (value_by one.what) ++ vs) (values_more types n facts fact)
    ∙ sym (append_assoc (value_for n (value_by one.what)) (values_in n (facts_at types facts)) (value_for n (value_by fact.what)))
    ∙ ap (λ vs. vs ++ value_for n (value_by fact.what)) (sym (value_head types n one facts))

module _ (types : List CxxType) (old new : List (EnumId × Vec ℤ)) (facts : List Fact) (kept : (number : EnumId) → row same_enumeration old number ≡ values_in number.0 (facts_at types facts)) where
  abbrev of_number : ℕ → List ℤ
  of_number m = those_in (lookup (λ k. nat_eq m k.0) old)

  values_noted : (one : Option (EnumId × ℤ)) → IsMoreBy same_enumeration old new one → (number : EnumId) → row same_enumeration new number ≡ values_in number.0 (facts_at types facts) ++ value_for number.0 one
  values_noted None more number = more number ∙ kept number ∙ sym (append-nil _)
  values_noted (Some one) more number = more number ∙ same (nat_eq one.0.0 number.0) refl
    where
      same : (t : Bool) → nat_eq one.0.0 number.0 ≡ t → cond t (row same_enumeration old one.0 ++ one.1 ∷ []) (row same_enumeration old number) ≡ values_in number.0 (facts_at types facts) ++ cond t (one.1 ∷ []) []
      same true e = ap (λ vs. vs ++ one.1 ∷ []) (ap of_number (eqb-true one.0.0 number.0 e) ∙ kept number)
      same false e = kept number ∙ sym (append-nil _)

-- ---- what is filed under scopes

under_append : {V : Type 0} (scope : ScopeId) (xs ys : List (ScopeId × V)) → under scope (xs ++ ys) ≡ under scope xs ++ under scope ys
under_append scope [] ys = refl
under_append scope (x ∷ xs) ys = by (nat_eq x.0.0 scope.0) (under_append scope xs ys)
  where
    by : (t : Bool) → under scope (xs ++ ys) ≡ under scope xs ++ under scope ys → cond t (x.1 ∷ under scope (xs ++ ys)) (under scope (xs ++ ys)) ≡ cond t (x.1 ∷ under scope xs) (under scope xs) ++ under scope ys
    by true e = ap (λ vs. x.1 ∷ vs) e
    by false e = e

module _ {V : Type 0} (old new : List (ScopeId × Vec V)) (entries : List (ScopeId × V)) (kept : (scope : ScopeId) → row same_scope old scope ≡ under scope entries) where
  abbrev in_scope : ℕ → List V
  in_scope m = those_in (lookup (λ k. nat_eq m k.0) old)

  rows_noted : (one : Option (ScopeId × V)) → IsMoreBy same_scope old new one → (scope : ScopeId) → row same_scope new scope ≡ under scope (entries ++ option_to_list one)
  rows_noted None more scope = more scope ∙ kept scope ∙ ap (under scope) (sym (append-nil entries))
  rows_noted (Some one) more scope = more scope ∙ same (nat_eq one.0.0 scope.0) refl ∙ sym (under_append scope entries (one ∷ []))
    where
      same : (t : Bool) → nat_eq one.0.0 scope.0 ≡ t → cond t (row same_scope old one.0 ++ one.1 ∷ []) (row same_scope old scope) ≡ under scope entries ++ cond t (one.1 ∷ []) []
      same true e = ap (λ vs. vs ++ one.1 ∷ []) (ap in_scope (eqb-true one.0.0 scope.0 e) ∙ kept scope)
      same false e = kept scope ∙ sym (append-nil _)

directives_more : (facts : List Fact) (fact : Fact) → directives_of (facts ++ fact ∷ []) ≡ directives_of facts ++ option_to_list (directive_by fact.scope fact.what)
directives_more [] fact = append-nil _
directives_more (one ∷ facts) fact = ap (λ xs. option_to_list (directive_by one.scope one.what) ++ xs) (directives_more facts fact) ∙ sym (append_assoc (option_to_list (directive_by one.scope one.what)) (directives_of facts) (option_to_list (directive_by fact.scope fact.what)))

unnamed_more : (facts : List Fact) (fact : Fact) → unnamed_of (facts ++ fact ∷ []) ≡ unnamed_of facts ++ option_to_list (unnamed_by fact.scope fact.name fact.what)
unnamed_more [] fact = append-nil _
unnamed_more (one ∷ facts) fact = ap (λ xs. option_to_list (unnamed_by one.scope one.name one.what) ++ xs) (unnamed_more facts fact) ∙ sym (append_assoc (option_to_list (unnamed_by one.scope one.name one.what)) (unnamed_of facts) (option_to_list (unnamed_by fact.scope fact.name fact.what)))

openings_more : (n : ℕ) (facts : List Fact) (fact : Fact) → openings_from n (facts ++ fact ∷ []) ≡ openings_from n facts ++ option_to_list (opening_by (record { 0 = n + length facts }) fact.what)
openings_more n [] fact = append-nil _ ∙ ap (λ (k : ℕ). option_to_list (opening_by (record { 0 = k }) fact.what)) place
  where
    place : n ≡ n + 0
    place = omega arith
openings_more n (one ∷ facts) fact =
    ap (λ xs. option_to_list (opening_by (record { 0 = n }) one.what) ++ xs) (openings_more (suc n) facts fact ∙ ap (λ (k : ℕ). openings_from (suc n) facts ++ option_to_list (opening_by (record { 0 = k }) fact.what)) place)
    ∙ sym (append_assoc (option_to_list (opening_by (record { 0 = n }) one.what)) (openings_from (suc n) facts) (option_to_list (opening_by (record { 0 = n + length (one ∷ facts) }) fact.what)))
  where
    place : suc n + length facts ≡ n + length (one ∷ facts)
    place = omega arith

spaces_more : (old new : Spaces) (one : SpaceEntry) (facts : List Fact) (fact : Fact) (number : FactId) → number.0 ≡ length facts
    → one.directive ≡ directive_by fact.scope fact.what → one.opening ≡ opening_by number fact.what → one.unnamed ≡ unnamed_by fact.scope fact.name fact.what
    → KeepsSpaces old facts → HasSpaces old new one → KeepsSpaces new (facts ++ fact ∷ [])
spaces_more old new one facts fact number n directive opening unnamed kept has = record {
  directives = λ scope. rows_noted old.directives.rows.entries new.directives.rows.entries (directives_of facts) kept.directives (directive_by fact.scope fact.what) (subst (λ o. IsMoreBy same_scope old.directives.rows.entries new.directives.rows.entries o) directive has.directives) scope ∙ ap (under scope) (sym (directives_more facts fact));
  openings = λ scope. rows_noted old.openings.rows.entries new.openings.rows.entries (openings_from zero facts) kept.openings (opening_by number fact.what) (subst (λ o. IsMoreBy same_scope old.openings.rows.entries new.openings.rows.entries o) opening has.openings) scope ∙ (ap (λ (k : ℕ). under scope (openings_from zero facts ++ option_to_list (opening_by (record { 0 = k }) fact.what))) (n ∙ place) ∙ ap (under scope) (sym (openings_more zero facts fact)));
  unnamed = λ scope. rows_noted old.unnamed.rows.entries new.unnamed.rows.entries (unnamed_of facts) kept.unnamed (unnamed_by fact.scope fact.name fact.what) (subst (λ o. IsMoreBy same_scope old.unnamed.rows.entries new.unnamed.rows.entries o) unnamed has.unnamed) scope ∙ ap (under scope) (sym (unnamed_more facts fact));
}
  where
    place : length facts ≡ zero + length facts
    place = omega arith

-- ---- what is filed under classes

of_class_append : {V : Type 0} (class : ClassId) (xs ys : List (ClassId × V)) → of_class class (xs ++ ys) ≡ of_class class xs ++ of_class class ys
of_class_append class [] ys = refl
of_class_append class (x ∷ xs) ys = by (nat_eq x.0.0 class.0) (of_class_append class xs ys)
  where
    by : (t : Bool) → of_class class (xs ++ ys) ≡ of_class class xs ++ of_class class ys → cond t (x.1 ∷ of_class class (xs ++ ys)) (of_class class (xs ++ ys)) ≡ cond t (x.1 ∷ of_class class xs) (of_class class xs) ++ of_class class ys
    by true e = ap (λ vs. x.1 ∷ vs) e
    by false e = e

module _ {V : Type 0} (old new : List (ClassId × Vec V)) (entries : List (ClassId × V)) (kept : (class : ClassId) → row same_class old class ≡ of_class class entries) where
  abbrev in_class : ℕ → List V
  in_class m = those_in (lookup (λ k. nat_eq m k.0) old)

  classes_noted : (one : Option (ClassId × V)) → IsMoreBy same_class old new one → (class : ClassId) → row same_class new class ≡ of_class class (entries ++ option_to_list one)
  classes_noted None more class = more class ∙ kept class ∙ ap (of_class class) (sym (append-nil entries))
  classes_noted (Some one) more class = more class ∙ same (nat_eq one.0.0 class.0) refl ∙ sym (of_class_append class entries (one ∷ []))
    where
      same : (t : Bool) → nat_eq one.0.0 class.0 ≡ t → cond t (row same_class old one.0 ++ one.1 ∷ []) (row same_class old class) ≡ of_class class entries ++ cond t (one.1 ∷ []) []
      same true e = ap (λ vs. vs ++ one.1 ∷ []) (ap in_class (eqb-true one.0.0 class.0 e) ∙ kept class)
      same false e = kept class ∙ sym (append-nil _)

classes_more : (facts : List Fact) (fact : Fact) → class_scopes (facts ++ fact ∷ []) ≡ class_scopes facts ++ option_to_list (class_by fact.scope fact.what)
classes_more [] fact = append-nil _
classes_more (one ∷ facts) fact = ap (λ xs. option_to_list (class_by one.scope one.what) ++ xs) (classes_more facts fact) ∙ sym (append_assoc (option_to_list (class_by one.scope one.what)) (class_scopes facts) (option_to_list (class_by fact.scope fact.what)))

friends_more : (facts : List Fact) (fact : Fact) → friends_of (facts ++ fact ∷ []) ≡ friends_of facts ++ option_to_list (friend_by fact.what)
friends_more [] fact = append-nil _
friends_more (one ∷ facts) fact = ap (λ xs. option_to_list (friend_by one.what) ++ xs) (friends_more facts fact) ∙ sym (append_assoc (option_to_list (friend_by one.what)) (friends_of facts) (option_to_list (friend_by fact.what)))

keeps_more : (old new : Kept) (one : Entry) (facts : List Fact) (fact : Fact) (number : FactId) → number.0 ≡ length facts → one.noted ≡ noted_by fact.scope fact.what → one.block ≡ block_by (length (scopes_of facts)) (noted_by fact.scope fact.what) → one.value ≡ value_by fact.what → one.enumeration ≡ enumeration_by fact.scope fact.what → one.class ≡ class_by fact.scope fact.what → one.holder ≡ held_by (length (scopes_of facts)) (kind_in fact.what) → one.friend ≡ friend_by fact.what
    → one.space.directive ≡ directive_by fact.scope fact.what → one.space.opening ≡ opening_by number fact.what → one.space.unnamed ≡ unnamed_by fact.scope fact.name fact.what
    → Keeps old facts → HasKept old new one → Keeps new (facts ++ fact ∷ [])
keeps_more old new one facts fact number n noted block value counts class holder friend directive opening unnamed kept has = record {
  scopes = has.scopes ∙ (ap (λ xs. xs ++ option_to_list one.noted) kept.scopes ∙ (ap (λ o. scopes_of facts ++ option_to_list o) noted ∙ sym (scopes_more facts fact)));
  blocks = λ scope. blocks_noted old.blocks.rows.entries new.blocks.rows.entries (scopes_of facts) kept.blocks (noted_by fact.scope fact.what) (subst (λ o. IsMoreBy same_scope old.blocks.rows.entries new.blocks.rows.entries o) block has.blocks) scope ∙ ap (blocks_from zero scope.0) (sym (scopes_more facts fact));
  enumerations = has.enumerations ∙ (ap (λ xs. xs ++ option_to_list one.enumeration) kept.enumerations ∙ (ap (λ o. enumeration_scopes facts ++ option_to_list o) counts ∙ sym (enumerations_more facts fact)));
  values = λ number types. values_noted types old.values.rows.entries new.values.rows.entries facts (λ n. kept.values n types) (value_by fact.what) (subst (λ o. IsMoreBy same_enumeration old.values.rows.entries new.values.rows.entries o) value has.values) number ∙ sym (values_more types number.0 facts fact);
  classes = λ of. classes_noted old.classes.rows.entries new.classes.rows.entries (class_scopes facts) kept.classes (class_by fact.scope fact.what) (subst (λ o. IsMoreBy same_class old.classes.rows.entries new.classes.rows.entries o) class has.classes) of ∙ ap (of_class of) (sym (classes_more facts fact));
  holders = λ of. classes_noted old.holders.rows.entries new.holders.rows.entries (held_from zero facts) kept.holders (held_by (length (scopes_of facts)) (kind_in fact.what)) (subst (λ o. IsMoreBy same_class old.holders.rows.entries new.holders.rows.entries o) holder has.holders) of ∙ (ap (λ k. of_class of (held_from zero facts ++ option_to_list (held_by k (kind_in fact.what)))) (scopes_are facts) ∙ ap (of_class of) (sym (held_push zero facts fact)));
  friends = λ of. classes_noted old.friends.rows.entries new.friends.rows.entries (friends_of facts) kept.friends (friend_by fact.what) (subst (λ o. IsMoreBy same_class old.friends.rows.entries new.friends.rows.entries o) friend has.friends) of ∙ ap (of_class of) (sym (friends_more facts fact));
  spaces = spaces_more old.spaces new.spaces one.space facts fact number n directive opening unnamed kept.spaces has.spaces;
}

pub same_kept : (kept : Kept) → AreSameKept kept kept
same_kept kept = record {
  scopes = refl;
  blocks = λ scope. refl;
  enumerations = refl;
  values = λ number. refl;
  classes = λ class. refl;
  holders = λ class. refl;
  friends = λ class. refl;
  spaces = record { directives = λ scope. refl; openings = λ scope. refl; unnamed = λ scope. refl };
}

-- ---- all of it

-- more spellings were met
pub notes_met : (old : Names) (words : Words) (facts : List Fact) → Notes old facts → HasMet old.words words → Notes (record old { words = words }) facts
notes_met old words facts notes met = record {
  sound = sound_met old.words words notes.sound met;
  words = λ scope word types. row_met old.words words notes.sound met scope word ∙ notes.words scope word types;
  below = λ key. subst (λ es. AreBelow (length facts) (row same_spelling es key)) (sym met.rows) (notes.below key);
  representatives = λ key. notes.representatives key ∙ ap (λ es. representatives facts [] (row same_spelling es key)) (sym met.rows);
  kept = notes.kept;
}

pub notes_more : (old new : Names) (one : Entry) (facts : List Fact) (fact : Fact) (name : Option Spelling) (number : FactId) (scopes : ℕ) → number.0 ≡ length facts → scopes ≡ length (scopes_of facts) → IsNumbered old.words.spellings.keys fact name
    → one.name ≡ filed_by number name → one.representative ≡ representative_by facts old.representatives.rows.entries (role_by number.0 fact.what) number name
    → one.noted ≡ noted_by fact.scope fact.what → one.block ≡ block_by scopes (noted_by fact.scope fact.what) → one.value ≡ value_by fact.what → one.enumeration ≡ enumeration_by fact.scope fact.what → one.class ≡ class_by fact.scope fact.what → one.holder ≡ held_by scopes (kind_in fact.what) → one.friend ≡ friend_by fact.what
    → one.space.directive ≡ directive_by fact.scope fact.what → one.space.opening ≡ opening_by number fact.what → one.space.unnamed ≡ unnamed_by fact.scope fact.name fact.what
    → Notes old facts → HasNoted old new one → Notes new (facts ++ fact ∷ [])
notes_more old new one facts fact name number scopes n m is filed chosen noted block value counts class holder friend directive opening unnamed notes has =
    let has_word : HasWord old.words new.words (filed_by number name) = subst (λ o. HasWord old.words new.words o) filed has.words in
    record {
      sound = sound_more old.words new.words fact.scope (word_declared_by fact) name number notes.sound is has_word;
      words = λ scope word types. ap (λ ks. numbered_row new.words.rows.rows.entries scope (number_among ks word)) has_word.spellings ∙ names_noted types old.words.spellings.keys old.words.rows.rows.entries new.words.rows.rows.entries facts fact name number n is (λ s w. notes.words s w types) has_word.rows scope word;
      below = below_noted facts fact number n old.words.rows.rows.entries new.words.rows.rows.entries notes.below name has_word.rows;
      representatives = sampled_noted facts fact number n old.words.rows.rows.entries new.words.rows.rows.entries notes.below old.representatives.rows.entries new.representatives.rows.entries notes.representatives name has_word.rows (subst (λ o. IsMoreBy same_spelling old.representatives.rows.entries new.representatives.rows.entries o) chosen has.representatives);
      kept = keeps_more old.kept new.kept one facts fact number n noted (block ∙ ap (λ k. block_by k (noted_by fact.scope fact.what)) m) value counts class (holder ∙ ap (λ k. held_by k (kind_in fact.what)) m) friend directive opening unnamed notes.kept has.kept;
    }
