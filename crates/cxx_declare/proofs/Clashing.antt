-- What stands in the way of a declaration, in its scope and in its namespace.
use Rattle.std.specs.Prelude.{ℕ, zero, suc, ◌≡◌, Bool, true, false, not, ◌&&◌, if◌then◌else◌, nat_eq, List, [], ◌∷◌, Option, Some, None, option_map, refl}
use Rattle.std.specs.List.{slice_get}
use Rattle.std.proofs.Common.{ap, sym, ◌∙◌}
use Rattle.cxx_model.specs.declared.facts.Fact.{Fact}
use Rattle.cxx_model.specs.declared.facts.Name.{Name}
use Rattle.cxx_model.specs.declared.facts.Name.TheVariants as name
use Rattle.cxx_model.specs.declared.types.FactId.{FactId}
use Rattle.cxx_model.specs.Facts.Conflicts.{declares_name}
use Rattle.cxx_model.specs.Facts.Declarations.{CxxFact, CxxGraph, fact_at, facts_at, graph_at, name_at, unnamed}
use Rattle.cxx_model.specs.Types.Same.{same_bool}
use Rattle.cxx_model.specs.Types.Trees.{CxxType}
use Rattle.cxx_names.specs.Clashes.{IsPlainName}
use Rattle.cxx_reading.specs.Linked.{first_apart, home_of, is_among, is_apart, linked_among, linked_in}
use Rattle.cxx_reading.specs.Seen.{Numbered, declared_from, declared_in, fact_numbers, numbered_at, numbered_by}
use Rattle.cxx_reading.specs.State.{CxxState}
use Rattle.cxx_declare.specs.Made.{is_object_there}
use Rattle.cxx_declare.proofs.Firsts.{fact_seen}
use Rattle.cxx_tree.specs.Held.{Held, meaning, numbers_at}

-- ---- what has no name

and_false : (b : Bool) → (b && false) ≡ false
and_false true = refl
and_false false = refl

unlinked : (graph : CxxGraph) (space : ℕ) (all : List Numbered) → linked_among graph space unnamed all ≡ []
unlinked graph space [] = refl
unlinked graph space (one ∷ others) = ap (λ b. if b then one ∷ linked_among graph space unnamed others else linked_among graph space unnamed others) (and_false (nat_eq (home_of graph one.fact.scope) space)) ∙ unlinked graph space others

linked_unnamed : (held : Held) (space : ℕ) → [] ≡ linked_in (meaning held) space unnamed
unfolding meaning linked_in
linked_unnamed held space = sym (unlinked (graph_at held.types held.graph) space (numbered_at (graph_at held.types held.graph) (numbers_at held.linked)))

undeclared : (scope n : ℕ) (facts : List CxxFact) → declared_from scope unnamed n facts ≡ []
undeclared scope n [] = refl
undeclared scope n (one ∷ others) =
    ap (λ b. if b then record { number = n; fact = one } ∷ declared_from scope unnamed (suc n) others else declared_from scope unnamed (suc n) others)
    (ap (λ b. nat_eq one.scope scope && b) (and_false (declares_name one.what)) ∙ and_false (nat_eq one.scope scope))
    ∙ undeclared scope (suc n) others

declared_unnamed : (held : Held) (scope : ℕ) → [] ≡ declared_in (meaning held).graph scope unnamed
unfolding meaning declared_in
declared_unnamed held scope = sym (undeclared scope zero (facts_at held.types held.graph.facts))

-- a name that is not spelled is none
unspelled : (n : Name) → IsPlainName n → ((word : List ℕ) → n ≡ name.Spelled word → ⊥) → n ≡ name.Unnamed
unspelled name.Unnamed plain not_spelled = refl
unspelled (name.Spelled word) plain not_spelled = absurd (not_spelled word refl)
unspelled (name.Operator o) plain not_spelled = absurd plain
unspelled (name.Conversion of) plain not_spelled = absurd plain
unspelled name.Destructor plain not_spelled = absurd plain

pub linked_nothing : (held : Held) (space : ℕ) (n : Name) (numbers : List FactId) → IsPlainName n → ((word : List ℕ) → n ≡ name.Spelled word → ⊥) → numbers ≡ [] → numbered_at (meaning held).graph (fact_numbers numbers) ≡ linked_in (meaning held) space (name_at held.types n)
linked_nothing held space n numbers plain not_spelled none =
    ap (λ ns. numbered_at (meaning held).graph (fact_numbers ns)) none
    ∙ linked_unnamed held space
    ∙ sym (ap (λ (m : Name). linked_in (meaning held) space (name_at held.types m)) (unspelled n plain not_spelled))

pub declared_nothing : (held : Held) (scope : ℕ) (n : Name) (numbers : List FactId) → IsPlainName n → ((word : List ℕ) → n ≡ name.Spelled word → ⊥) → numbers ≡ [] → numbered_at (meaning held).graph (fact_numbers numbers) ≡ declared_in (meaning held).graph scope (name_at held.types n)
declared_nothing held scope n numbers plain not_spelled none =
    ap (λ ns. numbered_at (meaning held).graph (fact_numbers ns)) none
    ∙ declared_unnamed held scope
    ∙ sym (ap (λ (m : Name). declared_in (meaning held).graph scope (name_at held.types m)) (unspelled n plain not_spelled))

-- ---- objects of blocks

abbrev apart_by : CxxState → Bool → ℕ → Option CxxFact → Bool
apart_by state linked n None = false
apart_by state linked n (Some fact) = is_apart state linked (record { number = n; fact = fact })

apart_at : (state : CxxState) (linked : Bool) (n : ℕ) (others : List ℕ) → first_apart state linked (numbered_at state.graph (n ∷ others)) ≡ (if apart_by state linked n (slice_get state.graph.facts n) then Some n else first_apart state linked (numbered_at state.graph others))
apart_at state linked n others = by (slice_get state.graph.facts n)
  where
    by : (o : Option CxxFact) → first_apart state linked (numbered_by n o (numbered_at state.graph others)) ≡ (if apart_by state linked n o then Some n else first_apart state linked (numbered_at state.graph others))
    by None = refl
    by (Some fact) = refl

abbrev chosen : ℕ → Option ℕ → Bool → Option ℕ
chosen n later b = if b then Some n else later

same_choice : (n : ℕ) (a b : Bool) → chosen n None a ≡ chosen n None b → a ≡ b
same_choice n true true e = refl
same_choice n false false e = refl
same_choice n true false e = absurd (cc)
same_choice n false true e = absurd (cc)

-- one more, by what it is alone
pub apart_more : (state : CxxState) (linked : Bool) (n : ℕ) (others : List ℕ) (b : Bool) → (if b then Some n else None) ≡ first_apart state linked (numbered_at state.graph (n ∷ [])) → first_apart state linked (numbered_at state.graph (n ∷ others)) ≡ (if b then Some n else first_apart state linked (numbered_at state.graph others))
apart_more state linked n others b e =
    apart_at state linked n others
    ∙ ap (chosen n (first_apart state linked (numbered_at state.graph others))) (sym (same_choice n b (apart_by state linked n (slice_get state.graph.facts n)) (e ∙ apart_at state linked n [])))

object_here : (state : CxxState) (types : List CxxType) (linked : Bool) (n : ℕ) (o : Option Fact) → apart_by state linked n (option_map (fact_at types) o) ≡ (is_object_there types o && not (same_bool linked (is_among n state.linked)))
object_here state types linked n None = refl
object_here state types linked n (Some fact) = refl

pub apart_is : (held : Held) (linked : Bool) (n : ℕ) (b : Bool) → b ≡ (is_object_there held.types (slice_get held.graph.facts n) && not (same_bool linked (is_among n (meaning held).linked))) → (if b then Some n else None) ≡ first_apart (meaning held) linked (numbered_at (meaning held).graph (n ∷ []))
unfolding meaning
apart_is held linked n b is =
    ap (chosen n None) (is
    ∙ sym (object_here (meaning held) held.types linked n (slice_get held.graph.facts n))
    ∙ sym (ap (apart_by (meaning held) linked n) (fact_seen held.types held.graph.facts n)))
    ∙ sym (apart_at (meaning held) linked n [])
