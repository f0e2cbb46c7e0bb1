-- What using-declarations in classes keep of the state, and what stops them (7.3.3).
use Rattle.std.proofs.Common.{◌≡◌, refl, ap, subst, ◌∙◌}
use Rattle.std.specs.Prelude.{ℕ, Bool, true, false, nat_lt, length, List, [], ◌∷◌, ◌++◌, Option, Some, None, Ok, Err}
use Rattle.std.proofs.lemmas.Bool.{ltb-true}
use Rattle.std.proofs.lemmas.List.{append_assoc}
use Rattle.cxx_model.specs.declared.facts.Access.{Access}
use Rattle.cxx_model.specs.declared.lookup.Found.{Found}
use Rattle.cxx_model.specs.declared.lookup.Hit.{Hit}
use Rattle.cxx_model.specs.declared.lookup.MemberFound.{MemberFound}
use Rattle.cxx_model.specs.declared.lookup.MemberFound.TheVariants as member_found
use Rattle.cxx_model.specs.declared.keyword.TheConstants as keyword
use Rattle.cxx_model.specs.declared.punct.TheConstants as punct
use Rattle.cxx_model.specs.declared.stop.Fault.{Fault}
use Rattle.cxx_model.specs.declared.types.ClassId.{ClassId}
use Rattle.cxx_model.specs.declared.types.FactId.{FactId}
use Rattle.cxx_model.specs.Facts.Declarations.{CxxGraph, spelled}
use Rattle.cxx_model.specs.Stops.{Answer, Stopped, ◌>>=◌ as then_answer, undeclared_at}
use Rattle.cxx_meaning.specs.Lookups.Member.{member}
use Rattle.cxx_meaning.specs.Lookups.Pending.{Asked}
use Rattle.cxx_meaning.specs.Lookups.Wanted.{Wanted, any_name, before_colons}
use Rattle.cxx_reading.specs.declared.region.Region.{Region}
use Rattle.cxx_reading.specs.declared.region.Region.TheVariants as region
use Rattle.cxx_reading.specs.Paths.{ambiguous_member_at, class_if, first_meant, first_region, held_in_class, member_or_none, name_in, not_held, region_by, sought_in, wrong_kind_at}
use Rattle.cxx_reading.specs.Reads.{Ahead, Got, ◌>>=◌, ask, behind, give, kind_ahead, tokens}
use Rattle.cxx_reading.specs.Seen.{Numbered, fact_numbers, numbered_at, set_in}
use Rattle.cxx_reading.specs.State.{CxxState}
use Rattle.cxx_reading.specs.Spaces.{told}
use Rattle.cxx_reading.specs.Tokens.{begins_name, behind_name, is_keyword, is_whole_name, path_ahead, punct_taken}
use Rattle.cxx_reading.specs.Trees.{CxxPath, CxxPathPart, last_part}
use Rattle.cxx_paths.specs.Using.{class_found, class_of_part, member_region_of, members_behind, none_behind, qualifiers}
use Rattle.cxx_declare.specs.MemberUsings.{bring_found, bring_if, bring_member, bring_members, bring_some, member_using}
use Rattle.cxx_language.specs.Spaces.{member_using_at}
use Rattle.cxx_language_laws.specs.Best.{IsClear}
use Rattle.cxx_language_laws.specs.Stopping.{a_member_using}
use Rattle.cxx_language_laws.specs.Told.{IsSoughtBrought, selected_part, twofold_brought, unknown_brought}
use Rattle.cxx_language_laws.proofs.Later.{IsLater, by_answer, calm_by}
use Rattle.cxx_language_laws.proofs.Outward.{IsSome, class_apart}
use Rattle.cxx_language_laws.proofs.Reached.{IsManifold, IsUndeclared, Told, ToldSince, later_is_told_since, quiet_told, reached_by_later, reached_here, told_sooner}
use Rattle.cxx_language_laws.proofs.Regions.{AreRegions, ClearOr, HolderStops, IsLastIn, IsTwain, SplitAt, ambiguous_member_fault, clear_or, held_in_class_stops, holder_stops, holder_told, holds_two, is_clear, is_twain, last_ahead, last_split, nothing_last, region_fails, same_reason, same_region, some_parts, twofold_in, undeclared_fault}
use Rattle.cxx_language_laws.proofs.Scopes.{may_stand}
use Rattle.cxx_language_laws.proofs.Sought.{fitting, nothing_sought}
use Rattle.cxx_language_laws.proofs.Spaces.{brought_then, declared_behind, still_there}
use Rattle.cxx_language_laws.proofs.Stopping.{Stops, innermost_stops, later_here}
use Rattle.cxx_language_laws.proofs.Tells.{Quietly, ToldBy, ToldIn, ask_from, behind_stands, ends_later, give_in, name_stands, punct_in, tells_answer, tells_read, tells_refusal, tells_stop, then_in, tokens_in, unit_is_told}

-- ---- its qualifiers

-- all parts of a name
qualified_split : (parts : List CxxPathPart) → IsSome parts → parts ≡ qualifiers parts ++ last_part parts ∷ []
qualified_split [] is = absurd is
qualified_split (part ∷ []) is = refl
qualified_split (part ∷ next ∷ others) is = ap (λ (ps : List CxxPathPart). part ∷ ps) (qualified_split (next ∷ others) tt)

-- a part before the last qualifier
split_further : (graph : CxxGraph) (wants : Wanted) (classes : Bool) (first : Region) (before all : List CxxPathPart) (last : CxxPathPart) → all ≡ before ++ last ∷ [] → SplitAt graph wants classes first before → SplitAt graph wants classes first all
split_further graph wants classes first before all last are split = record {
  before = split.before;
  part = split.part;
  next = split.next;
  others = split.others ++ last ∷ [];
  are = are ∙ (ap (λ (ps : List CxxPathPart). ps ++ last ∷ []) split.are ∙ append_assoc split.before (split.part ∷ split.next ∷ split.others) (last ∷ []));
  where_ = split.where_;
  qualifies = split.qualifies;
}

-- the last qualifier
split_last : (graph : CxxGraph) (wants : Wanted) (classes : Bool) (first where_ : Region) (part : CxxPathPart) (others all : List CxxPathPart) (last : CxxPathPart) → all ≡ (part ∷ others) ++ last ∷ [] → region_by graph wants classes first (part ∷ others) ≡ Ok where_ → SplitAt graph wants classes first all
split_last graph wants classes first where_ part others all last are means =
    let split = last_split (part ∷ others) tt in
    record {
      before = split.0;
      part = last_part (part ∷ others);
      next = last;
      others = [];
      are = are ∙ (ap (λ (ps : List CxxPathPart). ps ++ last ∷ []) split.1 ∙ append_assoc split.0 (last_part (part ∷ others) ∷ []) (last ∷ []));
      where_ = where_;
      qualifies = subst (λ (ps : List CxxPathPart). region_by graph wants classes first ps ≡ Ok where_) split.1 means;
    }

-- why that means no class
class_part_stops : (graph : CxxGraph) (where_ : Region) (part : CxxPathPart) (why : Stopped) → class_of_part graph where_ part ≡ Err why → HolderStops graph before_colons where_ part why
unfolding class_of_part
class_part_stops graph where_ part why e = by (sought_in graph before_colons where_ (spelled part.word)) refl e
  where
    clear : (x : Found) → sought_in graph before_colons where_ (spelled part.word) ≡ x → {r : Answer (Unit {0})} → ClearOr graph part x r → AreRegions (then_answer r (λ clear. held_in_class part (set_in graph x) (class_if true (first_meant (set_in graph x))))) (Err why) → HolderStops graph before_colons where_ part why
    clear x is (is_clear so) e = held_in_class_stops graph before_colons where_ part why x is so (first_meant (set_in graph x)) (set_in graph x) refl e
    clear x is (is_twain other two) e = holds_two x why is (subst (IsTwain graph part x) (same_reason other why e) two)

    by : (x : Found) → sought_in graph before_colons where_ (spelled part.word) ≡ x → AreRegions (class_found graph part x) (Err why) → HolderStops graph before_colons where_ part why
    by x is e = clear x is (clear_or graph part x) e

-- ---- a name behind `::` alone

alone_region : (graph : CxxGraph) (first : Region) (parts : List CxxPathPart) → qualifiers parts ≡ [] → region_by graph before_colons true first parts ≡ Ok first
unfolding region_by
alone_region graph first [] none = refl
alone_region graph first (part ∷ []) none = refl
alone_region graph first (part ∷ next ∷ others) none = absurd cc

alone_in : (graph : CxxGraph) (scope : ℕ) (path : CxxPath) → qualifiers path.parts ≡ [] → IsLastIn graph scope path (first_region scope path.global)
alone_in graph scope path none = record { wants = before_colons; classes = true; may_stand = tt; means = alone_region graph (first_region scope path.global) path.parts none }

-- it means nothing, two entities, or no class
alone_told : (state : CxxState) (ahead : Ahead) → begins_name ahead ≡ true → is_whole_name ahead ≡ true → qualifiers (path_ahead ahead).parts ≡ [] → (why : Stopped) → none_behind state.graph (last_ahead ahead) (sought_in state.graph any_name (first_region state.here.scope (path_ahead ahead).global) (name_in (path_ahead ahead))) ≡ Err why → Told state ahead why
alone_told state ahead begins whole none why e = by (sought_in state.graph any_name first (name_in (path_ahead ahead))) refl e
  where
    first : Region
    first = first_region state.here.scope (path_ahead ahead).global

    last : IsLastIn state.graph state.here.scope (path_ahead ahead) first
    last = alone_in state.graph state.here.scope (path_ahead ahead) none

    among : (x : Found) → sought_in state.graph any_name first (name_in (path_ahead ahead)) ≡ x → IsClear x → (all : List Numbered) → set_in state.graph x ≡ all → Told state ahead (not_held (last_ahead ahead) all)
    among x is clear [] are = nothing_last any_name tt state ahead begins whole first last x is clear are
    among x is clear (one ∷ others) are = quiet_told state ahead (wrong_kind_at (last_ahead ahead) one.fact.place) refl

    clear : (x : Found) → sought_in state.graph any_name first (name_in (path_ahead ahead)) ≡ x → {r : Answer (Unit {0})} → ClearOr state.graph (last_ahead ahead) x r → AreRegions (then_answer r (λ clear. Err (not_held (last_ahead ahead) (set_in state.graph x)))) (Err why) → Told state ahead why
    clear x is (is_clear so) e = subst (Told state ahead) (same_reason _ why e) (among x is so (set_in state.graph x) refl)
    clear x is (is_twain other two) e = subst (Told state ahead) (same_reason other why e) (twofold_in any_name tt state ahead begins whole first last x other two is)

    by : (x : Found) → sought_in state.graph any_name first (name_in (path_ahead ahead)) ≡ x → AreRegions (none_behind state.graph (last_ahead ahead) x) (Err why) → Told state ahead why
    by x is e = clear x is (clear_or state.graph (last_ahead ahead) x) e

-- ---- the class in which its last part is looked up

-- where there is none, what is true of the part that means none
members_told : (state : CxxState) (ahead : Ahead) → begins_name ahead ≡ true → is_whole_name ahead ≡ true → (why : Stopped) → member_region_of state.graph state.here.scope (path_ahead ahead) ≡ Err why → Told state ahead why
unfolding member_region_of split_further split_last
members_told state ahead begins whole why e = by (qualifiers (path_ahead ahead).parts) refl e
  where
    first : Region
    first = first_region state.here.scope (path_ahead ahead).global

    all : (before : List CxxPathPart) → qualifiers (path_ahead ahead).parts ≡ before → (path_ahead ahead).parts ≡ before ++ last_ahead ahead ∷ []
    all before are = qualified_split (path_ahead ahead).parts (some_parts ahead begins whole) ∙ ap (λ (ps : List CxxPathPart). ps ++ last_ahead ahead ∷ []) are

    of_class : (part : CxxPathPart) (others : List CxxPathPart) → qualifiers (path_ahead ahead).parts ≡ part ∷ others → (o : Answer Region) → region_by state.graph before_colons true first (part ∷ others) ≡ o → AreRegions (then_answer o (λ where_. class_of_part state.graph where_ (last_part (part ∷ others)))) (Err why) → Told state ahead why
    of_class part others are (Err other) is e =
        let failed = region_fails state.graph before_colons true first (part ∷ others) why (is ∙ ap Err (same_reason other why e)) in
        holder_told state before_colons true tt ahead (split_further state.graph before_colons true first (part ∷ others) (path_ahead ahead).parts (last_ahead ahead) (all (part ∷ others) are) failed.0) begins whole why (holder_stops state.graph before_colons true failed.0.where_ failed.0.part why failed.1)
    of_class part others are (Ok where_) is e =
        holder_told state before_colons true tt ahead (split_last state.graph before_colons true first where_ part others (path_ahead ahead).parts (last_ahead ahead) (all (part ∷ others) are) is) begins whole why (class_part_stops state.graph where_ (last_part (part ∷ others)) why e)

    by : (before : List CxxPathPart) → qualifiers (path_ahead ahead).parts ≡ before → AreRegions (members_behind state.graph first (last_ahead ahead) before) (Err why) → Told state ahead why
    by [] none e = alone_told state ahead begins whole none why e
    by (part ∷ others) are e = of_class part others are (region_by state.graph before_colons true first (part ∷ others)) refl e

-- else it is one
abbrev IsInClass : Region → Type 0
IsInClass (region.Outward scope) = ⊥
IsInClass (region.Inside space) = ⊥
IsInClass (region.Class class) = Unit {0}

members_in_class : (graph : CxxGraph) (scope : ℕ) (path : CxxPath) (where_ : Region) → member_region_of graph scope path ≡ Ok where_ → IsInClass where_
unfolding member_region_of class_of_part
members_in_class graph scope path where_ e = by (qualifiers path.parts) e
  where
    held : (part : CxxPathPart) (all : List Numbered) (o : Option ℕ) → AreRegions (held_in_class part all o) (Ok where_) → IsInClass where_
    held part all (Some class) e = subst IsInClass (same_region _ where_ e) tt
    held part all None e = absurd cc

    clear : (part : CxxPathPart) (x : Found) {r : Answer (Unit {0})} → ClearOr graph part x r → AreRegions (then_answer r (λ clear. held_in_class part (set_in graph x) (class_if true (first_meant (set_in graph x))))) (Ok where_) → IsInClass where_
    clear part x (is_clear so) e = held part (set_in graph x) (first_meant (set_in graph x)) e
    clear part x (is_twain why two) e = absurd cc

    found : (part : CxxPathPart) (x : Found) → AreRegions (class_found graph part x) (Ok where_) → IsInClass where_
    found part x e = clear part x (clear_or graph part x) e

    inside : (part : CxxPathPart) (o : Answer Region) → AreRegions (then_answer o (λ inner. class_of_part graph inner part)) (Ok where_) → IsInClass where_
    inside part (Ok inner) e = found part (sought_in graph before_colons inner (spelled part.word)) e
    inside part (Err why) e = absurd cc

    stopped : (why : Stopped) → AreRegions (Err why) (Ok where_) → ⊥
    stopped why e = cc

    none_by : (part : CxxPathPart) (x : Found) {r : Answer (Unit {0})} → ClearOr graph part x r → AreRegions (then_answer r (λ clear. Err (not_held part (set_in graph x)))) (Ok where_) → IsInClass where_
    none_by part x (is_clear so) e = absurd (stopped (not_held part (set_in graph x)) e)
    none_by part x (is_twain why two) e = absurd (stopped why e)

    none : (part : CxxPathPart) (x : Found) → AreRegions (none_behind graph part x) (Ok where_) → IsInClass where_
    none part x e = none_by part x (clear_or graph part x) e

    by : (before : List CxxPathPart) → AreRegions (members_behind graph (first_region scope path.global) (last_part path.parts) before) (Ok where_) → IsInClass where_
    by [] e = none (last_part path.parts) (sought_in graph any_name (first_region scope path.global) (name_in path)) e
    by (part ∷ others) e = inside (last_part (part ∷ others)) (region_by graph before_colons true (first_region scope path.global) (part ∷ others)) e

-- ---- what is declared

bring_members_tells : (s t : CxxState) (ahead : Ahead) (label : Access) (part : CxxPathPart) (targets : List FactId) → IsLater s t → ToldBy IsLater Quietly s ahead (bring_members label (length s.graph.facts) part targets t)
unfolding bring_members
bring_members_tells s t ahead label part [] later = tells_answer (tt, t) later
bring_members_tells s t ahead label part (target ∷ others) later = by (nat_lt target.0 (length s.graph.facts)) refl (λ u keeps. bring_members_tells s u ahead label part others keeps)
  where
    by : (b : Bool) → nat_lt target.0 (length s.graph.facts) ≡ b → ((u : CxxState) → IsLater s u → ToldBy IsLater Quietly s ahead (bring_members label (length s.graph.facts) part others u)) → ToldBy IsLater Quietly s ahead (then_answer (bring_if b label part target t) (λ answer. bring_members label (length s.graph.facts) part others answer.1))
    by true is further =
        by_answer s ahead _ (by_answer s ahead _
        (declared_behind s t ahead (member_using label t part target) part.word later refl (λ scopes. may_stand t.graph.facts (member_using label t part target) refl (still_there s t target.0 later.grown (ltb-true target.0 (length s.graph.facts) is))))
        (λ answer more. tells_answer (told answer) more)) (λ answer more. further answer.1 more)
    by false is further = further t later

-- ---- its last part, a member of the class

-- the word `using` is ahead, and behind it the name
abbrev IsBringing : Ahead → Type 0
IsBringing from = is_keyword keyword.USING (kind_ahead from) ≡ true

told_behind : (state : CxxState) (from : Ahead) (why : Stopped) → Told state (behind from) why → Told state from why
told_behind state from why told = told_sooner state state from (behind from) why (reached_by_later state state (later_here state)) (behind_stands from) told

brought_sought : (state : CxxState) (from : Ahead) → IsBringing from → begins_name (behind from) ≡ true → is_whole_name (behind from) ≡ true → (class : ClassId) → member_region_of state.graph state.here.scope (path_ahead (behind from)) ≡ Ok (region.Class class) → (finds : MemberFound) → member state.graph any_name class (name_in (path_ahead (behind from))) ≡ Ok finds → (fault : Fault) → (selected_part from).place ≡ fault.place
    → IsSoughtBrought state from finds fault (selected_part from).word
brought_sought state from brings begins whole class means finds is fault at = record { brings = brings; begins = begins; whole = whole; within = class; qualifies = means; spelled_so = refl; is_at = at; finds_so = is }

brought_unknown : (state : CxxState) (from : Ahead) → IsBringing from → begins_name (behind from) ≡ true → is_whole_name (behind from) ≡ true → (class : ClassId) → member_region_of state.graph state.here.scope (path_ahead (behind from)) ≡ Ok (region.Class class) → (x : Found) → sought_in state.graph any_name (region.Class class) (name_in (path_ahead (behind from))) ≡ x → IsClear x → set_in state.graph x ≡ []
    → Told state from (undeclared_at (selected_part from).place (selected_part from).word)
brought_unknown state from brings begins whole class means x is clear none =
    reached_here state from (IsUndeclared (undeclared_fault (selected_part from)) (selected_part from).word) (record {
      is = λ scopes. (unknown_brought (brought_sought state from brings begins whole class means member_found.Empty (nothing_sought state.graph any_name (region.Class class) (name_in (path_ahead (behind from))) (fitting state scopes) tt x is clear none).1 (undeclared_fault (selected_part from)) refl), tt);
      bare = refl;
    })

brought_twofold : (state : CxxState) (from : Ahead) → IsBringing from → begins_name (behind from) ≡ true → is_whole_name (behind from) ≡ true → (class : ClassId) → member_region_of state.graph state.here.scope (path_ahead (behind from)) ≡ Ok (region.Class class) → (one two : Hit) → member state.graph any_name class (name_in (path_ahead (behind from))) ≡ Ok (member_found.Ambiguous one two)
    → Told state from (ambiguous_member_at state.graph (selected_part from) one two)
unfolding brought_sought
brought_twofold state from brings begins whole class means one two is =
    let fault = ambiguous_member_fault state.graph (selected_part from) one two in
    reached_here state from (IsManifold fault (selected_part from).word)
    (λ scopes. twofold_brought one two (brought_sought state from brings begins whole class means (member_found.Ambiguous one two) is fault refl) (class_apart state.graph any_name (name_in (path_ahead (behind from))) class one two scopes.sound is) refl)

bring_some_tells : (state : CxxState) (from : Ahead) (label : Access) (part : CxxPathPart) (targets : List FactId) → (targets ≡ [] → Told state from (undeclared_at part.place part.word)) → ToldBy IsLater (ToldSince state from) state (behind from) (bring_some label part targets state)
bring_some_tells state from label part [] unknown = tells_refusal _ (λ later. unknown refl)
bring_some_tells state from label part (target ∷ others) unknown = calm_by (later_is_told_since state from) (bring_members_tells state state (behind from) label part (target ∷ others) (later_here state))

member_brought_tells : (label : Access) (state : CxxState) (from : Ahead) → IsBringing from → begins_name (behind from) ≡ true → is_whole_name (behind from) ≡ true → (class : ClassId) → member_region_of state.graph state.here.scope (path_ahead (behind from)) ≡ Ok (region.Class class)
    → ToldBy IsLater (ToldSince state from) state (behind from) (bring_found label (selected_part from) (sought_in state.graph any_name (region.Class class) (name_in (path_ahead (behind from)))) state)
unfolding sought_in
member_brought_tells label state from brings begins whole class means = by (member state.graph any_name class (name_in (path_ahead (behind from)))) refl
  where
    unknown : (o : Asked MemberFound) → member state.graph any_name class (name_in (path_ahead (behind from))) ≡ o → IsClear (member_or_none class o) → set_in state.graph (member_or_none class o) ≡ [] → Told state from (undeclared_at (selected_part from).place (selected_part from).word)
    unknown o is clear none = brought_unknown state from brings begins whole class means (member_or_none class o) (ap (member_or_none class) is) clear none

    by : (o : Asked MemberFound) → member state.graph any_name class (name_in (path_ahead (behind from))) ≡ o → ToldBy IsLater (ToldSince state from) state (behind from) (bring_found label (selected_part from) (member_or_none class o) state)
    by (Ok member_found.Empty) is = tells_refusal _ (λ later. unknown (Ok member_found.Empty) is tt refl)
    by (Ok (member_found.Set all way)) is = bring_some_tells state from label (selected_part from) all (λ none. unknown (Ok (member_found.Set all way)) is tt (ap (λ (fs : List FactId). numbered_at state.graph (fact_numbers fs)) none))
    by (Ok (member_found.Ambiguous one two)) is = tells_refusal _ (λ later. brought_twofold state from brings begins whole class means one two is)
    by (Err needed) is = tells_refusal _ (λ later. unknown (Err needed) is tt refl)

bring_member_tells : (label : Access) (state : CxxState) (from : Ahead) → IsBringing from → begins_name (behind from) ≡ true → is_whole_name (behind from) ≡ true → ToldBy IsLater (ToldSince state from) state (behind from) (bring_member label (path_ahead (behind from)) state)
unfolding bring_member
bring_member_tells label state from brings begins whole = by (member_region_of state.graph state.here.scope (path_ahead (behind from))) refl
  where
    inside : (where_ : Region) → IsInClass where_ → member_region_of state.graph state.here.scope (path_ahead (behind from)) ≡ Ok where_ → ToldBy IsLater (ToldSince state from) state (behind from) (bring_found label (selected_part from) (sought_in state.graph any_name where_ (name_in (path_ahead (behind from)))) state)
    inside (region.Outward scope) is means = absurd is
    inside (region.Inside space) is means = absurd is
    inside (region.Class class) is means = member_brought_tells label state from brings begins whole class means

    by : (o : Answer Region) → member_region_of state.graph state.here.scope (path_ahead (behind from)) ≡ o → ToldBy IsLater (ToldSince state from) state (behind from) (then_answer o (λ where_. bring_found label (selected_part from) (sought_in state.graph any_name where_ (name_in (path_ahead (behind from)))) state))
    by (Ok where_) means = inside where_ (members_in_class state.graph state.here.scope (path_ahead (behind from)) where_ means) means
    by (Err why) e = tells_refusal why (λ later. told_behind state from why (members_told state (behind from) begins whole why e))

-- ---- it is read

-- what stops it, from the word `using` on
from_word : {A : Type 0} {state : CxxState} {from : Ahead} {r : Answer (Got CxxState A)} → ToldIn IsLater (ToldSince state from) state (behind from) r → ToldIn IsLater Told state from r
from_word {state = state} {from = from} (tells_read one later stands) = tells_read one later (ends_later from.tokens (behind from).tokens one.rest.tokens (behind_stands from) stands)
from_word {state = state} {from = from} (tells_stop why told) = tells_stop why (told (later_here state))

member_using_tells : (label : Access) (state : CxxState) (from : Ahead) → IsBringing from → ToldIn IsLater Told state from (member_using_at label state from)
unfolding member_using_at
member_using_tells label state from brings =
    let is = later_is_told_since state from in
    from_word (brought_then is (λ path. ask (bring_member label path) >>= λ declared. tokens (punct_taken punct.SEMICOLON) >>= λ ended. give tt) state (behind from) (λ begins whole plain.
    then_in is (ask_from (behind_name (behind from)) (name_stands (behind from)) (bring_member_tells label state from brings begins whole)) (λ declared t ahead.
    then_in is (tokens_in is (punct_in unit_is_told punct.SEMICOLON) t ahead) (λ ended. give_in is tt))))

pub member_using_stops : (label : Access) (state : CxxState) (from : Ahead) → IsBringing from → Stops (a_member_using label) state from (member_using_at label state from)
member_using_stops label state from brings = innermost_stops tt (λ fault is. is) (member_using_tells label state from brings)
