-- Where the parts of a name with qualifiers are looked up, and what is true where one of them means nothing that may stand
-- there (3.4.1, 3.4.3).
use Rattle.std.proofs.Common.{arith, ◌≡◌, ℕ, ◌<◌, Bool, true, false, not, List, [], ◌∷◌, ◌++◌, length, Option, Some, None, Ok, Err, refl, sym, ap, subst, ◌∙◌}
use Rattle.std.specs.Prelude.{◌&&◌, ◌||◌, if◌then◌else◌}
use Rattle.std.specs.List.{slice_get}
use Rattle.cxx_model.specs.declared.evidence.Evidence.TheVariants as evidence
use Rattle.cxx_model.specs.declared.fault.FaultText.TheVariants as says
use Rattle.cxx_model.specs.declared.lookup.Found.{Found}
use Rattle.cxx_model.specs.declared.lookup.Found.TheVariants as sought
use Rattle.cxx_model.specs.declared.lookup.Hit.{Hit}
use Rattle.cxx_model.specs.declared.lookup.MemberFound.TheVariants as member_found
use Rattle.cxx_model.specs.declared.place.Place.{Place}
use Rattle.cxx_model.specs.declared.punct.TheConstants as punct
use Rattle.cxx_model.specs.declared.stop.Fault.{Fault}
use Rattle.cxx_model.specs.declared.types.ClassId.{ClassId}
use Rattle.cxx_model.specs.declared.types.FactId.{FactId}
use Rattle.cxx_model.specs.Facts.Conflicts.{scope_facts}
use Rattle.cxx_model.specs.Facts.Declarations.{CxxFact, CxxGraph, spelled}
use Rattle.cxx_model.specs.Stops.{Answer, Stopped, ◌>>=◌, undeclared_at}
use Rattle.cxx_model.specs.Text.Lexemes.{Lexeme, kind_of}
use Rattle.cxx_meaning.specs.Lookups.Wanted.{Wanted, before_colons, namespaces_only}
use Rattle.cxx_reading.specs.declared.region.Region.{Region}
use Rattle.cxx_reading.specs.declared.region.Region.TheVariants as region
use Rattle.cxx_reading.specs.Linked.{scope_id}
use Rattle.cxx_reading.specs.Paths.{ambiguous_at, ambiguous_member_at, by_bases, class_if, first_meant, first_region, first_space, held_by, held_in_class, holder, holder_by, name_in, or_later, place_of_fact, region_by, region_of, scope_of_region, sought_in, space_in, space_region_of, unambiguous, using_region_of}
use Rattle.cxx_reading.specs.Reads.{Ahead}
use Rattle.cxx_reading.specs.Seen.{Numbered, numbered_at, numbered_by, set_in}
use Rattle.cxx_reading.specs.Spaces.{first_opening}
use Rattle.cxx_reading.specs.State.{CxxState}
use Rattle.cxx_reading.specs.Tokens.{Passed, begins_name, is_name, is_plain_name, is_punct, is_whole_name, part_of, part_then, passed_from, passed_to, path_ahead}
use Rattle.cxx_reading.specs.Trees.{CxxPath, CxxPathPart, last_part}
use Rattle.cxx_language_laws.specs.Best.{IsClear}
use Rattle.cxx_language_laws.specs.Told.{AreTwo, IsNamed, IsNotThere, IsSought, IsSoughtFrom, IsWantedLast, MayStandBefore, nothing_in, twofold_inherited, twofold_name, unknown_name}
use Rattle.cxx_language_laws.proofs.Later.{IsLater}
use Rattle.cxx_language_laws.proofs.Outward.{IsSome}
use Rattle.cxx_language_laws.proofs.Reached.{IsManifold, IsUndeclared, Told, quiet_told, reached_here}
use Rattle.cxx_language_laws.proofs.Scopes.{InScopes, opened_of, opened_within}
use Rattle.cxx_language_laws.proofs.Tells.{IsQuiet, ToldBy, tells_refusal}
use Rattle.cxx_language_laws.proofs.Sought.{IsRegion, fitting, members_sought, nothing_sought, two_sought}

-- ---- the parts of a name that is ahead

behind_colons : (wanted : Bool) (last : Place) (tokens : List Lexeme) → wanted ≡ true → (passed_from wanted last tokens).is_whole ≡ true → IsSome (passed_from wanted last tokens).parts
unfolding passed_from
behind_colons true last [] e whole = absurd cc
behind_colons false last tokens e whole = absurd cc
behind_colons true last (token ∷ tokens) e whole = by (is_name token.kind) whole
  where
    by : (b : Bool) → (if b then part_then (part_of token) (passed_from false token.place tokens) else passed_to last (token ∷ tokens) false).is_whole ≡ true → IsSome (if b then part_then (part_of token) (passed_from false token.place tokens) else passed_to last (token ∷ tokens) false).parts
    by true whole = tt
    by false whole = absurd cc

-- 3.4.3: a name that is whole has a part
pub some_parts : (ahead : Ahead) → begins_name ahead ≡ true → is_whole_name ahead ≡ true → IsSome (path_ahead ahead).parts
unfolding is_name is_punct passed_from
some_parts ahead begins whole = by ahead.last ahead.tokens begins whole
  where
    by : (last : Place) (tokens : List Lexeme) → begins_name (record { last = last; tokens = tokens }) ≡ true → is_whole_name (record { last = last; tokens = tokens }) ≡ true → IsSome (path_ahead (record { last = last; tokens = tokens })).parts
    by last [] begins whole = absurd cc
    by last (token ∷ tokens) begins whole = colons (is_punct punct.SCOPE token.kind) refl begins whole
      where
        colons : (b : Bool) → is_punct punct.SCOPE token.kind ≡ b → (is_name token.kind || b) ≡ true → (passed_from (not b) last (token ∷ tokens)).is_whole ≡ true → IsSome (passed_from (not b) last (token ∷ tokens)).parts
        colons false is begins whole = behind_colons true last (token ∷ tokens) refl whole
        colons true is begins whole = further (is_punct punct.SCOPE token.kind) is whole
          where
            further : (b : Bool) → b ≡ true → (if b then passed_from true token.place tokens else passed_to last (token ∷ tokens) true).is_whole ≡ true → IsSome (if b then passed_from true token.place tokens else passed_to last (token ∷ tokens) true).parts
            further true is whole = behind_colons true token.place tokens refl whole
            further false is whole = absurd cc

abbrev pub AreTwoParts : List CxxPathPart → Type 0
AreTwoParts [] = ⊥
AreTwoParts (part ∷ []) = ⊥
AreTwoParts (part ∷ next ∷ others) = Unit {0}

pub part_and : (part : CxxPathPart) (parts : List CxxPathPart) → IsSome parts → AreTwoParts (part ∷ parts)
part_and part [] is = absurd is
part_and part (next ∷ others) is = tt

two_passed : (last : Place) (token two : Lexeme) (tokens : List Lexeme) → is_name token.kind ≡ true → is_punct punct.SCOPE two.kind ≡ true → passed_from true last (token ∷ two ∷ tokens) ≡ part_then (part_of token) (passed_from true two.place tokens)
unfolding passed_from
two_passed last token two tokens named colons = rw named (rw colons refl)

two_parts : (last : Place) (token two : Lexeme) (tokens : List Lexeme) → is_name token.kind ≡ true → is_punct punct.SCOPE two.kind ≡ true → (passed_from true last (token ∷ two ∷ tokens)).is_whole ≡ true → AreTwoParts (passed_from true last (token ∷ two ∷ tokens)).parts
two_parts last token two tokens named colons whole =
    let passed = two_passed last token two tokens named colons in
    subst (λ (p : Passed). AreTwoParts p.parts) (sym passed) (part_and (part_of token) (passed_from true two.place tokens).parts (behind_colons true two.place tokens refl (sym (ap (λ (p : Passed). p.is_whole) passed) ∙ whole)))

-- 3.4.3: a name with qualifiers begins with `::`, or has two parts
data IsQualified (path : CxxPath) : Type 0 where
  is_global : path.global ≡ true → IsQualified path
  has_two : AreTwoParts path.parts → IsQualified path

is_qualified : (ahead : Ahead) → begins_name ahead ≡ true → is_whole_name ahead ≡ true → is_plain_name ahead ≡ false → IsQualified (path_ahead ahead)
unfolding is_name is_punct
is_qualified ahead begins whole plain = by ahead.last ahead.tokens begins whole plain
  where
    by : (last : Place) (tokens : List Lexeme) → begins_name (record { last = last; tokens = tokens }) ≡ true → is_whole_name (record { last = last; tokens = tokens }) ≡ true → is_plain_name (record { last = last; tokens = tokens }) ≡ false → IsQualified (path_ahead (record { last = last; tokens = tokens }))
    by last [] begins whole plain = absurd cc
    by last (token ∷ tokens) begins whole plain = colons (is_punct punct.SCOPE token.kind) refl (is_name token.kind) refl begins whole plain
      where
        colons : (b : Bool) → is_punct punct.SCOPE token.kind ≡ b → (c : Bool) → is_name token.kind ≡ c → (c || b) ≡ true → (passed_from (not b) last (token ∷ tokens)).is_whole ≡ true → (c && not (is_punct punct.SCOPE (kind_of tokens))) ≡ false → IsQualified (record { global = b; parts = (passed_from (not b) last (token ∷ tokens)).parts })
        colons true is c named begins whole plain = is_global refl
        colons false is false named begins whole plain = absurd cc
        colons false is true named begins whole plain = has_two (further tokens whole plain)
          where
            further : (tokens : List Lexeme) → (passed_from true last (token ∷ tokens)).is_whole ≡ true → not (is_punct punct.SCOPE (kind_of tokens)) ≡ false → AreTwoParts (passed_from true last (token ∷ tokens)).parts
            further [] whole plain = absurd cc
            further (two ∷ others) whole plain = two_parts last token two others named (scope (is_punct punct.SCOPE two.kind) plain) whole
              where
                scope : (b : Bool) → not b ≡ false → b ≡ true
                scope true e = refl
                scope false e = absurd cc

-- ---- namespaces that are found

-- a namespace of these declarations
abbrev pub IsSpaceOf : CxxGraph → ℕ → Type 0
IsSpaceOf graph inner = (first : CxxFact) × (first_opening inner graph.facts ≡ Some first)

numbered_space : (graph : CxxGraph) (all : List ℕ) (inner : ℕ) → first_space (numbered_at graph all) ≡ Some inner → IsSpaceOf graph inner
numbered_space graph [] inner e = absurd cc
numbered_space graph (number ∷ others) inner e = by (slice_get graph.facts number) refl e (numbered_space graph others inner)
  where
    chosen : (fact : CxxFact) → slice_get graph.facts number ≡ Some fact → (o : Option ℕ) → space_in fact.what ≡ o → or_later o (first_space (numbered_at graph others)) ≡ Some inner → (first_space (numbered_at graph others) ≡ Some inner → IsSpaceOf graph inner) → IsSpaceOf graph inner
    chosen fact at None is e later = later e
    chosen fact at (Some one) is e later = opened_of graph.facts number inner fact at (is ∙ e)

    by : (o : Option CxxFact) → slice_get graph.facts number ≡ o → first_space (numbered_by number o (numbered_at graph others)) ≡ Some inner → (first_space (numbered_at graph others) ≡ Some inner → IsSpaceOf graph inner) → IsSpaceOf graph inner
    by None at e later = later e
    by (Some fact) at e later = chosen fact at (space_in fact.what) refl e later

pub set_space : (graph : CxxGraph) (x : Found) (inner : ℕ) → first_space (set_in graph x) ≡ Some inner → IsSpaceOf graph inner
set_space graph (sought.Set all) inner e = numbered_space graph _ inner e
set_space graph (sought.Ambiguous _ _) inner e = absurd cc
set_space graph (sought.Member _ of) inner e = numbered_space graph _ inner e
set_space graph sought.Empty inner e = absurd cc

-- ---- what is ambiguous

-- what is found is ambiguous: two declarations, or two members of a class (10.2), with the stop that tells them
pub data IsTwain (graph : CxxGraph) (part : CxxPathPart) : Found → Stopped → Type 0 where
  two_found : (one two : FactId) → IsTwain graph part (sought.Ambiguous one two) (ambiguous_at graph part one two)
  members_found : (class : ClassId) (one two : Hit) → IsTwain graph part (sought.Member class (member_found.Ambiguous one two)) (ambiguous_member_at graph part one two)

-- it is clear, or it stops so
pub data ClearOr (graph : CxxGraph) (part : CxxPathPart) (x : Found) : Answer (Unit {0}) → Type 0 where
  is_clear : IsClear x → ClearOr graph part x (Ok tt)
  is_twain : (why : Stopped) → IsTwain graph part x why → ClearOr graph part x (Err why)

pub clear_or : (graph : CxxGraph) (part : CxxPathPart) (x : Found) → ClearOr graph part x (unambiguous graph part x)
clear_or graph part (sought.Set all) = is_clear tt
clear_or graph part sought.Empty = is_clear tt
clear_or graph part (sought.Ambiguous one two) = is_twain _ (two_found one two)
clear_or graph part (sought.Member class (member_found.Ambiguous one two)) = is_twain _ (members_found class one two)
clear_or graph part (sought.Member class (member_found.Set all path)) = is_clear tt
clear_or graph part (sought.Member class member_found.Empty) = is_clear tt

-- ---- what a part before `::` means

abbrev pub AreRegions : Answer Region → Answer Region → Type 0
AreRegions one two = one ≡ two

pub same_region : (one two : Region) → AreRegions (Ok one) (Ok two) → one ≡ two
same_region one two e = cc

pub same_reason : (one two : Stopped) → AreRegions (Err one) (Err two) → one ≡ two
same_reason one two e = cc

-- why it means no namespace and no class that may stand there
pub data HolderStops (graph : CxxGraph) (wants : Wanted) (where_ : Region) (part : CxxPathPart) : Stopped → Type 0 where
  holds_two : (x : Found) (why : Stopped) → sought_in graph wants where_ (spelled part.word) ≡ x → IsTwain graph part x why → HolderStops graph wants where_ part why
  holds_none : (x : Found) → sought_in graph wants where_ (spelled part.word) ≡ x → IsClear x → set_in graph x ≡ [] → HolderStops graph wants where_ part (undeclared_at part.place part.word)
  holds_other : (why : Stopped) → IsQuiet why → HolderStops graph wants where_ part why

pub held_in_class_stops : (graph : CxxGraph) (wants : Wanted) (where_ : Region) (part : CxxPathPart) (why : Stopped) (x : Found) → sought_in graph wants where_ (spelled part.word) ≡ x → IsClear x → (o : Option ℕ) (all : List Numbered) → set_in graph x ≡ all → AreRegions (held_in_class part all o) (Err why) → HolderStops graph wants where_ part why
held_in_class_stops graph wants where_ part why x is clear (Some class) all are e = absurd cc
held_in_class_stops graph wants where_ part why x is clear None [] are e = subst (HolderStops graph wants where_ part) (same_reason _ why e) (holds_none x is clear are)
held_in_class_stops graph wants where_ part why x is clear None (one ∷ others) are e = subst (HolderStops graph wants where_ part) (same_reason _ why e) (holds_other _ refl)

held_stops : (graph : CxxGraph) (wants : Wanted) (classes : Bool) (where_ : Region) (part : CxxPathPart) (why : Stopped) (x : Found) → sought_in graph wants where_ (spelled part.word) ≡ x → IsClear x → (o : Option ℕ) → AreRegions (held_by part classes o (set_in graph x)) (Err why) → HolderStops graph wants where_ part why
held_stops graph wants classes where_ part why x is clear (Some inner) e = absurd cc
held_stops graph wants classes where_ part why x is clear None e = held_in_class_stops graph wants where_ part why x is clear (class_if classes (first_meant (set_in graph x))) (set_in graph x) refl e

pub holder_stops : (graph : CxxGraph) (wants : Wanted) (classes : Bool) (where_ : Region) (part : CxxPathPart) (why : Stopped) → holder graph wants classes where_ part ≡ Err why → HolderStops graph wants where_ part why
unfolding holder
holder_stops graph wants classes where_ part why e = by (sought_in graph wants where_ (spelled part.word)) refl e
  where
    clear : (x : Found) → sought_in graph wants where_ (spelled part.word) ≡ x → {r : Answer (Unit {0})} → ClearOr graph part x r → AreRegions (r >>= λ clear. held_by part classes (first_space (set_in graph x)) (set_in graph x)) (Err why) → HolderStops graph wants where_ part why
    clear x is (is_clear so) e = held_stops graph wants classes where_ part why x is so (first_space (set_in graph x)) e
    clear x is (is_twain other two) e = holds_two x why is (subst (IsTwain graph part x) (same_reason other why e) two)

    by : (x : Found) → sought_in graph wants where_ (spelled part.word) ≡ x → AreRegions (holder_by graph classes part x) (Err why) → HolderStops graph wants where_ part why
    by x is e = clear x is (clear_or graph part x) e

-- what it means: a namespace, or a class where one may stand there
pub data IsHolder (graph : CxxGraph) (classes : Bool) : Region → Type 0 where
  holds_space : (inner : ℕ) → IsSpaceOf graph inner → IsHolder graph classes (region.Inside (scope_id inner))
  holds_class : (class : ClassId) → classes ≡ true → IsHolder graph classes (region.Class class)

holder_is : (graph : CxxGraph) (wants : Wanted) (classes : Bool) (where_ : Region) (part : CxxPathPart) (inner : Region) → holder graph wants classes where_ part ≡ Ok inner → IsHolder graph classes inner
unfolding holder
holder_is graph wants classes where_ part inner e = by (sought_in graph wants where_ (spelled part.word)) e
  where
    in_class : (may : Bool) → classes ≡ may → (o : Option ℕ) (all : List Numbered) → AreRegions (held_in_class part all (class_if may o)) (Ok inner) → IsHolder graph classes inner
    in_class true is (Some class) all e = subst (IsHolder graph classes) (same_region _ inner e) (holds_class (record { 0 = class }) is)
    in_class true is None all e = absurd cc
    in_class false is o all e = absurd cc

    held : (x : Found) (o : Option ℕ) → first_space (set_in graph x) ≡ o → AreRegions (held_by part classes o (set_in graph x)) (Ok inner) → IsHolder graph classes inner
    held x (Some other) is e = subst (IsHolder graph classes) (same_region _ inner e) (holds_space other (set_space graph x other is))
    held x None is e = in_class classes refl (first_meant (set_in graph x)) (set_in graph x) e

    clear : (x : Found) {r : Answer (Unit {0})} → ClearOr graph part x r → AreRegions (r >>= λ clear. held_by part classes (first_space (set_in graph x)) (set_in graph x)) (Ok inner) → IsHolder graph classes inner
    clear x (is_clear so) e = held x (first_space (set_in graph x)) refl e
    clear x (is_twain why two) e = absurd cc

    by : (x : Found) → AreRegions (holder_by graph classes part x) (Ok inner) → IsHolder graph classes inner
    by x e = clear x (clear_or graph part x) e

-- ---- regions by parts

-- a part of a name before `::`, and the others round it
pub record SplitAt (graph : CxxGraph) (wants : Wanted) (classes : Bool) (first : Region) (parts : List CxxPathPart) : Type 0 where
  pub before : List CxxPathPart
  pub part : CxxPathPart
  pub next : CxxPathPart
  pub others : List CxxPathPart
  pub are : parts ≡ before ++ part ∷ next ∷ others
  pub where_ : Region
  pub qualifies : region_by graph wants classes first (before ++ part ∷ []) ≡ Ok where_

-- and it means nothing that may stand there
abbrev pub FailsAt : CxxGraph → Wanted → Bool → Region → List CxxPathPart → Stopped → Type 0
FailsAt graph wants classes first parts why = (split : SplitAt graph wants classes first parts) × (holder graph wants classes split.where_ split.part ≡ Err why)

pub some_last : (before : List CxxPathPart) (part : CxxPathPart) → IsSome (before ++ part ∷ [])
some_last [] part = tt
some_last (one ∷ before) part = tt

region_step : (graph : CxxGraph) (wants : Wanted) (classes : Bool) (first : Region) (part : CxxPathPart) (inner : Region) (parts : List CxxPathPart) → IsSome parts → holder graph wants classes first part ≡ Ok inner → region_by graph wants classes first (part ∷ parts) ≡ region_by graph wants classes inner parts
unfolding region_by
region_step graph wants classes first part inner [] is e = absurd is
region_step graph wants classes first part inner (next ∷ others) is e = ap (λ (o : Answer Region). o >>= λ inner. region_by graph wants classes inner (next ∷ others)) e

-- where no region is found, a part before `::` means no namespace and no class
pub region_fails : (graph : CxxGraph) (wants : Wanted) (classes : Bool) (first : Region) (parts : List CxxPathPart) (why : Stopped) → region_by graph wants classes first parts ≡ Err why → FailsAt graph wants classes first parts why
unfolding region_by
region_fails graph wants classes first [] why e = absurd cc
region_fails graph wants classes first (part ∷ []) why e = absurd cc
region_fails graph wants classes first (part ∷ next ∷ others) why e = by (holder graph wants classes first part) refl e (λ inner e. region_fails graph wants classes inner (next ∷ others) why e)
  where
    by : (o : Answer Region) → holder graph wants classes first part ≡ o → AreRegions (o >>= λ inner. region_by graph wants classes inner (next ∷ others)) (Err why)
        → ((inner : Region) → region_by graph wants classes inner (next ∷ others) ≡ Err why → FailsAt graph wants classes inner (next ∷ others) why) → FailsAt graph wants classes first (part ∷ next ∷ others) why
    by (Err other) is e later = (record { before = []; part = part; next = next; others = others; are = refl; where_ = first; qualifies = refl }, is ∙ ap Err (same_reason other why e))
    by (Ok inner) is e later = let found = later inner e in (
      record {
        before = part ∷ found.0.before;
        part = found.0.part;
        next = found.0.next;
        others = found.0.others;
        are = ap (λ (ps : List CxxPathPart). part ∷ ps) found.0.are;
        where_ = found.0.where_;
        qualifies = region_step graph wants classes first part inner (found.0.before ++ found.0.part ∷ []) (some_last found.0.before found.0.part) is ∙ found.0.qualifies;
      },
      found.1,
    )

-- whatever holds of the first region and of those that parts before `::` mean
pub region_holds : (P : Region → Type 0) (graph : CxxGraph) (wants : Wanted) (classes : Bool) → ((inner : Region) → IsHolder graph classes inner → P inner) → (first where_ : Region) (parts : List CxxPathPart) → P first → region_by graph wants classes first parts ≡ Ok where_ → P where_
unfolding region_by
region_holds P graph wants classes each first where_ [] is e = subst P (same_region first where_ e) is
region_holds P graph wants classes each first where_ (part ∷ []) is e = subst P (same_region first where_ e) is
region_holds P graph wants classes each first where_ (part ∷ next ∷ others) is e = by (holder graph wants classes first part) refl e (λ inner held e. region_holds P graph wants classes each inner where_ (next ∷ others) (each inner held) e)
  where
    by : (o : Answer Region) → holder graph wants classes first part ≡ o → AreRegions (o >>= λ inner. region_by graph wants classes inner (next ∷ others)) (Ok where_)
        → ((inner : Region) → IsHolder graph classes inner → region_by graph wants classes inner (next ∷ others) ≡ Ok where_ → P where_) → P where_
    by (Err why) is e later = absurd cc
    by (Ok inner) is e later = later inner (holder_is graph wants classes first part inner is) e

pub region_further : (P : Region → Type 0) (graph : CxxGraph) (wants : Wanted) (classes : Bool) → ((inner : Region) → IsHolder graph classes inner → P inner) → (first where_ : Region) (parts : List CxxPathPart) → AreTwoParts parts → region_by graph wants classes first parts ≡ Ok where_ → P where_
unfolding region_by
region_further P graph wants classes each first where_ [] is e = absurd is
region_further P graph wants classes each first where_ (part ∷ []) is e = absurd is
region_further P graph wants classes each first where_ (part ∷ next ∷ others) is e = by (holder graph wants classes first part) refl e
  where
    by : (o : Answer Region) → holder graph wants classes first part ≡ o → AreRegions (o >>= λ inner. region_by graph wants classes inner (next ∷ others)) (Ok where_) → P where_
    by (Err why) at e = absurd cc
    by (Ok inner) at e = region_holds P graph wants classes each inner where_ (next ∷ others) (each inner (holder_is graph wants classes first part inner at)) e

first_there : (state : CxxState) (global : Bool) → InScopes state → IsRegion state.graph (first_region state.here.scope global)
first_there state false is = is.within
first_there state true is = tt

pub holder_there : (graph : CxxGraph) (classes : Bool) (inner : Region) → IsHolder graph classes inner → IsRegion graph inner
holder_there graph classes _ (holds_space inner is) = tt
holder_there graph classes _ (holds_class class may) = tt

part_there : (state : CxxState) (wants : Wanted) (classes global : Bool) (parts : List CxxPathPart) (where_ : Region) → InScopes state → region_by state.graph wants classes (first_region state.here.scope global) parts ≡ Ok where_ → IsRegion state.graph where_
part_there state wants classes global parts where_ is e = region_holds (IsRegion state.graph) state.graph wants classes (holder_there state.graph classes) (first_region state.here.scope global) where_ parts (first_there state global is) e

abbrev IsWithin : CxxGraph → Region → Type 0
IsWithin graph where_ = scope_of_region where_ < length (scope_facts graph.facts)

first_within : (state : CxxState) (global : Bool) → InScopes state → IsWithin state.graph (first_region state.here.scope global)
first_within state false is = is.within
first_within state true is = let within = is.within in omega (arith, within)

holder_within : (state : CxxState) → InScopes state → (classes : Bool) (inner : Region) → IsHolder state.graph classes inner → IsWithin state.graph inner
holder_within state is classes _ (holds_space inner space) = opened_within state.graph.facts inner space.0 is.sound space.1
holder_within state is classes _ (holds_class class may) = let within = is.within in omega (arith, within)

-- a scope of a region is there
pub region_within : (state : CxxState) (path : CxxPath) (where_ : Region) → InScopes state → region_of state.graph state.here.scope path ≡ Ok where_ → IsWithin state.graph where_
unfolding region_of
region_within state path where_ is e = region_holds (IsWithin state.graph) state.graph before_colons true (holder_within state is true) (first_region state.here.scope path.global) where_ path.parts (first_within state path.global is) e

-- 3.4.3: a name with qualifiers is looked up in what they mean
region_qualified : (P : Region → Type 0) (graph : CxxGraph) (classes : Bool) → P (first_region 0 true) → ((inner : Region) → IsHolder graph classes inner → P inner) → (scope : ℕ) (ahead : Ahead) (where_ : Region) → begins_name ahead ≡ true → is_whole_name ahead ≡ true → is_plain_name ahead ≡ false → region_by graph before_colons classes (first_region scope (path_ahead ahead).global) (path_ahead ahead).parts ≡ Ok where_ → P where_
region_qualified P graph classes of_unit each scope ahead where_ begins whole plain e = by (path_ahead ahead).global refl (is_qualified ahead begins whole plain) e
  where
    by : (global : Bool) → (path_ahead ahead).global ≡ global → IsQualified (path_ahead ahead) → region_by graph before_colons classes (first_region scope global) (path_ahead ahead).parts ≡ Ok where_ → P where_
    by true is qualified e = region_holds P graph before_colons classes each (first_region scope true) where_ (path_ahead ahead).parts of_unit e
    by false is (is_global global) e = absurd (apart (sym is ∙ global))
      where
        apart : false ≡ true → ⊥
        apart e = cc
    by false is (has_two are) e = region_further P graph before_colons classes each (first_region scope false) where_ (path_ahead ahead).parts are e

-- in a namespace or in a class
abbrev pub IsQualifier : Region → Type 0
IsQualifier (region.Outward scope) = ⊥
IsQualifier (region.Inside space) = Unit {0}
IsQualifier (region.Class class) = Unit {0}

pub region_inside : (graph : CxxGraph) (scope : ℕ) (ahead : Ahead) (where_ : Region) → begins_name ahead ≡ true → is_whole_name ahead ≡ true → is_plain_name ahead ≡ false → region_of graph scope (path_ahead ahead) ≡ Ok where_ → IsQualifier where_
unfolding region_of
region_inside graph scope ahead where_ begins whole plain e = region_qualified IsQualifier graph true tt each scope ahead where_ begins whole plain e
  where
    each : (inner : Region) → IsHolder graph true inner → IsQualifier inner
    each _ (holds_space inner is) = tt
    each _ (holds_class class may) = tt

-- 7.3.3: that of a using-declaration in a namespace
abbrev pub IsOfSpace : Region → Type 0
IsOfSpace (region.Outward scope) = ⊥
IsOfSpace (region.Inside space) = Unit {0}
IsOfSpace (region.Class class) = ⊥

pub using_region_inside : (graph : CxxGraph) (scope : ℕ) (ahead : Ahead) (where_ : Region) → begins_name ahead ≡ true → is_whole_name ahead ≡ true → is_plain_name ahead ≡ false → using_region_of graph scope (path_ahead ahead) ≡ Ok where_ → IsOfSpace where_
unfolding using_region_of
using_region_inside graph scope ahead where_ begins whole plain e = region_qualified IsOfSpace graph false tt each scope ahead where_ begins whole plain e
  where
    no_class : false ≡ true → ⊥
    no_class e = cc

    each : (inner : Region) → IsHolder graph false inner → IsOfSpace inner
    each _ (holds_space inner is) = tt
    each _ (holds_class class may) = no_class may

-- ---- what is true of a name that is ahead

-- 3.4.1
abbrev pub undeclared_fault : CxxPathPart → Fault
undeclared_fault part = record { place = part.place; text = says.UndeclaredName part.word; evidence = [] }

-- 3.4: two declarations of which none hides the other
abbrev pub ambiguous_fault : CxxGraph → CxxPathPart → FactId → FactId → Fault
ambiguous_fault graph part one two = record { place = part.place; text = says.AmbiguousName part.word; evidence = evidence.Found (place_of_fact graph one.0) ∷ evidence.Found (place_of_fact graph two.0) ∷ [] }

-- 10.2: two members that do not go together
abbrev pub ambiguous_member_fault : CxxGraph → CxxPathPart → Hit → Hit → Fault
ambiguous_member_fault graph part one two = record { place = part.place; text = says.AmbiguousName part.word; evidence = by_bases graph one ∷ by_bases graph two ∷ [] }

pub last_split : (parts : List CxxPathPart) → IsSome parts → (before : List CxxPathPart) × (parts ≡ before ++ last_part parts ∷ [])
last_split [] is = absurd is
last_split (part ∷ []) is = ([], refl)
last_split (part ∷ next ∷ others) is = let later = last_split (next ∷ others) tt in (part ∷ later.0, ap (λ (ps : List CxxPathPart). part ∷ ps) later.1)

-- its last part
abbrev pub last_ahead : Ahead → CxxPathPart
last_ahead ahead = last_part (path_ahead ahead).parts

-- where it is looked up: in an expression, behind `enum` and of a base, in a using-declaration (7.3.3), or in an alias or a
-- directive (3.4.6)
pub record IsLastIn (graph : CxxGraph) (scope : ℕ) (path : CxxPath) (where_ : Region) : Type 0 where
  pub wants : Wanted
  pub classes : Bool
  pub may_stand : MayStandBefore wants classes
  pub means : region_by graph wants classes (first_region scope path.global) path.parts ≡ Ok where_

pub by_region : (graph : CxxGraph) (scope : ℕ) (path : CxxPath) (where_ : Region) → region_of graph scope path ≡ Ok where_ → IsLastIn graph scope path where_
unfolding region_of
by_region graph scope path where_ e = record { wants = before_colons; classes = true; may_stand = tt; means = e }

pub by_using_region : (graph : CxxGraph) (scope : ℕ) (path : CxxPath) (where_ : Region) → using_region_of graph scope path ≡ Ok where_ → IsLastIn graph scope path where_
unfolding using_region_of
by_using_region graph scope path where_ e = record { wants = before_colons; classes = false; may_stand = tt; means = e }

pub by_space_region : (graph : CxxGraph) (scope : ℕ) (path : CxxPath) (where_ : Region) → space_region_of graph scope path ≡ Ok where_ → IsLastIn graph scope path where_
unfolding space_region_of
by_space_region graph scope path where_ e = record { wants = namespaces_only; classes = false; may_stand = tt; means = e }

pub last_there : (state : CxxState) (path : CxxPath) (where_ : Region) → InScopes state → IsLastIn state.graph state.here.scope path where_ → IsRegion state.graph where_
last_there state path where_ is last = part_there state last.wants last.classes path.global path.parts where_ is last.means

pub region_there : (state : CxxState) (path : CxxPath) (where_ : Region) → InScopes state → region_of state.graph state.here.scope path ≡ Ok where_ → IsRegion state.graph where_
region_there state path where_ is e = last_there state path where_ is (by_region state.graph state.here.scope path where_ e)

unfoldable pub last_sought : (graph : CxxGraph) (scope : ℕ) (path : CxxPath) (wanted : Wanted) (finds : Found) (fault : Fault) (where_ : Region) → IsSome path.parts → IsWantedLast wanted → fault.place ≡ (last_part path.parts).place → IsLastIn graph scope path where_ → sought_in graph wanted where_ (name_in path) ≡ finds
    → IsSought graph scope path wanted finds fault (last_part path.parts).word
last_sought graph scope path wanted finds fault where_ some so at last is =
    let split = last_split path.parts some in
    record {
      before = split.0;
      part = last_part path.parts;
      others = [];
      parts = split.1;
      wants = last.wants;
      classes = last.classes;
      may_stand = last.may_stand;
      is_wanted_so = so;
      spelled_so = refl;
      is_at = sym at;
      where_ = where_;
      qualifies = subst (λ (ps : List CxxPathPart). region_by graph last.wants last.classes (first_region scope path.global) ps ≡ Ok where_) split.1 last.means;
      finds_so = is;
    }

pub are_two : (state : CxxState) (wanted : Wanted) (where_ : Region) (part : CxxPathPart) (one two : FactId) → InScopes state → IsRegion state.graph where_ → sought_in state.graph wanted where_ (spelled part.word) ≡ sought.Ambiguous one two → AreTwo state.graph one two (ambiguous_fault state.graph part one two)
are_two state wanted where_ part one two is there e = let both = two_sought state.graph wanted where_ (spelled part.word) one two (fitting state is) there e in record { apart = both.apart; declared = both.declared; no_overloads = both.no_overloads; places = refl }

-- a part of a name that is ambiguous is told of
manifold_told : (state : CxxState) (ahead : Ahead) (wanted : Wanted) (where_ : Region) (part : CxxPathPart) (x : Found) (why : Stopped) → IsTwain state.graph part x why → sought_in state.graph wanted where_ (spelled part.word) ≡ x → (InScopes state → IsRegion state.graph where_) → ((fault : Fault) → fault.place ≡ part.place → IsNamed wanted x state ahead fault part.word)
    → Told state ahead why
manifold_told state ahead wanted where_ part _ _ (two_found one two) is there named =
    reached_here state ahead (IsManifold (ambiguous_fault state.graph part one two) part.word)
    (λ scopes. twofold_name wanted one two (named (ambiguous_fault state.graph part one two) refl) (are_two state wanted where_ part one two scopes (there scopes) is))
manifold_told state ahead wanted where_ part _ _ (members_found class one two) is there named =
    reached_here state ahead (IsManifold (ambiguous_member_fault state.graph part one two) part.word)
    (λ scopes. twofold_inherited wanted class one two (named (ambiguous_member_fault state.graph part one two) refl) (members_sought state.graph wanted where_ (spelled part.word) class one two scopes.sound is) refl)

-- the last part of one
pub twofold_in : (wanted : Wanted) → IsWantedLast wanted → (state : CxxState) (ahead : Ahead) → begins_name ahead ≡ true → is_whole_name ahead ≡ true → (where_ : Region) → IsLastIn state.graph state.here.scope (path_ahead ahead) where_ → (x : Found) (why : Stopped) → IsTwain state.graph (last_ahead ahead) x why → sought_in state.graph wanted where_ (name_in (path_ahead ahead)) ≡ x
    → Told state ahead why
twofold_in wanted so state ahead begins whole where_ last x why two is =
    manifold_told state ahead wanted where_ (last_ahead ahead) x why two is (λ scopes. last_there state (path_ahead ahead) where_ scopes last)
    (λ fault at. record { begins = begins; whole = whole; is_sought = last_sought state.graph state.here.scope (path_ahead ahead) wanted x fault where_ (some_parts ahead begins whole) so at last is })

pub twofold_ahead : (wanted : Wanted) → IsWantedLast wanted → (state : CxxState) (ahead : Ahead) → begins_name ahead ≡ true → is_whole_name ahead ≡ true → (where_ : Region) → region_of state.graph state.here.scope (path_ahead ahead) ≡ Ok where_ → (x : Found) (why : Stopped) → IsTwain state.graph (last_ahead ahead) x why → sought_in state.graph wanted where_ (name_in (path_ahead ahead)) ≡ x
    → Told state ahead why
twofold_ahead wanted so state ahead begins whole where_ means x why two is = twofold_in wanted so state ahead begins whole where_ (by_region state.graph state.here.scope (path_ahead ahead) where_ means) x why two is

-- one of which nothing is found
pub unknown_in : (wanted : Wanted) → IsWantedLast wanted → (state : CxxState) (ahead : Ahead) → begins_name ahead ≡ true → is_whole_name ahead ≡ true → (where_ : Region) → IsLastIn state.graph state.here.scope (path_ahead ahead) where_
    → (InScopes state → (sought_in state.graph wanted where_ (name_in (path_ahead ahead)) ≡ nothing_in where_) × IsNotThere state.graph wanted where_ (name_in (path_ahead ahead))) → Told state ahead (undeclared_at (last_ahead ahead).place (last_ahead ahead).word)
unfolding last_sought
unknown_in wanted so state ahead begins whole where_ last is =
    reached_here state ahead (IsUndeclared (undeclared_fault (last_ahead ahead)) (last_ahead ahead).word) (record {
      is = λ scopes. let found = is scopes in
          (unknown_name wanted (nothing_in where_) (record { begins = begins; whole = whole; is_sought = last_sought state.graph state.here.scope (path_ahead ahead) wanted (nothing_in where_) (undeclared_fault (last_ahead ahead)) where_ (some_parts ahead begins whole) so refl last found.0 }) refl, found.1);
      bare = refl;
    })

-- the same by what is found
pub nothing_last : (wanted : Wanted) → IsWantedLast wanted → (state : CxxState) (ahead : Ahead) → begins_name ahead ≡ true → is_whole_name ahead ≡ true → (where_ : Region) → IsLastIn state.graph state.here.scope (path_ahead ahead) where_ → (x : Found) → sought_in state.graph wanted where_ (name_in (path_ahead ahead)) ≡ x → IsClear x → set_in state.graph x ≡ []
    → Told state ahead (undeclared_at (last_ahead ahead).place (last_ahead ahead).word)
nothing_last wanted so state ahead begins whole where_ last x is clear none =
    unknown_in wanted so state ahead begins whole where_ last (λ scopes. nothing_sought state.graph wanted where_ (name_in (path_ahead ahead)) (fitting state scopes) (last_there state (path_ahead ahead) where_ scopes last) x is clear none)

pub nothing_ahead : (wanted : Wanted) → IsWantedLast wanted → (state : CxxState) (ahead : Ahead) → begins_name ahead ≡ true → is_whole_name ahead ≡ true → (where_ : Region) → region_of state.graph state.here.scope (path_ahead ahead) ≡ Ok where_ → (x : Found) → sought_in state.graph wanted where_ (name_in (path_ahead ahead)) ≡ x → IsClear x → set_in state.graph x ≡ []
    → Told state ahead (undeclared_at (last_ahead ahead).place (last_ahead ahead).word)
nothing_ahead wanted so state ahead begins whole where_ means x is clear none = nothing_last wanted so state ahead begins whole where_ (by_region state.graph state.here.scope (path_ahead ahead) where_ means) x is clear none

-- what follows where the last part of a name is not ambiguous
pub unambiguous_tells : {A : Type 0} (wanted : Wanted) → IsWantedLast wanted → (state : CxxState) (ahead : Ahead) → begins_name ahead ≡ true → is_whole_name ahead ≡ true → (where_ : Region) → region_of state.graph state.here.scope (path_ahead ahead) ≡ Ok where_ → (x : Found) → sought_in state.graph wanted where_ (name_in (path_ahead ahead)) ≡ x
    → (next : Answer (A × CxxState)) → (IsClear x → ToldBy IsLater Told state ahead next) → ToldBy IsLater Told state ahead (unambiguous state.graph (last_ahead ahead) x >>= λ clear. next)
unambiguous_tells {A = A} wanted so state ahead begins whole where_ means x is next tells = by (clear_or state.graph (last_ahead ahead) x)
  where
    by : {r : Answer (Unit {0})} → ClearOr state.graph (last_ahead ahead) x r → ToldBy IsLater Told state ahead (r >>= λ clear. next)
    by (is_clear clear) = tells clear
    by (is_twain why two) = tells_refusal why (twofold_ahead wanted so state ahead begins whole where_ means x why two is)

-- a part before `::`
unfoldable pub split_sought : (graph : CxxGraph) (wants : Wanted) (classes : Bool) → MayStandBefore wants classes → (first : Region) (path : CxxPath) (finds : Found) (fault : Fault) (split : SplitAt graph wants classes first path.parts) → split.part.place ≡ fault.place → sought_in graph wants split.where_ (spelled split.part.word) ≡ finds
    → IsSoughtFrom graph first path wants finds fault split.part.word
split_sought graph wants classes stands first path finds fault split at is = record {
  before = split.before;
  part = split.part;
  others = split.next ∷ split.others;
  parts = split.are;
  wants = wants;
  classes = classes;
  may_stand = stands;
  is_wanted_so = refl;
  spelled_so = refl;
  is_at = at;
  where_ = split.where_;
  qualifies = split.qualifies;
  finds_so = is;
}

split_named : (state : CxxState) (wants : Wanted) (classes : Bool) → MayStandBefore wants classes → (ahead : Ahead) (finds : Found) (fault : Fault) (split : SplitAt state.graph wants classes (first_region state.here.scope (path_ahead ahead).global) (path_ahead ahead).parts) → begins_name ahead ≡ true → is_whole_name ahead ≡ true → split.part.place ≡ fault.place → sought_in state.graph wants split.where_ (spelled split.part.word) ≡ finds
    → IsNamed wants finds state ahead fault split.part.word
split_named state wants classes stands ahead finds fault split begins whole at is = record {
  begins = begins;
  whole = whole;
  is_sought = split_sought state.graph wants classes stands (first_region state.here.scope (path_ahead ahead).global) (path_ahead ahead) finds fault split at is;
}

pub holder_told : (state : CxxState) (wants : Wanted) (classes : Bool) → MayStandBefore wants classes → (ahead : Ahead) (split : SplitAt state.graph wants classes (first_region state.here.scope (path_ahead ahead).global) (path_ahead ahead).parts) → begins_name ahead ≡ true → is_whole_name ahead ≡ true → (why : Stopped) → HolderStops state.graph wants split.where_ split.part why → Told state ahead why
unfolding split_sought split_named
holder_told state wants classes stands ahead split begins whole why (holds_two x _ is two) =
    manifold_told state ahead wants split.where_ split.part x why two is (λ scopes. part_there state wants classes (path_ahead ahead).global (split.before ++ split.part ∷ []) split.where_ scopes split.qualifies)
    (λ fault at. split_named state wants classes stands ahead x fault split begins whole (sym at) is)
holder_told state wants classes stands ahead split begins whole _ (holds_none x is clear none) =
    reached_here state ahead (IsUndeclared (undeclared_fault split.part) split.part.word) (record {
      is = λ scopes. let found = nothing_sought state.graph wants split.where_ (spelled split.part.word) (fitting state scopes) (part_there state wants classes (path_ahead ahead).global (split.before ++ split.part ∷ []) split.where_ scopes split.qualifies) x is clear none in
          (unknown_name wants (nothing_in split.where_) (split_named state wants classes stands ahead (nothing_in split.where_) (undeclared_fault split.part) split begins whole refl found.0) refl, found.1);
      bare = refl;
    })
holder_told state wants classes stands ahead split begins whole why (holds_other _ quiet) = quiet_told state ahead why quiet

-- 3.4.3: where a part before `::` means no namespace and no class that may stand there
part_told : (state : CxxState) (wants : Wanted) (classes : Bool) → MayStandBefore wants classes → (ahead : Ahead) → begins_name ahead ≡ true → is_whole_name ahead ≡ true → (why : Stopped) → region_by state.graph wants classes (first_region state.here.scope (path_ahead ahead).global) (path_ahead ahead).parts ≡ Err why → Told state ahead why
part_told state wants classes stands ahead begins whole why e =
    let failed = region_fails state.graph wants classes (first_region state.here.scope (path_ahead ahead).global) (path_ahead ahead).parts why e in
    holder_told state wants classes stands ahead failed.0 begins whole why (holder_stops state.graph wants classes failed.0.where_ failed.0.part why failed.1)

pub region_told : (state : CxxState) (ahead : Ahead) → begins_name ahead ≡ true → is_whole_name ahead ≡ true → (why : Stopped) → region_of state.graph state.here.scope (path_ahead ahead) ≡ Err why → Told state ahead why
unfolding region_of
region_told state ahead begins whole why e = part_told state before_colons true tt ahead begins whole why e

-- 7.3.3
pub using_region_told : (state : CxxState) (ahead : Ahead) → begins_name ahead ≡ true → is_whole_name ahead ≡ true → (why : Stopped) → using_region_of state.graph state.here.scope (path_ahead ahead) ≡ Err why → Told state ahead why
unfolding using_region_of
using_region_told state ahead begins whole why e = part_told state before_colons false tt ahead begins whole why e

-- 3.4.6
pub space_region_told : (state : CxxState) (ahead : Ahead) → begins_name ahead ≡ true → is_whole_name ahead ≡ true → (why : Stopped) → space_region_of state.graph state.here.scope (path_ahead ahead) ≡ Err why → Told state ahead why
unfolding space_region_of
space_region_told state ahead begins whole why e = part_told state namespaces_only false tt ahead begins whole why e
