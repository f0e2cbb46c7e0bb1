-- Where the last part of a name is looked up.
use Rattle.std.specs.Prelude.{ℕ, ◌≡◌, ◌<◌, ◌≤◌, ◌-◌, Bool, true, false, List, [], ◌∷◌, length, take, drop, Result, Ok, Err, IfOk, refl}
use Rattle.std.proofs.Common.{ap, sym, subst, ◌∙◌, arith, eqb, get_or}
use Rattle.std.proofs.lemmas.Bool.{eqb-true}
use Rattle.std.proofs.lemmas.List.{take_all}
use Rattle.cxx_meaning.specs.Lookups.Qualified.{qualified}
use Rattle.cxx_meaning.specs.Lookups.Wanted.{Wanted}
use Rattle.cxx_model.specs.declared.lookup.Found.{Found}
use Rattle.cxx_model.specs.declared.memory.OutOfMemory.{OutOfMemory}
use Rattle.cxx_model.specs.declared.stop.Stop.{Stop}
use Rattle.cxx_model.specs.declared.tree.PathPart.{PathPart}
use Rattle.cxx_model.specs.declared.types.ScopeId.{ScopeId}
use Rattle.cxx_model.specs.Facts.Declarations.{CxxGraph, facts_at, graph_at, spelled}
use Rattle.cxx_model.specs.Facts.Graph.{Graph}
use Rattle.cxx_model.specs.Stops.{Answer, Stops, ◌>>=◌}
use Rattle.cxx_model.specs.Types.Trees.{CxxType}
use Rattle.cxx_reading.specs.declared.region.Region.{Region}
use Rattle.cxx_reading.specs.declared.region.Region.TheVariants.{Inside}
use Rattle.cxx_reading.specs.Paths.{holder, region_by, sought_in}
use Rattle.cxx_reading.specs.Seen.{found_or_none}
use Rattle.cxx_tree.specs.Arena.{path_part_at, path_parts_at}
use Rattle.cxx_tree.specs.Held.{Held, meaning}
use Rattle.cxx_paths.proofs.Stopping.{stopped_on}

-- what is found behind `::`
pub inside_found : (held : Held) (graph : Graph) (types : List CxxType) (wanted : Wanted) (space : ScopeId) (word : List ℕ) (r : Result Found OutOfMemory) → graph ≡ held.graph → types ≡ held.types
    → IfOk r (λ one. qualified (graph_at types graph) wanted space (spelled word) (length (facts_at types graph.facts)) ≡ Ok one) → IfOk r (λ one. one ≡ sought_in (meaning held).graph wanted (Inside space) (spelled word))
unfolding sought_in meaning
inside_found held graph types wanted space word (Err e) same are is = tt
inside_found held graph types wanted space word (Ok one) same are is =
    sym (ap found_or_none
    (subst (λ (g : Graph). qualified (graph_at held.types g) wanted space (spelled word) (length (facts_at held.types g.facts)) ≡ Ok one) same
    (subst (λ (ts : List CxxType). qualified (graph_at ts graph) wanted space (spelled word) (length (facts_at ts graph.facts)) ≡ Ok one) are is)))

-- ---- one part after another

pub region_alone : (graph : CxxGraph) (wanted : Wanted) (classes : Bool) (where_ : Region) (part : PathPart) (others : List PathPart) → others ≡ [] → region_by graph wanted classes where_ (path_parts_at (part ∷ others)) ≡ Ok where_
unfolding region_by
region_alone graph wanted classes where_ part [] none = refl
region_alone graph wanted classes where_ part (one ∷ others) none = absurd (cc)

pub region_none : (graph : CxxGraph) (wanted : Wanted) (classes : Bool) (where_ : Region) (parts : List PathPart) → length parts < 1 → region_by graph wanted classes where_ (path_parts_at parts) ≡ Ok where_
unfolding region_by
region_none graph wanted classes where_ [] none = refl
region_none graph wanted classes where_ (one ∷ others) none = absurd (omega (arith, none))

-- the parts behind the first are some
region_more : (graph : CxxGraph) (wanted : Wanted) (classes : Bool) (where_ : Region) (part : PathPart) (others : List PathPart) → 0 < length others → region_by graph wanted classes where_ (path_parts_at (part ∷ others)) ≡ (holder graph wanted classes where_ (path_part_at part) >>= λ inner. region_by graph wanted classes inner (path_parts_at others))
unfolding region_by
region_more graph wanted classes where_ part [] some = absurd (omega (arith, some))
region_more graph wanted classes where_ part (one ∷ others) some = refl

pub region_next : (graph : CxxGraph) (wanted : Wanted) (classes : Bool) (where_ : Region) (part : PathPart) (others : List PathPart) (inner : Region) → 0 < length others → holder graph wanted classes where_ (path_part_at part) ≡ Ok inner → region_by graph wanted classes where_ (path_parts_at (part ∷ others)) ≡ region_by graph wanted classes inner (path_parts_at others)
region_next graph wanted classes where_ part others inner some is = region_more graph wanted classes where_ part others some ∙ ap (λ (a : Answer Region). a >>= λ n. region_by graph wanted classes n (path_parts_at others)) is

pub region_stops : (graph : CxxGraph) (wanted : Wanted) (classes : Bool) (where_ : Region) (part : PathPart) (others : List PathPart) (why : Stop) → 0 < length others → Stops why (holder graph wanted classes where_ (path_part_at part)) → Stops why (region_by graph wanted classes where_ (path_parts_at (part ∷ others)))
region_stops graph wanted classes where_ part others why some stops = subst (λ a. Stops why a) (sym (region_more graph wanted classes where_ part others some)) (stopped_on why (holder graph wanted classes where_ (path_part_at part)) (λ n. region_by graph wanted classes n (path_parts_at others)) stops)

-- ---- the same of a list that is split

rest_is : (part : PathPart) (others : List PathPart) → take (length (part ∷ others) - 1) (drop 1 (part ∷ others)) ≡ others
rest_is part others = take_all (length (part ∷ others) - 1) others (omega arith)

none_behind : (others : List PathPart) → eqb (length others) 0 ≡ true → others ≡ []
none_behind [] is = refl
none_behind (one ∷ others) is = absurd (let none : length (one ∷ others) ≡ 0 = eqb-true (length (one ∷ others)) 0 is in omega (arith, none))

some_behind : (others : List PathPart) → eqb (length others) 0 ≡ false → 0 < length others
some_behind [] is = absurd (cc)
some_behind (one ∷ others) is = omega arith

pub region_whole : (graph : CxxGraph) (wanted : Wanted) (classes : Bool) (where_ : Region) (rest : List PathPart) (b : Bool) → 1 ≤ length rest → b ≡ eqb (length (take (length rest - 1) (drop 1 rest))) 0 → b ≡ true → region_by graph wanted classes where_ (path_parts_at rest) ≡ Ok where_
region_whole graph wanted classes where_ [] b some is last = absurd (omega (arith, some))
region_whole graph wanted classes where_ (part ∷ others) b some is last =
    region_alone graph wanted classes where_ part others (none_behind others (ap (λ (xs : List PathPart). eqb (length xs) 0) (sym (rest_is part others)) ∙ sym is ∙ last))

pub region_ends : (graph : CxxGraph) (wanted : Wanted) (classes : Bool) (where_ : Region) (rest : List PathPart) (part d : PathPart) (b : Bool) (why : Stop) → 1 ≤ length rest → part ≡ get_or rest 0 d → b ≡ eqb (length (take (length rest - 1) (drop 1 rest))) 0 → b ≡ false → Stops why (holder graph wanted classes where_ (path_part_at part)) → Stops why (region_by graph wanted classes where_ (path_parts_at rest))
region_ends graph wanted classes where_ [] part d b why some at is more stops = absurd (omega (arith, some))
region_ends graph wanted classes where_ (one ∷ others) part d b why some at is more stops =
    region_stops graph wanted classes where_ one others why (some_behind others (ap (λ (xs : List PathPart). eqb (length xs) 0) (sym (rest_is one others)) ∙ sym is ∙ more)) (subst (λ (p : PathPart). Stops why (holder graph wanted classes where_ (path_part_at p))) at stops)

pub region_goes : (graph : CxxGraph) (wanted : Wanted) (classes : Bool) (where_ : Region) (rest : List PathPart) (part d : PathPart) (b : Bool) (inner : Region) → 1 ≤ length rest → part ≡ get_or rest 0 d → b ≡ eqb (length (take (length rest - 1) (drop 1 rest))) 0 → b ≡ false → holder graph wanted classes where_ (path_part_at part) ≡ Ok inner → region_by graph wanted classes inner (path_parts_at (take (length rest - 1) (drop 1 rest))) ≡ region_by graph wanted classes where_ (path_parts_at rest)
region_goes graph wanted classes where_ [] part d b inner some at is more held = absurd (omega (arith, some))
region_goes graph wanted classes where_ (one ∷ others) part d b inner some at is more held =
    ap (λ (xs : List PathPart). region_by graph wanted classes inner (path_parts_at xs)) (rest_is one others)
    ∙ sym (region_next graph wanted classes where_ one others inner (some_behind others (ap (λ (xs : List PathPart). eqb (length xs) 0) (sym (rest_is one others)) ∙ sym is ∙ more)) (subst (λ (p : PathPart). holder graph wanted classes where_ (path_part_at p) ≡ Ok inner) at held))
