-- Lists of sightings that grow.
use Rattle.std.proofs.Common.{◌≡◌, ℕ, ◌+◌, ◌≤◌, List, [], ◌∷◌, ◌++◌, length, map, drop, Option, refl, ap, sym, ◌∙◌, subst, append_assoc, Bool, true, false, cond}
use Rattle.std.specs.List.{slice_get, filter}
use Rattle.std.proofs.lemmas.List.{append-nil, map-append}
use Rattle.cxx_model.specs.declared.facts.Fact.{Fact}
use Rattle.cxx_model.specs.Types.Trees.{CxxType}
use Rattle.cxx_model.specs.Facts.Declarations.{CxxFact, facts_at}
use Rattle.cxx_model.specs.Facts.Fitted.{IsEntityBelow}
use Rattle.cxx_meaning.specs.Lookups.Gathered.{gathered}
use Rattle.cxx_meaning.specs.Lookups.Sightings.{Sighting as SightingMeant}
use Rattle.cxx_members.specs.declared.sightings.Sighting.{Sighting}
use Rattle.cxx_members.specs.Sighted.{Adds, AreBelow, given_at, sighting_at}
use Rattle.cxx_members.proofs.Gathering.{gathered_all, given_more}

pub below_push : (count : ℕ) (xs : List Sighting) (x : Sighting) → AreBelow count xs → IsEntityBelow count x.what → AreBelow count (xs ++ x ∷ [])
below_push count [] x all one = (one, tt)
below_push count (y ∷ ys) x all one = (all.0, below_push count ys x all.1 one)

pub adds_one : (types : List CxxType) (old new : List Sighting) (one : Sighting) → new ≡ old ++ one ∷ [] → IsEntityBelow (length types) one.what → Adds types old new (sighting_at types one ∷ [])
adds_one types old new one e below = record {
  seen = ap (map (sighting_at types)) e ∙ map-append (sighting_at types) old (one ∷ []);
  below = λ all. subst (AreBelow (length types)) (sym e) (below_push (length types) old one all below);
}

pub adds_none : (types : List CxxType) (old : List Sighting) → Adds types old old []
adds_none types old = record { seen = sym (append-nil (map (sighting_at types) old)); below = λ all. all }

pub adds_both : (types : List CxxType) (old middle new : List Sighting) (ones twos : List SightingMeant) → Adds types old middle ones → Adds types middle new twos → Adds types old new (ones ++ twos)
adds_both types old middle new ones twos one two = record {
  seen = two.seen ∙ (ap (λ xs. xs ++ twos) one.seen ∙ append_assoc (map (sighting_at types) old) ones twos);
  below = λ all. two.below (one.below all);
}

-- one fact more was looked at
pub adds_more : (types : List CxxType) (give : ℕ → CxxFact → Option SightingMeant) (facts : List Fact) (number : ℕ) (old new : List Sighting) → Adds types old new (given_at give number (slice_get (facts_at types facts) number)) → map (sighting_at types) old ++ gathered give number (facts_at types (drop number facts)) ≡ map (sighting_at types) new ++ gathered give (number + 1) (facts_at types (drop (number + 1) facts))
adds_more types give facts number old new adds =
    given_more give types facts number (map (sighting_at types) old) (map (sighting_at types) new) adds.seen

-- past the last fact
pub adds_all : (types : List CxxType) (give : ℕ → CxxFact → Option SightingMeant) (facts : List Fact) (number : ℕ) (found : List Sighting) → length facts ≤ number → map (sighting_at types) found ++ gathered give number (facts_at types (drop number facts)) ≡ map (sighting_at types) found
adds_all types give facts number found le = gathered_all give types facts number (map (sighting_at types) found) le

filter_first : {A : Type 0} (test : A → Bool) (x : A) (xs : List A) → filter test (x ∷ xs) ≡ filter test (x ∷ []) ++ filter test xs
filter_first test x xs = by (test x)
  where
    by : (t : Bool) → cond t (x ∷ filter test xs) (filter test xs) ≡ cond t (x ∷ []) [] ++ filter test xs
    by true = refl
    by false = refl

-- one more was let through, or not
pub adds_filtered : (types : List CxxType) (test : SightingMeant → Bool) (old new : List Sighting) (one : SightingMeant) (others : List SightingMeant) → Adds types old new (filter test (one ∷ [])) → map (sighting_at types) old ++ filter test (one ∷ others) ≡ map (sighting_at types) new ++ filter test others
adds_filtered types test old new one others adds =
    ap (λ xs. map (sighting_at types) old ++ xs) (filter_first test one others) ∙ (sym (append_assoc (map (sighting_at types) old) (filter test (one ∷ [])) (filter test others)) ∙ ap (λ xs. xs ++ filter test others) (sym adds.seen))

pub adds_to_none : (types : List CxxType) (found : List Sighting) (more : List SightingMeant) → Adds types [] found more → (map (sighting_at types) found ≡ more) × AreBelow (length types) found
adds_to_none types found more adds = (adds.seen, adds.below tt)
