-- What is filed of the linked declarations, and what it is when there is one more, or when there are more facts.
use Rattle.std.proofs.Common.{◌≡◌, ◌<◌, ℕ, zero, suc, Bool, true, false, cond, ◌&&◌, ◌||◌, nat_eq, List, [], ◌∷◌, ◌++◌, length, Option, Some, None, refl, sym, ap, ◌∙◌, arith, length-append}
use Rattle.std.specs.Prelude.{Result, Ok, Err, OnOk}
use Rattle.std.specs.List.{slice_get}
use Rattle.std.proofs.lemmas.Bool.{eqb-true, eq-eqb}
use Rattle.cxx_model.specs.declared.facts.Fact.{Fact}
use Rattle.cxx_model.specs.declared.types.FactId.{FactId}
use Rattle.cxx_model.specs.declared.types.ScopeId.{ScopeId}
use Rattle.cxx_model.specs.Facts.Declarations.{graph_at}
use Rattle.cxx_model.specs.Facts.Graph.{Graph}
use Rattle.cxx_model.specs.Types.Trees.{CxxType}
use Rattle.cxx_names.specs.declared.words.Words.{Words}
use Rattle.cxx_names.specs.Words.{Files, IsSound, is_text, word_row}
use Rattle.cxx_reading.specs.Linked.{home_of}
use Rattle.cxx_linked.specs.declared.linkages.Linkages.{Linkages}
use Rattle.cxx_linked.specs.Links.{AreThere, FilesLinked, Links, holds_fact, home_in, is_linked_to, linked_to, same_fact}

pub if_ok : {X E : Type 0} (r : Result X E) (P Q : Type 0) → (P → Q) → OnOk r P → OnOk r Q
if_ok (Ok x) P Q f p = f p
if_ok (Err why) P Q f p = tt

-- ---- one more that is filed

pub home_is : (types : List CxxType) (graph : Graph) (scope : ScopeId) → home_of (graph_at types graph) scope.0 ≡ home_in types graph.facts scope
unfolding home_of
home_is types graph scope = refl

pub filed_some : (old new : Words) (graph : Graph) (number : FactId) (fact : Fact) (space : ScopeId) → slice_get graph.facts number.0 ≡ Some fact → ((types : List CxxType) → space.0 ≡ home_of (graph_at types graph) fact.scope.0) → Files old new space fact.name number → FilesLinked old new graph.facts number
filed_some old new graph number fact space at home files other word types =
    files other word
    ∙ (ap (λ n. cond (nat_eq n other.0 && is_text fact.name word) (word_row old other word ++ number ∷ []) (word_row old other word)) (home types ∙ home_is types graph fact.scope)
    ∙ ap (λ o. cond (is_linked_to types graph.facts other.0 word o) (word_row old other word ++ number ∷ []) (word_row old other word)) (sym at))

-- ---- one more that is linked

linked_more : (types : List CxxType) (facts : List Fact) (space : ℕ) (word : List ℕ) (linked : List FactId) (number : FactId) → linked_to types facts space word (linked ++ number ∷ []) ≡ cond (is_linked_to types facts space word (slice_get facts number.0)) (linked_to types facts space word linked ++ number ∷ []) (linked_to types facts space word linked)
linked_more types facts space word [] number = by (is_linked_to types facts space word (slice_get facts number.0))
  where
    by : (b : Bool) → cond b (number ∷ []) [] ≡ cond b ([] ++ number ∷ []) []
    by true = refl
    by false = refl
linked_more types facts space word (one ∷ others) number = by (is_linked_to types facts space word (slice_get facts one.0)) (is_linked_to types facts space word (slice_get facts number.0)) (linked_more types facts space word others number)
  where
    rest : List FactId
    rest = linked_to types facts space word others

    by : (b d : Bool) → linked_to types facts space word (others ++ number ∷ []) ≡ cond d (rest ++ number ∷ []) rest
        → cond b (one ∷ linked_to types facts space word (others ++ number ∷ [])) (linked_to types facts space word (others ++ number ∷ [])) ≡ cond d (cond b (one ∷ rest) rest ++ number ∷ []) (cond b (one ∷ rest) rest)
    by true true e = ap (λ ns. one ∷ ns) e
    by true false e = ap (λ ns. one ∷ ns) e
    by false true e = e
    by false false e = e

there_more : (count : ℕ) (linked : List FactId) (number : FactId) → AreThere count linked → number.0 < count → AreThere count (linked ++ number ∷ [])
there_more count [] number there within = (within, tt)
there_more count (one ∷ others) number there within = (there.0, there_more count others number there.1 within)

pub turned : (m n : ℕ) → nat_eq m n ≡ nat_eq n m
turned m n = by (nat_eq m n) (nat_eq n m) refl refl
  where
    by : (a b : Bool) → nat_eq m n ≡ a → nat_eq n m ≡ b → a ≡ b
    by true true e f = refl
    by false false e f = refl
    by true false e f = (let yes : nat_eq n m ≡ true = eq-eqb n m (sym (eqb-true m n e)) in absurd (cc))
    by false true e f = (let yes : nat_eq m n ≡ true = eq-eqb m n (sym (eqb-true n m f)) in absurd (cc))

held_more : (linked : List FactId) (number other : FactId) → holds_fact (linked ++ number ∷ []) other ≡ cond (same_fact number other) true (holds_fact linked other)
held_more [] number other = ap (λ b. b || false) (turned other.0 number.0) ∙ by (nat_eq number.0 other.0)
  where
    by : (b : Bool) → (b || false) ≡ cond b true false
    by true = refl
    by false = refl
held_more (one ∷ others) number other = ap (λ b. nat_eq other.0 one.0 || b) (held_more others number other) ∙ by (nat_eq other.0 one.0) (nat_eq number.0 other.0)
  where
    by : (a b : Bool) → (a || cond b true (holds_fact others other)) ≡ cond b true (a || holds_fact others other)
    by true true = refl
    by true false = refl
    by false true = refl
    by false false = refl

pub links_more : (old new : Linkages) (facts : List Fact) (linked : List FactId) (number : FactId) → number.0 < length facts → IsSound new.words → FilesLinked old.words new.words facts number
    → ((other : FactId) → holds_fact new.known.keys other ≡ cond (same_fact number other) true (holds_fact old.known.keys other)) → Links old facts linked → Links new facts (linked ++ number ∷ [])
links_more old new facts linked number within sound filed known links = record {
  sound = sound;
  there = there_more (length facts) linked number links.there within;
  rows = λ space word types.
      filed space word types
      ∙ (ap (λ ns. cond (is_linked_to types facts space.0 word (slice_get facts number.0)) (ns ++ number ∷ []) ns) (links.rows space word types)
      ∙ sym (linked_more types facts space.0 word linked number));
  known = λ other. known other ∙ (ap (λ b. cond (same_fact number other) true b) (links.known other) ∙ sym (held_more linked number other));
}

-- ---- facts behind the others

stored_later : (facts others : List Fact) (n : ℕ) → n < length facts → slice_get (facts ++ others) n ≡ slice_get facts n
stored_later [] others n within = absurd (omega arith)
stored_later (one ∷ facts) others zero within = refl
stored_later (one ∷ facts) others (suc n) within = stored_later facts others n (omega arith)

there_later : (facts others : List Fact) (linked : List FactId) → AreThere (length facts) linked → AreThere (length (facts ++ others)) linked
there_later facts others [] there = tt
there_later facts others (one ∷ linked) there = (let within : one.0 < length facts = there.0 in omega (arith, length-append facts others), there_later facts others linked there.1)

-- no innermost namespace changes
abbrev pub KeepsHomes : List Fact → List Fact → Type 0
KeepsHomes facts others = (types : List CxxType) (n : ℕ) (fact : Fact) → slice_get facts n ≡ Some fact → home_in types (facts ++ others) fact.scope ≡ home_in types facts fact.scope

module _ (facts others : List Fact) (homes : KeepsHomes facts others) (types : List CxxType) (space : ℕ) (word : List ℕ) where
  test_later : (n : ℕ) (o : Option Fact) → slice_get facts n ≡ o → is_linked_to types (facts ++ others) space word o ≡ is_linked_to types facts space word o
  test_later n None at = refl
  test_later n (Some fact) at = ap (λ m. nat_eq m space && is_text fact.name word) (homes types n fact at)

  linked_later : (linked : List FactId) → AreThere (length facts) linked → linked_to types (facts ++ others) space word linked ≡ linked_to types facts space word linked
  linked_later [] there = refl
  linked_later (one ∷ linked) there =
      ap (λ o. cond (is_linked_to types (facts ++ others) space word o) (one ∷ linked_to types (facts ++ others) space word linked) (linked_to types (facts ++ others) space word linked)) (stored_later facts others one.0 there.0)
      ∙ (ap (λ b. cond b (one ∷ linked_to types (facts ++ others) space word linked) (linked_to types (facts ++ others) space word linked)) (test_later one.0 (slice_get facts one.0) refl)
      ∙ ap (λ ns. cond (is_linked_to types facts space word (slice_get facts one.0)) (one ∷ ns) ns) (linked_later linked there.1))

pub links_later : (linkages : Linkages) (facts others : List Fact) (linked : List FactId) → KeepsHomes facts others → Links linkages facts linked → Links linkages (facts ++ others) linked
links_later linkages facts others linked homes links = record {
  sound = links.sound;
  there = there_later facts others linked links.there;
  rows = λ space word types. links.rows space word types ∙ sym (linked_later facts others homes types space.0 word linked links.there);
  known = links.known;
}
