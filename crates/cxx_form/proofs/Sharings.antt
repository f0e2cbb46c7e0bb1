-- The first declarations with a signature, one declaration after another.
use Rattle.std.proofs.Common.{◌≡◌, ℕ, zero, suc, ◌+◌, ◌<◌, ◌≤◌, Bool, true, false, List, [], ◌∷◌, ◌++◌, length, length-append, Option, Some, None, refl, ap, sym, subst, ◌∙◌, arith, eqb, eq-eqb, ◌⊎◌, inl, inr}
use Rattle.std.specs.Prelude.{nat_eq, ◌||◌, if◌then◌else◌}
use Rattle.std.specs.Cmp.Lexicographic.{pointwise}
use Rattle.std.specs.Global.{Vec}
use Rattle.std.specs.List.{list_any, slice_get}
use Rattle.std.proofs.Math.Nat.{eq-or-lt_of_le}
use Rattle.std.proofs.Math.Seq.{get_or-append_seam}
use Rattle.std.proofs.lemmas.Bool.{cases_lt, eqb-true}
use Rattle.std.proofs.lemmas.List.{get_or_append_left, get_or_past, map-append}
use Rattle.std.proofs.lemmas.List.Folds.{list_any-append}
use Rattle.std.proofs.lemmas.Option.{slice_get_past}
use Rattle.cxx_model.specs.declared.types.FactId.{FactId}
use Rattle.cxx_model.specs.Facts.Declarations.{CxxFact, CxxName}
use Rattle.cxx_model.specs.Types.Trees.{function_of, CxxType}
use Rattle.cxx_model.proofs.Equal.{both, join, word_told, word_tells}
use Rattle.cxx_form.specs.declared.mark.Mark.{Mark}
use Rattle.cxx_form.specs.Lines.{number_in, numbers_in}
use Rattle.cxx_form.specs.Marked.{row_by, IsMarkedMore}
use Rattle.cxx_form.specs.Shared.{first_signed, first_with, has_same, representative, signature_of, signature_with, CxxSignature}
use Rattle.cxx_form.specs.Sharing.{first_among, first_at, mark_by, mark_of, marked, same_mark, AreMarked, AreShared, AreSharedBefore}
use Rattle.cxx_form.proofs.Signed.{has_told, has_tells}

-- ---- the first one with a signature

module _ (signature : CxxSignature) where
  -- where there is one, it does not matter which other one is taken where there is none
  with_any : (d e n : ℕ) (all : List CxxFact) (k : ℕ) → signature_of (slice_get all k) ≡ Some signature → first_with signature d n all ≡ first_with signature e n all
  with_any d e n [] k is = cc
  with_any d e n (fact ∷ facts) zero is =
      let it : has_same signature (signature_of (Some fact)) ≡ true = has_tells signature (signature_of (Some fact)) is in
      rw it refl
  with_any d e n (fact ∷ facts) (suc k) is = ap (λ (m : ℕ). if has_same signature (signature_of (Some fact)) then n else m) (with_any d e (suc n) facts k is)

  -- it has the signature, and is not behind any other one that has
  pub record IsFirst (all : List CxxFact) (n m k : ℕ) : Type 0 where
    pub place : ℕ
    pub at : m ≡ n + place
    pub before : place ≤ k
    pub has : signature_of (slice_get all place) ≡ Some signature

  it_is : (d n : ℕ) (all : List CxxFact) (k : ℕ) → signature_of (slice_get all k) ≡ Some signature → IsFirst all n (first_with signature d n all) k
  it_is d n [] k is = cc
  it_is d n (fact ∷ facts) k is = by (has_same signature (signature_of (Some fact))) refl k is (λ j its. it_is d (suc n) facts j its)
    where
      by : (t : Bool) → has_same signature (signature_of (Some fact)) ≡ t → (k : ℕ) → signature_of (slice_get (fact ∷ facts) k) ≡ Some signature → ((j : ℕ) → signature_of (slice_get facts j) ≡ Some signature → IsFirst facts (suc n) (first_with signature d (suc n) facts) j)
          → IsFirst (fact ∷ facts) n (if t then n else first_with signature d (suc n) facts) k
      by true e k is more = record { place = zero; at = omega arith; before = omega arith; has = has_told signature (signature_of (Some fact)) e }
      by false e zero is more = (let it : has_same signature (signature_of (Some fact)) ≡ true = has_tells signature (signature_of (Some fact)) is in (let wrong : true ≡ false = sym it ∙ e in cc))
      by false e (suc k) is more =
          let rest : IsFirst facts (suc n) (first_with signature d (suc n) facts) k = more k is in
          let at : first_with signature d (suc n) facts ≡ suc n + rest.place = rest.at in
          let before : rest.place ≤ k = rest.before in
          record { place = suc rest.place; at = omega arith; before = omega arith; has = rest.has }

module _ (all : List CxxFact) (signature : CxxSignature) where
  signed_is : (n : ℕ) → signature_of (slice_get all n) ≡ Some signature → representative all n ≡ first_with signature n zero all
  signed_is n is = ap (first_signed all n) is

  -- two with one signature have one number
  pub same_first : (m n : ℕ) → signature_of (slice_get all m) ≡ Some signature → signature_of (slice_get all n) ≡ Some signature → representative all m ≡ representative all n
  same_first m n one two = signed_is m one ∙ with_any signature m n zero all m one ∙ sym (signed_is n two)

  pub first_has : (n : ℕ) → signature_of (slice_get all n) ≡ Some signature → signature_of (slice_get all (representative all n)) ≡ Some signature
  first_has n is =
      let first : IsFirst signature all zero (first_with signature n zero all) n = it_is signature n zero all n is in
      let at : first_with signature n zero all ≡ zero + first.place = first.at in
      let same : representative all n ≡ first.place = signed_is n is ∙ omega arith in
      ap (λ (k : ℕ). signature_of (slice_get all k)) same ∙ first.has

  pub first_before : (n : ℕ) → signature_of (slice_get all n) ≡ Some signature → representative all n ≤ n
  first_before n is =
      let first : IsFirst signature all zero (first_with signature n zero all) n = it_is signature n zero all n is in
      let at : first_with signature n zero all ≡ zero + first.place = first.at in
      let before : first.place ≤ n = first.before in
      let same : representative all n ≡ first_with signature n zero all = signed_is n is in
      omega arith

-- ---- those under a mark

module _ (all : List CxxFact) where
  among_has : (signature : CxxSignature) (numbers : List ℕ) (n : ℕ) → first_among all (Some signature) numbers ≡ Some n → (list_any (nat_eq n) numbers ≡ true) × (signature_of (slice_get all n) ≡ Some signature)
  among_has signature [] n e = cc
  among_has signature (m ∷ numbers) n e = by (has_same signature (signature_of (slice_get all m))) refl e (λ its. among_has signature numbers n its)
    where
      by : (t : Bool) → has_same signature (signature_of (slice_get all m)) ≡ t → (if t then Some m else first_among all (Some signature) numbers) ≡ Some n
          → (first_among all (Some signature) numbers ≡ Some n → (list_any (nat_eq n) numbers ≡ true) × (signature_of (slice_get all n) ≡ Some signature)) → (list_any (nat_eq n) (m ∷ numbers) ≡ true) × (signature_of (slice_get all n) ≡ Some signature)
      by true is e more =
          let same : m ≡ n = cc in
          let it : eqb n m ≡ true = eq-eqb n m (sym same) in
          (ap (λ b. b || list_any (nat_eq n) numbers) it, subst (λ (k : ℕ). signature_of (slice_get all k) ≡ Some signature) same (has_told signature (signature_of (slice_get all m)) is))
      by false is e more =
          let rest : (list_any (nat_eq n) numbers ≡ true) × (signature_of (slice_get all n) ≡ Some signature) = more e in
          (ap (λ b. eqb n m || b) rest.0 ∙ or_true (eqb n m), rest.1)
        where
          or_true : (b : Bool) → (b || true) ≡ true
          or_true true = refl
          or_true false = refl

  among_none : (signature : CxxSignature) (numbers : List ℕ) (n : ℕ) → first_among all (Some signature) numbers ≡ None → list_any (nat_eq n) numbers ≡ true → signature_of (slice_get all n) ≡ Some signature → ⊥
  among_none signature [] n e there is = cc
  among_none signature (m ∷ numbers) n e there is = by (has_same signature (signature_of (slice_get all m))) refl (eqb n m) refl e there (λ none it. among_none signature numbers n none it is)
    where
      by : (t : Bool) → has_same signature (signature_of (slice_get all m)) ≡ t → (u : Bool) → eqb n m ≡ u → (if t then Some m else first_among all (Some signature) numbers) ≡ None → (u || list_any (nat_eq n) numbers) ≡ true → (first_among all (Some signature) numbers ≡ None → list_any (nat_eq n) numbers ≡ true → ⊥) → ⊥
      by true h u f e there more = cc
      by false h true f e there more =
          let same : n ≡ m = eqb-true n m f in
          let it : has_same signature (signature_of (slice_get all m)) ≡ true = has_tells signature (signature_of (slice_get all m)) (subst (λ (k : ℕ). signature_of (slice_get all k) ≡ Some signature) same is) in
          let wrong : true ≡ false = sym it ∙ h in
          cc
      by false h false f e there more = more e there

  -- the one under its mark is the one whose number it has
  pub first_found : (count : ℕ) (entries : List (Mark × Vec FactId)) (signature : CxxSignature) (n : ℕ) → AreMarked all count entries → signature_of (slice_get all count) ≡ Some signature → first_among all (Some signature) (marked entries (mark_of signature)) ≡ Some n → n ≡ representative all count
  first_found count entries signature n are is found =
      let it : (list_any (nat_eq n) (marked entries (mark_of signature)) ≡ true) × (signature_of (slice_get all n) ≡ Some signature) = among_has signature (marked entries (mark_of signature)) n found in
      sym (are.own (mark_of signature) n it.0) ∙ same_first all signature n count it.1 is

  -- where none is, it has its own number
  pub none_found : (count : ℕ) (entries : List (Mark × Vec FactId)) (signature : CxxSignature) → AreMarked all count entries → signature_of (slice_get all count) ≡ Some signature → first_among all (Some signature) (marked entries (mark_of signature)) ≡ None → count ≡ representative all count
  none_found count entries signature are is none = by (eq-or-lt_of_le (first_before all signature count is))
    where
      by : (representative all count ≡ count) ⊎ (representative all count < count) → count ≡ representative all count
      by (inl same) = sym same
      by (inr earlier) =
          let has : signature_of (slice_get all (representative all count)) ≡ Some signature = first_has all signature count is in
          let own : representative all (representative all count) ≡ representative all count = same_first all signature (representative all count) count has is in
          absurd (among_none signature (marked entries (mark_of signature)) (representative all count) none (are.each (representative all count) signature earlier has own) has)

  -- ---- one declaration more

  before_more : (count : ℕ) (entries : List (Mark × Vec FactId)) → AreMarked all count entries → ((signature : CxxSignature) → signature_of (slice_get all count) ≡ Some signature → representative all count ≡ count → list_any (nat_eq count) (marked entries (mark_of signature)) ≡ true) → AreMarked all (count + 1) entries
  before_more count entries are here = record {
    own = are.own;
    each = λ n signature within is own. by n signature is own (eq-or-lt_of_le (let le : n ≤ count = omega arith in le));
  }
    where
      by : (n : ℕ) (signature : CxxSignature) → signature_of (slice_get all n) ≡ Some signature → representative all n ≡ n → (n ≡ count) ⊎ (n < count) → list_any (nat_eq n) (marked entries (mark_of signature)) ≡ true
      by n signature is own (inr earlier) = are.each n signature earlier is own
      by n signature is own (inl same) =
          subst (λ (k : ℕ). list_any (nat_eq k) (marked entries (mark_of signature)) ≡ true) (sym same)
          (here signature (subst (λ (k : ℕ). signature_of (slice_get all k) ≡ Some signature) same is) (subst (λ (k : ℕ). representative all k ≡ k) same own))

  -- one without a signature
  pub marked_none : (count : ℕ) (entries : List (Mark × Vec FactId)) → AreMarked all count entries → signature_of (slice_get all count) ≡ None → AreMarked all (count + 1) entries
  marked_none count entries are none = before_more count entries are (λ signature is own. absurd (some_none signature (sym is ∙ none)))
    where
      some_none : (signature : CxxSignature) → Some signature ≡ None → ⊥
      some_none signature e = cc

  -- one whose number is that of an earlier one
  pub marked_before : (count : ℕ) (entries : List (Mark × Vec FactId)) (signature : CxxSignature) (n : ℕ) → AreMarked all count entries → signature_of (slice_get all count) ≡ Some signature → first_among all (Some signature) (marked entries (mark_of signature)) ≡ Some n → AreMarked all (count + 1) entries
  marked_before count entries signature n are is found = before_more count entries are (λ other it own. here other it own)
    where
      here : (other : CxxSignature) → signature_of (slice_get all count) ≡ Some other → representative all count ≡ count → list_any (nat_eq count) (marked entries (mark_of other)) ≡ true
      here other it own =
          let same : signature ≡ other = some_same signature other (sym is ∙ it) in
          let there : (list_any (nat_eq n) (marked entries (mark_of signature)) ≡ true) × (signature_of (slice_get all n) ≡ Some signature) = among_has signature (marked entries (mark_of signature)) n found in
          let at : n ≡ count = first_found count entries signature n are is found ∙ own in
          subst (λ (s : CxxSignature). list_any (nat_eq count) (marked entries (mark_of s)) ≡ true) same (subst (λ (k : ℕ). list_any (nat_eq k) (marked entries (mark_of signature)) ≡ true) at there.0)
        where
          some_same : (one two : CxxSignature) → Some one ≡ Some two → one ≡ two
          some_same one two e = cc

  -- one whose number is its own
  mark_told : (one two : Mark) → same_mark one two ≡ true → one ≡ two
  mark_told one two e =
      let parts : (pointwise nat_eq one.stem two.stem ≡ true) × (pointwise nat_eq one.ends two.ends ≡ true) = both _ _ e in
      ap (λ (w : List ℕ). record one { stem = w }) (word_told one.stem two.stem parts.0) ∙ ap (λ (w : List ℕ). record two { ends = w }) (word_told one.ends two.ends parts.1)

  mark_itself : (one : Mark) → same_mark one one ≡ true
  mark_itself one = join _ _ (word_tells one.stem one.stem refl) (word_tells one.ends one.ends refl)

  marked_more : (number : FactId) (old new : List (Mark × Vec FactId)) (mine : Mark) → AreMarked all number.0 old → representative all number.0 ≡ number.0 → ((signature : CxxSignature) → signature_of (slice_get all number.0) ≡ Some signature → mine ≡ mark_of signature) → IsMarkedMore same_mark old new mine number → AreMarked all (number.0 + 1) new
  marked_more number old new mine are its_own under more = record {
    own = λ mark n there. own mark n (same_mark mine mark) refl there;
    each = λ n other within it its. each n other it its (eq-or-lt_of_le (let le : n ≤ number.0 = omega arith in le));
  }
    where
      row_is : (mark : Mark) (t : Bool) → same_mark mine mark ≡ t → marked new mark ≡ (if t then marked old mine ++ number.0 ∷ [] else marked old mark)
      row_is mark true e = ap numbers_in (more mark ∙ ap (λ t. if t then row_by same_mark old mine ++ number ∷ [] else row_by same_mark old mark) e) ∙ map-append number_in (row_by same_mark old mine) (number ∷ [])
      row_is mark false e = ap numbers_in (more mark ∙ ap (λ t. if t then row_by same_mark old mine ++ number ∷ [] else row_by same_mark old mark) e)

      own : (mark : Mark) (n : ℕ) (t : Bool) → same_mark mine mark ≡ t → list_any (nat_eq n) (marked new mark) ≡ true → representative all n ≡ n
      own mark n false e there = are.own mark n (ap (list_any (nat_eq n)) (sym (row_is mark false e)) ∙ there)
      own mark n true e there = by (list_any (nat_eq n) (marked old mine)) refl (eqb n number.0) refl (sym (ap (list_any (nat_eq n)) (row_is mark true e) ∙ list_any-append (nat_eq n) (marked old mine) (number.0 ∷ [])) ∙ there)
        where
          by : (t : Bool) → list_any (nat_eq n) (marked old mine) ≡ t → (u : Bool) → eqb n number.0 ≡ u → (t || (u || false)) ≡ true → representative all n ≡ n
          by true f u g e = are.own mine n f
          by false f true g e = (let same : n ≡ number.0 = eqb-true n number.0 g in subst (λ (k : ℕ). representative all k ≡ k) (sym same) its_own)
          by false f false g e = cc

      kept : (mark : Mark) (n : ℕ) (t : Bool) → same_mark mine mark ≡ t → list_any (nat_eq n) (marked old mark) ≡ true → list_any (nat_eq n) (marked new mark) ≡ true
      kept mark n false e there = ap (list_any (nat_eq n)) (row_is mark false e) ∙ there
      kept mark n true e there =
          let same : mine ≡ mark = mark_told mine mark e in
          ap (list_any (nat_eq n)) (row_is mark true e) ∙ list_any-append (nat_eq n) (marked old mine) (number.0 ∷ [])
          ∙ ap (λ b. b || list_any (nat_eq n) (number.0 ∷ [])) (subst (λ (m : Mark). list_any (nat_eq n) (marked old m) ≡ true) (sym same) there)

      or_true : (b : Bool) → (b || true) ≡ true
      or_true true = refl
      or_true false = refl

      each : (n : ℕ) (other : CxxSignature) → signature_of (slice_get all n) ≡ Some other → representative all n ≡ n → (n ≡ number.0) ⊎ (n < number.0) → list_any (nat_eq n) (marked new (mark_of other)) ≡ true
      each n other it its (inr earlier) = kept (mark_of other) n (same_mark mine (mark_of other)) refl (are.each n other earlier it its)
      each n other it its (inl same) =
          let here : eqb n number.0 ≡ true = eq-eqb n number.0 same in
          let mark : mine ≡ mark_of other = under other (subst (λ (k : ℕ). signature_of (slice_get all k) ≡ Some other) same it) in
          subst (λ (m : Mark). list_any (nat_eq n) (marked new m) ≡ true) mark
          (ap (list_any (nat_eq n)) (row_is mine true (mark_itself mine)) ∙ list_any-append (nat_eq n) (marked old mine) (number.0 ∷ []) ∙ ap (λ b. list_any (nat_eq n) (marked old mine) || (b || false)) here ∙ or_true (list_any (nat_eq n) (marked old mine)))

-- ---- one declaration after another

mark_signed : (name : CxxName) (of : CxxType) (signature : CxxSignature) → signature_with name of ≡ Some signature → mark_by name of ≡ mark_of signature
mark_signed name (function_of result parameters ellipsis cv) signature e = (let same : record { name = name; parameters = parameters; ellipsis = ellipsis; cv = cv } ≡ signature = cc in ap mark_of same)
mark_signed name _ signature e = cc

none_among : (all : List CxxFact) (numbers : List ℕ) → first_among all None numbers ≡ None
none_among all [] = refl
none_among all (n ∷ numbers) = none_among all numbers

module _ (all : List CxxFact) (number : FactId) (old : List (Mark × Vec FactId)) (name : CxxName) (of : CxxType) (mark : Mark) (row : List FactId) (are : AreMarked all number.0 old) (is : signature_of (slice_get all number.0) ≡ signature_with name of) (at : mark ≡ mark_by name of) (under : row ≡ row_by same_mark old mark) where
  row_is : (signature : CxxSignature) → signature_with name of ≡ Some signature → numbers_in row ≡ marked old (mark_of signature)
  row_is signature e = ap numbers_in (under ∙ ap (row_by same_mark old) (at ∙ mark_signed name of signature e))

  pub first_is : (n : ℕ) → Some n ≡ first_among all (signature_with name of) (numbers_in row) → (n ≡ representative all number.0) × AreMarked all (number.0 + 1) old
  first_is n found = by (signature_with name of) refl found
    where
      some_none : Some n ≡ None → ⊥
      some_none e = cc

      by : (o : Option CxxSignature) → signature_with name of ≡ o → Some n ≡ first_among all o (numbers_in row) → (n ≡ representative all number.0) × AreMarked all (number.0 + 1) old
      by None e f = absurd (some_none (f ∙ none_among all (numbers_in row)))
      by (Some signature) e f =
          let here : first_among all (Some signature) (marked old (mark_of signature)) ≡ Some n = ap (first_among all (Some signature)) (sym (row_is signature e)) ∙ sym f in
          (first_found all number.0 old signature n are (is ∙ e) here, marked_before all number.0 old signature n are (is ∙ e) here)

  pub none_is : None ≡ first_among all (signature_with name of) (numbers_in row) → number.0 ≡ representative all number.0
  none_is none = by (signature_with name of) refl none
    where
      by : (o : Option CxxSignature) → signature_with name of ≡ o → None ≡ first_among all o (numbers_in row) → number.0 ≡ representative all number.0
      by None e f = sym (ap (first_signed all number.0) (is ∙ e))
      by (Some signature) e f = none_found all number.0 old signature are (is ∙ e) (ap (first_among all (Some signature)) (sym (row_is signature e)) ∙ sym f)

  pub pushed : (new : List (Mark × Vec FactId)) → None ≡ first_among all (signature_with name of) (numbers_in row) → IsMarkedMore same_mark old new mark number → AreMarked all (number.0 + 1) new
  pushed new none more = marked_more all number old new mark are (sym (none_is none)) (λ signature its. at ∙ mark_signed name of signature (sym is ∙ its)) more

-- ---- all of them

pub none_marked : (all : List CxxFact) (entries : List (Mark × Vec FactId)) → entries ≡ [] → AreMarked all 0 entries
none_marked all entries none = record {
  own = λ mark n there. by mark n (sym (ap (λ (es : List (Mark × Vec FactId)). list_any (nat_eq n) (marked es mark)) none) ∙ there);
  each = λ n signature within is own. absurd (below n within);
}
  where
    by : (mark : Mark) (n : ℕ) → false ≡ true → representative all n ≡ n
    by mark n e = cc

    below : (n : ℕ) → n < 0 → ⊥
    below n within = omega arith

pub shared_more : (all : List CxxFact) (count : ℕ) (old new : List FactId) (first : FactId) → AreSharedBefore all count old → first.0 ≡ representative all count → new ≡ old ++ first ∷ [] → AreSharedBefore all (count + 1) new
shared_more all count old new first are is more = record {
  many = let many : length old ≡ count = are.many in omega (arith, length-append old (first ∷ []), ap length more);
  each = λ n within. ap (λ (ns : List FactId). first_at ns n) more ∙ by n (eq-or-lt_of_le (let le : n ≤ count = omega arith in le));
}
  where
    by : (n : ℕ) → (n ≡ count) ⊎ (n < count) → first_at (old ++ first ∷ []) n ≡ representative all n
    by n (inl same) = subst (λ (k : ℕ). first_at (old ++ first ∷ []) k ≡ representative all k) (are.many ∙ sym same) (ap number_in (get_or-append_seam old first [] (record { 0 = length old })) ∙ is ∙ ap (representative all) (sym are.many))
    by n (inr earlier) = ap number_in (get_or_append_left old (first ∷ []) (record { 0 = n }) n (let within : n < length old = omega (arith, are.many) in within)) ∙ are.each n earlier

pub all_shared : (all : List CxxFact) (count : ℕ) (firsts : List FactId) → length all ≡ count → AreSharedBefore all count firsts → AreShared all firsts
all_shared all count firsts whole are n = by (cases_lt n count)
  where
    by : (n < count) ⊎ (count ≤ n) → first_at firsts n ≡ representative all n
    by (inl within) = are.each n within
    by (inr past) =
        let beyond : length firsts ≤ n = omega (arith, are.many) in
        let nowhere : slice_get all n ≡ None = slice_get_past all n (omega arith) in
        ap number_in (get_or_past firsts n (record { 0 = n }) beyond) ∙ sym (ap (λ (o : Option CxxFact). first_signed all n (signature_of o)) nowhere)
