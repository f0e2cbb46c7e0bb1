-- The spellings that were met, by their numbers.
use Rattle.std.proofs.Common.{◌≡◌, ◌≤◌, ◌<◌, ◌+◌, ℕ, suc, Bool, true, false, cond, not, ◌&&◌, nat_eq, nat_lt, List, [], ◌∷◌, ◌++◌, length, position, Option, Some, None, option_map, refl, sym, ap, ◌∙◌, subst, arith}
use Rattle.std.specs.Prelude.{Result, Ok, Err, OnErr}
use Rattle.std.specs.Global.{Vec}
use Rattle.std.specs.List.{position_or_len}
use Rattle.std.specs.Map.{lookup}
use Rattle.std.specs.Str.{bytes_eq}
use Rattle.std.proofs.lemmas.Bool.{eqb-true, eq-eqb, le-ltb, lt-ltb, ltb-false, ltb-true}
use Rattle.std.proofs.lemmas.List.{length-append}
use Rattle.std.proofs.lemmas.List.Quantifiers.{position-Some}
use Rattle.std.proofs.lemmas.Slice.Eq.{bytes_eq-Decides}
use Rattle.cxx_model.specs.declared.facts.Name.{Name}
use Rattle.cxx_model.specs.declared.facts.Name.TheVariants as name
use Rattle.cxx_model.specs.declared.types.FactId.{FactId}
use Rattle.cxx_model.specs.declared.types.ScopeId.{ScopeId}
use Rattle.cxx_names.specs.declared.entry.Spelling.{Spelling}
use Rattle.cxx_names.specs.declared.words.Words.{Words}
use Rattle.cxx_names.specs.Filed.{row, those_in, AreSame, IsMoreBy}
use Rattle.cxx_names.specs.Index.{filed_by}
use Rattle.cxx_names.specs.Words.{same_spelling, number_among, numbered_row, word_row, is_text, spelled_word, AreSameRows, AreSameWords, Files, IsSound, IsNumberOf, HasMet, HasWord}

-- ---- the first that passes a test

module _ {X : Type 0} (test : X → Bool) where
  stepped : (x : X) (xs : List X) → position test (x ∷ xs) ≡ cond (test x) (Some 0) (option_map suc (position test xs))
  stepped x xs = by (test x) (nat_lt (position_or_len test xs) (length xs)) refl
    where
      by : (a b : Bool) → nat_lt (position_or_len test xs) (length xs) ≡ b → cond (nat_lt (cond (not a) (1 + position_or_len test xs) 0) (suc (length xs))) (Some (cond (not a) (1 + position_or_len test xs) 0)) None ≡ cond a (Some 0) (option_map suc (cond (nat_lt (position_or_len test xs) (length xs)) (Some (position_or_len test xs)) None))
      by true b e = (let first : nat_lt 0 (suc (length xs)) ≡ true = lt-ltb 0 (suc (length xs)) (omega arith) in ap (λ c. cond c (Some 0) None) first)
      by false true e =
          let lt = ltb-true (position_or_len test xs) (length xs) e in
          let next : nat_lt (1 + position_or_len test xs) (suc (length xs)) ≡ true = lt-ltb (1 + position_or_len test xs) (suc (length xs)) (omega arith) in
          let one : 1 + position_or_len test xs ≡ suc (position_or_len test xs) = omega arith in
          ap (λ c. cond c (Some (1 + position_or_len test xs)) None) next ∙ (ap Some one ∙ sym (ap (λ c. option_map suc (cond c (Some (position_or_len test xs)) None)) e))
      by false false e =
          let le = ltb-false (position_or_len test xs) (length xs) e in
          let next : nat_lt (1 + position_or_len test xs) (suc (length xs)) ≡ false = le-ltb (1 + position_or_len test xs) (suc (length xs)) (omega arith) in
          ap (λ c. cond c (Some (1 + position_or_len test xs)) None) next ∙ sym (ap (λ c. option_map suc (cond c (Some (position_or_len test xs)) None)) e)

  stays : (xs ys : List X) (n : ℕ) → position test xs ≡ Some n → position test (xs ++ ys) ≡ Some n
  stays [] ys n e = absurd (cc)
  stays (x ∷ xs) ys n e = stepped x (xs ++ ys) ∙ by (test x) (sym (stepped x xs) ∙ e) (stays xs ys)
    where
      inner : (o : Option ℕ) → position test xs ≡ o → option_map suc o ≡ Some n → ((m : ℕ) → position test xs ≡ Some m → position test (xs ++ ys) ≡ Some m) → option_map suc (position test (xs ++ ys)) ≡ Some n
      inner None at f rest = absurd (cc)
      inner (Some m) at f rest = ap (option_map suc) (rest m at) ∙ f

      by : (b : Bool) → cond b (Some 0) (option_map suc (position test xs)) ≡ Some n → ((m : ℕ) → position test xs ≡ Some m → position test (xs ++ ys) ≡ Some m) → cond b (Some 0) (option_map suc (position test (xs ++ ys))) ≡ Some n
      by true f rest = f
      by false f rest = inner (position test xs) refl f rest

  follows : (xs ys : List X) (n : ℕ) → position test xs ≡ None → position test (xs ++ ys) ≡ Some n → length xs ≤ n
  follows [] ys n e f = omega arith
  follows (x ∷ xs) ys n e f = by (test x) (sym (stepped x xs) ∙ e) (sym (stepped x (xs ++ ys)) ∙ f) (follows xs ys)
    where
      inner : (o p : Option ℕ) → position test xs ≡ o → position test (xs ++ ys) ≡ p → option_map suc o ≡ None → option_map suc p ≡ Some n → ((m : ℕ) → position test xs ≡ None → position test (xs ++ ys) ≡ Some m → length xs ≤ m) → suc (length xs) ≤ n
      inner (Some m) p at later g h rest = absurd (cc)
      inner None None at later g h rest = absurd (cc)
      inner None (Some m) at later g h rest =
          let after : length xs ≤ m = rest m at later in
          let one : suc m ≡ n = cc in
          omega arith

      by : (b : Bool) → cond b (Some 0) (option_map suc (position test xs)) ≡ None → cond b (Some 0) (option_map suc (position test (xs ++ ys))) ≡ Some n → ((m : ℕ) → position test xs ≡ None → position test (xs ++ ys) ≡ Some m → length xs ≤ m) → suc (length xs) ≤ n
      by true g h rest = absurd (cc)
      by false g h rest = inner (position test xs) (position test (xs ++ ys)) refl refl g h rest

-- ---- spellings

-- two words with one number are the same
apart : (known : List (Vec ℕ)) (one two : List ℕ) (n : ℕ) → number_among known one ≡ Some n → number_among known two ≡ Some n → one ≡ two
apart [] one two n e f = absurd (cc)
apart (k ∷ known) one two n e f =
    let first = position-Some (λ w. bytes_eq one w.items) (k ∷ known) n k e in
    let second = position-Some (λ w. bytes_eq two w.items) (k ∷ known) n k f in
    (bytes_eq-Decides one _).0 first.1 ∙ sym ((bytes_eq-Decides two _).0 second.1)

same_number : (known : List (Vec ℕ)) (one two : List ℕ) (m n : ℕ) → number_among known one ≡ Some m → number_among known two ≡ Some n → nat_eq m n ≡ bytes_eq one two
same_number known one two m n e f = by (nat_eq m n) (bytes_eq one two) refl refl
  where
    by : (a b : Bool) → nat_eq m n ≡ a → bytes_eq one two ≡ b → a ≡ b
    by true true p q = refl
    by false false p q = refl
    by true false p q =
        let alike : m ≡ n = eqb-true m n p in
        let word : one ≡ two = apart known one two n (e ∙ ap Some alike) f in
        let yes : bytes_eq one two ≡ true = (bytes_eq-Decides one two).1 word in
        absurd (cc)
    by false true p q =
        let word : one ≡ two = (bytes_eq-Decides one two).0 q in
        let other : number_among known two ≡ Some m = ap (number_among known) (sym word) ∙ e in
        let alike : m ≡ n = cc in
        let yes : nat_eq m n ≡ true = eq-eqb m n alike in
        absurd (cc)

within : (known : List (Vec ℕ)) (word : List ℕ) (n : ℕ) → number_among known word ≡ Some n → n < length known
within [] word n e = absurd (cc)
within (k ∷ known) word n e = (position-Some (λ w. bytes_eq word w.items) (k ∷ known) n k e).0

-- ---- what is filed under a word, when more words were met

module _ (old new : Words) (sound : IsSound old) (met : HasMet old new) where
  abbrev more : List (Vec ℕ)
  more = met.knows.0

  met_sound : IsSound new
  met_sound key out =
      let longer : length new.spellings.keys ≡ length (old.spellings.keys ++ more) = ap length met.knows.1 in
      let sum : length (old.spellings.keys ++ more) ≡ length old.spellings.keys + length more = length-append old.spellings.keys more in
      let before : length old.spellings.keys ≤ key.number = omega arith in
      ap (λ es. row same_spelling es key) met.rows ∙ sound key before

  met_row : (scope : ScopeId) (word : List ℕ) → word_row new scope word ≡ word_row old scope word
  met_row scope word =
      ap (λ es. numbered_row es scope (number_among new.spellings.keys word)) met.rows
      ∙ (ap (λ ks. numbered_row old.rows.rows.entries scope (number_among ks word)) met.knows.1
      ∙ by (number_among old.spellings.keys word) refl)
    where
      later : (o : Option ℕ) → number_among (old.spellings.keys ++ more) word ≡ o → number_among old.spellings.keys word ≡ None → numbered_row old.rows.rows.entries scope o ≡ []
      later None at none = refl
      later (Some n) at none = sound (record { scope = scope; number = n }) (follows (λ w. bytes_eq word w.items) old.spellings.keys more n none at)

      by : (o : Option ℕ) → number_among old.spellings.keys word ≡ o → numbered_row old.rows.rows.entries scope (number_among (old.spellings.keys ++ more) word) ≡ numbered_row old.rows.rows.entries scope o
      by None at = later (number_among (old.spellings.keys ++ more) word) refl at
      by (Some n) at = ap (numbered_row old.rows.rows.entries scope) (stays (λ w. bytes_eq word w.items) old.spellings.keys more n at)

pub sound_met : (old new : Words) → IsSound old → HasMet old new → IsSound new
sound_met old new sound met = met_sound old new sound met

pub row_met : (old new : Words) → IsSound old → HasMet old new → (scope : ScopeId) (word : List ℕ) → word_row new scope word ≡ word_row old scope word
row_met old new sound met scope word = met_row old new sound met scope word

-- ---- what is filed under a word, when a declaration was filed

never : {A : Type 0} (a d : Bool) (x y : A) → cond (a && (d && false)) x y ≡ y
never true true x y = refl
never true false x y = refl
never false d x y = refl

not_declared : {A : Type 0} (a b : Bool) (x y : A) → cond (a && (false && b)) x y ≡ y
not_declared true b x y = refl
not_declared false b x y = refl

and_false : (a b : Bool) → b ≡ false → (a && b) ≡ false
and_false true b e = e
and_false false b e = refl

pub both_true : (a b : Bool) → (a && b) ≡ true → (a ≡ true) × (b ≡ true)
both_true true b e = (refl, e)
both_true false b e = absurd (cc)

module _ (known : List (Vec ℕ)) (old new : List (Spelling × Vec FactId)) (scope : ScopeId) (number : FactId) where
  abbrev at : List (Spelling × Vec FactId) → ScopeId → List ℕ → List FactId
  at entries other word = numbered_row entries other (number_among known word)

  nothing : IsMoreBy same_spelling old new None → (other : ScopeId) (o : Option ℕ) → numbered_row new other o ≡ numbered_row old other o
  nothing same other None = refl
  nothing same other (Some n) = same (record { scope = other; number = n })

  abbrev by_parts : ℕ → ℕ → List FactId
  by_parts m n = those_in (lookup (λ k. nat_eq m k.scope.0 && nat_eq n k.number) old)

  here : (own : ScopeId) (other : ScopeId) (m n : ℕ) (t : Bool) → (nat_eq own.0 other.0 && nat_eq m n) ≡ t
      → cond t (row same_spelling old (record { scope = own; number = m }) ++ number ∷ []) (row same_spelling old (record { scope = other; number = n })) ≡ cond t (row same_spelling old (record { scope = other; number = n }) ++ number ∷ []) (row same_spelling old (record { scope = other; number = n }))
  here own other m n true e =
      let both = both_true (nat_eq own.0 other.0) (nat_eq m n) e in
      ap (λ ns. ns ++ number ∷ []) (ap (λ k. by_parts k m) (eqb-true own.0 other.0 both.0) ∙ ap (by_parts other.0) (eqb-true m n both.1))
  here own other m n false e = refl

  one_word : (word : List ℕ) (spelling : Spelling) → spelling.scope ≡ scope → number_among known word ≡ Some spelling.number → IsMoreBy same_spelling old new (Some (spelling, number))
      → (other : ScopeId) (v : List ℕ) (o : Option ℕ) → number_among known v ≡ o → numbered_row new other o ≡ cond (nat_eq scope.0 other.0 && bytes_eq word v) (numbered_row old other o ++ number ∷ []) (numbered_row old other o)
  one_word word spelling own numbered filed other v None none =
      sym (ap (λ b. cond b ([] ++ number ∷ []) []) (and_false (nat_eq scope.0 other.0) (bytes_eq word v) (differ (bytes_eq word v) refl)))
    where
      differ : (b : Bool) → bytes_eq word v ≡ b → b ≡ false
      differ true e = (let alike : word ≡ v = (bytes_eq-Decides word v).0 e in let known_too : number_among known v ≡ Some spelling.number = ap (number_among known) (sym alike) ∙ numbered in absurd (cc))
      differ false e = refl
  one_word word spelling own numbered filed other v (Some n) at =
      filed (record { scope = other; number = n })
      ∙ (here spelling.scope other spelling.number n (nat_eq spelling.scope.0 other.0 && nat_eq spelling.number n) refl
      ∙ (ap (λ s. cond (nat_eq s.0 other.0 && nat_eq spelling.number n) (row same_spelling old (record { scope = other; number = n }) ++ number ∷ []) (row same_spelling old (record { scope = other; number = n }))) own
      ∙ ap (λ b. cond (nat_eq scope.0 other.0 && b) (row same_spelling old (record { scope = other; number = n }) ++ number ∷ []) (row same_spelling old (record { scope = other; number = n }))) (same_number known word v spelling.number n numbered at)))

  pub one_name : (n : Name) (d : Bool) (spelling : Option Spelling) → IsNumberOf known scope (spelled_word n d) spelling → IsMoreBy same_spelling old new (filed_by number spelling)
      → (other : ScopeId) (word : List ℕ) → at new other word ≡ cond (nat_eq scope.0 other.0 && (d && is_text n word)) (at old other word ++ number ∷ []) (at old other word)
  one_name name.Unnamed d None is filed other word = nothing filed other (number_among known word) ∙ sym (never (nat_eq scope.0 other.0) d _ _)
  one_name name.Unnamed d (Some s) is filed other word = absurd is
  one_name (name.Operator o) d None is filed other word = nothing filed other (number_among known word) ∙ sym (never (nat_eq scope.0 other.0) d _ _)
  one_name (name.Operator o) d (Some s) is filed other word = absurd is
  one_name (name.Conversion of) d None is filed other word = nothing filed other (number_among known word) ∙ sym (never (nat_eq scope.0 other.0) d _ _)
  one_name (name.Conversion of) d (Some s) is filed other word = absurd is
  one_name name.Destructor d None is filed other word = nothing filed other (number_among known word) ∙ sym (never (nat_eq scope.0 other.0) d _ _)
  one_name name.Destructor d (Some s) is filed other word = absurd is
  one_name (name.Spelled v) false None is filed other word = nothing filed other (number_among known word) ∙ sym (not_declared (nat_eq scope.0 other.0) (bytes_eq v word) _ _)
  one_name (name.Spelled v) false (Some s) is filed other word = absurd is
  one_name (name.Spelled v) true None is filed other word = absurd is
  one_name (name.Spelled v) true (Some s) is filed other word = one_word v s is.0 is.1 filed other word (number_among known word) refl

-- a declaration is filed under a number that a spelling has
below : (a m n : ℕ) → a ≡ m → m < n → (k : ℕ) → n ≤ k → nat_eq a k ≡ false
below a m n e lt k le = by (nat_eq a k) refl
  where
    by : (b : Bool) → nat_eq a k ≡ b → b ≡ false
    by true p = (let alike : a ≡ k = eqb-true a k p in absurd (omega arith))
    by false p = refl

pub sound_more : (old new : Words) (scope : ScopeId) (word : Option (List ℕ)) (name : Option Spelling) (number : FactId) → IsSound old → IsNumberOf old.spellings.keys scope word name → HasWord old new (filed_by number name) → IsSound new
sound_more old new scope word None number sound is has key out = has.rows key ∙ sound key (subst (λ ks. length ks ≤ key.number) has.spellings out)
sound_more old new scope None (Some name) number sound is has key out = absurd is
sound_more old new scope (Some word) (Some name) number sound is has key out =
    let room = subst (λ ks. length ks ≤ key.number) has.spellings out in
    has.rows key
    ∙ (ap (λ t. cond t (row same_spelling old.rows.rows.entries name ++ number ∷ []) (row same_spelling old.rows.rows.entries key)) (and_false (nat_eq name.scope.0 key.scope.0) (nat_eq name.number key.number) (below name.number name.number (length old.spellings.keys) refl (within old.spellings.keys word name.number is.1) key.number room))
    ∙ sound key room)

-- nothing was filed
pub sound_same : (old new : Words) → IsSound old → AreSameWords old new → IsSound new
sound_same old new sound same key out = same.rows key ∙ sound key (subst (λ ks. length ks ≤ key.number) same.spellings out)

row_same : (old new : List (Spelling × Vec FactId)) → AreSame same_spelling old new → (scope : ScopeId) (o : Option ℕ) → numbered_row new scope o ≡ numbered_row old scope o
row_same old new same scope None = refl
row_same old new same scope (Some n) = same (record { scope = scope; number = n })

pub rows_same : (old new : Words) → AreSameWords old new → AreSameRows old new
rows_same old new same scope word = ap (λ ks. numbered_row new.rows.rows.entries scope (number_among ks word)) same.spellings ∙ row_same old.rows.rows.entries new.rows.rows.entries same.rows scope (number_among old.spellings.keys word)

-- a spelling was met, and then one more declaration was filed, or nothing was
pub files_one : (old middle new : Words) (scope : ScopeId) (n : Name) (spelling : Option Spelling) (number : FactId) → IsSound old → HasMet old middle → IsNumberOf middle.spellings.keys scope (spelled_word n true) spelling → HasWord middle new (filed_by number spelling) → Files old new scope n number
files_one old middle new scope n spelling number sound met is has other word =
    ap (λ ks. numbered_row new.rows.rows.entries other (number_among ks word)) has.spellings
    ∙ (one_name middle.spellings.keys middle.rows.rows.entries new.rows.rows.entries scope number n true spelling is has.rows other word
    ∙ ap (λ ns. cond (nat_eq scope.0 other.0 && is_text n word) (ns ++ number ∷ []) ns) (row_met old middle sound met other word))

pub files_none : (old middle new : Words) → IsSound old → HasMet old middle → AreSameWords middle new → AreSameRows old new
files_none old middle new sound met same scope word = rows_same middle new same scope word ∙ row_met old middle sound met scope word

pub on_err : {X E : Type 0} (r : Result X E) (P : Type 0) → P → OnErr r P
on_err (Ok x) P p = tt
on_err (Err why) P p = p

pub if_err : {X E : Type 0} (r : Result X E) (P Q : Type 0) → (P → Q) → OnErr r P → OnErr r Q
if_err (Ok x) P Q f p = tt
if_err (Err why) P Q f p = f p
