-- What a definition of a function declares.
use Rattle.std.proofs.Common.{◌≡◌, ℕ, ◌+◌, ◌<◌, ◌≤◌, Bool, true, false, List, [], ◌∷◌, ◌++◌, length, drop, get_or, Option, Some, None, option_map, refl, ap, sym, ◌∙◌, append-nil, append_assoc}
use Rattle.std.specs.Prelude.{flat_map, nat_eq, if◌then◌else◌}
use Rattle.std.specs.List.{slice_get}
use Rattle.std.proofs.lemmas.List.{at_drop_more, at_drop_all}
use Rattle.cxx_model.specs.declared.facts.Fact.{Fact}
use Rattle.cxx_model.specs.declared.tree.Node.{Node}
use Rattle.cxx_model.specs.declared.types.FactId.{FactId}
use Rattle.cxx_model.specs.declared.types.TreeId.{TreeId}
use Rattle.cxx_model.specs.Facts.Conflicts.{has_name}
use Rattle.cxx_model.specs.Facts.Declarations.{CxxFact, declares_at, fact_at, name_at}
use Rattle.cxx_reading.specs.Productions as production
use Rattle.cxx_reading.specs.Trees.{CxxTree, CxxTrees, no_trees, tree_then}
use Rattle.cxx_statement_text.specs.Objects.{first_by, first_of_fact, if_printed, printed_in}
use Rattle.cxx_tree.specs.Arena.{number_of_option, tree_over, trees_in}
use Rattle.cxx_tree.specs.Held.{Held, tree, trees}
use Rattle.cxx_form.specs.Lines.{numbers_in}
use Rattle.cxx_form.specs.Order.{declared_by, found_in, if_named, is_named, list_by, list_of_body, locals_in, named_among, parts_in, scope_of_fact}
use Rattle.cxx_form.specs.Views.{facts_in}
use Rattle.cxx_form.proofs.Gathering.{fact_is}

pub found_is : (held : Held) (number : ℕ) (one : Option Fact) → one ≡ slice_get held.graph.facts number → slice_get (facts_in held) number ≡ option_map (fact_at held.types) one
found_is held number one is = fact_is held.types held.graph.facts number ∙ ap (option_map (fact_at held.types)) (sym is)

pub target_is : (held : Held) (node : Node) (number : TreeId) → tree held number ≡ tree_over held.types (trees held) node → (tree held number).label.target ≡ number_of_option node.target
target_is held node number is = ap (λ (t : CxxTree). t.label.target) is

-- ---- the scope of the list

list_is : (held : Held) (body : Option TreeId) (number : TreeId) (node : Node) → body ≡ Some number → tree held number ≡ tree_over held.types (trees held) node → list_of_body (facts_in held) (option_map (tree held) body) ≡ list_by (facts_in held) (number_of_option node.target)
list_is held body number node some is = ap (λ (o : Option TreeId). list_of_body (facts_in held) (option_map (tree held) o)) some ∙ ap (list_by (facts_in held)) (target_is held node number is)

pub no_fact : (held : Held) (body : Option TreeId) (number : TreeId) (node : Node) (target : FactId) → body ≡ Some number → tree held number ≡ tree_over held.types (trees held) node → node.target ≡ Some target → None ≡ slice_get held.graph.facts target.0 → 0 ≡ list_of_body (facts_in held) (option_map (tree held) body)
no_fact held body number node target some is same none = sym (list_is held body number node some is ∙ ap (λ (o : Option FactId). list_by (facts_in held) (number_of_option o)) same ∙ ap scope_of_fact (found_is held target.0 None none))

pub a_list : (held : Held) (body : Option TreeId) (number : TreeId) (node : Node) (target : FactId) (fact : Fact) → body ≡ Some number → tree held number ≡ tree_over held.types (trees held) node → node.target ≡ Some target → Some fact ≡ slice_get held.graph.facts target.0 → fact.scope.0 ≡ list_of_body (facts_in held) (option_map (tree held) body)
a_list held body number node target fact some is same found = sym (list_is held body number node some is ∙ ap (λ (o : Option FactId). list_by (facts_in held) (number_of_option o)) same ∙ ap scope_of_fact (found_is held target.0 (Some fact) found))

-- ---- names

pub named_is : (held : Held) (number : ℕ) (fact : Fact) → Some fact ≡ slice_get held.graph.facts number → has_name (name_at held.types fact.name) ≡ is_named (slice_get (facts_in held) number)
named_is held number fact is = sym (ap is_named (found_is held number (Some fact) is))

pub none_named : (held : Held) (number : ℕ) → None ≡ slice_get held.graph.facts number → false ≡ is_named (slice_get (facts_in held) number)
none_named held number is = sym (ap is_named (found_is held number None is))

-- ---- one after another

module _ {A : Type 0} (gives : A → List ℕ) where
  pub gives_more : (xs : List A) (i : ℕ) (d : A) (old new whole : List ℕ) → i < length xs → new ≡ old ++ gives (get_or xs i d) → old ++ flat_map gives (drop i xs) ≡ whole → new ++ flat_map gives (drop (i + 1) xs) ≡ whole
  gives_more xs i d old new whole within more so =
      let left : List ℕ = flat_map gives (drop (i + 1) xs) in
      ap (λ (ns : List ℕ). ns ++ left) more ∙ append_assoc old (gives (get_or xs i d)) left ∙ ap (λ (ns : List ℕ). old ++ ns) (sym (at_drop_more (λ (rest : List A). flat_map gives rest) xs i d within)) ∙ so

  pub gives_all : (xs : List A) (i : ℕ) (now whole : List ℕ) → length xs ≤ i → now ++ flat_map gives (drop i xs) ≡ whole → now ≡ whole
  gives_all xs i now whole past so = sym (append-nil now) ∙ ap (λ (ns : List ℕ). now ++ ns) (sym (at_drop_all (λ (rest : List A). flat_map gives rest) xs i past)) ∙ so

abbrev pub named_at : List CxxFact → FactId → List ℕ
named_at all number = if_named all number.0

pub named_are : (all : List CxxFact) (numbers : List FactId) → flat_map (named_at all) numbers ≡ named_among all (numbers_in numbers)
named_are all [] = refl
named_are all (number ∷ numbers) = ap (λ (ns : List ℕ). if_named all number.0 ++ ns) (named_are all numbers)

abbrev pub printed_at : Held → TreeId → List ℕ
printed_at held number = flat_map (declared_by (facts_in held)) (if_printed (facts_in held) (tree held number))

both : {A : Type 0} (gives : A → List ℕ) (ones twos : List A) → flat_map gives (ones ++ twos) ≡ flat_map gives ones ++ flat_map gives twos
both gives [] twos = refl
both gives (one ∷ ones) twos = ap (λ (ns : List ℕ). gives one ++ ns) (both gives ones twos) ∙ sym (append_assoc (gives one) (flat_map gives ones) (flat_map gives twos))

pub printed_are : (held : Held) (numbers : List TreeId) → flat_map (printed_at held) numbers ≡ flat_map (declared_by (facts_in held)) (flat_map (if_printed (facts_in held)) (trees_in (trees held) numbers))
printed_are held [] = refl
printed_are held (number ∷ numbers) =
    ap (λ (ns : List ℕ). printed_at held number ++ ns) (printed_are held numbers)
    ∙ sym (both (declared_by (facts_in held)) (if_printed (facts_in held) (tree held number)) (flat_map (if_printed (facts_in held)) (trees_in (trees held) numbers)))

-- ---- objects

pub no_first : (held : Held) (number : ℕ) → None ≡ slice_get held.graph.facts number → None ≡ first_of_fact number (slice_get (facts_in held) number)
no_first held number is = sym (ap (first_of_fact number) (found_is held number None is))

pub a_first : (held : Held) (number : ℕ) (fact : Fact) → Some fact ≡ slice_get held.graph.facts number → first_by number (declares_at held.types fact.what) ≡ first_of_fact number (slice_get (facts_in held) number)
a_first held number fact is = sym (ap (first_of_fact number) (found_is held number (Some fact) is))

-- ---- the objects of blocks

-- the declarators that print are those of all that print
all_printed : (all : List CxxFact) (trees : CxxTrees) → printed_in all trees ≡ flat_map (if_printed all) (found_in production.declarator production.declarator trees)
all_printed all no_trees = refl
all_printed all (tree_then label children next) = by (nat_eq label.production production.declarator) (all_printed all children) (all_printed all next)
  where
    one : CxxTree
    one = record { label = label; children = children }

    joined : {A B : Type 0} (gives : A → List B) (ones twos : List A) → flat_map gives (ones ++ twos) ≡ flat_map gives ones ++ flat_map gives twos
    joined gives [] twos = refl
    joined gives (x ∷ ones) twos = ap (λ ns. gives x ++ ns) (joined gives ones twos) ∙ sym (append_assoc (gives x) (flat_map gives ones) (flat_map gives twos))

    by : (t : Bool) → printed_in all children ≡ flat_map (if_printed all) (found_in production.declarator production.declarator children) → printed_in all next ≡ flat_map (if_printed all) (found_in production.declarator production.declarator next)
        → (if t then if_printed all one else printed_in all children) ++ printed_in all next ≡ flat_map (if_printed all) ((if t then [] else found_in production.declarator production.declarator children) ++ ((if t then one ∷ [] else []) ++ found_in production.declarator production.declarator next))
    by true inside behind = ap (λ (ts : List CxxTree). if_printed all one ++ ts) behind
    by false inside behind = ap (λ (ts : List CxxTree). ts ++ printed_in all next) inside ∙ ap (λ (ts : List CxxTree). flat_map (if_printed all) (found_in production.declarator production.declarator children) ++ ts) behind ∙ sym (joined (if_printed all) (found_in production.declarator production.declarator children) (found_in production.declarator production.declarator next))

pub all_locals : (held : Held) (body : Option TreeId) (number : TreeId) (numbers : List TreeId) (old new : List ℕ) → body ≡ Some number → trees_in (trees held) numbers ≡ found_in 20 20 (tree held number).children → new ≡ old ++ flat_map (declared_by (facts_in held)) (flat_map (if_printed (facts_in held)) (trees_in (trees held) numbers)) → new ≡ old ++ locals_in (facts_in held) (option_map (tree held) body)
all_locals held body number numbers old new some are more =
    more
    ∙ ap (λ (ts : List CxxTree). old ++ flat_map (declared_by (facts_in held)) (flat_map (if_printed (facts_in held)) ts)) are
    ∙ ap (λ (ts : List CxxTree). old ++ flat_map (declared_by (facts_in held)) ts) (sym (all_printed (facts_in held) (tree held number).children))
    ∙ sym (ap (λ (o : Option TreeId). old ++ locals_in (facts_in held) (option_map (tree held) o)) some)

-- ---- all of it

abbrev pub parameters_of_list : Held → Option CxxTree → List ℕ
parameters_of_list held body = parts_in (list_of_body (facts_in held) body) 0 (facts_in held)
