-- The calls of an expression that are listed, in the order of the text.
use Rattle.std.specs.Prelude.{ℕ, ◌-◌, List, [], ◌∷◌, ◌++◌, flat_map, length, map, Option, Some, None}
use Rattle.std.specs.List.{slice_get}
use Rattle.cxx_reading.specs.Plain.{target_or}
use Rattle.cxx_reading.specs.Trees.{CxxTree, CxxTrees, no_trees, tree_then, Label}
use Rattle.cxx_phrase_text.specs.declared.form.Form.{Form}
use Rattle.cxx_phrase_text.specs.declared.form.Form.TheVariants as form
use Rattle.cxx_phrase_text.specs.Forms.{form_of}

-- a call by the number of its record, and the declaration of the function that it names
pub record CallOfText : Type 0 where
  pub number : ℕ
  pub target : ℕ

-- a call through a pointer has no record
abbrev pub own_calls : Label → List CallOfText
own_calls label = by label.call
  where
    by : Option ℕ → List CallOfText
    by None = []
    by (Some number) = record { number = number; target = target_or label.target } ∷ []

abbrev pub all_of : List (List CallOfText) → List CallOfText
all_of parts = flat_map (λ calls. calls) parts

abbrev pub calls_or_none : Option (List CallOfText) → List CallOfText
calls_or_none None = []
calls_or_none (Some calls) = calls

abbrev pub last_calls : List (List CallOfText) → List CallOfText
last_calls parts = calls_or_none (slice_get parts (length parts - 1))

-- The calls of an expression of a form, given those of its parts: they stand before it. What a size measures is not
-- written (5.3.3), nor is a type of a cast that has trees.
abbrev pub calls_as : Form → Label → List (List CallOfText) → List CallOfText
calls_as form.Spelled label parts = []
calls_as form.Name label parts = []
calls_as form.Zero label parts = []
calls_as form.Cast label parts = last_calls parts
calls_as _ label parts = all_of parts ++ own_calls label

-- The arguments of a call that are default arguments are parts of it, so their calls stand at each use.
abbrev pub calls_each : CxxTrees → List (List CallOfText)
calls_each no_trees = []
calls_each (tree_then label children next) = calls_as (form_of label.production) label (calls_each children) ∷ calls_each next

abbrev pub calls_of : CxxTree → List CallOfText
calls_of tree = calls_as (form_of tree.label.production) tree.label (calls_each tree.children)

-- the numbers of their records
abbrev pub calls_in : CxxTree → List ℕ
calls_in tree = map (λ call. call.number) (calls_of tree)
