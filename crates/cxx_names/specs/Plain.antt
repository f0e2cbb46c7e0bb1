-- What a unit declares today: no templates.
use Rattle.std.specs.Prelude.{List, [], ◌∷◌}
use Rattle.cxx_model.specs.declared.facts.Entity.{Entity}
use Rattle.cxx_model.specs.declared.facts.Entity.TheVariants as entity
use Rattle.cxx_model.specs.declared.facts.Fact.{Fact}

-- 14: no template and no parameter of one
abbrev pub IsPlainFact : Entity → Type 0
IsPlainFact (entity.Template template member defaults is_explicit first) = ⊥
IsPlainFact (entity.Parameter template position default) = ⊥
IsPlainFact (entity.Passed _) = ⊥
IsPlainFact _ = Unit {0}

-- Each fact declares something of these.
abbrev pub ArePlain : List Fact → Type 0
ArePlain [] = Unit {0}
ArePlain (fact ∷ facts) = IsPlainFact fact.what × ArePlain facts
