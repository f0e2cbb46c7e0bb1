-- What the values of the code stand for.
use Rattle.std.specs.Prelude.{List}
use Rattle.cxx_model.specs.declared.facts.Fact.{Fact}
use Rattle.cxx_meaning.specs.Lookups.Directives.{Shown as ShownMeant}
use Rattle.cxx_members.specs.Views.{Notes as NotesMembers}
use Rattle.cxx_scopes.specs.declared.directives.Shown.{Shown}
use Rattle.cxx_scopes.specs.declared.index.ScopeIndex.{ScopeIndex}

-- An index has noted exactly these facts.
abbrev pub Notes : ScopeIndex → List Fact → Type 0
Notes index facts = NotesMembers index.members facts

abbrev pub shown_of : Shown → ShownMeant
shown_of shown = record { there = shown.there; space = shown.space }
