-- What the ends of a view know: at the start, when the watcher comes, after a publish or a look, and in notes.
use Rattle.std.specs.Prelude.{◌≡◌, ℕ, List, [], ◌∷◌, true, false, Option, Some, None}
use mathlib.Core.List.{IsPrefix}
use mathlib.Core.Option.{some}
use lib.ListN.{get_elem?}
use Rattle.geo_model.specs.declared.step.Entry.{Entry}
use Rattle.geo_jobs.specs.Passes.{MeshPass}
use Rattle.geo_jobs.specs.declared.role.Role.{Role}
use Rattle.geo_jobs.specs.declared.role.Role.TheVariants.{First, Shows, Comes, Looks, Note}
use Rattle.geo_jobs.specs.declared.known.Known.{Known}

abbrev pub known : Role → Option MeshPass → List Entry → List (List Entry) → Known
known role of seen told = record { role = role; of = of; seen = seen; told = told }

-- the publisher at the start, of whose pass the list is shown
abbrev pub publisher_at_start : MeshPass → Known
publisher_at_start p = known First (Some p) p.seen []

-- the publisher, once the watcher has come
abbrev pub met : Known → Known
met v = known (Shows 1 false) v.of v.seen v.told

-- the watcher that comes, which was told of what the publisher has shown
abbrev pub watcher_coming : Known → Known
watcher_coming v = known (Comes 2) v.of [] (v.seen ∷ [])

-- the publisher with a slot, once it has shown a list
abbrev pub showing : Known → ℕ → List Entry → Known
showing v slot seen = known (Shows slot true) v.of seen v.told

-- the watcher with a slot, once it has seen what it was told of
abbrev pub looking : Known → ℕ → List Entry → Known
looking v slot seen = known (Looks slot false) v.of seen []

-- the watcher, which knows that a newer list waits
abbrev pub expecting : Known → ℕ → Known
expecting v slot = known (Looks slot true) v.of v.seen v.told

-- what the publisher tells
abbrev pub note : Known → Known
note v = known Note v.of v.seen []

-- what is left of a note that was learned
abbrev pub learned_note : Known
learned_note = known Note None [] []

-- the watcher that learned a note
abbrev pub informed : Known → Known → Known
informed v w = known v.role v.of v.seen (w.seen ∷ v.told)

-- each of these begins the log
abbrev pub AllBegin : List (List Entry) → List Entry → Type 0
AllBegin told log = (i : ℕ) (seen : List Entry) → get_elem? told i ≡ some seen → IsPrefix seen log

-- both are one pass, at two moments: the yard, its start and the number are the same
pub record AreOnePass (p q : MeshPass) : Type 0 where
  pub yard : q.yard ≡ p.yard
  pub start : q.start ≡ p.start
  pub number : q.number ≡ p.number
