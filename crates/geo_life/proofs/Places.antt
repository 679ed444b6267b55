-- How many places events can take, and by which grants counts are stored.
use Rattle.std.specs.Prelude.{◌≡◌, ℕ, ◌≤◌, Bool, not, List, map, filter, length, Contains}
use Rattle.std.proofs.Common.{sym, ap, ◌∙◌, arith, rules}
use Rattle.std.proofs.lemmas.List.{length-map}
use Rattle.geo_model.specs.Topology.{Provider, Consumer}
use Rattle.geo_model.specs.Demand.{want}
use Rattle.geo_laws_counts.specs.CountWords.{DemandStays}
use Rattle.geo_laws_counts.proofs.LimitFacts.{all_of}
use Rattle.geo_laws_counts.proofs.Stays.{grants_agree}
use Rattle.geo_access.specs.Access.{granted_by}
use Rattle.geo_life.specs.Life.{notes}
use Rattle.geo_life.specs.LifeLaws.{PlacesAreFew, CountsAreStored}
use Rattle.geo_base.proofs.FilterLists.{length-kept}
use Rattle.geo_access.proofs.Clearing.{rows_agree}

-- notes are no more than providers, where rows and providers have the same numbers
few_notes : (rows : List (ℕ × Bool)) (ps : List Provider)
    → map (λ (row : ℕ × Bool). row.0) rows ≡ map (λ (p : Provider). p.number) ps → notes rows ≤ length ps
few_notes rows ps same =
    let kept : length (filter (λ (row : ℕ × Bool). row.1) rows) ≤ length rows =
    length-kept (λ (row : ℕ × Bool). row.1) rows in
    let named : notes rows ≡ length (filter (λ (row : ℕ × Bool). row.1) rows) =
    length-map (filter (λ (row : ℕ × Bool). row.1) rows) (λ (row : ℕ × Bool). row.0) in
    let as_many : length rows ≡ length ps =
    sym (length-map rows (λ (row : ℕ × Bool). row.0)) ∙ ap length same ∙ length-map ps (λ (p : Provider). p.number) in
    omega (arith, kept, named, as_many)

pub places_are_few : {C : Type 0} → PlacesAreFew C
places_are_few = search (rules, length-kept (λ (x : Provider). not x.errored), few_notes)

pub counts_are_stored : {C : Type 0} → CountsAreStored C
counts_are_stored t granted counted agree =
    let same : DemandStays (granted_by t) t.topology granted t.topology (Contains t.topology.consumers) =
    grants_agree (granted_by t) granted t.topology
    (all_of (λ (c : Consumer). granted c.number ≡ granted_by t c.number) t.topology.consumers
    (λ c there. agree c.number)) in
    counted.wants
    ∙ rows_agree (λ (c : Consumer). c.number) (want (granted_by t) t.topology) (want granted t.topology)
    t.topology.consumers (λ c there. sym (same.wants c there))
