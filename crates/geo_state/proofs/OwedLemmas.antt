-- The places of the queue that are owed.
use Rattle.std.specs.Prelude.{◌≡◌, ℕ, ◌+◌, ◌≤◌, ◌==◌, Bool, not, List, [], ◌∷◌, length, map, count_by}
use Rattle.std.proofs.Common.{refl, arith, rules}
use Rattle.std.proofs.lemmas.List.{length-map}
use Rattle.std.proofs.lemmas.List.Sums.{count_by-le-length}
use Rattle.geo_base.specs.declared.request.Counts.{Counts}
use Rattle.geo_model.specs.Topology.{Provider}
use Rattle.geo_model.specs.Demand.{no_counts, have}
use Rattle.geo_model.specs.Opens.{with_grant}
use Rattle.geo_laws_counts.specs.CountWords.{IsAtMost}
use Rattle.geo_laws_counts.proofs.Levels.{have-at_most}
use Rattle.geo_access.specs.Access.{comes_to_zero, granted_by, noted, released_view}
use Rattle.geo_state.specs.Owed.{OwedAreFew, ClosesOweLess, PlacesAreOwed}
use Rattle.geo_state.proofs.Lists.{counts, count-skip, count-step}

-- whether a row has a write count
abbrev writes : ℕ × Counts → Bool
writes row = not (row.1.w == 0)

-- as many rows are noted as have a note
noted-count : (rows : List (ℕ × Bool)) → length (noted rows) ≡ count_by (λ (row : ℕ × Bool). row.1) rows
noted-count [] = refl
noted-count (row ∷ rows) =
    search (
      rules,
      noted-count rows,
      count-step (λ (r : ℕ × Bool). r.1) row rows,
      count-skip (λ (r : ℕ × Bool). r.1) row rows,
    )

-- they are at most two for each provider
pub owed_are_few : OwedAreFew
owed_are_few t counted =
    search (
      rules,
      count_by-le-length (λ (p : Provider). not p.errored) t.topology.providers,
      count_by-le-length writes t.haves,
      length-map t.topology.providers
          (λ (p : Provider). let row : ℕ × Counts = (p.number, have (granted_by t) t.topology p.number) in row),
    )

-- Closes

module _ (before after : ℕ → Counts) (less : (p : ℕ) → IsAtMost (after p) (before p)) where
  abbrev row_before : Provider → ℕ × Counts
  row_before p = (p.number, before p.number)

  abbrev row_after : Provider → ℕ × Counts
  row_after p = (p.number, after p.number)

  abbrev row_fallen : Provider → ℕ × Bool
  row_fallen p = (p.number, comes_to_zero (before p.number) (after p.number))

  -- of all
  rows-less : (ps : List Provider)
      → count_by writes (map row_after ps) + count_by (λ (row : ℕ × Bool). row.1) (map row_fallen ps)
      ≤ count_by writes (map row_before ps)
  rows-less [] = omega arith
  rows-less (p ∷ ps) =
      search (
        rules,
        rows-less ps,
        count-step writes (row_after p) (map row_after ps),
        counts (λ (row : ℕ × Bool). row.1) (row_fallen p),
        count-step (λ (row : ℕ × Bool). row.1) (row_fallen p) (map row_fallen ps),
        counts writes (row_before p),
        count-step writes (row_before p) (map row_before ps),
      )

-- a close owes as many less as it notes
pub closes_owe_less : ClosesOweLess
closes_owe_less t c counted =
    let after : ℕ → Counts = with_grant (granted_by t) c no_counts in
    search (
      rules,
      rows-less (have (granted_by t) t.topology) (have after t.topology)
          (λ p. have-at_most after (granted_by t) fall t.topology p) t.topology.providers,
      noted-count (released_view t c).fallen,
    )
  where
    fall : (n : ℕ) → IsAtMost (with_grant (granted_by t) c no_counts n) (granted_by t n)
    fall n = search rules

pub places_are_owed : PlacesAreOwed
places_are_owed = record { few = owed_are_few; closes = closes_owe_less }
