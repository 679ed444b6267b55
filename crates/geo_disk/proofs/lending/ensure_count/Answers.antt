use Rattle.std.proofs.Common.{refl, ◌∙◌, sym}
use Rattle.geo_disk.specs.declared.lending.Count.{Count}
use Rattle.geo_disk.specs.Lending.{no_faults}
use Rattle.geo_disk.proofs.CountLemmas.{tally_after_push}
use Rattle.geo_disk.proofs.NameLemmas.{named-push_same, named-push_some, no_place_found, place_has_item}
use Rattle.geo_disk.proofs.lending.ensure_count.Goals as goal

-- a name without counts is told as 0, which is what it has now, so nothing told changes
pub returns-in_ok-push-in-None-clause-same : goal.returns-in_ok-push-in-None-clause-same
returns-in_ok-push-in-None-clause-same c other =
    rw c.in_ok-push-in-None.ensures.items (tally_after_push c.args.counts.now.items other c.args.name.now)

pub returns-in_ok-push-in-None-clause-kept : goal.returns-in_ok-push-in-None-clause-kept
returns-in_ok-push-in-None-clause-kept c other is =
    rw c.in_ok-push-in-None.ensures.items
    (named-push_some (λ (x : Count). x.name) other c.args.counts.now.items
    (record { name = c.args.name.now; tally = no_faults }) is)

-- the name had no place, so the new one behind the others is its first
pub returns-in_ok-push-in-None-clause-has : goal.returns-in_ok-push-in-None-clause-has
returns-in_ok-push-in-None-clause-has c =
    rw (
      c.in_ok-push-in-None.ensures.items,
      named-push_same (λ (x : Count). x.name) c.args.name.now c.args.counts.now.items
          (record { name = c.args.name.now; tally = no_faults })
          (no_place_found (λ (x : Count). x.name) c.args.name.now c.args.counts.now.items
          (rw (← c.as_slice.ensures.value) (sym c.place_of.ensures ∙ c.in-None.is))) refl,
    ) refl

pub returns-in-Some-clause-has : goal.returns-in-Some-clause-has
returns-in-Some-clause-has c =
    place_has_item (λ (x : Count). x.name) c.args.name.now c.args.counts.now.items c.in-Some.field-0
    (rw (← c.as_slice.ensures.value) (sym c.place_of.ensures ∙ c.in-Some.is))
