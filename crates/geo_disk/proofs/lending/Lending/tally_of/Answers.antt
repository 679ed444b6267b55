use Rattle.std.proofs.Common.{refl, ap, ◌∙◌, sym}
use Rattle.geo_disk.specs.declared.lending.Count.{Count}
use Rattle.geo_disk.proofs.NameLemmas.{IsPlace, named_at, no_place_found, place_found}
use Rattle.geo_disk.proofs.lending.Lending.tally_of.Goals as goal

-- Either way: what counts is the first place of the name, and without a place each count is 0
pub returns-in-Some : goal.returns-in-Some
returns-in-Some c =
    let place : IsPlace (λ (x : Count). x.name) c.args.name.now c.self.inside.counts.items c.in-Some.at =
    place_found (λ (x : Count). x.name) c.args.name.now c.self.inside.counts.items c.in-Some.at
    (rw (← c.as_slice.ensures.value) (sym c.place_of.ensures ∙ c.in-Some.is)) in
    rw (
      ← c.self.view_is,
      named_at (λ (x : Count). x.name) c.args.name.now c.self.inside.counts.items c.in-Some.at
          c.index.result.now place,
    )
    (ap (λ (x : Count). x.tally) c.index.ensures)

pub returns-in-None : goal.returns-in-None
returns-in-None c =
    rw (
      ← c.self.view_is,
      no_place_found (λ (x : Count). x.name) c.args.name.now c.self.inside.counts.items
          (rw (← c.as_slice.ensures.value) (sym c.place_of.ensures ∙ c.in-None.is)),
    ) refl
