use Rattle.std.proofs.Common.{refl, ap, ◌∙◌, sym}
use Rattle.std.specs.Option.{option_map_or}
use Rattle.geo_disk.specs.declared.lending.Count.{Count}
use Rattle.geo_disk.specs.Lending.{no_faults}
use Rattle.geo_disk.proofs.NameLemmas.{IsPlace, found_place, named-set_same, named-set_other, place_found, set_keeps}
use Rattle.geo_disk.proofs.lending.set_count.Goals as goal

-- where the count stands that is set
place : (c : goal.After-counts-1)
    → IsPlace (λ (x : Count). x.name) c.args.name.now c.args.counts.now.items c.unwrap-at.result
place c = place_found (λ (x : Count). x.name) c.args.name.now c.args.counts.now.items c.unwrap-at.result
    (rw (← c.as_slice.ensures.value) (sym c.place_of.ensures ∙ c.unwrap-at.ensures))

pub unwrap-at-requires : goal.unwrap-at-requires
unwrap-at-requires c =
    rw (c.place_of.ensures, c.as_slice.ensures.value)
    (found_place (λ (x : Count). x.name) c.args.name.now c.args.counts.now.items c.requires)

-- the counts were put into the first place of the name, which keeps its name
pub returns-clause-now : goal.returns-clause-now
returns-clause-now c =
    rw (named-set_same (λ (x : Count). x.name) c.args.name.now c.args.counts.now.items c.unwrap-at.result
    (record { name = c.args.name.now; tally = c.args.tally }) (place c) refl) refl

-- no place changed its name, so the first place of another name is as before
pub returns-clause-others : goal.returns-clause-others
returns-clause-others c other apart =
    ap (λ o. option_map_or (λ (x : Count). x.tally) o no_faults)
    (named-set_other (λ (x : Count). x.name) c.args.name.now other c.args.counts.now.items c.unwrap-at.result
    (record { name = c.args.name.now; tally = c.args.tally }) (place c) refl apart)

pub returns-clause-kept : goal.returns-clause-kept
returns-clause-kept c other is =
    set_keeps (λ (x : Count). x.name) c.args.name.now other c.args.counts.now.items c.unwrap-at.result
    (record { name = c.args.name.now; tally = c.args.tally }) (place c) refl is
