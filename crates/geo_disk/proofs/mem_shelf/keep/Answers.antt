use Rattle.std.proofs.Common.{refl, ◌∙◌, sym}
use Rattle.geo_disk.specs.MemShelf.{kept_slot}
use Rattle.geo_disk.specs.declared.mem_shelf.Slot.{Slot}
use Rattle.geo_disk.proofs.NameLemmas.{IsPlace, found_place, named-set_same, named-set_other, place_found}
use Rattle.geo_disk.proofs.mem_shelf.keep.Goals as goal

-- where the disk is put
place : (c : goal.After-drop-index_mut-2)
    → IsPlace (λ (x : Slot). x.name) c.args.name.now c.args.slots.now.items c.unwrap-at.result
place c = place_found (λ (x : Slot). x.name) c.args.name.now c.args.slots.now.items c.unwrap-at.result
    (rw (← c.as_slice.ensures.value) (sym c.place_of.ensures ∙ c.unwrap-at.ensures))

pub unwrap-at-requires : goal.unwrap-at-requires
unwrap-at-requires c =
    rw (c.place_of.ensures, c.as_slice.ensures.value)
    (found_place (λ (x : Slot). x.name) c.args.name.now c.args.slots.now.items c.requires)

-- Here and below: the disk was put into the first place of the name, and no place changed its name
pub returns-clause-here : goal.returns-clause-here
returns-clause-here c =
    let parts = c.into_parts-bytes.ensures in
    rw (parts.bytes, parts.fails, parts.calls, parts.part)
    (named-set_same (λ (x : Slot). x.name) c.args.name.now c.args.slots.now.items c.unwrap-at.result
    (kept_slot c.args.name.now c.args.disk) (place c) refl)

pub returns-clause-others : goal.returns-clause-others
returns-clause-others c other apart =
    let parts = c.into_parts-bytes.ensures in
    rw (parts.bytes, parts.fails, parts.calls, parts.part)
    (named-set_other (λ (x : Slot). x.name) c.args.name.now other c.args.slots.now.items c.unwrap-at.result
    (kept_slot c.args.name.now c.args.disk) (place c) refl apart)
