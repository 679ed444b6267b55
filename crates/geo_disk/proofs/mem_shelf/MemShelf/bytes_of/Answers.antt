use Rattle.std.proofs.Common.{Some, ap, ◌∙◌, sym}
use Rattle.geo_disk.specs.declared.mem_shelf.Slot.{Slot}
use Rattle.geo_disk.proofs.ImageLemmas.{image_none, image_there}
use Rattle.geo_disk.proofs.NameLemmas.{IsPlace, named_at, no_place_found, place_found}
use Rattle.geo_disk.proofs.mem_shelf.MemShelf.bytes_of.Goals as goal

-- the name isn't lent, so the bytes in its first place are its image
pub returns-in-Some : goal.returns-in-Some
returns-in-Some c =
    let place : IsPlace (λ (x : Slot). x.name) c.args.name.now c.self.inside.slots.items c.in-Some.at =
    place_found (λ (x : Slot). x.name) c.args.name.now c.self.inside.slots.items c.in-Some.at
    (rw (← c.as_slice.ensures.value) (sym c.place_of.ensures ∙ c.in-Some.is)) in
    rw (← c.self.view_is)
    (ap Some c.bytes.ensures
    ∙ sym (image_there c.self.inside.slots.items c.self.inside.lending.lent c.args.name.now c.index.result.now
    (sym c.if-lent.ensures.among)
    (named_at (λ (x : Slot). x.name) c.args.name.now c.self.inside.slots.items c.in-Some.at c.index.result.now
    place ∙ ap Some (sym c.index.ensures))))

-- the name has no place, so it isn't on the shelf
pub returns-in-None : goal.returns-in-None
returns-in-None c =
    rw (← c.self.view_is)
    (sym (image_none c.self.inside.slots.items c.self.inside.lending.lent c.args.name.now
    (no_place_found (λ (x : Slot). x.name) c.args.name.now c.self.inside.slots.items
    (rw (← c.as_slice.ensures.value) (sym c.place_of.ensures ∙ c.in-None.is)))))
