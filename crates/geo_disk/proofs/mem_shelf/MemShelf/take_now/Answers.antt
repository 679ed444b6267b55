use Rattle.std.proofs.Common.{◌≡◌, List, [], length, Some, true, get_or, set, refl, ap, ◌∙◌, sym}
use Rattle.geo_disk.specs.MemShelf.{disk_of_slot, emptied_slot, slot_at, slot_of}
use Rattle.geo_disk.specs.Lending.{faults_of}
use Rattle.geo_base.specs.Images.{IsDiskSize}
use Rattle.geo_disk.specs.declared.mem_shelf.Slot.{Slot}
use Rattle.geo_disk.proofs.ImageLemmas.{after_take, image_none, image_there, size_of_disk, slots_after_take, some_bytes}
use Rattle.geo_disk.proofs.NameLemmas.{IsPlace, has_name, named-set_same, named-set_other, named_at, no_place_found, place_found}
use Rattle.geo_disk.proofs.mem_shelf.MemShelf.take_now.Goals as goal

-- the name has no place, so it has no image, and nothing changes
pub returns-in_default-clause-found : goal.returns-in_default-clause-found
returns-in_default-clause-found c = (
  rw (← c.self.view_is)
      (image_none c.self.inside.slots.items c.self.inside.lending.lent c.args.name.now
      (no_place_found (λ (x : Slot). x.name) c.args.name.now c.self.inside.slots.items
      (rw (← c.as_slice.ensures.value) (sym c.place_of.ensures ∙ c.in_default.is)))),
  (λ name. refl),
)

-- the name has an image, but it isn't one of a disk of such sectors, and nothing changes
pub returns-then-not-is_disk_size-clause-found : goal.returns-then-not-is_disk_size-clause-found
returns-then-not-is_disk_size-clause-found c =
    let items : List Slot = c.self.inside.slots.items in
    let place : IsPlace (λ (x : Slot). x.name) c.args.name.now items c.in-Some.at =
    place_found (λ (x : Slot). x.name) c.args.name.now items c.in-Some.at
    (rw (← c.as_slice.ensures.value) (sym c.place_of.ensures ∙ c.in-Some.is)) in
    let found : slot_of items c.args.name.now ≡ Some c.index.result.now =
    named_at (λ (x : Slot). x.name) c.args.name.now items c.in-Some.at c.index.result.now place
    ∙ ap Some (sym c.index.ensures) in (
      rw (
        ← c.self.view_is,
        image_there items c.self.inside.lending.lent c.args.name.now c.index.result.now
            (sym c.if-has.ensures.among) found,
      )
          (λ fits. let is : c.is_disk_size.result ≡ true = c.is_disk_size.ensures.1 (rw c.len.ensures fits) in cc),
      (λ name. refl),
    )

-- where the disk stood
place : (c : goal.After-lend_out)
    → IsPlace (λ (x : Slot). x.name) c.args.name.now c.self.inside.slots.items c.in-Some.at
place c = place_found (λ (x : Slot). x.name) c.args.name.now c.self.inside.slots.items c.in-Some.at
    (rw (← c.as_slice.ensures.value) (sym c.place_of.ensures ∙ c.in-Some.is))

-- its place is the one that was looked at
slot_is : (c : goal.After-lend_out) → c.index.result.now ≡ slot_at c.self.inside.slots.items c.in-Some.at
slot_is c =
    let same : Some (get_or c.self.inside.slots.items c.in-Some.at c.index.result.now)
    ≡ Some (slot_at c.self.inside.slots.items c.in-Some.at) =
    sym (named_at (λ (x : Slot). x.name) c.args.name.now c.self.inside.slots.items c.in-Some.at
    c.index.result.now (place c))
    ∙ named_at (λ (x : Slot). x.name) c.args.name.now c.self.inside.slots.items c.in-Some.at (emptied_slot [])
    (place c) in
    c.index.ensures ∙ cc

-- it has the size of a disk
fits : (c : goal.After-lend_out)
    → IsDiskSize c.args.sector (length (slot_at c.self.inside.slots.items c.in-Some.at).bytes)
fits c = rw (← slot_is c, ← c.len.ensures) (c.is_disk_size.ensures.0 c.if-not-is_disk_size.false)

-- its place is emptied
slots_are : (c : goal.After-lend_out)
    → c.lend_out.new.slots.items ≡ set c.self.inside.slots.items c.in-Some.at (emptied_slot c.args.name.now)
slots_are c =
    c.lend_out.ensures.slots
    ∙ ap (λ name. set c.self.inside.slots.items c.in-Some.at (emptied_slot name))
    (has_name (λ (x : Slot). x.name) c.args.name.now c.self.inside.slots.items c.in-Some.at
    (emptied_slot []) (place c))

-- the name that is lent now keeps its place, which is empty, and the others keep theirs
pub invariant_of-self-2 : goal.invariant_of-self-2
invariant_of-self-2 c =
    rw (c.in-Ok.ensures.ok, slots_are c)
    (slots_after_take c.self.inside.slots.items c.self.inside.lending.lent c.args.name.now c.in-Some.at (place c)
    c.self.invariant)

-- the image of the name is the disk, it has the size of one, and now the name has none
pub returns-clause-found : goal.returns-clause-found
returns-clause-found c =
    rw (← c.self.view_is, c.lend_out.ensures.disk, slots_are c, c.in-Ok.ensures.ok)
    (after_take c.self.inside.slots.items c.self.inside.lending.lent c.args.name.now c.args.sector c.in-Some.at
    (slot_at c.self.inside.slots.items c.in-Some.at) (place c)
    (sym c.if-has.ensures.among)
    (named_at (λ (x : Slot). x.name) c.args.name.now c.self.inside.slots.items c.in-Some.at (emptied_slot [])
    (place c)) (fits c))

-- the disk has the bytes of its place, whose size was tested
pub returns-clause-size : goal.returns-clause-size
returns-clause-size c =
    rw c.lend_out.ensures.disk (size_of_disk c.args.sector (slot_at c.self.inside.slots.items c.in-Some.at).bytes
    (some_bytes c.args.sector c.requires) (fits c))

-- the disk is what the first place of the name had, with the counts and the calls that it came back with
pub returns-clause-disk : goal.returns-clause-disk
returns-clause-disk c =
    rw (
      ← c.self.view_is,
      named_at (λ (x : Slot). x.name) c.args.name.now c.self.inside.slots.items c.in-Some.at
          (emptied_slot []) (place c),
    )
    (c.lend_out.ensures.disk
    ∙ ap (λ faults. disk_of_slot c.args.sector faults c.asked_of-asked.result.items
    (slot_at c.self.inside.slots.items c.in-Some.at)) c.faults_of-faults.ensures
    ∙ ap (λ asked. disk_of_slot c.args.sector (faults_of c.self.inside.lending c.args.name.now) asked
    (slot_at c.self.inside.slots.items c.in-Some.at)) c.asked_of-asked.ensures)

-- Here and below: the first place of the name was emptied, and no place changed its name
pub returns-clause-emptied : goal.returns-clause-emptied
returns-clause-emptied c =
    rw (slots_are c)
    (named-set_same (λ (x : Slot). x.name) c.args.name.now c.self.inside.slots.items c.in-Some.at
    (emptied_slot c.args.name.now) (place c) refl)

pub returns-clause-others : goal.returns-clause-others
returns-clause-others c other apart =
    rw (← c.self.view_is, slots_are c)
    (named-set_other (λ (x : Slot). x.name) c.args.name.now other c.self.inside.slots.items c.in-Some.at
    (emptied_slot c.args.name.now) (place c) refl apart)
