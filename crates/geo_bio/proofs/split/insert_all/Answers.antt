use Rattle.std.proofs.Common.{◌≡◌, ◌+◌, length, arith, sym, ap, ◌∙◌}
use Rattle.std.proofs.lemmas.List.{nil_from_length}
use Rattle.geo_bio.specs.Split.{with_all}
use Rattle.geo_bio.proofs.split.insert_all.Goals as goal

-- no child is in yet
pub loop-child-init : goal.loop-child-init
loop-child-init c =
    let items = c.into_iter-child-iterator.ensures.into_iter_gives.0 in
    record {
      rest = ap (with_all c.args.bios.now) items;
      room = rw items (omega (arith, c.requires, c.args.children.ok));
      numbers = ap (λ xs. c.args.bios.now.next + length xs) items;
      last = λ h. absurd (omega (arith, h));
    }

-- there is room for all children that are left, and this is one of them
pub insert-last-requires : goal.insert-last-requires
insert-last-requires c =
    let i = c.loop-child.invariant in
    let items = ap length c.in-Some.ensures.steps.0 in
    omega (arith, i.room, items)

-- the child is behind the others, and one less is left, for which there is room
pub loop-child-preserved : goal.loop-child-preserved
loop-child-preserved c =
    let i = c.loop-child.invariant in
    let items = c.in-Some.ensures.steps.0 in
    let count = ap length items in
    let e = c.insert-last.ensures in
    let next = ap (λ s. s.next) e.inserted in
    let spare = ap (λ s. s.spare) e.inserted in
    record {
      rest = ap (λ s. with_all s c.next.new.self.rest.items) e.inserted
          ∙ sym (ap (with_all c.loop-child.bios) items) ∙ i.rest;
      room = omega (arith, i.room, count, spare);
      numbers = omega (arith, i.numbers, count, next);
      last = λ h. omega (arith, e.number, next);
    }

-- no child is left
pub returns-clause-inserted : goal.returns-clause-inserted
returns-clause-inserted c =
    let none = nil_from_length c.loop-child.child-iterator.rest.items
    (omega (arith, c.in-None.ensures.steps.0, c.loop-child.child-iterator.rest.ok)) in
    sym (ap (with_all c.loop-child.bios) none) ∙ c.loop-child.invariant.rest

-- a child came in, and the last one has the number below the next one
pub returns-clause-last : goal.returns-clause-last
returns-clause-last c = λ some.
    let i = c.loop-child.invariant in
    let none : length c.loop-child.child-iterator.rest.items ≡ 0 =
    omega (arith, c.in-None.ensures.steps.0, c.loop-child.child-iterator.rest.ok) in
    let count = c.args.children.ok in
    let last = i.last (omega (arith, i.numbers, none, count, some)) in
    omega (arith, i.numbers, none, count, last)
