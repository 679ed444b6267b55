use Rattle.std.proofs.Common.{◌-◌, length, ap, ◌∙◌, arith}
use Rattle.std.specs.Option.{option_copied}
use Rattle.geo_model.specs.World.{is_down}
use Rattle.geo_bio.proofs.TableLemmas.{never_none, in_order}
use Rattle.geo_bio.proofs.SplitLemmas.{room_left, children_counted, started}
use Rattle.geo_bio.proofs.table.BioTable.start.Goals as goal

-- the bio is down, so it is there
pub unreachable-requires : goal.unreachable-requires
unreachable-requires c =
    absurd (never_none is_down c.self.inside.bios c.self.view_is c.number-number.ensures c.requires.down
    c.get.ensures.value (ap option_copied c.in-None.is))

-- there is a child for each piece, of which there are some and fewer than 2^32, and room was made for them
pub split_bio-requires : goal.split_bio-requires
split_bio-requires c =
    let count = children_counted c.args.bio c.in-Some.parent.now c.in_ok-children-in-Some.ensures
    c.items-items.ensures c.items.ensures c.requires.same_number in
    let long = c.in_ok-children-in-Some.children.ok in
    record {
      some = omega (arith, count, long, c.requires.some);
      few = omega (arith, count, long, ap length c.items-items.ensures, c.if-items.false);
      room = omega (arith, c.in_ok-reserve.ensures.room, c.len.ensures);
    }

-- the bio that was down had no children; the new ones follow each other, are its own, and it waits for them
pub invariant_of-self-2 : goal.invariant_of-self-2
invariant_of-self-2 c =
    (started c.self.inside.bios c.reserve.new.self c.split_bio.new.bios c.self.view_is c.self.invariant
    c.number-number.ensures c.get.ensures.value (ap option_copied c.in-Some.is) c.requires.down c.items-items.ensures
    c.items.ensures c.requires.same_number (omega (arith, ap length c.items-items.ensures, c.if-items.false))
    c.in_ok-children-in-Some.ensures c.reserve.ensures.values_stay c.split_bio.ensures.rows
    c.split_bio.ensures.next).table

-- the room that was made is what the children took, and what was spare beyond it is left
pub returns : goal.returns
returns c =
    let count = children_counted c.args.bio c.in-Some.parent.now c.in_ok-children-in-Some.ensures
    c.items-items.ensures c.items.ensures c.requires.same_number in
    let asked = c.len.ensures ∙ c.in_ok-children-in-Some.children.ok.0 ∙ count in
    let made = c.in_ok-reserve.ensures in
    let after = started c.self.inside.bios c.reserve.new.self c.split_bio.new.bios c.self.view_is c.self.invariant
    c.number-number.ensures c.get.ensures.value (ap option_copied c.in-Some.is) c.requires.down c.items-items.ensures
    c.items.ensures c.requires.same_number (omega (arith, ap length c.items-items.ensures, c.if-items.false))
    c.in_ok-children-in-Some.ensures c.reserve.ensures.values_stay c.split_bio.ensures.rows c.split_bio.ensures.next in
    record {
      first = c.new.ensures ∙ c.split_bio.ensures.first ∙ ap (λ s. s.next) c.reserve.ensures.values_stay
          ∙ ap (λ v. v.next) c.self.view_is;
      split = after.split;
      next = after.grows;
      room = c.split_bio.ensures.room ∙ ap (λ n. c.reserve.new.self.spare - n) count
          ∙ room_left c.self.inside.bios.spare c.reserve.new.self.spare (length c.args.pieces.now.items)
          made.room_stays (rw asked at made.room) (rw asked at made.no_more)
          ∙ ap (λ v. v.spare - length c.args.pieces.now.items) c.self.view_is;
      bios_stay = tt;
      next_stays = tt;
      room_stays = tt;
      in_order =
          in_order c.split_bio.new.bios.rows c.split_bio.new.bios.next c.split_bio.new.bios.spare after.table.rising;
      bound = c.split_bio.ensures.bound;
    }
