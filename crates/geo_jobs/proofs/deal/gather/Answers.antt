use Rattle.std.proofs.Common.{◌≡◌, ◌++◌, ◌∷◌, ◌∙◌, [], ap, sym, length, append_assoc, append-nil, arith, drop, take}
use Rattle.std.proofs.lemmas.List.{length-append, length-map}
use Rattle.geo_jobs.specs.Deal.{drives_in, gathered_drives}
use Rattle.geo_jobs.proofs.Dealing.{none_left, one_taken}
use Rattle.geo_jobs.proofs.deal.gather.Goals as goal

-- a round moved the first drive of each list, or of one where the other had none, in their order
pub loop-drive-preserved : goal.loop-drive-preserved
loop-drive-preserved g c =
    let b = c.loop-drive.back.items in
    let e = c.loop-drive.even.items in
    let o = c.loop-drive.odd.items in
    let d = c.in-Some.drive in
    let inv = c.loop-drive.invariant in
    let moved = c.move_first.ensures in
    let round = one_taken e o c.take_first.ensures.first c.in-Some.is inv.1 in
    let back : c.move_first.new.back.items ≡ b ++ d ∷ [] ++ drives_in (take 1 o) =
    moved.back ∙ ap (λ l. l ++ drives_in (take 1 o)) c.push_reserved.ensures.items in
    let shorter = ap (λ l. length l) c.take_first.ensures.rest in
    let other = ap (λ l. length l) moved.list in
    let fewer = round.fewer in
    let less = round.one_less in
    let rest = round.rest in
    let room = moved.room in
    let room_before = c.push_reserved.ensures.capacity in
    let long = c.move_first.new.back.ok.0 in
    let long_before = c.loop-drive.back.ok.0 in
    let by_items = ap (λ l. length l) back in
    let two = length-append (b ++ d ∷ []) (drives_in (take 1 o)) in
    let one = length-append b (d ∷ []) in
    let moved_long = length-map (take 1 o) (λ x. x.1) in
    let fits = inv.2 in (
      ap (λ l. l ++ gathered_drives c.take_first.new.self.items c.move_first.new.list.items) back
          ∙ ap (λ l. b ++ d ∷ [] ++ drives_in (take 1 o) ++ gathered_drives l c.move_first.new.list.items)
          c.take_first.ensures.rest
          ∙ ap (λ l. b ++ d ∷ [] ++ drives_in (take 1 o) ++ gathered_drives (drop 1 e) l) moved.list
          ∙ append_assoc (b ++ d ∷ []) (drives_in (take 1 o)) (gathered_drives (drop 1 e) (drop 1 o))
          ∙ append_assoc b (d ∷ []) (drives_in (take 1 o) ++ gathered_drives (drop 1 e) (drop 1 o))
          ∙ ap (λ l. b ++ l) (sym round.gives) ∙ inv.0,
      omega (arith, fewer, shorter, other),
      omega (
        arith,
        fits,
        less,
        rest,
        shorter,
        other,
        room,
        room_before,
        long,
        long_before,
        by_items,
        two,
        one,
        moved_long,
      ),
    )

-- Room for each drive that is left was made, and the even list has one for each of the odd list
pub move_first-requires : goal.move_first-requires
move_first-requires g c some =
    let less = (one_taken c.loop-drive.even.items c.loop-drive.odd.items c.take_first.ensures.first c.in-Some.is
    c.loop-drive.invariant.1).one_less in
    let fits = c.loop-drive.invariant.2 in
    let len = c.push_reserved.ensures.len in
    let room = c.push_reserved.ensures.capacity in
    omega (arith, some, less, fits, len, room)

pub push_reserved-requires : goal.push_reserved-requires
push_reserved-requires g c =
    let less = (one_taken c.loop-drive.even.items c.loop-drive.odd.items c.take_first.ensures.first c.in-Some.is
    c.loop-drive.invariant.1).one_less in
    omega (arith, less, c.loop-drive.invariant.2)

pub loop-drive-smaller : goal.loop-drive-smaller
loop-drive-smaller g c =
    let less = (one_taken c.loop-drive.even.items c.loop-drive.odd.items c.take_first.ensures.first c.in-Some.is
    c.loop-drive.invariant.1).one_less in
    let shorter = ap (λ l. length l) c.take_first.ensures.rest in
    omega (arith, less, shorter)

-- the even list is empty, and the odd one has no more, so all drives are back
pub returns : goal.returns
returns g c =
    let none =
    none_left c.loop-drive.even.items c.loop-drive.odd.items (sym c.in_default.is ∙ c.take_first.ensures.first)
    c.loop-drive.invariant.1 in
    sym (append-nil c.loop-drive.back.items) ∙ ap (λ l. c.loop-drive.back.items ++ l) (sym none)
    ∙ c.loop-drive.invariant.0
