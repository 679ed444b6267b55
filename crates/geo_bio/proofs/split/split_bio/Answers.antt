use Rattle.std.proofs.Common.{◌≡◌, ◌-◌, length, ◌∙◌, arith}
use Rattle.geo_bio.proofs.SplitLemmas.{with_all-numbered, split_left}
use Rattle.geo_bio.proofs.split.split_bio.Goals as goal

-- the last child's number is known, and the others have the numbers just before it, from the next one on
pub returns-clause-first : goal.returns-clause-first
returns-clause-first c =
    omega (arith, c.insert_all-last.ensures.last c.requires.some, c.len-count.ensures, c.requires.some)

-- the children are at the end, and the bio is found among all and waits for them
pub returns-clause-rows : goal.returns-clause-rows
returns-clause-rows c =
    let all = c.insert_all-last.ensures.inserted ∙ with_all-numbered c.args.bios.now c.args.children.items in
    let first : c.insert_all-last.result - (c.len-count.result - 1) ≡ c.args.bios.now.next =
    omega (arith, c.insert_all-last.ensures.last c.requires.some, c.len-count.ensures, c.requires.some) in
    let count : c.len-count.result ≡ length c.args.children.items =
    omega (arith, c.len-count.ensures, c.args.children.ok) in
    let after = (split_left _ c.wait_for.new.bios _ _ _ c.args.number _ all c.wait_for.ensures.waits).0 in
    rw (first, count) at after

-- Here and below: that the bio waits changes neither the next number nor the room
pub returns-clause-next : goal.returns-clause-next
returns-clause-next c =
    let all = c.insert_all-last.ensures.inserted ∙ with_all-numbered c.args.bios.now c.args.children.items in
    (split_left _ c.wait_for.new.bios _ _ _ c.args.number _ all c.wait_for.ensures.waits).1

pub returns-clause-room : goal.returns-clause-room
returns-clause-room c =
    let all = c.insert_all-last.ensures.inserted ∙ with_all-numbered c.args.bios.now c.args.children.items in
    (split_left _ c.wait_for.new.bios _ _ _ c.args.number _ all c.wait_for.ensures.waits).2
