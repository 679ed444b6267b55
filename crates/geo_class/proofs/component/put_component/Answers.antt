use Rattle.std.proofs.Common.{◌≡◌, ◌++◌, ◌≤◌, ℕ, List, length, take, refl, ap, ◌∙◌, arith, append_assoc, length-take-le}
use Rattle.std.specs.Int.{to_le_bytes, w16, w32}
use Rattle.geo_model.specs.Records.{padded}
use Rattle.geo_class.proofs.FieldLemmas.{free-behind, holds-behind, length-behind}
use Rattle.geo_class.proofs.component.put_component.Goals as goal

-- a sector's head and the id behind it take 40 bytes
to_id : (sector : List ℕ) (id : ℕ) → 44 ≤ length sector → length (take 36 sector ++ to_le_bytes w32 id) ≡ 40
to_id sector id room =
    length-behind (take 36 sector) (to_le_bytes w32 id) 36 4 (length-take-le 36 sector (omega arith)) refl

-- with the place they take 42
to_place : (sector : List ℕ) (id place : ℕ) → 44 ≤ length sector
    → length ((take 36 sector ++ to_le_bytes w32 id) ++ to_le_bytes w16 place) ≡ 42
to_place sector id place room =
    length-behind (take 36 sector ++ to_le_bytes w32 id) (to_le_bytes w16 place) 40 2 (to_id sector id room) refl

-- what the sector holds once the place is written behind the id
place_written : (sector with_id with_place : List ℕ) (id place : ℕ) → 44 ≤ length sector
    → with_id ≡ padded (length sector) (take 36 sector ++ to_le_bytes w32 id)
    → with_place ≡ padded (length with_id) (take 40 with_id ++ to_le_bytes w16 place)
    → with_place ≡ padded (length sector) ((take 36 sector ++ to_le_bytes w32 id) ++ to_le_bytes w16 place)
place_written sector with_id with_place id place room holds written =
    holds-behind (length sector) 40 (take 36 sector ++ to_le_bytes w32 id) (to_le_bytes w16 place) with_id with_place
    holds (to_id sector id room) (omega arith) written

-- Here and below: what was written ends where the next field begins, and zeros are left behind it
pub put_u16-requires-clause-free : goal.put_u16-requires-clause-free
put_u16-requires-clause-free c =
    free-behind (length c.args.sector.now) 40 (take 36 c.args.sector.now ++ to_le_bytes w32 c.args.id)
    c.put_u32.new.sector c.put_u32.ensures (to_id c.args.sector.now c.args.id c.requires.room)
    (omega (arith, c.requires.room))

pub put_u16-requires-2-clause-free : goal.put_u16-requires-2-clause-free
put_u16-requires-2-clause-free c =
    free-behind (length c.args.sector.now) 42
    ((take 36 c.args.sector.now ++ to_le_bytes w32 c.args.id) ++ to_le_bytes w16 c.args.place) c.put_u16.new.sector
    (place_written c.args.sector.now c.put_u32.new.sector c.put_u16.new.sector c.args.id c.args.place c.requires.room
    c.put_u32.ensures c.put_u16.ensures) (to_place c.args.sector.now c.args.id c.args.place c.requires.room)
    (omega (arith, c.requires.room))

-- id, place and count follow each other behind the head
pub returns : goal.returns
returns c =
    holds-behind (length c.args.sector.now) 42
    ((take 36 c.args.sector.now ++ to_le_bytes w32 c.args.id) ++ to_le_bytes w16 c.args.place)
    (to_le_bytes w16 c.args.count) c.put_u16.new.sector c.put_u16-2.new.sector
    (place_written c.args.sector.now c.put_u32.new.sector c.put_u16.new.sector c.args.id c.args.place c.requires.room
    c.put_u32.ensures c.put_u16.ensures) (to_place c.args.sector.now c.args.id c.args.place c.requires.room)
    (omega (arith, c.requires.room)) c.put_u16-2.ensures
    ∙ ap (padded (length c.args.sector.now)) (simp append_assoc)
