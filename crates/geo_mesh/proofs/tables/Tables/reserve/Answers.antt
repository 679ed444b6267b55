use Rattle.std.proofs.Common.{refl, arith}
use Rattle.geo_mesh.proofs.NoteLemmas.{unnoted}
use Rattle.geo_mesh.proofs.WholeLemmas.{roomier, whole-reserved, whole-grown, untouched}
use Rattle.geo_mesh.proofs.tables.Tables.reserve.Goals as goal

-- the index alone was asked
pub returns-in_err-reserve-clause-same : goal.returns-in_err-reserve-clause-same
returns-in_err-reserve-clause-same g c =
    roomier refl refl refl refl c.reserve.ensures.same (untouched c.args.self.now.names)
    (unnoted c.args.self.now.notes) (omega arith) (omega arith) (omega arith)

pub returns-in_err-reserve-clause-whole : goal.returns-in_err-reserve-clause-whole
returns-in_err-reserve-clause-whole g c =
    whole-reserved c.args.self.now c.requires _ (returns-in_err-reserve-clause-same g c)
    (c.reserve.ensures.room_stays _ _ _ c.requires.tables.room) c.requires.tables.names_room
    c.requires.tables.notes.room

-- and the names
pub returns-in_err-reserve-2-clause-same : goal.returns-in_err-reserve-2-clause-same
returns-in_err-reserve-2-clause-same g c =
    roomier refl refl refl refl c.reserve.ensures.same c.reserve-2.ensures.same
    (unnoted c.args.self.now.notes) (omega arith) (omega arith) (omega arith)

pub returns-in_err-reserve-2-clause-whole : goal.returns-in_err-reserve-2-clause-whole
returns-in_err-reserve-2-clause-whole g c =
    whole-reserved c.args.self.now c.requires _ (returns-in_err-reserve-2-clause-same g c)
    (c.reserve.ensures.room_stays _ _ _ c.requires.tables.room)
    (c.reserve-2.ensures.room_stays _ c.requires.tables.names_room) c.requires.tables.notes.room

-- and the notes
pub returns-in_err-reserve-3-clause-same : goal.returns-in_err-reserve-3-clause-same
returns-in_err-reserve-3-clause-same g c =
    roomier refl refl refl refl c.reserve.ensures.same c.reserve-2.ensures.same
    c.reserve-3.ensures.same (omega arith) (omega arith) (omega arith)

pub returns-in_err-reserve-3-clause-whole : goal.returns-in_err-reserve-3-clause-whole
returns-in_err-reserve-3-clause-whole g c =
    whole-reserved c.args.self.now c.requires _ (returns-in_err-reserve-3-clause-same g c)
    (c.reserve.ensures.room_stays _ _ _ c.requires.tables.room)
    (c.reserve-2.ensures.room_stays _ c.requires.tables.names_room)
    (c.reserve-3.ensures.room_stays _ _ c.requires.tables.notes.room)

-- the geoms may have more room
pub returns-in_err-reserve-4-clause-same : goal.returns-in_err-reserve-4-clause-same
returns-in_err-reserve-4-clause-same g c =
    roomier c.reserve-4.ensures.values_stay refl refl refl c.reserve.ensures.same
    c.reserve-2.ensures.same c.reserve-3.ensures.same (omega arith) (omega arith) (omega arith)

pub returns-in_err-reserve-4-clause-whole : goal.returns-in_err-reserve-4-clause-whole
returns-in_err-reserve-4-clause-whole g c =
    whole-grown c.args.self.now c.requires _ c.args.geoms c.args.providers c.args.consumers
    (returns-in_err-reserve-4-clause-same g c) c.reserve-4.ensures.no_more (omega arith) (omega arith)
    c.reserve.ensures.room_stays c.in_ok-reserve.ensures.room c.reserve-2.ensures.room_stays
    c.in_ok-reserve-2.ensures.room c.reserve-3.ensures.room_stays c.in_ok-reserve-3.ensures.room

-- and the providers
pub returns-in_err-reserve-5-clause-same : goal.returns-in_err-reserve-5-clause-same
returns-in_err-reserve-5-clause-same g c =
    roomier c.reserve-4.ensures.values_stay c.reserve-5.ensures.values_stay refl refl
    c.reserve.ensures.same c.reserve-2.ensures.same c.reserve-3.ensures.same (omega arith) (omega arith) (omega arith)

pub returns-in_err-reserve-5-clause-whole : goal.returns-in_err-reserve-5-clause-whole
returns-in_err-reserve-5-clause-whole g c =
    whole-grown c.args.self.now c.requires _ c.args.geoms c.args.providers c.args.consumers
    (returns-in_err-reserve-5-clause-same g c) c.reserve-4.ensures.no_more c.reserve-5.ensures.no_more (omega arith)
    c.reserve.ensures.room_stays c.in_ok-reserve.ensures.room c.reserve-2.ensures.room_stays
    c.in_ok-reserve-2.ensures.room c.reserve-3.ensures.room_stays c.in_ok-reserve-3.ensures.room

-- and the consumers
pub returns-in_err-reserve-6-clause-same : goal.returns-in_err-reserve-6-clause-same
returns-in_err-reserve-6-clause-same g c =
    roomier c.reserve-4.ensures.values_stay c.reserve-5.ensures.values_stay c.reserve-6.ensures.values_stay refl
    c.reserve.ensures.same c.reserve-2.ensures.same c.reserve-3.ensures.same (omega arith) (omega arith) (omega arith)

pub returns-in_err-reserve-6-clause-whole : goal.returns-in_err-reserve-6-clause-whole
returns-in_err-reserve-6-clause-whole g c =
    whole-grown c.args.self.now c.requires _ c.args.geoms c.args.providers c.args.consumers
    (returns-in_err-reserve-6-clause-same g c) c.reserve-4.ensures.no_more c.reserve-5.ensures.no_more
    c.reserve-6.ensures.no_more c.reserve.ensures.room_stays c.in_ok-reserve.ensures.room
    c.reserve-2.ensures.room_stays c.in_ok-reserve-2.ensures.room c.reserve-3.ensures.room_stays
    c.in_ok-reserve-3.ensures.room

-- all have what was asked for
pub returns-clause-same : goal.returns-clause-same
returns-clause-same g c =
    roomier c.reserve-4.ensures.values_stay c.reserve-5.ensures.values_stay c.reserve-6.ensures.values_stay refl
    c.reserve.ensures.same c.reserve-2.ensures.same c.reserve-3.ensures.same (omega arith) (omega arith) (omega arith)

pub returns-clause-whole : goal.returns-clause-whole
returns-clause-whole g c =
    whole-grown c.args.self.now c.requires _ c.args.geoms c.args.providers c.args.consumers (returns-clause-same g c)
    c.reserve-4.ensures.no_more c.reserve-5.ensures.no_more c.reserve-6.ensures.no_more c.reserve.ensures.room_stays
    c.in_ok-reserve.ensures.room c.reserve-2.ensures.room_stays c.in_ok-reserve-2.ensures.room
    c.reserve-3.ensures.room_stays c.in_ok-reserve-3.ensures.room
