use Rattle.std.proofs.Common.{◌≡◌, sym, ◌∙◌}
use Rattle.geo_model.specs.GeomCommands.{stand}
use Rattle.geo_state.specs.World.{world}
use Rattle.geo_moves.specs.Disks.{item_at}
use Rattle.geo_moves.proofs.Made.{insert-done, insert-refused, insert-unknown}
use Rattle.geo_moves.proofs.Finding.{disk-read, disk-unread, none-absent, seat-fact, seat-refusal}
use Rattle.geo_moves.proofs.inserts.insert.Goals as goal

pub returns-in_default-clause-does : goal.returns-in_default-clause-does
returns-in_default-clause-does c = λ log actors.
    insert-unknown c.args.state.now c.args.state.now c.args.line c.refused.result actors log c.args.name.now
    (disk-unread c.args.state.now c.args.name.now c.deref.ensures.value c.disk_named.ensures c.in_default.is actors log)
    c.refused.ensures

-- the seat is the one of the disk that the header has by this name
pub returns-in-Some-insert_refusal-clause-does : goal.returns-in-Some-insert_refusal-clause-does
returns-in-Some-insert_refusal-clause-does c = λ log actors.
    let named = disk-read c.args.state.now c.args.name.now c.deref.ensures.value c.disk_named.ensures c.in-Some.is in
    insert-refused c.args.state.now c.args.state.now c.args.line c.refused-in-Some-insert_refusal.result actors log
    c.args.name.now (item_at c.in-Some.disk named.seat) (named.found actors log) c.in-Some-insert_refusal.errno
    (sym (seat-refusal named c.insert_refusal.result c.insert_refusal.ensures) ∙ c.in-Some-insert_refusal.is)
    c.refused-in-Some-insert_refusal.ensures

-- nothing is against the insert, so no geom stands for the disk
pub stand-requires-clause-absent : goal.stand-requires-clause-absent
stand-requires-clause-absent c =
    let named = disk-read c.args.state.now c.args.name.now c.deref.ensures.value c.disk_named.ensures c.in-Some.is in
    none-absent c.args.state.now c.requires.stands.kept c.in-Some.disk named.seat named.at
    (sym (seat-refusal named c.insert_refusal.result c.insert_refusal.ensures) ∙ c.in_default-insert_refusal.is)

-- nothing is against the disk of the name, and it stands now
pub returns-clause-does : goal.returns-clause-does
returns-clause-does c = λ log actors.
    let s = c.args.state.now in
    let named = disk-read s c.args.name.now c.deref.ensures.value c.disk_named.ensures c.in-Some.is in
    let stood = seat-fact named
    (λ seat. world actors log c.stand.new.state ≡ stand (world actors log s) (item_at c.in-Some.disk seat))
    (c.in_ok-stand.ensures.stood actors log) in
    insert-done s c.stand.new.state c.args.line c.done.result actors log c.args.name.now
    (item_at c.in-Some.disk named.seat) (named.found actors log)
    (sym (seat-refusal named c.insert_refusal.result c.insert_refusal.ensures) ∙ c.in_default-insert_refusal.is) stood
    c.done.ensures
