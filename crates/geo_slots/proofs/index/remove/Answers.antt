use Rattle.std.proofs.Common.{◌≡◌, ◌∙◌, ◌/◌, Some, refl, sym, arith}
use Rattle.geo_slots.specs.Slots.{value_at}
use Rattle.geo_slots.proofs.PlaceLemmas.{place_in}
use Rattle.geo_slots.proofs.KeyLemmas.{page_read, key_there, no_key_in_gap, keys_in_gap}
use Rattle.geo_slots.proofs.index.remove.Goals as goal
use Rattle.geo_slots.proofs.index.remove.Goals.{After-index}

pub index-requires : goal.index-requires
index-requires c =
    let within = place_in c.args.index.now.pages.items c.in-Ok.at (c.args.number / 64) c.in-Ok.ensures in
    omega (arith, within, c.args.index.now.pages.ok.0)

there : (c : After-index) → value_at c.args.index.now.pages.items (c.args.number / 64) ≡ Some c.index.result.now.1
there c =
    page_read c.args.index.now.pages.items c.args.index.now.end c.in-Ok.at (c.args.number / 64) c.index.result.now
    c.requires.in_order c.in-Ok.ensures c.index.ensures

pub key_in-key-requires-clause-full : goal.key_in-key-requires-clause-full
key_in-key-requires-clause-full c = c.requires.in_order.full (c.args.number / 64) c.index.result.now.1 (there c)

pub returns-in-Ok-clause-key : goal.returns-in-Ok-clause-key
returns-in-Ok-clause-key c =
    c.key_in-key.ensures
    ∙ sym (key_there c.args.index.now.pages.items c.args.number (c.args.number / 64) c.index.result.now.1 refl (there c.before.before.before))

pub returns-in-Err-clause-key : goal.returns-in-Err-clause-key
returns-in-Err-clause-key c =
    sym (no_key_in_gap c.args.index.now.pages.items c.args.index.now.end c.in-Err.field-0 c.args.number
    c.requires.in_order c.in-Err.ensures)

pub returns-in-Err-clause-keys : goal.returns-in-Err-clause-keys
returns-in-Err-clause-keys c =
    keys_in_gap c.args.index.now.pages.items c.args.index.now.end c.in-Err.field-0 c.args.number c.requires.in_order
    c.in-Err.ensures
