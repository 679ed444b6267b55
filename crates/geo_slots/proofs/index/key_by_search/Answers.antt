use Rattle.std.proofs.Common.{◌≡◌, ◌∙◌, ◌/◌, Some, sym, refl}
use Rattle.geo_slots.specs.Slots.{value_at}
use Rattle.geo_slots.proofs.KeyLemmas.{page_read, key_there, no_key_in_gap}
use Rattle.geo_slots.proofs.index.key_by_search.Goals as goal

there : (c : goal.After-index)
    → value_at c.args.index.now.pages.items (c.args.number / 64) ≡ Some c.index.result.now.1
there c =
    page_read c.args.index.now.pages.items c.args.index.now.end c.in-Ok.at (c.args.number / 64) c.index.result.now
    c.requires c.in-Ok.ensures c.index.ensures

pub key_in-requires-clause-full : goal.key_in-requires-clause-full
key_in-requires-clause-full c = c.requires.full (c.args.number / 64) c.index.result.now.1 (there c)

pub returns-in-Ok : goal.returns-in-Ok
returns-in-Ok c =
    c.key_in.ensures
    ∙ sym (key_there c.args.index.now.pages.items c.args.number (c.args.number / 64) c.index.result.now.1 refl (there c.before))

pub returns-in-Err : goal.returns-in-Err
returns-in-Err c =
    sym (no_key_in_gap c.args.index.now.pages.items c.args.index.now.end c.in-Err.field-0 c.args.number c.requires
    c.in-Err.ensures)
