use Rattle.std.proofs.Common.{◌≡◌, ◌+◌, ◌/◌, Some, sym, subst, arith}
use Rattle.std.specs.Prelude.{slice_set}
use Rattle.geo_slots.specs.Slots.{value_at, with_value}
use Rattle.geo_slots.specs.Pages.{ArePages, AreWith}
use Rattle.geo_slots.proofs.PlaceLemmas.{place_in}
use Rattle.geo_slots.proofs.KeyLemmas.{no_page_in_gap, no_value, page_read, page_set, with_key, pages_insert}
use Rattle.geo_slots.proofs.index.insert.Goals as goal

-- room was made for the next number, so it has a page
pub unreachable-requires : goal.unreachable-requires
unreachable-requires c =
    let a = c.requires.pages in
    no_value _ (no_page_in_gap c.args.index.now.pages.items c.args.index.now.end c.in_default.field-0 (c.args.next / 64)
    a.in_order c.in_default.ensures) (a.there (c.args.next / 64) (omega arith) (omega (arith, c.requires.room)))

pub index_mut-requires : goal.index_mut-requires
index_mut-requires c =
    let within = place_in c.args.index.now.pages.items c.in-Ok.at (c.args.next / 64) c.in-Ok.ensures in
    omega (arith, within, c.args.index.now.pages.ok.0)

there : (c : goal.After-set_key-arg-1)
    → value_at c.args.index.now.pages.items (c.args.next / 64) ≡ Some c.index_mut.result.now.1
there c =
    page_read c.args.index.now.pages.items c.args.index.now.end c.in-Ok.at (c.args.next / 64) c.index_mut.result.now
    c.requires.pages.in_order c.in-Ok.ensures c.index_mut.ensures.value

changed : (c : goal.After-index-1) → slice_set c.args.index.now.pages.items c.in-Ok.at
    (c.index_mut.result.now.0, c.set_key.new.page)
    ≡ with_value c.args.index.now.pages.items (c.args.next / 64) c.set_key.new.page
changed c =
    page_set c.args.index.now.pages.items c.args.index.now.end c.in-Ok.at (c.args.next / 64) c.index_mut.result.now
    c.set_key.new.page c.requires.pages.in_order c.in-Ok.ensures c.index_mut.ensures.value

pub set_key-requires-clause-full : goal.set_key-requires-clause-full
set_key-requires-clause-full c =
    c.requires.pages.in_order.full (c.args.next / 64) c.index_mut.result.now.1 (there c)

pub returns-clause-pages : goal.returns-clause-pages
returns-clause-pages c =
    subst (λ pages. ArePages pages c.args.index.now.end (c.args.next + 1)) (sym (changed c))
    (pages_insert c.args.index.now.pages.items c.args.index.now.end c.args.next c.args.key c.index_mut.result.now.1
    c.set_key.new.page c.requires.pages c.requires.room (there c.before.before) c.set_key.ensures)

pub returns-clause-keys : goal.returns-clause-keys
returns-clause-keys c =
    subst (AreWith c.args.index.now.pages.items c.args.next (Some c.args.key)) (sym (changed c))
    (with_key c.args.index.now.pages.items c.args.next (Some c.args.key) c.index_mut.result.now.1 c.set_key.new.page
    (there c.before.before) c.set_key.ensures)
