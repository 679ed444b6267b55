use Rattle.std.proofs.Common.{◌≡◌, ◌∙◌, ◌/◌, None, ap, sym, subst, arith}
use Rattle.std.specs.Prelude.{slice_set}
use Rattle.std.specs.List.{remove}
use Rattle.geo_slots.specs.Pages.{ArePages, AreWith}
use Rattle.geo_slots.proofs.PlaceLemmas.{place_in}
use Rattle.geo_slots.proofs.KeyLemmas.{keys_cleared, pages_cleared, read_cleared, pages_dropped, keys_dropped}
use Rattle.geo_slots.proofs.index.clear.Goals as goal
use Rattle.geo_slots.proofs.index.clear.Goals.{Joined-remove}

pub index_mut-requires : goal.index_mut-requires
index_mut-requires c =
    let within = place_in c.args.index.now.pages.items c.args.at (c.args.number / 64) c.requires.there in
    omega (arith, within, c.args.index.now.pages.ok.0)

-- the page is the next number's or behind it
pub returns-then-number-next-clause-pages : goal.returns-then-number-next-clause-pages
returns-then-number-next-clause-pages c =
    pages_cleared c.args.index.now.pages.items c.args.index.now.end c.args.next c.args.number c.args.at
    c.index_mut.result.now c.take_key.new.page c.requires.pages c.requires.there c.index_mut.ensures.value
    c.take_key.ensures (λ before. absurd (omega (arith, before, c.if-number-next.true)))

pub returns-then-number-next-clause-keys : goal.returns-then-number-next-clause-keys
returns-then-number-next-clause-keys c =
    keys_cleared c.args.index.now.pages.items c.args.index.now.end c.args.next c.args.number c.args.at
    c.index_mut.result.now c.take_key.new.page c.requires.pages c.requires.there c.index_mut.ensures.value
    c.take_key.ensures

-- the page has a key left
pub returns-then-index-ne0-clause-pages : goal.returns-then-index-ne0-clause-pages
returns-then-index-ne0-clause-pages c =
    let now = read_cleared c.args.index.now.pages.items c.args.index.now.end c.args.next c.args.number c.args.at
    c.index_mut.result.now c.take_key.new.page c.requires.pages c.requires.there c.index_mut.ensures.value
    c.take_key.ensures c.index.result.now c.index.ensures in
    pages_cleared c.args.index.now.pages.items c.args.index.now.end c.args.next c.args.number c.args.at
    c.index_mut.result.now c.take_key.new.page c.requires.pages c.requires.there c.index_mut.ensures.value
    c.take_key.ensures (λ before none. c.if-index-ne0.true (ap (λ p. p.live) now ∙ none))

pub returns-then-index-ne0-clause-keys : goal.returns-then-index-ne0-clause-keys
returns-then-index-ne0-clause-keys c =
    keys_cleared c.args.index.now.pages.items c.args.index.now.end c.args.next c.args.number c.args.at
    c.index_mut.result.now c.take_key.new.page c.requires.pages c.requires.there c.index_mut.ensures.value
    c.take_key.ensures

-- the page has none left, and goes
gone : (c : Joined-remove) → c.remove.new.self.items
    ≡ remove (slice_set c.args.index.now.pages.items c.args.at (c.index_mut.result.now.0, c.take_key.new.page)) c.args.at
gone c =
    let within = place_in c.args.index.now.pages.items c.args.at (c.args.number / 64) c.requires.there in
    let some = c.remove.ensures.succeeds c.index.result.now (omega (arith, within, c.args.index.now.pages.ok.0)) in
    rw some at c.remove.ensures.items

pub returns-clause-pages : goal.returns-clause-pages
returns-clause-pages c =
    let now = read_cleared c.args.index.now.pages.items c.args.index.now.end c.args.next c.args.number c.args.at
    c.index_mut.result.now c.take_key.new.page c.requires.pages c.requires.there c.index_mut.ensures.value
    c.take_key.ensures c.index.result.now c.index.ensures in
    subst (λ pages. ArePages pages c.args.index.now.end c.args.next) (sym (gone c))
    (pages_dropped c.args.index.now.pages.items c.args.index.now.end c.args.next c.args.number c.args.at
    c.index_mut.result.now c.take_key.new.page c.requires.pages c.requires.there c.index_mut.ensures.value
    c.take_key.ensures (ap (λ p. p.live) (sym now) ∙ c.if-index-ne0.false) c.if-number-next.false)

pub returns-clause-keys : goal.returns-clause-keys
returns-clause-keys c =
    let now = read_cleared c.args.index.now.pages.items c.args.index.now.end c.args.next c.args.number c.args.at
    c.index_mut.result.now c.take_key.new.page c.requires.pages c.requires.there c.index_mut.ensures.value
    c.take_key.ensures c.index.result.now c.index.ensures in
    subst (AreWith c.args.index.now.pages.items c.args.number None) (sym (gone c))
    (keys_dropped c.args.index.now.pages.items c.args.index.now.end c.args.next c.args.number c.args.at
    c.index_mut.result.now c.take_key.new.page c.requires.pages c.requires.there c.index_mut.ensures.value
    c.take_key.ensures (ap (λ p. p.live) (sym now) ∙ c.if-index-ne0.false))
