use Rattle.std.proofs.Common.{rules, ◌≡◌, ◌∙◌, List, ◌∷◌, Some, IfOk, ap, sym, subst}
use Rattle.atomic_table.specs.Table.{rest}
use Rattle.geo_model.specs.declared.listing.GeomLine.{GeomLine}
use Rattle.geo_jobs.specs.declared.shown.Shown.{Shown}
use Rattle.geo_jobs.specs.Views.{AreOnePass}
use Rattle.geo_jobs.proofs.Listed.{listed}
use Rattle.geo_jobs.proofs.Moves.{carried_same}
use Rattle.geo_jobs.proofs.watcher.Watcher.look.Goals as goal

-- the watcher has its front slot alone, so it finds its list there
pub exchange-requires : goal.exchange-requires
exchange-requires c = let l = c.newest-self-inside.ensures.looks.1 in (
  search rules,
  (Some l.list, l.slot ∙ ap (λ z. (c.newest-self-inside.result, Some l.list) ∷ z) (sym (ap rest l.slot))),
)

-- the list that was taken out is back in the front slot
pub invariant_of-self : goal.invariant_of-self
invariant_of-self c = let o = c.newest-self-inside.ensures.looks.0 in let l = c.newest-self-inside.ensures.looks.1 in
    let out = c.exchange.ensures in let back = c.exchange-2.ensures.3 in
    let same = carried_same l.list l.slot c.exchange.ensures.2 c.in-Some.is in (
      search rules,
      search rules,
      search rules,
      (
        o,
        record {
          role = ap (λ m. m.0.role) back ∙ (ap (λ m. m.0.role) out.3 ∙ l.role);
          of = ap (λ m. m.0.of) back ∙ (ap (λ m. m.0.of) out.3 ∙ l.of);
          low = l.low;
          list = c.in-Some.shown;
          slot = ap (λ m. m.1) back
              ∙ ap (λ z. (c.newest-self-inside.result, Some c.in-Some.shown) ∷ z)
              (ap rest (ap (λ m. m.1) out.3) ∙ ap rest l.slot);
          at = ap (λ (x : Shown). x.at.value.seen) (sym same)
              ∙ (l.at ∙ sym (ap (λ m. m.0.seen) back ∙ ap (λ m. m.0.seen) out.3));
          its = subst (λ (x : Shown). AreOnePass o x.at.value) same l.its;
        },
      ),
    )

-- the list tells by which pass, at which moment, it was shown
pub returns-clause-moment : goal.returns-clause-moment
returns-clause-moment c =
    let o = c.newest-self-inside.ensures.looks.0 in let l = c.newest-self-inside.ensures.looks.1 in
    let same = carried_same l.list l.slot c.exchange.ensures.2 c.in-Some.is in (
      c.in-Some.shown.at.value,
      record {
        of = (
          o,
          ap (λ m. m.0.of) c.exchange-2.ensures.3 ∙ (ap (λ m. m.0.of) c.exchange.ensures.3 ∙ l.of),
          subst (λ (x : Shown). AreOnePass o x.at.value) same l.its,
        );
        seen = ap (λ (x : Shown). x.at.value.seen) (sym same)
            ∙ (l.at ∙ sym (ap (λ m. m.0.seen) c.exchange-2.ensures.3 ∙ ap (λ m. m.0.seen) c.exchange.ensures.3));
        good = c.in-Some.shown.good;
      },
    )

-- the list in the slot is the mesh after what the pass had seen, and this is its copy
pub returns-clause-list : goal.returns-clause-list
returns-clause-list c =
    let l = c.newest-self-inside.ensures.looks.1 in
    let same = carried_same l.list l.slot c.exchange.ensures.2 c.in-Some.is in
    let now = listed _ _ c.newest-self-inside.ensures.looks.0 c.in-Some.shown.at.value
    (ap (λ m. m.0.of) c.exchange-2.ensures.3 ∙ (ap (λ m. m.0.of) c.exchange.ensures.3 ∙ l.of))
    (subst (λ (x : Shown). AreOnePass c.newest-self-inside.ensures.looks.0 x.at.value) same l.its)
    (ap (λ (x : Shown). x.at.value.seen) (sym same)
    ∙ (l.at ∙ sym (ap (λ m. m.0.seen) c.exchange-2.ensures.3 ∙ ap (λ m. m.0.seen) c.exchange.ensures.3))) in
    subst (λ (z : List GeomLine). IfOk c.copy-list.result (λ lines. lines ≡ z)) (c.in-Some.shown.is_listing ∙ now)
    c.copy-list.ensures
