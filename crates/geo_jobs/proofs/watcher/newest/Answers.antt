use Rattle.std.proofs.Common.{rules, arith, ◌∙◌, List, Some, ap, sym, subst}
use mathlib.Core.List.{IsPrefix}
use Rattle.geo_model.specs.declared.step.Entry.{Entry}
use Rattle.geo_jobs.specs.Views.{AllBegin}
use Rattle.geo_jobs.proofs.Watching.{fetches_as, peeps}
use Rattle.geo_jobs.proofs.watcher.newest.Goals as goal

pub load-found-requires : goal.load-found-requires
load-found-requires c = (search rules, search rules, peeps _ _ _ _ _ _ c.requires.looks.1.role)

-- nothing newer waits, so the front slot stays
pub returns-then-not-newer_waits-clause-looks : goal.returns-then-not-newer_waits-clause-looks
returns-then-not-newer_waits-clause-looks c = let l = c.requires.looks.1 in
    let t = ((c.load-found.ensures.2 c.args.front l.role).1 (search rules)).0 in (
      c.requires.looks.0,
      record {
        role = ap (λ m. m.0.role) t;
        of = ap (λ m. m.0.of) t ∙ l.of;
        low = l.low;
        list = l.list;
        slot = ap (λ m. m.1) t ∙ l.slot;
        at = l.at ∙ sym (ap (λ m. m.0.seen) t);
        its = l.its;
      },
    )

-- something newer waits, and the watcher gives its front slot for it
pub swap-found-requires : goal.swap-found-requires
swap-found-requires c = let l = c.requires.looks.1 in
    let e = (c.load-found.ensures.2 c.args.front l.role).0 (search rules) in (
      search rules,
      search rules,
      fetches_as _ _ _ _ c.args.front (Some l.list) _ (ap (λ m. m.1) e ∙ l.slot) (ap (λ m. m.0.role) e) (omega arith),
    )

pub returns-clause-own : goal.returns-clause-own
returns-clause-own c = let l = c.requires.looks.1 in
    let e = (c.load-found.ensures.2 c.args.front l.role).0 (search rules) in
    let got = (c.swap-found.ensures.2 c.args.front).1 (ap (λ m. m.0.role) e) (Some l.list, ap (λ m. m.1) e ∙ l.slot) in
    (search rules, ap (λ m. m.0.of) got.3 ∙ ap (λ m. m.0.of) e)

-- the slot that was fetched is the watcher's front now, with what was shown last
pub returns-clause-looks : goal.returns-clause-looks
returns-clause-looks c = let l = c.requires.looks.1 in
    let e = (c.load-found.ensures.2 c.args.front l.role).0 (search rules) in
    let got =
    (c.swap-found.ensures.2 c.args.front).1 (ap (λ m. m.0.role) e) (Some l.list, ap (λ m. m.1) e ∙ l.slot) in (
      c.requires.looks.0,
      record {
        role = ap (λ m. m.0.role) got.3;
        of = ap (λ m. m.0.of) got.3 ∙ (ap (λ m. m.0.of) e ∙ l.of);
        low = got.2;
        list = got.0;
        slot = ap (λ m. m.1) got.3;
        at = sym (ap (λ m. m.0.seen) got.3);
        its = got.1.of c.requires.looks.0 (ap (λ m. m.0.of) e ∙ l.of);
      },
    )

-- what waits was shown after all that the watcher saw and was told of
pub returns-clause-later : goal.returns-clause-later
returns-clause-later c = let l = c.requires.looks.1 in
    let e = (c.load-found.ensures.2 c.args.front l.role).0 (search rules) in
    let got = (c.swap-found.ensures.2 c.args.front).1 (ap (λ m. m.0.role) e) (Some l.list, ap (λ m. m.1) e ∙ l.slot) in
    let seen = subst (λ (z : List Entry × List Entry). IsPrefix z.0 z.1)
    (λ k. (ap (λ m. m.0.seen) e k, sym (ap (λ m. m.0.seen) got.3) k)) got.1.seen in (
      seen,
      subst (λ (z : List (List Entry) × List Entry). AllBegin z.0 z.1)
          (λ k. (ap (λ m. m.0.told) e k, sym (ap (λ m. m.0.seen) got.3) k)) got.1.told,
      ap (λ m. m.0.told) got.3,
    )
