use Rattle.std.proofs.Common.{rules, refl, ◌∙◌, [], ◌∷◌, List, Some, ap, sym, subst}
use mathlib.Core.List.{IsPrefix}
use Rattle.geo_model.specs.declared.step.Entry.{Entry}
use Rattle.geo_jobs.specs.Views.{AllBegin}
use Rattle.geo_jobs.proofs.Meeting.{meets, opens}
use Rattle.geo_jobs.proofs.Publishing.{takes_back_as}
use Rattle.geo_jobs.proofs.Watching.{comes_as}
use Rattle.geo_jobs.proofs.publisher.view_create.Goals as goal

-- the first slot has a list of the pass that the view is about
pub new-requires : goal.new-requires
new-requires g c = let l = c.in_ok-slots.ensures in
    rw (l.are) (opens _ l.list l.second l.third (l.at ∙ sym c.of-about.ensures))

-- the publisher is alone as yet, so the watcher may come
pub split_seat-other-requires : goal.split_seat-other-requires
split_seat-other-requires g c =
    (search rules, search rules, meets _ _ _ (ap (λ m. m.0.role) c.in-Ok.ensures.ok.4))

-- the publisher holds no slot yet, so it takes its own
pub load-requires : goal.load-requires
load-requires g c = let s = c.split_seat-other.ensures in (
  search rules,
  search rules,
  takes_back_as _ _ _ _ 1 (ap (λ m. m.1) s.2 ∙ ap (λ m. m.1) c.in-Ok.ensures.ok.4) (ap (λ m. m.0.role) s.2),
)

-- the watcher has come and holds no slot yet, so it fetches its first list
pub swap-found-requires : goal.swap-found-requires
swap-found-requires g c = let s = c.split_seat-other.ensures in
    (search rules, search rules, comes_as _ _ _ _ 2 4 (ap (λ m. m.1) s.4) (ap (λ m. m.0.role) s.4) refl)

-- the slot that the watcher fetched has a list of the pass that the view is about
pub invariant_of-watcher : goal.invariant_of-watcher
invariant_of-watcher g c = let s = c.split_seat-other.ensures in
    let of = ap (λ m. m.0.of) s.4 ∙ ap (λ m. m.0.of) c.in-Ok.ensures.ok.4 in
    let got = (c.swap-found.ensures.2 2).0 (ap (λ m. m.0.role) s.4) (ap (λ m. m.1) s.4) in (
      search rules,
      search rules,
      search rules,
      (
        c.of-about.result.value,
        record {
          role = ap (λ m. m.0.role) got.3;
          of = ap (λ m. m.0.of) got.3 ∙ of;
          low = got.2;
          list = got.0;
          slot = ap (λ m. m.1) got.3;
          at = sym (ap (λ m. m.0.seen) got.3);
          its = got.1.of c.of-about.result.value of;
        },
      ),
    )

-- the watcher that comes is told of what was shown first, and what it fetches begins with all that it was told of
pub returns-clause-watcher : goal.returns-clause-watcher
returns-clause-watcher g c = let s = c.split_seat-other.ensures in let ok = c.in-Ok.ensures.ok.4 in
    let of = ap (λ m. m.0.of) s.4 ∙ ap (λ m. m.0.of) ok in
    let got = (c.swap-found.ensures.2 2).0 (ap (λ m. m.0.role) s.4) (ap (λ m. m.1) s.4) in
    let told = ap (λ m. m.0.told) s.4 ∙ (ap (λ m. m.0.seen ∷ []) ok ∙ ap (λ p. p.seen ∷ []) c.of-about.ensures) in (
      search rules,
      ap (λ m. m.0.of) got.3 ∙ (of ∙ ap (λ p. Some p) c.of-about.ensures),
      subst (λ (z : List Entry). IsPrefix c.args.pass.now.seen z) (sym (ap (λ m. m.0.seen) got.3))
          (subst (λ (z : List (List Entry)). AllBegin z got.0.at.value.seen) told got.1.told 0 c.args.pass.now.seen
          refl),
      ap (λ m. m.0.told) got.3,
    )
