-- What the publisher was told of begins what it shows.
use Rattle.std.proofs.Common.{rules, ◌≡◌, ◌∙◌, List, ap, refl, sym, subst}
use mathlib.Core.List.{IsPrefix}
use Rattle.geo_model.specs.declared.step.Entry.{Entry}
use Rattle.geo_jobs.specs.Views.{AllBegin}
use Rattle.geo_jobs.proofs.Meeting.{learns}
use Rattle.geo_jobs.proofs.Publishing.{agrees}
use Rattle.geo_jobs.proofs.publisher.Publisher.learn.Goals as goal

pub join_seat-requires : goal.join_seat-requires
join_seat-requires c = (search rules, search rules, search rules, search rules, learns _ _ _ _ _)

pub load-requires : goal.load-requires
load-requires c =
    let i = c.self.invariant.3.1 in
    (search rules, search rules, agrees _ _ _ _ _ _ (ap (λ m. m.0.role) c.join_seat.ensures.2 ∙ i.role))

pub returns-clause-begins : goal.returns-clause-begins
returns-clause-begins c =
    let i = c.self.invariant.3.1 in
    let j = c.join_seat.ensures.2 in
    let all = (c.load.ensures.2 c.self.inside.back (ap (λ m. m.0.role) j ∙ i.role)).1 in
    let begins = subst (λ (z : List (List Entry) × List Entry). AllBegin z.0 z.1)
    (λ k. (ap (λ m. m.0.told) j k, ap (λ m. m.0.seen) j k)) all 0 _ refl in
    subst (λ (z : List Entry × List Entry). IsPrefix z.0 z.1)
    (λ k. (c.into_note-note.ensures.2 k, ap (λ p. p.stands) c.self.view_is k)) begins
