use Rattle.std.proofs.Common.{◌≡◌, ◌+◌, ◌∙◌, [], append-nil, refl, subst, sym}
use Rattle.geo_jobs.specs.Passes.{MeshPass}
use Rattle.geo_jobs.specs.Started.{IsFirst}
use Rattle.geo_jobs.proofs.RunStarting.{after, after_four, after_more, next_after, push_next}
use Rattle.geo_jobs.proofs.start.start_others.Goals as goal

-- five workers more, each behind those before, with the pass that comes next
pub returns-clause-items : goal.returns-clause-items
returns-clause-items g c =
    let first = c.args.first.now in
    let ws = c.args.workers.now.items in
    let made = after_four first c.next_pass.ensures.first c.next_pass-pass.ensures.first c.next_pass-2.ensures.first
    c.next_pass-3.ensures.first in
    push_next ws _ c.hire-4.new.workers.items c.hire-5.new.workers.items
    (push_next ws _ c.hire-3.new.workers.items c.hire-4.new.workers.items
    (push_next ws _ c.hire-2.new.workers.items c.hire-3.new.workers.items
    (push_next ws _ c.hire.new.workers.items c.hire-2.new.workers.items
    (push_next ws [] ws c.hire.new.workers.items (sym (append-nil ws)) c.hire.ensures.items
    (c.events.ensures.pass ∙ c.next_pass.ensures.pass) c.events.ensures.role)
    c.hire-2.ensures.items
    (c.down.ensures.pass ∙ c.next_pass-pass.ensures.pass
    ∙ next_after first 1 c.next_pass.new.first c.next_pass.ensures.first)
    c.down.ensures.role)
    c.hire-3.ensures.items
    (c.up.ensures.pass ∙ c.next_pass-2.ensures.pass ∙ next_after first 2 c.next_pass-pass.new.first made.0)
    c.up.ensures.role)
    c.hire-4.ensures.items
    (c.disk.ensures.pass ∙ c.next_pass-3.ensures.pass ∙ next_after first 3 c.next_pass-2.new.first made.1)
    c.disk.ensures.role)
    c.hire-5.ensures.items
    (c.disk-2.ensures.pass ∙ c.next_pass-4.ensures.pass ∙ next_after first 4 c.next_pass-3.new.first made.2)
    c.disk-2.ensures.role

-- five passes more were made of the first, which is the same else
pub returns-clause-first : goal.returns-clause-first
returns-clause-first g c =
    let first = c.args.first.now in
    let is = c.requires.first in
    let made = after_four first c.next_pass.ensures.first c.next_pass-pass.ensures.first c.next_pass-2.ensures.first
    c.next_pass-3.ensures.first in
    let five : c.next_pass-4.new.first ≡ after first 5 =
    after_more first 4 c.next_pass-3.new.first c.next_pass-4.new.first made.2 c.next_pass-4.ensures.first in
    subst (λ (p : MeshPass). IsFirst c.args.yard.now (first.made + 5) p) (sym five) (record {
      of_yard = record { yard = is.of_yard.yard; start = is.of_yard.start };
      number = is.number;
      own = is.own;
      made = refl;
    })
