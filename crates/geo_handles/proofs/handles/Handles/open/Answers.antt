use Rattle.std.specs.Prelude.{◌≤◌, ◌+◌, Some, false}
use Rattle.std.proofs.Common.{refl, ap, arith}
use Rattle.geo_base.proofs.Options.{on_ok}
use Rattle.geo_handles.specs.Inside.{handle_room}
use Rattle.geo_handles.proofs.RowLemmas.{rows-few}
use Rattle.geo_handles.proofs.InsideLemmas.{named-free, held-free, inside-opened}
use Rattle.geo_handles.proofs.handles.Handles.open.Goals as goal

-- there are fewer handles than numbers that were given out
pub overflow_add-self : goal.overflow_add-self
overflow_add-self c =
    let few = rows-few 1 c.self.inside.inside.table.next c.self.inside.inside.table.rows c.self.invariant.rising in
    let next = ap (λ v. v.next) c.insert-number.ensures.inserted in
    omega (arith, few, c.self.invariant.live, next, c.insert-number.ensures.bound)

-- neither the name nor the consumer was found before, so both maps lead to the new number and the old stay
pub invariant_of-self : goal.invariant_of-self
invariant_of-self c =
    let room : 1 ≤ handle_room c.self.inside.inside = rw (← c.self.view_is) at c.requires.room in
    let names = on_ok c.insert.result (c.insert.ensures.succeeds (omega arith)) c.insert.ensures.updates in
    let consumers = on_ok c.insert-2.result (c.insert-2.ensures.succeeds (omega arith))
    c.insert-2.ensures.updates in
    inside-opened c.self.inside.inside
    (record {
      names = c.insert.new.self;
      consumers = c.insert-2.new.self;
      table = c.insert-number.new.self;
      ready = c.add_child.new.self;
      live = c.self.inside.inside.live + 1;
    })
    c.self.invariant
    (record {
      actor = c.args.actor;
      name = c.args.name.now;
      consumer = Some c.args.consumer;
      grant = c.args.grant;
      dead = false;
    })
    c.args.consumer refl
    (named-free c.self.inside.inside c.self.invariant c.args.actor c.args.name.now
    (rw (← c.self.view_is) at c.requires.free))
    (held-free c.self.inside.inside c.self.invariant c.args.consumer (rw (← c.self.view_is) at c.requires.nobodys))
    c.insert-number.ensures.inserted
    (λ q. rw (← c.insert-number.ensures.number) (names.0 q))
    (λ q. rw (← c.insert-number.ensures.number, ← c.number.ensures) (consumers.0 q))
    (ap (λ v. v.parents) c.add_child.ensures.added) (ap (λ v. v.children) c.add_child.ensures.added)
    (ap (λ v. v.next_child) c.add_child.ensures.added)
    refl
