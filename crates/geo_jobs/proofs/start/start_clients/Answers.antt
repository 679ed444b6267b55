use Rattle.std.proofs.Common.{rules, ◌≡◌, ◌+◌, ◌∷◌, ◌∙◌, [], ap, arith, length, refl, subst, sym}
use Rattle.std.proofs.lemmas.List.{length-append}
use Rattle.geo_lock.proofs.Prefixes.{prefix_self, prefix_trans}
use Rattle.geo_serve.specs.Drives.{drive_view}
use Rattle.geo_lane.specs.LanePass.{LanePassView}
use Rattle.geo_jobs.specs.Started.{HasBegun, IsFirst, beginning}
use Rattle.geo_jobs.proofs.RunStarting.{begun_push}
use Rattle.geo_jobs.proofs.start.start_clients.Goals as goal

-- those that have begun are the clients of the first actors, so the next actor's is to begin
pub loop-actor-init : goal.loop-actor-init
loop-actor-init g c = (
  c.requires.begun,
  prefix_self c.args.workers.now.items,
  (let is : length c.args.workers.now.items ≡ c.len-actor.result = search rules in is),
  c.args.workers.now.ok.0,
  refl,
)

-- one pass of the lane was split off for each client so far, and there are few actors
pub putter-puts-requires : goal.putter-puts-requires
putter-puts-requires g c =
    let down = c.loop-actor.invariant.0.down_is in
    let split = ap (λ (p : LanePassView). p.split) down in
    record {
      own = ap (λ (p : LanePassView). p.lane) down;
      first = ap (λ (p : LanePassView). p.sender) down;
      room = omega (arith, split, c.loop-actor.invariant.2, c.loop-actor-test.true, c.requires.few);
    }

-- passes made so far are those of the yard, one for each client and the first
pub next_pass-pass-requires-clause-first : goal.next_pass-pass-requires-clause-first
next_pass-pass-requires-clause-first g c =
    let is = c.loop-actor.invariant.0.first_is in
    record { of_yard = is.of_yard; number = is.number; own = is.own; made = refl }

pub next_pass-pass-requires-clause-room : goal.next_pass-pass-requires-clause-room
next_pass-pass-requires-clause-room g c =
    let made = c.loop-actor.invariant.0.first_is.made in
    let long = c.loop-actor.invariant.2 in
    let lt = c.loop-actor-test.true in
    let few = c.requires.few in
    omega (arith, made, long, lt, few)

-- there is room for a worker for each actor, and this actor is one more
pub hire-requires-clause-room : goal.hire-requires-clause-room
hire-requires-clause-room g c =
    let inv = c.loop-actor.invariant in
    let long = inv.2 in
    let len = inv.3 in
    let room = inv.4 in
    let lt = c.loop-actor-test.true in
    let fits = c.requires.room in
    omega (arith, long, len, room, lt, fits)

-- the client of the next actor begins with the next pass, behind the others
pub loop-actor-preserved : goal.loop-actor-preserved
loop-actor-preserved g c =
    let y = c.args.yard.now in
    let lanes = c.args.lanes.now in
    let seen = drive_view g.D.Disk.view in
    let actors = c.args.actors in
    let ws = c.loop-actor.workers.items in
    let inv = c.loop-actor.invariant in
    let long = inv.2 in
    let one = beginning c.client.result.pass c.client.result.role in
    let counts = ap (λ l. length l) c.hire.ensures.items in
    let one_more = length-append ws (one ∷ []) in (
      subst (λ l. HasBegun y lanes seen actors c.next_pass-pass.new.first c.putter-puts.new.taker l)
          (sym c.hire.ensures.items)
          (begun_push y lanes seen actors c.loop-actor.first c.next_pass-pass.new.first c.loop-actor.down
          c.putter-puts.new.taker c.putter-puts.result ws c.loop-actor.actor c.client.result.pass c.client.result.role _
          inv.0 long c.loop-actor-test.true (c.client.ensures.pass ∙ c.next_pass-pass.ensures.pass)
          c.next_pass-pass.ensures.first c.putter-puts.ensures.new c.putter-puts.ensures.same c.client.ensures.role tt),
      prefix_trans c.args.workers.now.items ws c.hire.new.workers.items inv.1 (one ∷ [], sym c.hire.ensures.items),
      omega (arith, counts, one_more, long),
      c.hire.new.workers.ok.0,
      c.hire.ensures.room ∙ inv.4,
    )

pub returns-clause-first : goal.returns-clause-first
returns-clause-first g c =
    let over = c.loop-actor-test.false in
    let within = c.loop-actor.auto.actor-end in
    let long = c.loop-actor.invariant.2 in
    subst (λ n. IsFirst c.args.yard.now (n + 1) c.loop-actor.first) (omega (arith, over, within, long))
    c.loop-actor.invariant.0.first_is

pub returns-clause-started : goal.returns-clause-started
returns-clause-started g c = c.loop-actor.invariant.0.started
