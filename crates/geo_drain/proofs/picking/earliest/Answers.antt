use Rattle.std.proofs.Common.{◌≡◌, ℕ, ◌+◌, ◌-◌, ◌<◌, length, Option, sym, ◌∙◌, ap, arith}
use Rattle.std.specs.Option.{option_map}
use Rattle.geo_core.specs.Mesh.{world_of}
use Rattle.geo_drain.specs.Earliest.{earlier_of, ready_at}
use Rattle.geo_drain.proofs.Lines.{earliest_found, earliest_from, earliest_more}
use Rattle.geo_drain.proofs.picking.earliest.Goals as goal

-- the earliest from here on is the earlier of this actor and the earliest behind it
pub loop-actor-preserved : goal.loop-actor-preserved
loop-actor-preserved c =
    let k : ℕ = c.loop-actor.actor - 1 in
    let next : k + 1 ≡ c.loop-actor.actor = omega arith in
    let below : k < length (world_of c.args.mesh.now).actors = omega arith in
    c.earlier-best.ensures
    ∙ ap (λ b. earlier_of (ready_at (world_of c.args.mesh.now) k) b)
    (c.loop-actor.invariant ∙ ap (λ n. earliest_from (world_of c.args.mesh.now) n) (sym next))
    ∙ sym (earliest_more (world_of c.args.mesh.now) k below)

pub returns-in-Some : goal.returns-in-Some
returns-in-Some c =
    let none_left : c.loop-actor.actor ≡ 0 = omega arith in
    ap (λ (o : Option (ℕ × ℕ)). option_map (λ (x : ℕ × ℕ). x.0) o) (sym c.in-Some.is)
    ∙ earliest_found (world_of c.args.mesh.now) c.loop-actor.actor c.loop-actor.best c.loop-actor.invariant none_left

pub returns-in-None : goal.returns-in-None
returns-in-None c =
    let none_left : c.loop-actor.actor ≡ 0 = omega arith in
    ap (λ (o : Option (ℕ × ℕ)). option_map (λ (x : ℕ × ℕ). x.0) o) (sym c.in-None.is)
    ∙ earliest_found (world_of c.args.mesh.now) c.loop-actor.actor c.loop-actor.best c.loop-actor.invariant none_left
