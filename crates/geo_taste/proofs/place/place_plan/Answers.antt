use Rattle.std.proofs.Common.{◌∙◌, sym}
use Rattle.geo_model.specs.Acceptance.{fill_place}
use Rattle.geo_taste.specs.Members.{joined_name}
use Rattle.geo_taste.proofs.JoinLemmas.{standing_none, standing_some}
use Rattle.geo_taste.proofs.place.place_plan.Goals as goal

-- the consumer that fills the place is the one that comes next; filled so, the configuration can't stand
pub returns-in_default : goal.returns-in_default
returns-in_default c =
    rw (← c.coming_consumer-consumer.ensures.number)
    (sym (standing_none c.args.topo.now.topology
    (fill_place c.args.config.now c.args.member.now.place c.coming_consumer-consumer.result c.args.size)
    (joined_name c.args.member.now.kind c.args.member.now.geom_name) c.args.sector (sym c.in_ok-filled.ensures ∙
    c.in_default.is)))

-- the consumer that fills the place is the one that comes next; filled so, the configuration stands
pub returns : goal.returns
returns c =
    rw (
      ← c.coming_consumer-consumer.ensures.number,
      ← standing_some
          (fill_place c.args.config.now c.args.member.now.place c.coming_consumer-consumer.result c.args.size)
          c.in-Some.filled (sym c.in_ok-filled.ensures ∙ c.in-Some.is),
    ) c.plan_for.ensures
