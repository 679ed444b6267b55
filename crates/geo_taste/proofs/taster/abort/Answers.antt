use Rattle.std.proofs.Common.{IfSome, Some, ◌≡◌, None, sym, ap, ◌∙◌, subst}
use Rattle.geo_model.specs.Topology.{Consumer, consumer_at}
use Rattle.geo_mesh.specs.Topo.{without_consumer}
use Rattle.geo_taste.specs.Taster.{IsSettled}
use Rattle.geo_taste.proofs.Coming.{detached_there, goer_settled, gone_is}
use Rattle.geo_taste.proofs.Reading.{held_idle, taster_found}
use Rattle.geo_taste.proofs.taster.abort.Goals as goal

-- the taste's consumer stands and was just detached
pub destroy_consumer-requires : goal.destroy_consumer-requires
destroy_consumer-requires c =
    subst (λ u. IfSome (consumer_at u c.holder-consumer.result) (λ (x : Consumer). x.provider ≡ None))
    (sym (ap (λ v. v.topology) c.detach.ensures))
    (detached_there c.args.topo.now c.holder-consumer.ensures.sound c.requires.settled c.holder-consumer.result
    c.requires.tasting.tasting.consumer
    (ap (consumer_at c.args.topo.now.topology) c.holder-consumer.ensures.number
    ∙ taster_found c.args.topo.now.topology c.holder-consumer.ensures.sound c.args.taste c.requires.tasting.tasting))

-- a consumer that is detached and then destroyed is gone, just as if it were destroyed at once
pub returns-clause-gone : goal.returns-clause-gone
returns-clause-gone c =
    c.destroy_consumer.ensures
    ∙ ap (λ v. without_consumer v c.holder-consumer.result) c.detach.ensures
    ∙ gone_is c.args.topo.now c.holder-consumer.result
    ∙ ap (without_consumer c.args.topo.now) c.holder-consumer.ensures.number

-- the read isn't out, so the consumer holds nothing, and all counts are right without it
pub returns-clause-settled : goal.returns-clause-settled
returns-clause-settled c =
    subst IsSettled (sym (returns-clause-gone c))
    (goer_settled c.args.topo.now c.holder-consumer.ensures.sound c.requires.settled c.args.taste.consumer
    (c.requires.tasting.holds ∙ ap (λ a. Some a) (held_idle c.args.taste c.requires.idle)))
