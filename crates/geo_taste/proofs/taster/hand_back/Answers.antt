use Rattle.std.proofs.Common.{ap, ◌∙◌}
use Rattle.geo_model.specs.Demand.{no_counts}
use Rattle.geo_access.specs.Access.{released_view}
use Rattle.geo_model.specs.World.{Taste, is_read_out}
use Rattle.geo_taste.proofs.Reading.{given_tasting, held_idle, released_quietly, settled_granted, taster_reads}
use Rattle.geo_taste.proofs.Saying.{back_idle}
use Rattle.geo_taste.proofs.taster.hand_back.Goals as goal

-- the taste held one read and wrote nothing, so no write count comes to zero and no note is set
pub returns-clause-topo : goal.returns-clause-topo
returns-clause-topo g c =
    c.release.ensures.released
    ∙ ap (released_view c.args.topo.now) c.holder-consumer.ensures.number
    ∙ released_quietly c.args.topo.now c.args.taste.now.consumer c.requires.settled.quiet
    (taster_reads c.args.topo.now c.args.taste.now c.requires.tasting)

-- the release keeps the counts, sets no note here and detaches nothing
pub returns-clause-settled : goal.returns-clause-settled
returns-clause-settled g c =
    settled_granted c.args.topo.now c.release.new.topo c.args.taste.now.consumer no_counts (returns-clause-topo g c)
    c.release.ensures.counted c.requires.settled

-- a taste whose read is back holds nothing, and nothing is what its consumer was left
pub returns-clause-tasting : goal.returns-clause-tasting
returns-clause-tasting g c =
    let same = c.take_back.ensures in
    given_tasting c.args.topo.now c.holder-consumer.ensures.sound c.args.taste.now c.requires.tasting no_counts
    c.release.new.topo (returns-clause-topo g c) c.take_back.new.self (ap (λ (z : Taste). z.consumer) same)
    (ap (λ (z : Taste). z.provider) same)
    (held_idle c.take_back.new.self
    (ap (λ (z : Taste). is_read_out z.asked) same ∙ back_idle c.args.got c.args.taste.now.asked))
