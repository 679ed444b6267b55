use Rattle.std.proofs.Common.{sym, ap, ◌∙◌}
use Rattle.geo_model.specs.Tasting.{go_on}
use Rattle.geo_access.specs.Access.{granted_by}
use Rattle.geo_class.specs.Taste.{asked_of}
use Rattle.geo_taste.specs.Taster.{queued}
use Rattle.geo_taste.proofs.Saying.{said_back}
use Rattle.geo_taste.proofs.judge.say_on.Goals as goal

-- the taste waits for just that sector, and whether its read is granted doesn't hang on the events
pub returns-in-NextSector-clause-said : goal.returns-in-NextSector-clause-said
returns-in-NextSector-clause-said g c p facts events =
    ap (go_on (granted_by c.args.topo.now) (queued c.args.topo.now events) c.args.taste.now p)
    (sym c.asked.ensures ∙ ap asked_of c.in-NextSector.is)
    ∙ c.read_sector.ensures.judged events

-- what is back was weighed by the provider's facts, and weighing it changes the taste alone
pub returns-in-ReadBack-clause-said : goal.returns-in-ReadBack-clause-said
returns-in-ReadBack-clause-said g c p facts =
    said_back c.args.topo.now c.args.taste.now p c.take_result.new.taste c.in-ReadBack.kind c.in-ReadBack.got
    c.take_result.result (sym c.asked.ensures ∙ ap asked_of c.in-ReadBack.is)
    (λ events. c.take_result.ensures.taken (granted_by c.args.topo.now) (queued c.args.topo.now events) p
    c.in-ReadBack.kind c.in-ReadBack.got (sym c.asked.ensures ∙ ap asked_of c.in-ReadBack.is) facts)

pub returns-in-ReadBack-clause-topo : goal.returns-in-ReadBack-clause-topo
returns-in-ReadBack-clause-topo g c = c.take_result.ensures.kept c.args.topo.now c.args.taste.now.consumer

pub returns-in-ReadBack-clause-tasting : goal.returns-in-ReadBack-clause-tasting
returns-in-ReadBack-clause-tasting g c =
    c.take_result.ensures.tasting c.args.topo.now c.in-ReadBack.kind c.in-ReadBack.got
    (sym c.asked.ensures ∙ ap asked_of c.in-ReadBack.is) c.requires.tasting
