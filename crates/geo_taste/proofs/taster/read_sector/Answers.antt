use Rattle.std.proofs.Common.{Some, None, refl, sym, ap, ◌∙◌, ◌+◌, subst}
use Rattle.geo_model.specs.declared.class.Judged.TheVariants.{Read, Next}
use Rattle.geo_model.specs.Demand.{one_read}
use Rattle.geo_model.specs.World.{ReadOut, Taste}
use Rattle.geo_access.specs.Access.{granted_view}
use Rattle.geo_class.specs.Taste.{ended}
use Rattle.geo_taste.specs.Taster.{held_by_taste, IsTasteOf}
use Rattle.geo_taste.proofs.Asking.{read_told, read_made}
use Rattle.geo_taste.proofs.Reading.{given_tasting, granted_quietly, refusal_told, settled_granted, taster_reads}
use Rattle.geo_taste.proofs.Saying.{ended_rest, rest_tasting}
use Rattle.geo_taste.proofs.taster.read_sector.Goals as goal

-- a read writes nothing, so no write count leaves zero and no note is set
pub returns-in-Ok-clause-topo : goal.returns-in-Ok-clause-topo
returns-in-Ok-clause-topo g c =
    c.in-Ok.ensures.granted
    ∙ ap (λ n. granted_view c.args.topo.now n one_read) c.holder-consumer.ensures.number
    ∙ granted_quietly c.args.topo.now c.args.taste.now.consumer c.requires.settled.quiet
    (taster_reads c.args.topo.now c.args.taste.now c.requires.tasting) one_read refl

-- for both answers: the grant is refused just where the model refuses it, and that ends the class
pub returns-in-Ok-clause-judged : goal.returns-in-Ok-clause-judged
returns-in-Ok-clause-judged g c events =
    read_told c.args.topo.now events c.args.taste.now c.args.kind c.args.sector None
    (refusal_told c.args.topo.now c.args.taste.now c.holder-consumer.result c.holder-consumer.ensures.number
    c.holder-consumer.ensures.place ∙ c.in-Ok.ensures.answer)
    ∙ read_made c.args.topo.now events c.grant.new.topo
    (record c.args.taste.now { asked = ReadOut c.args.kind; reads = c.args.taste.now.reads + 1 }) c.note_read.new.self
    (Read c.args.sector) (ap (λ v. v.topology) (returns-in-Ok-clause-topo g c)) c.note_read.ensures

pub returns-in-Ok-clause-settled : goal.returns-in-Ok-clause-settled
returns-in-Ok-clause-settled g c =
    settled_granted c.args.topo.now c.grant.new.topo c.args.taste.now.consumer one_read
    (returns-in-Ok-clause-topo g c) c.grant.ensures.counted c.requires.settled

pub returns-in-Err-clause-judged : goal.returns-in-Err-clause-judged
returns-in-Err-clause-judged g c events =
    read_told c.args.topo.now events c.args.taste.now c.args.kind c.args.sector (Some _)
    (refusal_told c.args.topo.now c.args.taste.now c.holder-consumer.result c.holder-consumer.ensures.number
    c.holder-consumer.ensures.place ∙ c.in-Err.ensures.answer)
    ∙ read_made c.args.topo.now events c.grant.new.topo (ended c.args.taste.now) c.end_class.new.self Next
    (ap (λ v. v.topology) c.in-Err.ensures.same) c.end_class.ensures

-- for both answers: the consumer holds what the taste does, one read while it is out and else nothing
pub returns-in-Ok-clause-tasting : goal.returns-in-Ok-clause-tasting
returns-in-Ok-clause-tasting g c =
    let same = c.note_read.ensures in
    given_tasting c.args.topo.now c.holder-consumer.ensures.sound c.args.taste.now c.requires.tasting one_read
    c.grant.new.topo (returns-in-Ok-clause-topo g c) c.note_read.new.self (ap (λ (z : Taste). z.consumer) same)
    (ap (λ (z : Taste). z.provider) same) (ap (λ (z : Taste). held_by_taste z) same)

pub returns-in-Err-clause-tasting : goal.returns-in-Err-clause-tasting
returns-in-Err-clause-tasting g c =
    subst (λ z. IsTasteOf c.grant.new.topo z) (sym c.end_class.ensures)
    (subst (λ v. IsTasteOf v (ended c.args.taste.now)) (sym c.in-Err.ensures.same)
    (rest_tasting c.args.topo.now c.args.taste.now (ended c.args.taste.now) c.requires.idle
    (ended_rest c.args.taste.now) c.requires.tasting))
