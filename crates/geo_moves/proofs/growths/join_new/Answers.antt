use Rattle.std.specs.Prelude.{Some}
use Rattle.std.proofs.Common.{ap, sym, ◌∙◌}
use Rattle.geo_moves.proofs.Appending.{comer_bound, comer_counted, comer_free, comer_joined, comer_loose, comer_refusal, comer_used}
use Rattle.geo_moves.proofs.growths.join_new.Goals as goal

-- a new consumer wants nothing, so all counts stay right
pub join-requires-clause-counted : goal.join-requires-clause-counted
join-requires-clause-counted g c =
    comer_counted c.args.topo.now c.new_consumer.new.self c.args.geom c.in_ok-cons.cons c.in_ok-cons.ensures.added
    c.in_ok-cons.ensures.number c.in_ok-cons.ensures.sound c.requires.counted

-- it is attached to nothing yet, and no request is out through it
pub join-requires-clause-loose : goal.join-requires-clause-loose
join-requires-clause-loose g c =
    comer_loose c.args.topo.now c.new_consumer.new.self c.args.geom c.in_ok-cons.cons c.in_ok-cons.ensures.added
    c.in_ok-cons.ensures.number c.in_ok-cons.ensures.sound c.requires.unknown

-- the join that was refused left all as it was, so the consumer is still attached to nothing
pub destroy_consumer-requires : goal.destroy_consumer-requires
destroy_consumer-requires g c =
    comer_free c.args.topo.now c.new_consumer.new.self c.args.geom c.in_ok-cons.cons c.in_ok-cons.ensures.added
    c.in_ok-cons.ensures.number c.in_ok-cons.ensures.sound c.requires.unknown c.join.new.topo c.in-Err.ensures.same

-- what refuses the consumer once it is made is what would have refused it before
pub returns-in-Err-clause-answer : goal.returns-in-Err-clause-answer
returns-in-Err-clause-answer g c =
    ap (λ e. Some e) c.errno_of_join.ensures ∙ sym c.in-Err.ensures.answer
    ∙ comer_refusal c.args.topo.now c.new_consumer.new.self c.args.geom c.in_ok-cons.cons c.in_ok-cons.ensures.added
    c.in_ok-cons.ensures.number c.args.prov

-- the consumer came and was destroyed, and its number isn't given out again
pub returns-in-Err-clause-refused : goal.returns-in-Err-clause-refused
returns-in-Err-clause-refused g c = λ some.
    comer_used c.args.topo.now c.new_consumer.new.self c.args.geom c.in_ok-cons.cons c.in_ok-cons.ensures.added
    c.in_ok-cons.ensures.number c.in_ok-cons.ensures.sound c.requires.unknown c.requires.counted c.join.new.topo
    c.destroy_consumer.new.self c.in-Err.ensures.same c.destroy_consumer.ensures

-- with the new consumer at most one more is below the provider, which is one step more
pub returns-in-Err-clause-bound : goal.returns-in-Err-clause-bound
returns-in-Err-clause-bound g c =
    comer_bound c.args.topo.now c.new_consumer.new.self c.args.geom c.args.prov c.in_ok-cons.ensures.added
    c.args.steps.now c.join.new.steps c.join.ensures.bound

pub returns-clause-answer : goal.returns-clause-answer
returns-clause-answer g c =
    sym c.in_default.ensures.answer
    ∙ comer_refusal c.args.topo.now c.new_consumer.new.self c.args.geom c.in_ok-cons.cons c.in_ok-cons.ensures.added
    c.in_ok-cons.ensures.number c.args.prov

-- the new consumer is attached, and what is noted is what rises by that
pub returns-clause-joined : goal.returns-clause-joined
returns-clause-joined g c = λ none.
    comer_joined c.args.topo.now c.new_consumer.new.self c.args.geom c.in_ok-cons.cons c.in_ok-cons.ensures.added
    c.in_ok-cons.ensures.number c.args.prov c.join.new.topo c.in_default.ensures.joined c.in_default.ensures.counted
    c.in_default.ensures.risen

pub returns-clause-bound : goal.returns-clause-bound
returns-clause-bound g c =
    comer_bound c.args.topo.now c.new_consumer.new.self c.args.geom c.args.prov c.in_ok-cons.ensures.added
    c.args.steps.now c.join.new.steps c.join.ensures.bound
