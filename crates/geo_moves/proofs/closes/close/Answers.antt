use Rattle.std.specs.Prelude.{true, false}
use Rattle.geo_moves.proofs.Stepping.{close-found, close-told, close-busy, close-done}
use Rattle.geo_moves.proofs.closes.close.Goals as goal

-- for both outcomes: the handle that was found is the model's, and so is whether a request is out through it
pub returns-then-is_out-clause-made : goal.returns-then-is_out-clause-made
returns-then-is_out-clause-made g c log actors =
    let f = close-found c.args.state.now c.requires.stands c.args.line c.args.actor c.args.name.now
    c.by_name.result c.in-Some.id c.by_name.ensures.number c.by_name.ensures.handle c.in-Some.is in
    close-busy c.args.state.now c.requires.stands c.args.line c.args.actor c.args.name.now c.in-Some.id
    f.1.1 f.0 f.1.0
    (close-told c.args.state.now c.requires.stands c.args.line c.args.actor c.args.name.now c.in-Some.id
    f.1.1 f.0 f.1.0 c.consumer_of-consumer.result c.is_out.result true c.consumer_of-consumer.ensures c.is_out.ensures
    c.if-is_out.true)
    c.refused-then-is_out.result c.refused-then-is_out.ensures actors log

pub returns-clause-made : goal.returns-clause-made
returns-clause-made g c log actors =
    let f = close-found c.args.state.now c.requires.stands c.args.line c.args.actor c.args.name.now
    c.by_name.result c.in-Some.id c.by_name.ensures.number c.by_name.ensures.handle c.in-Some.is in
    close-done c.args.state.now c.requires.stands c.args.line c.args.actor c.args.name.now c.in-Some.id
    f.1.1 f.0 f.1.0
    (close-told c.args.state.now c.requires.stands c.args.line c.args.actor c.args.name.now c.in-Some.id
    f.1.1 f.0 f.1.0 c.consumer_of-consumer.result c.is_out.result false c.consumer_of-consumer.ensures c.is_out.ensures
    c.if-is_out.false)
    c.forget.new.state c.forget.ensures.made c.done.result c.done.ensures actors log
