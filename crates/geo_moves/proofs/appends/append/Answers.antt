use Rattle.std.proofs.Common.{◌∙◌, sym}
use Rattle.geo_moves.proofs.Appending.{append-able, append-bound, append-done, append-refused, append-stopped, asked}
use Rattle.geo_moves.proofs.appends.append.Goals as goal

pub returns-in-Some-2-clause-does : goal.returns-in-Some-2-clause-does
returns-in-Some-2-clause-does g c = λ log actors.
    let a = asked c.args.state.now c.requires.stands.firm c.args.name.now c.args.prov.now
    (sym c.in-Some.is ∙ c.growing_concat.ensures) (sym c.in-Some-below_named.is ∙ c.below_named.ensures) in
    append-refused c.args.state.now c.args.state.now c.args.line c.refused-in-Some-2.result actors log a
    c.in-Some-2.errno (sym c.in-Some-2.is ∙ c.in_ok-errno.ensures a.named actors log) c.refused-in-Some-2.ensures

pub add_component-requires-clause-able : goal.add_component-requires-clause-able
add_component-requires-clause-able g c =
    let a = asked c.args.state.now c.requires.stands.firm c.args.name.now c.args.prov.now
    (sym c.in-Some.is ∙ c.growing_concat.ensures) (sym c.in-Some-below_named.is ∙ c.below_named.ensures) in
    append-able c.args.state.now a (λ k l. sym c.in_default-2.is ∙ c.in_ok-errno.ensures a.named k l)

-- Each way out once the component was tried: it is tried at the provider that is found by the name
pub returns-in_err-errno-2-clause-bound : goal.returns-in_err-errno-2-clause-bound
returns-in_err-errno-2-clause-bound g c =
    append-bound c.args.state.now.topo.topology c.args.prov.now (sym c.in-Some-below_named.is ∙ c.below_named.ensures)
    c.args.steps.now c.add_component.new.steps c.in_err-errno-2.ensures.bound

-- where the component was refused
pub returns-in-Some-3-clause-does : goal.returns-in-Some-3-clause-does
returns-in-Some-3-clause-does g c = λ log actors.
    let a = asked c.args.state.now c.requires.stands.firm c.args.name.now c.args.prov.now
    (sym c.in-Some.is ∙ c.growing_concat.ensures) (sym c.in-Some-below_named.is ∙ c.below_named.ensures) in
    append-stopped c.args.state.now c.add_component.new.state c.args.line c.refused-in-Some-3.result actors log a
    (λ k l. sym c.in_default-2.is ∙ c.in_ok-errno.ensures a.named k l) c.in_ok-errno-2.field-0
    c.in_ok-errno-2.ensures.does c.in-Some-3.errno c.in-Some-3.is c.refused-in-Some-3.ensures

pub returns-in-Some-3-clause-bound : goal.returns-in-Some-3-clause-bound
returns-in-Some-3-clause-bound g c =
    append-bound c.args.state.now.topo.topology c.args.prov.now (sym c.in-Some-below_named.is ∙ c.below_named.ensures)
    c.args.steps.now c.add_component.new.steps c.in_ok-errno-2.ensures.bound

-- no test is against it and its consumer joined, so the component is appended
pub returns-clause-does : goal.returns-clause-does
returns-clause-does g c = λ log actors.
    let a = asked c.args.state.now c.requires.stands.firm c.args.name.now c.args.prov.now
    (sym c.in-Some.is ∙ c.growing_concat.ensures) (sym c.in-Some-below_named.is ∙ c.below_named.ensures) in
    append-done c.args.state.now c.add_component.new.state c.args.line c.done.result actors log a
    (λ k l. sym c.in_default-2.is ∙ c.in_ok-errno.ensures a.named k l) c.in_ok-errno-2.field-0
    c.in_ok-errno-2.ensures.does c.in_default-3.is c.done.ensures

pub returns-clause-bound : goal.returns-clause-bound
returns-clause-bound g c =
    append-bound c.args.state.now.topo.topology c.args.prov.now (sym c.in-Some-below_named.is ∙ c.below_named.ensures)
    c.args.steps.now c.add_component.new.steps c.in_ok-errno-2.ensures.bound
