use Rattle.geo_jobs.specs.Passes.{opened_by}
use Rattle.geo_jobs.proofs.Tries.{all_in_vain, ends_at_event, ends_at_judge, ends_at_reap, ends_at_wash}
use Rattle.geo_jobs.proofs.events.first_enabled.Goals as goal

-- Each way out with an answer: the steps before in the order were tried in vain
pub returns-in-Some-clause-ends : goal.returns-in-Some-clause-ends
returns-in-Some-clause-ends g c =
    ends_at_judge (opened_by c.args.yard.now.start) c.args.pass.now c.unless_idle.new.pass c.in-Some.tried
    c.in-Some.ensures.did

pub returns-in-Some-unless_idle-clause-ends : goal.returns-in-Some-unless_idle-clause-ends
returns-in-Some-unless_idle-clause-ends g c =
    ends_at_event (opened_by c.args.yard.now.start) c.args.pass.now c.unless_idle.new.pass c.unless_idle-2.new.pass
    c.in-Some-unless_idle.tried c.in_default.ensures.vain c.in-Some-unless_idle.ensures.did

pub returns-in-Some-unless_idle-2-clause-ends : goal.returns-in-Some-unless_idle-2-clause-ends
returns-in-Some-unless_idle-2-clause-ends g c =
    ends_at_reap (opened_by c.args.yard.now.start) c.args.pass.now c.unless_idle.new.pass c.unless_idle-2.new.pass
    c.unless_idle-3.new.pass c.in-Some-unless_idle-2.tried c.in_default.ensures.vain
    c.in_default-unless_idle.ensures.vain c.in-Some-unless_idle-2.ensures.did

pub returns-clause-ends : goal.returns-clause-ends
returns-clause-ends g c =
    ends_at_wash (opened_by c.args.yard.now.start) c.args.pass.now c.unless_idle.new.pass c.unless_idle-2.new.pass
    c.unless_idle-3.new.pass c.unless_idle-4.new.pass c.unless_idle-4.result c.in_default.ensures.vain
    c.in_default-unless_idle.ensures.vain c.in_default-unless_idle-2.ensures.vain c.unless_idle-4.ensures.did

-- each of the four was tried in vain
pub returns-clause-vain : goal.returns-clause-vain
returns-clause-vain g c =
    all_in_vain (opened_by c.args.yard.now.start) c.args.pass.now c.unless_idle.new.pass c.unless_idle-2.new.pass
    c.unless_idle-3.new.pass c.unless_idle-4.new.pass c.unless_idle-4.result c.in_default.ensures.vain
    c.in_default-unless_idle.ensures.vain c.in_default-unless_idle-2.ensures.vain c.unless_idle-4.ensures.vain
