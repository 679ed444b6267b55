use Rattle.geo_jobs.specs.declared.tried.Tried.TheVariants as tries
use Rattle.geo_jobs.proofs.Delivering.{only_delivers}
use Rattle.geo_jobs.proofs.taking.deliver.Goals as goal

-- Each other answer: the bio is at its disk since the Take, so the Deliver is enabled and takes no memory
pub unreachable-requires-in-NotEnabled : goal.unreachable-requires-in-NotEnabled
unreachable-requires-in-NotEnabled g c =
    only_delivers c.args.yard.now c.args.pass.now c.try_step.new.pass c.args.bio c.args.got
    (tries.NotEnabled c.in-NotEnabled.field-0) c.requires.own c.requires.taken c.in-NotEnabled.ensures.good
    c.in-NotEnabled.ensures.did

pub unreachable-requires-in-LogFull : goal.unreachable-requires-in-LogFull
unreachable-requires-in-LogFull g c =
    only_delivers c.args.yard.now c.args.pass.now c.try_step.new.pass c.args.bio c.args.got tries.LogFull c.requires.own
    c.requires.taken c.in-LogFull.ensures.good c.in-LogFull.ensures.did

pub unreachable-requires-in-NoMemory : goal.unreachable-requires-in-NoMemory
unreachable-requires-in-NoMemory g c =
    only_delivers c.args.yard.now c.args.pass.now c.try_step.new.pass c.args.bio c.args.got tries.NoMemory
    c.requires.own c.requires.taken c.in-NoMemory.ensures.good c.in-NoMemory.ensures.did
