use Rattle.std.proofs.Common.{arith, subst}
use Rattle.geo_serve.specs.Drives.{drive_view}
use Rattle.geo_jobs.specs.declared.turn.Turn.TheVariants as turns
use Rattle.geo_jobs.specs.Passes.{opened_by}
use Rattle.geo_jobs.specs.Runs.{RestedFor}
use Rattle.geo_jobs.proofs.Ending.{job_ends, rest_more, rest_none}
use Rattle.geo_jobs.proofs.Running.{job_more, job_none}
use Rattle.geo_jobs.proofs.job.Job.go.Goals as goal

pub loop-init : goal.loop-init
loop-init g c =
    let seen = drive_view g.D.Disk.view in
    let a = c.args.self.now in record {
      can_next = tt;
      finite = tt;
      job = c.requires.job;
      drives = c.requires.drives;
      ran = job_none seen a;
      few = omega arith;
      row = rest_none (opened_by c.args.yard.now.start) seen a a (job_none seen a);
    }

-- a turn that worked ends the row of idle turns
pub loop-preserved-in-Worked : goal.loop-preserved-in-Worked
loop-preserved-in-Worked g c =
    let y = c.args.yard.now in
    let seen = drive_view g.D.Disk.view in
    let ran = job_more y (opened_by y.start) y.start.facts seen c.args.self.now c.loop.self c.turn.new.self turns.Worked
    c.requires.job.pass c.turn.ensures.good c.loop.invariant.drives c.loop.invariant.ran c.in-Worked.ensures.did in
    record {
      can_next = tt;
      finite = tt;
      job = c.turn.ensures.job;
      drives = c.turn.ensures.drives;
      ran = ran;
      few = omega arith;
      row = rest_none (opened_by y.start) seen c.args.self.now c.turn.new.self ran;
    }

-- an idle turn makes the row longer by one, and it isn't at its limit yet
pub loop-preserved : goal.loop-preserved
loop-preserved g c =
    let y = c.args.yard.now in
    let seen = drive_view g.D.Disk.view in record {
      can_next = tt;
      finite = tt;
      few = omega (arith, c.loop.invariant.few, c.if-idle-eq-IDLE_LIMIT.false);
      job = c.turn.ensures.job;
      drives = c.turn.ensures.drives;
      ran = job_more y (opened_by y.start) y.start.facts seen c.args.self.now c.loop.self c.turn.new.self turns.Idle
          c.requires.job.pass c.turn.ensures.good c.loop.invariant.drives c.loop.invariant.ran c.in-Idle.ensures.did;
      row = rest_more (opened_by y.start) seen c.loop.idle c.args.self.now c.loop.self c.turn.new.self
          c.loop.invariant.row c.in-Idle.ensures.did;
    }

-- the job did what its turns did, and this is one more
pub returns-then-idle-eq-IDLE_LIMIT-clause-ran : goal.returns-then-idle-eq-IDLE_LIMIT-clause-ran
returns-then-idle-eq-IDLE_LIMIT-clause-ran g c =
    let y = c.args.yard.now in
    job_more y (opened_by y.start) y.start.facts (drive_view g.D.Disk.view) c.args.self.now c.loop.self c.turn.new.self
    turns.Idle c.requires.job.pass c.turn.ensures.good c.loop.invariant.drives c.loop.invariant.ran
    c.in-Idle.ensures.did

-- it ended idle, which is no answer of a turn that worked
pub returns-then-idle-eq-IDLE_LIMIT-clause-ended : goal.returns-then-idle-eq-IDLE_LIMIT-clause-ended
returns-then-idle-eq-IDLE_LIMIT-clause-ended g c =
    job_ends (opened_by c.args.yard.now.start) (drive_view g.D.Disk.view) c.args.self.now c.loop.self c.turn.new.self
    turns.Idle c.loop.invariant.ran c.in-Idle.ensures.did (λ same. let bad : ⊥ = cc in bad)

-- the row of idle turns is 100,000 long with this one
pub returns-then-idle-eq-IDLE_LIMIT-clause-rested : goal.returns-then-idle-eq-IDLE_LIMIT-clause-rested
returns-then-idle-eq-IDLE_LIMIT-clause-rested g c =
    let opened = opened_by c.args.yard.now.start in
    let seen = drive_view g.D.Disk.view in
    λ _. subst (λ n. RestedFor opened seen n c.args.self.now c.turn.new.self) c.if-idle-eq-IDLE_LIMIT.true
    (rest_more opened seen c.loop.idle c.args.self.now c.loop.self c.turn.new.self c.loop.invariant.row
    c.in-Idle.ensures.did)

-- the turn neither worked nor was idle, so its answer is the end
pub returns-in_default : goal.returns-in_default
returns-in_default g c =
    let y = c.args.yard.now in
    let seen = drive_view g.D.Disk.view in record {
      job = c.turn.ensures.job;
      drives = c.turn.ensures.drives;
      good = c.turn.ensures.good;
      ran = job_more y (opened_by y.start) y.start.facts seen c.args.self.now c.loop.self c.turn.new.self c.turn.result
          c.requires.job.pass c.turn.ensures.good c.loop.invariant.drives c.loop.invariant.ran c.turn.ensures.did;
      ended = job_ends (opened_by y.start) seen c.args.self.now c.loop.self c.turn.new.self c.turn.result
          c.loop.invariant.ran c.turn.ensures.did c.in_default.not-Worked;
      rested = λ idle.
          absurd {A = RestedFor (opened_by y.start) seen 100000 c.args.self.now c.turn.new.self}
          (c.in_default.not-Idle idle);
    }
