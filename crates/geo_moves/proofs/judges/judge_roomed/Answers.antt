use Rattle.std.specs.Prelude.{◌+◌, ◌-◌}
use Rattle.std.proofs.Common.{sym, ◌∙◌}
use Rattle.geo_moves.proofs.Arms.{ready-of, stepped, few-turns, next, read-holds, read-through, read-idle, read-inside, read-made, made-first, made-all, made-holds, made-made, ended-idle, ended-out, ended, refused-holds}
use Rattle.geo_moves.proofs.Deciding.{taste-there}
use Rattle.geo_moves.proofs.Tasted.{is-taste, rank-low, read-none, sector-long}
use Rattle.geo_moves.proofs.judges.judge_roomed.Goals as goal

-- a Judge is due, so a taste is under way
pub unreachable-requires : goal.unreachable-requires
unreachable-requires g c =
    absurd (taste-there c.args.state.now c.requires.stands.kept c.requires.due
    (sym c.take.ensures.value ∙ c.in_default.is))

pub judge_step-requires-clause-tasting : goal.judge_step-requires-clause-tasting
judge_step-requires-clause-tasting g c =
    is-taste c.args.state.now c.requires.stands c.in-Some.taste
    (sym c.take.ensures.value ∙ c.in-Some.is) c.coming_provider-first.ensures.sound

pub judge_step-requires-clause-sector : goal.judge_step-requires-clause-sector
judge_step-requires-clause-sector g c =
    sector-long c.args.state.now c.requires.stands c.in-Some.taste
    (sym c.take.ensures.value ∙ c.in-Some.is)

pub judge_step-requires-clause-low : goal.judge_step-requires-clause-low
judge_step-requires-clause-low g c =
    rank-low c.args.state.now c.requires.stands c.in-Some.taste
    (sym c.take.ensures.value ∙ c.in-Some.is)

-- what read_next wants, since the taste came to a read
pub read_next-requires : goal.read_next-requires
read_next-requires g c =
    let step = stepped c.requires.stands c.requires.due c.take.ensures.value c.in-Some.is
    c.coming_provider-first.ensures.sound c.requires.events c.in-Read.is c.in-Ok.ensures.judged
    c.in-Ok.ensures.settled c.in-Ok.ensures.tasting c.judge_step.ensures.spare in
    record {
      kept = read-holds step;
      none_out = read-none c.args.state.now c.requires.stands c.in-Some.taste step.ready.is
          step.ready.idle;
      through = read-through step c.take.new.self;
      idle = read-idle step;
      bio = c.requires.bio;
      inside = read-inside step c.take.new.self;
    }

-- the read was granted as in the model, and is submitted as the bio that the model makes
pub returns-in-Read-clause-made : goal.returns-in-Read-clause-made
returns-in-Read-clause-made g c =
    read-made (stepped c.requires.stands c.requires.due c.take.ensures.value c.in-Some.is
    c.coming_provider-first.ensures.sound c.requires.events c.in-Read.is c.in-Ok.ensures.judged
    c.in-Ok.ensures.settled c.in-Ok.ensures.tasting c.judge_step.ensures.spare)
    c.take.new.self c.read_next.new.state c.read_next.result c.read_next.ensures.outcome c.read_next.ensures.submitted

pub returns-in-Next-clause-made : goal.returns-in-Next-clause-made
returns-in-Next-clause-made g c =
    (next (stepped c.requires.stands c.requires.due c.take.ensures.value c.in-Some.is
    c.coming_provider-first.ensures.sound c.requires.events c.in-Next.is c.in-Ok.ensures.judged
    c.in-Ok.ensures.settled c.in-Ok.ensures.tasting c.judge_step.ensures.spare)).made

pub returns-in-Next-clause-kept : goal.returns-in-Next-clause-kept
returns-in-Next-clause-kept g c =
    (next (stepped c.requires.stands c.requires.due c.take.ensures.value c.in-Some.is
    c.coming_provider-first.ensures.sound c.requires.events c.in-Next.is c.in-Ok.ensures.judged
    c.in-Ok.ensures.settled c.in-Ok.ensures.tasting c.judge_step.ensures.spare)).kept

-- the providers that came are those from the number that was the next one before the step
pub count_made-requires : goal.count_made-requires
count_made-requires g c =
    let step = stepped c.requires.stands c.requires.due c.take.ensures.value c.in-Some.is
    c.coming_provider-first.ensures.sound c.requires.events c.in-Made.is c.in-Ok.ensures.judged
    c.in-Ok.ensures.settled c.in-Ok.ensures.tasting c.judge_step.ensures.spare in
    record {
      some = rw c.coming_provider-first.ensures.number (made-first step);
      all = rw c.coming_provider-first.ensures.number (made-all step);
    }

-- how many providers are counted is no part of the world, so the step is the model's
pub returns-in-Made-clause-made : goal.returns-in-Made-clause-made
returns-in-Made-clause-made g c =
    rw c.count_made.ensures
    (made-made (stepped c.requires.stands c.requires.due c.take.ensures.value c.in-Some.is
    c.coming_provider-first.ensures.sound c.requires.events c.in-Made.is c.in-Ok.ensures.judged
    c.in-Ok.ensures.settled c.in-Ok.ensures.tasting c.judge_step.ensures.spare)
    (c.args.state.now.providers + (c.judge_step.new.topo.topology.next_provider - c.coming_provider-first.result)))

-- the step made just the providers from the number on that was next before it, and they are counted
pub returns-in-Made-clause-kept : goal.returns-in-Made-clause-kept
returns-in-Made-clause-kept g c =
    rw (c.count_made.ensures, c.coming_provider-first.ensures.number)
    (made-holds (stepped c.requires.stands c.requires.due c.take.ensures.value c.in-Some.is
    c.coming_provider-first.ensures.sound c.requires.events c.in-Made.is c.in-Ok.ensures.judged
    c.in-Ok.ensures.settled c.in-Ok.ensures.tasting c.judge_step.ensures.spare))

-- what abort wants, since the taste ended
pub abort-requires : goal.abort-requires
abort-requires g c =
    let step = stepped c.requires.stands c.requires.due c.take.ensures.value c.in-Some.is
    c.coming_provider-first.ensures.sound c.requires.events c.in-Ended.is c.in-Ok.ensures.judged
    c.in-Ok.ensures.settled c.in-Ok.ensures.tasting c.judge_step.ensures.spare in
    record {
      settled = step.settled;
      tasting = step.tasting;
      idle = ended-idle step;
      none_out = ended-out step;
    }

-- the taste has no read out and holds nothing, so its consumer alone goes, as in the model
pub returns-in-Ended : goal.returns-in-Ended
returns-in-Ended g c =
    let over = ended (stepped c.requires.stands c.requires.due c.take.ensures.value c.in-Some.is
    c.coming_provider-first.ensures.sound c.requires.events c.in-Ended.is c.in-Ok.ensures.judged
    c.in-Ok.ensures.settled c.in-Ok.ensures.tasting c.judge_step.ensures.spare)
    c.abort.ensures.gone c.abort.ensures.settled c.take.ensures.after in
    record {
      made = over.made;
      kept = over.kept;
      same = tt;
      logged = λ log has. has;
      bound = few-turns c.args.state.now c.args.steps.now c.judge_step.new.steps c.take.ensures.value c.in-Some.is
          c.judge_step.ensures.bound;
    }

-- after want of memory mesh, events and taste are as before, and the taste is put back
pub returns-in-Err-clause-kept : goal.returns-in-Err-clause-kept
returns-in-Err-clause-kept g c =
    refused-holds (ready-of c.requires.stands c.requires.due c.take.ensures.value c.in-Some.is
    c.coming_provider-first.ensures.sound c.requires.events)
    c.in-Err.ensures.same c.in-Err.ensures.taste c.in-Err.ensures.settled c.judge_step.ensures.spare
