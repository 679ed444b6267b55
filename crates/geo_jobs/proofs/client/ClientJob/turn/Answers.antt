use Rattle.std.proofs.Common.{refl, sym, ◌∙◌, subst}
use Rattle.std.specs.Prelude.{Option, IfSome}
use Rattle.geo_jobs.specs.Ends.{CanShow, PublisherView}
use Rattle.geo_jobs.specs.Passes.{opened_by}
use Rattle.geo_jobs.proofs.Joining.{can_put}
use Rattle.geo_jobs.proofs.Showing.{client_keeps, client_stays, client_worked, listing_told, shows_later}
use Rattle.geo_jobs.proofs.Waits.{has_finished, is_waiting}
use Rattle.geo_jobs.proofs.client.ClientJob.turn.Goals as goal

-- few tickets were put for each own entry, and a log has few entries, so there is room for more
pub note-requires : goal.note-requires
note-requires g c =
    can_put c.args.yard.now c.args.pass.now c.try_step.new.pass _ c.args.lanes.now.down c.args.self.now.down
    c.requires.own c.try_step.ensures.good c.in-Made.ensures.did.goes c.requires.job.puts

-- the listing was made in the world that the pass has seen last, which is later than what is shown
pub show-requires : goal.show-requires
show-requires g c =
    let q = c.try_step.new.pass in
    let goes = c.in-Made.ensures.did.goes in record {
      listed = listing_told c.args.yard.now c.args.pass.now q c.args.self.now.actor c.in-Made.outcome
          c.requires.own c.in-Made.ensures.did;
      can =
          subst (λ (o : Option PublisherView). IfSome o (λ v. CanShow v q)) (sym c.note.ensures.publisher)
          (shows_later c.args.self.now.publisher c.args.pass.now q goes.same goes.longer c.requires.job.shows);
    }

-- the tickets that were put are those that the entry names, so the job is within its budget still
pub returns-in-Made-clause-job : goal.returns-in-Made-clause-job
returns-in-Made-clause-job g c =
    client_keeps c.args.lanes.now c.args.pass.now c.try_step.new.pass _ c.args.self.now c.note.new.self
    c.show.new.self c.in-Made.outcome c.in-Made.ensures.did.goes c.requires.job c.note.ensures.noted
    c.note.ensures.few c.show.ensures.same c.show.ensures.can

-- one entry more is the client's, and it noted, put and showed what the outcome says
pub returns-in-Made-clause-did : goal.returns-in-Made-clause-did
returns-in-Made-clause-did g c =
    client_worked c.args.pass.now c.try_step.new.pass c.args.self.now c.note.new.self c.show.new.self
    c.in-Made.outcome c.in-Made.ensures.did.goes c.note.ensures.noted c.note.ensures.publisher
    c.show.ensures.same c.show.ensures.shown

-- Each way out without an entry: the pass has seen more, and the client is as before
pub returns-then-is_end-clause-job : goal.returns-then-is_end-clause-job
returns-then-is_end-clause-job g c =
    client_stays c.args.lanes.now c.args.pass.now c.try_step.new.pass c.args.self.now c.in-NotEnabled.ensures.did.0
    c.requires.job

-- the Go wasn't enabled since no command is left
pub returns-then-is_end-clause-did : goal.returns-then-is_end-clause-did
returns-then-is_end-clause-did g c = (
  record { goes = c.in-NotEnabled.ensures.did.0; same = refl },
  has_finished (opened_by c.args.yard.now.start) c.try_step.new.pass c.args.pass.now.number c.args.self.now.actor
      c.in-NotEnabled.found c.in-NotEnabled.ensures.did.1 (sym c.is_end.ensures ∙ c.if-is_end.true),
)

pub returns-else-is_end-clause-job : goal.returns-else-is_end-clause-job
returns-else-is_end-clause-job g c =
    client_stays c.args.lanes.now c.args.pass.now c.try_step.new.pass c.args.self.now c.in-NotEnabled.ensures.did.0
    c.requires.job

-- the Go wasn't enabled though a command is left, so this one waits
pub returns-else-is_end-clause-did : goal.returns-else-is_end-clause-did
returns-else-is_end-clause-did g c = (
  record { goes = c.in-NotEnabled.ensures.did.0; same = refl },
  is_waiting (opened_by c.args.yard.now.start) c.args.pass.now c.try_step.new.pass c.args.self.now.actor
      c.in-NotEnabled.found c.in-NotEnabled.ensures.did.0 c.in-NotEnabled.ensures.did.1
      (sym c.is_end.ensures ∙ c.if-is_end.false),
)

pub returns-in-LogFull-clause-job : goal.returns-in-LogFull-clause-job
returns-in-LogFull-clause-job g c =
    client_stays c.args.lanes.now c.args.pass.now c.try_step.new.pass c.args.self.now c.in-LogFull.ensures.did.0
    c.requires.job

pub returns-in-NoMemory-clause-job : goal.returns-in-NoMemory-clause-job
returns-in-NoMemory-clause-job g c =
    client_stays c.args.lanes.now c.args.pass.now c.try_step.new.pass c.args.self.now c.in-NoMemory.ensures.did.0
    c.requires.job
