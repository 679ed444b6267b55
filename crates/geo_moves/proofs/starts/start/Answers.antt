use Rattle.std.proofs.Common.{Option, refl, sym, ◌∙◌, ap, subst}
use Rattle.std.specs.Option.{option_copied, option_map}
use Rattle.std.specs.Prelude.{IsTrue}
use Rattle.geo_model.specs.declared.step.Outcome.TheVariants as outcomes
use Rattle.geo_model.specs.declared.step.Phase.TheVariants as phases
use Rattle.geo_model.specs.World.{is_down}
use Rattle.geo_model.specs.Bios.{Bounces, Fails, Sends, Splits, Passes}
use Rattle.geo_bio.specs.BioTable.{BioTableView, has_phase, with_phase}
use Rattle.geo_bio.specs.declared.bio.Bio.{Bio}
use Rattle.geo_bio.specs.Rows.{as_bio}
use Rattle.geo_state.specs.declared.state.State.{State}
use Rattle.geo_state.proofs.Fields.{holds-turned, send-unseen}
use Rattle.geo_state.proofs.OrderLemmas.{bio_stands}
use Rattle.geo_moves.proofs.Started.{can_go_down, went, went_by, split_well, pass_well, bounced_started, failed_started, sent_started}
use Rattle.geo_moves.proofs.starts.start.Goals as goal

-- a bio that is Down is there
pub unreachable-requires : goal.unreachable-requires
unreachable-requires c =
    bio_stands is_down c.args.state.now.traffic.bios c.args.bio c.requires.down
    (sym c.get.ensures.found ∙ ap (λ (o : Option Bio). option_map (as_bio c.args.bio) o)
    (ap option_copied c.in_default.is))

-- a bio that is there can go down
pub way_of-requires : goal.way_of-requires
way_of-requires c =
    can_go_down c.args.state.now c.requires.stands.firm c.args.bio (as_bio c.args.bio c.in-Some.found.now)
    (sym c.in-Some.ensures.found)

-- for each way: the way that was found is the model's, and so is what the bio did
pub returns-in-Bounces : goal.returns-in-Bounces
returns-in-Bounces c =
    let s = c.args.state.now in
    let row = c.in-Some.found.now in
    let made = went s c.args.bio row (sym c.in-Some.ensures.found) c.bounce.new.state c.requires.down
    (Bounces c.in-Bounces.errno) outcomes.Bounced (rw c.in-Bounces.is at c.in_ok-way.ensures)
    (bounced_started s c.bounce.new.state c.args.bio (as_bio c.args.bio row) c.in-Bounces.errno
    c.bounce.ensures.bounced) in
    record { made = made.made; kept = c.bounce.ensures.kept; same = tt; logged = made.logged }

-- a way that fails was only found where one more request can be counted at the geom
pub note_started-requires-clause-count : goal.note_started-requires-clause-count
note_started-requires-clause-count c = (rw c.in-Fails.is at c.in_ok-way.ensures).1

-- what is counted at the geom changes no bio
pub bounce-requires-in-Fails-clause-down : goal.bounce-requires-in-Fails-clause-down
bounce-requires-in-Fails-clause-down c =
    subst (λ (z : State). IsTrue (has_phase is_down z.traffic.bios c.args.bio)) (sym c.note_started.ensures.noted)
    c.requires.down

-- counting and bouncing touch different parts, so together they are what the model does
pub returns-in-Fails : goal.returns-in-Fails
returns-in-Fails c =
    let s = c.args.state.now in
    let new = c.bounce-in-Fails.new.state in
    let row = c.in-Some.found.now in
    let made = went s c.args.bio row (sym c.in-Some.ensures.found) new c.requires.down (Fails c.in-Fails.geom)
    outcomes.Bounced (rw c.in-Fails.is at c.in_ok-way.ensures).0
    (failed_started s c.note_started.new.state new c.args.bio (as_bio c.args.bio row) c.in-Fails.geom
    c.note_started.ensures.noted c.bounce-in-Fails.ensures.bounced) in
    record { made = made.made; kept = c.bounce-in-Fails.ensures.kept; same = tt; logged = made.logged }

-- a bio that goes from Down to Sent was at no disk, is at none, and is out through its consumer still
pub returns-in-Sends : goal.returns-in-Sends
returns-in-Sends c =
    let s = c.args.state.now in
    let row = c.in-Some.found.now in
    let new : State = record s { traffic = c.send.new.self } in
    let sent : BioTableView → State = λ v. record s { traffic = v } in
    let made = went s c.args.bio row (sym c.in-Some.ensures.found) new c.requires.down
    (Sends c.in-Sends.disk) (outcomes.Queued c.in-Sends.disk) (rw c.in-Sends.is at c.in_ok-way.ensures)
    (sent_started s new c.args.bio (as_bio c.args.bio row) c.in-Sends.disk (ap sent c.send.ensures.sent)) in
    record {
      made = made.made;
      kept =
          holds-turned s new s.traffic.next c.args.bio is_down (with_phase phases.Sent) c.send.ensures.in_order.numbers
          c.requires.down send-unseen refl (ap (λ (v : BioTableView). v.bios) c.send.ensures.sent)
          c.requires.stands.kept;
      same = tt;
      logged = made.logged;
    }

-- for both cuts: the model's has a piece at least, a target for each, and goes through no handle's consumer
pub split_by-requires : goal.split_by-requires
split_by-requires c =
    let well = split_well c.args.state.now c.args.bio c.in-Some.found.now (sym c.in-Some.ensures.found)
    c.requires.stands.firm c.in-Splits.cut (rw c.in-Splits.is at c.in_ok-way.ensures) in
    assumption (c.requires, well)

pub returns-in-Splits : goal.returns-in-Splits
returns-in-Splits c =
    let made = went_by c.args.state.now c.args.bio c.in-Some.found.now (sym c.in-Some.ensures.found)
    c.split_by.new.state c.requires.down c.in-Splits.cut Splits c.split_by.result
    (rw c.in-Splits.is at c.in_ok-way.ensures) c.split_by.ensures.started c.split_by.ensures.bios_stay in
    record { made = made.made; kept = c.split_by.ensures.kept; same = c.split_by.ensures.same; logged = made.logged }

pub pass_by-requires : goal.pass_by-requires
pass_by-requires c =
    let goes = rw c.in-Passes.is at c.in_ok-way.ensures in
    let well = pass_well c.args.state.now c.args.bio c.in-Some.found.now (sym c.in-Some.ensures.found)
    c.requires.stands.firm c.in-Passes.cut c.in-Passes.geom goes.0 in
    assumption (c.requires, goes.1, well)

pub returns-in-Passes : goal.returns-in-Passes
returns-in-Passes c =
    let made = went_by c.args.state.now c.args.bio c.in-Some.found.now (sym c.in-Some.ensures.found)
    c.pass_by.new.state c.requires.down c.in-Passes.cut (Passes c.in-Passes.geom) c.pass_by.result
    (rw c.in-Passes.is at c.in_ok-way.ensures).0 c.pass_by.ensures.started c.pass_by.ensures.bios_stay in
    record { made = made.made; kept = c.pass_by.ensures.kept; same = c.pass_by.ensures.same; logged = made.logged }
