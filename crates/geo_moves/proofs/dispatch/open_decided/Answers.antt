use Rattle.geo_moves.proofs.Doing.{logged_same, only_opens, opens_refusal, some_counts}
use Rattle.std.proofs.Common.{subst}
use Rattle.geo_model.specs.declared.command.Command.TheVariants as commands
use Rattle.geo_moves.specs.Decisions.{IsDecided}
use Rattle.geo_moves.proofs.dispatch.open_decided.Goals as goal

pub unreachable-requires : goal.unreachable-requires
unreachable-requires g c =
    only_opens c.args.state.now c.args.actor c.args.name.now c.args.prov.now c.args.grant c.args.decision
    c.requires.decided c.in_default.not-Opens

pub open-requires : goal.open-requires
open-requires g c = record {
  stands = c.requires.stands;
  some = some_counts c.args.grant c.requires.grant;
  decided = opens_refusal c.args.state.now c.args.actor c.args.name.now c.args.prov.now c.args.grant _
      (subst (IsDecided c.args.state.now c.args.actor (commands.Open c.args.name.now c.args.prov.now c.args.grant))
      c.in-Opens.is c.requires.decided);
}

pub returns-clause-logged : goal.returns-clause-logged
returns-clause-logged g c = logged_same c.args.state.now c.open.new.state c.open.ensures.traffic
