use Rattle.std.proofs.Common.{◌∙◌}
use Rattle.geo_session.proofs.DueSteps.{wash_last}
use Rattle.geo_session.proofs.session.Session.pick.Goals as goal

pub returns : goal.returns
returns c =
    c.if_enabled-4.ensures
    ∙ wash_last c.args.self.now.world c.no_commands.ensures (cc) (cc) (cc) (cc) (cc) (cc)
