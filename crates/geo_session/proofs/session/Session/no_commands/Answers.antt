use Rattle.geo_session.proofs.DueSteps.{none_shown}
use Rattle.geo_session.proofs.session.Session.no_commands.Goals as goal

pub returns : goal.returns
returns c = none_shown c.self.inside.live.value c.args.self.now c.self.view_is
