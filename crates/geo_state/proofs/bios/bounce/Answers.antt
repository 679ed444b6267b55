use Rattle.std.proofs.Common.{refl, ap}
use Rattle.geo_model.specs.World.{is_down}
use Rattle.geo_model.specs.Bios.{up_with}
use Rattle.geo_bio.specs.declared.bio.Held.TheVariants as held
use Rattle.geo_bio.specs.BioTable.{BioTableView}
use Rattle.geo_state.proofs.Fields.{holds-turned, bounce-unseen}
use Rattle.geo_state.proofs.bios.bounce.Goals as goal

-- a bio that goes from Down to Up was at no disk, is at none, and is out through its consumer still
pub returns-clause-kept : goal.returns-clause-kept
returns-clause-kept c =
    holds-turned c.args.state.now (record c.args.state.now { traffic = c.bounce.new.self })
    c.args.state.now.traffic.next
    c.args.bio is_down (up_with (held.Failed c.args.errno)) c.bounce.ensures.in_order.numbers c.requires.down
    (bounce-unseen c.args.errno) refl
    (ap (λ (v : BioTableView). v.bios) c.bounce.ensures.bounced) c.requires.kept
