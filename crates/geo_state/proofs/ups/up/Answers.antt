use Rattle.std.proofs.Common.{Option, sym, ◌∙◌, ap}
use Rattle.std.specs.Option.{option_copied, option_map}
use Rattle.geo_model.specs.World.{is_up}
use Rattle.geo_bio.specs.declared.bio.Bio.{Bio}
use Rattle.geo_bio.specs.Rows.{as_bio}
use Rattle.geo_state.proofs.OrderLemmas.{bio_stands}
use Rattle.geo_state.proofs.Rises.{back-lives, back-out, back-own, holds-back}
use Rattle.geo_state.proofs.ups.up.Goals as goal

-- a bio that is Up is there
pub unreachable-requires : goal.unreachable-requires
unreachable-requires g c =
    bio_stands is_up c.args.state.now.traffic.bios c.args.bio c.requires.up
    (sym c.get.ensures.found ∙ ap (λ (o : Option Bio). option_map (as_bio c.args.bio) o)
    (ap option_copied c.in_default.is))

-- for each condition: a bio that is Up is out through its consumer still, and is counted there and of its owner
pub come_back-requires-clause-lives : goal.come_back-requires-clause-lives
come_back-requires-clause-lives g c =
    back-lives c.args.state.now c.args.bio (as_bio c.args.bio c.in-Some.found.now)
    (g.B.LogBytes.place_bytes c.args.log.now) c.in-Some.ensures.found c.get.ensures.in_order.numbers c.requires.up
    c.requires.came c.requires.kept

pub come_back-requires-clause-some_out : goal.come_back-requires-clause-some_out
come_back-requires-clause-some_out g c =
    back-out c.args.state.now c.args.bio (as_bio c.args.bio c.in-Some.found.now)
    (g.B.LogBytes.place_bytes c.args.log.now) c.in-Some.ensures.found c.get.ensures.in_order.numbers c.requires.up
    c.requires.came c.requires.kept

pub come_back-requires-clause-own : goal.come_back-requires-clause-own
come_back-requires-clause-own g c =
    back-own c.args.state.now c.args.bio (as_bio c.args.bio c.in-Some.found.now)
    (g.B.LogBytes.place_bytes c.args.log.now) c.in-Some.ensures.found c.get.ensures.in_order.numbers c.requires.up
    c.requires.came c.requires.kept

-- the request is out no more, so its consumer, its actor or the taste have one less, and a dead handle may be ready
pub returns-clause-kept : goal.returns-clause-kept
returns-clause-kept g c =
    holds-back c.args.state.now c.args.bio (as_bio c.args.bio c.in-Some.found.now)
    (g.B.LogBytes.place_bytes c.args.log.now) c.in-Some.ensures.found c.get.ensures.in_order.numbers c.requires.up
    c.requires.came c.requires.kept c.come_back.new.state
    c.up.new.self c.in-Some.ensures.parent c.come_back.ensures.alone c.in_ok-risen.ensures.rises
    c.come_back.ensures.own c.come_back.ensures.read c.come_back.ensures.rest
