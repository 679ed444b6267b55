use Rattle.std.proofs.Common.{sym, ◌∙◌}
use Rattle.geo_moves.proofs.Settling.{roomed-firm}
use Rattle.geo_moves.proofs.Admitting.{found-there, free-found, free-name, free-allowed, made-then, same-then}
use Rattle.geo_moves.proofs.opens.admit.Goals as goal

-- nothing refuses the open, so its provider is found
pub unreachable-requires : goal.unreachable-requires
unreachable-requires g c =
    free-found c.args.state.now c.make_room.new.state c.make_room.ensures.rest c.make_room.ensures.kept c.args.actor
    c.args.name.now c.args.prov.now c.args.grant c.requires.decided (sym c.find.ensures.found ∙ c.in_default.is)

-- for each condition: room that is made changes nothing of the world, where nothing refuses the open
pub open_at-requires-clause-stands : goal.open_at-requires-clause-stands
open_at-requires-clause-stands g c =
    let firm = c.requires.stands.firm in
    record {
      kept = c.make_room.ensures.kept;
      firm = (firm.0, roomed-firm c.args.state.now c.make_room.new.state c.make_room.ensures.rest firm.0 firm.1);
    }

pub open_at-requires-clause-free : goal.open_at-requires-clause-free
open_at-requires-clause-free g c =
    free-name c.args.state.now c.make_room.new.state c.make_room.ensures.rest c.make_room.ensures.kept c.args.actor
    c.args.name.now c.args.prov.now c.args.grant c.requires.decided

pub open_at-requires-clause-lives : goal.open_at-requires-clause-lives
open_at-requires-clause-lives g c =
    found-there c.make_room.new.state.topo.topology c.args.prov.now c.in-Some.found c.find.ensures.sound
    (sym c.find.ensures.found ∙ c.in-Some.is)

pub open_at-requires-clause-allowed : goal.open_at-requires-clause-allowed
open_at-requires-clause-allowed g c =
    free-allowed c.args.state.now c.make_room.new.state c.make_room.ensures.rest c.make_room.ensures.kept c.args.actor
    c.args.name.now c.args.prov.now c.args.grant c.requires.decided c.in-Some.found
    (sym c.find.ensures.found ∙ c.in-Some.is)

-- the world with more room is the same world, and the provider that was found is the model's
pub returns-clause-made : goal.returns-clause-made
returns-clause-made g c =
    made-then c.open_at.result c.args.state.now c.make_room.new.state c.open_at.new.state c.make_room.ensures.rest
    c.args.actor c.args.name.now c.args.prov.now c.args.grant c.in-Some.found (sym c.find.ensures.found ∙ c.in-Some.is)
    c.open_at.ensures.made

pub returns-clause-same : goal.returns-clause-same
returns-clause-same g c =
    same-then c.open_at.result c.args.state.now c.make_room.new.state c.open_at.new.state c.make_room.ensures.rest
    c.open_at.ensures.same
