use Rattle.std.proofs.Common.{arith, length, ◌∙◌, ap}
use Rattle.geo_base.proofs.Options.{on_error}
use Rattle.geo_state.specs.Steps.{SameWorld}
use Rattle.geo_moves.specs.Returned.{root_result}
use Rattle.geo_moves.proofs.Against.{same_moved}
use Rattle.geo_moves.proofs.Returned.{read_up, came_back, settled_mid, reading_mid, holds_back, read_of, same_taste, nobodys_mid, kind_mid, makes_back, logged_back, read_steps, steps_mid}
use Rattle.geo_moves.proofs.returns.hand_back.Goals as goal

-- the read is a root of the taste, so it is out through the taste's consumer
pub up-requires-clause-came : goal.up-requires-clause-came
up-requires-clause-came g c =
    let s = c.args.state.now in
    let r = read_up s c.args.bio c.requires.up c.requires.taste in
    came_back s c.requires.stands.firm c.args.bio r

-- the bios and their next number are as before, and nothing else is part of the world
pub returns-in_err-risen-clause-same : goal.returns-in_err-risen-clause-same
returns-in_err-risen-clause-same g c =
    on_error (SameWorld c.args.state.now c.up.new.state) c.from_residual.result
    (same_moved c.args.state.now c.up.new.state c.up.ensures.only c.in_err-risen.ensures.bios_stay
    c.up.ensures.next_stays)

-- for both conditions: what the read's rise changed isn't seen by counts or by the taste
pub give_back-requires-clause-settled : goal.give_back-requires-clause-settled
give_back-requires-clause-settled g c =
    let s = c.args.state.now in
    let r = read_up s c.args.bio c.requires.up c.requires.taste in
    settled_mid s c.requires.stands.firm c.args.bio r c.up.new.state c.up.ensures.only c.up.ensures.kept

pub give_back-requires-clause-reading : goal.give_back-requires-clause-reading
give_back-requires-clause-reading g c =
    let s = c.args.state.now in
    let r = read_up s c.args.bio c.requires.up c.requires.taste in
    reading_mid s c.requires.stands.firm c.args.bio r c.up.new.state c.up.ensures.only c.up.ensures.kept

-- the read is gone and what it held is the taste's, which gives back its one read, as in the model
pub returns-clause-made : goal.returns-clause-made
returns-clause-made g c =
    let s = c.args.state.now in
    let r = read_up s c.args.bio c.requires.up c.requires.taste in
    makes_back s c.up.new.state c.give_back.new.state c.args.log.now.items c.args.bio r c.up.ensures.only
    (rw r.found at c.in_ok-risen.ensures.rises) c.up.ensures.next_stays c.root_result.result
    (c.root_result.ensures ∙ ap root_result (rw r.found at c.in_ok-risen.ensures.told)) c.give_back.ensures.topo
    c.give_back.ensures.taste c.give_back.ensures.rest

-- the taste's read is out no more, so it is right that no number of one is kept
pub returns-clause-kept : goal.returns-clause-kept
returns-clause-kept g c =
    let s = c.args.state.now in
    let r = read_up s c.args.bio c.requires.up c.requires.taste in
    let firm = c.requires.stands.firm in
    let a = read_of s firm c.args.bio r in
    holds_back c.up.new.state c.give_back.new.state c.up.ensures.kept a.taste
    (same_taste s firm c.args.bio r c.up.new.state c.up.ensures.only c.up.ensures.kept) a.out
    (nobodys_mid s firm c.args.bio r c.up.new.state c.up.ensures.only c.up.ensures.kept)
    (kind_mid s firm c.args.bio r c.up.new.state c.up.ensures.only c.up.ensures.kept)
    c.root_result.result c.give_back.ensures.topo c.give_back.ensures.taste c.give_back.ensures.rest
    c.give_back.ensures.settled

pub returns-clause-logged : goal.returns-clause-logged
returns-clause-logged g c entries logged =
    let s = c.args.state.now in
    let r = read_up s c.args.bio c.requires.up c.requires.taste in
    logged_back s c.up.new.state c.give_back.new.state c.args.log.now.items c.args.bio r c.up.ensures.only
    (rw r.found at c.in_ok-risen.ensures.rises) c.up.ensures.next_stays c.root_result.result
    (c.root_result.ensures ∙ ap root_result (rw r.found at c.in_ok-risen.ensures.told)) c.give_back.ensures.topo
    c.give_back.ensures.taste c.give_back.ensures.rest (length entries) logged

-- the provider that the read went to is the tasted one, so as many consumers are below it
pub returns-clause-bound : goal.returns-clause-bound
returns-clause-bound g c =
    let s = c.args.state.now in
    let r = read_up s c.args.bio c.requires.up c.requires.taste in
    let below = steps_mid s c.requires.stands.firm c.args.bio r c.up.new.state c.up.ensures.only c.up.ensures.kept in
    let all = read_steps s c.args.bio r in
    let most = c.give_back.ensures.bound in
    omega (arith, below, all, most)
