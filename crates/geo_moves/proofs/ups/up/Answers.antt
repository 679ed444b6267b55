use Rattle.std.proofs.Common.{length, sym, ◌∙◌}
use Rattle.geo_base.proofs.Options.{on_error}
use Rattle.geo_state.specs.Steps.{SameWorld}
use Rattle.geo_moves.proofs.Against.{same_moved}
use Rattle.geo_moves.proofs.Returned.{no_read, came, rise_made, rise_logged}
use Rattle.geo_moves.proofs.ups.up.Goals as goal

pub hand_back-requires-clause-taste : goal.hand_back-requires-clause-taste
hand_back-requires-clause-taste g c = sym c.is_taste_read.ensures ∙ c.if-is_taste_read.true

-- the bio isn't the taste's read, so it came through a consumer of its line's handle, or of no handle
pub up-requires-clause-came : goal.up-requires-clause-came
up-requires-clause-came g c =
    let s = c.args.state.now in
    let other = no_read s.traffic.bios c.args.bio (sym c.is_taste_read.ensures ∙ c.if-is_taste_read.false) in
    came s c.args.bio c.requires.up other c.requires.stands.firm

-- the bios and their next number are as before, and nothing else is part of the world
pub returns-in_err-risen-clause-same : goal.returns-in_err-risen-clause-same
returns-in_err-risen-clause-same g c =
    on_error (SameWorld c.args.state.now c.up.new.state) c.from_residual.result
    (same_moved c.args.state.now c.up.new.state c.up.ensures.only c.in_err-risen.ensures.bios_stay
    c.up.ensures.next_stays)

-- the bio is in its parent or gone as a root, and the outcome tells of it what the model tells
pub returns-clause-made : goal.returns-clause-made
returns-clause-made g c =
    let s = c.args.state.now in
    let other = no_read s.traffic.bios c.args.bio (sym c.is_taste_read.ensures ∙ c.if-is_taste_read.false) in
    rise_made s c.args.bio c.requires.up other c.up.new.state c.args.log.now.items c.up.ensures.only
    c.in_ok-risen.ensures.rises c.up.ensures.next_stays c.line_of-line.result c.in_ok-risen.risen c.outcome_of.result
    c.line_of-line.ensures c.in_ok-risen.ensures.told c.outcome_of.ensures

pub returns-clause-logged : goal.returns-clause-logged
returns-clause-logged g c entries logged =
    let s = c.args.state.now in
    let other = no_read s.traffic.bios c.args.bio (sym c.is_taste_read.ensures ∙ c.if-is_taste_read.false) in
    rise_logged s c.args.bio c.requires.up other c.up.new.state c.args.log.now.items c.up.ensures.only
    c.in_ok-risen.ensures.rises c.up.ensures.next_stays (length entries) logged
