-- The least bio that waits from here on is the least from the number on that the search began with.
use Rattle.std.proofs.Common.{◌≡◌, ◌-◌}
use Rattle.geo_state.specs.Cursors.{is_due, first_from}
use Rattle.geo_state.proofs.cursor.next_due.Given as goal

abbrev pub invariant-loop-bio : goal.invariant-loop-bio
invariant-loop-bio l = first_from (is_due l.due) l.bios.bios l.from ≡ first_from (is_due l.due) l.bios.bios l.low

abbrev pub decreases-loop-bio : goal.decreases-loop-bio
decreases-loop-bio l = l.bios.next - l.from
