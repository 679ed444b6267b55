-- What waits stays, while more of it may be taken next.
use Rattle.std.proofs.Common.{◌≡◌, false, length}
use Rattle.geo_elev.specs.Front.{is_none_of}
use Rattle.geo_elev.specs.Lists.{all_waiting}
use Rattle.geo_elev.proofs.lists.fill_on.Given as goal

abbrev pub invariant-loop-bio : goal.invariant-loop-bio
invariant-loop-bio l = record {
  same : all_waiting l.front false l.later.items ≡ all_waiting l.fn.front false l.fn.later.items;
  some : is_none_of l.front ≡ false;
}

abbrev pub decreases-loop-bio : goal.decreases-loop-bio
decreases-loop-bio l = length l.later.items
