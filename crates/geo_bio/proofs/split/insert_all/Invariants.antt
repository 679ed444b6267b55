use Rattle.std.proofs.Common.{◌≡◌, ◌+◌, ◌<◌, ◌≤◌, length}
use Rattle.geo_bio.specs.Split.{with_all}
use Rattle.geo_bio.proofs.split.insert_all.Given as goal

-- the children that are left make of these bios what all make of the old, have room, and follow in number
abbrev pub invariant-loop-child : goal.invariant-loop-child
invariant-loop-child l = record {
  rest : with_all l.bios l.child-iterator.rest.items ≡ with_all l.fn.bios l.fn.children.items;
  room : length l.child-iterator.rest.items ≤ l.bios.spare;
  numbers : l.bios.next + length l.child-iterator.rest.items ≡ l.fn.bios.next + length l.fn.children.items;
  last : l.fn.bios.next < l.bios.next → l.last + 1 ≡ l.bios.next;
}
