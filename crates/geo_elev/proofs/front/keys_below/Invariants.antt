-- Those that are left tell of all.
use Rattle.std.proofs.Common.{◌≡◌, ◌%◌, ◌^◌, drop}
use Rattle.std.specs.Prelude.{nat_lt}
use Rattle.std.specs.List.{list_all}
use Rattle.geo_elev.specs.Front.{keys_in}
use Rattle.geo_elev.proofs.front.keys_below.Given as goal

abbrev pub invariant-loop-key : goal.invariant-loop-key
invariant-loop-key l =
    list_all (λ k. nat_lt (k % 2 ^ 64) l.bio) (keys_in (drop l.key-index l.keys))
    ≡ list_all (λ k. nat_lt (k % 2 ^ 64) l.bio) (keys_in l.keys)
