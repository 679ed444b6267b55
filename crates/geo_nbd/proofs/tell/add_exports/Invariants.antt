use Rattle.std.proofs.Common.{◌≡◌, ◌++◌, take, flat_map}
use Rattle.geo_nbd.specs.Handshake.{server_reply}
use Rattle.geo_nbd.proofs.tell.add_exports.Given as goal

-- the exports so far are told
abbrev pub invariant-loop-export : goal.invariant-loop-export
invariant-loop-export l = l.sent ≡ l.fn.sent ++ flat_map server_reply (take l.export-index l.exports)
