-- What a `mesh` command was replied, by its place in the log.
use Rattle.std.specs.Prelude.{◌≡◌, ℕ, ◌+◌, List, Some, slice_get, take}
use Rattle.geo_model.specs.declared.listing.GeomLine.{GeomLine}
use Rattle.geo_model.specs.declared.step.Entry.{Entry}
use Rattle.geo_model.specs.declared.step.Outcome.TheVariants as outcomes
use Rattle.geo_model.specs.declared.step.Reply.TheVariants as replies
use Rattle.geo_model.specs.Listing.{listing}
use Rattle.geo_model.specs.Log.{Legal, replay}
use Rattle.geo_model.specs.World.{World}

-- a listing that an entry of a legal log was replied is the mesh as it is printed after the log up to that entry
abbrev pub RepliesAreListings : Type 0
RepliesAreListings =
    (opened : World) (log : List Entry) (k : ℕ) (e : Entry) (line : ℕ) (lines : List GeomLine) → Legal opened log
    → slice_get log k ≡ Some e → e.outcome ≡ outcomes.Replied line (replies.Listing lines)
    → lines ≡ listing (replay opened (take (k + 1) log))
