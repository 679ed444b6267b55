-- A listing that a pass is replied can be shown.
use Rattle.std.specs.Prelude.{◌≡◌, List, [], Option, Some, None, IsSomeAnd}
use Rattle.std.specs.Option.{option_map_or}
use Rattle.std.proofs.Common.{refl, sym, ◌∙◌, ap}
use Rattle.geo_model.specs.declared.listing.GeomLine.{GeomLine}
use Rattle.geo_model.specs.declared.step.Entry.{Entry}
use Rattle.geo_model.specs.declared.step.Outcome.TheVariants as outcomes
use Rattle.geo_model.specs.declared.step.Reply.TheVariants as replies
use Rattle.geo_model.specs.declared.step.Step.TheVariants as steps
use Rattle.geo_model.specs.Listing.{listing}
use Rattle.geo_model.specs.Log.{replay}
use Rattle.geo_model.specs.World.{World}
use Rattle.geo_jobs.specs.Passes.{opened_by}
use Rattle.geo_jobs.specs.Making.{MakesStep}
use Rattle.geo_shown.proofs.Replies.{reply_lists}
use Rattle.geo_jobs.specs.Listings.{listing_after}
use Rattle.geo_jobs.specs.Replies.{RepliesCanBeShown}

-- what holds of a start that there is
of_start : {B : Type 0} (world_of : B → World) (start : Option B) (P : B → Type 0) (seen : List Entry)
    (lines : List GeomLine) → IsSomeAnd start P → ((s : B) → P s → lines ≡ listing (replay (world_of s) seen))
    → lines ≡ option_map_or (λ s. listing (replay (world_of s) seen)) start []
of_start world_of None P seen lines holds each = absurd holds
of_start world_of (Some s) P seen lines holds each = each s holds

pub replies_can_be_shown : RepliesCanBeShown
unfolding listing_after
replies_can_be_shown p q actor line lines told =
    of_start opened_by q.start
    (λ s. MakesStep s p q (steps.Go actor) (outcomes.Replied line (replies.Listing lines))) q.seen lines told
    (λ s made. reply_lists (opened_by s) made.before _ actor line lines made.after refl made.does
    ∙ ap (λ (seen : List Entry). listing (replay (opened_by s) seen)) (sym made.ends))
