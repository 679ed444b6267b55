-- What a `mesh` command is replied.
use Rattle.std.specs.Prelude.{◌≡◌, ℕ, List, IsSomeAnd}
use Rattle.geo_model.specs.declared.listing.GeomLine.{GeomLine}
use Rattle.geo_model.specs.declared.step.Outcome.TheVariants as outcomes
use Rattle.geo_model.specs.declared.step.Reply.TheVariants as replies
use Rattle.geo_model.specs.declared.step.Step.TheVariants as steps
use Rattle.geo_jobs.specs.Passes.{MeshPass}
use Rattle.geo_jobs.specs.Making.{MakesStep}
use Rattle.geo_jobs.specs.Listings.{listing_seen}

-- a listing that a pass is replied is the mesh as it is printed after what the pass has seen then, so it can be shown
abbrev pub RepliesCanBeShown : Type 0
RepliesCanBeShown =
    (p q : MeshPass) (actor line : ℕ) (lines : List GeomLine)
    → IsSomeAnd q.start (λ s. MakesStep s p q (steps.Go actor) (outcomes.Replied line (replies.Listing lines)))
    → lines ≡ listing_seen q
