-- What a pass has seen at the start, and after a step that it tried.
use Rattle.std.specs.Prelude.{◌≡◌, ℕ, List, [], Option, Some, IsSomeAnd}
use Rattle.std.proofs.Common.{sym, ap, subst, ◌∙◌}
use mathlib.Core.List.{IsPrefix}
use Rattle.geo_lock.specs.Pass.{IsSamePass}
use Rattle.geo_lock.specs.Yard.{IsPassOf, YardView, first_pass}
use Rattle.geo_model.specs.declared.listing.GeomLine.{GeomLine}
use Rattle.geo_model.specs.declared.step.Entry.{Entry}
use Rattle.geo_model.specs.declared.step.Outcome.{Outcome}
use Rattle.geo_model.specs.declared.step.Outcome.TheVariants as outcomes
use Rattle.geo_model.specs.declared.step.Reply.TheVariants as replies
use Rattle.geo_model.specs.declared.step.Step.{Step}
use Rattle.geo_model.specs.declared.step.Step.TheVariants as steps
use Rattle.geo_model.specs.Listing.{listing}
use Rattle.geo_model.specs.Log.{replay}
use Rattle.geo_model.specs.Opening.{opening}
use Rattle.geo_jobs.specs.MeshStart.{MeshStart}
use Rattle.geo_jobs.specs.Logged.{mesh_start}
use Rattle.geo_jobs.specs.Mesh.{MeshView, world_of}
use Rattle.geo_jobs.specs.declared.tried.Tried.{Tried}
use Rattle.geo_jobs.specs.declared.tried.Tried.TheVariants as tries
use Rattle.geo_jobs.specs.Passes.{MeshPass}
use Rattle.geo_jobs.specs.Making.{DidTry, MakesStep}
use Rattle.geo_jobs.specs.Listings.{listing_after, listing_seen}
use Rattle.geo_jobs.proofs.Replies.{replies_can_be_shown}

-- a mesh that made no step is what the first pass of its yard has seen
pub listed_first : (m : MeshView) (y : YardView MeshStart) → m.log ≡ [] → y.start ≡ mesh_start m
    → listing (world_of m) ≡ listing_seen (first_pass y)
unfolding listing_after
listed_first m y log start = ap (λ (l : List Entry). listing (replay (opening m.plan m.facts) l)) log
    ∙ ap (λ (s : MeshStart). listing (opening s.plan s.facts)) (sym start)

-- what a pass has seen goes on, whatever became of a step that it tried
pub went : (s : MeshStart) (p q : MeshPass) (st : Step) (t : Tried) → DidTry s p q st t
    → IsSamePass p q × IsPrefix p.seen q.seen
went s p q st (tries.Made o) did = (did.goes.same, did.goes.longer)
went s p q st (tries.NotEnabled found) did = (did.0.same, did.0.longer)
went s p q st tries.LogFull did = (did.0.same, did.0.longer)
went s p q st tries.NoMemory did = (did.0.same, did.0.longer)

-- a listing that a pass was replied can be shown
pub reply_shows : (s : MeshStart) (p q : MeshPass) (actor line : ℕ) (lines : List GeomLine) (o : Outcome)
    → p.start ≡ Some s → MakesStep s p q (steps.Go actor) o → o ≡ outcomes.Replied line (replies.Listing lines)
    → lines ≡ listing_seen q
reply_shows s p q actor line lines o start made is =
    replies_can_be_shown p q actor line lines
    (subst (λ (z : Option MeshStart). IsSomeAnd z
    (λ b. MakesStep b p q (steps.Go actor) (outcomes.Replied line (replies.Listing lines))))
    (sym (made.goes.same.start ∙ start))
    (subst (λ (z : Outcome). MakesStep s p q (steps.Go actor) z) is made))

-- the first pass of a yard is one of its passes
pub first_is_of : (y : YardView MeshStart) (p : MeshPass) → p ≡ first_pass y → IsPassOf y p
first_is_of y p is =
    record { yard = ap (λ (q : MeshPass). q.yard) is; start = ap (λ (q : MeshPass). q.start) is }

-- so it can show a mesh that made no step
pub first_shows : (m : MeshView) (y : YardView MeshStart) (p : MeshPass) (lines : List GeomLine) → m.log ≡ []
    → y.start ≡ mesh_start m → p ≡ first_pass y → lines ≡ listing (world_of m) → lines ≡ listing_seen p
first_shows m y p lines log start is listed =
    listed ∙ (listed_first m y log start ∙ ap (λ (q : MeshPass). listing_seen q) (sym is))
