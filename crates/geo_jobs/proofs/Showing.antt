-- A client that shows: what it is replied can be shown, and it can show what its pass has seen.
use Rattle.std.specs.Prelude.{◌≡◌, ℕ, List, [], ◌∷◌, Option, Some, None, IfSome, IsSomeAnd}
use Rattle.std.specs.Option.{option_map}
use Rattle.std.proofs.Common.{append-nil, ap, subst, sym, ◌∙◌}
use mathlib.Core.List.{IsPrefix}
use Rattle.geo_model.specs.declared.listing.GeomLine.{GeomLine}
use Rattle.geo_model.specs.declared.step.Entry.{Entry}
use Rattle.geo_model.specs.declared.step.Outcome.{Outcome}
use Rattle.geo_model.specs.declared.step.Outcome.TheVariants as outcomes
use Rattle.geo_model.specs.declared.step.Reply.TheVariants as replies
use Rattle.geo_model.specs.declared.step.Step.TheVariants as steps
use Rattle.geo_lane.specs.LanePass.{LanePassView}
use Rattle.geo_lock.specs.Pass.{IsSamePass}
use Rattle.geo_lock.specs.Yard.{IsPassOf, YardView}
use Rattle.geo_jobs.specs.Ends.{CanShow, PublisherView}
use Rattle.geo_jobs.specs.declared.lanes.Lanes.{Lanes}
use Rattle.geo_jobs.specs.Listings.{listing_seen}
use Rattle.geo_jobs.specs.Making.{MakesStep}
use Rattle.geo_jobs.specs.Passes.{Goes, MeshPass}
use Rattle.geo_jobs.specs.Putting.{PutsAll}
use Rattle.geo_jobs.proofs.Replies.{replies_can_be_shown}
use Rattle.geo_jobs.proofs.Shows.{shows_on}
use Rattle.geo_jobs.specs.declared.client.ClientJob.{ClientJob}
use Rattle.geo_jobs.specs.Clients.{ClientWorked, IsClientJob, NotesOutcome, ShowsOutcome}
use Rattle.geo_jobs.specs.Hints.{go_hints}
use Rattle.geo_jobs.specs.LanePasses.{AreFew, IsPassTo, MadeOneStep}
use Rattle.geo_jobs.proofs.Joining.{pass_worked}

-- What can be shown

-- a listing that the next command of an actor is replied is the mesh as the pass has seen it then
pub listing_told : (y : YardView _) (p q : MeshPass) (actor : ℕ) (o : Outcome) → IsPassOf y p
    → MakesStep y.start p q (steps.Go actor) o → (line : ℕ) (lines : List GeomLine)
    → o ≡ outcomes.Replied line (replies.Listing lines) → lines ≡ listing_seen q
listing_told y p q actor o of makes line lines is =
    let told : MakesStep y.start p q (steps.Go actor) (outcomes.Replied line (replies.Listing lines)) =
    subst (λ (x : Outcome). MakesStep y.start p q (steps.Go actor) x) is makes in
    replies_can_be_shown p q actor line lines
    (subst
    (λ s. IsSomeAnd s
    (λ b. MakesStep b p q (steps.Go actor) (outcomes.Replied line (replies.Listing lines))))
    (sym (makes.goes.same.start ∙ of.start)) told)

-- who can show what a pass has seen still can once the pass went on
pub shows_later : (o : Option PublisherView) (p q : MeshPass) → IsSamePass p q → IsPrefix p.seen q.seen
    → IfSome o (λ v. CanShow v p) → IfSome o (λ v. CanShow v q)
shows_later None p q same longer can = tt
shows_later (Some v) p q same longer can = shows_on v p q can same longer

-- Outcomes that are shown

-- a client that showed an outcome, or not, keeps the view that it shows
pub view_stays : (o : Outcome) (seen : List Entry) (a b : Option PublisherView) → ShowsOutcome o seen a b
    → option_map (λ (v : PublisherView). v.view) b ≡ option_map (λ (v : PublisherView). v.view) a
view_stays o seen None b shown = ap (option_map (λ (v : PublisherView). v.view)) shown
view_stays o seen (Some a) None shown = absurd shown
view_stays o seen (Some a) (Some b) shown = ap (λ n. Some n) shown.view

-- Clients

-- a client whose pass went on without a step of its own
pub client_stays : (lanes : Lanes) (p q : MeshPass) (j : ClientJob) → Goes p q [] → IsClientJob lanes p j
    → IsClientJob lanes q j
client_stays lanes p q j goes job = record {
  puts =
      subst (λ (own : List Entry). IsPassTo lanes.down own j.down) (sym (goes.own ∙ append-nil p.own)) job.puts;
  shows = shows_later j.publisher p q goes.same goes.longer job.shows;
}

-- what showing leaves of a client as it was
abbrev pub IsButShown : ClientJob → ClientJob → Type 0
IsButShown a b = (b.actor ≡ a.actor) × (b.line ≡ a.line) × (b.down ≡ a.down)

-- a client that made a command, noted its outcome and showed it
pub client_keeps : (lanes : Lanes) (p q : MeshPass) (e : Entry) (a m b : ClientJob) (o : Outcome) → Goes p q (e ∷ [])
    → IsClientJob lanes p a → NotesOutcome o a m → AreFew (go_hints o) → IsButShown m b
    → IfSome b.publisher (λ v. CanShow v q) → IsClientJob lanes q b
client_keeps lanes p q e a m b o goes job noted few same can = record {
  puts =
      subst (λ (l : LanePassView). IsPassTo lanes.down q.own l) (sym same.2)
      (pass_worked p q e lanes.down a.down m.down (go_hints o) goes job.puts noted.puts few);
  shows = can;
}

pub client_worked : (p q : MeshPass) (a m b : ClientJob) (o : Outcome) → MadeOneStep p q (steps.Go a.actor) o
    → NotesOutcome o a m → m.publisher ≡ a.publisher → IsButShown m b
    → ShowsOutcome o q.seen m.publisher b.publisher → ClientWorked p q a b
client_worked p q a m b o adds noted same rest shown = record {
  outcome = o;
  adds = adds;
  noted = record {
    actor = rest.0 ∙ noted.actor;
    line = rest.1 ∙ noted.line;
    puts = subst (λ (l : LanePassView). PutsAll a.down (go_hints o) l) (sym rest.2) noted.puts;
  };
  shown = subst (λ (v : Option PublisherView). ShowsOutcome o q.seen v b.publisher) same shown;
}
