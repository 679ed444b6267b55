-- Only a `mesh` command is replied with a listing, and that is of the world after it.
use Rattle.std.specs.Prelude.{◌≡◌, ℕ, zero, suc, ◌+◌, List, [], ◌∷◌, ◌++◌, Some, Ok, Err, IsOkAnd, slice_get, take, unwrap_or, ⊤}
use Rattle.std.proofs.Common.{refl, sym, ◌∙◌, ap, subst, arith}
use Rattle.geo_model.specs.declared.class.Judged.{Judged}
use Rattle.geo_model.specs.declared.class.Judged.TheVariants.{Read, Next, Made, Ended}
use Rattle.geo_model.specs.declared.command.Command.{Command}
use Rattle.geo_model.specs.declared.listing.GeomLine.{GeomLine}
use Rattle.geo_model.specs.declared.step.BioResult.{BioResult}
use Rattle.geo_model.specs.declared.step.BioResult.TheVariants as results
use Rattle.geo_model.specs.declared.step.Entry.{Entry}
use Rattle.geo_model.specs.declared.step.Outcome.{Outcome}
use Rattle.geo_model.specs.declared.step.Outcome.TheVariants as outcomes
use Rattle.geo_model.specs.declared.step.Owner.{Owner}
use Rattle.geo_model.specs.declared.step.Owner.TheVariants as owners
use Rattle.geo_model.specs.declared.step.Reply.TheVariants as replies
use Rattle.geo_model.specs.declared.step.Step.{Step}
use Rattle.geo_model.specs.declared.step.Step.TheVariants as steps
use Rattle.geo_model.specs.Bios.{Way, Bounces, Fails, Sends, Splits, Passes, start_by, reply_of_result, up_to}
use Rattle.geo_model.specs.Commands.{do_command}
use Rattle.geo_model.specs.Listing.{listing}
use Rattle.geo_model.specs.Log.{IsMade, Legal, after_entry, replay, world_after}
use Rattle.geo_model.specs.Step.{Answer, step, with_commands}
use Rattle.geo_model.specs.Tasting.{Judging, judged_world}
use Rattle.geo_model.specs.World.{Bio, World}
use Rattle.geo_model.proofs.CommandWalk.{any_graph_by}
use Rattle.geo_model.proofs.LogLemmas.{replay-append}
use Rattle.geo_model.proofs.StepWalk.{step_by}
use Rattle.geo_shown.specs.Replies.{RepliesAreListings}

-- the listing that is replied, if one is, is of the world that was made
abbrev Lists : World × Outcome → Type 0
Lists made =
    (line : ℕ) (lines : List GeomLine) → made.1 ≡ outcomes.Replied line (replies.Listing lines)
    → lines ≡ listing made.0

-- A command that is replied with a listing

lists_after : (w : World) (line actor : ℕ) (c : Command) (to : ℕ) (lines : List GeomLine)
    → (do_command w line actor c).1 ≡ outcomes.Replied to (replies.Listing lines)
    → lines ≡ listing (do_command w line actor c).0
lists_after w line actor =
    any_graph_by w line actor (λ c made. Lists made)
    (λ c q e to lines is. absurd (let bad : ⊥ = cc in bad)) (λ c q to lines is. absurd (let bad : ⊥ = cc in bad))
    (record {
      waits = λ c waits to lines is. absurd (let bad : ⊥ = cc in bad);
      lists = λ to lines is. let same : listing w ≡ lines = cc in sym same;
      opens = λ name prov grant p opens to lines is. absurd (let bad : ⊥ = cc in bad);
      closes = λ name h closes to lines is. absurd (let bad : ⊥ = cc in bad);
      accepts = λ c h a asks to lines is. absurd (let bad : ⊥ = cc in bad);
    })

-- A step

-- a judging
judged_lists : (w : World) (x : Judging) (j : Judged) → Lists (judged_world w x j)
judged_lists w x (Read sector) line lines is = absurd (let bad : ⊥ = cc in bad)
judged_lists w x Next line lines is = absurd (let bad : ⊥ = cc in bad)
judged_lists w x Made line lines is = absurd (let bad : ⊥ = cc in bad)
judged_lists w x Ended line lines is = absurd (let bad : ⊥ = cc in bad)

-- a Start, by the way that the bio goes
way_lists : (w : World) (x : Bio) (way : Way) → Lists (start_by w x way)
way_lists w x (Bounces e) line lines is = absurd (let bad : ⊥ = cc in bad)
way_lists w x (Fails g) line lines is = absurd (let bad : ⊥ = cc in bad)
way_lists w x (Sends disk) line lines is = absurd (let bad : ⊥ = cc in bad)
way_lists w x (Splits targets) line lines is = absurd (let bad : ⊥ = cc in bad)
way_lists w x (Passes g targets) line lines is = absurd (let bad : ⊥ = cc in bad)

-- no result is a listing
result_lists_none : (r : BioResult) (lines : List GeomLine) → reply_of_result r ≡ replies.Listing lines → ⊥
result_lists_none results.Done lines is = let bad : ⊥ = cc in bad
result_lists_none (results.Bytes bytes) lines is = let bad : ⊥ = cc in bad
result_lists_none (results.Failed e) lines is = let bad : ⊥ = cc in bad

-- an Up, by the owner
owner_lists : (w : World) (x : Bio) (o : Owner) → Lists (up_to w x o)
owner_lists w x (owners.Line handle own) line lines is =
    let r : BioResult = unwrap_or x.result results.Done in
    let same : reply_of_result r ≡ replies.Listing lines = cc in absurd (result_lists_none r lines same)
owner_lists w x owners.Taste line lines is = absurd (let bad : ⊥ = cc in bad)
owner_lists w x (owners.Child parent index) line lines is = absurd (let bad : ⊥ = cc in bad)

-- so of an answer
abbrev ListsIn : Answer → Type 0
ListsIn (Ok made) = Lists made
ListsIn (Err found) = ⊤

-- each step
step_lists_in : (w : World) (seat : ℕ) (s : Step) → ListsIn (step w seat s)
step_lists_in w seat =
    step_by w seat (λ s a. ListsIn a) (record {
      refuses = λ s f. tt;
      goes = λ actor c rest is. lists_after (with_commands w actor rest) c.line actor c.command;
      runs = λ e rest is line lines told. absurd (let bad : ⊥ = cc in bad);
      judges = λ s x j is. judged_lists w x j;
      reaps = λ h c is line lines told. absurd (let bad : ⊥ = cc in bad);
      washes = λ work is line lines told. absurd (let bad : ⊥ = cc in bad);
      starts = λ b x way is. way_lists w x way;
      takes = λ disk b x is line lines told. absurd (let bad : ⊥ = cc in bad);
      delivers = λ b got x is line lines told. absurd (let bad : ⊥ = cc in bad);
      rises = λ b x o is. owner_lists w x o;
    })

-- the listing that any step is replied is of the world after it
step_lists : (w : World) (seat : ℕ) (s : Step) (after : World) (line : ℕ) (lines : List GeomLine)
    → step w seat s ≡ Ok (after, outcomes.Replied line (replies.Listing lines)) → lines ≡ listing after
step_lists w seat s after line lines does = subst ListsIn does (step_lists_in w seat s) line lines refl

-- the listing that a Go was replied, behind these entries, is of the world after its own entry too
pub reply_lists : (opened : World) (before : List Entry) (e : Entry) (actor line : ℕ) (lines : List GeomLine)
    (after : World) → e.step ≡ steps.Go actor
    → step (replay opened before) e.seat (steps.Go actor) ≡ Ok (after, outcomes.Replied line (replies.Listing lines))
    → lines ≡ listing (replay opened (before ++ e ∷ []))
reply_lists opened before e actor line lines after is does =
    let w : World = replay opened before in
    step_lists w e.seat (steps.Go actor) after line lines does
    ∙ ap (λ (v : World). listing v)
    (sym (replay-append opened before (e ∷ [])
    ∙ (ap (λ s. world_after w (step w e.seat s)) is ∙ ap (λ a. world_after w a) does)))

-- Entries of a legal log

answer_lists : (w : World) (seat : ℕ) (s : Step) (a : Answer) (o : Outcome) (line : ℕ) (lines : List GeomLine)
    → step w seat s ≡ a → IsOkAnd a (λ made. made.1 ≡ o) → o ≡ outcomes.Replied line (replies.Listing lines)
    → lines ≡ listing (world_after w a)
answer_lists w seat s (Ok made) o line lines does is told =
    step_lists w seat s made.0 line lines (does ∙ (λ i. Ok (made.0, (is ∙ told) i)))
answer_lists w seat s (Err f) o line lines does is told = absurd is

entry_lists : (w : World) (e : Entry) (line : ℕ) (lines : List GeomLine) → IsMade w e
    → e.outcome ≡ outcomes.Replied line (replies.Listing lines) → lines ≡ listing (after_entry w e)
entry_lists w e line lines made told =
    answer_lists w e.seat e.step (step w e.seat e.step) e.outcome line lines refl made told

-- so at each place of a legal log
place_lists : (w : World) (log : List Entry) (k : ℕ) (e : Entry) (line : ℕ) (lines : List GeomLine) → Legal w log
    → slice_get log k ≡ Some e → e.outcome ≡ outcomes.Replied line (replies.Listing lines)
    → lines ≡ listing (replay w (take (suc k) log))
place_lists w [] k e line lines legal there told = absurd (let bad : ⊥ = cc in bad)
place_lists w (d ∷ log) zero e line lines legal there told =
    let same : d ≡ e = cc in
    entry_lists w d line lines legal.0 (ap (λ (x : Entry). x.outcome) same ∙ told)
place_lists w (d ∷ log) (suc k) e line lines legal there told =
    place_lists (after_entry w d) log k e line lines legal.1 there told

pub replies_are_listings : RepliesAreListings
replies_are_listings opened log k e line lines legal there told =
    let next : suc k ≡ k + 1 = omega arith in
    subst (λ (n : ℕ). lines ≡ listing (replay opened (take n log))) next
    (place_lists opened log k e line lines legal there told)
