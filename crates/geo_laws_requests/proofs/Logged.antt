-- What the history tells of a bio stays, where a step names another or none.
use Rattle.std.specs.Prelude.{◌≡◌, ℕ, ◌||◌, ◌&&◌, Bool, true, false, List, [], ◌∷◌, ◌++◌, map, Option, Some, None, IsSomeAnd}
use Rattle.std.proofs.Common.{refl, ◌∙◌, ap}
use Rattle.std.proofs.lemmas.List.Elements.{All-append, All-from_recursion}
use Rattle.geo_model.specs.declared.step.BioResult.{BioResult}
use Rattle.geo_model.specs.declared.step.DeviceResult.{DeviceResult}
use Rattle.geo_model.specs.declared.step.Outcome.TheVariants as outcomes
use Rattle.geo_model.specs.declared.step.Phase.{Phase}
use Rattle.geo_model.specs.declared.step.Phase.TheVariants as phases
use Rattle.geo_model.specs.declared.step.Request.{Request}
use Rattle.geo_model.specs.declared.step.Step.{Step}
use Rattle.geo_model.specs.World.{World, Bio, children_of}
use Rattle.geo_model.specs.Log.{Moment}
use Rattle.geo_model.specs.Results.{Leaf, start_moment, request_of, entries_of, leaves, is_start_of, is_take_of, is_deliver_of, is_up_of}
use Rattle.geo_model.specs.History.{is_reply_to, is_reply}
use Rattle.geo_laws_requests.specs.Histories.{names_bio, Never, AnsweredAreTaken}
use Rattle.geo_laws_requests.proofs.Looks.{start_stays, request_stays}
use Rattle.geo_laws_requests.proofs.Finished.{finished_stay}
use Rattle.geo_laws_steps.specs.WayLaws.{SameMap}
use Rattle.geo_laws_requests.specs.Covering.{CoversThere}
use Rattle.geo_laws_requests.specs.Ledger.{IsLogged, SoFar, WasQueued, WasAsked, HasResult}
use Rattle.geo_laws_requests.proofs.Covered.{covers_stay}

-- the parts of a test that nothing passes
pub record NoneOf (a b c d : Bool) : Type 0 where
  pub start : a ≡ false
  pub take : b ≡ false
  pub deliver : c ≡ false
  pub up : d ≡ false

-- where none of four passes, each of them fails
none_of : (a b c d : Bool) → (a || (b || (c || d))) ≡ false → NoneOf a b c d
none_of true b c d e = absurd (let bad : ⊥ = cc in bad)
none_of false true c d e = absurd (let bad : ⊥ = cc in bad)
none_of false false true d e = absurd (let bad : ⊥ = cc in bad)
none_of false false false d e = record { start = refl; take = refl; deliver = refl; up = e }

-- a step that doesn't name a bio is none of its four
pub unnamed : (b : ℕ) (s : Step) → names_bio b s ≡ false
    → NoneOf (is_start_of b s) (is_take_of b s) (is_deliver_of b s) (is_up_of b s)
unnamed b s e = none_of (is_start_of b s) (is_take_of b s) (is_deliver_of b s) (is_up_of b s) e

-- one more moment that doesn't pass
pub never_so : (test : Step → Bool) (h : List Moment) (m : Moment)
    → Never test h → test m.entry.step ≡ false → Never test (h ++ m ∷ [])
never_so test h m never not_it =
    All-append (λ x. test x.entry.step ≡ false) h (m ∷ []) never
    (All-from_recursion (λ x. test x.entry.step ≡ false) (m ∷ []) (not_it, tt))

-- the Start that queued a bio is found later too
pub queued_stays : (h : List Moment) (m : Moment) (b : ℕ) → WasQueued h b → WasQueued (h ++ m ∷ []) b
queued_stays h m b queued = by (start_moment h b) refl queued
  where
    by : (o : Option Moment) → start_moment h b ≡ o
        → IsSomeAnd o (λ y. (disk : ℕ) × (y.entry.outcome ≡ outcomes.Queued disk)) → WasQueued (h ++ m ∷ []) b
    by None is some = absurd some
    by (Some y) is some = rw (start_stays h (m ∷ []) b y is) some

-- the history and the world go on together, and the bio x isn't named
pub record GoesOn (h : List Moment) (m : Moment) (w v : World) (x : Bio) : Type 0 where
  pub unnamed_by : names_bio x.number m.entry.step ≡ false
  pub children : map (λ y. y.number) (children_of v x.number) ≡ map (λ y. y.number) (children_of w x.number)
  pub its_map : SameMap w.topology v.topology x.target
  pub taken : AnsweredAreTaken h

-- what a Take asked still covers the bio
asked_stays : (h : List Moment) (m : Moment) (w v : World) (x : Bio) → GoesOn h m w v x → WasAsked h w x
    → WasAsked (h ++ m ∷ []) v x
asked_stays h m w v x on was = record {
  queued = queued_stays h m x.number was.queued;
  undelivered = never_so (is_deliver_of x.number) h m was.undelivered
      (unnamed x.number m.entry.step on.unnamed_by).deliver;
  asked = by (request_of (entries_of h) x.number) refl was.asked;
}
  where
    leaf : Request → DeviceResult → List Leaf
    leaf q got = record { bio = x.number; request = q; got = got } ∷ []

    by : (o : Option Request) → request_of (entries_of h) x.number ≡ o
        → IsSomeAnd o (λ q. (got : DeviceResult) → CoversThere w x (leaf q got))
        → IsSomeAnd (request_of (entries_of (h ++ m ∷ [])) x.number)
        (λ q. (got : DeviceResult) → CoversThere v x (leaf q got))
    by None is some = absurd some
    by (Some q) is some =
        rw (request_stays h (m ∷ []) x.number q is) (λ got. covers_stay w v x (leaf q got) on.its_map (some got))

-- the result of a bio stays, and what it covers
pub result_stays : (h : List Moment) (m : Moment) (w v : World) (x : Bio) (r : BioResult) → GoesOn h m w v x
    → HasResult h w x r → HasResult (h ++ m ∷ []) v x r
result_stays h m w v x r on has = record {
  is = finished_stay.results h (m ∷ []) x.number r has.is;
  covers = λ success.
      rw (finished_stay.leaves h (m ∷ []) x.number r on.taken has.is)
      (covers_stay w v x (leaves h x.number) on.its_map (has.covers success));
}

-- so for one that may be there
some_stays : (h : List Moment) (m : Moment) (w v : World) (x : Bio) → GoesOn h m w v x → (o : Option BioResult)
    → IsSomeAnd o (HasResult h w x) → IsSomeAnd o (HasResult (h ++ m ∷ []) v x)
some_stays h m w v x on None some = absurd some
some_stays h m w v x on (Some r) some = result_stays h m w v x r on some

-- by its phase
so_far_stays : (h : List Moment) (m : Moment) (w v : World) (x : Bio) → GoesOn h m w v x → (p : Phase)
    → SoFar h w x p → SoFar (h ++ m ∷ []) v x p
so_far_stays h m w v x on phases.Down so =
    let none = unnamed x.number m.entry.step on.unnamed_by in (
      never_so (is_start_of x.number) h m so.0 none.start,
      never_so (is_take_of x.number) h m so.1 none.take,
      never_so (is_deliver_of x.number) h m so.2 none.deliver,
    )
so_far_stays h m w v x on phases.Sent so =
    let none = unnamed x.number m.entry.step on.unnamed_by in (
      queued_stays h m x.number so.0,
      never_so (is_take_of x.number) h m so.1 none.take,
      never_so (is_deliver_of x.number) h m so.2 none.deliver,
    )
so_far_stays h m w v x on (phases.Busy seat) so = asked_stays h m w v x on so
so_far_stays h m w v x on phases.Waiting so = record {
  moment = so.moment;
  first = so.first;
  count = so.count;
  is = start_stays h (m ∷ []) x.number so.moment so.is;
  outcome = so.outcome;
  children = on.children ∙ so.children;
  cmd = so.cmd;
}
so_far_stays h m w v x on phases.Up so = some_stays h m w v x on x.result so
so_far_stays h m w v x on phases.Done so = some_stays h m w v x on x.result so

-- a step that isn't the Up of a bio is no reply to it
pub no_reply : (b : ℕ) (m : Moment) → names_bio b m.entry.step ≡ false → is_reply_to b m.entry ≡ false
no_reply b m e = ap (λ c. c && is_reply m.entry.outcome) (unnamed b m.entry.step e).up

-- what the history tells of a bio stays
pub logged_stays : (h : List Moment) (m : Moment) (w v : World) (x : Bio) → GoesOn h m w v x → IsLogged h w x
    → IsLogged (h ++ m ∷ []) v x
logged_stays h m w v x on logged = record {
  unreplied = All-append (λ y. is_reply_to x.number y.entry ≡ false) h (m ∷ []) logged.unreplied
      (All-from_recursion (λ y. is_reply_to x.number y.entry ≡ false) (m ∷ []) (no_reply x.number m on.unnamed_by, tt));
  so_far = so_far_stays h m w v x on x.phase logged.so_far;
}
