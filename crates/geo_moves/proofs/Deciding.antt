-- What is against steps of events, tastes and washes, by what is kept.
use Rattle.std.specs.Prelude.{◌≡◌, ℕ, ◌==◌, Bool, true, false, not, ◌&&◌, List, [], ◌∷◌, drop, find, Option, Some, None, Result, Ok, Err, OnOk, is_some, slice_get, if◌then◌else◌}
use Rattle.std.specs.List.{list_any}
use Rattle.std.specs.Option.{option_map, option_map_or, unwrap_or}
use Rattle.std.proofs.Common.{refl, sym, ◌∙◌, ap, rules}
use Rattle.std.proofs.lemmas.List.Sums.{length-filter}
use Rattle.geo_base.proofs.FindLists.{any-map, any-kept_some}
use Rattle.geo_base.specs.declared.request.Counts.{Counts}
use Rattle.geo_model.specs.declared.command.LineCommand.{LineCommand}
use Rattle.geo_model.specs.declared.step.Entry.{Entry}
use Rattle.geo_model.specs.declared.step.Event.{Event}
use Rattle.geo_model.specs.declared.step.Found.{Found}
use Rattle.geo_model.specs.declared.step.Found.TheVariants as found
use Rattle.geo_model.specs.declared.step.Outcome.TheVariants as outcomes
use Rattle.geo_model.specs.declared.step.WashWork.{WashWork}
use Rattle.geo_model.specs.Topology.{Topology}
use Rattle.geo_model.specs.World.{World, Config, Bio, BioOf, Taste, granted_in, is_active, is_done, is_read_out, is_taste_root}
use Rattle.geo_model.specs.Freeing.{wash_where, wash_work, wash}
use Rattle.geo_model.specs.Tasting.{judge_step}
use Rattle.geo_model.specs.Step.{Answer, event, event_of, judge_next, judge_of, taste_bio, wash_next}
use Rattle.geo_bio.specs.declared.bio.Held.{Held}
use Rattle.geo_log.specs.Places.{delivered_at}
use Rattle.geo_state.specs.Shown.{shown_bios, shown_bio}
use Rattle.geo_access.specs.Access.{granted_by}
use Rattle.geo_life.specs.Life.{is_out, AreStored}
use Rattle.geo_life.proofs.Places.{counts_are_stored}
use Rattle.geo_state.specs.declared.state.State.{State}
use Rattle.geo_state.specs.Trips.{trip_of, trips, out_through, taste_read, is_out as goes_through}
use Rattle.geo_state.specs.Holds.{Holds}
use Rattle.geo_state.specs.World.{world}
use Rattle.geo_state.specs.Steps.{Stands, against, IsAgainst, Makes}
use Rattle.geo_state.proofs.ViewLemmas.{states_show}
use Rattle.geo_moves.specs.Steps.{IsHead, HasDone, event_against, taste_against}
use Rattle.geo_moves.specs.Washing.{HasWashed}

-- Requests on their way, as the world has them

-- whether a request is out through a consumer, whatever the log has
active-is : (log : List Entry) (bios : List (BioOf Held)) (c : ℕ)
    → list_any (λ (x : Bio). (x.source == c) && not (is_done x.phase)) (shown_bios (delivered_at log) bios)
    ≡ not (out_through (trips bios) c == 0)
active-is log bios c =
    any-map (λ (x : Bio). (x.source == c) && not (is_done x.phase)) (shown_bio (delivered_at log)) bios
    ∙ sym (any-map (goes_through c) (trip_of {R = Held}) bios)
    ∙ any-kept_some (goes_through c) (trips bios)
    ∙ ap (λ n. not (n == 0)) (length-filter (goes_through c) (trips bios))

-- the number of the taste's read
pub read-is : (log : List Entry) (bios : List (BioOf Held))
    → option_map (λ (x : Bio). x.number) (find (λ x. is_taste_root x.owner) (shown_bios (delivered_at log) bios))
    ≡ taste_read (trips bios)
read-is log [] = refl
read-is log (x ∷ xs) = search (rules, read-is log xs)

-- Events

-- what is against an Event
pub event-found : (s : State) → IsAgainst event s (event_against (is_some s.taste) s.queue.events)
unfolding event
event-found s actors log = on (is_some s.taste) s.queue.events
  where
    w : World
    w = world actors log s

    on : (b : Bool) (q : List Event)
        → against (if b then Err found.TasteUnderWay else event_of w q) ≡ event_against b q
    on true q = refl
    on false [] = refl
    on false (e ∷ rest) = refl

-- where nothing is against it, no taste is under way
none-tasting : (b : Bool) (q : List Event) → event_against b q ≡ None → b ≡ false
none-tasting true q never = absurd cc
none-tasting false q due = refl

-- and an event waits
pub some-waits : (s : State) → IsAgainst event s None → slice_get s.queue.events 0 ≡ None → ⊥
some-waits s due none =
    on (is_some s.taste) s.queue.events none (sym (event-found s [] []) ∙ due [] [])
  where
    on : (b : Bool) (q : List Event) → slice_get q 0 ≡ None → event_against b q ≡ None → ⊥
    on true q none never = absurd cc
    on false [] none never = absurd cc
    on false (e ∷ rest) never due = absurd cc

-- no taste is there
pub none-tasted : (s : State) → IsAgainst event s None → s.taste ≡ None
none-tasted s due = by s.taste (none-tasting (is_some s.taste) s.queue.events (sym (event-found s [] []) ∙ due [] []))
  where
    by : (o : Option Taste) → is_some o ≡ false → o ≡ None
    by None e = refl
    by (Some t) never = absurd cc

-- a queue by its head
by-head : (q : List Event) (e : Event) → slice_get q 0 ≡ Some e → q ≡ e ∷ drop 1 q
by-head [] e never = absurd cc
by-head (x ∷ xs) e is = search rules

-- the head is done: that is the step
pub event-makes : (s new : State) (e : Event) → IsAgainst event s None → IsHead s e → HasDone s new e
    → (log : List Entry) → Makes event log s new outcomes.Ran
unfolding event
event-makes s new e due head done log actors =
    let w : World = world actors log s in
    ap (λ (b : Bool). let r : Answer = if b then Err found.TasteUnderWay else event_of w w.events in r)
    (none-tasting (is_some s.taste) s.queue.events (sym (event-found s [] []) ∙ due [] []))
    ∙ ap (event_of w) (by-head s.queue.events e head)
    ∙ ap (λ (x : World). let r : Answer = Ok (x, outcomes.Ran) in r) (sym (done actors log))

-- Tastes

-- what is against a Judge
pub judge-found : (s : State) → Holds s → IsAgainst judge_next s (taste_against s.read s.taste)
unfolding judge_next
judge-found s kept actors log = on s.taste
  where
    w : World
    w = world actors log s

    number : taste_bio w ≡ unwrap_or s.read 0
    number = search (rules, ap (λ o. unwrap_or o 0) (read-is log s.traffic.bios ∙ sym kept.read))

    by : (t : Taste) (b : Bool)
        → against (if b then Err (found.ReadOut (taste_bio w)) else Ok (judge_step w t))
        ≡ (if b then Some (found.ReadOut (unwrap_or s.read 0)) else None)
    by t true = ap (λ n. Some (found.ReadOut n)) number
    by t false = refl

    on : (o : Option Taste) → against (judge_of w o) ≡ taste_against s.read o
    on None = refl
    on (Some t) = by t (is_read_out t.asked)

-- where nothing is against it, a taste is there
pub taste-there : (s : State) → Holds s → IsAgainst judge_next s None → s.taste ≡ None → ⊥
taste-there s kept due none =
    let never : Some found.NoTaste ≡ None =
    sym (ap (taste_against s.read) none) ∙ sym (judge-found s kept [] []) ∙ due [] [] in
    cc

-- and no read of it is out
pub taste-idle : (s : State) → Holds s → IsAgainst judge_next s None → (t : Taste) → s.taste ≡ Some t
    → is_read_out t.asked ≡ false
taste-idle s kept due t is =
    by (is_read_out t.asked)
    (sym (ap (taste_against s.read) is) ∙ sym (judge-found s kept [] []) ∙ due [] [])
  where
    by : (b : Bool) → (if b then Some (found.ReadOut (unwrap_or s.read 0)) else None) ≡ None → b ≡ false
    by true never = absurd cc
    by false e = refl

-- Washes

-- what is against a wash of what can be washed
abbrev pub wash_against : Option WashWork → Option Found
wash_against None = Some found.NothingToWash
wash_against (Some work) = None

module _ (s : State) (stands : Stands s) where
  abbrev t : Topology Config
  t = s.topo.topology

  -- requests out are those of the world
  out-is : (actors : List (List LineCommand)) (log : List Entry) → is_out s.topo ≡ is_active (world actors log s)
  out-is actors log = λ i c. told c i
    where
      told : (c : ℕ) → is_out s.topo c ≡ is_active (world actors log s) c
      told c =
          (states_show stands.firm.0 s stands.firm.1.0 stands.kept stands.firm.1.1).active c
          ∙ active-is stands.firm.0 s.traffic.bios c
          ∙ sym (active-is log s.traffic.bios c)

  module _ (o : Option WashWork)
      (tells : (granted : ℕ → Counts) → AreStored granted s.topo → o ≡ wash_where granted (is_out s.topo) t) where
    -- what can be washed is what can be washed in the world
    pub work-is : (actors : List (List LineCommand)) (log : List Entry) → o ≡ wash_work (world actors log s)
    unfolding wash_work
    work-is actors log =
        tells (granted_by s.topo) (counts_are_stored s.topo (granted_by s.topo) stands.kept.counted (λ c. refl))
        ∙ ap (λ (g : ℕ → Counts). wash_where g (is_out s.topo) t) stands.kept.grants
        ∙ ap (λ (a : ℕ → Bool). wash_where (granted_in (world actors log s)) a t) (out-is actors log)

    -- what is against a Wash
    pub wash-found : IsAgainst wash_next s (wash_against o)
    unfolding wash_next
    wash-found actors log = on (wash_work (world actors log s)) ∙ ap wash_against (sym (work-is actors log))
      where
        on : (p : Option WashWork)
            → against (option_map_or (λ work. Ok (wash (world actors log s) work, outcomes.Ran)) p
            (Err found.NothingToWash)) ≡ wash_against p
        on None = refl
        on (Some work) = refl

    -- where nothing is against it, something can be washed
    pub some-work : IsAgainst wash_next s None → o ≡ None → ⊥
    some-work due none =
        let never : Some found.NothingToWash ≡ None =
        sym (ap wash_against none) ∙ sym (wash-found [] []) ∙ due [] [] in
        cc

  -- it is washed: that is the step
  pub wash-makes : (work : WashWork)
      → ((granted : ℕ → Counts) → AreStored granted s.topo → Some work ≡ wash_where granted (is_out s.topo) t)
      → (new : State) → HasWashed s new work → (log : List Entry) → Makes wash_next log s new outcomes.Ran
  unfolding wash_next
  wash-makes work tells new washed log actors =
      ap (λ (o : Option WashWork).
      let r : Answer = option_map_or (λ v. Ok (wash (world actors log s) v, outcomes.Ran)) o
      (Err found.NothingToWash) in
      r)
      (sym (work-is (Some work) tells actors log))
      ∙ ap (λ (x : World). let r : Answer = Ok (x, outcomes.Ran) in r) (sym (washed actors log))

-- What comes of a step

-- where the head was done, if it was, that is the step
pub event-made : {A E : Type 0} (s new : State) (e : Event) (r : Result A E) → IsAgainst event s None
    → IsHead s e → OnOk r (HasDone s new e) → (log : List Entry) → OnOk r (Makes event log s new outcomes.Ran)
event-made s new e (Ok x) due head done log = event-makes s new e due head done log
event-made s new e (Err x) due head done log = tt
