-- The fixed order goes on until rest, and each order that does comes to an end.
use Rattle.std.specs.Prelude.{◌≡◌, ◌⊎◌, ℕ, zero, suc, ◌+◌, ◌<◌, ◌≤◌, ◌==◌, Bool, true, false, ◌&&◌, ◌||◌, List, [], ◌∷◌, map, Option, Some, None, Contains, IsSome, IsTrue, is_none, nat_le, ◌++◌, length, find, flat_map, Err, Ok, IsSomeAnd, is_some, is_ok, option_map, slice_get, if◌then◌else◌, nat_lt, IsOkAnd}
use Rattle.std.specs.List.{AllByRecursion, list_all, list_any, enumerate_from}
use Rattle.std.specs.Option.{option_map_or, option_or}
use Rattle.std.proofs.Common.{inl, inr, refl, sym, ap, subst, arith, ◌∙◌}
use Rattle.std.proofs.lemmas.Bool.{cases_Bool, eqb-true, and_parts, eq-eqb, and_right, ltb-true}
use Rattle.std.proofs.lemmas.List.Elements.{All-contains, recursion_from_All, All-from_recursion}
use Rattle.geo_base.proofs.AllLists.{all_appended}
use Rattle.geo_base.proofs.FindLists.{none_passes}
use Rattle.geo_base.proofs.Options.{is_nothing}
pub use Rattle.geo_base.proofs.Options.{none-mapped as from_none}
use Rattle.geo_model.specs.declared.step.Owner.{Owner}
use Rattle.geo_model.specs.declared.step.Owner.TheVariants as owners
use Rattle.geo_model.specs.declared.step.Phase.{Phase}
use Rattle.geo_model.specs.declared.step.Phase.TheVariants as phases
use Rattle.geo_model.specs.World.{World, Bio, bio_at, children_of, is_up, is_down, is_sent, is_busy, is_waiting, is_done, is_child_of, is_root, Taste, is_read_out, is_taste_root, Plan}
use Rattle.geo_model.specs.Bios.{disk_of_bio, busy_bio}
use Rattle.geo_model.specs.SoundBios.{IsFamilyInOrder, HasItsParent}
use Rattle.geo_model.specs.Steady.{ComesFromItsOwner}
use Rattle.geo_model.specs.Order.{is_to_take, Rest, is_at_rest, pick, first_bio, take_step, if_enabled, next_line, earliest, ready_actor, ready_actors, numbers_of, comes_before, measure, IsLess}
use Rattle.geo_model.specs.Fitting.{Firm}
use Rattle.geo_model.specs.Laws.{NoneBusy, Lowers, is_of_consumer, is_offer, is_early_wash, PickGoesOn, OrderEnds, OrderGoesOn, world_by}
use Rattle.geo_model.proofs.DemandLemmas.{find_passes}
use Rattle.geo_model.specs.declared.command.Command.{Command}
use Rattle.geo_model.specs.declared.command.Command.TheVariants as commands
use Rattle.geo_model.specs.declared.command.LineCommand.{LineCommand}
use Rattle.geo_model.specs.declared.step.Event.{Event}
use Rattle.geo_model.specs.declared.step.Found.{Found}
use Rattle.geo_model.specs.declared.step.Found.TheVariants as refusals
use Rattle.geo_model.specs.declared.step.Outcome.{Outcome}
use Rattle.geo_model.specs.declared.step.Outcome.TheVariants as outcomes
use Rattle.geo_model.specs.declared.step.Step.{Step}
use Rattle.geo_model.specs.declared.step.Step.TheVariants as steps
use Rattle.geo_model.specs.Tasting.{judge_step}
use Rattle.geo_model.specs.Freeing.{reap, reap_work, wash, wash_work}
use Rattle.geo_model.specs.Step.{own_bio, is_unsettled, waits_for, go, event_of, event, taste_bio, judge_of, judge_next, reap_next, wash_next, take_found, step, is_enabled, Answer}
use Rattle.geo_model.specs.Opening.{opening}
use Rattle.geo_model.specs.Log.{replay, Legal}
use Rattle.geo_model.specs.declared.step.Entry.{Entry}
use Rattle.geo_model.specs.Plans.{MayBegin, FactsFit}
use Rattle.geo_model.specs.FixedOrder.{StepOrder, taken_in}
use Rattle.geo_model.proofs.LogLemmas.{Legal-append, replay-append}
use Rattle.geo_model.proofs.RestLemmas.{pick-rest}
use Rattle.geo_laws_graph.proofs.Members.{Origin, Contains-map, Contains-here, Contains-there, at_contained, filter-Contains, find-Contains, has}
use Rattle.geo_laws_graph.proofs.Lists.{found_itself}
use Rattle.geo_laws_life.proofs.Found.{found-with}
use Rattle.geo_laws_steps.proofs.Logs.{firm_after}
use Rattle.geo_laws_steps.proofs.Stepped.{steps_stay_firm}
use Rattle.geo_laws_rest.proofs.EachStep.{steps_lower, AreIdle, step_idle, take_idle}
use Rattle.geo_laws_rest.specs.RestLaws.{NoneFallsForEver, AddsToLog, LeadsTo, IsRound, IsRoundOf, FixedOrderEnds, OrdersEnd}

-- where not all items pass, one doesn't
fails_step : {X : Type 0} (test : X → Bool) (x : X) (xs : List X) (b : Bool) → test x ≡ b
    → list_all test (x ∷ xs) ≡ false → (list_all test xs ≡ false → Origin (λ (y : X). test y ≡ false) xs)
    → Origin (λ (y : X). test y ≡ false) (x ∷ xs)
fails_step test x xs true e some rest =
    let o = rest (rw e at some) in
    record { item = o.item; stands = Contains-there x o.item xs o.stands; fact = o.fact }
fails_step test x xs false e some rest = record { item = x; stands = Contains-here x xs; fact = e }

-- so for the whole list
one_fails : {X : Type 0} (test : X → Bool) (xs : List X) → list_all test xs ≡ false
    → Origin (λ (y : X). test y ≡ false) xs
one_fails test [] some = absurd (let no : ⊥ = cc in no)
one_fails test (x ∷ xs) some = fails_step test x xs (test x) refl some (λ e. one_fails test xs e)

-- a phase in which nobody can make a step of the bio is Waiting or Done
stuck_phase : (phase : Phase) → is_up phase ≡ false → is_down phase ≡ false → is_sent phase ≡ false
    → is_busy phase ≡ false → (is_waiting phase ≡ true) ⊎ (is_done phase ≡ true)
stuck_phase phases.Waiting up down sent busy = inl refl
stuck_phase phases.Done up down sent busy = inr refl
stuck_phase _ up down sent busy = absurd (let no : ⊥ = cc in no)

-- one that is done doesn't wait
not_both : (phase : Phase) → is_done phase ≡ false → (is_waiting phase ≡ true) ⊎ (is_done phase ≡ true)
    → is_waiting phase ≡ true
not_both phase not_done either = elim either [
  | inl waits ↦ waits
  | inr done ↦ absurd (let no : ⊥ = cc in no)
]

module _ (w : World) (firm : Firm w) (idle : NoneBusy w) where
  -- a child has a greater number than its parent
  child_above : (y : Bio) (b : ℕ) (o : Owner) → ComesFromItsOwner w.handles w.taste y o → is_child_of o b ≡ true
      → b < y.number
  child_above y b (owners.Child parent index) comes child =
      let is : parent ≡ b = eqb-true parent b child in subst (λ (n : ℕ). n < y.number) is comes
  child_above y b _ comes child = absurd (let no : ⊥ = cc in no)

  -- the family of a bio is in order
  family : (x : Bio) → Contains w.bios x → IsFamilyInOrder w.topology w.bios x
  family x here = All-contains (IsFamilyInOrder w.topology w.bios) w.bios x firm.bios.families here

  -- no bio is Busy
  not_busy : (x : Bio) → Contains w.bios x → is_busy x.phase ≡ false
  not_busy x here = All-contains (λ (y : Bio). is_busy y.phase ≡ false) w.bios x idle here

  -- so no disk has one, by what is found
  pub free_by : (d : ℕ) (o : Option Bio) → busy_bio w d ≡ o → is_none o ≡ true
  free_by d None e = refl
  free_by d (Some y) e =
      let here = find-Contains (λ (x : Bio). is_busy x.phase && option_map_or (λ (n : ℕ). n == d)
      (disk_of_bio w x) false) w.bios y e in
      let passes = find_passes (λ (x : Bio). is_busy x.phase && option_map_or (λ (n : ℕ). n == d) (disk_of_bio w x)
      false) w.bios y e in
      let busy = (and_parts (is_busy y.phase) (option_map_or (λ (n : ℕ). n == d) (disk_of_bio w y) false) passes).0 in
      let quiet = not_busy y here in
      absurd (let no : ⊥ = cc in no)

  module _ (no_up : AllByRecursion (λ (x : Bio). is_up x.phase ≡ false) w.bios)
      (no_take : AllByRecursion (λ (x : Bio). is_to_take w x ≡ false) w.bios)
      (no_down : AllByRecursion (λ (x : Bio). is_down x.phase ≡ false) w.bios) where
    -- nor is any Sent: it could be taken
    sent_by : (x : Bio) → Contains w.bios x → (b : Bool) → is_sent x.phase ≡ b → b ≡ false
    sent_by x here false e = refl
    sent_by x here true e =
        let at_disk : IsSome (disk_of_bio w x) =
        All-contains (λ (y : Bio). IsTrue (is_sent y.phase || is_busy y.phase) → IsSome (disk_of_bio w y)) w.bios x
        firm.bios.disks.at_disk here (rw e refl) in
        let d = has (disk_of_bio w x) at_disk in
        let can_take : is_to_take w x ≡ true = rw (e, d.is) (free_by d.item (busy_bio w d.item) refl) in
        let cannot = at_contained (λ (y : Bio). is_to_take w y ≡ false) w.bios x no_take here in
        absurd (let no : ⊥ = cc in no)

    -- so each bio waits or is done
    stuck : (x : Bio) → Contains w.bios x → (is_waiting x.phase ≡ true) ⊎ (is_done x.phase ≡ true)
    stuck x here =
        stuck_phase x.phase (at_contained (λ (y : Bio). is_up y.phase ≡ false) w.bios x no_up here)
        (at_contained (λ (y : Bio). is_down y.phase ≡ false) w.bios x no_down here)
        (sent_by x here (is_sent x.phase) refl) (not_busy x here)

    -- none waits: it would have a child of a greater number that waits
    none_waits : (steps : ℕ) (x : Bio) → Contains w.bios x → is_waiting x.phase ≡ true → w.next_bio ≤ x.number + steps
        → ⊥
    none_waits zero x here waits high =
        let low : x.number < w.next_bio =
        All-contains (λ n. n < w.next_bio) (map (λ (y : Bio). y.number) w.bios) x.number firm.bios.numbers.1
        (Contains-map (λ (y : Bio). y.number) w.bios x here) in
        omega (arith, high, low)
    none_waits (suc steps) x here waits high =
        let o = one_fails (λ (y : Bio). is_done y.phase) (children_of w x.number)
        ((family x here).not_complete waits) in
        let child = filter-Contains (λ (y : Bio). is_child_of y.owner x.number) w.bios o.item o.stands in
        let comes : ComesFromItsOwner w.handles w.taste o.item o.item.owner =
        All-contains (λ (y : Bio). ComesFromItsOwner w.handles w.taste y y.owner) w.bios o.item firm.bios.owners
        child.0 in
        let above = child_above o.item x.number o.item.owner comes child.1 in
        none_waits steps o.item child.0 (not_both o.item.phase o.fact (stuck o.item child.0))
        (omega (arith, high, above))

    -- nor is any done: its parent would wait
    none_done : (x : Bio) → Contains w.bios x → is_done x.phase ≡ true → (o : Owner) → x.owner ≡ o → ⊥
    none_done x here done (owners.Child parent index) own =
        let parent_waits : HasItsParent w.bios (owners.Child parent index) =
        subst (HasItsParent w.bios) own (family x here).parent in
        let y = found-with (bio_at w parent) (λ z. IsTrue (is_waiting z.phase)) parent_waits in
        none_waits w.next_bio y.item (find-Contains (λ (z : Bio). z.number == parent) w.bios y.item y.is) y.fact
        (omega arith)
    none_done x here done _ own =
        let not_done : is_done x.phase ≡ false = (family x here).root (ap is_root own) in let no : ⊥ = cc in no

    -- so there is no bio
    pub no_bios : (bios : List Bio) → w.bios ≡ bios → bios ≡ []
    no_bios [] is = refl
    no_bios (x ∷ xs) is =
        let here : Contains w.bios x = subst (λ (ys : List Bio). Contains ys x) (sym is) (Contains-here x xs) in
        absurd (elim (stuck x here) [
          | inl waits ↦ none_waits w.next_bio x here waits (omega arith)
          | inr done ↦ none_done x here done x.owner refl
        ])

-- Where a legal log leads without a Busy bio, and not to rest, the fixed order gives an enabled step that lowers the
-- measure.

-- what an order wants of its step
abbrev pub IsGood : World → Step → Type 0
IsGood w s = IsTrue (is_enabled w 0 s) × Lowers w 0 s

-- the first of two, where each that may come first is good
pub first_of : (w : World) (a b : Option Step) → ((s : Step) → a ≡ Some s → IsGood w s)
    → (a ≡ None → IsSomeAnd b (IsGood w)) → IsSomeAnd (option_or a b) (IsGood w)
first_of w None b one rest = rest refl
first_of w (Some s) b one rest = one s refl

-- what is made of something is made of what is there
pub from_some : {X : Type 0} (f : X → Step) (o : Option X) (P : Step → Type 0) → ((x : X) → o ≡ Some x → P (f x))
    → (s : Step) → option_map f o ≡ Some s → P s
from_some f None P so s e = absurd (let no : ⊥ = cc in no)
from_some f (Some x) P so s e = let same : f x ≡ s = cc in subst P same (so x refl)

-- a step that is given where it is enabled
pub given : (w : World) (s : Step) (P : Step → Type 0) → (IsTrue (is_enabled w 0 s) → P s) → (b : Bool)
    → is_enabled w 0 s ≡ b → (r : Step) → (if b then Some s else None) ≡ Some r → P r
given w s P so true e r is = let same : s ≡ r = cc in subst P same (so e)
given w s P so false e r is = absurd (let no : ⊥ = cc in no)

-- one that isn't given isn't enabled
pub withheld : (s : Step) (b : Bool) → (if b then Some s else None) ≡ None → b ≡ false
withheld s true e = absurd (let no : ⊥ = cc in no)
withheld s false e = refl

-- Bios

module _ (w : World) (firm : Firm w) where
  -- a bio that is found is the one of its number
  itself : (test : Bio → Bool) (x : Bio) → find test w.bios ≡ Some x → bio_at w x.number ≡ Some x
  itself test x found =
      found_itself (λ (y : Bio). y.number) w.next_bio w.bios x firm.bios.numbers
      (find-Contains test w.bios x found)

  -- one that is Up goes up
  up_enabled : (x : Bio) → bio_at w x.number ≡ Some x → is_up x.phase ≡ true → is_enabled w 0 (steps.Up x.number) ≡ true
  unfolding step
  up_enabled x found is = rw (found, is) refl

  -- one that is Down starts
  start_enabled : (x : Bio) → bio_at w x.number ≡ Some x → is_down x.phase ≡ true
      → is_enabled w 0 (steps.Start x.number) ≡ true
  unfolding step
  start_enabled x found is = rw (found, is) refl

  -- one that can be taken is taken, by its disk
  pub take_by : (x : Bio) → bio_at w x.number ≡ Some x → is_sent x.phase ≡ true → (o : Option ℕ) → disk_of_bio w x ≡ o
      → option_map_or (λ d. is_none (busy_bio w d)) o false ≡ true
      → is_enabled w 0 (steps.Take (option_map_or (λ d. d) o 0) x.number) ≡ true
  unfolding step
  take_by x found sent None at free = absurd (let no : ⊥ = cc in no)
  take_by x found sent (Some d) at free =
      let none : busy_bio w d ≡ None = is_nothing (busy_bio w d) free in
      let same : (d == d) ≡ true = eq-eqb d d refl in
      let against : take_found w d x ≡ None = rw (sent, at, same, none) refl in
      rw (found, against) refl

  -- so
  take_enabled : (x : Bio) → bio_at w x.number ≡ Some x → is_to_take w x ≡ true → is_enabled w 0 (take_step w x) ≡ true
  take_enabled x found is =
      let both = and_parts (is_sent x.phase) (option_map_or (λ d. is_none (busy_bio w d)) (disk_of_bio w x) false) is in
      take_by x found both.0 (disk_of_bio w x) refl both.1

-- What isn't enabled

-- a Judge isn't, with a taste: its read is out
judge_waits : (w : World) (s : Taste) (b : Bool)
    → is_ok {T = World × Outcome} {E = Found}
    (if b then Err (refusals.ReadOut (taste_bio w)) else Ok (judge_step w s)) ≡ false
    → b ≡ true
judge_waits w s true e = refl
judge_waits w s false e = absurd (let no : ⊥ = cc in no)

-- then some bio is the root of the taste, and without bios there is no taste
pub no_taste : (w : World) → Firm w → w.bios ≡ [] → (o : Option Taste) → w.taste ≡ o → is_ok (judge_of w o) ≡ false
    → w.taste ≡ None
no_taste w firm none None is e = is
no_taste w firm none (Some s) is e =
    let out : is_read_out s.asked ≡ true = judge_waits w s (is_read_out s.asked) e in
    let wants : option_map_or (λ (t : Taste). is_read_out t.asked) w.taste false ≡ true =
    ap (λ (o : Option Taste). option_map_or (λ (t : Taste). is_read_out t.asked) o false) is ∙ out in
    let has_root : list_any (λ (x : Bio). is_taste_root x.owner) w.bios ≡ true =
    firm.bios.read_out.1 wants in
    let has_none : list_any (λ (x : Bio). is_taste_root x.owner) w.bios ≡ false =
    ap (list_any (λ (x : Bio). is_taste_root x.owner)) none in
    absurd (let no : ⊥ = cc in no)

-- an Event isn't, without a taste: the queue is empty
no_events : (w : World) (es : List Event) → is_ok (event_of w es) ≡ false → es ≡ []
no_events w [] e = refl
no_events w (x ∷ es) e = absurd (let no : ⊥ = cc in no)

-- so by whether a taste is under way
pub no_events_by : (w : World) → w.taste ≡ None
    → is_ok {T = World × Outcome} {E = Found}
    (if is_some w.taste then Err refusals.TasteUnderWay else event_of w w.events) ≡ false
    → w.events ≡ []
no_events_by w none e =
    let quiet : is_some w.taste ≡ false = ap (λ (o : Option Taste). is_some o) none in
    no_events w w.events (rw quiet at e)

-- a Reap or a Wash isn't: there is nothing to do
none_to_do : {X : Type 0} (made : X → World × Outcome) (why : Found) (o : Option X)
    → is_ok {T = World × Outcome} {E = Found} (option_map_or (λ x. Ok (made x)) o (Err why)) ≡ false → o ≡ None
none_to_do made why None e = refl
none_to_do made why (Some x) e = absurd (let no : ⊥ = cc in no)

-- What the steps that aren't enabled say

module _ (w : World) where
  -- of a Judge
  pub judge_not : is_enabled w 0 steps.Judge ≡ false → is_ok (judge_of w w.taste) ≡ false
  unfolding step judge_next
  judge_not e = e

  -- of an Event
  pub event_not : is_enabled w 0 steps.Event ≡ false
      → is_ok {T = World × Outcome} {E = Found}
      (if is_some w.taste then Err refusals.TasteUnderWay else event_of w w.events) ≡ false
  unfolding step event
  event_not e = e

  -- of a Reap
  pub reap_not : is_enabled w 0 steps.Reap ≡ false → reap_work w ≡ None
  unfolding step reap_next
  reap_not e = none_to_do (λ h. (reap w h, outcomes.Ran)) refusals.NothingToReap (reap_work w) e

  -- of a Wash
  pub wash_not : is_enabled w 0 steps.Wash ≡ false → wash_work w ≡ None
  unfolding step wash_next
  wash_not e = none_to_do (λ work. (wash w work, outcomes.Ran)) refusals.NothingToWash (wash_work w) e

-- Actors

-- the earliest of some has what they all have
earliest_fact : (P : ℕ → Type 0) (items : List (ℕ × ℕ)) → AllByRecursion (λ item. P item.0) items → (actor : ℕ)
    → earliest items ≡ Some actor → P actor
earliest_fact P [] facts actor e = absurd (let no : ⊥ = cc in no)
earliest_fact P (item ∷ rest) facts actor e =
    elim (cases_Bool (list_all (λ (other : ℕ × ℕ). nat_le item.1 other.1) rest)) [
      | inl least ↦
          (let is : Some item.0 ≡ Some actor = rw least at e in let same : item.0 ≡ actor = cc in subst P same facts.0)
      | inr more ↦ earliest_fact P rest facts.1 actor (rw more at e)
    ]

-- of some there is an earliest
earliest_some : (item : ℕ × ℕ) (rest : List (ℕ × ℕ)) → earliest (item ∷ rest) ≡ None → ⊥
earliest_some item [] e = let no : ⊥ = cc in no
earliest_some item (other ∷ rest) e =
    elim (cases_Bool (list_all (λ (x : ℕ × ℕ). nat_le item.1 x.1) (other ∷ rest))) [
      | inl least ↦ (let is : Some item.0 ≡ None = rw least at e in let no : ⊥ = cc in no)
      | inr more ↦ earliest_some other rest (rw more at e)
    ]

-- where there is none, there are none
pub earliest_none : (items : List (ℕ × ℕ)) → earliest items ≡ None → items ≡ []
earliest_none [] e = refl
earliest_none (item ∷ rest) e = absurd (earliest_some item rest e)

module _ (w : World) where
  -- an actor that is ready is enabled, by whether it is
  ready_by : (actor line : ℕ) (b : Bool) → is_enabled w 0 (steps.Go actor) ≡ b
      → AllByRecursion (λ (item : ℕ × ℕ). IsTrue (is_enabled w 0 (steps.Go item.0)))
      (if b then (actor, line) ∷ [] else [])
  ready_by actor line true e = (e, tt)
  ready_by actor line false e = tt

  -- by its next line
  ready_line : (actor : ℕ) (o : Option ℕ)
      → AllByRecursion (λ (item : ℕ × ℕ). IsTrue (is_enabled w 0 (steps.Go item.0)))
      (option_map_or (λ line. if is_enabled w 0 (steps.Go actor) then (actor, line) ∷ [] else []) o [])
  ready_line actor None = tt
  ready_line actor (Some line) = ready_by actor line (is_enabled w 0 (steps.Go actor)) refl

  -- so all of them
  ready_enabled : (items : List (ℕ × List LineCommand))
      → AllByRecursion (λ (item : ℕ × ℕ). IsTrue (is_enabled w 0 (steps.Go item.0))) (flat_map (ready_actor w) items)
  ready_enabled [] = tt
  ready_enabled (item ∷ items) =
      all_appended (λ (x : ℕ × ℕ). IsTrue (is_enabled w 0 (steps.Go x.0))) (ready_actor w item)
      (flat_map (ready_actor w) items) (ready_line item.0 (next_line item.1)) (ready_enabled items)

  -- Where all else is done

  module _ (bios : w.bios ≡ []) (events : w.events ≡ []) (taste : w.taste ≡ None) (reaps : reap_work w ≡ None)
      (washes : wash_work w ≡ None) where
    -- nothing is out of an actor
    own_none : (actor : ℕ) → own_bio w actor ≡ None
    own_none actor = rw bios refl

    -- all is settled
    settled : is_unsettled w ≡ false
    settled = rw (reaps, washes, events, taste, bios) refl

    -- so no command waits
    waits_none : (actor : ℕ) (c : Command) → waits_for w actor c ≡ None
    waits_none actor commands.Sync = rw (own_none actor) refl
    waits_none actor commands.Settle = rw settled refl
    waits_none actor _ = refl

    -- and the next command of an actor goes
    go_enabled : (actor : ℕ) (c : LineCommand) (rest : List LineCommand)
        → slice_get w.actors actor ≡ Some (c ∷ rest) → is_enabled w 0 (steps.Go actor) ≡ true
    unfolding step go
    go_enabled actor c rest at = rw (at, waits_none actor c.command) refl

    -- an actor with a command is ready
    left_step : (k : ℕ) (c : LineCommand) (rest : List LineCommand) (others : List (ℕ × ℕ))
        → slice_get w.actors k ≡ Some (c ∷ rest) → ready_actor w (k, c ∷ rest) ++ others ≡ [] → ⊥
    left_step k c rest others at none =
        let ready : ready_actor w (k, c ∷ rest) ≡ (k, c.line) ∷ [] = rw (go_enabled k c rest at) refl in
        let some : (k, c.line) ∷ others ≡ [] = ap (λ (xs : List (ℕ × ℕ)). xs ++ others) (sym ready) ∙ none in
        let no : ⊥ = cc in no

    -- so where none is ready, no command is left
    none_left : (k : ℕ) (actors : List (List LineCommand))
        → ((j : ℕ) (cs : List LineCommand) → slice_get actors j ≡ Some cs → slice_get w.actors (k + j) ≡ Some cs)
        → flat_map (ready_actor w) (enumerate_from k actors) ≡ []
        → list_all (λ (rest : List LineCommand). length rest == 0) actors ≡ true
    none_left k [] at none = refl
    none_left k ([] ∷ actors) at none =
        none_left (k + 1) actors (λ j cs e.
        let number : k + suc j ≡ k + 1 + j = omega arith in
        subst (λ (n : ℕ). slice_get w.actors n ≡ Some cs) number (at (suc j) cs e)) none
    none_left k ((c ∷ rest) ∷ actors) at none =
        let number : k + 0 ≡ k = omega arith in
        absurd (left_step k c rest (flat_map (ready_actor w) (enumerate_from (k + 1) actors))
        (subst (λ (n : ℕ). slice_get w.actors n ≡ Some (c ∷ rest)) number (at 0 (c ∷ rest) refl)) none)

    -- and all is at rest
    pub at_rest : ready_actors w ≡ [] → Rest w
    unfolding is_at_rest
    at_rest none =
        let all = none_left 0 w.actors (λ j cs e.
        let number : j ≡ 0 + j = omega arith in
        subst (λ (n : ℕ). slice_get w.actors n ≡ Some cs) number e) none in
        rw (all, reaps, washes, events, taste, bios) refl

-- The pick

module _ (w : World) (firm : Firm w) (idle : NoneBusy w) (busy : Rest w → ⊥) where
  -- a step that isn't a Wash is good where it is enabled
  pub good : (s : Step) → is_early_wash w s ≡ false → is_enabled w 0 s ≡ true → IsGood w s
  good s late enabled = (enabled, steps_lower w 0 s firm enabled late)

  -- a bio goes up
  pub goes_up : (s : Step) → first_bio w (λ x. is_up x.phase) (λ x. steps.Up x.number) ≡ Some s → IsGood w s
  goes_up =
      from_some (λ (x : Bio). steps.Up x.number) (find (λ (x : Bio). is_up x.phase) w.bios) (IsGood w)
      (λ x found. good (steps.Up x.number) refl
      (up_enabled w firm x (itself w firm (λ (y : Bio). is_up y.phase) x found)
      (find_passes (λ (y : Bio). is_up y.phase) w.bios x found)))

  -- it is taken
  is_taken : (s : Step) → first_bio w (is_to_take w) (take_step w) ≡ Some s → IsGood w s
  is_taken =
      from_some (take_step w) (find (is_to_take w) w.bios) (IsGood w)
      (λ x found. good (take_step w x) refl
      (take_enabled w firm x (itself w firm (is_to_take w) x found) (find_passes (is_to_take w) w.bios x found)))

  -- it starts
  pub starts : (s : Step) → first_bio w (λ x. is_down x.phase) (λ x. steps.Start x.number) ≡ Some s → IsGood w s
  starts =
      from_some (λ (x : Bio). steps.Start x.number) (find (λ (x : Bio). is_down x.phase) w.bios) (IsGood w)
      (λ x found. good (steps.Start x.number) refl
      (start_enabled w firm x (itself w firm (λ (y : Bio). is_down y.phase) x found)
      (find_passes (λ (y : Bio). is_down y.phase) w.bios x found)))

  -- a step that is tried, but a Wash
  pub tried : (s : Step) → is_early_wash w s ≡ false → (r : Step) → if_enabled w s ≡ Some r → IsGood w r
  tried s late = given w s (IsGood w) (good s late) (is_enabled w 0 s) refl

  -- without bios, tastes and events a Wash isn't early
  pub late : w.taste ≡ None → w.events ≡ [] → is_early_wash w steps.Wash ≡ false
  late taste events =
      and_right (is_of_consumer (wash_work w)) (is_some w.taste || list_any is_offer w.events)
      (rw (taste, events) refl)

  -- an actor goes
  pub goes : (s : Step) → option_map (λ actor. steps.Go actor) (earliest (ready_actors w)) ≡ Some s → IsGood w s
  goes =
      from_some (λ (actor : ℕ). steps.Go actor) (earliest (ready_actors w)) (IsGood w)
      (λ actor found. good (steps.Go actor) refl
      (earliest_fact (λ (n : ℕ). is_enabled w 0 (steps.Go n) ≡ true) (ready_actors w)
      (ready_enabled w (enumerate_from 0 w.actors)) actor found))

  -- so the first that is enabled is good
  pick_good : IsSomeAnd (pick w) (IsGood w)
  unfolding pick
  pick_good =
      first_of w _ _ goes_up (λ no_up.
      first_of w _ _ is_taken (λ no_take.
      first_of w _ _ starts (λ no_down.
      let bios : w.bios ≡ [] =
      no_bios w firm idle
      (none_passes (λ (x : Bio). is_up x.phase) w.bios (from_none (λ (x : Bio). steps.Up x.number) _ no_up))
      (none_passes (is_to_take w) w.bios (from_none (take_step w) _ no_take))
      (none_passes (λ (x : Bio). is_down x.phase) w.bios (from_none (λ (x : Bio). steps.Start x.number) _ no_down))
      w.bios refl in
      first_of w _ _ (tried steps.Judge refl) (λ no_judge.
      let taste : w.taste ≡ None =
      no_taste w firm bios w.taste refl (judge_not w (withheld steps.Judge (is_enabled w 0 steps.Judge) no_judge)) in
      first_of w _ _ (tried steps.Event refl) (λ no_event.
      let events : w.events ≡ [] =
      no_events_by w taste (event_not w (withheld steps.Event (is_enabled w 0 steps.Event) no_event)) in
      first_of w _ _ (tried steps.Reap refl) (λ no_reap.
      let reaps : reap_work w ≡ None = reap_not w (withheld steps.Reap (is_enabled w 0 steps.Reap) no_reap) in
      first_of w _ _ (tried steps.Wash (late taste events)) (λ no_wash.
      let washes : wash_work w ≡ None = wash_not w (withheld steps.Wash (is_enabled w 0 steps.Wash) no_wash) in
      first_of w _ _ goes (λ no_go.
      let none : ready_actors w ≡ [] =
      earliest_none (ready_actors w) (from_none (λ (actor : ℕ). steps.Go actor) _ no_go) in
      absurd (busy (at_rest w bios events taste reaps washes none))))))))))

-- so where legal logs lead the fixed order goes on
pub pick_goes_on : PickGoesOn
pick_goes_on plan facts is fit log legal idle busy =
    pick_good (replay (opening plan facts) log) (firm_after plan facts is fit log) idle busy

-- Rows of numbers that are compared from the first on don't fall for ever.

-- the first number, and the others
abbrev first : List ℕ → ℕ
first [] = 0
first (n ∷ ns) = n

abbrev others : List ℕ → List ℕ
others [] = []
others (n ∷ ns) = ns

-- each row comes before the one before it
abbrev Falls : (ℕ → List ℕ) → Type 0
Falls f = (n : ℕ) → IsTrue (comes_before (f (n + 1)) (f n))

-- each has so many numbers
abbrev AreLong : ℕ → (ℕ → List ℕ) → Type 0
AreLong k f = (n : ℕ) → length (f n) ≡ k

-- by the first numbers, or by the others where these are equal
abbrev Before : List ℕ → List ℕ → Type 0
Before ms ns = (first ms < first ns) ⊎ ((first ms ≡ first ns) × IsTrue (comes_before (others ms) (others ns)))

-- by whether the first is smaller
before_by : (m n : ℕ) (ms ns : List ℕ) (b : Bool) → nat_lt m n ≡ b
    → (b || ((m == n) && comes_before ms ns)) ≡ true → Before (m ∷ ms) (n ∷ ns)
before_by m n ms ns true e less = inl (ltb-true m n e)
before_by m n ms ns false e less =
    let both = and_parts (m == n) (comes_before ms ns) less in inr (eqb-true m n both.0, both.1)

-- so of any rows
before : (ms ns : List ℕ) → IsTrue (comes_before ms ns) → Before ms ns
before [] ns less = absurd (let no : ⊥ = cc in no)
before (m ∷ ms) [] less = absurd (let no : ⊥ = cc in no)
before (m ∷ ms) (n ∷ ns) less = before_by m n ms ns (nat_lt m n) refl less

-- the others of a row that has one number more
others_long : (k : ℕ) (ms : List ℕ) → length ms ≡ suc k → length (others ms) ≡ k
others_long k [] long = absurd (omega (arith, long))
others_long k (m ∷ ms) long = omega (arith, long)

-- no number comes first in no row
none_before : (ms ns : List ℕ) → length ms ≡ 0 → IsTrue (comes_before ms ns) → ⊥
none_before [] ns long less = let no : ⊥ = cc in no
none_before (m ∷ ms) ns long less = omega (arith, long)

-- the first numbers never rise
never_rises : (f : ℕ → List ℕ) → Falls f → (n : ℕ) → first (f n) ≤ first (f 0)
never_rises f falls zero = omega arith
never_rises f falls (suc n) =
    let most = never_rises f falls n in
    let number : n + 1 ≡ suc n = omega arith in
    subst (λ (m : ℕ). first (f m) ≤ first (f 0)) number
    (elim (before (f (n + 1)) (f n) (falls n)) [
      | inl less ↦ omega (arith, most, less)
      | inr same ↦ omega (arith, most, same.0)
    ])

-- the rows from a place on
abbrev later : ℕ → (ℕ → List ℕ) → ℕ → List ℕ
later k f n = f (k + n)

-- fall too
later_falls : (k : ℕ) (f : ℕ → List ℕ) → Falls f → Falls (later k f)
later_falls k f falls n =
    let number : k + n + 1 ≡ k + (n + 1) = omega arith in
    subst (λ (m : ℕ). IsTrue (comes_before (f m) (f (k + n)))) number (falls (k + n))

-- where rows of the others don't fall for ever, no rows do whose first number is below m
low_ends : (k : ℕ) → ((g : ℕ → List ℕ) → AreLong k g → Falls g → ⊥) → (m : ℕ) (f : ℕ → List ℕ) → AreLong (suc k) f
    → Falls f → first (f 0) < m → ⊥
low_ends k rest zero f long falls low = omega (arith, low)
low_ends k rest (suc m) f long falls low =
    rest (λ n. others (f n)) (λ n. others_long k (f n) (long n)) (λ n.
    elim (before (f (n + 1)) (f n) (falls n)) [
      | inl less ↦
          (let most = never_rises f falls n in
          let number : n + 1 ≡ n + 1 + 0 = omega arith in
          let lower : first (f (n + 1)) < m = omega (arith, low, most, less) in
          absurd (low_ends k rest m (later (n + 1) f) (λ j. long (n + 1 + j)) (later_falls (n + 1) f falls)
          (subst (λ (j : ℕ). first (f j) < m) number lower)))
      | inr same ↦ same.1
    ])

-- so no rows do that all have k numbers
none_falls : (k : ℕ) (f : ℕ → List ℕ) → AreLong k f → Falls f → ⊥
none_falls zero f long falls = none_before (f (0 + 1)) (f 0) (long (0 + 1)) (falls 0)
none_falls (suc k) f long falls =
    low_ends k (λ g long falls. none_falls k g long falls) (first (f 0) + 1) f long falls (omega arith)

-- so the measure doesn't
pub none_falls_for_ever : NoneFallsForEver
none_falls_for_ever run falls = none_falls 6 (λ n. numbers_of (measure (run n))) (λ n. refl) falls

-- Orders that go on until rest come to an end, and so the fixed order: each of their rounds lowers the measure.

-- where a step is due, all isn't at rest
not_rest : (w : World) (s : Step) → pick w ≡ Some s → Rest w → ⊥
not_rest w s due rest = let none = pick-rest w rest in let no : ⊥ = cc in no

-- what a round leaves: a smaller measure, a firm mesh, and no Busy bio
record Round (w v : World) : Type 0 where
  less : IsLess (measure v) (measure w)
  firm : Firm v
  idle : AreIdle v.bios

module _ (w : World) (firm : Firm w) (idle : AreIdle w.bios) where
  -- after one step
  one_step : (s : Step) (v : World) → taken_in s ≡ None → IsLess (measure (world_by w 0 s)) (measure w)
      → v ≡ world_by w 0 s → Round w v
  one_step s v other less is =
      subst (Round w) (sym is)
      (record { less = less; firm = steps_stay_firm w 0 s firm; idle = step_idle w idle 0 s other })

  -- by the step
  round_by : (s : Step) (v : World) → Lowers w 0 s → LeadsTo w s v → Round w v
  round_by (steps.Take disk b) v lowers leads =
      let u : World = world_by w 0 (steps.Take disk b) in
      subst (Round w) (sym leads.2)
      (record {
        less = lowers leads.0 leads.1;
        firm = steps_stay_firm u 0 (steps.Deliver b leads.0) (steps_stay_firm w 0 (steps.Take disk b) firm);
        idle = take_idle w idle b leads.0 disk leads.1;
      })
  round_by s v lowers leads = one_step s v refl lowers leads

  -- a round
  round_leaves : (v : World) → IsRound w v → Round w v
  round_leaves v round =
      let quiet : NoneBusy w = All-from_recursion (λ (x : Bio). is_busy x.phase ≡ false) w.bios idle in
      let good : IsGood w round.step =
      subst (λ (o : Option Step). IsSomeAnd o (IsGood w)) round.due
      (pick_good w firm quiet (not_rest w round.step round.due)) in
      round_by round.step v good.1 round.leads

-- along a run the mesh stays firm, and no bio is Busy
along : (run : ℕ → World) → ((n : ℕ) → IsRound (run n) (run (n + 1))) → Firm (run 0) → AreIdle (run 0).bios → (n : ℕ)
    → Firm (run n) × AreIdle (run n).bios
along run rounds firm idle zero = (firm, idle)
along run rounds firm idle (suc n) =
    let was = along run rounds firm idle n in
    let round = round_leaves (run n) was.0 was.1 (run (n + 1)) (rounds n) in
    let number : n + 1 ≡ suc n = omega arith in
    subst (λ (m : ℕ). Firm (run m) × AreIdle (run m).bios) number (round.firm, round.idle)

-- so the fixed order ends
pub fixed_order_ends : FixedOrderEnds
fixed_order_ends run firm idle rounds =
    let quiet : AreIdle (run 0).bios =
    recursion_from_All (λ (x : Bio). is_busy x.phase ≡ false) (run 0).bios idle in
    none_falls_for_ever run (λ n.
    let was = along run rounds firm quiet n in
    (round_leaves (run n) was.0 was.1 (run (n + 1)) (rounds n)).less)

-- Any order

-- an enabled step, by its answer
made_enabled : (w : World) (a : Answer) (o : Outcome) → IsOkAnd a (λ made. made.1 ≡ o) → is_ok a ≡ true
made_enabled w (Ok made) o is = refl
made_enabled w (Err found) o is = absurd is

-- where entries of a round lead
leads_on : (w : World) (s : Step) (added : List Entry) → AddsToLog s added → Legal w added
    → LeadsTo w s (replay w added)
leads_on w (steps.Take disk b) added (got, taken, given, is) legal =
    let both = subst (Legal w) is legal in (
      got,
      made_enabled (world_by w 0 (steps.Take disk b))
          (step (world_by w 0 (steps.Take disk b)) 0 (steps.Deliver b got)) given both.1.0,
      ap (replay w) is,
    )
leads_on w s added adds legal = ap (replay w) adds.1

module _ (order : StepOrder) (goes_on : OrderGoesOn order) (ends : OrderEnds order) (plan : Plan)
    (facts : List (ℕ × ℕ)) (begins : MayBegin plan) (fit : FactsFit plan facts) where
  -- the mesh after a log
  abbrev opened : World
  opened = opening plan facts

  abbrev after : List Entry → World
  after log = replay opened log

  -- where a step is due, all isn't at rest
  unrest : (log : List Entry) (s : Step) → order (after log) log ≡ Some s → Rest (after log) → ⊥
  unrest log s due rest = let none = ends (after log) log rest in let no : ⊥ = cc in no

  -- what holds of a log along a run
  abbrev Fine : List Entry → Type 0
  Fine log = Legal opened log × AreIdle (after log).bios

  -- the step that is due lowers the measure
  due_good : (log : List Entry) → Fine log → (s : Step) → order (after log) log ≡ Some s → IsGood (after log) s
  due_good log fine s due =
      subst (λ (o : Option Step). IsSomeAnd o (IsGood (after log))) due
      (goes_on plan facts begins fit log fine.0
      (All-from_recursion (λ (x : Bio). is_busy x.phase ≡ false) (after log).bios fine.1) (unrest log s due))

  -- a round
  turns : (earlier later : List Entry) → Fine earlier → (round : IsRoundOf order opened earlier later)
      → Round (after earlier) (after later)
  turns earlier later fine round =
      subst (Round (after earlier)) (sym (ap after round.is ∙ replay-append opened earlier round.added))
      (round_by (after earlier) (firm_after plan facts begins fit earlier) fine.1 round.step
      (replay (after earlier) round.added) (due_good earlier fine round.step round.due).1
      (leads_on (after earlier) round.step round.added round.adds round.legal))

  -- so along a run
  stay_fine : (run : ℕ → List Entry) → ((n : ℕ) → IsRoundOf order opened (run n) (run (n + 1))) → Fine (run 0)
      → (n : ℕ) → Fine (run n)
  stay_fine run rounds fine zero = fine
  stay_fine run rounds fine (suc n) =
      let was = stay_fine run rounds fine n in
      let round = rounds n in
      let legal : Legal opened (run (n + 1)) =
      subst (Legal opened) (sym round.is) (Legal-append opened (run n) round.added was.0 round.legal) in
      let number : n + 1 ≡ suc n = omega arith in
      subst (λ (m : ℕ). Fine (run m)) number (legal, (turns (run n) (run (n + 1)) was round).idle)

  -- it ends
  ends_along : (run : ℕ → List Entry) → ((n : ℕ) → IsRoundOf order opened (run n) (run (n + 1))) → Fine (run 0) → ⊥
  ends_along run rounds fine =
      none_falls_for_ever (λ n. after (run n)) (λ n.
      (turns (run n) (run (n + 1)) (stay_fine run rounds fine n) (rounds n)).less)

-- so each such order ends
pub orders_end : OrdersEnd
orders_end order goes_on ends plan facts is fit run legal idle rounds =
    ends_along order goes_on ends plan facts is fit run rounds
    (legal, recursion_from_All (λ (x : Bio). is_busy x.phase ≡ false) (replay (opening plan facts) (run 0)).bios idle)
