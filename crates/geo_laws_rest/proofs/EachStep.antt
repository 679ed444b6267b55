-- Each enabled step lowers the measure, but an early wash. And each step leaves the bios not Busy but a Take, and the
-- commands of an actor but its own Go.
use Rattle.std.specs.Prelude.{◌≡◌, ℕ, ◌+◌, ◌≤◌, ◌==◌, Bool, true, false, not, List, [], ◌∷◌, map, filter, sum_by, Option, Some, None, Contains, IsSomeAnd, IsTrue, unwrap_or, if◌then◌else◌, length, slice_get, is_some, cond, Ok, Err, is_ok, ⊤, fold, ◌≢◌}
use Rattle.std.specs.List.{AllByRecursion, enumerate_from}
use Rattle.std.specs.Option.{option_map_or}
use Rattle.std.proofs.Common.{refl, sym, ◌∙◌, ap, subst, arith, inl, inr}
use Rattle.std.proofs.lemmas.Bool.{cases_Bool, eq-eqb, eqb-true, and_parts}
use Rattle.std.proofs.lemmas.List.Elements.{All-contains, recursion_from_All}
use Rattle.std.proofs.lemmas.List.Sums.{sum_by-set}
use Rattle.std.proofs.lemmas.Option.{slice_get_within, get_or_from_slice_get}
use Rattle.geo_base.proofs.AllLists.{all_appended, all_kept}
use Rattle.geo_base.specs.declared.errno.Errno.TheVariants.{EIO}
use Rattle.geo_base.proofs.PlaceLists.{slot-other}
use Rattle.geo_model.specs.declared.step.BioResult.{BioResult}
use Rattle.geo_model.specs.declared.step.BioResult.TheVariants as results
use Rattle.geo_model.specs.declared.step.Owner.{Owner}
use Rattle.geo_model.specs.declared.step.Owner.TheVariants as owners
use Rattle.geo_model.specs.declared.step.Phase.{Phase}
use Rattle.geo_model.specs.declared.step.Phase.TheVariants as phases
use Rattle.geo_model.specs.World.{World, Bio, Taste, Asked, NoClass, bio_at, change_bio, change_number, is_up, is_waiting, is_child_of, Handle, is_active, Config, granted_in, is_busy}
use Rattle.geo_model.specs.Bios.{up, up_to, up_taste, up_child, up_with, complete_parent, is_complete, joined_result, child_results, taste_with, PieceTarget, Way, Bounces, Fails, Sends, Splits, Passes, piece_child, start_by, take_bio, deliver, result_of_device}
use Rattle.geo_model.specs.Order.{steps_left, taste_left, IsLess, measure}
use Rattle.geo_model.specs.Graph.{AreNumbers}
use Rattle.geo_model.specs.SoundBios.{IsFamilyInOrder, HasItsParent}
use Rattle.geo_model.specs.Fitting.{Firm}
use Rattle.geo_model.specs.declared.command.Command.{Command}
use Rattle.geo_model.specs.declared.command.LineCommand.{LineCommand}
use Rattle.geo_model.specs.declared.step.Outcome.{Outcome}
use Rattle.geo_model.specs.Words.{names_number}
use Rattle.geo_model.specs.Commands.{do_command}
use Rattle.geo_model.specs.Freeing.{is_to_reap, reap_handle}
use Rattle.geo_model.specs.Step.{with_commands, Answer, is_enabled, step, unless_found, take_found, take_of, deliver_found, deliver_of}
use Rattle.geo_model.specs.StepEffects.{IsReaped}
use Rattle.geo_model.proofs.CommandWalk.{any_graph_by}
use Rattle.geo_model.specs.declared.step.Step.{Step}
use Rattle.geo_model.specs.declared.step.Step.TheVariants as steps
use Rattle.geo_model.specs.Log.{world_after, after_entry, replay}
use Rattle.geo_model.specs.Laws.{StepsLower, is_early_wash, world_by}
use Rattle.geo_model.proofs.StepWalk.{step_by}
use Rattle.geo_model.specs.declared.class.Judged.{Judged}
use Rattle.geo_model.specs.declared.class.Judged.TheVariants.{Read}
use Rattle.geo_model.specs.declared.step.DeviceResult.{DeviceResult}
use Rattle.geo_model.specs.declared.step.Event.{Event}
use Rattle.geo_model.specs.declared.step.Event.TheVariants as events
use Rattle.geo_model.specs.declared.step.Found.{Found}
use Rattle.geo_model.specs.Topology.{Topology, note_started}
use Rattle.geo_model.specs.Events.{is_not_tasted, dying_consumers}
use Rattle.geo_model.specs.WorldEvents.{begin_taste, kill_handle, do_event}
use Rattle.geo_model.specs.Tasting.{Judging, judged_world}
use Rattle.geo_model.specs.FixedOrder.{taken_in}
use Rattle.geo_model.specs.declared.step.Entry.{Entry}
use Rattle.geo_laws_graph.proofs.Lists.{changed, map-changed, all-changed}
use Rattle.geo_laws_graph.proofs.Members.{find-Contains}
use Rattle.geo_laws_graph.proofs.Numbered.{unique, number_found}
use Rattle.geo_laws_graph.proofs.Finding.{found_fact}
use Rattle.geo_laws_counts.proofs.Levels.{of_each}
use Rattle.geo_laws_bios.proofs.Turning.{found_there}
use Rattle.geo_laws_steps.proofs.Stepped.{steps_stay_firm}
use Rattle.geo_laws_rest.proofs.Lowered.{bio_steps_of, sum_mapped, sum_kept, sum_left_out, commands_of, handles_of, commands_less, handles_less, sum_mapped-falls}
use Rattle.geo_laws_rest.proofs.Started.{found_was, keeps_itself, steps_of, BiosFall, now_most, changed_falls, all_most, with_steps, steps_fall, only_steps, falls_less, falls_twice, taken_falls, delivered_falls, start_way}
use Rattle.geo_laws_rest.specs.MeasureLaws.{TakesLower, DeliversLower, StartsLower, UpsLower, GoesLower, ReapsLower}
use Rattle.geo_laws_rest.specs.LossLaws.{EventsLower, WashesLower, IdleJudgesLower}
use Rattle.geo_laws_rest.specs.CostLaws.{JudgesLower}
use Rattle.geo_laws_rest.proofs.Losing.{done_lower, found_lower, kills}
use Rattle.geo_laws_rest.proofs.Judged.{judged_lower}
use Rattle.geo_laws_rest.specs.CommandsLeft.{OthersLeaveCommands}

-- a bio that is Up needs one step
up_steps : (w : World) (x : Bio) (phase : Phase) → is_up phase ≡ true → steps_left w x phase ≡ 1
up_steps w x phases.Up is = refl
up_steps w x _ is = absurd cc

-- so does one that waits
waiting_steps : (w : World) (x : Bio) (phase : Phase) → is_waiting phase ≡ true → steps_left w x phase ≡ 1
waiting_steps w x phases.Waiting is = refl
waiting_steps w x _ is = absurd cc

-- each bio counts for itself
each_itself : (w : World) (bios : List Bio) → AllByRecursion (λ (y : Bio). steps_of w y ≤ steps_of w y) bios
each_itself w bios = of_each (λ (y : Bio). steps_of w y ≤ steps_of w y) (λ y. omega arith) bios

-- Roots

-- a root that goes takes its step with it
gone_falls : (w : World) (x : Bio) → bio_at w x.number ≡ Some x → is_up x.phase ≡ true
    → sum_by (steps_of w) (filter (λ (y : Bio). not (y.number == x.number)) w.bios) + 1 ≤ bio_steps_of w
gone_falls w x found up =
    let here : Contains w.bios x = find-Contains (λ (y : Bio). y.number == x.number) w.bios x found in
    let itself : (x.number == x.number) ≡ true = eq-eqb x.number x.number refl in
    let less = sum_left_out (steps_of w) (steps_of w) (λ (y : Bio). not (y.number == x.number)) w.bios x
    (each_itself w w.bios) here (ap not itself) in
    omega (arith, less, up_steps w x x.phase up)

-- a sector that is back costs the taste nothing
back_same : (w : World) (got : BioResult) (o : Option Taste) → taste_left w (taste_with got o) ≡ taste_left w o
back_same w got None = refl
back_same w got (Some s) = by s.asked refl where
  -- by how far the class is asked
  by : (a : Asked) → s.asked ≡ a → taste_left w (taste_with got (Some s)) ≡ taste_left w (Some s)
  by NoClass e = rw e refl
  by _ e = rw e refl

-- the taste's sector is back
taste_falls : (w : World) (x : Bio) → bio_at w x.number ≡ Some x → is_up x.phase ≡ true → Firm (up_taste w x).0
    → BiosFall (up_taste w x).0 w
taste_falls w x found up after =
    let now = now_most (up_taste w x).0 w after (keeps_itself w.topology) (omega arith) in
    let back = back_same w (unwrap_or x.result results.Done) w.taste in
    let gone = gone_falls w x found up in
    only_steps (up_taste w x).0 w (omega arith) (omega arith) (omega (arith, back)) (omega arith)
    (omega (arith, now, gone))

-- no bio is Up and waits
not_both : (phase : Phase) → is_up phase ≡ true → is_waiting phase ≡ true → ⊥
not_both phases.Up up waits = cc
not_both _ up waits = cc

-- Children

module _ (w : World) (firm : Firm w) (x : Bio) (found : bio_at w x.number ≡ Some x) (up : is_up x.phase ≡ true)
    (parent : ℕ) (index : ℕ) (own : x.owner ≡ owners.Child parent index) where
  -- the world in which the child is done
  abbrev gathered : World
  gathered = change_bio w x.number (λ y. record y { phase = phases.Done })

  -- it needs one step less
  gathered_falls : sum_by (steps_of w) gathered.bios + 1 ≤ bio_steps_of w
  gathered_falls =
      changed_falls w firm x found (λ y. record y { phase = phases.Done }) 1 (omega
      (arith, up_steps w x x.phase up))

  -- the parent waits
  parent_waits : IsSomeAnd (bio_at w parent) (λ y. IsTrue (is_waiting y.phase))
  parent_waits =
      let here : Contains w.bios x = find-Contains (λ (y : Bio). y.number == x.number) w.bios x found in
      let family : IsFamilyInOrder w.topology w.bios x =
      All-contains (IsFamilyInOrder w.topology w.bios) w.bios x firm.bios.families here in
      let has : HasItsParent w.bios x.owner = family.parent in
      subst (HasItsParent w.bios) own has

  -- the parent that is found waits: it isn't the child
  waits : (y : Bio) → bio_at gathered parent ≡ Some y → is_waiting y.phase ≡ true
  waits y at =
      let was = found_was (λ (v : Bio). v.number == x.number) (λ v. record v { phase = phases.Done })
      (λ v. v.number == parent) (λ v h. refl) w.bios y at in
      let waited : is_waiting was.0.phase ≡ true =
      subst (λ (o : Option Bio). IsSomeAnd o (λ z. IsTrue (is_waiting z.phase))) was.1 parent_waits in
      subst (λ (v : Bio). is_waiting v.phase ≡ true) was.2 (unhit was.0 was.1 waited (was.0.number == x.number) refl)
    where
      -- whether it is the child
      unhit : (z : Bio) → bio_at w parent ≡ Some z → is_waiting z.phase ≡ true → (b : Bool) → (z.number == x.number) ≡ b
          → is_waiting (changed (λ (v : Bio). v.number == x.number)
          (λ v. record v { phase = phases.Done }) z).phase ≡ true
      unhit z e waited false h = rw h waited
      unhit z e waited true h =
          let its : z.number ≡ parent = number_found (λ (v : Bio). v.number) w.bios parent z e in
          let there : bio_at w x.number ≡ Some z =
          subst (λ (n : ℕ). bio_at w n ≡ Some z) (sym its ∙ eqb-true z.number x.number h) e in
          let one : Some x ≡ Some z = sym found ∙ there in
          let both : x ≡ z = cc in
          absurd (not_both x.phase up (subst (λ (v : Bio). is_waiting v.phase ≡ true) (sym both) waited))

  -- the numbers of bios stay
  gathered_numbers : map (λ (y : Bio). y.number) gathered.bios ≡ map (λ (y : Bio). y.number) w.bios
  gathered_numbers =
      map-changed (λ (v : Bio). v.number == x.number) (λ v. record v { phase = phases.Done })
      (λ v. v.number) (λ v h. refl) w.bios

  -- the parent is complete
  complete_falls : (y : Bio) → bio_at gathered parent ≡ Some y
      → sum_by (steps_of w) (complete_parent gathered y).bios + 1 ≤ bio_steps_of w
  complete_falls y at =
      let r : BioResult = joined_result y.cmd (child_results gathered y.number) in
      let same = unique (λ (z : Bio). z.number) w.next_bio y.number gathered.bios y
      (subst (λ (ns : List ℕ). AreNumbers ns w.next_bio) (sym gathered_numbers) firm.bios.numbers)
      (found_there gathered parent y at) in
      let one = sum_kept (steps_of w) (steps_of w) (λ (z : Bio). not (is_child_of z.owner y.number))
      (change_number y.number (up_with r) gathered.bios)
      (each_itself w (change_number y.number (up_with r) gathered.bios)) in
      let two = sum_mapped (λ (z : Bio). if z.number == y.number then up_with r z else z) (steps_of w) (steps_of w)
      gathered.bios
      (all_most w y (up_with r) (omega (arith, waiting_steps w y y.phase (waits y at))) gathered.bios same) in
      omega (arith, one, two, gathered_falls)

  -- by whether it is, and the parent that is found
  child_by : (b : Bool) (o : Option Bio) → bio_at gathered parent ≡ o
      → sum_by (steps_of w) (if b then option_map_or
      (λ y. complete_parent gathered y) o gathered else gathered).bios + 1
      ≤ bio_steps_of w
  child_by false o e = gathered_falls
  child_by true None e = gathered_falls
  child_by true (Some y) e = complete_falls y e

  -- only bios change
  only_bios : (b : Bool) (o : Option Bio)
      → (if b then option_map_or (λ y. complete_parent gathered y) o gathered else gathered)
      ≡ with_steps w (if b then option_map_or (λ y. complete_parent gathered y) o gathered else gathered).bios
  only_bios false o = refl
  only_bios true None = refl
  only_bios true (Some y) = refl

  -- the child is up
  child_falls : Firm (up_child w x parent).0 → BiosFall (up_child w x parent).0 w
  child_falls after =
      let is = only_bios (is_complete gathered parent) (bio_at gathered parent) in
      subst (λ (v : World). BiosFall v w) (sym is)
      (steps_fall w (up_child w x parent).0.bios (subst Firm is after)
      (child_by (is_complete gathered parent) (bio_at gathered parent) refl))

-- by the owner
up_owner : (w : World) (x : Bio) (o : Owner) → bio_at w x.number ≡ Some x → is_up x.phase ≡ true → x.owner ≡ o
    → Firm w → Firm (up_to w x o).0 → BiosFall (up_to w x o).0 w
up_owner w x (owners.Line handle line) found up own firm after =
    steps_fall w (filter (λ (y : Bio). not (y.number == x.number)) w.bios) after (gone_falls w x found up)
up_owner w x owners.Taste found up own firm after = taste_falls w x found up after
up_owner w x (owners.Child parent index) found up own firm after =
    child_falls w firm x found up parent index own after

-- A Go lowers the measure, since a command less is left; and so does a Reap, since a handle less is open.

-- What commands leave to do

module _ (w : World) where
  -- the world has the same commands left
  abbrev pub Keeps : World × Outcome → Type 0
  Keeps made = made.0.actors ≡ w.actors

  -- each command
  keeps : (line actor : ℕ) (c : Command) → Keeps (do_command w line actor c)
  keeps line actor =
      any_graph_by w line actor (λ c made. Keeps made) (λ c q e. refl) (λ c q. refl)
      (record {
        waits = λ c is. refl;
        lists = refl;
        opens = λ name prov grant p is. refl;
        closes = λ name h is. refl;
        accepts = λ c h a is. refl;
      })

-- the next command goes
taken : (w : World) (actor : ℕ) (c : LineCommand) (rest : List LineCommand)
    → slice_get w.actors actor ≡ Some (c ∷ rest) → commands_of (with_commands w actor rest) + 1 ≡ commands_of w
taken w actor c rest found =
    let set = sum_by-set (λ (cs : List LineCommand). length cs) w.actors actor rest []
    (slice_get_within w.actors actor (c ∷ rest) found) in
    let was = get_or_from_slice_get w.actors actor (c ∷ rest) [] found in
    let long = ap (λ (cs : List LineCommand). length cs) was in
    omega (arith, set, long)

-- a Go
gone_lower : (w : World) (actor : ℕ) (c : LineCommand) (rest : List LineCommand)
    → slice_get w.actors actor ≡ Some (c ∷ rest)
    → IsLess (measure (do_command (with_commands w actor rest) c.line actor c.command).0) (measure w)
gone_lower w actor c rest found =
    let v : World = (do_command (with_commands w actor rest) c.line actor c.command).0 in
    let same : commands_of v ≡ commands_of (with_commands w actor rest) =
    ap (λ (xs : List (List LineCommand)). sum_by (λ (cs : List LineCommand). length cs) xs)
    (keeps (with_commands w actor rest) c.line actor c.command) in
    commands_less v w (omega (arith, same, taken w actor c rest found))

-- Reap

-- a handle counts while it has a consumer
abbrev open_count : Handle → ℕ
open_count h = cond (is_some h.consumer) 1 0

-- the handles that are open, without those of a consumer
reaped_falls : (c : ℕ) (hs : List Handle) (h : Handle) → Contains hs h → h.consumer ≡ Some c
    → sum_by open_count (map {A = Handle} {B = Handle}
    (λ h. if names_number h.consumer c then record h { consumer = None } else h) hs) + 1
    ≤ sum_by open_count hs
reaped_falls c hs h here own =
    sum_mapped-falls open_count open_count
    (λ h. if names_number h.consumer c then record h { consumer = None } else h) hs h 1
    (of_each (λ (x : Handle).
    open_count (if names_number x.consumer c then record x { consumer = None } else x) ≤ open_count x)
    (λ x. elim (cases_Bool (names_number x.consumer c)) [
      | inl e ↦ rw e (omega arith)
      | inr e ↦ rw e (omega arith)
    ]) hs)
    here
    (let hit : names_number h.consumer c ≡ true = rw own (eq-eqb c c refl) in
    let was : open_count h ≡ 1 = rw own refl in
    rw hit (omega (arith, was)))

-- a handle that can be reaped has a consumer
reap_by : (w : World) (h : Handle) (o : Option ℕ) → h.consumer ≡ o → Contains w.handles h → is_to_reap w h ≡ true
    → IsLess (measure (reap_handle w o)) (measure w)
reap_by w h None own here passes =
    absurd (let parts = and_parts h.dead (option_map_or (λ c. not (is_active w c)) h.consumer false) passes in
    let bad : false ≡ true = rw own at parts.1 in cc)
reap_by w h (Some c) own here passes =
    let fewer : handles_of (reap_handle w (Some c)) + 1 ≤ handles_of w = reaped_falls c w.handles h here own in
    handles_less (reap_handle w (Some c)) w (omega arith) (omega (arith, fewer))

-- what can be reaped
reaped_lower : (w : World) (h : Handle) (c : Option ℕ) → IsReaped w h c
    → IsLess (measure (reap_handle w c)) (measure w)
reaped_lower w h c is =
    reap_by w h c is.names (find-Contains (is_to_reap w) w.handles h is.work)
    (found_fact (λ (x : Handle). Unit {0}) (is_to_reap w) w.handles h
    (of_each (λ (x : Handle). Unit {0}) (λ x. tt) w.handles) is.work).1

-- Each enabled step lowers the measure, but an early wash.

-- from the one world to the other the measure falls, by the kind of the step
abbrev Falls : World → Step → World → Type 0
Falls w (steps.Go actor) v = IsLess (measure v) (measure w)
Falls w steps.Event v = Firm w → IsLess (measure v) (measure w)
Falls w steps.Judge v = Firm w → IsLess (measure v) (measure w)
Falls w steps.Reap v = IsLess (measure v) (measure w)
Falls w steps.Wash v = Firm w → is_early_wash w steps.Wash ≡ false → IsLess (measure v) (measure w)
Falls w s v = Firm w → Firm v → BiosFall v w

-- so after an answer
abbrev FallsAfter : World → Step → Answer → Type 0
FallsAfter w s (Ok made) = Falls w s made.0
FallsAfter w s (Err f) = ⊤

-- each step
answers_fall : (w : World) (seat : ℕ) (s : Step) → FallsAfter w s (step w seat s)
answers_fall w seat =
    step_by w seat (FallsAfter w) (record {
      refuses = λ s f. tt;
      goes = λ actor c rest is. gone_lower w actor c rest is.left;
      runs = λ e rest is firm. done_lower w firm is.idle e rest is.queue e refl;
      judges = λ s x j is firm. judged_lower w firm s x j is;
      reaps = λ h c is. reaped_lower w h c is;
      washes = λ work is firm. found_lower w firm work is;
      starts = λ b x way is firm. start_way w x way (found_there w b x is.found) is.down is.goes firm;
      takes = λ disk b x is firm. taken_falls w firm seat disk b x is;
      delivers = λ b got x is firm. delivered_falls w firm seat b got x is;
      rises = λ b x o is firm. up_owner w x o (found_there w b x is.found) is.up is.owner firm;
    })

-- where it is enabled
enabled_falls : (w : World) (s : Step) (a : Answer) → FallsAfter w s a → is_ok a ≡ true → Falls w s (world_after w a)
enabled_falls w s (Ok made) falls enabled = falls
enabled_falls w s (Err f) falls enabled = absurd (let no : ⊥ = cc in no)

-- so
falls : (w : World) (seat : ℕ) (s : Step) → IsTrue (is_enabled w seat s) → Falls w s (world_by w seat s)
falls w seat s enabled = enabled_falls w s (step w seat s) (answers_fall w seat s) enabled

-- Each kind

-- a Go
pub goes_lower : GoesLower
goes_lower w seat actor enabled = falls w seat (steps.Go actor) enabled

-- an Event
pub events_lower : EventsLower
events_lower w seat firm enabled = falls w seat steps.Event enabled firm

-- a Judge
pub judges_lower : JudgesLower
judges_lower w seat firm enabled = falls w seat steps.Judge enabled firm

-- also one that makes nothing
pub idle_judges_lower : IdleJudgesLower
idle_judges_lower w seat firm made enabled = judges_lower w seat firm enabled

-- a Reap
pub reaps_lower : ReapsLower
reaps_lower w seat enabled = falls w seat steps.Reap enabled

-- a Wash
pub washes_lower : WashesLower
washes_lower w seat firm enabled late = falls w seat steps.Wash enabled firm late

-- a Start
pub starts_lower : StartsLower
starts_lower w seat b firm enabled =
    falls_less (world_by w seat (steps.Start b)) w
    (falls w seat (steps.Start b) enabled firm (steps_stay_firm w seat (steps.Start b) firm))

-- a Deliver
pub delivers_lower : DeliversLower
delivers_lower w seat b got firm enabled =
    falls_less (world_by w seat (steps.Deliver b got)) w
    (falls w seat (steps.Deliver b got) enabled firm (steps_stay_firm w seat (steps.Deliver b got) firm))

-- a Take, together with a Deliver that fits
pub takes_lower : TakesLower
takes_lower w seat disk b firm enabled got fits =
    let v : World = world_by w seat (steps.Take disk b) in
    let after = steps_stay_firm w seat (steps.Take disk b) firm in
    falls_less (world_by v seat (steps.Deliver b got)) w
    (falls_twice (world_by v seat (steps.Deliver b got)) v w
    (falls v seat (steps.Deliver b got) fits after (steps_stay_firm v seat (steps.Deliver b got) after))
    (falls w seat (steps.Take disk b) enabled firm after))

-- an Up
pub ups_lower : UpsLower
ups_lower w seat b firm enabled =
    falls_less (world_by w seat (steps.Up b)) w
    (falls w seat (steps.Up b) enabled firm (steps_stay_firm w seat (steps.Up b) firm))

-- by the step
pub steps_lower : StepsLower
steps_lower w seat (steps.Go actor) firm enabled late = goes_lower w seat actor enabled
steps_lower w seat steps.Event firm enabled late = events_lower w seat firm enabled
steps_lower w seat steps.Judge firm enabled late = judges_lower w seat firm enabled
steps_lower w seat steps.Reap firm enabled late = reaps_lower w seat enabled
steps_lower w seat steps.Wash firm enabled late = washes_lower w seat firm enabled late
steps_lower w seat (steps.Start b) firm enabled late = starts_lower w seat b firm enabled
steps_lower w seat (steps.Take disk b) firm enabled late = takes_lower w seat disk b firm enabled
steps_lower w seat (steps.Deliver b got) firm enabled late = delivers_lower w seat b got firm enabled
steps_lower w seat (steps.Up b) firm enabled late = ups_lower w seat b firm enabled

-- What each step leaves: no bio Busy but by a Take, and the commands of an actor but by its own Go.

-- the bio isn't Busy
abbrev Idle : Bio → Type 0
Idle x = is_busy x.phase ≡ false

-- none of these is Busy
abbrev pub AreIdle : List Bio → Type 0
AreIdle bios = AllByRecursion Idle bios

-- Lists of bios

-- of those of which one is changed
changed_idle : (n : ℕ) (change : Bio → Bio) → ((x : Bio) → Idle (change x)) → (xs : List Bio) → AreIdle xs
    → AreIdle (change_number n change xs)
changed_idle n change so xs idle = all-changed (λ (x : Bio). x.number == n) change Idle (λ x e was. so x) xs idle

-- of children
children_idle : (t : Topology Config) (next : ℕ) (x : Bio) (items : List (ℕ × PieceTarget))
    → AreIdle (map (λ item. piece_child t next x item.0 item.1) items)
children_idle t next x [] = tt
children_idle t next x (item ∷ items) = (refl, children_idle t next x items)

-- Commands

module _ (w : World) (idle : AreIdle w.bios) where
  -- none is Busy afterwards
  abbrev Quiet : World × Outcome → Type 0
  Quiet made = AreIdle made.0.bios

  -- each command
  commanded : (line actor : ℕ) (c : Command) → Quiet (do_command w line actor c)
  commanded line actor =
      any_graph_by w line actor (λ c made. Quiet made) (λ c q e. idle) (λ c q. idle)
      (record {
        waits = λ c is. idle;
        lists = idle;
        opens = λ name prov grant p is. idle;
        closes = λ name h is. idle;
        accepts = λ c h a is. all_appended Idle w.bios (_ ∷ []) idle (refl, tt);
      })

-- Steps

-- none is Busy after an answer
abbrev After : World → Answer → Type 0
After w a = AreIdle (world_after w a).bios

-- handles that die change no bio
kills_idle : (cs : List ℕ) (w : World) → AreIdle w.bios → AreIdle (fold kill_handle w cs).bios
kills_idle [] w idle = idle
kills_idle (c ∷ cs) w idle = kills_idle cs (kill_handle w c) idle

module _ (w : World) (idle : AreIdle w.bios) where
  -- an offer, by whether it is tasted
  offer_by : (v : World) → AreIdle v.bios → (p : ℕ) (b : Bool) → AreIdle (if b then v else begin_taste v p).bios
  offer_by v quiet p true = quiet
  offer_by v quiet p false = quiet

  -- each event
  event_idle : (v : World) → AreIdle v.bios → (e : Event) → AreIdle (do_event v e).bios
  unfolding do_event
  event_idle v quiet (events.NewProvider p) = offer_by v quiet p (is_not_tasted (granted_in v) v.topology p)
  event_idle v quiet (events.Orphan p) = kills_idle (dying_consumers v.topology p) v quiet
  event_idle v quiet _ = quiet

  -- a judging
  judging_idle : (x : Judging) (j : Judged) → AreIdle (judged_world w x j).0.bios
  judging_idle x (Read sector) = all_appended Idle w.bios (_ ∷ []) idle (refl, tt)
  judging_idle x _ = idle

  -- a handle that is reaped
  reaped_idle : (o : Option ℕ) → AreIdle (reap_handle w o).bios
  reaped_idle None = idle
  reaped_idle (Some c) = idle

  -- a Start, by the way that the bio goes
  way_idle : (x : Bio) (way : Way) → AreIdle (start_by w x way).0.bios
  way_idle x (Bounces e) = changed_idle x.number (up_with (results.Failed e)) (λ y. refl) w.bios idle
  way_idle x (Fails g) = changed_idle x.number (up_with (results.Failed EIO)) (λ y. refl) w.bios idle
  way_idle x (Sends disk) =
      changed_idle x.number (λ y. record y { phase = phases.Sent }) (λ y. refl) w.bios idle
  way_idle x (Splits targets) =
      all_appended Idle (change_number x.number (λ y. record y { phase = phases.Waiting }) w.bios) _
      (changed_idle x.number (λ y. record y { phase = phases.Waiting }) (λ y. refl) w.bios idle)
      (children_idle w.topology w.next_bio x (enumerate_from 0 targets))
  way_idle x (Passes g targets) =
      all_appended Idle (change_number x.number (λ y. record y { phase = phases.Waiting }) w.bios) _
      (changed_idle x.number (λ y. record y { phase = phases.Waiting }) (λ y. refl) w.bios idle)
      (children_idle (note_started w.topology g) w.next_bio x (enumerate_from 0 targets))

  -- a child that goes up, by whether all are Done and the parent that is found
  child_idle : (v : World) → AreIdle v.bios → (b : Bool) (o : Option Bio)
      → AreIdle (if b then option_map_or (λ y. complete_parent v y) o v else v).bios
  child_idle v quiet false o = quiet
  child_idle v quiet true None = quiet
  child_idle v quiet true (Some y) =
      all_kept Idle (λ (z : Bio). not (is_child_of z.owner y.number))
      (change_number y.number (up_with (joined_result y.cmd (child_results v y.number))) v.bios)
      (changed_idle y.number (up_with (joined_result y.cmd (child_results v y.number))) (λ z. refl) v.bios quiet)

  -- an Up, by the owner
  owner_idle : (x : Bio) (o : Owner) → AreIdle (up_to w x o).0.bios
  owner_idle x (owners.Child parent index) =
      let v : World = record w { bios = change_number x.number (λ y. record y { phase = phases.Done }) w.bios } in
      child_idle v (changed_idle x.number (λ y. record y { phase = phases.Done }) (λ y. refl) w.bios idle)
      (is_complete v parent) (bio_at v parent)
  owner_idle x _ = all_kept Idle (λ (y : Bio). not (y.number == x.number)) w.bios idle

  -- each step but a Take
  pub step_idle : (seat : ℕ) (s : Step) → taken_in s ≡ None → AreIdle (world_by w seat s).bios
  step_idle seat =
      step_by w seat (λ s a. taken_in s ≡ None → After w a) (record {
        refuses = λ s f other. idle;
        goes = λ actor c rest is other. commanded (with_commands w actor rest) idle c.line actor c.command;
        runs = λ e rest is other. event_idle (record w { events = rest }) idle e;
        judges = λ s x j is other. judging_idle x j;
        reaps = λ h c is other. reaped_idle c;
        washes = λ work is other. idle;
        starts = λ b x way is other. way_idle x way;
        takes = λ disk b x is other. absurd (let no : ⊥ = cc in no);
        delivers = λ b got x is other.
            changed_idle x.number (up_with (result_of_device got)) (λ y. refl) w.bios idle;
        rises = λ b x o is other. owner_idle x o;
      })

-- A Take and its Deliver

-- a bio that was with_taken and delivered is up, another one is as it was
turned_step : (n : ℕ) (r : BioResult) (x : Bio) (b : Bool) → (x.number == n) ≡ b → Idle x
    → Idle (if (if x.number == n then record x { phase = phases.Busy 0 } else x).number == n
    then up_with r (if x.number == n then record x { phase = phases.Busy 0 } else x)
    else (if x.number == n then record x { phase = phases.Busy 0 } else x))
turned_step n r x true e idle = rw (e, e) refl
turned_step n r x false e idle = rw (e, e) idle

-- so for all bios
turned : (n : ℕ) (r : BioResult) (bios : List Bio) → AreIdle bios
    → AreIdle (change_number n (up_with r) (change_number n (λ y. record y { phase = phases.Busy 0 }) bios))
turned n r [] idle = tt
turned n r (x ∷ bios) idle = (turned_step n r x (x.number == n) refl idle.0, turned n r bios idle.1)

module _ (w : World) (idle : AreIdle w.bios) (b : ℕ) (got : DeviceResult) where
  -- the world in which a bio was with_taken
  abbrev with_taken : Bio → World
  with_taken x = record w { bios = change_number x.number (λ y. record y { phase = phases.Busy 0 }) w.bios }

  -- a Deliver then, by what is against it
  delivered_by : (x y : Bio) → x.number ≡ b → y.number ≡ b → (o : Option Found)
      → is_ok (unless_found o (deliver (with_taken x) y got)) ≡ true
      → AreIdle (world_after (with_taken x) (unless_found o (deliver (with_taken x) y got))).bios
  unfolding deliver
  delivered_by x y one two (Some f) enabled = absurd (let no : ⊥ = cc in no)
  delivered_by x y one two None enabled =
      subst (λ (n : ℕ). AreIdle (change_number y.number (up_with (result_of_device got))
      (change_number n (λ z. record z { phase = phases.Busy 0 }) w.bios))) (two ∙ sym one)
      (turned y.number (result_of_device got) w.bios idle)

  -- by the bio
  delivered_at : (x : Bio) → x.number ≡ b → (o : Option Bio) → bio_at (with_taken x) b ≡ o
      → is_ok (deliver_of (with_taken x) 0 got o) ≡ true
      → AreIdle (world_after (with_taken x) (deliver_of (with_taken x) 0 got o)).bios
  delivered_at x one None found enabled = absurd (let no : ⊥ = cc in no)
  delivered_at x one (Some y) found enabled =
      delivered_by x y one (number_found (λ (z : Bio). z.number) (with_taken x).bios b y found)
      (deliver_found (with_taken x) 0 y got y.phase) enabled

  -- a Deliver in a world
  abbrev IdleBy : World → Type 0
  IdleBy v = IsTrue (is_enabled v 0 (steps.Deliver b got)) → AreIdle (world_by v 0 (steps.Deliver b got)).bios

  -- where a bio was with_taken
  of_taken : (x : Bio) → x.number ≡ b → IdleBy (with_taken x)
  unfolding step
  of_taken x one enabled = delivered_at x one (bio_at (with_taken x) b) refl enabled

  -- by what is against the Take
  taken_by : (disk : ℕ) (x : Bio) → x.number ≡ b → (o : Option Found)
      → IdleBy (world_after w (unless_found o (take_bio w 0 disk x)))
  unfolding take_bio
  taken_by disk x one (Some f) enabled = step_idle w idle 0 (steps.Deliver b got) refl
  taken_by disk x one None enabled = of_taken x one enabled

  -- by the bio
  taken_at : (disk : ℕ) (o : Option Bio) → bio_at w b ≡ o → IdleBy (world_after w (take_of w 0 disk o))
  taken_at disk None found enabled = step_idle w idle 0 (steps.Deliver b got) refl
  taken_at disk (Some x) found enabled =
      taken_by disk x (number_found (λ (z : Bio). z.number) w.bios b x found) (take_found w disk x) enabled

  -- so a Take with its Deliver leaves none Busy
  pub take_idle : (disk : ℕ) → IdleBy (world_by w 0 (steps.Take disk b))
  unfolding step
  take_idle disk = taken_at disk (bio_at w b) refl

-- Each step but a Go of the actor leaves the actor's commands as they are.

-- where the commands of all are the same, so are those at a place
at_place : {xs ys : List (List LineCommand)} (actor : ℕ) → xs ≡ ys → slice_get xs actor ≡ slice_get ys actor
at_place actor same = ap (λ (l : List (List LineCommand)). slice_get l actor) same

module _ (w : World) where
  -- an event
  evented : (v : World) → v.actors ≡ w.actors → (e : Event) → (do_event v e).actors ≡ w.actors
  unfolding do_event
  evented v same (events.NewProvider p) = by (is_not_tasted (granted_in v) v.topology p) refl
    where
      by : (b : Bool) → is_not_tasted (granted_in v) v.topology p ≡ b
          → (do_event v (events.NewProvider p)).actors ≡ w.actors
      by true e = rw e same
      by false e = rw e same
  evented v same (events.Orphan p) = (kills (dying_consumers v.topology p) v).actors ∙ same
  evented v same _ = same

  -- a Judge, by what it says
  judged : (x : Judging) (j : Judged) → (judged_world w x j).0.actors ≡ w.actors
  judged x (Read sector) = refl
  judged x _ = refl

  -- a Reap, by the consumer
  reaped : (c : Option ℕ) → (reap_handle w c).actors ≡ w.actors
  reaped None = refl
  reaped (Some c) = refl

  -- a Start, by the way that the bio goes
  started : (x : Bio) (way : Way) → (start_by w x way).0.actors ≡ w.actors
  started x (Bounces e) = refl
  started x _ = refl

  -- a child that goes up, by whether it is the last
  child_leaves : (done : World) (parent : ℕ) → done.actors ≡ w.actors → (b : Bool)
      → (if b then option_map_or (λ y. complete_parent done y) (bio_at done parent) done else done).actors ≡ w.actors
  child_leaves done parent same false = same
  child_leaves done parent same true = by (bio_at done parent)
    where
      by : (z : Option Bio) → (option_map_or (λ y. complete_parent done y) z done).actors ≡ w.actors
      by None = same
      by (Some y) = same

  -- a bio that goes up, by its owner
  risen : (x : Bio) (owner : Owner) → (up_to w x owner).0.actors ≡ w.actors
  risen x (owners.Child parent index) =
      let done : World = change_bio w x.number (λ y. record y { phase = phases.Done }) in
      child_leaves done parent refl (is_complete done parent)
  risen x _ = refl

-- Each step, and each log

-- a step that is no Go of the actor
left_alone : (w : World) (seat : ℕ) (s : Step) (actor : ℕ) → s ≢ steps.Go actor
    → slice_get (world_after w (step w seat s)).actors actor ≡ slice_get w.actors actor
left_alone w seat s actor =
    step_by w seat (λ d a. d ≢ steps.Go actor → slice_get (world_after w a).actors actor ≡ slice_get w.actors actor)
    (record {
      refuses = λ d f apart. refl;
      goes = λ other c rest is apart.
          at_place actor (keeps (with_commands w other rest) c.line other c.command)
          ∙ slot-other w.actors other actor rest (λ same. apart (ap (λ n. steps.Go n) (sym same)));
      runs = λ e rest is apart. at_place actor (evented w (record w { events = rest }) refl e);
      judges = λ t x j is apart. at_place actor (judged w x j);
      reaps = λ h c is apart. at_place actor (reaped w c);
      washes = λ work is apart. refl;
      starts = λ b x way is apart. at_place actor (started w x way);
      takes = λ disk b x is apart. refl;
      delivers = λ b got x is apart. refl;
      rises = λ b x o is apart. at_place actor (risen w x o);
    }) s

-- each entry of a log
left_by_each : (w : World) (log : List Entry) (actor : ℕ)
    → AllByRecursion (λ (e : Entry). e.step ≢ steps.Go actor) log
    → slice_get (replay w log).actors actor ≡ slice_get w.actors actor
left_by_each w [] actor others = refl
left_by_each w (e ∷ log) actor others =
    left_by_each (after_entry w e) log actor others.1 ∙ left_alone w e.seat e.step actor others.0

-- what an actor has left changes by its own Goes alone
pub others_leave_commands : OthersLeaveCommands
others_leave_commands w log actor others =
    left_by_each w log actor (recursion_from_All (λ (e : Entry). e.step ≢ steps.Go actor) log others)
