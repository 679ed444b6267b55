-- The bios that are Sent, along a step: a Start that queues to a disk brings one, a Take, which alone asks one, takes
-- one, and each other step leaves them.
use Rattle.std.specs.Prelude.{⊤}
use Rattle.std.proofs.Common.{◌≡◌, ℕ, Bool, true, false, Ok, Err, refl, ◌+◌, ◌≤◌, ◌==◌, not, List, [], ◌∷◌, ◌++◌, filter, map, find, Option, Some, None, Contains, IsSomeAnd, IsTrue, if◌then◌else◌, inl, inr, sym, ◌∙◌, ap, subst, arith, eqb-true}
use Rattle.std.specs.List.{AllByRecursion}
use Rattle.std.specs.Option.{option_map_or}
use Rattle.std.proofs.lemmas.List.Elements.{All-contains}
use Rattle.geo_base.proofs.AllLists.{all_kept, all_weaker}
use Rattle.geo_model.specs.declared.class.Judged.{Judged}
use Rattle.geo_model.specs.declared.class.Judged.TheVariants.{Read}
use Rattle.geo_model.specs.declared.command.Command.{Command}
use Rattle.geo_model.specs.declared.step.BioResult.{BioResult}
use Rattle.geo_model.specs.declared.step.DeviceResult.{DeviceResult}
use Rattle.geo_model.specs.declared.step.Outcome.{Outcome}
use Rattle.geo_model.specs.declared.step.Outcome.TheVariants as outcomes
use Rattle.geo_model.specs.declared.step.Owner.{Owner}
use Rattle.geo_model.specs.declared.step.Owner.TheVariants as owners
use Rattle.geo_model.specs.declared.step.Phase.{Phase}
use Rattle.geo_model.specs.declared.step.Phase.TheVariants as phases
use Rattle.geo_model.specs.declared.step.Step.{Step}
use Rattle.geo_model.specs.declared.step.Step.TheVariants as steps
use Rattle.geo_model.specs.World.{World, Bio, Config, bio_at, change_number, children_of, is_sent, is_up, is_done, is_waiting, is_child_of}
use Rattle.geo_model.specs.Bios.{up_to, PieceTarget, piece_child, up_with, deliver, result_of_device, complete_parent, is_complete, joined_result, child_results}
use Rattle.geo_model.specs.Tasting.{Judging, judged_world}
use Rattle.geo_model.specs.Commands.{do_command}
use Rattle.geo_model.specs.Step.{Answer, with_commands, step}
use Rattle.geo_model.specs.Topology.{Topology}
use Rattle.geo_model.specs.Graph.{AreNumbers}
use Rattle.geo_model.specs.SoundBios.{IsFamilyInOrder}
use Rattle.geo_model.specs.Fitting.{Firm}
use Rattle.geo_model.proofs.CommandWalk.{any_graph_by}
use Rattle.geo_model.proofs.StepWalk.{step_by}
use Rattle.geo_laws_graph.proofs.Lists.{Rise, all-changed, none_outside, unhit}
use Rattle.geo_laws_graph.proofs.Members.{at_contained, All-from_contained, Contains-filter, find-Contains}
use Rattle.geo_laws_graph.proofs.Numbered.{filter-pushed, number_found, unique}
use Rattle.geo_laws_life.proofs.Found.{found-with}
use Rattle.geo_laws_counts.proofs.LimitFacts.{all_true}
use Rattle.geo_laws_bios.proofs.Turning.{found_there}
use Rattle.geo_laws_requests.specs.Arrivals.{StayOrArrive}
use Rattle.geo_laws_requests.proofs.Arrivals.{made_known}
use Rattle.geo_laws_requests.proofs.Named.{DeliversIt, delivers_it, RisesIt, rises_it}

-- whether an outcome queues to a disk or asks one
abbrev pub is_to_disk : Outcome → Bool
is_to_disk (outcomes.Queued disk) = true
is_to_disk (outcomes.Asked request) = true
is_to_disk _ = false

-- what was made neither queues nor asks
abbrev Quiet : World × Outcome → Type 0
Quiet made = is_to_disk made.1 ≡ false

-- Commands

-- each command
commanded : (w : World) (line actor : ℕ) (c : Command) → Quiet (do_command w line actor c)
commanded w line actor =
    any_graph_by w line actor (λ c made. Quiet made) (λ c q e. refl) (λ c q. refl)
    (record {
      waits = λ c is. refl;
      lists = refl;
      opens = λ name prov grant p is. refl;
      closes = λ name h is. refl;
      accepts = λ c h a is. refl;
    })

-- Steps

-- where a step was made it neither queues nor asks
abbrev After : Answer → Type 0
After (Ok made) = Quiet made
After (Err found) = ⊤

-- a judging
judging_quiet : (w : World) (x : Judging) (j : Judged) → Quiet (judged_world w x j)
judging_quiet w x (Read sector) = refl
judging_quiet w x j = refl

-- an Up, by the owner
owner_quiet : (w : World) (x : Bio) (o : Owner) → Quiet (up_to w x o)
owner_quiet w x (owners.Line handle line) = refl
owner_quiet w x o = refl

-- whether the step starts a bio or takes one
abbrev pub starts_or_takes : Step → Bool
starts_or_takes (steps.Start b) = true
starts_or_takes (steps.Take disk b) = true
starts_or_takes s = false

-- each step that is neither
others_quiet : (w : World) (seat : ℕ) (s : Step) → starts_or_takes s ≡ false → After (step w seat s)
others_quiet w seat =
    step_by w seat (λ s a. starts_or_takes s ≡ false → After a) (record {
      refuses = λ s f other. tt;
      goes = λ actor c rest is other. commanded (with_commands w actor rest) c.line actor c.command;
      runs = λ e rest is other. refl;
      judges = λ s x j is other. judging_quiet w x j;
      reaps = λ h c is other. refl;
      washes = λ work is other. refl;
      starts = λ b x way is other. absurd (let no : ⊥ = cc in no);
      takes = λ disk b x is other. absurd (let no : ⊥ = cc in no);
      delivers = λ b got x is other. refl;
      rises = λ b x o is other. owner_quiet w x o;
    })

-- so it neither queues nor asks
pub others_not_to_disk : (w v : World) (seat : ℕ) (s : Step) (o : Outcome) → starts_or_takes s ≡ false
    → step w seat s ≡ Ok (v, o) → is_to_disk o ≡ false
others_not_to_disk w v seat s o other made = rw made at (others_quiet w seat s other)

-- the bios that are Sent
abbrev pub sent_in : List Bio → List Bio
sent_in bios = filter (λ (x : Bio). is_sent x.phase) bios

-- those of this number aren't
abbrev pub NotSentAt : ℕ → List Bio → Type 0
NotSentAt n bios = AllByRecursion (λ (x : Bio). (x.number == n) ≡ true → is_sent x.phase ≡ false) bios

-- Lists of bios

-- where one changes that wasn't Sent and isn't, the same are Sent
pub changed_same : (n : ℕ) (change : Bio → Bio) → ((x : Bio) → is_sent (change x).phase ≡ false) → (xs : List Bio)
    → NotSentAt n xs → sent_in (change_number n change xs) ≡ sent_in xs
changed_same n change after [] before = refl
changed_same n change after (x ∷ xs) before =
    grind (arith, after x, before.0, changed_same n change after xs before.1)

-- where none goes that is Sent, the same are Sent
pub kept_same : (keep : Bio → Bool) (xs : List Bio)
    → AllByRecursion (λ (x : Bio). is_sent x.phase ≡ true → keep x ≡ true) xs
    → sent_in (filter keep xs) ≡ sent_in xs
kept_same keep [] so = refl
kept_same keep (x ∷ xs) so = grind (arith, so.0, kept_same keep xs so.1)

-- where those of a number go, none of which is Sent
pub gone_same : (n : ℕ) (xs : List Bio) → NotSentAt n xs
    → sent_in (filter (λ (x : Bio). not (x.number == n)) xs) ≡ sent_in xs
gone_same n [] before = refl
gone_same n (x ∷ xs) before = grind (arith, before.0, gone_same n xs before.1)

-- a bio that is found and isn't Sent is the only one of its number
pub found_not_sent : (next n : ℕ) (xs : List Bio) (x : Bio) → AreNumbers (map (λ (y : Bio). y.number) xs) next
    → find (λ (y : Bio). y.number == n) xs ≡ Some x → is_sent x.phase ≡ false → NotSentAt n xs
found_not_sent next n xs x are found quiet =
    all_weaker (λ (y : Bio). (y.number == n) ≡ true → y ≡ x)
    (λ (y : Bio). (y.number == n) ≡ true → is_sent y.phase ≡ false)
    (λ y only e. subst (λ (z : Bio). is_sent z.phase ≡ false) (sym (only e)) quiet) xs
    (unique (λ (y : Bio). y.number) next n xs x are found)

-- new children aren't Sent
pub no_child_sent : (t : Topology Config) (next : ℕ) (x : Bio) (items : List (ℕ × PieceTarget))
    → sent_in (map (λ item. piece_child t next x item.0 item.1) items) ≡ []
no_child_sent t next x [] = refl
no_child_sent t next x (item ∷ items) = no_child_sent t next x items

-- Phases

-- one that passes a test which Sent doesn't, isn't Sent
pub not_sent : (test : Phase → Bool) → test phases.Sent ≡ false → (p : Phase) → test p ≡ true → is_sent p ≡ false
not_sent test out phases.Sent e = absurd (let no : ⊥ = cc in no)
not_sent test out p e = refl

-- Steps that send and take none

module _ (w : World) (firm : Firm w) where
  -- one that is found and isn't Sent
  alone : (n : ℕ) (x : Bio) → bio_at w n ≡ Some x → is_sent x.phase ≡ false → NotSentAt n w.bios
  alone n x found quiet = found_not_sent w.next_bio n w.bios x firm.bios.numbers found quiet

  module _ (x : Bio) (found : bio_at w x.number ≡ Some x) (rising : is_up x.phase ≡ true) where
    -- it isn't Sent
    quiet : NotSentAt x.number w.bios
    quiet = alone x.number x found (not_sent is_up refl x.phase rising)

    -- the world in which it is Done
    abbrev gathered : World
    gathered = record w { bios = change_number x.number (λ y. record y { phase = phases.Done }) w.bios }

    -- in which the same are Sent
    gathered_same : sent_in gathered.bios ≡ sent_in w.bios
    gathered_same = changed_same x.number (λ y. record y { phase = phases.Done }) (λ y. refl) w.bios quiet

    module _ (parent index : ℕ) (own : x.owner ≡ owners.Child parent index) where
      -- its parent waits
      parent_quiet : NotSentAt parent w.bios
      parent_quiet =
          let family : IsFamilyInOrder w.topology w.bios x =
          All-contains (IsFamilyInOrder w.topology w.bios) w.bios x firm.bios.families
          (find-Contains (λ (y : Bio). y.number == x.number) w.bios x found) in
          let waits : IsSomeAnd (bio_at w parent) (λ y. IsTrue (is_waiting y.phase)) = rw own at family.parent in
          let y = found-with (bio_at w parent) (λ y. IsTrue (is_waiting y.phase)) waits in
          alone parent y.item y.is (not_sent is_waiting refl y.item.phase y.fact)

      -- also then
      still_quiet : NotSentAt parent gathered.bios
      still_quiet =
          all-changed (λ (y : Bio). y.number == x.number) (λ (y : Bio). record y { phase = phases.Done })
          (λ (y : Bio). (y.number == parent) ≡ true → is_sent y.phase ≡ false) (λ y e was here. refl) w.bios
          parent_quiet

      -- where all children are Done, none is Sent
      abbrev NoChild : ℕ → Bio → Type 0
      NoChild n y = is_sent y.phase ≡ true → not (is_child_of y.owner n) ≡ true

      -- by whether it is a child
      child_by : (n : ℕ) → is_complete gathered n ≡ true → (y : Bio) → Contains gathered.bios y → (b : Bool)
          → is_child_of y.owner n ≡ b → NoChild n y
      child_by n complete y here false e sent = rw e refl
      child_by n complete y here true e sent =
          let done : is_done y.phase ≡ true =
          all_true (λ (z : Bio). is_done z.phase) (children_of gathered n) complete y
          (Contains-filter (λ (z : Bio). is_child_of z.owner n) gathered.bios y here e) in
          let quiet : is_sent y.phase ≡ false = not_sent is_done refl y.phase done in
          absurd (let no : ⊥ = cc in no)

      -- the parent goes up and its children go
      parent_same : (y : Bio) → y.number ≡ parent → is_complete gathered y.number ≡ true
          → sent_in (complete_parent gathered y).bios ≡ sent_in w.bios
      parent_same y number complete =
          let result : BioResult = joined_result y.cmd (child_results gathered y.number) in
          kept_same (λ (z : Bio). not (is_child_of z.owner y.number))
          (change_number y.number (up_with result) gathered.bios)
          (all-changed (λ (z : Bio). z.number == y.number) (up_with result) (NoChild y.number)
          (λ z e was sent. absurd (let no : ⊥ = cc in no)) gathered.bios
          (All-from_contained (NoChild y.number) gathered.bios (λ z here.
          child_by y.number complete z here (is_child_of z.owner y.number) refl)))
          ∙ changed_same y.number (up_with result) (λ z. refl) gathered.bios
          (subst (λ (n : ℕ). NotSentAt n gathered.bios) (sym number) still_quiet)
          ∙ gathered_same

      -- by whether it was the last, and the parent that is found
      up_child_by : (b : Bool) → is_complete gathered parent ≡ b → (o : Option Bio) → bio_at gathered parent ≡ o
          → sent_in (if b then option_map_or (λ y. complete_parent gathered y) o gathered else gathered).bios
          ≡ sent_in w.bios
      up_child_by false e o at = gathered_same
      up_child_by true e None at = gathered_same
      up_child_by true e (Some y) at =
          let number : y.number ≡ parent = number_found (λ (z : Bio). z.number) gathered.bios parent y at in
          parent_same y number (ap (is_complete gathered) number ∙ e)

    -- an Up, by the owner
    owner_same : (o : Owner) → x.owner ≡ o → sent_in (up_to w x o).0.bios ≡ sent_in w.bios
    owner_same (owners.Line handle line) own = gone_same x.number w.bios quiet
    owner_same owners.Taste own = gone_same x.number w.bios quiet
    owner_same (owners.Child parent index) own =
        up_child_by parent index own (is_complete gathered parent) refl (bio_at gathered parent) refl

  -- a Deliver
  deliver_same : (v : World) (seat b : ℕ) (got : DeviceResult) (o : Outcome) → DeliversIt w v seat b got o
      → sent_in v.bios ≡ sent_in w.bios
  unfolding deliver
  deliver_same v seat b got o it =
      ap (λ (m : World × Outcome). sent_in m.0.bios) it.made
      ∙ changed_same it.bio.number (up_with (result_of_device got)) (λ y. refl) w.bios
      (alone it.bio.number it.bio (found_there w b it.bio it.found) (ap is_sent it.own))

  -- an Up
  up_same : (v : World) (b : ℕ) (o : Outcome) → RisesIt w v b o → sent_in v.bios ≡ sent_in w.bios
  up_same v b o it =
      ap (λ (m : World × Outcome). sent_in m.0.bios) it.made
      ∙ owner_same it.bio (found_there w b it.bio it.found) it.up it.bio.owner refl

  -- where all bios stay, or one arrives
  come_by : (v : World) (o : Outcome) → StayOrArrive w v o → sent_in v.bios ≡ sent_in w.bios
  come_by v o (inl stay) = ap sent_in stay.0.bios
  come_by v o (inr come) =
      let quiet : is_sent come.0.phase ≡ false = ap is_sent come.1.0.phase in
      ap sent_in come.1.0.bios ∙ filter-pushed (λ (x : Bio). is_sent x.phase) w.bios come.0 quiet

  -- each step but a Start and a Take
  pub sent_same : (v : World) (seat : ℕ) (s : Step) (o : Outcome) → starts_or_takes s ≡ false
      → step w seat s ≡ Ok (v, o) → sent_in v.bios ≡ sent_in w.bios
  sent_same v seat (steps.Start b) o other made = absurd (let no : ⊥ = cc in no)
  sent_same v seat (steps.Take disk b) o other made = absurd (let no : ⊥ = cc in no)
  sent_same v seat (steps.Deliver b got) o other made =
      deliver_same v seat b got o (delivers_it w v seat b got o made)
  sent_same v seat (steps.Up b) o other made = up_same v b o (rises_it w v seat b o made)
  sent_same v seat s o other made = come_by v o (made_known w v seat s o refl made)

-- One more, and one less

-- one more is Sent, at the place of its number
pub record OneSent (n : ℕ) (one : Bio) (before after : List Bio) : Type 0 where
  pub front : List Bio
  pub back : List Bio
  pub was : before ≡ front ++ back
  pub is : after ≡ front ++ one ∷ back
  pub below : AllByRecursion (λ (y : Bio). y.number ≤ n) front
  pub above : AllByRecursion (λ (y : Bio). n ≤ y.number) back

-- a bio in phase Sent
abbrev pub as_sent : Bio → Bio
as_sent x = record x { phase = phases.Sent }

-- one more in front, that is Sent or isn't
sent_front : (n : ℕ) (one y : Bio) (ys zs : List Bio) (b : Bool) → is_sent y.phase ≡ b → y.number ≤ n
    → OneSent n one (sent_in ys) (sent_in zs) → OneSent n one (sent_in (y ∷ ys)) (sent_in (y ∷ zs))
sent_front n one y ys zs true e low o = rw e (record {
  front = y ∷ o.front;
  back = o.back;
  was = ap (λ (xs : List Bio). y ∷ xs) o.was;
  is = ap (λ (xs : List Bio). y ∷ xs) o.is;
  below = (low, o.below);
  above = o.above;
})
sent_front n one y ys zs false e low o = rw e o

-- where numbers rise from one on, none is lower
pub all_high : {X : Type 0} (number : X → ℕ) (n low high : ℕ) (xs : List X) → Rise low (map number xs) high → n ≤ low
    → AllByRecursion (λ (x : X). n ≤ number x) xs
all_high number n low high [] rise most = tt
all_high number n low high (x ∷ xs) rise most = (
  omega (arith, most, rise.0),
  all_high number n (number x + 1) high xs rise.2 (omega (arith, most, rise.0)),
)

module _ (n high : ℕ) (x : Bio) (quiet : is_sent x.phase ≡ false) where
  -- one more bio, by whether it is the one
  queued_step : (low : ℕ) (y : Bio) (ys : List Bio) → Rise low (map (λ (z : Bio). z.number) (y ∷ ys)) high → (b : Bool)
      → (y.number == n) ≡ b → find (λ (z : Bio). z.number == n) (y ∷ ys) ≡ Some x
      → (find (λ (z : Bio). z.number == n) ys ≡ Some x
      → OneSent n (as_sent x) (sent_in ys) (sent_in (change_number n as_sent ys)))
      → OneSent n (as_sent x) (sent_in (y ∷ ys)) (sent_in (change_number n as_sent (y ∷ ys)))
  queued_step low y ys rise true e found rest =
      let first : Some y ≡ Some x = rw e at found in
      let same : y ≡ x = cc in
      let number : y.number ≡ n = eqb-true y.number n e in
      let others : change_number n as_sent ys ≡ ys =
      unhit (λ (z : Bio). z.number == n) as_sent ys
      (none_outside (λ (z : Bio). z.number) (y.number + 1) high n ys rise.2 (inl (omega (arith, number)))) in
      let not_yet : is_sent y.phase ≡ false = ap (λ (z : Bio). is_sent z.phase) same ∙ quiet in
      record {
        front = [];
        back = sent_in ys;
        was = rw not_yet refl;
        is = rw (e, others) (ap (λ (z : Bio). as_sent z ∷ sent_in ys) same);
        below = tt;
        above =
            all_kept (λ (z : Bio). n ≤ z.number) (λ (z : Bio). is_sent z.phase) ys
            (all_high (λ (z : Bio). z.number) n (y.number + 1) high ys rise.2 (omega (arith, number)));
      }
  queued_step low y ys rise false e found rest =
      let there : find (λ (z : Bio). z.number == n) ys ≡ Some x = rw e at found in
      let number : x.number ≡ n = number_found (λ (z : Bio). z.number) ys n x there in
      let above : y.number + 1 ≤ x.number =
      at_contained (λ (z : Bio). y.number + 1 ≤ z.number) ys x
      (all_high (λ (z : Bio). z.number) (y.number + 1) (y.number + 1) high ys rise.2 (omega arith))
      (find-Contains (λ (z : Bio). z.number == n) ys x there) in
      rw e (sent_front n (as_sent x) y ys (change_number n as_sent ys) (is_sent y.phase) refl
      (omega (arith, number, above)) (rest there))

  -- one that wasn't Sent is
  pub queued_in : (low : ℕ) (xs : List Bio) → Rise low (map (λ (z : Bio). z.number) xs) high
      → find (λ (z : Bio). z.number == n) xs ≡ Some x
      → OneSent n (as_sent x) (sent_in xs) (sent_in (change_number n as_sent xs))
  queued_in low [] rise found = absurd (let no : ⊥ = cc in no)
  queued_in low (y ∷ ys) rise found =
      queued_step low y ys rise (y.number == n) refl found (queued_in (y.number + 1) ys rise.2)

-- where one is taken, it alone isn't Sent any more
pub taken_in_list : (n seat : ℕ) (xs : List Bio)
    → sent_in (change_number n (λ y. record y { phase = phases.Busy seat }) xs)
    ≡ filter (λ (y : Bio). not (y.number == n)) (sent_in xs)
taken_in_list n seat [] = refl
taken_in_list n seat (x ∷ xs) = grind (arith, taken_in_list n seat xs)
