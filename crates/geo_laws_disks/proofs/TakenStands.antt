-- A step of another seat leaves a Busy bio exactly as it is, so what a seat took stands as it was taken.
use Rattle.std.proofs.Common.{◌≡◌, ◌≢◌, ℕ, ◌==◌, Bool, true, false, List, [], ◌∷◌, filter, find, Some, Contains, inl, inr, refl, sym, ◌∙◌, ap, subst, eqb-true, not, ◌++◌, Option, None, Ok, IsSomeAnd, IsTrue, option_map}
use Rattle.std.proofs.lemmas.Bool.{and_parts, both_ways}
use Rattle.std.proofs.lemmas.List.Elements.{All-contains}
use Rattle.std.specs.List.{list_all}
use Rattle.std.specs.Option.{option_map_or}
use Rattle.geo_base.proofs.FindLists.{found-before}
use Rattle.geo_base.specs.declared.errno.Errno.TheVariants.{EIO}
use Rattle.geo_model.specs.declared.step.BioResult.{BioResult}
use Rattle.geo_model.specs.declared.step.BioResult.TheVariants as results
use Rattle.geo_model.specs.declared.step.DeviceResult.{DeviceResult}
use Rattle.geo_model.specs.declared.step.Outcome.{Outcome}
use Rattle.geo_model.specs.declared.step.Owner.{Owner}
use Rattle.geo_model.specs.declared.step.Owner.TheVariants as owners
use Rattle.geo_model.specs.declared.step.Phase.{Phase}
use Rattle.geo_model.specs.declared.step.Phase.TheVariants as phases
use Rattle.geo_model.specs.declared.step.Step.{Step}
use Rattle.geo_model.specs.declared.step.Step.TheVariants as steps
use Rattle.geo_model.specs.Bios.{Way, Bounces, Fails, Sends, Splits, Passes, child_results, complete_parent, deliver, is_complete, joined_result, piece_children, result_of_device, start_by, take_bio, up_to, up_with, way_of, sector_at, sector_of_bio}
use Rattle.geo_model.specs.Fitting.{Firm}
use Rattle.geo_model.specs.Log.{world_after}
use Rattle.geo_model.specs.SoundBios.{IsFamilyInOrder}
use Rattle.geo_model.specs.Step.{step, Answer}
use Rattle.geo_model.specs.Topology.{note_started, Topology, Provider, provider_at}
use Rattle.geo_model.specs.World.{Bio, change_number, World, bio_at, change_bio, children_of, is_busy, is_child_of, is_done, is_sent, is_up, is_waiting, Config}
use Rattle.geo_laws_graph.proofs.Members.{Contains-cases, nothing_in, Contains-filter, find-Contains}
use Rattle.geo_laws_graph.proofs.Numbered.{number_found, at-unchanged}
use Rattle.geo_laws_requests.proofs.Arrivals.{made_known}
use Rattle.geo_laws_requests.proofs.Legal.{steps_keep_used}
use Rattle.geo_laws_requests.proofs.Named.{StartsIt, starts_it, TakesIt, takes_it, DeliversIt, delivers_it, RisesIt, rises_it}
use Rattle.geo_laws_requests.proofs.Starts.{in_phase}
use Rattle.geo_laws_requests.specs.Arrivals.{StayOrArrive}
use Rattle.geo_laws_requests.specs.Ways.{SameMap, sizes_at}
use Rattle.geo_laws_disks.specs.TakenLaws.{OthersLeaveIt}
use Rattle.geo_laws_disks.proofs.Origins.{gathered_or}

-- among some bios a bio is the one of a number
abbrev pub IsFound : ℕ → Bio → List Bio → Type 0
IsFound b x ys = find (λ (y : Bio). y.number == b) ys ≡ Some x

-- where bios go, but not this one, it is the one still
pub found_kept : (b : ℕ) (x : Bio) (keep : Bio → Bool) → keep x ≡ true → (ys : List Bio) → IsFound b x ys
    → IsFound b x (filter keep ys)
found_kept b x keep stays [] found = absurd cc
found_kept b x keep stays (y ∷ ys) found =
    by (keep y) refl (y.number == b) refl (found_kept b x keep stays ys)
  where
    by : (c : Bool) → keep y ≡ c → (d : Bool) → (y.number == b) ≡ d
        → (IsFound b x ys → IsFound b x (filter keep ys)) → IsFound b x (filter keep (y ∷ ys))
    by true kept true own rest =
        let here : Some y ≡ Some x = rw own at found in
        rw kept (rw own here)
    by true kept false miss rest =
        let there : IsFound b x ys = rw miss at found in
        rw kept (rw miss (rest there))
    by false gone true own rest =
        let here : Some y ≡ Some x = rw own at found in
        let same : y ≡ x = cc in
        absurd (both_ways (keep y) gone (subst (λ (z : Bio). keep z ≡ true) (sym same) stays))
    by false gone false miss rest =
        let there : IsFound b x ys = rw miss at found in
        rw gone (rest there)

-- what all of some bios pass, each of them passes
pub each_passes : (test : Bio → Bool) (ys : List Bio) (x : Bio) → list_all test ys ≡ true → Contains ys x
    → test x ≡ true
each_passes test [] x all here = absurd (nothing_in x here)
each_passes test (y ∷ ys) x all here =
    let parts = and_parts (test y) (list_all test ys) all in
    elim (Contains-cases y x ys here) [
      | inl same ↦ subst (λ (z : Bio). test z ≡ true) same parts.0
      | inr rest ↦ each_passes test ys x parts.1 rest
    ]

module _ (w : World) (seat other b : ℕ) (x : Bio) (apart : other ≢ seat) (found : bio_at w b ≡ Some x)
    (busy : x.phase ≡ phases.Busy seat) where
  -- a bio that passes a test which no Busy bio passes is another
  elsewhere : (test : Phase → Bool) → test (phases.Busy seat) ≡ false → (c : ℕ) (y : Bio) → bio_at w c ≡ Some y
      → test y.phase ≡ true → c ≢ b
  elsewhere test none c y at passes same =
      let there : bio_at w b ≡ Some y = subst (λ n. bio_at w n ≡ Some y) same at in
      let both : Some y ≡ Some x = sym there ∙ found in
      let one : y ≡ x = cc in
      let phase : y.phase ≡ phases.Busy seat = subst (λ (z : Bio). z.phase ≡ phases.Busy seat) (sym one) busy in
      both_ways (test y.phase) (subst (λ p. test p ≡ false) (sym phase) none) passes

  -- a bio of another number is turned
  turned : (c : ℕ) (y : Bio) (change : Bio → Bio) → ((z : Bio) → (change z).number ≡ z.number) → bio_at w c ≡ Some y
      → c ≢ b → IsFound b x (change_number y.number change w.bios)
  turned c y change keeps at other_one =
      at-unchanged (λ (z : Bio). z.number) change keeps y.number b
      (λ same. other_one (sym (number_found (λ (z : Bio). z.number) w.bios c y at) ∙ sym same)) w.bios
      ∙ found

  -- the bios stay, or one arrives
  arrives : (v : World) (o : Outcome) → StayOrArrive w v o → bio_at v b ≡ Some x
  arrives v o (inl stay) = ap (λ ys. find (λ (y : Bio). y.number == b) ys) stay.0.bios ∙ found
  arrives v o (inr come) =
      ap (λ ys. find (λ (y : Bio). y.number == b) ys) come.1.0.bios
      ∙ found-before (λ (y : Bio). y.number == b) w.bios (come.0 ∷ []) x found

  -- a Start
  started : (v : World) (c : ℕ) (o : Outcome) → step w other (steps.Start c) ≡ Ok (v, o) → bio_at v b ≡ Some x
  started v c o made = by (way_of w.topology y) it.made
    where
      it : StartsIt w v c o
      it = starts_it w v other c o made

      y : Bio
      y = it.bio

      is_quiet : Phase → Bool
      is_quiet p = not (is_busy p)

      other_one : c ≢ b
      other_one = elsewhere is_quiet refl c y it.found (rw it.down refl)

      alone : (change : Bio → Bio) → ((z : Bio) → (change z).number ≡ z.number)
          → v.bios ≡ change_number y.number change w.bios → bio_at v b ≡ Some x
      alone change keeps bios =
          ap (λ ys. find (λ (z : Bio). z.number == b) ys) bios ∙ turned c y change keeps it.found other_one

      split : (children : List Bio)
          → v.bios ≡ change_number y.number (in_phase phases.Waiting) w.bios ++ children → bio_at v b ≡ Some x
      split children bios =
          ap (λ ys. find (λ (z : Bio). z.number == b) ys) bios
          ∙ found-before (λ (z : Bio). z.number == b) (change_number y.number (in_phase phases.Waiting) w.bios)
          children x (turned c y (in_phase phases.Waiting) (λ z. refl) it.found other_one)

      by : (way : Way) → (v, o) ≡ start_by w y way → bio_at v b ≡ Some x
      by (Bounces e) is = alone (up_with (results.Failed e)) (λ z. refl) (ap (λ (m : World × Outcome). m.0.bios) is)
      by (Fails g) is = alone (up_with (results.Failed EIO)) (λ z. refl) (ap (λ (m : World × Outcome). m.0.bios) is)
      by (Sends disk) is = alone (in_phase phases.Sent) (λ z. refl) (ap (λ (m : World × Outcome). m.0.bios) is)
      by (Splits targets) is =
          split (piece_children w.topology w.next_bio y targets) (ap (λ (m : World × Outcome). m.0.bios) is)
      by (Passes g targets) is =
          split (piece_children (note_started w.topology g) w.next_bio y targets)
          (ap (λ (m : World × Outcome). m.0.bios) is)

  -- a Take
  taken : (v : World) (disk c : ℕ) (o : Outcome) → step w other (steps.Take disk c) ≡ Ok (v, o)
      → bio_at v b ≡ Some x
  unfolding take_bio
  taken v disk c o made =
      let it : TakesIt w v other disk c o = takes_it w v other disk c o made in
      ap (λ (m : World × Outcome). bio_at m.0 b) it.made
      ∙ turned c it.bio (in_phase (phases.Busy other)) (λ z. refl) it.found
      (elsewhere is_sent refl c it.bio it.found it.can.sent)

  -- a Deliver
  delivered : (v : World) (c : ℕ) (got : DeviceResult) (o : Outcome)
      → step w other (steps.Deliver c got) ≡ Ok (v, o) → bio_at v b ≡ Some x
  unfolding deliver
  delivered v c got o made =
      let it : DeliversIt w v other c got o = delivers_it w v other c got o made in
      ap (λ (m : World × Outcome). bio_at m.0 b) it.made
      ∙ turned c it.bio (up_with (result_of_device got)) (λ z. refl) it.found (λ same.
      let there : bio_at w b ≡ Some it.bio = subst (λ n. bio_at w n ≡ Some it.bio) same it.found in
      let both : Some it.bio ≡ Some x = sym there ∙ found in
      let one : it.bio ≡ x = cc in
      let seats : phases.Busy other ≡ phases.Busy seat = sym it.own ∙ ap (λ (z : Bio). z.phase) one ∙ busy in
      apart (let is : other ≡ seat = cc in is))

  -- an Up of a child y with this parent
  module _ (y : Bio) (c parent : ℕ) (found_y : bio_at w c ≡ Some y) (other_one : c ≢ b)
      (waits : IsSomeAnd (bio_at w parent) (λ q. IsTrue (is_waiting q.phase))) where
    -- the world in which the child is Done
    abbrev done : World
    done = change_bio w y.number (in_phase phases.Done)

    -- in which the bio stands
    done_found : bio_at done b ≡ Some x
    done_found = turned c y (in_phase phases.Done) (λ z. refl) found_y other_one

    -- the parent is another
    parent_other : parent ≢ b
    parent_other = by (bio_at w parent) refl waits
      where
        by : (z : Option Bio) → bio_at w parent ≡ z → IsSomeAnd z (λ q. IsTrue (is_waiting q.phase)) → parent ≢ b
        by None at waits = absurd waits
        by (Some q) at waits = elsewhere is_waiting refl parent q at waits

    -- where all children of the parent are Done, the bio is none of them
    no_child : is_complete done parent ≡ true → is_child_of x.owner parent ≡ false
    no_child complete = by (is_child_of x.owner parent) refl
      where
        by : (d : Bool) → is_child_of x.owner parent ≡ d → d ≡ false
        by false e = refl
        by true e =
            let among : Contains (children_of done parent) x =
            Contains-filter (λ (z : Bio). is_child_of z.owner parent) done.bios x
            (find-Contains (λ (z : Bio). z.number == b) done.bios x done_found) e in
            let passes : is_done x.phase ≡ true =
            each_passes (λ (z : Bio). is_done z.phase) (children_of done parent) x complete among in
            absurd (both_ways (is_done x.phase) (rw busy refl) passes)

    -- the parent goes up, and its children go
    parent_up : (q : Bio) → bio_at done parent ≡ Some q → is_complete done parent ≡ true
        → bio_at (complete_parent done q) b ≡ Some x
    parent_up q at complete =
        let its : q.number ≡ parent = number_found (λ (z : Bio). z.number) done.bios parent q at in
        let got : BioResult = joined_result q.cmd (child_results done q.number) in
        let none : is_child_of x.owner q.number ≡ false =
        ap (λ n. is_child_of x.owner n) its ∙ no_child complete in
        found_kept b x (λ (z : Bio). not (is_child_of z.owner q.number)) (ap not none)
        (change_number q.number (up_with got) done.bios)
        (at-unchanged (λ (z : Bio). z.number) (up_with got) (λ z. refl) q.number b
        (λ same. parent_other (sym (same ∙ its))) done.bios
        ∙ done_found)

    -- by whether it is the last
    gathered_found : (d : Bool) → is_complete done parent ≡ d → bio_at (gathered_or done parent d) b ≡ Some x
    gathered_found false e = done_found
    gathered_found true complete = by (bio_at done parent) refl
      where
        by : (z : Option Bio) → bio_at done parent ≡ z
            → bio_at (option_map_or (λ q. complete_parent done q) z done) b ≡ Some x
        by None at = done_found
        by (Some q) at = parent_up q at complete

  -- an Up
  risen : (v : World) (c : ℕ) (o : Outcome) → Firm w → step w other (steps.Up c) ≡ Ok (v, o) → bio_at v b ≡ Some x
  risen v c o firm made = by y.owner refl it.made
    where
      it : RisesIt w v c o
      it = rises_it w v other c o made

      y : Bio
      y = it.bio

      other_one : c ≢ b
      other_one = elsewhere is_up refl c y it.found it.up

      family : IsFamilyInOrder w.topology w.bios y
      family =
          All-contains (IsFamilyInOrder w.topology w.bios) w.bios y firm.bios.families
          (find-Contains (λ (z : Bio). z.number == c) w.bios y it.found)

      goes : v.bios ≡ filter (λ (z : Bio). not (z.number == y.number)) w.bios → bio_at v b ≡ Some x
      goes bios =
          ap (λ ys. find (λ (z : Bio). z.number == b) ys) bios
          ∙ found_kept b x (λ (z : Bio). not (z.number == y.number)) (ap not kept) w.bios found
        where
          by_number : (d : Bool) → (x.number == y.number) ≡ d → d ≡ false
          by_number false e = refl
          by_number true e =
              absurd (other_one (sym (number_found (λ (z : Bio). z.number) w.bios c y it.found)
              ∙ sym (eqb-true x.number y.number e) ∙ number_found (λ (z : Bio). z.number) w.bios b x found))

          kept : (x.number == y.number) ≡ false
          kept = by_number (x.number == y.number) refl

      by : (owner : Owner) → y.owner ≡ owner → (v, o) ≡ up_to w y y.owner → bio_at v b ≡ Some x
      by (owners.Line handle line) of is =
          goes (ap (λ (m : World × Outcome). m.0.bios) (is ∙ ap (λ k. up_to w y k) of))
      by owners.Taste of is = goes (ap (λ (m : World × Outcome). m.0.bios) (is ∙ ap (λ k. up_to w y k) of))
      by (owners.Child parent index) of is =
          let waits : IsSomeAnd (bio_at w parent) (λ q. IsTrue (is_waiting q.phase)) = rw of at family.parent in
          let last : Bool = is_complete (done y c parent it.found other_one waits) parent in
          let now : v ≡ gathered_or (done y c parent it.found other_one waits) parent last =
          ap (λ (m : World × Outcome). m.0) (is ∙ ap (λ k. up_to w y k) of) in
          ap (λ (z : World). bio_at z b) now ∙ gathered_found y c parent it.found other_one waits last refl

  -- whatever another seat does, the bio is found as it was
  pub stands_still : (v : World) (s : Step) (o : Outcome) → Firm w → step w other s ≡ Ok (v, o) → bio_at v b ≡ Some x
  stands_still v (steps.Start c) o firm made = started v c o made
  stands_still v (steps.Take disk c) o firm made = taken v disk c o made
  stands_still v (steps.Deliver c got) o firm made = delivered v c got o made
  stands_still v (steps.Up c) o firm made = risen v c o firm made
  stands_still v s o firm made = arrives v o (made_known w v other s o refl made)

-- the sector size is the first of both sizes
sector_in : (t : Topology Config) (p : ℕ)
    → sector_at t p ≡ option_map_or (λ (z : ℕ × ℕ). z.0) (sizes_at t p) 512
sector_in t p = by (provider_at t p)
  where
    by : (o : Option Provider)
        → option_map_or (λ (z : Provider). z.sector) o 512
        ≡ option_map_or (λ (z : ℕ × ℕ). z.0) (option_map {U = ℕ × ℕ} (λ (z : Provider). (z.sector, z.size)) o) 512
    by None = refl
    by (Some z) = refl

-- a step keeps the sector size of a bio that stands
pub sector_stays : (w v : World) (other : ℕ) (s : Step) (o : Outcome) (x : Bio) → Firm w → Contains w.bios x
    → step w other s ≡ Ok (v, o) → sector_of_bio v x ≡ sector_of_bio w x
sector_stays w v other s o x firm here made =
    let same : SameMap w.topology (world_after w (step w other s)).topology x.target =
    steps_keep_used.maps w other s x firm here in
    let after : SameMap w.topology v.topology x.target =
    subst (λ (a : Answer). SameMap w.topology (world_after w a).topology x.target) made same in
    sector_in v.topology x.target
    ∙ ap (λ z. option_map_or (λ (z : ℕ × ℕ). z.0) z 512) after.sizes
    ∙ sym (sector_in w.topology x.target)

-- each step of another seat
pub others_leave_it : OthersLeaveIt
others_leave_it w v seat other s o sector x firm apart made was = record {
  now = was.now;
  at = stands_still w seat other x.number was.now apart was.at was.busy v s o firm made;
  busy = was.busy;
  cmd = was.cmd;
  len = was.len;
  sector_is =
      sector_stays w v other s o was.now firm (find-Contains (λ (y : Bio). y.number == x.number) w.bios was.now was.at)
      made
      ∙ was.sector_is;
}
