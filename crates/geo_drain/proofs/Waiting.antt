-- Where no bio is Busy, each that waits for a disk can be taken by it.
use Rattle.std.specs.Prelude.{◌≡◌, ℕ, ◌==◌, true, false, filter, Option, Some, None, Contains}
use Rattle.std.specs.List.{AllByRecursion}
use Rattle.std.specs.Option.{option_map_or}
use Rattle.std.proofs.Common.{refl, subst}
use Rattle.std.proofs.lemmas.Bool.{and_parts, eqb-true}
use Rattle.geo_model.specs.declared.step.Step.TheVariants as steps
use Rattle.geo_model.specs.World.{World, Bio, bio_at, is_sent}
use Rattle.geo_model.specs.Bios.{busy_bio, disk_of_bio}
use Rattle.geo_model.specs.Fitting.{Firm}
use Rattle.geo_model.specs.Laws.{NoneBusy}
use Rattle.geo_model.specs.Step.{is_enabled}
use Rattle.geo_laws_graph.proofs.Lists.{found_itself}
use Rattle.geo_laws_graph.proofs.Members.{All-from_contained, filter-Contains, map-Contains}
use Rattle.geo_laws_rest.proofs.Moving.{free_by}
use Rattle.geo_laws_rest.proofs.Picking.{take_by}
use Rattle.geo_headline.specs.Sweep.{Waiting, waiting_of, is_sent_to, waiting_for}

module _ (w : World) (firm : Firm w) (idle : NoneBusy w) where
  -- by its own disk
  at_its : (disk : ℕ) (x : Bio) → Contains w.bios x → is_sent x.phase ≡ true → (o : Option ℕ) → disk_of_bio w x ≡ o
      → option_map_or (λ d. d == disk) o false ≡ true → is_enabled w 0 (steps.Take disk x.number) ≡ true
  at_its disk x here sent None at is = absurd (let bad : ⊥ = cc in bad)
  at_its disk x here sent (Some d) at is =
      let same : d ≡ disk = eqb-true d disk is in
      let found : bio_at w x.number ≡ Some x =
      found_itself (λ (y : Bio). y.number) w.next_bio w.bios x firm.bios.numbers here in
      subst (λ (n : ℕ). is_enabled w 0 (steps.Take n x.number) ≡ true) same
      (take_by w firm x found sent (Some d) at (free_by w firm idle d (busy_bio w d) refl))

  -- a bio that was sent to it
  sent_to : (disk : ℕ) (x : Bio) → Contains w.bios x → is_sent_to w disk x ≡ true
      → is_enabled w 0 (steps.Take disk x.number) ≡ true
  sent_to disk x here is =
      let both = and_parts (is_sent x.phase) (option_map_or (λ d. d == disk) (disk_of_bio w x) false) is in
      at_its disk x here both.0 (disk_of_bio w x) refl both.1

  -- all that waits
  pub waiting_can_be_taken : (disk : ℕ)
      → AllByRecursion (λ (y : Waiting). is_enabled w 0 (steps.Take disk y.bio) ≡ true) (waiting_for w disk)
  waiting_can_be_taken disk =
      All-from_contained (λ (y : Waiting). is_enabled w 0 (steps.Take disk y.bio) ≡ true) (waiting_for w disk)
      (λ y waits.
      let o = map-Contains (waiting_of w) (filter (is_sent_to w disk) w.bios) y waits in
      let x = filter-Contains (is_sent_to w disk) w.bios o.item o.stands in
      subst (λ (z : Waiting). is_enabled w 0 (steps.Take disk z.bio) ≡ true) o.fact (sent_to disk o.item x.0 x.1))
