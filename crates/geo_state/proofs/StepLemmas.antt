-- Steps of bios in a world that has the shown bios.
use Rattle.std.proofs.Common.{◌≡◌, ℕ, ◌+◌, ◌==◌, List, [], ◌∷◌, ◌++◌, map, filter, find, length, Bool, true, false, not, Option, Some, None, unwrap_or, sym, refl, ap, ◌∙◌, cond, IsTrue, rules}
use Rattle.std.specs.List.{list_all, enumerate_from, AllByRecursion}
use Rattle.std.specs.Option.{option_map, option_map_or}
use Rattle.std.proofs.lemmas.Bool.{eqb-true}
use Rattle.std.proofs.lemmas.List.{map-append}
use Rattle.std.proofs.lemmas.List.Folds.{list_all-map}
use Rattle.std.proofs.lemmas.List.FromFn.{length-enumerate_from}
use Rattle.geo_base.proofs.FindLists.{find-map}
use Rattle.geo_base.proofs.FilterLists.{filter-map}
use Rattle.geo_model.specs.declared.step.BioResult.{BioResult}
use Rattle.geo_model.specs.declared.step.BioResult.TheVariants as results
use Rattle.geo_model.specs.declared.step.DeviceResult.{DeviceResult}
use Rattle.geo_model.specs.declared.step.DeviceResult.TheVariants as devices
use Rattle.geo_model.specs.declared.step.Outcome.{Outcome}
use Rattle.geo_model.specs.declared.step.Outcome.TheVariants as outcomes
use Rattle.geo_model.specs.declared.step.Owner.TheVariants as owners
use Rattle.geo_model.specs.declared.step.Phase.TheVariants as phases
use Rattle.geo_model.specs.Topology.{Topology}
use Rattle.geo_model.specs.World.{World, Config, Bio, BioOf, bio_at, children_among, change_number, is_done, is_child_of, bio_among}
use Rattle.geo_model.specs.Words.{is_read}
use Rattle.geo_model.specs.Bios.{PieceTarget, piece_child, up_with, split_bio, take_bio, deliver, up_to, is_complete, complete_parent, child_results, joined_result, request_of_bio, result_of_device, fits_bio}
use Rattle.geo_bio.specs.declared.bio.Held.{Held}
use Rattle.geo_bio.specs.declared.bio.Held.TheVariants as held
use Rattle.geo_bio.specs.BioTable.{with_phase, delivered}
use Rattle.geo_bio.specs.PieceLaws.{target_in}
use Rattle.geo_bio.specs.Split.{split_into}
use Rattle.geo_bio.specs.Up.{resolved, held_as, gathered, are_in, completed, after_up}
use Rattle.geo_model.proofs.DemandLemmas.{find_passes}
use Rattle.geo_laws_graph.proofs.Numbered.{unique}
use Rattle.geo_log.proofs.PlaceLemmas.{delivered_is_result}
use Rattle.geo_state.specs.Shown.{shown_bios, shown_bio, errno_of, held_of}
use Rattle.geo_state.specs.ShownLaws.{BiosAreOfWorld, WorldShowsBios, DeliveriesAreShown, PlaceIsAnswer}
use Rattle.geo_state.proofs.ShownLemmas.{length-of_map, changed-map, change_shown}

-- a result is the same once it is held
resolved_as : (log : ℕ → Option (List ℕ)) (r : BioResult) → resolved log (Some (held_as r)) ≡ r
resolved_as log results.Done = refl
resolved_as log (results.Bytes bytes) = refl
resolved_as log (results.Failed e) = refl

-- the result that a bio hands on
pub got_is : (log : ℕ → Option (List ℕ)) (o : Option Held)
    → unwrap_or (option_map (λ h. resolved log (Some h)) o) results.Done ≡ resolved log o
got_is log None = refl
got_is log (Some h) = refl

-- the children of a split, from any piece on
split_shown : (log : ℕ → Option (List ℕ)) (t : Topology Config) (first : ℕ) (x : BioOf Held) (k : ℕ)
    (zs : List PieceTarget)
    → shown_bios log (split_into first x k (map (λ z. z.piece) zs) (map (target_in t) zs))
    ≡ map (λ item. piece_child t first (shown_bio log x) item.0 item.1) (enumerate_from k zs)
split_shown log t first x k [] = refl
split_shown log t first x k (z ∷ zs) = search (rules, split_shown log t first x (k + 1) zs)

-- the results of the children of a bio
results_shown : (log : ℕ → Option (List ℕ)) (bios : List (BioOf Held))
    → map (λ (x : Bio). unwrap_or x.result results.Done) (shown_bios log bios) ≡ map (λ x. resolved log x.result) bios
results_shown log [] = refl
results_shown log (x ∷ xs) = (λ i. got_is log x.result i ∷ results_shown log xs i)

-- what is made of a world in which a child is Done
abbrev up_from : World → ℕ → World × Outcome
up_from g p = (
  cond (is_complete g p) (option_map_or (λ (y : Bio). complete_parent g y) (bio_at g p) g) g,
  outcomes.Gathered p (is_complete g p),
)

module _ (log : ℕ → Option (List ℕ)) (w : World) (bios : List (BioOf Held)) where
  -- the world with these bios
  abbrev with_shown : World
  with_shown = record w { bios = shown_bios log bios }

  -- whether all children are in
  in_shown : (p : ℕ) → is_complete with_shown p ≡ are_in bios p
  in_shown p =
      ap (list_all (λ (x : Bio). is_done x.phase))
      (filter-map (λ (x : Bio). is_child_of x.owner p) (shown_bio log) bios)
      ∙ list_all-map (λ (x : Bio). is_done x.phase) (shown_bio log) (children_among bios p)

  -- what a parent gathers
  gathers : (p : ℕ) (y : BioOf Held)
      → joined_result y.cmd (child_results with_shown p)
      ≡ joined_result y.cmd (map (λ x. resolved log x.result) (children_among bios p))
  gathers p y = ap (joined_result y.cmd)
      (ap (map (λ (x : Bio). unwrap_or x.result results.Done))
      (filter-map (λ (x : Bio). is_child_of x.owner p) (shown_bio log) bios)
      ∙ results_shown log (children_among bios p))

  -- a parent that is complete
  parent_shown : (p : ℕ) (y : BioOf Held) → y.number ≡ p
      → complete_parent with_shown (shown_bio log y)
      ≡ record w {
        bios = shown_bios log
            (filter (λ z. not (is_child_of z.owner p)) (change_number p (up_with (gathered log bios y)) bios));
      }
  parent_shown p y is =
      let got : joined_result y.cmd (child_results with_shown y.number) ≡ resolved log (Some (gathered log bios y)) =
      gathers y.number y ∙ sym (resolved_as log _) in
      search (
        rules,
        change_shown log p (up_with (gathered log bios y)) (up_with (resolved log (Some (gathered log bios y))))
            (λ x. refl) bios,
        filter-map (λ (z : Bio). not (is_child_of z.owner p)) (shown_bio log)
            (change_number p (up_with (gathered log bios y)) bios),
      )

  -- the parent, if it is there
  completed_shown : (p : ℕ)
      → option_map_or (λ y. complete_parent with_shown y) (bio_at with_shown p) with_shown
      ≡ record w { bios = shown_bios log (completed log bios p) }
  completed_shown p =
      ap (λ o. option_map_or (λ (y : Bio). complete_parent with_shown y) o with_shown)
      (find-map (λ (x : Bio). x.number == p) (shown_bio log) bios)
      ∙ at (bio_among bios p) refl
    where
      at : (o : Option (BioOf Held)) → bio_among bios p ≡ o
          → option_map_or (λ (y : Bio). complete_parent with_shown y) (option_map (shown_bio log) (bio_among bios p))
          with_shown
          ≡ record w { bios = shown_bios log (completed log bios p) }
      at None e = rw e refl
      at (Some y) e =
          let is : y.number ≡ p = eqb-true y.number p (find_passes (λ (x : BioOf Held). x.number == p) bios y e) in
          rw e (parent_shown p y is)

  -- what becomes of the parent
  risen_is : (p : ℕ) (b : Bool) → are_in bios p ≡ b
      → up_from with_shown p
      ≡ (
        record w { bios = shown_bios log (cond (are_in bios p) (completed log bios p) bios) },
        outcomes.Gathered p (are_in bios p),
      )
  risen_is p true e =
      rw (in_shown p, e) (ap (λ v. (v, outcomes.Gathered p true)) (completed_shown p))
  risen_is p false e = rw (in_shown p, e) refl

module _ (log : ℕ → Option (List ℕ)) (bios : List (BioOf Held)) (w : World) (is : w.bios ≡ shown_bios log bios) where
  -- a change of the world's bios
  changed : (b : ℕ) (f : BioOf Held → BioOf Held) (g : Bio → Bio)
      → ((x : BioOf Held) → shown_bio log (f x) ≡ g (shown_bio log x))
      → change_number b g w.bios ≡ shown_bios log (change_number b f bios)
  changed b f g goes = ap (change_number b g) is ∙ sym (change_shown log b f g goes bios)

  -- a bio less
  without_shown : (b : ℕ)
      → filter (λ (y : Bio). not (y.number == b)) w.bios ≡ shown_bios log (filter (λ y. not (y.number == b)) bios)
  without_shown b = search (rules, filter-map (λ (y : Bio). not (y.number == b)) (shown_bio log) bios)

  split_is : (x : BioOf Held) (zs : List PieceTarget)
      → split_bio w (shown_bio log x) zs
      ≡ (
        record w {
          bios = shown_bios log (change_number x.number (with_phase phases.Waiting) bios
              ++ split_into w.next_bio x 0 (map (λ z. z.piece) zs) (map (target_in w.topology) zs));
          next_bio = w.next_bio + length zs;
        },
        outcomes.Split w.next_bio (length zs),
      )
  split_is x zs =
      let waiting = changed x.number (with_phase phases.Waiting) (with_phase phases.Waiting) (λ y. refl) in
      let children = sym (split_shown log w.topology w.next_bio x 0 zs) in
      let count : length (map (λ item. piece_child w.topology w.next_bio (shown_bio log x) item.0 item.1)
      (enumerate_from 0 zs)) ≡ length zs = length-of_map _ (enumerate_from 0 zs) ∙ length-enumerate_from 0 zs in
      (λ i. (
        record w { bios = waiting i ++ children i; next_bio = w.next_bio + count i },
        outcomes.Split w.next_bio (length zs),
      ))
      ∙ ap (λ xs. (
        record w { bios = xs; next_bio = w.next_bio + length zs },
        outcomes.Split w.next_bio (length zs),
      )) (sym (map-append (shown_bio log) (change_number x.number (with_phase phases.Waiting) bios)
      (split_into w.next_bio x 0 (map (λ z. z.piece) zs) (map (target_in w.topology) zs))))

  take_is : (x : BioOf Held) (seat disk : ℕ)
      → take_bio w seat disk (shown_bio log x)
      ≡ (
        record w { bios = shown_bios log (change_number x.number (with_phase (phases.Busy seat)) bios) },
        outcomes.Asked (request_of_bio w disk (shown_bio log x)),
      )
  unfolding take_bio
  take_is x seat disk =
      ap (λ xs. (record w { bios = xs }, outcomes.Asked (request_of_bio w disk (shown_bio log x))))
      (changed x.number (with_phase (phases.Busy seat)) (with_phase (phases.Busy seat)) (λ y. refl))

  deliver_is : (x : BioOf Held) (got : DeviceResult)
      → deliver w (shown_bio log x) got
      ≡ (
        record w { bios = shown_bios log (change_number x.number (up_with (held_of got)) bios) },
        outcomes.Delivered,
      )
  unfolding deliver
  deliver_is x got =
      ap (λ xs. (record w { bios = xs }, outcomes.Delivered))
      (changed x.number (up_with (held_of got)) (up_with (result_of_device got))
      (λ y. ap (λ r. up_with r (shown_bio log y)) (resolved_as log (result_of_device got))))

  child_is : (x : BioOf Held) (parent index : ℕ)
      → up_to w (shown_bio log x) (owners.Child parent index)
      ≡ (
        record w { bios = shown_bios log (after_up log bios x (owners.Child parent index)) },
        outcomes.Gathered parent (are_in (change_number x.number (with_phase phases.Done) bios) parent),
      )
  child_is x parent index =
      ap (λ xs. up_from (record w { bios = xs }) parent)
      (changed x.number (with_phase phases.Done) (with_phase phases.Done) (λ y. refl))
      ∙ risen_is log w (change_number x.number (with_phase phases.Done) bios) parent _ refl

  bios_are : BiosAreOfWorld log bios w
  bios_are = record {
    finds = λ b. ap (find (λ (x : Bio). x.number == b)) is ∙ find-map (λ (x : Bio). x.number == b) (shown_bio log) bios;
    children =
        search (rules, filter-map);
    submits =
        search (rules, map-append (shown_bio log) bios);
    bounces =
        search (rules, changed);
    sends =
        search (rules, changed);
    splits = split_is;
    takes = take_is;
    delivers = deliver_is;
    rises_to_line =
        search (rules, without_shown);
    rises_to_taste =
        search (rules, without_shown);
    rises_to_parent = child_is;
  }

pub world_shows_bios : WorldShowsBios
world_shows_bios log bios w is = bios_are log bios w is

-- Deliveries

pub deliveries_are_shown : DeliveriesAreShown
unfolding deliver
deliveries_are_shown log bios w x place got next is numbers found same =
    let only = unique (λ (y : BioOf Held). y.number) next x.number bios x numbers found in
    ap (λ xs. (record w { bios = xs }, outcomes.Delivered))
    (ap (change_number x.number (up_with (result_of_device got))) is
    ∙ sym (changed-map (shown_bio log) (λ y. y.number == x.number) (λ y. y.number == x.number)
    (delivered place (errno_of got)) (up_with (result_of_device got)) (λ y. refl) bios (goes bios only)))
  where
    goes : (ys : List (BioOf Held)) → AllByRecursion (λ y. (y.number == x.number) ≡ true → y ≡ x) ys
        → AllByRecursion (λ y. (y.number == x.number) ≡ true
        → shown_bio log (delivered place (errno_of got) y) ≡ up_with (result_of_device got) (shown_bio log y)) ys
    goes [] all = tt
    goes (y ∷ ys) all = search (rules, goes ys all.1)

-- the place of a Deliver
pub place_is_answer : PlaceIsAnswer
place_is_answer entries more e bio sector x (devices.Bytes bytes) is fits =
    let read : is_read x.cmd ≡ true = at (is_read x.cmd) refl fits in
    rw read (delivered_is_result entries more e bio bytes is)
  where
    at : (b : Bool) → is_read x.cmd ≡ b → IsTrue (fits_bio sector x (devices.Bytes bytes)) → is_read x.cmd ≡ true
    at true e fits = e
    at false e fits = absurd (let never = rw e at fits in cc)
place_is_answer entries more e bio sector x devices.Done is fits = search rules
place_is_answer entries more e bio sector x (devices.Failed done) is fits = refl
