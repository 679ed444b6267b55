-- What a Take of a firm mesh asks of its disk lies inside the disk, and so along each legal log.
use Rattle.std.proofs.Common.{◌≡◌, ℕ, zero, suc, ◌+◌, ◌*◌, ◌/◌, ◌%◌, ◌<◌, ◌≤◌, ◌==◌, Bool, true, false, length, slice_get, Ok, IsSomeAnd, IfSome, IsTrue, All, Contains, refl, sym, ◌∙◌, ap, subst, arith, add-mul, mul_comm, zero-mul, eq-eqb, List, [], ◌∷◌, ◌++◌, inl, inr}
use Rattle.std.proofs.Math.Nat.{mod-add-div}
use Rattle.std.proofs.lemmas.List.Elements.{All-contains, All-from_recursion}
use Rattle.std.proofs.lemmas.Nat.{div-mul-add}
use Rattle.std.specs.Option.{option_map_or}
use Rattle.geo_base.specs.Sectors.{IsSectorSize}
use Rattle.geo_model.specs.declared.step.Entry.{Entry}
use Rattle.geo_model.specs.declared.step.Outcome.{Outcome}
use Rattle.geo_model.specs.declared.step.Step.TheVariants as steps
use Rattle.geo_model.specs.Bios.{request_of_bio, sector_of_bio, take_bio}
use Rattle.geo_model.specs.Fitting.{Firm}
use Rattle.geo_model.specs.Log.{Legal, after_entry, replay}
use Rattle.geo_model.specs.Opening.{opening}
use Rattle.geo_model.specs.Place.{disk_of}
use Rattle.geo_model.specs.Plans.{MayBegin, FactsFit}
use Rattle.geo_model.specs.Sound.{HasDiskSizes}
use Rattle.geo_model.specs.SoundBios.{IsBioInOrder, IsRangeInside}
use Rattle.geo_model.specs.Step.{step}
use Rattle.geo_model.specs.Topology.{Geom, Provider, providers_of}
use Rattle.geo_model.specs.Words.{is_flush, is_write}
use Rattle.geo_model.specs.World.{World, Config, Bio, HeaderDisk, granted_in, Plan}
use Rattle.geo_model.proofs.BioLemmas.{write_moves}
use Rattle.geo_model.proofs.LogLemmas.{Legal-back, Legal-front}
use Rattle.geo_laws_graph.proofs.Living.{all_members}
use Rattle.geo_laws_graph.proofs.Members.{Contains-filter, find-Contains}
use Rattle.geo_laws_graph.proofs.Numbered.{number_found}
use Rattle.geo_laws_requests.proofs.Along.{entry_made}
use Rattle.geo_laws_requests.proofs.AtDisk.{AtDisk, at_disk, sector_bytes}
use Rattle.geo_laws_requests.proofs.Legal.{firm_after, opened_firm, steps_stay_firm}
use Rattle.geo_laws_requests.proofs.Named.{TakesIt, takes_it}
use Rattle.geo_laws_requests.proofs.Opened.{opening_none}
use Rattle.geo_laws_disks.specs.DiskLaws.{AsksInside, LiesInside, DisksAreAsked, DisksStay, TakesLieInside}
use Rattle.geo_laws_disks.proofs.Origins.{IsBare, HasOrigins, Origin, steps_origins}
use Rattle.geo_base.proofs.Options.{some_weaker}
use Rattle.geo_base.specs.declared.limits.TheConstants.{MAX_REQUEST_BYTES}

-- whole sectors are as many bytes
pub whole_back : (l z : ℕ) → l % z ≡ 0 → (l / z) * z ≡ l
whole_back l z whole =
    let split : l % z + z * (l / z) ≡ l = mod-add-div l z in
    let turned : z * (l / z) ≡ (l / z) * z = mul_comm z (l / z) in
    omega (arith, split, turned, whole)

-- the sectors of a range end where the range ends
whole_inside : (o l z size : ℕ) → o % z ≡ 0 → l % z ≡ 0 → o + l ≤ size → (o / z + l / z) * z ≤ size
whole_inside o l z size first second fits =
    let joined : (o / z + l / z) * z ≡ (o / z) * z + (l / z) * z = add-mul (o / z) (l / z) z in
    omega (arith, joined, whole_back o z first, whole_back l z second, fits)

-- where there is a byte there is a sector
some_sector : (l z : ℕ) → 1 ≤ l → l % z ≡ 0 → 1 ≤ l / z
some_sector l z some whole = by (l / z) (whole_back l z whole)
  where
    by : (n : ℕ) → n * z ≡ l → 1 ≤ n
    by zero e = absurd (let none : 0 ≡ l = sym (zero-mul z) ∙ e in omega (arith, none, some))
    by (suc n) e = omega arith

-- no byte is in no sector
no_sector : (l z : ℕ) → 0 < z → l ≡ 0 → l / z ≡ 0
no_sector l z some none =
    ap (λ n. n / z) (let e : l ≡ 0 * z + 0 = omega (arith, none) in e) ∙ div-mul-add 0 z 0 some

-- a bio moves whole sectors of a disk of the header, and some
pub record MovesIn (x : Bio) (header : HeaderDisk) : Type 0 where
  pub offset_whole : x.offset % header.sector ≡ 0
  pub len_whole : x.len % header.sector ≡ 0
  pub some_byte : 1 ≤ x.len
  pub inside : x.offset + x.len ≤ header.size
  pub not_long : x.len ≤ MAX_REQUEST_BYTES

-- a bio goes to a disk of the header in the sectors of the disk
pub record GoesTo (w : World) (x : Bio) (header : HeaderDisk) : Type 0 where
  pub sector : sector_of_bio w x ≡ header.sector
  pub some : 0 < header.sector
  pub moves : is_flush x.cmd ≡ false → MovesIn x header
  pub bytes : IsTrue (is_write x.cmd) → length x.bytes ≡ x.len

-- what is taken does
pub goes_to : (w v : World) (seat disk b : ℕ) (o : Outcome) → Firm w → (it : TakesIt w v seat disk b o)
    → IsSomeAnd (slice_get w.disks disk) (GoesTo w it.bio)
goes_to w v seat disk b o firm it = some_weaker HasSizes (GoesTo w x) goes (slice_get w.disks disk) has_sizes
  where
    x : Bio
    x = it.bio

    order : IsBioInOrder (granted_in w) w.topology x
    order =
        All-contains (IsBioInOrder (granted_in w) w.topology) w.bios x firm.bios.order
        (find-Contains (λ (y : Bio). y.number == b) w.bios x it.found)

    d : AtDisk w.topology x.target disk
    d = at_disk w.topology x.target disk it.can.disk_is

    p : Provider
    p = d.provider

    here : Contains w.topology.providers p
    here = find-Contains (λ (q : Provider). q.number == x.target) w.topology.providers p d.at

    HasSizes : HeaderDisk → Type 0
    HasSizes header =
        All (λ q. (q.sector ≡ header.sector) × (q.size ≡ header.size)) (providers_of w.topology d.geom.number)

    has_sizes : IsSomeAnd (slice_get w.disks disk) HasSizes
    has_sizes =
        subst (λ c. IfSome (disk_of c) (λ n. IsSomeAnd (slice_get w.disks n) HasSizes)) d.config
        (All-contains (HasDiskSizes w.topology w.disks) w.topology.geoms d.geom firm.graph.numbers.disk_sizes
        (find-Contains (λ (g : Geom Config). g.number == p.geom) w.topology.geoms d.geom d.of))

    among : Contains (providers_of w.topology d.geom.number) p
    among =
        let its : d.geom.number ≡ p.geom =
        number_found (λ (g : Geom Config). g.number) w.topology.geoms p.geom d.geom d.of in
        Contains-filter (λ (q : Provider). q.geom == d.geom.number) w.topology.providers p here
        (rw its (eq-eqb p.geom p.geom refl))

    goes : (header : HeaderDisk) → HasSizes header → GoesTo w x header
    goes header sizes = record {
      sector = ap (λ o. option_map_or (λ (q : Provider). q.sector) o 512) d.at ∙ same.0;
      some = subst (λ z. 0 < z) same.0
          (sector_bytes p.sector
          (All-contains (λ (q : Provider). IsSectorSize q.sector) w.topology.providers p firm.sizes.sectors here));
      moves = λ moves.
          let range : IsRangeInside x p = (rw d.at at order.target) moves in
          record {
            offset_whole = subst (λ z. x.offset % z ≡ 0) same.0 range.offset_whole;
            len_whole = subst (λ z. x.len % z ≡ 0) same.0 range.len_whole;
            some_byte = range.some_byte;
            inside = subst (λ n. x.offset + x.len ≤ n) same.1 range.inside;
            not_long = range.not_long;
          };
      bytes = order.bytes;
    }
      where
        same : (p.sector ≡ header.sector) × (p.size ≡ header.size)
        same =
            All-contains (λ (q : Provider). (q.sector ≡ header.sector) × (q.size ≡ header.size))
            (providers_of w.topology d.geom.number) p sizes among

-- so its request lies inside the disk
lies_inside : (w : World) (disk : ℕ) (x : Bio) (header : HeaderDisk) → IsBare x → GoesTo w x header
    → LiesInside (request_of_bio w disk x) header
lies_inside w disk x header bare to = record {
  inside = rw to.sector (by (is_flush x.cmd) refl);
  bytes = λ writes. rw to.sector
      (to.bytes writes ∙ sym (whole_back x.len header.sector (to.moves (write_moves x.cmd writes)).len_whole));
  moves = λ moves. rw to.sector
      (some_sector x.len header.sector (to.moves moves).some_byte (to.moves moves).len_whole);
  flush = λ flushes. rw to.sector (none flushes);
}
  where
    none : is_flush x.cmd ≡ true → (x.offset / header.sector ≡ 0) × (x.len / header.sector ≡ 0)
    none flushes = (
      no_sector x.offset header.sector to.some (bare flushes).0,
      no_sector x.len header.sector to.some (bare flushes).1,
    )

    by : (c : Bool) → is_flush x.cmd ≡ c
        → (x.offset / header.sector + x.len / header.sector) * header.sector ≤ header.size
    by true flushes = rw ((none flushes).0, (none flushes).1) (omega arith)
    by false moves =
        whole_inside x.offset x.len header.sector header.size (to.moves moves).offset_whole
        (to.moves moves).len_whole (to.moves moves).inside

-- each Take
take_asks_inside : (w v : World) (seat disk b : ℕ) (o : Outcome) → Firm w → All IsBare w.bios
    → step w seat (steps.Take disk b) ≡ Ok (v, o) → AsksInside w disk o
unfolding take_bio
take_asks_inside w v seat disk b o firm bare made = record {
  request = request_of_bio w disk it.bio;
  is = ap (λ (m : World × Outcome). m.1) it.made;
  disk_is = refl;
  inside = some_weaker (GoesTo w it.bio) (LiesInside (request_of_bio w disk it.bio))
      (λ header. lies_inside w disk it.bio header
      (All-contains IsBare w.bios it.bio bare (find-Contains (λ (y : Bio). y.number == b) w.bios it.bio it.found)))
      (slice_get w.disks disk)
      (goes_to w v seat disk b o firm it);
}
  where
    it : TakesIt w v seat disk b o
    it = takes_it w v seat disk b o made

-- a step gives no range to a FLUSH
bare_after : (w v : World) (seat : ℕ) → HasOrigins w v seat → All IsBare w.bios → All IsBare v.bios
bare_after w v seat origins bare =
    all_members (Origin w seat) IsBare v.bios (λ z here origin. by z origin) origins.each
  where
    by : (z : Bio) → Origin w seat z → IsBare z
    by z (inl was) flushes =
        let none : (was.before.offset ≡ 0) × (was.before.len ≡ 0) =
        All-contains IsBare w.bios was.before bare was.here (ap is_flush (sym was.cmd) ∙ flushes) in
        (was.offset ∙ none.0, was.len ∙ none.1)
    by z (inr new) flushes = new.bare flushes

-- nor does a legal log
bare_along : (w : World) (log : List Entry) → Firm w → Legal w log → All IsBare w.bios → All IsBare (replay w log).bios
bare_along w [] firm legal bare = bare
bare_along w (e ∷ log) firm legal bare =
    bare_along (after_entry w e) log (steps_stay_firm w e.seat e.step firm) legal.1
    (bare_after w (after_entry w e) e.seat
    (steps_origins w (after_entry w e) e.seat e.step e.outcome firm (entry_made w e legal.0)) bare)

-- from an opening
bare_opened : (plan : Plan) (facts : List (ℕ × ℕ)) → MayBegin plan → FactsFit plan facts → (log : List Entry)
    → Legal (opening plan facts) log → All IsBare (replay (opening plan facts) log).bios
bare_opened plan facts is fit log legal =
    bare_along (opening plan facts) log (opened_firm plan facts is fit) legal
    (subst (λ xs. All IsBare xs) (sym (opening_none plan facts)) (All-from_recursion IsBare [] tt))

-- a legal log leaves the disks of the header
disks_along : (w : World) (log : List Entry) → Firm w → Legal w log → (replay w log).disks ≡ w.disks
disks_along w [] firm legal = refl
disks_along w (e ∷ log) firm legal =
    disks_along (after_entry w e) log (steps_stay_firm w e.seat e.step firm) legal.1
    ∙ (steps_origins w (after_entry w e) e.seat e.step e.outcome firm (entry_made w e legal.0)).disks

-- from an opening
disks_stay : DisksStay
disks_stay plan facts is fit log legal =
    disks_along (opening plan facts) log (opened_firm plan facts is fit) legal

-- each Take asks for what lies inside its disk
takes_lie_inside : TakesLieInside
takes_lie_inside plan facts is fit log legal earlier e split disk b takes = record {
  request = asks.request;
  is = asks.is;
  disk_is = asks.disk_is;
  inside = subst (λ ds. IsSomeAnd (slice_get ds disk) (LiesInside asks.request))
      (disks_stay plan facts is fit earlier front) asks.inside;
}
  where
    w : World
    w = replay (opening plan facts) earlier

    v : World
    v = after_entry w e

    whole : Legal (opening plan facts) (earlier ++ e ∷ split.0)
    whole = subst (Legal (opening plan facts)) split.1 legal

    front : Legal (opening plan facts) earlier
    front = Legal-front (opening plan facts) earlier (e ∷ split.0) whole

    back : Legal w (e ∷ split.0)
    back = Legal-back (opening plan facts) earlier (e ∷ split.0) whole

    asks : AsksInside w disk e.outcome
    asks =
        take_asks_inside w v e.seat disk b e.outcome (firm_after plan facts is fit earlier)
        (bare_opened plan facts is fit earlier front)
        (subst (λ s. step w e.seat s ≡ Ok (v, e.outcome)) takes (entry_made w e back.0))

-- both
pub disks_are_asked : DisksAreAsked
disks_are_asked = record { disks = disks_stay; inside = takes_lie_inside }
