-- All is kept after geoms, providers and consumers came or went.
use Rattle.std.specs.Prelude.{◌≡◌, ℕ, ◌+◌, ◌==◌, Bool, true, false, not, List, [], ◌∷◌, ◌++◌, length, map, filter, find, Option, Some, None, IsSome, IsSomeAnd, AllPairs, if◌then◌else◌}
use Rattle.std.specs.List.{AllByRecursion}
use Rattle.std.specs.Option.{option_map, option_map_or, option_and_then, option_flatten}
use Rattle.std.proofs.Common.{refl, sym, ◌∙◌, ap, subst, eq-eqb, rules}
use Rattle.std.proofs.lemmas.Bool.{eqb-true, ne_eqb, not-false}
use Rattle.std.proofs.lemmas.List.{map-append, length-append, length-map}
use Rattle.std.proofs.lemmas.List.Elements.{recursion_from_All}
use Rattle.geo_base.specs.declared.request.Counts.{Counts}
use Rattle.geo_base.proofs.AllLists.{pairs_head, pairs_tail, all_appended, all_weaker, of_each}
use Rattle.geo_base.proofs.Options.{none-mapped}
use Rattle.geo_base.proofs.FindLists.{none_passes, found-before}
use Rattle.geo_model.specs.declared.step.Entry.{Entry}
use Rattle.geo_model.specs.Words.{names_number}
use Rattle.geo_model.specs.Topology.{Topology, Geom, Provider, Consumer, attached_to, consumer_at, geom_at, provider_at, providers_of}
use Rattle.geo_model.specs.World.{Config, Handle, granted_of}
use Rattle.geo_model.specs.Place.{disk_of}
use Rattle.geo_model.specs.Bios.{disk_at}
use Rattle.geo_model.specs.GeomCommands.{is_geom_of_disk}
use Rattle.geo_model.specs.Sound.{DifferInDisk}
use Rattle.geo_event.specs.EventQueue.{Queued}
use Rattle.geo_mesh.specs.Topo.{TopoView}
use Rattle.geo_access.specs.Access.{granted_by}
use Rattle.geo_state.specs.declared.state.State.{State}
use Rattle.geo_state.specs.declared.state.DiskSeat.{DiskSeat}
use Rattle.geo_state.specs.Parts.{IsUnderWay, AreUnderWay, disk_row, owner_row, geom_of_disk}
use Rattle.geo_state.specs.Seats.{change_seat, with_disk_geom}
use Rattle.geo_state.specs.Trips.{Trip, trips, out_through}
use Rattle.geo_state.specs.World.{StandsFirm}
use Rattle.geo_state.specs.Holds.{Holds, OutAreCounted, AreSeats, IsSeat}
use Rattle.geo_state.specs.Changes.{IsSettled}
use Rattle.geo_state.specs.Sites.{AreFresh, no_row, seats_without, KeptAfterComers, KeptAfterInsert, KeptAfterProvider, KeptAfterConsumer, KeptAfterGeom, KeptWithSites}
use Rattle.geo_state.proofs.Lists.{Around, around, around-all, find-before, find-past, find-kept_by}
use Rattle.geo_state.proofs.Fields.{apart, each-slot}
use Rattle.geo_state.proofs.Frames.{first_of, first_read, under, under_read, disk_under, disk_read}
use Rattle.geo_state.proofs.Rises.{active-at}
use Rattle.geo_state.proofs.LawLemmas.{fields_follow, rows_out, row_out, seats-stay, TargetsStay, busy-stays}
use Rattle.geo_state.proofs.FirmLemmas.{under-way, none-out}
use Rattle.geo_state.proofs.HolderFacts.{found-fact, kept-fact}

-- Seats, where one disk has another geom

pub seats-geom : (seats : List DiskSeat) (t u : Topology Config) (xs : List Trip) (disk : ℕ) (geom : Option ℕ)
    → ((d : ℕ) → geom_of_disk u d ≡ (if d == disk then geom else geom_of_disk t d)) → TargetsStay t u xs
    → AreSeats seats t xs → AreSeats (with_disk_geom seats disk geom) u xs
seats-geom seats t u xs disk geom same stay are =
    let change : DiskSeat → DiskSeat = λ x. record x { geom = geom } in
    each-slot seats (with_disk_geom seats disk geom) disk change (λ e. ap (change_seat change seats disk) e)
    (λ x e. ap (change_seat change seats disk) e) (λ d x. IsSeat t xs d x.geom x.busy)
    (λ d x. IsSeat u xs d x.geom x.busy)
    (λ x old. record {
      geom_is = sym (same disk ∙ ap (λ c. if c then geom else geom_of_disk t disk) (eq-eqb disk disk refl));
      busy_is = old.busy_is ∙ sym (busy-stays t u xs stay disk);
    })
    (λ d x e old. record {
      geom_is = old.geom_is ∙ sym (same d ∙ ap (λ c. if c then geom else geom_of_disk t d) e);
      busy_is = old.busy_is ∙ sym (busy-stays t u xs stay d);
    }) are

-- Rows that grow

-- what stands under a number stands there with more rows behind
under-more : {V : Type 0} (rows more : List (ℕ × V)) (n : ℕ) → IsSome (under rows n)
    → under (rows ++ more) n ≡ under rows n
under-more {V} rows more n there = search (rules, found-before (λ (r : ℕ × V). r.0 == n) rows more)

-- what is found is found among the rows
under-some : {X V : Type 0} (number : X → ℕ) (see : X → V) (n : ℕ) (xs : List X) → IsSome (find (λ x. number x == n) xs)
    → IsSome (under (map (λ x. let row : ℕ × V = (number x, see x) in row) xs) n)
under-some number see n xs there = search (rules, under_read number see n xs)

module _ (t u : Topology Config) (gs : List (ℕ × Option ℕ)) (ps : List (ℕ × ℕ))
    (geoms : map disk_row u.geoms ≡ map disk_row t.geoms ++ gs)
    (providers : map owner_row u.providers ≡ map owner_row t.providers ++ ps)
    (live : AllByRecursion (λ (p : Provider). IsSome (geom_at t p.geom)) t.providers) where
  -- a provider that was there leads to the same disk
  grown-disk : (p : ℕ) → IsSome (provider_at t p) → disk_at u p ≡ disk_at t p
  grown-disk p there = on (provider_at t p) refl there
    where
      on : (o : Option Provider) → provider_at t p ≡ o → IsSome o → disk_at u p ≡ disk_at t p
      on None e never = absurd cc
      on (Some x) e lives =
          let g : IsSome (geom_at t x.geom) =
          found-fact (λ (y : Provider). IsSome (geom_at t y.geom)) (λ y. y.number == p) t.providers x live e in
          let at : under (map owner_row t.providers) p ≡ Some x.geom =
          sym (under_read (λ (y : Provider). y.number) (λ y. y.geom) p t.providers)
          ∙ ap (option_map (λ (y : Provider). y.geom)) e in
          let more : under (map owner_row t.providers ++ ps) p ≡ Some x.geom =
          under-more (map owner_row t.providers) ps p
          (under-some (λ (y : Provider). y.number) (λ y. y.geom) p t.providers (subst IsSome (sym e) refl)) ∙ at in
          disk_read u p
          ∙ ap (λ rows. disk_under rows (map disk_row u.geoms) p) providers
          ∙ ap (λ rows. disk_under (map owner_row t.providers ++ ps) rows p) geoms
          ∙ ap (option_and_then (λ n. option_flatten (under (map disk_row t.geoms ++ gs) n))) more
          ∙ ap option_flatten
          (under-more (map disk_row t.geoms) gs x.geom
          (under-some (λ (y : Geom Config). y.number) (λ y. disk_of y.config) x.geom t.geoms g))
          ∙ sym (disk_read t p
          ∙ ap (option_and_then (λ n. option_flatten (under (map disk_row t.geoms) n))) at)

  pub grown-targets : (handles : List Handle) (xs : List Trip) → AreUnderWay t handles xs → TargetsStay t u xs
  grown-targets handles xs way =
      all_weaker (IsUnderWay t handles) (λ (x : Trip). disk_at u x.target ≡ disk_at t x.target)
      (λ x is. grown-disk x.target is.target) xs way

-- the geom of each disk, where no other geom of one comes
grown-geoms : (t u : Topology Config) (gs : List (ℕ × Option ℕ))
    → map disk_row u.geoms ≡ map disk_row t.geoms ++ gs → AllByRecursion (λ (row : ℕ × Option ℕ). row.1 ≡ None) gs
    → (disk : ℕ) → geom_of_disk u disk ≡ geom_of_disk t disk
grown-geoms t u gs geoms none disk =
    first_read u.geoms disk
    ∙ ap (λ rows. first_of rows disk) geoms
    ∙ ap (option_map (λ (row : ℕ × Option ℕ). row.0))
    (find-before (λ (row : ℕ × Option ℕ). option_map_or (λ d. d == disk) row.1 false) (map disk_row t.geoms) gs
    (all_weaker (λ (row : ℕ × Option ℕ). row.1 ≡ None) (λ row. option_map_or (λ d. d == disk) row.1 false ≡ false)
    (λ row e. ap (λ o. option_map_or (λ d. d == disk) o false) e) gs none))
    ∙ sym (first_read t.geoms disk)

-- where the disk had none, and one of it came
come-geoms : (t u : Topology Config) (disk geom : ℕ)
    → map disk_row u.geoms ≡ map disk_row t.geoms ++ (geom, Some disk) ∷ [] → geom_of_disk t disk ≡ None
    → (d : ℕ) → geom_of_disk u d ≡ (if d == disk then Some geom else geom_of_disk t d)
come-geoms t u disk geom geoms none d = first_read u.geoms d ∙ ap (λ rows. first_of rows d) geoms ∙ by (d == disk) refl
  where
    test : ℕ → ℕ × Option ℕ → Bool
    test n row = option_map_or (λ m. m == n) row.1 false

    by : (b : Bool) → (d == disk) ≡ b
        → first_of (map disk_row t.geoms ++ (geom, Some disk) ∷ []) d ≡ (if b then Some geom else geom_of_disk t d)
    by true e =
        search (
          rules,
          find-past (λ (row : ℕ × Option ℕ). option_map_or (λ m. m == disk) row.1 false) (map disk_row t.geoms)
              ((geom, Some disk) ∷ [])
              (none_passes (λ (row : ℕ × Option ℕ). option_map_or (λ m. m == disk) row.1 false) (map disk_row t.geoms)
              (none-mapped (λ (row : ℕ × Option ℕ). row.0)
              (find (λ (row : ℕ × Option ℕ). option_map_or (λ m. m == disk) row.1 false) (map disk_row t.geoms))
              (sym (first_read t.geoms disk) ∙ none))),
        )
    by false e =
        let other : (disk == d) ≡ false = ne_eqb disk d (λ same. apart d disk e (sym same)) in
        ap (option_map (λ (row : ℕ × Option ℕ). row.0))
        (find-before (λ (row : ℕ × Option ℕ). option_map_or (λ m. m == d) row.1 false) (map disk_row t.geoms)
        ((geom, Some disk) ∷ []) (other, tt))
        ∙ sym (first_read t.geoms d)

-- as many are out, with consumers that came
grown-out : (s : State) (u : TopoView Config) (cs : List ℕ) (xs : List Trip)
    → map (λ (x : Consumer). x.number) u.topology.consumers
    ≡ map (λ (x : Consumer). x.number) s.topo.topology.consumers ++ cs
    → u.active ≡ s.topo.active ++ map no_row cs → AllByRecursion (λ c. out_through xs c ≡ 0) cs
    → OutAreCounted s.topo xs → OutAreCounted u xs
grown-out s u cs xs consumers active none out =
    active
    ∙ ap (λ rows. rows ++ map no_row cs) (out ∙ rows_out xs s.topo.topology.consumers)
    ∙ ap (λ rows. map (row_out xs) (map (λ (x : Consumer). x.number) s.topo.topology.consumers) ++ rows) (zeros cs none)
    ∙ sym (map-append (row_out xs) (map (λ (x : Consumer). x.number) s.topo.topology.consumers) cs)
    ∙ ap (map (row_out xs)) (sym consumers)
    ∙ sym (rows_out xs u.topology.consumers)
  where
    zeros : (ds : List ℕ) → AllByRecursion (λ c. out_through xs c ≡ 0) ds → map no_row ds ≡ map (row_out xs) ds
    zeros [] all = refl
    zeros (d ∷ ds) all = search (rules, zeros ds all.1)

-- nothing is out through one that isn't there yet
fresh-none : (log : List Entry) (s : State) (cs : List ℕ) → Holds s → StandsFirm log s → AreFresh s.topo cs
    → AllByRecursion (λ c. out_through (trips s.traffic.bios) c ≡ 0) cs
fresh-none log s cs h firm fresh =
    search (
      rules,
      all_weaker,
      none-out s.topo.topology s.handles.handles (trips s.traffic.bios),
      under-way log s firm,
      active-at s.topo (trips s.traffic.bios),
    )

-- how many providers there are
grown-count : (t u : Topology Config) (ps : List (ℕ × ℕ))
    → map owner_row u.providers ≡ map owner_row t.providers ++ ps
    → length u.providers ≡ length t.providers + length ps
grown-count t u ps providers =
    sym (length-map u.providers owner_row)
    ∙ ap (λ rows. length rows) providers
    ∙ length-append (map owner_row t.providers) ps
    ∙ ap (λ n. n + length ps) (length-map t.providers owner_row)

offerers : (log : List Entry) (s : State) → StandsFirm log s
    → AllByRecursion (λ (p : Provider). IsSome (geom_at s.topo.topology p.geom)) s.topo.topology.providers
offerers log s firm =
    recursion_from_All (λ (p : Provider). IsSome (geom_at s.topo.topology p.geom)) s.topo.topology.providers
    firm.1.graph.parts.providers

-- what the new state is, told by its own parts
abbrev changed_in : State → State → State
changed_in s z = record s {
  topo = z.topo;
  queue = z.queue;
  taste = z.taste;
  providers = z.providers;
  disks = z.disks;
}

told-again : (s new : State) {v : State} → new ≡ v → v ≡ changed_in s v → new ≡ changed_in s new
told-again s new is so = subst (λ (z : State). z ≡ changed_in s z) (sym is) so

-- all is kept with another mesh and queue, and what is kept of the taste, the seats and the number of providers
with-mesh : (s new : State) → new ≡ changed_in s new → Holds s → IsSettled new.topo new.queue
    → ((c : ℕ) → granted_by new.topo c ≡ granted_of s.handles.handles new.taste c)
    → OutAreCounted new.topo (trips s.traffic.bios)
    → AreSeats new.disks.items new.topo.topology (trips s.traffic.bios)
    → new.providers ≡ length new.topo.topology.providers → Holds new
with-mesh s new is h settled granted out seats count = search rules

-- what was granted, of a handle or of the taste
granted-still : (s : State) (u : TopoView Config) → Holds s → ((c : ℕ) → granted_by u c ≡ granted_by s.topo c)
    → (c : ℕ) → granted_by u c ≡ granted_of s.handles.handles s.taste c
granted-still s u h same c = same c ∙ ap (λ (g : ℕ → Counts). g c) h.grants

-- an item of another number is found as before, once those of a number are gone
others-found : {X : Type 0} (number : X → ℕ) (gone n : ℕ) → (n == gone) ≡ false → (xs : List X)
    → find (λ x. number x == n) (filter (λ x. not (number x == gone)) xs) ≡ find (λ x. number x == n) xs
others-found {X} number gone n other xs =
    find-kept_by (λ x. number x == n) (λ x. not (number x == gone)) xs
    (of_each (λ (x : X). not (number x == gone) ≡ false → (number x == n) ≡ false)
    (λ x e. ne_eqb (number x) n
    (λ same. apart n gone other (sym same ∙ eqb-true (number x) gone (not-false (number x == gone) e)))) xs)

pub kept_after_comers : KeptAfterComers
kept_after_comers log s u q taste new h firm came fresh none granted settled =
    let xs : List Trip = trips s.traffic.bios in
    with-mesh s (record s { topo = u; queue = q; taste = taste; providers = s.providers + length new.providers }) refl h
    settled granted
    (grown-out s u new.consumers xs came.consumers came.active (fresh-none log s new.consumers h firm fresh) h.active)
    (seats-stay s.disks.items s.topo.topology u.topology xs
    (record {
      geoms = grown-geoms s.topo.topology u.topology new.geoms came.geoms none;
      targets =
          grown-targets s.topo.topology u.topology new.geoms new.providers came.geoms came.providers
          (offerers log s firm) s.handles.handles xs (under-way log s firm);
    }) h.seats)
    (ap (λ n. n + length new.providers) h.providers
    ∙ sym (grown-count s.topo.topology u.topology new.providers came.providers))

pub kept_after_insert : KeptAfterInsert
kept_after_insert log s new disk geom prov h firm came none granted settled disks is =
    let xs : List Trip = trips s.traffic.bios in
    let t : Topology Config = s.topo.topology in
    let u : Topology Config = new.topo.topology in
    let row : ℕ × ℕ = (prov, geom) in
    with-mesh s new (told-again s new is refl) h settled
    (λ c. granted-still s new.topo h granted c ∙ ap (λ (z : State). granted_of s.handles.handles z.taste c) (sym is))
    (grown-out s new.topo [] xs came.consumers came.active tt h.active)
    (subst (λ seats. AreSeats seats u xs) (sym disks)
    (seats-geom s.disks.items t u xs disk (Some geom) (come-geoms t u disk geom came.geoms none)
    (grown-targets t u ((geom, Some disk) ∷ []) (row ∷ []) came.geoms came.providers (offerers log s firm)
    s.handles.handles xs (under-way log s firm)) h.seats))
    (ap (λ (z : State). z.providers) is ∙ ap (λ n. n + 1) h.providers
    ∙ sym (grown-count t u (row ∷ []) came.providers))

-- What goes

module _ (t u : Topology Config) (prov : ℕ)
    (rest : u.providers ≡ filter (λ (p : Provider). not (p.number == prov)) t.providers) (geoms : u.geoms ≡ t.geoms)
  where
    -- another provider leads to the same disk
    provider-gone : (p : ℕ) → (p == prov) ≡ false → disk_at u p ≡ disk_at t p
    provider-gone p other =
        ap (λ (gs : List (Geom Config)). disk_at (record u { geoms = gs }) p) geoms
        ∙ ap (λ (ps : List Provider). disk_at (record t { providers = ps }) p) rest
        ∙ seen (others-found (λ (x : Provider). x.number) prov p other t.providers)
      where
        seen : find (λ (x : Provider). x.number == p) (filter (λ (x : Provider). not (x.number == prov)) t.providers)
            ≡ find (λ (x : Provider). x.number == p) t.providers
            → disk_at (record t { providers = filter (λ (x : Provider). not (x.number == prov)) t.providers }) p
            ≡ disk_at t p
        seen e = search rules

-- no request goes to a provider to which nothing is attached
unused : (t : Topology Config) (handles : List Handle) (prov : ℕ) (xs : List Trip) → AreUnderWay t handles xs
    → attached_to t prov ≡ [] → AllByRecursion (λ (x : Trip). (x.target == prov) ≡ false) xs
unused t handles prov xs way none =
    all_weaker (IsUnderWay t handles) (λ (x : Trip). (x.target == prov) ≡ false)
    (λ x is. by x (x.target == prov) refl (consumer_at t x.source) refl is.source) xs way
  where
    by : (x : Trip) (b : Bool) → (x.target == prov) ≡ b → (o : Option Consumer) → consumer_at t x.source ≡ o
        → IsSomeAnd o (λ c. c.provider ≡ Some x.target) → (x.target == prov) ≡ false
    by x false e o found has = e
    by x true e None found never = absurd never
    by x true e (Some c) found has =
        let same : x.target ≡ prov = eqb-true x.target prov e in
        let named : names_number c.provider prov ≡ true = ap (λ p. names_number p prov) has ∙ e in
        absurd
        (kept-fact (λ (y : Consumer). ⊥) (λ y. names_number y.provider prov) (λ y. y.number == x.source) t.consumers c
        (subst (AllByRecursion (λ (y : Consumer). ⊥)) (sym none) tt) found named)

pub kept_after_provider : KeptAfterProvider
kept_after_provider log s u q prov h firm none gone granted settled =
    let xs : List Trip = trips s.traffic.bios in
    let t : Topology Config = s.topo.topology in
    search (
      rules,
      granted-still s u h granted,
      seats-stay s.disks.items t,
      all_weaker (λ (x : Trip). (x.target == prov) ≡ false),
      provider-gone t,
      unused t s.handles.handles prov xs (under-way log s firm) none,
    )

pub kept_after_consumer : KeptAfterConsumer
kept_after_consumer s u q taste cons h gone granted settled =
    let xs : List Trip = trips s.traffic.bios in
    with-mesh s (record s { topo = u; queue = q; taste = taste }) refl h settled granted
    (search (rules, fields_follow s.topo u xs))
    (seats-stay s.disks.items s.topo.topology u.topology xs
    (record {
      geoms = λ disk. ap (λ (w : TopoView Config). geom_of_disk w.topology disk) gone;
      targets =
          of_each (λ (x : Trip). disk_at u.topology x.target ≡ disk_at s.topo.topology x.target)
          (λ x. ap (λ (w : TopoView Config). disk_at w.topology x.target) gone) xs;
    }) h.seats)
    (h.providers ∙ sym (ap (λ (w : TopoView Config). length w.topology.providers) gone))

-- A geom that goes

-- what holds of each two holds of one and the others
pairs-around : {X : Type 0} (R : X → X → Type 0) (number : X → ℕ) (n : ℕ) (x : X) (xs : List X)
    → ((a b : X) → R a b → R b a) → (r : Around number n x xs) → AllPairs R xs
    → AllByRecursion (λ y. (number y == n) ≡ false → R x y) xs
pairs-around {X} R number n x xs turn r pairs =
    rw r.is
    (all_appended (λ y. (number y == n) ≡ false → R x y) r.front (x ∷ r.back)
    (front r.front r.back (rw r.is at pairs)) (
      (λ e. let never : true ≡ false = sym r.here ∙ e in absurd cc),
      all_weaker (R x) (λ y. (number y == n) ≡ false → R x y) (λ y fact e. fact) r.back
          (later r.front r.back (rw r.is at pairs)),
    ))
  where
    later : (ys zs : List X) → AllPairs R (ys ++ x ∷ zs) → AllByRecursion (R x) zs
    later [] zs all = recursion_from_All (R x) zs (pairs_head R x zs all)
    later (y ∷ ys) zs all = later ys zs (pairs_tail R y (ys ++ x ∷ zs) all)

    last : (ys zs : List X) (P : X → Type 0) → AllByRecursion P (ys ++ x ∷ zs) → P x
    last [] zs P all = all.0
    last (y ∷ ys) zs P all = last ys zs P all.1

    front : (ys zs : List X) → AllPairs R (ys ++ x ∷ zs) → AllByRecursion (λ y. (number y == n) ≡ false → R x y) ys
    front [] zs all = tt
    front (y ∷ ys) zs all = (
      (λ e. turn y x (last ys zs (R y)
          (recursion_from_All (R y) (ys ++ x ∷ zs)
          (pairs_head R y (ys ++ x ∷ zs) all)))),
      front ys zs (pairs_tail R y (ys ++ x ∷ zs) all),
    )

turn-disks : (a b : Geom Config) → DifferInDisk a b → DifferInDisk b a
turn-disks a b differ d has other = differ d other has

module _ (t : Topology Config) (geom : ℕ) (g : Geom Config) (r : Around (λ (x : Geom Config). x.number) geom g t.geoms)
    (apart_all : AllPairs DifferInDisk t.geoms) where
  abbrev left : List (Geom Config)
  left = filter (λ (x : Geom Config). not (x.number == geom)) t.geoms

  -- a geom of another disk, or of none, isn't seen to go
  other-disk : (d : ℕ) → is_geom_of_disk d g ≡ false → find (is_geom_of_disk d) left ≡ find (is_geom_of_disk d) t.geoms
  other-disk d other =
      find-kept_by (is_geom_of_disk d) (λ (x : Geom Config). not (x.number == geom)) t.geoms
      (all_weaker (λ (x : Geom Config). (x.number == geom) ≡ true → is_geom_of_disk d x ≡ false)
      (λ x. not (x.number == geom) ≡ false → is_geom_of_disk d x ≡ false)
      (λ x so e. so (not-false (x.number == geom) e)) t.geoms
      (around-all (λ (x : Geom Config). x.number) geom g t.geoms r
      (λ x. is_geom_of_disk d x ≡ false) other))

  -- the disk of one that goes has none then
  none-left : (d : ℕ) → disk_of g.config ≡ Some d → find (is_geom_of_disk d) left ≡ None
  none-left d has =
      gone t.geoms
      (pairs-around DifferInDisk (λ (x : Geom Config). x.number) geom g t.geoms turn-disks r apart_all)
    where
      on : (x : Geom Config) (o : Option ℕ) → disk_of x.config ≡ o → DifferInDisk g x
          → option_map_or (λ m. m == d) o false ≡ false
      on x None e differ = refl
      on x (Some m) e differ = ne_eqb m d (λ same. differ d has (e ∙ ap (λ n. Some n) same))

      gone : (xs : List (Geom Config))
          → AllByRecursion (λ (x : Geom Config). (x.number == geom) ≡ false → DifferInDisk g x) xs
          → find (is_geom_of_disk d) (filter (λ (x : Geom Config). not (x.number == geom)) xs) ≡ None
      gone [] all = refl
      gone (x ∷ xs) all = search (rules, gone xs all.1)

-- the geom of a provider isn't one that has no provider
module _ (t u : Topology Config) (geom : ℕ)
    (rest : u.geoms ≡ filter (λ (x : Geom Config). not (x.number == geom)) t.geoms)
    (providers : u.providers ≡ t.providers) (bare : providers_of t geom ≡ []) where
  abbrev without_it : Topology Config
  without_it = record t { geoms = filter (λ (x : Geom Config). not (x.number == geom)) t.geoms }

  geom-gone : (p : ℕ) → disk_at u p ≡ disk_at t p
  geom-gone p =
      ap (λ (ps : List Provider). disk_at (record u { providers = ps }) p) providers
      ∙ ap (λ (gs : List (Geom Config)). disk_at (record t { geoms = gs }) p) rest
      ∙ on (provider_at t p) refl
    where
      its : (x : Provider) → provider_at t p ≡ Some x → (x.geom == geom) ≡ false
      its x found =
          search (
            rules,
            kept-fact (λ (y : Provider). ⊥) (λ y. y.geom == geom) (λ y. y.number == p) t.providers x
                (subst (AllByRecursion (λ (y : Provider). ⊥)) (sym bare) tt) found,
          )

      same : (m : ℕ) → (m == geom) ≡ false
          → find (λ (x : Geom Config). x.number == m) (filter (λ (x : Geom Config). not (x.number == geom)) t.geoms)
          ≡ find (λ (x : Geom Config). x.number == m) t.geoms
      same m other = others-found (λ (x : Geom Config). x.number) geom m other t.geoms

      on : (o : Option Provider) → provider_at t p ≡ o → disk_at without_it p ≡ disk_at t p
      on None e = search rules
      on (Some x) e = search (rules, same x.geom (its x e))

pub kept_after_geom : KeptAfterGeom
kept_after_geom log s new geom g h firm found bare gone granted settled disks is =
    let xs : List Trip = trips s.traffic.bios in
    let t : Topology Config = s.topo.topology in
    let u : Topology Config = new.topo.topology in
    let rest : u.geoms ≡ filter (λ (x : Geom Config). not (x.number == geom)) t.geoms =
    ap (λ (w : TopoView Config). w.topology.geoms) gone in
    let providers : u.providers ≡ t.providers = ap (λ (w : TopoView Config). w.topology.providers) gone in
    let consumers : u.consumers ≡ t.consumers = ap (λ (w : TopoView Config). w.topology.consumers) gone in
    let r : Around (λ (x : Geom Config). x.number) geom g t.geoms =
    around (λ (x : Geom Config). x.number) t.next_geom geom g t.geoms firm.1.graph.numbers.geoms found in
    let targets : TargetsStay t u xs =
    of_each (λ (x : Trip). disk_at u x.target ≡ disk_at t x.target)
    (λ x. geom-gone t u geom rest providers bare x.target) xs in
    with-mesh s new (told-again s new is refl) h
    (subst (λ (q : Queued). IsSettled new.topo q) (ap (λ (z : State). z.queue) (sym is)) settled)
    (λ c. granted-still s new.topo h granted c ∙ ap (λ (z : State). granted_of s.handles.handles z.taste c) (sym is))
    (ap (λ (w : TopoView Config). w.active) gone ∙ h.active
    ∙ ap (map (λ (c : Consumer). let row : ℕ × ℕ = (c.number, out_through xs c.number) in row)) (sym consumers))
    (subst (λ seats. AreSeats seats u xs) (sym disks)
    (seats t u rest r firm.1.graph.numbers.one_geom_of_disk targets (disk_of g.config) refl h.seats))
    (ap (λ (z : State). z.providers) is ∙ h.providers ∙ sym (ap (λ (ps : List Provider). length ps) providers))
  where
    seen : (t u : Topology Config) → u.geoms ≡ filter (λ (x : Geom Config). not (x.number == geom)) t.geoms
        → Around (λ (x : Geom Config). x.number) geom g t.geoms → AllPairs DifferInDisk t.geoms
        → (d : ℕ) → is_geom_of_disk d g ≡ false → geom_of_disk u d ≡ geom_of_disk t d
    seen t u rest r apart_all d other =
        search (rules, ap (option_map (λ (x : Geom Config). x.number)) (other-disk t geom g r apart_all d other))

    seats : (t u : Topology Config) → u.geoms ≡ filter (λ (x : Geom Config). not (x.number == geom)) t.geoms
        → Around (λ (x : Geom Config). x.number) geom g t.geoms → AllPairs DifferInDisk t.geoms
        → TargetsStay t u (trips s.traffic.bios) → (o : Option ℕ) → disk_of g.config ≡ o
        → AreSeats s.disks.items t (trips s.traffic.bios)
        → AreSeats (seats_without s.disks.items o) u (trips s.traffic.bios)
    seats t u rest r apart_all targets None e are =
        seats-stay s.disks.items t u (trips s.traffic.bios)
        (record {
          geoms = λ d. seen t u rest r apart_all d (ap (λ o. option_map_or (λ m. m == d) o false) e);
          targets = targets;
        }) are
    seats t u rest r apart_all targets (Some disk) e are =
        seats-geom s.disks.items t u (trips s.traffic.bios) disk None (λ d. by d (d == disk) refl) targets are
      where
        by : (d : ℕ) (b : Bool) → (d == disk) ≡ b → geom_of_disk u d ≡ (if b then None else geom_of_disk t d)
        by d true f = search (rules, none-left t geom g r apart_all d)
        by d false f =
            seen t u rest r apart_all d
            (ap (λ o. option_map_or (λ m. m == d) o false) e
            ∙ ne_eqb disk d (λ same. apart d disk f (sym same)))

pub kept_with_sites : KeptWithSites
kept_with_sites =
    search (rules, kept_after_comers, kept_after_insert, kept_after_provider, kept_after_consumer, kept_after_geom)
