-- Disks of the header by their names, the geoms that stand for them, and geoms that wither by a command.
use Rattle.std.specs.Prelude.{◌≡◌, ℕ, suc, ◌+◌, ◌<◌, ◌==◌, Bool, true, false, not, ◌&&◌, cond, List, [], ◌∷◌, length, map, find, Option, Some, None, AllPairs, IfSome, is_some, slice_get, if◌then◌else◌, MatchOption, ◌≤◌, count_by, IsSome}
use Rattle.std.specs.List.{AllByRecursion, enumerate_from, list_any, position_from}
use Rattle.std.specs.Option.{option_map, option_map_or, option_and_then}
use Rattle.std.proofs.Common.{get_or, refl, sym, ◌∙◌, ap, subst, arith, rules}
use Rattle.std.proofs.lemmas.Bool.{eqb-true, ne_eqb, eq-eqb}
use Rattle.std.proofs.lemmas.Iterator.Adapters.{position_from-zero}
use Rattle.std.proofs.lemmas.List.Elements.{recursion_from_All}
use Rattle.std.proofs.lemmas.Option.{slice_get_read}
use Rattle.geo_base.proofs.AllLists.{pairs_head, pairs_tail}
use Rattle.geo_model.proofs.RefusalLemmas.{none_refused}
use Rattle.geo_base.specs.declared.errno.Errno.{Errno}
use Rattle.geo_base.specs.declared.errno.Errno.TheVariants.{EBUSY, EEXIST, ENOENT, ENXIO}
use Rattle.geo_model.specs.declared.command.LineCommand.{LineCommand}
use Rattle.geo_model.specs.declared.step.Entry.{Entry}
use Rattle.geo_model.specs.Words.{first_error, same_name}
use Rattle.geo_model.specs.Topology.{Topology, Geom, geom_at, is_name_taken, Provider}
use Rattle.geo_model.specs.GeomCommands.{header_disk as found_disk, insert_tests, is_geom_of_disk, do_destroy, do_pull, header_disk, is_in_use, named_geom, wither_found}
use Rattle.geo_model.specs.Place.{disk_of}
use Rattle.geo_model.specs.Sound.{DifferInDisk}
use Rattle.geo_model.specs.World.{Config, HeaderDisk, World, granted_in}
use Rattle.geo_laws_graph.proofs.Lists.{found_itself}
use Rattle.geo_laws_graph.proofs.Members.{find-Contains}
use Rattle.geo_model.specs.Graph.{AreNumbers}
use Rattle.geo_state.specs.declared.state.State.{State}
use Rattle.geo_state.specs.declared.state.DiskSeat.{DiskSeat}
use Rattle.geo_state.specs.Holds.{Holds}
use Rattle.geo_state.specs.Parts.{geom_of_disk, SameParts}
use Rattle.geo_state.specs.Steps.{Stands}
use Rattle.geo_state.specs.World.{disk_of_seat, world}
use Rattle.geo_moves.specs.Disks.{disk_named, has_name, item_at}
use Rattle.geo_moves.specs.Names.{stands}
use Rattle.geo_base.proofs.Options.{if-with, is_some-map, none_of}
use Rattle.std.proofs.lemmas.List.Sums.{length-filter}
use Rattle.geo_base.specs.declared.kind.Kind.{Kind}
use Rattle.geo_base.specs.declared.request.Counts.{Counts}
use Rattle.geo_model.specs.declared.step.Outcome.{Outcome}
use Rattle.geo_model.specs.declared.step.Outcome.TheVariants as outcomes
use Rattle.geo_model.specs.declared.step.Reply.TheVariants as replies
use Rattle.geo_model.specs.HandleCommands.{answer}
use Rattle.geo_model.specs.Events.{QueuedTopology, wither}
use Rattle.geo_model.specs.WorldEvents.{queued_of, with_queued}
use Rattle.geo_event.specs.EventQueue.{Queued}
use Rattle.geo_mesh.specs.Topo.{TopoView}
use Rattle.geo_access.specs.Access.{granted_by}
use Rattle.geo_life.specs.Life.{CountsStay, RestStays, queued, sound_providers}
use Rattle.geo_state.proofs.LawLemmas.{effects_keep_parts, holds_after_effects}
use Rattle.geo_base.proofs.FindLists.{any-contained}

-- Disks of the header by their names, and the geoms that stand for them

-- Tests

-- where nothing is refused each test fails
pub none_against : (rows : List (Bool × Errno)) → first_error rows ≡ None
    → AllByRecursion (λ (row : Bool × Errno). row.0 ≡ false) rows
none_against [] none = tt
none_against (row ∷ rows) none = search (rules, none_refused row.0 row.1 rows none, none_against rows)

-- Names

-- a disk that was found, counted from a number on: its place, and what the model finds
pub record IsFoundFrom (name : List ℕ) (k : ℕ) (seats : List DiskSeat) (disk : ℕ) : Type 0 where
  pub seat : DiskSeat
  pub place : ℕ
  pub number : disk ≡ k + place
  pub at : slice_get seats place ≡ Some seat
  pub found : find (λ (item : ℕ × HeaderDisk). same_name item.1.name name) (enumerate_from k (map disk_of_seat seats))
      ≡ Some (item_at disk seat)

-- what the model finds, by the place of the first disk of the name
from-place : (name : List ℕ) (k : ℕ) (seats : List DiskSeat)
    → MatchOption (position_from (has_name name) k seats)
    (find (λ (item : ℕ × HeaderDisk). same_name item.1.name name) (enumerate_from k (map disk_of_seat seats)) ≡ None)
    (λ disk. IsFoundFrom name k seats disk)
from-place name k [] = refl
from-place name k (seat ∷ seats) =
    by (has_name name seat) refl (position_from (has_name name) (k + 1) seats) (from-place name (k + 1) seats)
  where
    by : (b : Bool) → has_name name seat ≡ b → (o : Option ℕ)
        → MatchOption o
        (find (λ (item : ℕ × HeaderDisk). same_name item.1.name name)
        (enumerate_from (k + 1) (map disk_of_seat seats)) ≡ None)
        (λ disk. IsFoundFrom name (k + 1) seats disk)
        → MatchOption (cond b (Some k) o)
        (find (λ (item : ℕ × HeaderDisk). same_name item.1.name name)
        (enumerate_from k (map disk_of_seat (seat ∷ seats))) ≡ None)
        (λ disk. IsFoundFrom name k (seat ∷ seats) disk)
    by true e o rest = record { seat = seat; place = 0; number = omega arith; at = refl; found = rw e refl }
    by false e None rest = rw e rest
    by false e (Some disk) rest = record {
      seat = rest.seat;
      place = suc rest.place;
      number = let n = rest.number in omega (arith, n);
      at = rest.at;
      found = rw e rest.found;
    }

-- a disk that was found by its name: its seat, and what the model finds
pub record IsDiskNamed (s : State) (name : List ℕ) (disk : ℕ) : Type 0 where
  pub seat : DiskSeat
  pub at : slice_get s.disks.items disk ≡ Some seat
  pub found : (actors : List (List LineCommand)) (log : List Entry)
      → found_disk (world actors log s) name ≡ Some (item_at disk seat)

module _ (s : State) (name : List ℕ) {seats : List DiskSeat} {read : Option ℕ} (seats_are : seats ≡ s.disks.items)
    (read_so : read ≡ disk_named seats name) where
  -- the place that was read in the seats
  place-read : position_from (has_name name) 0 s.disks.items ≡ read
  place-read =
      sym (position_from-zero (has_name name) s.disks.items)
      ∙ sym (read_so ∙ ap (λ (xs : List DiskSeat). disk_named xs name) seats_are)

  -- a disk that was looked up in the seats as they are read
  pub disk-read : {disk : ℕ} → read ≡ Some disk → IsDiskNamed s name disk
  disk-read {disk} is = search (rules, place-read, from-place name 0 s.disks.items)

  -- or isn't among them
  pub disk-unread : read ≡ None → (actors : List (List LineCommand)) (log : List Entry)
      → found_disk (world actors log s) name ≡ None
  disk-unread none actors log = rw (place-read ∙ none) at (from-place name 0 s.disks.items)

-- what is told of the seat of a disk, if there is one, holds of the one that was found
pub seat-fact : {s : State} {name : List ℕ} {disk : ℕ} (named : IsDiskNamed s name disk) (P : DiskSeat → Type 0)
    → IfSome (slice_get s.disks.items disk) P → P named.seat
seat-fact named P fact = subst (λ o. IfSome o P) named.at fact

-- so what is told to be against its insert is
pub seat-refusal : {s : State} {name : List ℕ} {disk : ℕ} (named : IsDiskNamed s name disk) (told : Option Errno)
    → IfSome (slice_get s.disks.items disk)
    (λ seat. told ≡ first_error (insert_tests s.topo.topology (item_at disk seat)))
    → told ≡ first_error (insert_tests s.topo.topology (item_at disk named.seat))
seat-refusal {s} {name} {disk} named told fact =
    seat-fact named (λ seat. told ≡ first_error (insert_tests s.topo.topology (item_at disk seat))) fact

-- The geom of a disk

-- one is found just where one passes
find-any : {X : Type 0} (test : X → Bool) (xs : List X) → is_some (find test xs) ≡ list_any test xs
find-any test [] = refl
find-any test (x ∷ xs) = grind (arith, find-any test xs)

-- so a disk has a geom just where one is of it
any-geom : (t : Topology Config) (disk : ℕ) → is_some (geom_of_disk t disk) ≡ list_any (is_geom_of_disk disk) t.geoms
any-geom t disk =
    is_some-map (λ (g : Geom Config). g.number) (find (is_geom_of_disk disk) t.geoms)
    ∙ find-any (is_geom_of_disk disk) t.geoms

module _ (s : State) (kept : Holds s) (disk : ℕ) (seat : DiskSeat) (at : slice_get s.disks.items disk ≡ Some seat) where
  -- what is kept of the disk
  seat-geom : seat.geom ≡ geom_of_disk s.topo.topology disk
  seat-geom = search (rules, kept.seats disk)

  -- whether its geom stands
  pub seat-stands : is_some seat.geom ≡ list_any (is_geom_of_disk disk) s.topo.topology.geoms
  seat-stands = ap (λ o. is_some o) seat-geom ∙ any-geom s.topo.topology disk

  -- none stands where there is none
  pub seat-absent : list_any (is_geom_of_disk disk) s.topo.topology.geoms ≡ false
      → geom_of_disk s.topo.topology disk ≡ None
  seat-absent none = none_of (geom_of_disk s.topo.topology disk) (any-geom s.topo.topology disk ∙ none)

-- Those that don't wither

-- whether it is the disk's and doesn't wither
abbrev stays : ℕ → Geom Config → Bool
stays disk g = is_geom_of_disk disk g && not g.withering

-- geoms of other disks
others-none : (disk : ℕ) (x : Geom Config) → is_geom_of_disk disk x ≡ true → (gs : List (Geom Config))
    → AllByRecursion (DifferInDisk x) gs → find (stays disk) gs ≡ None
others-none disk x of [] apart = refl
others-none disk x of (g ∷ gs) apart =
    by (disk_of x.config) (disk_of g.config) refl refl of (others-none disk x of gs apart.1)
  where
    by : (o p : Option ℕ) → disk_of x.config ≡ o → disk_of g.config ≡ p
        → option_map_or (λ d. d == disk) o false ≡ true → find (stays disk) gs ≡ None
        → find (stays disk) (g ∷ gs) ≡ None
    by None p e f never rest = absurd (cc)
    by (Some d) None e f is rest = rw f rest
    by (Some d) (Some m) e f is rest = search (rules, eqb-true d disk is, ne_eqb m disk)

-- the first of the disk, unless it withers
unless_withers : Option (Geom Config) → Option (Geom Config)
unless_withers None = None
unless_withers (Some g) = if stands g then Some g else None

first-stays : (disk : ℕ) (gs : List (Geom Config)) → AllPairs DifferInDisk gs
    → find (stays disk) gs ≡ unless_withers (find (is_geom_of_disk disk) gs)
unfolding unless_withers
first-stays disk [] apart = refl
first-stays disk (g ∷ gs) apart =
    by (is_geom_of_disk disk g) g.withering refl refl (first-stays disk gs (pairs_tail DifferInDisk g gs apart))
  where
    by : (a b : Bool) → is_geom_of_disk disk g ≡ a → g.withering ≡ b
        → find (stays disk) gs ≡ unless_withers (find (is_geom_of_disk disk) gs)
        → find (stays disk) (g ∷ gs) ≡ unless_withers (find (is_geom_of_disk disk) (g ∷ gs))
    by true true e f rest =
        rw (e, f)
        (others-none disk g e gs (recursion_from_All (DifferInDisk g) gs (pairs_head DifferInDisk g gs apart)))
    by true false e f rest = rw (e, f) refl
    by false b e f rest = rw e rest

-- a number, where its geom doesn't wither
abbrev unless_withering : Topology Config → ℕ → Option ℕ
unless_withering t n = if option_map_or stands (geom_at t n) false then Some n else None

-- the geom of a disk that doesn't wither, by the one that it has
stays-told : (t : Topology Config) → AllPairs DifferInDisk t.geoms
    → AreNumbers (map (λ (g : Geom Config). g.number) t.geoms) t.next_geom → (disk : ℕ)
    → option_map (λ (g : Geom Config). g.number) (find (stays disk) t.geoms)
    ≡ option_and_then (unless_withering t) (geom_of_disk t disk)
unfolding unless_withers
stays-told t apart numbers disk =
    ap (option_map (λ (g : Geom Config). g.number)) (first-stays disk t.geoms apart)
    ∙ by (find (is_geom_of_disk disk) t.geoms) refl
  where
    by : (o : Option (Geom Config)) → find (is_geom_of_disk disk) t.geoms ≡ o
        → option_map (λ (g : Geom Config). g.number) (unless_withers o)
        ≡ option_and_then (unless_withering t) (option_map (λ (g : Geom Config). g.number) o)
    by None e = refl
    by (Some g) e =
        search (
          rules,
          Some g,
          found_itself (λ (x : Geom Config). x.number) t.next_geom t.geoms g numbers
              (find-Contains (is_geom_of_disk disk) t.geoms g e),
          stands g,
          Some g.number,
        )

module _ (s : State) (its : Stands s) (disk : ℕ) (seat : DiskSeat)
    (at : slice_get s.disks.items disk ≡ Some seat) where
  -- the geom of the disk that doesn't wither, by the model
  abbrev standing : Option ℕ
  standing = option_map (λ (g : Geom Config). g.number) (find (stays disk) s.topo.topology.geoms)

  -- it is the one of the seat, unless that withers
  seat-told : (o : Option ℕ) → seat.geom ≡ o → standing ≡ option_and_then (unless_withering s.topo.topology) o
  seat-told o is =
      stays-told s.topo.topology its.firm.1.1.graph.numbers.one_geom_of_disk its.firm.1.1.graph.numbers.geoms disk
      ∙ ap (option_and_then (unless_withering s.topo.topology)) (sym (seat-geom s its.kept disk seat at) ∙ is)

  pub disk-absent : seat.geom ≡ None → None ≡ standing
  disk-absent none = sym (seat-told None none)

  pub disk-standing : (n : ℕ) → seat.geom ≡ Some n
      → option_map_or stands (geom_at s.topo.topology n) false ≡ true → Some n ≡ standing
  disk-standing n is stays_so = sym (seat-told (Some n) is ∙ ap (λ b. if b then Some n else None) stays_so)

  pub disk-withering : (n : ℕ) → seat.geom ≡ Some n
      → option_map_or stands (geom_at s.topo.topology n) false ≡ false → None ≡ standing
  disk-withering n is withers = sym (seat-told (Some n) is ∙ ap (λ b. if b then Some n else None) withers)

-- What is against an insert

module _ (s : State) (kept : Holds s) (disk : ℕ) (seat : DiskSeat) (at : slice_get s.disks.items disk ≡ Some seat) where
  -- the tests, by what is found
  abbrev refusal_by : Bool → Bool → Option Errno
  refusal_by stands taken = first_error ((stands, EBUSY) ∷ (taken, EEXIST) ∷ [])

  -- the answer of the model
  abbrev refusal : Option Errno
  refusal = first_error (insert_tests s.topo.topology (item_at disk seat))

  refusal-is : (a b : Bool) → is_some seat.geom ≡ a → is_name_taken s.topo.topology seat.name ≡ b
      → refusal_by a b ≡ refusal
  refusal-is a b stands taken =
      ap (λ x. refusal_by x b) (sym stands ∙ seat-stands s kept disk seat at)
      ∙ ap (refusal_by (list_any (is_geom_of_disk disk) s.topo.topology.geoms)) (sym taken)

  -- where nothing is, the disk has no geom
  pub none-absent : refusal ≡ None → geom_of_disk s.topo.topology disk ≡ None
  none-absent none =
      search (rules, seat-absent s kept disk seat, none_against (insert_tests s.topo.topology (item_at disk seat)) none)

-- so for the seat that was read at its place
pub refusal-at : (s : State) → Holds s → (disk : ℕ) (seat : DiskSeat) → disk < length s.disks.items
    → seat ≡ get_or s.disks.items disk seat → (a b : Bool) → is_some seat.geom ≡ a
    → is_name_taken s.topo.topology seat.name ≡ b
    → IfSome (slice_get s.disks.items disk) (λ x. first_error ((a, EBUSY) ∷ (b, EEXIST) ∷ [])
    ≡ first_error (insert_tests s.topo.topology (item_at disk x)))
refusal-at s kept disk seat there is a b stands taken =
    let at = slice_get_read s.disks.items (length s.disks.items) disk seat refl there is in
    if-with (slice_get s.disks.items disk)
    (λ x. first_error ((a, EBUSY) ∷ (b, EEXIST) ∷ []) ≡ first_error (insert_tests s.topo.topology (item_at disk x)))
    seat at (refusal-is s kept disk seat at a b stands taken)

-- A geom that withers by a command: what the state stands for then, and that all is kept

-- as many carry no error as are counted so
sound-counted : (t : Topology Config) → sound_providers t ≡ count_by (λ (p : Provider). not p.errored) t.providers
sound-counted t = length-filter (λ (p : Provider). not p.errored) t.providers

module _ (s : State) (kept : Holds s) where
  -- the places of the Orphans are owed
  pub orphan-room : sound_providers s.topo.topology ≤ s.queue.spare
  orphan-room = search (rules, sound-counted s.topo.topology)

  module _ (geom : ℕ) (u : TopoView Config) (q : Queued)
      (withered : queued u q ≡ wither (queued s.topo s.queue) geom) where
    -- the world that it stands for
    pub withered-world : (actors : List (List LineCommand)) (log : List Entry)
        → world actors log (record s { topo = u; queue = q })
        ≡ with_queued (world actors log s) (wither (queued_of (world actors log s)) geom)
    withered-world actors log = ap (with_queued (world actors log s)) withered

    -- all is kept
    pub withered-kept : RestStays s.topo s.queue u q → CountsStay s.topo u
        → q.spare + sound_providers s.topo.topology ≡ s.queue.spare + sound_providers u.topology
        → Holds (record s { topo = u; queue = q })
    withered-kept rest stay owed =
        search (
          rules,
          holds_after_effects s u q kept
              (subst (λ (r : QueuedTopology Config). SameParts s.topo.topology r.topology) (sym withered)
              ((effects_keep_parts (granted_by s.topo) (queued s.topo s.queue)).withered geom))
              (ap (λ (v : TopoView Config). v.active) rest.mesh) stay.granted (stay.counted kept.counted)
              (stay.quiet kept.quiet),
          effects_keep_parts (granted_by s.topo) (queued s.topo s.queue),
          ap (λ (v : TopoView Config). v.active) rest.mesh,
          stay.counted kept.counted,
          stay.quiet kept.quiet,
          sound-counted s.topo.topology,
          sound-counted u.topology,
          ap (λ (v : TopoView Config). v.haves) rest.mesh,
        )

-- Answers

-- an outcome with the world that it leaves
abbrev pub with_outcome : World → Outcome → World × Outcome
with_outcome w o = (w, o)

-- an outcome that was said, with the world that it leaves, is the one that was meant
pub told-so : {made now : World} {meant said : Outcome} → now ≡ made → said ≡ meant
    → with_outcome made meant ≡ with_outcome now said
told-so is same = λ i. with_outcome ((sym is) i) ((sym same) i)

-- what was found, where this is seen of it
pub record IsSeen {X Y : Type 0} (see : X → Y) (o : Option X) (y : Y) : Type 0 where
  pub item : X
  pub is : o ≡ Some item
  pub seen : y ≡ see item

pub seen-in : {X Y : Type 0} (see : X → Y) (o : Option X) {y : Y} → Some y ≡ option_map see o → IsSeen see o y
seen-in see None never = absurd (cc)
seen-in see (Some x) so = record { item = x; is = refl; seen = cc }

-- the geom of a number that was found
abbrev pub IsNumberOf : Option (Geom Config) → ℕ → Type 0
IsNumberOf o n = IsSeen (λ (g : Geom Config). g.number) o n

pub number-of : (o : Option (Geom Config)) (n : ℕ) → Some n ≡ option_map (λ (g : Geom Config). g.number) o
    → IsNumberOf o n
number-of o n is = seen-in (λ (g : Geom Config). g.number) o is

-- one that is found by a test lives
pub found-lives : (t : Topology Config) (test : Geom Config → Bool) (n : ℕ) → IsNumberOf (find test t.geoms) n
    → IsSome (geom_at t n)
found-lives t test n is =
    find-any (λ (y : Geom Config). y.number == n) t.geoms
    ∙ any-contained (λ (y : Geom Config). y.number == n) t.geoms is.item (find-Contains test t.geoms is.item is.is)
    (eq-eqb is.item.number n (sym is.seen))

module _ (s new : State) (line : ℕ) (o : Outcome) (actors : List (List LineCommand)) (log : List Entry) where
  abbrev w : World
  w = world actors log s

  -- Pulls

  pub pull-unknown : (name : List ℕ) → header_disk w name ≡ None → o ≡ outcomes.Replied line (replies.Refused ENOENT)
      → do_pull w line (header_disk w name) ≡ (w, o)
  pull-unknown name none is = ap (do_pull w line) none ∙ ap (with_outcome w) (sym is)

  module _ (name : List ℕ) (item : ℕ × HeaderDisk) (found : header_disk w name ≡ Some item) where
    pub pull-absent : find (λ g. is_geom_of_disk item.0 g && not g.withering) s.topo.topology.geoms ≡ None
        → o ≡ outcomes.Replied line (replies.Refused ENXIO) → do_pull w line (header_disk w name) ≡ (w, o)
    pull-absent none is =
        ap (do_pull w line) found ∙ ap (λ g. wither_found w line g ENXIO) none ∙ ap (with_outcome w) (sym is)

    pub pull-done : (geom : ℕ)
        → IsNumberOf (find (λ g. is_geom_of_disk item.0 g && not g.withering) s.topo.topology.geoms) geom
        → world actors log new ≡ with_queued w (wither (queued_of w) geom) → o ≡ outcomes.Replied line replies.Ok
        → do_pull w line (header_disk w name) ≡ (world actors log new, o)
    pull-done geom g made is =
        ap (do_pull w line) found ∙ ap (λ x. wither_found w line x ENXIO) g.is
        ∙ told-so (made ∙ ap (λ n. with_queued w (wither (queued_of w) n)) g.seen) is

  -- Destroys

  module _ (kind : Kind) (name : List ℕ) where
    module _ (kept : Holds s) (geom : ℕ) (g : IsNumberOf (named_geom w kind name) geom) where
      -- whether it is in use
      use-is : (b : Bool) → is_in_use (granted_by s.topo) s.topo.topology geom ≡ b
          → is_in_use (granted_in w) w.topology g.item.number ≡ b
      use-is b is =
          ap (λ (G : ℕ → Counts). is_in_use G w.topology g.item.number) (sym kept.grants)
          ∙ ap (is_in_use (granted_by s.topo) w.topology) (sym g.seen) ∙ is

      -- the answer, by that
      abbrev answer_by : Bool → World × Outcome
      answer_by b =
          answer w line (if b then Some EBUSY else None)
          (with_queued w (wither (queued_of w) g.item.number))

      pub destroy-busy : is_in_use (granted_by s.topo) s.topo.topology geom ≡ true
          → o ≡ outcomes.Replied line (replies.Refused EBUSY) → do_destroy w line (named_geom w kind name) ≡ (w, o)
      destroy-busy busy is =
          ap (do_destroy w line) g.is ∙ ap answer_by (use-is true busy) ∙ ap (with_outcome w) (sym is)

      pub destroy-done : is_in_use (granted_by s.topo) s.topo.topology geom ≡ false
          → world actors log new ≡ with_queued w (wither (queued_of w) geom) → o ≡ outcomes.Replied line replies.Ok
          → do_destroy w line (named_geom w kind name) ≡ (world actors log new, o)
      destroy-done free made is =
          ap (do_destroy w line) g.is ∙ ap answer_by (use-is false free)
          ∙ told-so (made ∙ ap (λ n. with_queued w (wither (queued_of w) n)) g.seen) is
