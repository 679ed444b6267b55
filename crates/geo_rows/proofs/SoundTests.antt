-- The tests of Sound say what Sound says, but for offsets inside a sector.
use Rattle.std.specs.Prelude.{◌≡◌, ◌⊎◌, ◌↔◌, ◌≤◌, ◌<◌, ℕ, zero, suc, ◌+◌, ◌*◌, ◌/◌, ◌%◌, ◌==◌, nat_lt, Bool, true, false, not, ◌&&◌, ◌||◌, List, [], ◌∷◌, ◌++◌, length, map, count_by, Option, Some, None, IsSome, IsSomeAnd, MatchOption, IsTrue, All, is_some, slice_get, option_and_then}
use Rattle.std.specs.Bool.{Decides}
use Rattle.std.specs.List.{list_all, list_any, range_with_len}
use Rattle.std.specs.List.Sorted.{IsStrictlyIncreasing}
use Rattle.std.specs.Option.{option_map_or}
use Rattle.std.proofs.Common.{refl, arith, sym, ap, subst, ◌∙◌}
use Rattle.std.proofs.Common.{get_or, inl, inr}
use Rattle.std.proofs.lemmas.Bool.{true≢false}
use Rattle.std.proofs.lemmas.List.Sums.{list_all-from_AllPass}
use Rattle.std.proofs.lemmas.List.FromFn.{length-range_with_len, get_or-range_with_len}
use Rattle.std.proofs.Math.Nat.{div-zero, le-div_iff_mul-le, suc-mul}
use Rattle.std.proofs.lemmas.Bool.Decides.{Decides-and, Decides-not, Decides-like, Decides-eqb, Decides-ltb}
use Rattle.std.proofs.lemmas.List.Kept.{AllPairs-from_increasing}
use Rattle.std.proofs.lemmas.Slice.Eq.{bytes_eq-Decides}
use Rattle.std.proofs.lemmas.Option.{same_Some}
use Rattle.geo_base.proofs.Tests.{from_false_true}
use Rattle.geo_laws_scripts.proofs.Deciders.{always, itself, at_most, each, kind_is}
use Rattle.geo_rows.proofs.TestFacts.{under, if_there, there_and, pairs}
use Rattle.geo_rows.proofs.SteadyTests.{untrue, bare, named}
use Rattle.geo_rows.proofs.FittingTests.{media_size}
use Rattle.geo_base.specs.declared.kind.Kind.{Kind}
use Rattle.geo_base.specs.declared.kind.Kind.TheVariants as kinds
use Rattle.geo_base.specs.declared.request.BioCmd.{BioCmd}
use Rattle.geo_base.specs.declared.request.BioCmd.TheVariants as cmds
use Rattle.geo_base.specs.declared.request.Counts.{Counts}
use Rattle.geo_base.specs.declared.limits.TheConstants.{MAX_LINKS, MAX_RANK, MAX_REQUEST_BYTES, UNTASTED_RANK}
use Rattle.geo_model.specs.declared.class.EbrPart.{EbrPart}
use Rattle.geo_model.specs.declared.step.Event.{Event}
use Rattle.geo_model.specs.declared.step.Owner.{Owner}
use Rattle.geo_model.specs.declared.step.Owner.TheVariants as owners
use Rattle.geo_model.specs.Words.{◌>>=◌, is_read, is_write, is_flush, is_kind, same_cmd, names_number, same_name}
use Rattle.geo_model.specs.Topology.{Topology, Geom, Provider, Consumer, geom_at, provider_at, consumer_at, geom_of_provider, providers_of, consumers_of, is_withering}
use Rattle.geo_model.specs.Graph.{AreNumbers}
use Rattle.geo_model.specs.Rank.{rank}
use Rattle.geo_model.specs.Demand.{have, want, is_zero, is_exclusive, fits_limit}
use Rattle.geo_model.specs.World.{Config, Bio, Handle, HeaderDisk, Taste, Asked, NoClass, NextSector, granted_in, bio_among, is_read_out, is_root, is_taste_root, is_done, is_busy, is_sent, is_waiting}
use Rattle.geo_model.specs.Place.{Spot, place, component, disk_of}
use Rattle.geo_model.specs.Bios.{disk_at, are_children_done}
use Rattle.geo_model.specs.Chain.{Chain, BeginsAtZero}
use Rattle.geo_model.specs.Events.{provider_of_event}
use Rattle.geo_model.specs.Order.{reads_limit}
use Rattle.geo_model.specs.Sound.{StandsBare, RanksHold, CountsHold, ProvidersHold, fits_kind, IsOfItsClass, DifferInDisk, HasDiskSizes, NumbersHold, IsHandleConsumer, HasTasteConsumer, HandlesHold, AreReadsInOrder, class_asked, reads_out, IsNext, IsPartOf, ChainHolds, HasItsChain, IsTasteInOrder, EventsHold, IsPlaceInside, IsPlaced, LeadsDown}
use Rattle.geo_model.specs.SoundBios.{IsRangeInside, HasCountFor, IsBioInOrder, ChildShape, HasItsPieces, HasItsParent, IsFamilyInOrder, NotBothBusy, DisksHold}
use Rattle.geo_rows.specs.WorkedSound.{some_and, none_or, all_pairs, same_test, stands_bare, ranks_hold, counts_hold, providers_hold, are_numbers, has_disk_sizes, differ_in_disk, is_of_its_class, numbers_hold, has_taste_consumer, handles_hold, has_count_for, is_range_inside, is_bio_in_order, same_shape, same_shapes, has_its_pieces, has_its_parent, is_family_in_order, not_both_busy, disks_hold, are_reads_in_order, is_next, begins_at_zero, is_part_of, chain_holds, has_its_chain, is_taste_in_order, events_hold, is_place_inside, is_placed, leads_down, is_sound, TestsSound}

-- More tests in general

-- a fact where another isn't
unless_it : {P Q : Type 0} → (a b : Bool) → Decides a P → Decides b Q → Decides (a || b) ((P → ⊥) → Q)
unless_it true b d k = (λ e no. absurd (no (d.0 refl)), λ h. refl)
unless_it false b d k = (λ e no. k.0 e, λ h. k.1 (h (λ p. true≢false (sym (d.1 p)))))

-- a fact where a test is false
unless_true : {Q : Type 0} → (a b : Bool) → Decides b Q → Decides (a || b) (a ≡ false → Q)
unless_true true b k = (λ e no. absurd (true≢false no), λ h. refl)
unless_true false b k = (λ e no. k.0 e, λ h. k.1 (h refl))

-- two tests have the same answer
same : (a b : Bool) → Decides (same_test a b) (a ≡ b)
same true true = (λ e. refl, λ e. refl)
same true false = (λ e. absurd (true≢false (sym e)), λ e. absurd (true≢false e))
same false true = (λ e. absurd (true≢false (sym e)), λ e. absurd (true≢false (sym e)))
same false false = (λ e. refl, λ e. refl)

-- of two tests one tells the other
both_ways : (a b : Bool) → Decides (same_test a b) (IsTrue a ↔ IsTrue b)
both_ways true true = (λ e. (λ h. refl, λ h. refl), λ h. refl)
both_ways true false = (λ e. absurd (true≢false (sym e)), λ h. h.0 refl)
both_ways false true = (λ e. absurd (true≢false (sym e)), λ h. h.1 refl)
both_ways false false = (λ e. (λ h. h, λ h. h), λ h. refl)

-- a fact of a number that is named
of_named : (o : Option ℕ) (test : ℕ → Bool) (P : ℕ → Type 0) → ((d : ℕ) → Decides (test d) (P d))
    → Decides (none_or o test) ((d : ℕ) → o ≡ Some d → P d)
of_named None test P one = (λ e d no. absurd (true≢false (ap (λ o. is_some o) (sym no))), λ h. refl)
of_named (Some x) test P one = (λ e d told. subst P (same_Some x d told) ((one x).0 e), λ h. (one x).1 (h x refl))

-- Ranks and counts

-- a geom that stands bare, and the ranks of all
stands : (t : Topology Config) (g : ℕ) → Decides (stands_bare t g) (StandsBare t g)
stands t g =
    Decides-like _ (λ h. assumption) (λ h. assumption)
    (Decides-and _ _ (there_and (geom_at t g) _ _ (λ x. untrue x.withering)) (bare (providers_of t g)))

ranks : (t : Topology Config) → Decides (ranks_hold t) (RanksHold t)
ranks t =
    Decides-like _ (λ h. assumption) (λ h. assumption)
    (Decides-and _ _
    (each _ _ (λ c. if_there c.provider _ _ (λ p.
    there_and (provider_at t p) _ _ (λ x. Decides-ltb (rank t x.geom) (rank t c.geom)))) t.consumers)
    (Decides-and _ _
    (each _ _ (λ x.
    unless_it (x.number == 1) _ (Decides-eqb x.number 1)
    (unless_it (x.number == 2) _ (Decides-eqb x.number 2) (at_most (rank t x.number) MAX_RANK))) t.geoms)
    (Decides-and _ _ (stands t 1) (Decides-and _ _ (stands t 2) always))))

-- access counts
counts : (granted : ℕ → Counts) (t : Topology Config) → Decides (counts_hold granted t) (CountsHold granted t)
counts granted t =
    Decides-like _ (λ h. assumption) (λ h. assumption)
    (Decides-and _ _ (itself (is_exclusive granted t)) (itself (fits_limit granted t)))

-- names, errors and sizes of providers
providers : (t : Topology Config) → Decides (providers_hold t) (ProvidersHold t)
providers t =
    Decides-like _ (λ h. assumption) (λ h. assumption)
    (Decides-and _ _
    (pairs _ _ (λ x y. itself (not (not x.errored && (not y.errored && same_name x.name y.name)))) t.providers)
    (Decides-and _ _
    (each _ _ (λ x. under (is_withering t x.geom) _ (itself (is_withering t x.geom)) (itself x.errored)) t.providers)
    (Decides-and _ _ (each _ _ (λ x. media_size x.size x.sector) t.providers) always)))

-- Numbers and disks

-- numbers that rise, and are below the next one
rising : (xs : List ℕ) → Decides (all_pairs nat_lt xs) (IsStrictlyIncreasing xs)
rising xs =
    Decides-like (all_pairs nat_lt xs)
    (λ h. λ k lt. h k (k + 1) 0 (omega arith) lt)
    (AllPairs-from_increasing xs)
    (pairs nat_lt (λ x y. x < y) Decides-ltb xs)

numbers : (xs : List ℕ) (next : ℕ) → Decides (are_numbers xs next) (AreNumbers xs next)
numbers xs next = Decides-and _ _ (rising xs) (each _ _ (λ n. Decides-ltb n next) xs)

-- a geom is of its class
of_class : (x : Geom Config) → Decides (is_of_its_class x) (IsOfItsClass x)
of_class x =
    Decides-like _ (λ h. assumption) (λ h. assumption)
    (Decides-and _ _ (itself (fits_kind x.kind x.config))
    (Decides-and _ _ (same (is_kind x.kind kinds.Dev) (x.number == 1))
    (Decides-and _ _ (same (is_kind x.kind kinds.Taste) (x.number == 2)) always)))

-- two geoms are of different disks, with the sizes of these
other_disk : (x y : Geom Config) → Decides (differ_in_disk x y) (DifferInDisk x y)
other_disk x y = of_named (disk_of x.config) _ _ (λ d. Decides-not _ (named (disk_of y.config) d))

disk_sizes : (t : Topology Config) (ds : List HeaderDisk) (x : Geom Config)
    → Decides (has_disk_sizes t ds x) (HasDiskSizes t ds x)
disk_sizes t ds x =
    if_there (disk_of x.config) _ _ (λ d. there_and (slice_get ds d) _ _ (λ disk.
    each _ _ (λ p. Decides-and _ _ (Decides-eqb p.sector disk.sector) (Decides-eqb p.size disk.size))
    (providers_of t x.number)))

-- all of NumbersHold
all_numbers : (t : Topology Config) (ds : List HeaderDisk) → Decides (numbers_hold t ds) (NumbersHold t ds)
all_numbers t ds =
    Decides-like _ (λ h. assumption) (λ h. assumption)
    (Decides-and _ _ (numbers (map (λ (x : Geom Config). x.number) t.geoms) t.next_geom)
    (Decides-and _ _ (numbers (map (λ (x : Provider). x.number) t.providers) t.next_provider)
    (Decides-and _ _ (numbers (map (λ (x : Consumer). x.number) t.consumers) t.next_consumer)
    (Decides-and _ _ (each _ _ of_class t.geoms)
    (Decides-and _ _ (pairs _ _ other_disk t.geoms)
    (Decides-and _ _ (each _ _ (disk_sizes t ds) t.geoms) always))))))

-- Handles and the taste's consumer

-- a consumer of DEV, and the consumer of a handle
handle_consumer : (hs : List Handle) (c : Consumer)
    → Decides (is_some c.provider && (count_by (λ h. names_number h.consumer c.number) hs == 1))
    (IsHandleConsumer hs c)
handle_consumer hs c =
    Decides-like _ (λ h. assumption) (λ h. assumption)
    (Decides-and _ _ (itself (is_some c.provider))
    (Decides-eqb (count_by (λ h. names_number h.consumer c.number) hs) 1))

consumer_of : (t : Topology Config) (dead : Bool) (o : Option ℕ)
    → Decides (option_map_or (λ c. some_and (consumer_at t c) (λ x. x.geom == 1)) o dead)
    (MatchOption o (dead ≡ true) (λ c. IsSomeAnd (consumer_at t c) (λ x. x.geom ≡ 1)))
consumer_of t dead None = itself dead
consumer_of t dead (Some c) = there_and (consumer_at t c) _ _ (λ x. Decides-eqb x.geom 1)

-- a list with an item isn't empty
not_longer : {A : Type 0} → (x : A) (xs : List A) → (x ∷ xs) ≡ [] → ⊥
not_longer x xs e = let no : length (x ∷ xs) ≡ 0 = ap (λ ys. length ys) e in omega (arith, no)

-- the first item of a list, and the others
abbrev head_of : {A : Type 0} → A → List A → A
head_of other [] = other
head_of other (x ∷ xs) = x

abbrev rest_of : {A : Type 0} → List A → List A
rest_of [] = []
rest_of (x ∷ xs) = xs

-- the consumers of TASTE, one list of them after another
taste_consumer : (t : Topology Config) (xs : List Consumer) (s : Option Taste) → consumers_of t 2 ≡ xs
    → Decides (has_taste_consumer xs s) (HasTasteConsumer t s)
taste_consumer t [] None it = (λ e. it, λ h. refl)
taste_consumer t (c ∷ []) None same = (λ e. absurd (true≢false (sym e)), λ h. absurd (not_longer c [] (sym same ∙ h)))
taste_consumer t (c ∷ d ∷ cs) None same =
    (λ e. absurd (true≢false (sym e)), λ h. absurd (not_longer c (d ∷ cs) (sym same ∙ h)))
taste_consumer t [] (Some s) same =
    (λ e. absurd (true≢false (sym e)), λ h. absurd (not_longer h.consumer [] (sym h.alone ∙ same)))
taste_consumer t (c ∷ []) (Some s) same =
    Decides-like _
    (λ h. record { consumer = c; alone = same; number = h.0; attached = h.1 })
    (λ h. let it : c ≡ h.consumer = ap (head_of c) (sym same ∙ h.alone) in
    (ap (λ x. x.number) it ∙ h.number, ap (λ x. x.provider) it ∙ h.attached))
    (Decides-and _ _ (Decides-eqb c.number s.consumer) (named c.provider s.provider))
taste_consumer t (c ∷ d ∷ cs) (Some s) same =
    (λ e. absurd (true≢false (sym e)), λ h. absurd (not_longer d cs (ap (λ ys. rest_of ys) (sym same ∙ h.alone))))

-- all of HandlesHold
handles : (t : Topology Config) (hs : List Handle) (next : ℕ) (o : Option Taste)
    → Decides (handles_hold t hs next o) (HandlesHold t hs next o)
handles t hs next o =
    Decides-like _ (λ h. assumption) (λ h. assumption)
    (Decides-and _ _ (numbers (map (λ (x : Handle). x.number) hs) next)
    (Decides-and _ _ (each _ _ (handle_consumer hs) (consumers_of t 1))
    (Decides-and _ _ (each _ _ (λ h. consumer_of t h.dead h.consumer) hs)
    (Decides-and _ _ (taste_consumer t (consumers_of t 2) o refl) always))))

-- Bios

-- the range, the counts and the bytes of a bio
range_inside : (x : Bio) (p : Provider) → Decides (is_range_inside x p) (IsRangeInside x p)
range_inside x p =
    Decides-like _ (λ h. assumption) (λ h. assumption)
    (Decides-and _ _ (at_most 1 x.len)
    (Decides-and _ _ (at_most x.len MAX_REQUEST_BYTES)
    (Decides-and _ _ (Decides-eqb (x.offset % p.sector) 0)
    (Decides-and _ _ (Decides-eqb (x.len % p.sector) 0)
    (Decides-and _ _ (at_most (x.offset + x.len) p.size) always)))))

count_for : (granted : ℕ → Counts) (t : Topology Config) (x : Bio) (c : Consumer)
    → Decides (has_count_for granted t x c) (HasCountFor granted t x c)
count_for granted t x c =
    Decides-and _ _
    (under (is_read x.cmd) _ (itself (is_read x.cmd)) (Decides-ltb 0 (want granted t c).r))
    (unless_true (is_read x.cmd) _ (Decides-ltb 0 (want granted t c).w))

bio_in_order : (granted : ℕ → Counts) (t : Topology Config) (x : Bio)
    → Decides (is_bio_in_order granted t x) (IsBioInOrder granted t x)
bio_in_order granted t x =
    Decides-like _ (λ h. assumption) (λ h. assumption)
    (Decides-and _ _
    (there_and (consumer_at t x.source) _ _
    (λ c. Decides-and _ _ (named c.provider x.target) (count_for granted t x c)))
    (Decides-and _ _
    (there_and (provider_at t x.target) _ _ (λ p. unless_true (is_flush x.cmd) _ (range_inside x p)))
    (Decides-and _ _
    (under (is_write x.cmd) _ (itself (is_write x.cmd)) (Decides-eqb (length x.bytes) x.len))
    always)))

-- Families

-- the test tells the command
cmd_told : (a b : BioCmd) → same_cmd a b ≡ true → a ≡ b
cmd_told cmds.Read cmds.Read e = refl
cmd_told cmds.Write cmds.Write e = refl
cmd_told cmds.Delete cmds.Delete e = refl
cmd_told cmds.Flush cmds.Flush e = refl
cmd_told _ _ e = from_false_true e

cmd_same : (a : BioCmd) → same_cmd a a ≡ true
cmd_same cmds.Read = refl
cmd_same _ = refl

one_cmd : (a b : BioCmd) → Decides (same_cmd a b) (a ≡ b)
one_cmd a b = (cmd_told a b, λ e. subst (λ c. same_cmd a c ≡ true) e (cmd_same a))

-- a child's shape by its parts
abbrev shape_of : BioCmd → ℕ → ℕ → ℕ → ℕ → List ℕ → ChildShape
shape_of c i s o l b = record { cmd = c; index = i; source = s; offset = o; len = l; bytes = b }

-- equal parts make equal shapes, and back
one_shape : (c d : BioCmd) (i j s u o p l m : ℕ) (b a : List ℕ) → c ≡ d → i ≡ j → s ≡ u → o ≡ p → l ≡ m → b ≡ a
    → shape_of c i s o l b ≡ shape_of d j u p m a
one_shape c d i j s u o p l m b a e1 e2 e3 e4 e5 e6 = cc

shape : (a b : ChildShape) → Decides (same_shape a b) (a ≡ b)
shape a b =
    Decides-like _
    (λ h. one_shape a.cmd b.cmd a.index b.index a.source b.source a.offset b.offset a.len b.len a.bytes b.bytes h.0
    h.1.0 h.1.1.0 h.1.1.1.0 h.1.1.1.1.0 h.1.1.1.1.1.0)
    (λ e. (
      ap (λ x. x.cmd) e,
      (
        ap (λ x. x.index) e,
        (ap (λ x. x.source) e, (ap (λ x. x.offset) e, (ap (λ x. x.len) e, (ap (λ x. x.bytes) e, tt)))),
      ),
    ))
    (Decides-and _ _ (one_cmd a.cmd b.cmd)
    (Decides-and _ _ (Decides-eqb a.index b.index)
    (Decides-and _ _ (Decides-eqb a.source b.source)
    (Decides-and _ _ (Decides-eqb a.offset b.offset)
    (Decides-and _ _ (Decides-eqb a.len b.len)
    (Decides-and _ _ (bytes_eq-Decides a.bytes b.bytes) always))))))

-- equal heads and tails make equal lists
joined : {A : Type 0} → (x y : A) (xs ys : List A) → x ≡ y → xs ≡ ys → (x ∷ xs) ≡ (y ∷ ys)
joined x y xs ys e f = cc

shapes : (xs ys : List ChildShape) → Decides (same_shapes xs ys) (xs ≡ ys)
shapes [] [] = (λ e. refl, λ e. refl)
shapes [] (y ∷ ys) = (λ e. from_false_true e, λ e. absurd (not_longer y ys (sym e)))
shapes (x ∷ xs) [] = (λ e. from_false_true e, λ e. absurd (not_longer x xs e))
shapes (x ∷ xs) (y ∷ ys) =
    Decides-like _
    (λ h. joined x y xs ys h.0 h.1)
    (λ e. (ap (head_of x) e, ap (λ zs. rest_of zs) e))
    (Decides-and _ _ (shape x y) (shapes xs ys))

-- a value and what hangs on it, as nested look-ups
there_with : (p : Provider) (o : Option (Geom Config)) (test : Provider × Geom Config → Bool) (P : Provider
    → Geom Config → Type 0) → ((q : Provider) (g : Geom Config) → Decides (test (q, g)) (P q g))
    → Decides (some_and (o >>= λ g. Some (p, g)) test) (IsSomeAnd o (λ g. P p g))
there_with p None test P one = (λ e. from_false_true e, λ h. absurd h)
there_with p (Some g) test P one = one p g

there_both : (o : Option Provider) (geom : Provider → Option (Geom Config)) (test : Provider × Geom Config
    → Bool) (P : Provider → Geom Config → Type 0)
    → ((q : Provider) (g : Geom Config) → Decides (test (q, g)) (P q g))
    → Decides (some_and (o >>= λ x. (geom x >>= λ g. Some (x, g))) test)
    (IsSomeAnd o (λ p. IsSomeAnd (geom p) (λ g. P p g)))
there_both None geom test P one = (λ e. from_false_true e, λ h. absurd h)
there_both (Some p) geom test P one = there_with p (geom p) test P one

-- a bio's pieces, its parent, its family
pieces_there : (t : Topology Config) (bios : List Bio) (x : Bio)
    → Decides (has_its_pieces t bios x) (HasItsPieces t bios x)
pieces_there t bios x = there_both (provider_at t x.target) (λ p. geom_at t p.geom) _ _ (λ p g. shapes _ _)

parent_there : (bios : List Bio) (o : Owner) → Decides (has_its_parent bios o) (HasItsParent bios o)
parent_there bios (owners.Child parent index) = there_and (bio_among bios parent) _ _ (λ y. itself (is_waiting y.phase))
parent_there bios (owners.Line handle line) = always
parent_there bios owners.Taste = always

family : (t : Topology Config) (bios : List Bio) (x : Bio)
    → Decides (is_family_in_order t bios x) (IsFamilyInOrder t bios x)
family t bios x =
    Decides-like _ (λ h. assumption) (λ h. assumption)
    (Decides-and _ _ (parent_there bios x.owner)
    (Decides-and _ _ (under (is_waiting x.phase) _ (itself (is_waiting x.phase)) (pieces_there t bios x))
    (Decides-and _ _
    (under (is_waiting x.phase) _ (itself (is_waiting x.phase)) (untrue (are_children_done bios x.number)))
    (Decides-and _ _ (under (is_root x.owner) _ (itself (is_root x.owner)) (untrue (is_done x.phase))) always))))

-- one Busy bio at a disk
one_busy : (t : Topology Config) (x y : Bio) → Decides (not_both_busy t x y) (NotBothBusy t x y)
one_busy t x y =
    under (is_busy x.phase) _ (itself (is_busy x.phase))
    (under (is_busy y.phase) _ (itself (is_busy y.phase))
    (of_named (disk_at t x.target) _ _ (λ d. Decides-not _ (named (disk_at t y.target) d))))

disks : (t : Topology Config) (bios : List Bio) → Decides (disks_hold t bios) (DisksHold t bios)
disks t bios =
    Decides-like _ (λ h. assumption) (λ h. assumption)
    (Decides-and _ _
    (each _ _ (λ x.
    under (is_sent x.phase || is_busy x.phase) _ (itself (is_sent x.phase || is_busy x.phase))
    (itself (is_some (disk_at t x.target))))
    bios)
    (pairs _ _ (one_busy t) bios))

-- Events and the taste

-- reads of a taste, by how far a class was asked
reads : (asked : Asked) (n : ℕ) → Decides (are_reads_in_order asked n) (AreReadsInOrder asked n)
reads NoClass n = Decides-eqb n 0
reads (NextSector kind sector) n = Decides-ltb n reads_limit
reads _ n = at_most n reads_limit

next : (asked : Asked) (n : ℕ) → Decides (is_next asked n) (IsNext asked n)
next (NextSector kind sector) n = Decides-eqb sector n
next _ n = always

from_zero : (xs : List ℕ) → Decides (begins_at_zero xs) (BeginsAtZero xs)
from_zero [] = always
from_zero (sector ∷ rest) = Decides-eqb sector 0

-- a partition, and the whole chain
part_of : (n : ℕ) (s : EbrPart) → Decides (is_part_of n s) (IsPartOf n s)
part_of n s =
    Decides-like _ (λ h. assumption) (λ h. assumption)
    (Decides-and _ _ (at_most 1 s.count) (at_most (s.first + s.count) n))

one_chain : (n : ℕ) (asked : Asked) (made : ℕ) (c : Chain)
    → Decides (chain_holds n asked made c) (ChainHolds n asked made c)
one_chain n asked made c =
    Decides-like _ (λ h. assumption) (λ h. assumption)
    (Decides-and _ _ (Decides-eqb made (length c.links + reads_out asked))
    (Decides-and _ _ (Decides-ltb (length c.links) MAX_LINKS)
    (Decides-and _ _ (each _ _ (λ l. if_there l.part _ _ (part_of n)) c.links)
    (Decides-and _ _ (next asked c.next)
    (Decides-and _ _ (from_zero (map (λ l. l.sector) c.links ++ c.next ∷ []))
    (Decides-and _ _ (each _ _ (λ l. Decides-ltb l.sector n) c.links)
    (Decides-and _ _ (Decides-ltb c.next n)
    (Decides-and _ _ (pairs _ _ (λ a b. Decides-not _ (Decides-eqb a b)) (map (λ l. l.sector) c.links))
    (Decides-and _ _ (each _ _ (λ l. Decides-not _ (Decides-eqb l.sector c.next)) c.links) always)))))))))

-- the class in an option
abbrev kind_in : Option Kind → Kind
kind_in None = kinds.Disk
kind_in (Some k) = k

-- EBR is asked
ebr_asked : (o : Option Kind) → Decides (some_and o (λ k. is_kind k kinds.Ebr)) (o ≡ Some kinds.Ebr)
ebr_asked None = (λ e. from_false_true e, λ e. from_false_true (ap (λ o. is_some o) e))
ebr_asked (Some k) = (
  λ e. ap (λ j. Some j) ((kind_is k kinds.Ebr).0 e),
  λ e. (kind_is k kinds.Ebr).1 (ap (λ o. kind_in o) e),
)

-- the chain, and all of the taste
its_chain : (t : Topology Config) (s : Taste) → Decides (has_its_chain t s) (HasItsChain t s)
its_chain t s =
    under (some_and (class_asked s.asked) (λ k. is_kind k kinds.Ebr)) _ (ebr_asked (class_asked s.asked))
    (if_there (provider_at t s.provider) _ _ (λ p. one_chain (p.size / p.sector) s.asked s.reads s.chain))

taste : (t : Topology Config) (s : Taste) → Decides (is_taste_in_order t s) (IsTasteInOrder t s)
taste t s =
    Decides-like _ (λ h. assumption) (λ h. assumption)
    (Decides-and _ _
    (there_and (geom_of_provider t s.provider) _ _ (λ g. Decides-ltb (rank t g.number) UNTASTED_RANK))
    (Decides-and _ _ (reads s.asked s.reads) (Decides-and _ _ (its_chain t s) always)))

-- all of EventsHold
events : (t : Topology Config) (es : List Event) (o : Option Taste) (bios : List Bio)
    → Decides (events_hold t es o bios) (EventsHold t es o bios)
events t es o bios =
    Decides-like _ (λ h. assumption) (λ h. assumption)
    (Decides-and _ _ (each _ _ (λ e. itself (is_some (provider_at t (provider_of_event e)))) es)
    (Decides-and _ _
    (both_ways (list_any (λ x. is_taste_root x.owner) bios) (some_and o (λ s. is_read_out s.asked)))
    (Decides-and _ _ (if_there o _ _ (taste t)) always)))

-- Places: each beginning of a sector is an offset

-- a place is inside the provider below
placed_there : (t : Topology Config) (g : Geom Config) (p : Provider) (spot : Spot)
    → Decides (is_place_inside t g p spot) (IsPlaceInside t g p spot)
placed_there t g p spot =
    there_and (option_and_then (consumer_at t) (component g.config spot.component)) _ _ (λ c.
    Decides-and _ _ (Decides-eqb c.geom g.number)
    (there_and (option_and_then (provider_at t) c.provider) _ _ (λ q.
    Decides-and _ _ (Decides-ltb spot.offset q.size) (Decides-eqb q.sector p.sector))))

-- a sector of a provider begins inside it
begins_inside : (size sector k : ℕ) → 0 < sector → k < size / sector → k * sector < size
begins_inside size sector k some lt =
    let all : suc k * sector ≤ size = (le-div_iff_mul-le {k = sector} {x = suc k} {y = size} some).0 lt in
    let more : suc k * sector ≡ k * sector + sector = suc-mul k sector in
    omega arith

-- where there are sectors, their size isn't zero
some_sector : (size sector k : ℕ) → k < size / sector → 0 < sector
some_sector size zero k lt = absurd (let no : k < 0 = subst (λ n. k < n) (div-zero size) lt in omega (arith, no))
some_sector size (suc s) k lt = omega arith

-- what is placed is placed at the beginning of each sector
all_begin : (t : Topology Config) (g : Geom Config) (p : Provider) → IsPlaced t g p → is_placed t g p ≡ true
all_begin t g p h =
    (each _ _ (λ k. there_and (place g.config p.name (k * p.sector)) _ _ (placed_there t g p))
    (range_with_len 0 (p.size / p.sector))).1
    (λ i d lt.
    let below : i < p.size / p.sector = subst (λ n. i < n) (length-range_with_len 0 (p.size / p.sector)) lt in
    let it : get_or (range_with_len 0 (p.size / p.sector)) i d ≡ i =
    get_or-range_with_len 0 (p.size / p.sector) i d below ∙ omega arith in
    subst (λ k. IsSomeAnd (place g.config p.name (k * p.sector)) (IsPlaceInside t g p)) (sym it)
    (h (i * p.sector) (begins_inside p.size p.sector i (some_sector p.size p.sector i below) below)))

-- one of two tests
either : (a b : Bool) → (a ≡ true) ⊎ (b ≡ true) → (a || b) ≡ true
either true b h = refl
either false b (inl e) = from_false_true e
either false b (inr e) = e

-- a way down, as a test
down : (t : Topology Config) (p : Provider) (g : Geom Config) → IsSome (disk_of g.config) ⊎ IsPlaced t g p
    → (is_some (disk_of g.config) || is_placed t g p) ≡ true
down t p g (inl e) = either (is_some (disk_of g.config)) (is_placed t g p) (inl e)
down t p g (inr h) = either (is_some (disk_of g.config)) (is_placed t g p) (inr (all_begin t g p h))

-- one of the ways down, where the provider is open or its geom stands
leads : (t : Topology Config) (p : Provider) (g : Geom Config) (closed withers : Bool)
    → ((closed ≡ false) ⊎ (withers ≡ false) → IsSome (disk_of g.config) ⊎ IsPlaced t g p)
    → ((closed && withers) || (is_some (disk_of g.config) || is_placed t g p)) ≡ true
leads t p g true true h = refl
leads t p g false withers h = down t p g (h (inl refl))
leads t p g true false h = down t p g (h (inr refl))

-- the same where the geom is looked up
leads_there : (granted : ℕ → Counts) (t : Topology Config) (p : Provider) (o : Option (Geom Config))
    → IsSomeAnd o (λ g. (is_zero (have granted t p.number) ≡ false) ⊎ (g.withering ≡ false)
    → IsSome (disk_of g.config) ⊎ IsPlaced t g p)
    → some_and o (λ g. (is_zero (have granted t p.number) && g.withering)
    || (is_some (disk_of g.config) || is_placed t g p)) ≡ true
leads_there granted t p None h = absurd h
leads_there granted t p (Some g) h = leads t p g (is_zero (have granted t p.number)) g.withering h

-- each provider's way down
all_lead : (granted : ℕ → Counts) (t : Topology Config) (ps : List Provider) → All (LeadsDown granted t) ps
    → list_all (leads_down granted t) ps ≡ true
all_lead granted t ps h =
    list_all-from_AllPass (leads_down granted t) ps (λ i d lt. let one = h i d lt in
    leads_there granted t (get_or ps i d) (geom_at t (get_or ps i d).geom) one)

-- All of it

pub sound_tested : TestsSound
unfolding is_sound
sound_tested w =
    let d =
    Decides-and _ _ (ranks w.topology)
    (Decides-and _ _ (counts (granted_in w) w.topology)
    (Decides-and _ _ (providers w.topology)
    (Decides-and _ _ (all_numbers w.topology w.disks)
    (Decides-and _ _ (handles w.topology w.handles w.next_handle w.taste)
    (Decides-and _ _ (itself (list_all (leads_down (granted_in w) w.topology) w.topology.providers))
    (Decides-and _ _ (numbers (map (λ (x : Bio). x.number) w.bios) w.next_bio)
    (Decides-and _ _
    (each (is_bio_in_order (granted_in w) w.topology) (IsBioInOrder (granted_in w) w.topology)
    (bio_in_order (granted_in w) w.topology) w.bios)
    (Decides-and _ _
    (each (is_family_in_order w.topology w.bios) (IsFamilyInOrder w.topology w.bios) (family w.topology w.bios) w.bios)
    (Decides-and _ _ (disks w.topology w.bios)
    (Decides-and _ _ (events w.topology w.events w.taste w.bios) always)))))))))) in (
      λ e places. let h = d.0 e in assumption,
      λ h. let down = all_lead (granted_in w) w.topology w.topology.providers h.places in d.1 assumption,
    )
