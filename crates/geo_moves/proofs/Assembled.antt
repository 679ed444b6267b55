-- Concats and stripes: what the tests read of the providers that are named, and what is made.
use Rattle.std.specs.Prelude.{◌≡◌, ℕ, ◌+◌, ◌==◌, nat_le, nat_lt, Bool, true, false, not, ◌&&◌, ◌||◌, List, [], ◌∷◌, length, map, Option, Some, None, is_none, IsSome, zero, suc, ◌-◌, ◌*◌, ◌/◌, ◌≤◌, ◌++◌, filter_map, Result, All, OnOk, option_and_then}
use Rattle.std.specs.List.{list_any, list_all, range_with_len, AllByRecursion}
use Rattle.std.specs.Option.{option_map}
use Rattle.std.proofs.Common.{refl, sym, ap, ◌∙◌, subst, arith, inl, inr, rules}
use Rattle.std.proofs.lemmas.Bool.Decides.{nat_tests}
use Rattle.std.proofs.lemmas.Slice.Eq.{bytes_eq-Decides}
use Rattle.std.proofs.lemmas.List.Elements.{All-contains, All-weaker}
use Rattle.std.proofs.lemmas.List.{length-map}
use Rattle.geo_base.specs.Name.{is_name, name_of}
use Rattle.geo_base.specs.declared.errno.Errno.{Errno}
use Rattle.geo_base.specs.declared.errno.Errno.TheVariants as errnos
use Rattle.geo_base.specs.declared.limits.TheConstants.{MAX_RANK, MAX_COMPONENTS, MAX_MEDIA_BYTES}
use Rattle.geo_model.specs.Words.{largest, same_name, first_error, is_granted_kind}
use Rattle.geo_model.specs.Topology.{Topology, Geom, Provider, geom_at, provider_at, is_name_taken, find_provider}
use Rattle.geo_mesh.specs.Graph.{IsSoundGraph}
use Rattle.geo_laws_graph.proofs.Members.{find-Contains}
use Rattle.geo_model.specs.Rank.{rank}
use Rattle.geo_model.specs.World.{Config, World}
use Rattle.geo_model.specs.Acceptance.{joined_size, is_size, smallest}
use Rattle.geo_model.specs.GeomCommands.{sector_of, rank_over, is_invalid_joined, joined_tests, found_providers, new_places, with_made}
use Rattle.geo_class.specs.Assembly.{allowed_size}
use Rattle.geo_moves.specs.declared.below.Below.{Below}
use Rattle.geo_laws_texts.specs.Naming.{HaveNames}
use Rattle.geo_moves.specs.Below.{any_errored, below_seen, have_sector, is_bad_join, rank_below, sector_below, tests_below}
use Rattle.geo_base.proofs.Options.{none-mapped}
use Rattle.geo_base.proofs.FindLists.{any-map}
use Rattle.std.proofs.lemmas.Simd.{map-map}
use Rattle.std.proofs.lemmas.Bool.{cases_Bool, and_parts, false_from_ne_true, and_from, le-leb}
use Rattle.std.proofs.lemmas.List.Folds.{list_any_none}
use Rattle.std.proofs.lemmas.List.FromFn.{length-map-range_with_len, map-range_with_len_more}
use Rattle.geo_base.specs.Sectors.{IsSectorSize}
use Rattle.geo_base.specs.declared.kind.Kind.{Kind}
use Rattle.geo_model.specs.declared.command.LineCommand.{LineCommand}
use Rattle.geo_model.specs.declared.step.Entry.{Entry}
use Rattle.geo_model.specs.declared.step.Outcome.{Outcome}
use Rattle.geo_model.specs.declared.step.Outcome.TheVariants as outcomes
use Rattle.geo_model.specs.declared.step.Reply.TheVariants as replies
use Rattle.geo_model.specs.Place.{disk_of}
use Rattle.geo_model.specs.HandleCommands.{answer}
use Rattle.geo_model.specs.Fitting.{Firm}
use Rattle.geo_class.specs.Places.{ArePlaces, IsStriped}
use Rattle.geo_laws_making.proofs.Joined.{concats_stay, stripes_stay}
use Rattle.geo_laws_making.proofs.NewPlaces.{whole_sizes}
use Rattle.geo_mesh.specs.Topo.{is_provider_size}
use Rattle.geo_moves.specs.NewGeom.{NewGeom}
use Rattle.geo_moves.specs.Offer.{Offer}
use Rattle.geo_moves.specs.Standing.{CanStandOn}
use Rattle.geo_state.specs.declared.state.State.{State}
use Rattle.geo_state.specs.Steps.{IsFirm}
use Rattle.geo_state.specs.World.{world}
use Rattle.geo_moves.specs.declared.assemblies.Assembly.{Assembly}
use Rattle.geo_moves.specs.declared.assemblies.Assembly.TheVariants as assemblies
use Rattle.geo_moves.specs.Assemblies.{AreAllFound, CanAssemble, assembly_config, assembly_geom, assembly_kind, assembly_name, assembly_refusal, assembly_size, config_of_all, do_assembly, has_bad_strips}
use Rattle.geo_moves.specs.Makes.{IsBuilt}
use Rattle.geo_moves.proofs.Made.{JoinFits, join-fits, made-done, made-refused, made-size, named-found}

-- What the tests read of the providers that a command names

module _ (t : Topology Config) where
  -- the sector size of the first
  pub sector_is : (ps : List Provider) → sector_below (map (below_seen t) ps) ≡ sector_of ps
  sector_is [] = refl
  sector_is (p ∷ ps) = refl

  -- one of them carries an error
  pub errored_is : (ps : List Provider) → any_errored (map (below_seen t) ps) ≡ list_any (λ p. p.errored) ps
  errored_is ps = any-map (λ (x : Below). x.errored) (below_seen t) ps

  -- all have the sector size
  pub sectors_are : (sector : ℕ) (ps : List Provider)
      → have_sector sector (map (below_seen t) ps) ≡ list_all (λ p. p.sector == sector) ps
  sectors_are sector [] = refl
  sectors_are sector (p ∷ ps) = ap (λ b. (p.sector == sector) && b) (sectors_are sector ps)

  -- the greatest rank
  pub rank_is : (ps : List Provider) → rank_below (map (below_seen t) ps) ≡ largest (map (λ p. rank t p.geom) ps)
  rank_is ps = ap largest (map-map (λ (x : Below). x.rank) (below_seen t) ps)

-- a size is one just where there is one
size_there : (n : ℕ) → is_none (allowed_size n) ≡ not (is_size n)
size_there n = elim (cases_Bool (is_size n)) [ inl e ↦ rw e refl | inr e ↦ rw e refl ]

-- what doesn't fit together
pub join_is : (t : Topology Config) (config : Config) (ps : List Provider)
    → is_bad_join (map (below_seen t) ps) (allowed_size (joined_size config)) ≡ is_invalid_joined config ps
join_is t config ps =
    ap (λ n. not (have_sector n (map (below_seen t) ps)) || is_none (allowed_size (joined_size config)))
    (sector_is t ps)
    ∙ (λ i. not (sectors_are t (sector_of ps) ps i) || size_there (joined_size config) i)

-- A name that isn't one

-- is that of no provider
pub not_taken : (t : Topology Config) (bytes : List ℕ) → HaveNames t → name_of bytes ≡ None
    → false ≡ is_name_taken t bytes
not_taken t bytes all none =
    search (
      rules,
      list_any_none (λ (x : Provider). not x.errored && same_name x.name bytes) t.providers,
      All-weaker (λ (p : Provider). is_name p.name ≡ true) (λ p. (not p.errored && same_name p.name bytes) ≡ false),
      Some bytes,
      false_from_ne_true,
      and_parts,
      bytes_eq-Decides,
    )

-- The tests

-- one more than a rank is above the limit just where the rank isn't below it
pub deeper : (n : ℕ) → nat_lt MAX_RANK (1 + n) ≡ nat_le MAX_RANK n
deeper n = grind (arith, nat_tests)

-- as many were found
pub count_is : (t : Topology Config) (ps : List Provider) → length (map (below_seen t) ps) ≡ length ps
count_is t ps = length-map ps (below_seen t)

module _ (t : Topology Config) (name : List ℕ) (config : Config) (ps : List Provider) (wanted : ℕ) (is_bad : Bool) where
  -- the tests, by what each reads
  abbrev tests : ℕ → Bool → Bool → Bool → List (Bool × Errno)
  tests count errored bad deep =
      (is_name_taken t name, errnos.EEXIST)
      ∷ (not (count == wanted), errnos.ENOENT)
      ∷ (errored, errnos.ENXIO)
      ∷ (is_bad || bad, errnos.EINVAL)
      ∷ (deep, errnos.EDEEP)
      ∷ []

  -- the providers as they are found
  abbrev seen : List Below
  seen = map (below_seen t) ps

  abbrev whole : Option ℕ
  whole = allowed_size (joined_size config)

  depth_is : nat_le MAX_RANK (rank_below seen) ≡ nat_lt MAX_RANK (rank_over t ps)
  depth_is = ap (nat_le MAX_RANK) (rank_is t ps) ∙ sym (deeper (largest (map (λ p. rank t p.geom) ps)))

  seen_tests : tests_below t name seen wanted whole is_bad ≡ joined_tests t name config wanted ps is_bad
  seen_tests = λ i. tests (count_is t ps i) (errored_is t ps i) (join_is t config ps i) (depth_is i)

  -- the tests of what was found are the model's
  pub tests_are : (below : List Below) (size : Option ℕ) → below ≡ seen → size ≡ whole
      → tests_below t name below wanted size is_bad ≡ joined_tests t name config wanted ps is_bad
  tests_are below size is size_is = search (rules, seen_tests)

-- a provider that is found is one of a geom that lives
pub geom_lives : (t : Topology Config) → IsSoundGraph t → (prov : ℕ) (p : Provider) → provider_at t prov ≡ Some p
    → geom_at t p.geom ≡ None → ⊥
geom_lives t sound prov p found none =
    let lives : IsSome (geom_at t p.geom) =
    All-contains (λ (x : Provider). IsSome (geom_at t x.geom)) t.providers p sound.orderly.parts.offerers
    (find-Contains (λ (x : Provider). x.number == prov) t.providers p found) in
    let never : false ≡ true = subst (λ o. IsSome o) none lives in absurd (cc)

-- where no rank is told, there is no geom
pub no_rank : (t : Topology Config) (g : ℕ)
    → None ≡ option_map (λ (x : Geom Config). rank t g) (geom_at t g) → geom_at t g ≡ None
no_rank t g none = none-mapped (λ (x : Geom Config). rank t g) (geom_at t g) (sym none)

-- What a concat and a stripe ask, where nothing refuses them

-- Sizes

-- a size that is told is it
told-size : (n m : ℕ) → allowed_size n ≡ Some m → m ≡ n
told-size n m told = search (rules, Some n, Some m)

-- one that a provider may have is told
size-told : (n : ℕ) → 1 ≤ n → n ≤ MAX_MEDIA_BYTES → allowed_size n ≡ None → ⊥
size-told n some limited none =
    let fits : is_size n ≡ true =
    and_from (nat_le 1 n) (nat_le n MAX_MEDIA_BYTES) (le-leb 1 n some) (le-leb n MAX_MEDIA_BYTES limited) in
    let never : Some n ≡ None = rw fits at none in absurd (cc)

-- strips of no bytes make none
some-strips : (n m stripe : ℕ) → 1 ≤ n * ((m / stripe) * stripe) → 1 ≤ stripe
some-strips n m zero some = search (rules, m / 0)
some-strips n m (suc k) some = omega arith

-- as many are found as are named, or fewer
few-found : {X Y : Type 0} (f : X → Option Y) (xs : List X) → length (filter_map f xs) ≤ length xs
few-found f [] = omega arith
few-found {X} {Y} f (x ∷ xs) = search (rules, f x, few-found f xs)

-- one place more, filled by the next number
pub place-more : (first number : ℕ) (items now : List (Option ℕ)) (place : Option ℕ) → first ≤ number
    → items ≡ map (λ c. Some c) (range_with_len first (number - first)) → now ≡ items ++ place ∷ []
    → place ≡ Some number → now ≡ map (λ c. Some c) (range_with_len first (number + 1 - first))
place-more first number items now place past so_far pushed is =
    pushed
    ∙ ap (λ (xs : List (Option ℕ)). xs ++ place ∷ []) so_far
    ∙ ap (λ o. map (λ c. Some c) (range_with_len first (number - first)) ++ o ∷ []) is
    ∙ sym (map-range_with_len_more (λ c. Some c) first (number - first) number (omega (arith, past)))
    ∙ ap (λ n. map (λ c. Some c) (range_with_len first n)) (omega (arith, past))

-- What tells a concat from a stripe

-- neither is of DEV or TASTE
pub assembly-ungranted : (a : Assembly) → is_granted_kind (assembly_kind a) ≡ false
assembly-ungranted assemblies.Concat = refl
assembly-ungranted (assemblies.Stripe stripe) = refl

-- nor stands for a disk
pub assembly-diskless : (a : Assembly) (places : List (Option ℕ)) (sizes : List ℕ)
    → disk_of (assembly_config a places sizes) ≡ None
assembly-diskless assemblies.Concat places sizes = refl
assembly-diskless (assemblies.Stripe stripe) places sizes = refl

-- the size is that of the configuration, wherever the components are
assembly-joined : (a : Assembly) (places : List (Option ℕ)) (sizes : List ℕ)
    → joined_size (assembly_config a places sizes) ≡ assembly_size a sizes
assembly-joined assemblies.Concat places sizes = refl
assembly-joined (assemblies.Stripe stripe) places sizes = refl

-- strips of a size that a provider may have
pub assembly-striped : (a : Assembly) (stripe : ℕ) (sizes : List ℕ) → a ≡ assemblies.Stripe stripe
    → 1 ≤ assembly_size a sizes → assembly_size a sizes ≤ MAX_MEDIA_BYTES → IsStriped stripe sizes
assembly-striped a stripe sizes is some limited =
    let bytes : 1 ≤ assembly_size (assemblies.Stripe stripe) sizes = subst (λ x. 1 ≤ assembly_size x sizes) is some in
    record {
      some_byte =
          let strip = some-strips (length sizes) (smallest sizes) stripe bytes in omega (arith, strip);
      fits = subst (λ x. assembly_size x sizes ≤ MAX_MEDIA_BYTES) is limited;
    }

-- What was found

-- as many sizes as providers, and as many consumers
pub below-placed : {t : Topology Config} {assembly : Assembly} {below : List Below} {sizes : List ℕ} {offer : Offer}
    → CanAssemble t assembly below sizes offer → {places : List (Option ℕ)} → (first : ℕ)
    → places ≡ map (λ n. Some n) (range_with_len first (length below)) → ArePlaces places sizes
below-placed {below = below} can first places_are =
    let sizes_count = ap (λ (ns : List ℕ). length ns) can.read ∙ length-map below (λ (x : Below). x.size) in
    record {
      alike =
          ap (λ (cs : List (Option ℕ)). length cs) places_are
          ∙ length-map-range_with_len (λ n. Some n) first (length below) ∙ sym sizes_count;
      few = subst (λ n. n ≤ MAX_COMPONENTS) (sym sizes_count) can.few;
    }

-- what is made of these consumers and sizes is made of what was found
pub assembly-built : {A E : Type 0} (r : Result A E) (s new : State) (name : List ℕ) {assembly : Assembly}
    {below : List Below} {sizes over : List ℕ} {offer : Offer} {places : List (Option ℕ)} {kind : Kind}
    {config : Config} → CanAssemble s.topo.topology assembly below sizes offer
    → places ≡ map (λ n. Some n) (range_with_len s.topo.topology.next_consumer (length below))
    → config ≡ assembly_config assembly places sizes → kind ≡ assembly_kind assembly
    → over ≡ map (λ (x : Below). x.prov) below
    → OnOk r (IsBuilt s new (record { kind = kind; name = name; config = config }) over offer)
    → OnOk r (IsBuilt s new (assembly_geom s.topo.topology assembly name below) (map (λ (x : Below). x.prov) below)
    offer)
assembly-built r s new name {assembly} {below} {sizes} {over} {offer} {places} {kind} {config} can places_are config_is
    kind_is over_is made =
    let made_of : config ≡ (assembly_geom s.topo.topology assembly name below).config =
    config_is ∙ (λ i. assembly_config assembly (places_are i) (can.read i)) in
    let geom : NewGeom = record { kind = kind; name = name; config = config } in
    let geom_is : geom ≡ assembly_geom s.topo.topology assembly name below =
    λ i. record { kind = kind_is i; name = name; config = made_of i } in
    subst (λ (ns : List ℕ). OnOk r (IsBuilt s new (assembly_geom s.topo.topology assembly name below) ns offer)) over_is
    (subst (λ (g : NewGeom). OnOk r (IsBuilt s new g over offer)) geom_is made)

-- the providers of the names
module _ {t : Topology Config} {names : List (List ℕ)} {below : List Below} (found : AreAllFound t names below) where
  abbrev ps : List Provider
  ps = found_providers t names

  -- the sizes of the providers
  all-sizes : map (λ (x : Below). x.size) below ≡ whole_sizes ps
  all-sizes = ap (map (λ (x : Below). x.size)) found.is
      ∙ map-map (λ (x : Below). x.size) (below_seen t) ps

  -- their numbers
  all-numbers : map (λ (x : Below). x.prov) below ≡ map (λ (p : Provider). p.number) ps
  all-numbers = ap (map (λ (x : Below). x.prov)) found.is
      ∙ map-map (λ (x : Below). x.prov) (below_seen t) ps

  -- the sector size of the first
  all-sector : sector_below below ≡ sector_of ps
  all-sector = ap sector_below found.is ∙ sector_is t ps

  -- as many
  all-count : length below ≡ length ps
  all-count = ap (λ (xs : List Below). length xs) found.is ∙ length-map ps (below_seen t)

  -- at most 16
  all-few : length below ≤ MAX_COMPONENTS
  all-few =
      let fewer = few-found (λ (name : List ℕ). option_and_then (provider_at t) (find_provider t name)) names in
      let named = found.few in
      let most : length ps ≤ MAX_COMPONENTS = omega (arith, fewer, named) in
      subst (λ n. n ≤ MAX_COMPONENTS) (sym all-count) most

  -- so are their sizes
  pub all-few-sizes : (sizes : List ℕ) → sizes ≡ map (λ (x : Below). x.size) below → length sizes ≤ MAX_COMPONENTS
  all-few-sizes sizes is =
      search (rules, ap (λ (ns : List ℕ). length ns) is, length-map below (λ (x : Below). x.size), all-few)

  -- the geom of an assembly of them
  all-geom : (assembly : Assembly) (name : List ℕ) → assembly_geom t assembly name below
      ≡ record { kind = assembly_kind assembly; name = name; config = config_of_all t assembly ps }
  all-geom assembly name = search (rules, all-count, all-sizes)

  -- the size of one
  all-joined : (assembly : Assembly) (size : Option ℕ)
      → size ≡ allowed_size (assembly_size assembly (map (λ (x : Below). x.size) below))
      → size ≡ allowed_size (joined_size (config_of_all t assembly ps))
  all-joined assembly size is =
      is ∙ ap (λ (ns : List ℕ). allowed_size (assembly_size assembly ns)) all-sizes
      ∙ ap (λ n. allowed_size n) (sym (assembly-joined assembly (new_places t ps) (whole_sizes ps)))

  -- what is against one
  pub all-refusal : (assembly : Assembly) (name : List ℕ) (wanted : ℕ) {full : List ℕ} {size : Option ℕ} {bad : Bool}
      {refusal : Option Errno} → full ≡ assembly_name assembly name
      → bad ≡ has_bad_strips assembly (sector_below below)
      → ((config : Config) (qs : List Provider) → below ≡ map (below_seen t) qs
      → size ≡ allowed_size (joined_size config) → refusal ≡ first_error (joined_tests t full config wanted qs bad))
      → size ≡ allowed_size (assembly_size assembly (map (λ (x : Below). x.size) below))
      → refusal ≡ assembly_refusal t assembly name wanted ps
  all-refusal assembly name wanted {full} {size} {bad} full_is bad_is told size_is =
      search (rules, all-joined assembly size size_is, ap (λ n. has_bad_strips assembly n) all-sector, all-sector)

-- What was read of it

-- the size of an assembly of what was found, and what is against it, in the words of the model
pub record IsJudged (t : Topology Config) (assembly : Assembly) (name : List ℕ) (names : List (List ℕ))
    (size : Option ℕ) (refusal : Option Errno) : Type 0 where
  pub size_is : size ≡ allowed_size (joined_size (config_of_all t assembly (found_providers t names)))
  pub refusal_is : refusal ≡ assembly_refusal t assembly name (length names) (found_providers t names)

-- both, from what the body of the command asked
pub judged : {t : Topology Config} (assembly : Assembly) (name : List ℕ) {names : List (List ℕ)} {below : List Below}
    {sizes : List ℕ} {size : Option ℕ} {refusal : Option Errno} → AreAllFound t names below
    → sizes ≡ map (λ (x : Below). x.size) below → size ≡ allowed_size (assembly_size assembly sizes)
    → ((found_names : List (List ℕ)) → AreAllFound t found_names below
    → size ≡ allowed_size (assembly_size assembly (map (λ (x : Below). x.size) below))
    → refusal ≡ assembly_refusal t assembly name (length names) (found_providers t found_names))
    → IsJudged t assembly name names size refusal
judged assembly name {names} {below} {sizes} {size} found sizes_are size_is told =
    let read : size ≡ allowed_size (assembly_size assembly (map (λ (x : Below). x.size) below)) =
    size_is ∙ ap (λ (ns : List ℕ). allowed_size (assembly_size assembly ns)) sizes_are in
    record { size_is = all-joined found assembly size read; refusal_is = told names found read }

-- What stands

module _ (s : State) (firm : IsFirm s) {names : List (List ℕ)} {below : List Below}
    (found : AreAllFound s.topo.topology names below) where
  -- the world, its graph, and the providers of the names
  abbrev w : World
  w = world firm.1.0 firm.0 s

  abbrev t : Topology Config
  t = s.topo.topology

  abbrev qs : List Provider
  qs = found_providers t names

  -- the sector size of the first is one
  pub all-sector-fits : IsSectorSize (sector_below below)
  all-sector-fits = subst IsSectorSize (sym (all-sector found)) (by qs (named-found w names))
    where
      by : (ys : List Provider) → AllByRecursion (λ (p : Provider). provider_at t p.number ≡ Some p) ys
          → IsSectorSize (sector_of ys)
      by [] found_so = inl refl
      by (y ∷ ys) found_so =
          All-contains (λ (x : Provider). IsSectorSize x.sector) t.providers y firm.1.1.sizes.sectors
          (find-Contains (λ (x : Provider). x.number == y.number) t.providers y found_so.0)

  -- the world stays firm
  stays-firm : (assembly : Assembly) (name : List ℕ) → 1 ≤ assembly_size assembly (whole_sizes qs)
      → Firm (do_assembly w 0 assembly name (length names) qs).0
  stays-firm assemblies.Concat name some = concats_stay.concat w 0 name names found.few firm.1.1
  stays-firm (assemblies.Stripe stripe) name some =
      stripes_stay.stripe w 0 name stripe names
      (some-strips (length (whole_sizes qs)) (smallest (whole_sizes qs)) stripe some) found.few firm.1.1

  module _ {assembly : Assembly} {name : List ℕ} {size : Option ℕ} {refusal : Option Errno}
      (judgement : IsJudged t assembly name names size refusal) where
    -- the name of the provider, and the configuration
    abbrev full : List ℕ
    full = assembly_name assembly name

    abbrev config : Config
    config = config_of_all t assembly qs

    -- where it is refused
    pub assembly-refused : (e : Errno) → refusal ≡ Some e → (line : ℕ) (o : Outcome)
        → (actors : List (List LineCommand)) (log : List Entry) → o ≡ outcomes.Replied line (replies.Refused e)
        → do_assembly (world actors log s) line assembly name (length names) qs ≡ (world actors log s, o)
    assembly-refused e told line o actors log is =
        made-refused s s line o actors log (assembly_refusal t assembly name (length names) qs) _ e
        (sym judgement.refusal_is ∙ told) is

    -- where nothing is against it
    module _ (none : refusal ≡ None) where
      -- so the model finds nothing, and it fits
      free : None ≡ assembly_refusal t assembly name (length names) qs
      free = sym none ∙ judgement.refusal_is

      fits : JoinFits w qs full config
      fits = join-fits w qs full config (length names) (has_bad_strips assembly (sector_of qs)) (named-found w names)
          free

      -- its size is that of a provider
      provider-sized : is_provider_size (joined_size config) (sector_of qs) ≡ true
      provider-sized =
          let made : World =
          with_made w (assembly_kind assembly) name config qs full (joined_size config) (sector_of qs) in
          let some : 1 ≤ assembly_size assembly (whole_sizes qs) =
          subst (λ n. 1 ≤ n) (assembly-joined assembly (new_places t qs) (whole_sizes qs)) fits.some in
          made-size w (assembly_kind assembly) name config qs full (joined_size config) (sector_of qs)
          (subst (λ e. Firm (answer w 0 e made).0) (sym free) (stays-firm assembly name some))

      -- there is one
      pub size-there : size ≡ None → ⊥
      size-there gone =
          size-told (joined_size config) fits.some fits.limited (sym judgement.size_is ∙ gone)

      module _ {named : List ℕ} {bytes sector : ℕ} (told : size ≡ Some bytes) (named_so : named ≡ full)
          (sector_so : sector ≡ sector_below below) where
        -- the provider as it is offered
        abbrev offer : Offer
        offer = record { name = named; size = bytes; sector = sector }

        -- it is that of the model
        offer-is : offer ≡ record { name = full; size = joined_size config; sector = sector_of qs }
        offer-is = search (rules, told-size (joined_size config) bytes (sym judgement.size_is ∙ told), all-sector found)

        -- so the assembly can be made
        pub can-assemble : (sizes : List ℕ) → sizes ≡ map (λ (x : Below). x.size) below
            → CanAssemble t assembly below sizes offer
        can-assemble sizes sizes_are =
            let whole : joined_size config ≡ assembly_size assembly sizes =
            assembly-joined assembly (new_places t qs) (whole_sizes qs)
            ∙ ap (λ (ns : List ℕ). assembly_size assembly ns) (sym (sizes_are ∙ all-sizes found)) in
            record {
              read = sizes_are;
              few = all-few found;
              some = subst (λ n. 1 ≤ n) whole fits.some;
              limited = subst (λ n. n ≤ MAX_MEDIA_BYTES) whole fits.limited;
              stands = subst (All (CanStandOn t)) (sym (all-numbers found)) fits.stands;
              sized = subst (λ (x : Offer). is_provider_size x.size x.sector ≡ true) (sym offer-is) provider-sized;
              free = subst (λ (x : Offer). is_name_taken t x.name ≡ false) (sym offer-is) fits.free;
            }

        -- and where it is, the command is done
        pub assembly-done : (new : State)
            → IsBuilt s new (assembly_geom t assembly name below) (map (λ (x : Below). x.prov) below) offer
            → (line : ℕ) (o : Outcome) (actors : List (List LineCommand)) (log : List Entry)
            → o ≡ outcomes.Replied line replies.Ok
            → do_assembly (world actors log s) line assembly name (length names) qs ≡ (world actors log new, o)
        assembly-done new made line o actors log is =
            made-done s new line o actors log (all-geom found assembly name) offer-is qs (all-numbers found)
            (made actors log) is (assembly_refusal t assembly name (length names) qs) (sym free)
