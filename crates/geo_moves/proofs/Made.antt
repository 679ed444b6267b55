-- Commands that make a geom: what nothing refuses, and what they answer.
use Rattle.std.specs.Prelude.{◌≡◌, ℕ, ◌+◌, ◌≤◌, ◌<◌, ◌==◌, ◌%◌, nat_lt, Bool, true, false, not, ◌||◌, List, [], ◌∷◌, ◌++◌, map, Option, Some, None, All, Contains, option_and_then, Result, Ok, Err, MatchResult}
use Rattle.std.specs.List.{AllByRecursion, list_any, list_all}
use Rattle.std.proofs.Common.{sym, ◌∙◌, ap, subst, rules}
use Rattle.std.proofs.lemmas.Bool.{or_parts, and_parts, not-false, ltb-false, leb-true}
use Rattle.std.proofs.lemmas.List.Elements.{All-contains, All-from_recursion, Contains-append_right}
use Rattle.geo_base.specs.Name.{is_name, name_of}
use Rattle.geo_base.specs.Sectors.{IsSectorSize}
use Rattle.geo_base.specs.declared.errno.Errno.{Errno}
use Rattle.geo_base.specs.declared.errno.Errno.TheVariants.{ENOENT}
use Rattle.geo_base.specs.declared.kind.Kind.{Kind}
use Rattle.geo_base.specs.declared.kind.Kind.TheVariants as kinds
use Rattle.geo_base.specs.declared.limits.TheConstants.{MAX_MEDIA_BYTES, MAX_RANK}
use Rattle.geo_model.specs.declared.command.LineCommand.{LineCommand}
use Rattle.geo_model.specs.declared.step.Entry.{Entry}
use Rattle.geo_model.specs.declared.step.Outcome.{Outcome}
use Rattle.geo_model.specs.declared.step.Outcome.TheVariants as outcomes
use Rattle.geo_model.specs.declared.step.Reply.TheVariants as replies
use Rattle.geo_model.specs.Words.{first_error, largest}
use Rattle.geo_model.specs.Topology.{Topology, Provider, provider_at, find_provider, is_name_taken}
use Rattle.geo_model.specs.Rank.{rank}
use Rattle.geo_model.specs.Acceptance.{joined_size, is_size}
use Rattle.geo_model.specs.GeomCommands.{do_insert, do_nop, found_providers, header_disk, insert_tests, is_invalid_joined, joined_tests, nop_config, nop_tests, rank_over, sector_of, stand, with_geom_at, with_made, found_provider}
use Rattle.geo_model.specs.HandleCommands.{answer}
use Rattle.geo_model.specs.Fitting.{Firm}
use Rattle.geo_model.specs.Sound.{IsMediaSize}
use Rattle.geo_model.specs.World.{World, Config, HeaderDisk}
use Rattle.geo_model.specs.WorldEvents.{with_queued}
use Rattle.geo_mesh.specs.Topo.{is_provider_size}
use Rattle.geo_laws_graph.specs.LookupLaws.{new_provider}
use Rattle.geo_laws_graph.proofs.Members.{All-from_contained, Contains-here, filter_map-Contains, find-Contains}
use Rattle.geo_laws_making.proofs.Made.{through}
use Rattle.geo_laws_making.proofs.Nopped.{found_by_number, nopped-firm}
use Rattle.geo_moves.specs.Offer.{Offer}
use Rattle.geo_moves.specs.NewGeom.{NewGeom}
use Rattle.geo_moves.specs.Making.{both, queued}
use Rattle.geo_moves.specs.Standing.{CanStandOn}
use Rattle.geo_moves.proofs.ModelLemmas.{makes_as_model}
use Rattle.geo_state.specs.declared.state.State.{State}
use Rattle.geo_state.specs.World.{world}
use Rattle.geo_moves.specs.Makes.{built, IsBuilt}
use Rattle.geo_moves.proofs.Grown.{media_size}
use Rattle.geo_moves.proofs.Finding.{none_against, told-so, with_outcome}
use Rattle.geo_base.proofs.Options.{some-with}
use Rattle.std.specs.Result.{result_ok}
use Rattle.std.specs.Option.{option_map}
use Rattle.geo_model.specs.Names.{nop_name}
use Rattle.geo_state.specs.Steps.{IsFirm}
use Rattle.geo_moves.specs.declared.below.Below.{Below}
use Rattle.geo_moves.specs.Below.{below_seen, provider_named}

-- The answers of commands that make a geom, from what their bodies know

-- Sizes

-- the provider of a geom that leaves a world firm has the sizes of one
pub made-size : (w : World) (kind : Kind) (geom_name : List ℕ) (config : Config) (ps : List Provider) (name : List ℕ)
    (size sector : ℕ) → Firm (with_made w kind geom_name config ps name size sector)
    → is_provider_size size sector ≡ true
made-size w kind geom_name config ps name size sector firm =
    let t : Topology Config = with_geom_at w.topology kind geom_name config ps in
    let y : Provider = new_provider t w.topology.next_geom name size sector in
    let there : Contains (t.providers ++ y ∷ []) y =
    Contains-append_right t.providers (y ∷ []) y (Contains-here y []) in
    media_size size sector
    (All-contains (λ (x : Provider). IsSectorSize x.sector) (t.providers ++ y ∷ []) y firm.sizes.sectors there)
    (All-contains (λ (x : Provider). IsMediaSize x.size x.sector) (t.providers ++ y ∷ []) y firm.graph.providers.sizes
    there)

-- What new consumers can be attached to

-- providers that are there, carry no error and are of geoms that are low enough
pub can-stand : (t : Topology Config) (ps : List Provider)
    → AllByRecursion (λ (p : Provider). provider_at t p.number ≡ Some p) ps
    → list_any (λ (p : Provider). p.errored) ps ≡ false
    → largest (map (λ (p : Provider). rank t p.geom) ps) < MAX_RANK
    → AllByRecursion (CanStandOn t) (map (λ (p : Provider). p.number) ps)
can-stand t [] found none low = tt
can-stand t (p ∷ ps) found none low =
    search (
      rules,
      or_parts p.errored (list_any (λ (x : Provider). x.errored) ps) none,
      some-with (provider_at t p.number) (λ x. (x.errored ≡ false) × (rank t x.geom < MAX_RANK)) p found.0,
      can-stand t ps found.1,
    )

-- a rank over some providers that isn't above the limit
pub low-below : (t : Topology Config) (ps : List Provider) → nat_lt MAX_RANK (rank_over t ps) ≡ false
    → largest (map (λ (p : Provider). rank t p.geom) ps) < MAX_RANK
low-below t ps low = search (rules, ltb-false MAX_RANK (rank_over t ps) low)

-- providers that were found by names are found by their numbers
pub named-found : (w : World) (names : List (List ℕ))
    → AllByRecursion (λ (p : Provider). provider_at w.topology p.number ≡ Some p) (found_providers w.topology names)
named-found w names =
    All-from_contained (λ (p : Provider). provider_at w.topology p.number ≡ Some p) (found_providers w.topology names)
    (λ p here.
    let o = filter_map-Contains (λ name. option_and_then (provider_at w.topology)
    (find_provider w.topology name)) names p here in
    let n = through (provider_at w.topology) (find_provider w.topology o.item) p o.fact in
    found_by_number w n.first p n.then)

-- Answers

module _ (s new : State) (line : ℕ) (o : Outcome) (actors : List (List LineCommand)) (log : List Entry) where
  abbrev w : World
  w = world actors log s

  -- where a refusal is told
  pub made-refused : (refusal : Option Errno) (after : World) (e : Errno) → refusal ≡ Some e
      → o ≡ outcomes.Replied line (replies.Refused e) → answer w line refusal after ≡ (w, o)
  made-refused refusal after e told is =
      ap (λ r. answer w line r after) told ∙ ap (with_outcome w) (sym is)

  -- where a geom is made as it is meant, with the provider that is meant
  pub made-done : {geom meant : NewGeom} {below : List ℕ} {x y : Offer} → geom ≡ meant → x ≡ y → (ps : List Provider)
      → below ≡ map (λ (p : Provider). p.number) ps
      → world actors log new ≡ with_queued w (queued (built s geom below x))
      → o ≡ outcomes.Replied line replies.Ok → (refusal : Option Errno) → refusal ≡ None
      → answer w line refusal (with_made w meant.kind meant.name meant.config ps y.name y.size y.sector)
      ≡ (world actors log new, o)
  made-done {geom} {meant} {below} {x} {y} geom_is offer_is ps over made is refusal none =
      ap (λ r. answer w line r (with_made w meant.kind meant.name meant.config ps y.name y.size y.sector)) none
      ∙ told-so
      (made ∙ (λ i. with_queued w (queued (built s (geom_is i) (over i) (offer_is i))))
      ∙ ap (with_queued w) (makes_as_model.build (both s.topo s.queue) meant.kind meant.name meant.config ps y.name
      y.size y.sector)) is

  -- Inserts

  pub insert-unknown : (name : List ℕ) → header_disk w name ≡ None → o ≡ outcomes.Replied line (replies.Refused ENOENT)
      → do_insert w line (header_disk w name) ≡ (w, o)
  insert-unknown name none is = ap (do_insert w line) none ∙ ap (with_outcome w) (sym is)

  module _ (name : List ℕ) (item : ℕ × HeaderDisk) (found : header_disk w name ≡ Some item) where
    pub insert-refused : (e : Errno) → first_error (insert_tests w.topology item) ≡ Some e
        → o ≡ outcomes.Replied line (replies.Refused e) → do_insert w line (header_disk w name) ≡ (w, o)
    insert-refused e told is =
        ap (do_insert w line) found
        ∙ made-refused (first_error (insert_tests w.topology item)) (stand w item) e told is

    pub insert-done : first_error (insert_tests w.topology item) ≡ None → world actors log new ≡ stand w item
        → o ≡ outcomes.Replied line replies.Ok → do_insert w line (header_disk w name) ≡ (world actors log new, o)
    insert-done none made is =
        search (rules, ap (do_insert w line) found, ap (λ r. answer w line r (stand w item)) none, told-so made is)

  -- Nops

  module _ (name : List ℕ) (offset size fail : ℕ) where
    module _ (q : Option Provider) (p : Provider) (found : q ≡ Some p) where
      pub nop-done : (geom : NewGeom) (below : List ℕ) (x : Offer)
          → geom ≡ record { kind = kinds.Nop; name = name; config = nop_config w.topology offset fail }
          → x ≡ record { name = name; size = size; sector = p.sector }
          → below ≡ map (λ (y : Provider). y.number) (p ∷ [])
          → world actors log new ≡ with_queued w (queued (built s geom below x))
          → o ≡ outcomes.Replied line replies.Ok → None ≡ first_error (nop_tests w.topology name offset size p)
          → do_nop w line name offset size fail q ≡ (world actors log new, o)
      nop-done geom below x geom_is offer_is over made is none =
          ap (do_nop w line name offset size fail) found
          ∙ made-done geom_is offer_is (p ∷ []) over made is (first_error (nop_tests w.topology name offset size p))
          (sym none)

-- What a nop asks, where nothing refuses it

pub record NopFits (w : World) (p : Provider) (name : List ℕ) (size : ℕ) : Type 0 where
  pub stands : All (CanStandOn w.topology) (p.number ∷ [])
  pub sized : is_provider_size size p.sector ≡ true
  pub free : is_name_taken w.topology name ≡ false
  pub named : is_name name ≡ true

pub nop-fits : (w : World) → Firm w → (p : Provider) (name : List ℕ) (offset size fail : ℕ)
    → provider_at w.topology p.number ≡ Some p → None ≡ first_error (nop_tests w.topology name offset size p)
    → NopFits w p name size
nop-fits w firm p name offset size fail found none =
    let fails = none_against (nop_tests w.topology name offset size p) (sym none) in
    let f = or_parts (size == 0) (not (offset % p.sector == 0) || (not (size % p.sector == 0)
    || (nat_lt p.size (offset + size) || not (is_name name)))) fails.1.1.0 in
    let g = or_parts (not (offset % p.sector == 0)) (not (size % p.sector == 0)
    || (nat_lt p.size (offset + size) || not (is_name name))) f.1 in
    let h = or_parts (not (size % p.sector == 0)) (nat_lt p.size (offset + size) || not (is_name name)) g.1 in
    let i = or_parts (nat_lt p.size (offset + size)) (not (is_name name)) h.1 in
    let sound : list_any (λ (x : Provider). x.errored) (p ∷ []) ≡ false = ap (λ c. c || false) fails.0 in
    record {
      stands = All-from_recursion (CanStandOn w.topology) (p.number ∷ [])
          (can-stand w.topology (p ∷ []) (found, tt) sound (low-below w.topology (p ∷ []) fails.1.1.1.0));
      sized =
          made-size w kinds.Nop name (nop_config w.topology offset fail) (p ∷ []) name size p.sector
          (nopped-firm w firm p name offset size fail found fails.1.0 fails.1.1.0 fails.1.1.1.0);
      free = fails.1.0;
      named = not-false (is_name name) i.1;
    }

-- What a concat or a stripe asks, where nothing refuses it

pub record JoinFits (w : World) (ps : List Provider) (full : List ℕ) (config : Config) : Type 0 where
  pub stands : All (CanStandOn w.topology) (map (λ (p : Provider). p.number) ps)
  pub free : is_name_taken w.topology full ≡ false
  pub some : 1 ≤ joined_size config
  pub limited : joined_size config ≤ MAX_MEDIA_BYTES

pub join-fits : (w : World) (ps : List Provider) (full : List ℕ) (config : Config) (wanted : ℕ) (bad : Bool)
    → AllByRecursion (λ (p : Provider). provider_at w.topology p.number ≡ Some p) ps
    → None ≡ first_error (joined_tests w.topology full config wanted ps bad) → JoinFits w ps full config
join-fits w ps full config wanted bad found none =
    let fails = none_against (joined_tests w.topology full config wanted ps bad) (sym none) in
    let f = or_parts bad (is_invalid_joined config ps) fails.1.1.1.0 in
    let g = or_parts (not (list_all (λ (p : Provider). p.sector == sector_of ps) ps))
    (not (is_size (joined_size config))) f.1 in
    let h = and_parts _ _ (not-false (is_size (joined_size config)) g.1) in
    record {
      stands = All-from_recursion (CanStandOn w.topology) (map (λ (p : Provider). p.number) ps)
          (can-stand w.topology ps found fails.1.1.0 (low-below w.topology ps fails.1.1.1.1.0));
      free = fails.0;
      some = leb-true 1 (joined_size config) h.0;
      limited = leb-true (joined_size config) MAX_MEDIA_BYTES h.1;
    }

-- The provider below a nop: what was found of it

-- Names

-- a name that is made of some bytes, where it is one
name-told : {E : Type 0} (bytes : List ℕ) (r : Result (List ℕ) E)
    → MatchResult r (λ name. name_of bytes ≡ Some name) (λ e. name_of bytes ≡ None) → (o : Option (List ℕ))
    → o ≡ result_ok r → o ≡ name_of bytes
name-told bytes (Ok name) told o is = is ∙ sym told
name-told bytes (Err e) told o is = is ∙ sym told

-- is the bytes
name-is : (bytes name : List ℕ) → name_of bytes ≡ Some name → name ≡ bytes
name-is bytes name told = search (rules, Some bytes, Some name)

-- there is one where they are a name
name-there : (bytes : List ℕ) → is_name bytes ≡ true → name_of bytes ≡ None → ⊥
name-there bytes named none = let never : Some bytes ≡ None = rw named at none in absurd (cc)

-- The provider below

-- a provider that was found by its name
pub record IsBelow (t : Topology Config) (prov : List ℕ) (below : Below) : Type 0 where
  pub p : Provider
  pub named : provider_named t prov ≡ Some p
  pub is : below ≡ below_seen t p

pub below-of : (t : Topology Config) (prov : List ℕ) {below : Below}
    → Some below ≡ option_map (below_seen t) (provider_named t prov) → IsBelow t prov below
below-of t prov {below} told = search rules

-- that provider, and the name of the nop's own, where that is one
pub record IsNopFound (t : Topology Config) (prov : List ℕ) (below : Below) (name : Option (List ℕ)) : Type 0 where
  pub at : IsBelow t prov below
  pub told : name ≡ name_of (nop_name prov)

-- both, from what the body of the command asked
pub nop-found : (t : Topology Config) (prov : List ℕ) {below : Below} {name : Option (List ℕ)} {E : Type 0}
    → Some below ≡ option_map (below_seen t) (provider_named t prov) → (r : Result (List ℕ) E)
    → MatchResult r (λ bytes. name_of (nop_name prov) ≡ Some bytes) (λ e. name_of (nop_name prov) ≡ None)
    → name ≡ result_ok r → IsNopFound t prov below name
nop-found t prov {below} {name} found r told is =
    record { at = below-of t prov found; told = name-told (nop_name prov) r told name is }

module _ (s : State) (firm : IsFirm s) {prov : List ℕ} {below : Below} (at : IsBelow s.topo.topology prov below) where
  -- it is found by its number
  pub below-number : provider_at s.topo.topology at.p.number ≡ Some at.p
  below-number =
      let w : World = world firm.1.0 firm.0 s in
      let n = through (provider_at s.topo.topology) (find_provider s.topo.topology prov) at.p at.named in
      found_by_number w n.first at.p n.then

  -- its sector size is one
  pub below-sectors : IsSectorSize below.sector
  below-sectors =
      subst (λ (x : Below). IsSectorSize x.sector) (sym at.is)
      (All-contains (λ (x : Provider). IsSectorSize x.sector) s.topo.topology.providers at.p firm.1.1.sizes.sectors
      (find-Contains (λ (x : Provider). x.number == at.p.number) s.topo.topology.providers at.p below-number))

-- where nothing is against it
module _ (s : State) (firm : IsFirm s) {prov : List ℕ} {below : Below} {name : Option (List ℕ)}
    (found : IsNopFound s.topo.topology prov below name) (offset size : ℕ) {refusal : Option Errno}
    (judged : (p : Provider) (bytes : List ℕ) → below ≡ below_seen s.topo.topology p → name ≡ name_of bytes
    → refusal ≡ first_error (nop_tests s.topo.topology bytes offset size p)) (none : refusal ≡ None) where
  -- the provider below
  abbrev provider : Provider
  provider = found.at.p

  -- the model finds nothing against it, so it fits
  unrefused : None ≡ first_error (nop_tests s.topo.topology (nop_name prov) offset size provider)
  unrefused = sym none ∙ judged provider (nop_name prov) found.at.is found.told

  can : NopFits (world firm.1.0 firm.0 s) provider (nop_name prov) size
  can =
      nop-fits (world firm.1.0 firm.0 s) firm.1.1 provider (nop_name prov) offset size 0
      (below-number s firm found.at) unrefused

  -- its provider's name is one
  pub nop-named : name ≡ None → ⊥
  nop-named gone = name-there (nop_name prov) can.named (sym found.told ∙ gone)

  -- it can stand on what is below
  pub nop-stands : All (CanStandOn s.topo.topology) (below.prov ∷ [])
  nop-stands =
      subst (λ n. All (CanStandOn s.topo.topology) (n ∷ [])) (sym (ap (λ (x : Below). x.prov) found.at.is)) can.stands

  -- its size is that of a provider
  pub nop-sized : is_provider_size size below.sector ≡ true
  nop-sized =
      subst (λ n. is_provider_size size n ≡ true) (sym (ap (λ (x : Below). x.sector) found.at.is)) can.sized

  module _ {bytes : List ℕ} (is : name ≡ Some bytes) where
    -- its provider has the model's name
    named_so : bytes ≡ nop_name prov
    named_so = name-is (nop_name prov) bytes (sym found.told ∙ is)

    -- its name is free
    pub nop-free : is_name_taken s.topo.topology bytes ≡ false
    nop-free = subst (λ n. is_name_taken s.topo.topology n ≡ false) (sym named_so) can.free

    -- and so it is made
    pub nop-made : (new : State) {config : Config} (fail : ℕ) → config ≡ nop_config s.topo.topology offset fail
        → IsBuilt s new (record { kind = kinds.Nop; name = bytes; config = config }) (below.prov ∷ [])
        (record { name = bytes; size = size; sector = below.sector })
        → (line : ℕ) (o : Outcome) (actors : List (List LineCommand)) (log : List Entry)
        → o ≡ outcomes.Replied line replies.Ok
        → do_nop (world actors log s) line (nop_name prov) offset size fail
        (found_provider (world actors log s) prov) ≡ (world actors log new, o)
    nop-made new {config} fail config_is made line o actors log done =
        nop-done s new line o actors log (nop_name prov) offset size fail
        (found_provider (world actors log s) prov) provider found.at.named
        (record { kind = kinds.Nop; name = bytes; config = config }) (below.prov ∷ [])
        (record { name = bytes; size = size; sector = below.sector })
        (λ i. record { kind = kinds.Nop; name = named_so i; config = config_is i })
        (λ i. record { name = named_so i; size = size; sector = (ap (λ (x : Below). x.sector) found.at.is) i })
        (ap (λ (x : Below). x.prov ∷ []) found.at.is) (made actors log) done unrefused
