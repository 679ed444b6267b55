-- What a firm state tells of the taste that is under way.
use Rattle.std.specs.Prelude.{◌≡◌, ℕ, ◌<◌, ◌≤◌, ◌==◌, true, false, List, [], ◌∷◌, length, Option, Some, None, Contains, IsTrue, IsSome, IsSomeAnd, IfSome}
use Rattle.std.specs.List.{AllByRecursion, list_any}
use Rattle.std.specs.Option.{option_map_or, option_and_then}
use Rattle.std.proofs.Common.{refl, sym, ◌∙◌, ap, subst, arith, inl, inr, rules}
use Rattle.std.proofs.lemmas.Bool.{eqb-true, false_from_ne_true}
use Rattle.std.proofs.lemmas.List.Elements.{recursion_from_All}
use Rattle.geo_base.specs.Sectors.{IsSectorSize}
use Rattle.geo_base.specs.declared.request.Counts.{Counts}
use Rattle.geo_base.specs.declared.limits.TheConstants.{UNTASTED_RANK}
use Rattle.geo_model.specs.declared.step.BioResult.TheVariants as results
use Rattle.geo_model.specs.Words.{names_number}
use Rattle.geo_model.specs.Topology.{Topology, Geom, Provider, Consumer, consumer_at, geom_at, provider_at}
use Rattle.geo_model.specs.Demand.{no_counts, want}
use Rattle.geo_model.specs.Rank.{rank}
use Rattle.geo_model.specs.World.{World, Config, Bio, BioOf, Handle, Taste, NextSector, granted_in, is_read_out, is_taste_root}
use Rattle.geo_model.specs.Sound.{IsMediaSize, IsTasteInOrder, IsTasting}
use Rattle.geo_model.specs.SoundBios.{IsBioInOrder}
use Rattle.geo_model.specs.Fitting.{IsAskedInOrder}
use Rattle.geo_model.proofs.DemandLemmas.{find_passes, names_some}
use Rattle.geo_slots.specs.Slots.{value_at}
use Rattle.geo_bio.specs.declared.bio.Held.{Held}
use Rattle.geo_log.specs.Places.{delivered_at}
use Rattle.geo_state.specs.Shown.{shown_bio, shown_bios}
use Rattle.geo_mesh.specs.Graph.{IsSoundGraph}
use Rattle.geo_laws_graph.proofs.Lists.{found_itself}
use Rattle.geo_laws_graph.proofs.Members.{find-Contains, Contains-here}
use Rattle.geo_laws_graph.proofs.Numbered.{find-none}
use Rattle.geo_laws_counts.specs.CountWords.{HoldsGrants}
use Rattle.geo_laws_counts.proofs.LimitFacts.{of_filter}
use Rattle.geo_laws_counts.proofs.Openers.{wants_grant}
use Rattle.geo_taste.proofs.HandedOn.{has_sector}
use Rattle.geo_access.specs.Access.{granted_by}
use Rattle.geo_access.proofs.Decided.{item_at}
use Rattle.geo_class.specs.Taste.{sector_back}
use Rattle.geo_handles.specs.Handles.{handle_at, holding_handle}
use Rattle.geo_taste.specs.Taster.{held_by_taste, IsTasteOf}
use Rattle.geo_taste.proofs.Coming.{taste_holds}
use Rattle.geo_taste.proofs.Reading.{taster_found}
use Rattle.geo_state.specs.declared.state.State.{State}
use Rattle.geo_state.specs.Steps.{Stands}
use Rattle.geo_state.specs.Trips.{Trip, trips, is_out as goes_through}
use Rattle.geo_state.specs.World.{world}
use Rattle.geo_state.proofs.HolderFacts.{IsHeld, held}
use Rattle.geo_state.proofs.Lists.{count-none}
use Rattle.geo_state.proofs.Rises.{active-at}
use Rattle.geo_moves.proofs.Deciding.{read-is}
use Rattle.geo_moves.proofs.EventStepping.{IsReadable}

-- a sector has 512 bytes or more
long-sector : (size : ℕ) → IsSectorSize size → 512 ≤ size
long-sector size (inl small) = omega (arith, small)
long-sector size (inr large) = omega (arith, large)

module _ (s : State) (stands : Stands s) (a : Taste) (is : s.taste ≡ Some a) where
  abbrev t : Topology Config
  t = s.topo.topology

  -- the world for which the state stands
  abbrev w : World
  w = world stands.firm.1.0 stands.firm.0 s

  -- it has its consumer, and is in order
  pub tasting-of : IsTasting t a
  tasting-of = search rules

  -- it is in order
  pub ordered : IsTasteInOrder w.topology a
  ordered = subst (λ (o : Option Taste). IfSome o (IsTasteInOrder w.topology)) is stands.firm.1.1.taste.order

  -- the tasted provider is there, and its geom is low
  record HasLow : Type 0 where
    item : Provider
    found : provider_at t a.provider ≡ Some item
    low : rank t item.geom < UNTASTED_RANK

  -- so it is
  low-of : HasLow
  low-of = on (provider_at t a.provider) refl ordered.rank
    where
      geom : (p : Provider) (o : Option (Geom Config)) → geom_at t p.geom ≡ o
          → IsSomeAnd o (λ g. rank t g.number < UNTASTED_RANK) → rank t p.geom < UNTASTED_RANK
      geom p None e never = absurd never
      geom p (Some g) e low =
          search (rules, eqb-true g.number p.geom (find_passes (λ (x : Geom Config). x.number == p.geom) t.geoms g e))

      on : (o : Option Provider) → provider_at t a.provider ≡ o
          → IsSomeAnd (option_and_then (λ (p : Provider). geom_at t p.geom) o) (λ g. rank t g.number < UNTASTED_RANK)
          → HasLow
      on None e never = absurd never
      on (Some p) e low = record { item = p; found = e; low = geom p (geom_at t p.geom) refl low }

  -- a fact of the tasted provider
  at-tasted : (P : Provider → Type 0) → P low-of.item → IfSome (provider_at t a.provider) P
  at-tasted P fact = subst (λ o. IfSome o P) (sym low-of.found) fact

  -- its geom has a rank at which it is tasted
  pub rank-low : IfSome (provider_at t a.provider) (λ p. rank t p.geom < UNTASTED_RANK)
  rank-low = at-tasted (λ p. rank t p.geom < UNTASTED_RANK) low-of.low

  -- how far a class was asked of it
  asked-well : IsAskedInOrder t low-of.item a.asked
  asked-well = search rules

  -- it has sectors
  sizes-of : IsSectorSize low-of.item.sector × IsMediaSize low-of.item.size low-of.item.sector
  sizes-of =
      search (rules, find-Contains (λ (p : Provider). p.number == a.provider) t.providers low-of.item low-of.found)

  -- the sector that is back has 512 bytes or more
  pub sector-long : IfSome (sector_back a.asked) (λ x. 512 ≤ length x.1)
  sector-long = search (rules, long-sector low-of.item.sector sizes-of.0)

  -- what is read of it lies inside it
  pub readable-of : IfSome (provider_at t a.provider) (IsReadable a)
  readable-of =
      at-tasted (IsReadable a) (record {
        some = has_sector low-of.item.size low-of.item.sector sizes-of.0 sizes-of.1;
        next = λ kind sector asks.
            let asked : IsAskedInOrder t low-of.item (NextSector kind sector) =
            subst (IsAskedInOrder t low-of.item) asks asked-well in
            asked.1;
      })

  module _ (sound : IsSoundGraph t) where
    -- the consumer
    pub taster-at : consumer_at t a.consumer ≡ Some tasting-of.consumer
    taster-at = taster_found t sound a tasting-of

    -- it is one of TASTE
    of-taste : tasting-of.consumer.geom ≡ 2
    of-taste =
        eqb-true tasting-of.consumer.geom 2
        (of_filter (λ (x : Consumer). x.geom == 2) t.consumers tasting-of.consumer
        (subst (λ xs. Contains xs tasting-of.consumer) (sym tasting-of.alone) (Contains-here tasting-of.consumer []))).1

    -- so no handle has it
    pub nobodys : holding_handle s.handles.handles a.consumer ≡ None
    nobodys = on (holding_handle s.handles.handles a.consumer) refl
      where
        on : (o : Option Handle) → holding_handle s.handles.handles a.consumer ≡ o → o ≡ None
        on None e = refl
        on (Some h) e =
            let has : h.consumer ≡ Some a.consumer =
            names_some h.consumer a.consumer
            (find_passes (λ (x : Handle). names_number x.consumer a.consumer) s.handles.handles h e) in
            let at : handle_at s.handles.handles h.number ≡ Some h =
            found_itself (λ (x : Handle). x.number) s.handles.next s.handles.handles h stands.kept.numbers
            (find-Contains (λ (x : Handle). names_number x.consumer a.consumer) s.handles.handles h e) in
            let of_dev : IsHeld s a.consumer = held stands.firm.0 s stands.firm.1 h.number a.consumer h at has in
            let same : Some tasting-of.consumer ≡ Some of_dev.consumer = sym taster-at ∙ of_dev.found in
            let geom : tasting-of.consumer.geom ≡ of_dev.consumer.geom = cc in
            let bad : 2 ≡ 1 = sym of-taste ∙ geom ∙ of_dev.dev in
            absurd (omega (arith, bad))

    -- what the taste holds is granted to it, and stored
    granted-it : granted_by s.topo a.consumer ≡ held_by_taste a
    granted-it = search (rules, ap (λ (g : ℕ → Counts). g a.consumer) stands.kept.grants, nobodys)

    -- so its consumer wants that
    wants-it : want (granted_by s.topo) t tasting-of.consumer ≡ held_by_taste a
    wants-it =
        wants_grant (granted_by s.topo) t tasting-of.consumer
        (subst (HoldsGrants t) (sym of-taste) (taste_holds t sound))
        ∙ ap (granted_by s.topo) tasting-of.number
        ∙ granted-it

    -- so the consumer is the taste's
    pub is-taste : IsTasteOf s.topo a
    is-taste =
        search (
          rules,
          item_at (λ (x : Consumer). x.number) (want (granted_by s.topo) t) a.consumer t.consumers tasting-of.consumer
              taster-at,
          wants-it,
        )

    -- No read of it is out

    module _ (idle : is_read_out a.asked ≡ false) where
      -- it is granted nothing
      wants-nothing : want (granted_in w) t tasting-of.consumer ≡ no_counts
      wants-nothing = search (rules, wants-it)

      -- so no request comes from it
      no-request : (x : Bio) → IsBioInOrder (granted_in w) w.topology x → x.source ≡ a.consumer → ⊥
      no-request x order same =
          search (
            rules,
            taster-at,
            ap (λ (c : Counts). c.r) wants-nothing,
            wants-nothing,
            ap (λ (c : Counts). c.w) wants-nothing,
          )

      -- nor any of those that the state has
      none-through : (bios : List (BioOf Held))
          → AllByRecursion (IsBioInOrder (granted_in w) w.topology) (shown_bios (delivered_at stands.firm.0) bios)
          → AllByRecursion (λ (x : Trip). goes_through a.consumer x ≡ false) (trips bios)
      none-through [] order = tt
      none-through (x ∷ xs) order =
          search (rules, none-through xs order.1, no-request (shown_bio (delivered_at stands.firm.0) x) order.0)

      -- nothing is out through it
      pub none-out : value_at s.topo.active a.consumer ≡ Some 0
      none-out =
          active-at s.topo (trips s.traffic.bios) a.consumer stands.kept.active
          (subst (λ o. IsSome o) (sym taster-at) refl)
          ∙ ap (λ n. Some n)
          (count-none (goes_through a.consumer) (trips s.traffic.bios)
          (none-through s.traffic.bios
          (recursion_from_All (IsBioInOrder (granted_in w) w.topology) w.bios stands.firm.1.1.bios.order)))

  -- none of its own is out
  pub read-none : is_read_out a.asked ≡ false → s.read ≡ None
  read-none idle =
      search (
        rules,
        read-is stands.firm.0 s.traffic.bios,
        find-none (λ (x : Bio). is_taste_root x.owner) w.bios
            (false_from_ne_true (list_any (λ (x : Bio). is_taste_root x.owner) w.bios)
            (λ some. let out : is_read_out a.asked ≡ true = subst
            (λ (o : Option Taste). IsTrue (option_map_or (λ x. is_read_out x.asked) o false)) is
            (stands.firm.1.1.bios.read_out.0 some) in let no : true ≡ false = sym out ∙ idle in absurd cc)),
      )
