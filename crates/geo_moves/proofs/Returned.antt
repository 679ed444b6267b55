-- What an Up does to the state it does to the world: a bio that goes up, and the read of the taste.
use Rattle.std.specs.Prelude.{◌≡◌, ℕ, ◌+◌, ◌==◌, true, false, List, [], ◌∷◌, map, Option, Some, None, Ok, Contains, IsSome, IsSomeAnd, IfSome, IsTrue, ◌≤◌, Bool, ◌&&◌, count_by, All, option_and_then, if◌then◌else◌}
use Rattle.std.specs.List.{AllByRecursion, enumerate_from}
use Rattle.std.specs.Option.{option_map, option_map_or}
use Rattle.std.proofs.Common.{refl, sym, ◌∙◌, ap, subst, arith}
use Rattle.std.proofs.lemmas.Bool.{eq-eqb, eqb-true}
use Rattle.std.proofs.lemmas.List.Elements.{All-contains, All-weaker}
use Rattle.geo_base.proofs.Options.{there_with_fact, some_and_of, if-found}
use Rattle.geo_laws_bios.proofs.Serving.{no_pieces}
use Rattle.geo_model.specs.declared.step.Owner.{Owner}
use Rattle.geo_model.specs.declared.step.Owner.TheVariants as owners
use Rattle.geo_model.specs.Topology.{Topology, Geom, Provider, geom_at, provider_at, consumer_at, Consumer}
use Rattle.geo_model.specs.World.{World, Bio, Config, bio_at, children_of, is_child_of, is_waiting, is_taste_root, granted_in, bio_among, BioOf, is_up, Asked, NoClass, Handle, Taste, is_read_out, taste_grant, granted_of}
use Rattle.geo_model.specs.Place.{disk_of}
use Rattle.geo_model.specs.Bios.{PieceTarget, piece_targets, up, up_to, read_back, taste_with}
use Rattle.geo_model.specs.SoundBios.{IsBioInOrder, IsFamilyInOrder, HasCountFor, ChildShape, shape_of_child, shape_of_piece}
use Rattle.geo_model.specs.Steady.{ComesFromItsOwner}
use Rattle.geo_model.specs.Fitting.{Firm}
use Rattle.geo_laws_graph.proofs.Members.{find-Contains, Contains-filter, at_contained}
use Rattle.geo_laws_graph.proofs.Numbered.{number_found, any-contained}
use Rattle.geo_laws_bios.proofs.Joined.{not_nothing}
use Rattle.geo_handles.specs.Handles.{holding_handle, handle_at}
use Rattle.geo_model.specs.declared.step.Entry.{Entry}
use Rattle.geo_model.specs.declared.step.Outcome.{Outcome}
use Rattle.geo_model.specs.Step.{up_of}
use Rattle.geo_bio.specs.declared.bio.Held.{Held}
use Rattle.geo_bio.specs.declared.bio.Risen.{Risen}
use Rattle.geo_bio.specs.BioTable.{has_phase}
use Rattle.geo_bio.specs.Up.{after_up, told_of_up, resolved}
use Rattle.geo_log.specs.Places.{delivered_at}
use Rattle.geo_state.specs.Shown.{shown_bios, shown_bio, AreLogged}
use Rattle.geo_state.proofs.StepLemmas.{world_shows_bios}
use Rattle.geo_state.proofs.LoggedLemmas.{places_stay_logged}
use Rattle.geo_state.specs.declared.state.State.{State}
use Rattle.geo_state.specs.Bios.{OnlyBios, CameThrough, IsOfItsOwner}
use Rattle.geo_state.specs.World.{world}
use Rattle.geo_state.specs.Steps.{IsFirm, Makes}
use Rattle.geo_moves.specs.Risen.{outcome_of_rise, owner_line}
use Rattle.geo_moves.proofs.Ways.{all_through}
use Rattle.geo_moves.proofs.Against.{there, world_moved, here, in_phase}
use Rattle.geo_base.specs.declared.request.Counts.{Counts}
use Rattle.geo_model.specs.declared.step.BioResult.{BioResult}
use Rattle.geo_model.specs.declared.step.Outcome.TheVariants as outcomes
use Rattle.geo_model.specs.Demand.{no_counts, one_read, want}
use Rattle.geo_model.specs.Opens.{with_grant}
use Rattle.geo_model.specs.Sound.{IsTasting}
use Rattle.geo_laws_counts.specs.CountWords.{HoldsGrants}
use Rattle.geo_laws_counts.proofs.Openers.{wants_grant}
use Rattle.geo_taste.proofs.HandedOn.{tasting, taster, taster_found, taster_holds, none_has}
use Rattle.geo_slots.specs.Slots.{value_at}
use Rattle.geo_mesh.specs.Topo.{TopoView}
use Rattle.geo_access.specs.Access.{consumers_below, granted_by, released_view}
use Rattle.geo_access.proofs.Decided.{item_at}
use Rattle.geo_taste.specs.Taster.{IsSettled, IsTasteOf, held_by_taste, with_granted}
use Rattle.geo_state.specs.Holds.{Holds, owed_events}
use Rattle.geo_state.specs.Trips.{Trip, trip_of, trips}
use Rattle.geo_state.proofs.GrantLaws.{grants_follow}
use Rattle.geo_state.proofs.Lists.{counts, count-step}
use Rattle.geo_state.proofs.OwedLemmas.{places_are_owed}
use Rattle.geo_moves.specs.Returned.{IsReading, given_back, is_taste_read, root_result, steps_back, steps_up}

-- What a firm mesh tells of a bio that goes up: it came through a consumer that is there, of its owner

module _ (w : World) (firm : Firm w) where
  abbrev t : Topology Config
  t = w.topology

  -- a consumer that no handle has
  abbrev Nobodys : ℕ → Type 0
  Nobodys c = holding_handle w.handles c ≡ None

  -- the children go through such consumers, where the pieces do
  from_pieces : (y : Bio) (cs : List Bio) (k : ℕ) (zs : List PieceTarget)
      → map shape_of_child cs ≡ map (λ item. shape_of_piece y item.0 item.1) (enumerate_from k zs)
      → AllByRecursion (λ z. IsSome (consumer_at t z.consumer) × Nobodys z.consumer) zs
      → AllByRecursion (λ (c : Bio). Nobodys c.source) cs
  from_pieces y [] k zs shapes go = tt
  from_pieces y (c ∷ cs) k [] shapes go = absurd (let bad : ⊥ = cc in bad)
  from_pieces y (c ∷ cs) k (z ∷ zs) shapes go =
      let head : shape_of_child c ≡ shape_of_piece y k z = cc in
      let tail : map shape_of_child cs ≡ map (λ (item : ℕ × PieceTarget). shape_of_piece y item.0 item.1)
      (enumerate_from (k + 1) zs) = cc in
      let source : c.source ≡ z.consumer = ap (λ (s : ChildShape). s.source) head in
      (subst Nobodys (sym source) go.0.1, from_pieces y cs (k + 1) zs tail go.1)

  module _ (y z : Bio) (y_here : Contains w.bios y) (child : Contains (children_of w y.number) z) where
    by_disk : (p : Provider) (g : Geom Config) → provider_at t y.target ≡ Some p → geom_at t p.geom ≡ Some g
        → (o : Option ℕ) → disk_of g.config ≡ o
        → map shape_of_child (children_of w y.number) ≡ map (λ item. shape_of_piece y item.0 item.1)
        (enumerate_from 0 (piece_targets g.config p y)) → Nobodys z.source
    by_disk p g to_it of_it None e shapes =
        at_contained (λ (c : Bio). Nobodys c.source) (children_of w y.number) z
        (from_pieces y (children_of w y.number) 0 (piece_targets g.config p y) shapes
        (all_through w firm y y_here p to_it g of_it e)) child
    by_disk p g to_it of_it (Some disk) e shapes =
        absurd (not_nothing shape_of_child (children_of w y.number) z child
        (shapes ∙ ap
        (λ (zs : List PieceTarget). map (λ (item : ℕ × PieceTarget). shape_of_piece y item.0 item.1)
        (enumerate_from 0 zs)) (no_pieces g.config p y disk e)))

    waits_for : is_waiting y.phase ≡ true → Nobodys z.source
    waits_for waits =
        let family : IsFamilyInOrder w.topology w.bios y =
        All-contains (IsFamilyInOrder w.topology w.bios) w.bios y firm.bios.families y_here in
        let p = some_and_of (λ (p : Provider). IsSomeAnd (geom_at t p.geom) (λ g.
        map shape_of_child (children_of w y.number) ≡ map (λ item. shape_of_piece y item.0 item.1)
        (enumerate_from 0 (piece_targets g.config p y)))) (provider_at t y.target) (family.pieces waits) in
        let g = some_and_of (λ (g : Geom Config). map shape_of_child (children_of w y.number) ≡ map (λ item.
        shape_of_piece y item.0 item.1) (enumerate_from 0 (piece_targets g.config p.0 y))) (geom_at t p.0.geom) p.2 in
        by_disk p.0 g.0 p.1 g.1 (disk_of g.0.config) refl g.2

  module _ (x : Bio) (here : Contains w.bios x) where
    comes : ComesFromItsOwner w.handles w.taste x x.owner
    comes = All-contains (λ (v : Bio). ComesFromItsOwner w.handles w.taste v v.owner) w.bios x firm.bios.owners here

    -- its consumer is there
    pub source_lives : IsSome (consumer_at t x.source)
    source_lives =
        let order : IsBioInOrder (granted_in w) w.topology x =
        All-contains (IsBioInOrder (granted_in w) w.topology) w.bios x firm.bios.order here in
        there_with_fact (λ c. (c.provider ≡ Some x.target) × HasCountFor (granted_in w) w.topology x c)
        (consumer_at t x.source) order.source

    by_parent : (parent index : ℕ) → x.owner ≡ owners.Child parent index → (o : Option Bio) → bio_at w parent ≡ o
        → IsSomeAnd o (λ y. IsTrue (is_waiting y.phase)) → Nobodys x.source
    by_parent parent index owner None at has = absurd has
    by_parent parent index owner (Some y) at has =
        let y_here : Contains w.bios y = find-Contains (λ (v : Bio). v.number == parent) w.bios y at in
        let number : y.number ≡ parent = number_found (λ (v : Bio). v.number) w.bios parent y at in
        let is_child : is_child_of x.owner y.number ≡ true = rw owner (eq-eqb parent y.number (sym number)) in
        waits_for y x y_here
        (Contains-filter (λ (v : Bio). is_child_of v.owner y.number) w.bios x here is_child) has

    -- a child came through a consumer that no handle has
    pub child_nobodys : (parent index : ℕ) → x.owner ≡ owners.Child parent index → Nobodys x.source
    child_nobodys parent index owner =
        let family : IsFamilyInOrder w.topology w.bios x =
        All-contains (IsFamilyInOrder w.topology w.bios) w.bios x firm.bios.families here in
        by_parent parent index owner (bio_at w parent) refl (rw owner at family.parent)

    -- the root of a line came through the consumer of the line's handle
    pub line_holds : (handle line : ℕ) → x.owner ≡ owners.Line handle line
        → IsSomeAnd (handle_at w.handles handle) (λ h. h.consumer ≡ Some x.source)
    line_holds handle line owner = rw owner at comes

-- The rise

module _ (s : State) (firm : IsFirm s) (b : ℕ) (x : BioOf Held) (found : bio_among s.traffic.bios b ≡ Some x)
    (no_taste : is_taste_root x.owner ≡ false) where
  abbrev y : Bio
  y = shown_bio (delivered_at firm.0) x

  of_owner : (o : Owner) → x.owner ≡ o → is_taste_root o ≡ false → IsOfItsOwner s x.source o
  of_owner (owners.Line handle line) e other =
      line_holds (world firm.1.0 firm.0 s) firm.1.1 y (here s firm b x found) handle line e
  of_owner owners.Taste e other = absurd cc
  of_owner (owners.Child parent index) e other =
      child_nobodys (world firm.1.0 firm.0 s) firm.1.1 y (here s firm b x found) parent index e

  pub came_through : CameThrough s b
  came_through =
      rw found (
        source_lives (world firm.1.0 firm.0 s) firm.1.1 y (here s firm b x found),
        of_owner x.owner refl no_taste,
      )

module _ (s new : State) (log : List Entry) (b : ℕ) (x : BioOf Held) (found : bio_among s.traffic.bios b ≡ Some x)
    (up_it : is_up x.phase ≡ true) (only : OnlyBios s new)
    (bios : new.traffic.bios ≡ after_up (delivered_at log) s.traffic.bios x x.owner)
    (next : new.traffic.next ≡ s.traffic.next) where
  -- in the world
  rises_in : (w : World) → w.bios ≡ shown_bios (delivered_at log) s.traffic.bios → (o : Owner) → is_taste_root o ≡ false
      → up_to w (shown_bio (delivered_at log) x) o
      ≡ (
        record w { bios = shown_bios (delivered_at log) (after_up (delivered_at log) s.traffic.bios x o) },
        outcome_of_rise (owner_line o) (told_of_up (delivered_at log) s.traffic.bios x o),
      )
  rises_in w is (owners.Line handle line) other =
      (world_shows_bios (delivered_at log) s.traffic.bios w is).rises_to_line x handle line
  rises_in w is owners.Taste other = absurd cc
  rises_in w is (owners.Child parent index) other =
      (world_shows_bios (delivered_at log) s.traffic.bios w is).rises_to_parent x parent index

  pub makes_risen : is_taste_root x.owner ≡ false → (outcome : Outcome)
      → outcome ≡ outcome_of_rise (owner_line x.owner) (told_of_up (delivered_at log) s.traffic.bios x x.owner)
      → Makes (λ w. up_of w (bio_at w b)) log s new outcome
  unfolding up
  makes_risen other outcome told actors =
      let w : World = world actors log s in
      let l = delivered_at log in
      let at_bio : bio_at w b ≡ Some (shown_bio l x) = there actors log s b ∙ ap (option_map (shown_bio l)) found in
      let made : up_of w (Some (shown_bio l x)) ≡ Ok (up_to w (shown_bio l x) x.owner) = rw up_it refl in
      let after : (record w { bios = shown_bios l (after_up l s.traffic.bios x x.owner) }) ≡ world actors log new =
      (λ i. let u : World = record w {
        bios = shown_bios l (sym bios i);
        next_bio = sym next i;
      } in u) ∙ sym (world_moved s new only actors log) in
      ap (up_of w) at_bio ∙ made ∙ ap Ok (rises_in w refl x.owner other)
      ∙ (λ i. Ok (after i, sym told i))

  pub logged_risen : (n : ℕ) → AreLogged n s.traffic.bios → AreLogged n new.traffic.bios
  logged_risen n logged =
      subst (AreLogged n) (sym bios) ((places_stay_logged n s.traffic.bios logged).rises (delivered_at log) x x.owner)

-- For the bio that is there

module _ (s : State) (b : ℕ) (up_it : IsTrue (has_phase is_up s.traffic.bios b))
    (no_taste : IfSome (bio_among s.traffic.bios b) (λ x. is_taste_root x.owner ≡ false)) where
  pub came : IsFirm s → CameThrough s b
  came firm =
      let x = in_phase s b is_up up_it in came_through s firm b x.bio x.found (rw x.found at no_taste)

  module _ (new : State) (log : List Entry) (only : OnlyBios s new)
      (bios : IfSome (bio_among s.traffic.bios b) (λ x.
      new.traffic.bios ≡ after_up (delivered_at log) s.traffic.bios x x.owner))
      (next : new.traffic.next ≡ s.traffic.next) where
    pub rise_made : (line : ℕ) (r : Risen) (outcome : Outcome)
        → IfSome (bio_among s.traffic.bios b) (λ x. line ≡ owner_line x.owner)
        → IfSome (bio_among s.traffic.bios b) (λ x. r ≡ told_of_up (delivered_at log) s.traffic.bios x x.owner)
        → outcome ≡ outcome_of_rise line r
        → Makes (λ w. up_of w (bio_at w b)) log s new outcome
    rise_made line r outcome lines told is =
        let x = in_phase s b is_up up_it in
        makes_risen s new log b x.bio x.found x.fact only (rw x.found at bios) next (rw x.found at no_taste) outcome
        (is ∙ (λ i. outcome_of_rise ((rw x.found at lines) i) ((rw x.found at told) i)))

    pub rise_logged : (n : ℕ) → AreLogged n s.traffic.bios → AreLogged n new.traffic.bios
    rise_logged n logged =
        let x = in_phase s b is_up up_it in
        logged_risen s new log b x.bio x.found x.fact only (rw x.found at bios) next n logged

-- The taste's read goes up: what a firm mesh tells of it and of its taste, and what is kept then

-- the owner of the taste's read
taste_owner : (o : Owner) → is_taste_root o ≡ true → o ≡ owners.Taste
taste_owner owners.Taste is = refl
taste_owner _ is = absurd cc

-- as many trips are the taste's as requests
reads_counted : (log : ℕ → Option (List ℕ)) (bios : List (BioOf Held))
    → count_by (λ (z : Bio). is_taste_root z.owner) (shown_bios log bios)
    ≡ count_by (λ (z : Trip). is_taste_root z.owner) (trips bios)
reads_counted log [] = refl
reads_counted log (x ∷ bios) =
    count-step (λ (z : Bio). is_taste_root z.owner) (shown_bio log x) (shown_bios log bios)
    ∙ ap (λ n. counts (λ (z : Trip). is_taste_root z.owner) (trip_of x) + n) (reads_counted log bios)
    ∙ sym (count-step (λ (z : Trip). is_taste_root z.owner) (trip_of x) (trips bios))

-- a class whose read is back has none out
back_is_in : (got : BioResult) (a : Asked) → is_read_out (read_back got a) ≡ false
back_is_in got NoClass = refl
back_is_in got _ = refl

-- what is attached to a provider that lives is attached
attached_there : {X : Type 0} (f : ℕ → Option X) (o : Option ℕ) → IsSome (option_and_then f o) → IsSome o
attached_there f None never = never
attached_there f (Some p) lives = refl

-- a bio is the taste's read, and is Up
pub record IsReadUp (s : State) (b : ℕ) : Type 0 where
  pub bio : BioOf Held
  pub found : bio_among s.traffic.bios b ≡ Some bio
  pub rises : is_up bio.phase ≡ true
  pub root : is_taste_root bio.owner ≡ true

-- the taste's read is there
pub read_up : (s : State) (b : ℕ) → IsTrue (has_phase is_up s.traffic.bios b) → is_taste_read s.traffic.bios b ≡ true
    → IsReadUp s b
read_up s b up_it root =
    let x = in_phase s b is_up up_it in
    record { bio = x.bio; found = x.found; rises = x.fact; root = rw x.found at root }

-- another bio isn't the taste's read
pub no_read : (bios : List (BioOf Held)) (b : ℕ) → is_taste_read bios b ≡ false
    → IfSome (bio_among bios b) (λ x. is_taste_root x.owner ≡ false)
no_read bios b other =
    if-found (bio_among bios b) (λ x. is_taste_root x.owner ≡ false) (λ x e. rw e at other)

-- What a firm mesh tells

-- the taste that is under way, whose read the bio is
pub record IsReadOf (s : State) (x : BioOf Held) : Type 0 where
  pub taste : Taste
  pub is : s.taste ≡ Some taste
  pub consumer : taste.consumer ≡ x.source
  pub provider : taste.provider ≡ x.target
  pub out : is_read_out taste.asked ≡ true

module _ (s : State) (firm : IsFirm s) (b : ℕ) (r : IsReadUp s b) where
  abbrev before : World
  before = world firm.1.0 firm.0 s

  abbrev seen : Bio
  seen = shown_bio (delivered_at firm.0) r.bio

  owner : r.bio.owner ≡ owners.Taste
  owner = taste_owner r.bio.owner r.root

  stands : Contains before.bios seen
  stands = here s firm b r.bio r.found

  comes_so : ComesFromItsOwner before.handles before.taste seen owners.Taste
  comes_so = subst (ComesFromItsOwner before.handles before.taste seen) owner
      (All-contains (λ (v : Bio). ComesFromItsOwner before.handles before.taste v v.owner) before.bios seen
      firm.1.1.bios.owners stands)

  -- its read is out
  some_out : option_map_or (λ (a : Taste). is_read_out a.asked) s.taste false ≡ true
  some_out = firm.1.1.bios.read_out.0
      (any-contained (λ (v : Bio). is_taste_root v.owner) before.bios seen stands r.root)

  pub read_of : IsReadOf s r.bio
  read_of =
      let a = some_and_of (λ (a : Taste). (a.consumer ≡ r.bio.source) × (a.provider ≡ r.bio.target)) s.taste comes_so in
      record { taste = a.0; is = a.1; consumer = a.2.0; provider = a.2.1; out = rw a.1 at some_out }

  abbrev a : Taste
  a = read_of.taste

  -- the consumer of the taste
  abbrev c : Consumer
  c = taster before firm.1.1 a read_of.is

  number : c.number ≡ a.consumer
  number = (tasting before firm.1.1 a read_of.is).number

  -- no handle has it
  pub nobodys_is : holding_handle s.handles.handles a.consumer ≡ None
  nobodys_is = subst (λ n. holding_handle s.handles.handles n ≡ None) number (none_has before firm.1.1 a read_of.is)

  -- there is one read
  one_read_out : count_by (λ (z : Trip). is_taste_root z.owner) (trips s.traffic.bios) ≤ 1
  one_read_out = subst (λ n. n ≤ 1) (reads_counted (delivered_at firm.0) s.traffic.bios) firm.1.1.bios.read.one

  pub came_back : CameThrough s b
  came_back =
      rw r.found (
        source_lives before firm.1.1 seen stands,
        subst (IsOfItsOwner s r.bio.source) (sym owner) (
          one_read_out,
          subst (λ n. holding_handle s.handles.handles n ≡ None) read_of.consumer nobodys_is,
        ),
      )

  -- its consumer is found
  found_it : consumer_at s.topo.topology a.consumer ≡ Some c
  found_it = subst (λ n. consumer_at s.topo.topology n ≡ Some c) number (taster_found before firm.1.1 a read_of.is)

  all_attached : All (λ (v : Consumer). IsSome v.provider) s.topo.topology.consumers
  all_attached =
      All-weaker (λ (v : Consumer). IsSome (option_and_then (provider_at s.topo.topology) v.provider))
      (λ (v : Consumer). IsSome v.provider)
      (λ v lives. attached_there (provider_at s.topo.topology) v.provider lives) s.topo.topology.consumers
      firm.1.1.graph.attached

  -- what it is granted: one read
  granted_it : granted_of s.handles.handles s.taste a.consumer ≡ held_by_taste a
  granted_it =
      ap (λ o. option_map_or (λ (h : Handle). h.grant) o (taste_grant s.taste a.consumer)) nobodys_is
      ∙ ap (λ o. taste_grant o a.consumer) read_of.is
      ∙ ap (λ k. if k && is_read_out a.asked then one_read else no_counts) (eq-eqb a.consumer a.consumer refl)

  -- Once it is gone

  module _ (mid : State) (only : OnlyBios s mid) (holds : Holds mid) where
    same_graph : mid.topo.topology ≡ s.topo.topology
    same_graph = ap (λ (z : State). z.topo.topology) only.rest

    pub same_taste : mid.taste ≡ Some a
    same_taste = ap (λ (z : State). z.taste) only.rest ∙ read_of.is

    same_handles : mid.handles.handles ≡ s.handles.handles
    same_handles = ap (λ (z : State). z.handles.handles) only.rest

    pub nobodys_mid : holding_handle mid.handles.handles a.consumer ≡ None
    nobodys_mid = ap (λ hs. holding_handle hs a.consumer) same_handles ∙ nobodys_is

    pub settled_mid : IsSettled mid.topo
    settled_mid = record {
      counted = holds.counted;
      quiet = holds.quiet;
      attached = subst (λ (t : Topology Config). All (λ (v : Consumer). IsSome v.provider) t.consumers) (sym same_graph)
          all_attached;
    }

    found_mid : consumer_at mid.topo.topology a.consumer ≡ Some c
    found_mid = ap (λ (t : Topology Config). consumer_at t a.consumer) same_graph ∙ found_it

    pub kind_c : HoldsGrants mid.topo.topology c.geom
    kind_c = subst (λ (t : Topology Config). HoldsGrants t c.geom) (sym same_graph)
        (taster_holds before firm.1.1 a read_of.is)

    pub kind_mid : IsSomeAnd (consumer_at mid.topo.topology a.consumer) (λ v. HoldsGrants mid.topo.topology v.geom)
    kind_mid = rw found_mid kind_c

    -- its stored counts are its grant
    stored : value_at mid.topo.wants a.consumer ≡ Some (held_by_taste a)
    stored =
        ap (λ rows. value_at rows a.consumer) holds.counted.wants
        ∙ item_at (λ (v : Consumer). v.number) (want (granted_by mid.topo) mid.topo.topology) a.consumer
        mid.topo.topology.consumers c found_mid
        ∙ ap (λ n. Some n) (wants_grant (granted_by mid.topo) mid.topo.topology c kind_c
        ∙ ap (granted_by mid.topo) number
        ∙ ap (λ (g : ℕ → Counts). g a.consumer) holds.grants
        ∙ ap (λ hs. granted_of hs mid.taste a.consumer) same_handles
        ∙ ap (λ o. granted_of s.handles.handles o a.consumer) (ap (λ (z : State). z.taste) only.rest)
        ∙ granted_it)

    pub taste_of_mid : IsTasteOf mid.topo a
    taste_of_mid = record {
      tasting = subst (λ (t : Topology Config). IsTasting t a) (sym same_graph) (tasting before firm.1.1 a read_of.is);
      holds = stored;
    }

    pub reading_mid : IsReading mid.topo mid.taste
    reading_mid = rw same_taste (taste_of_mid, read_of.out)

    pub steps_mid : steps_back mid.topo.topology mid.taste ≡ consumers_below s.topo.topology r.bio.target
    steps_mid =
        ap (steps_back mid.topo.topology) same_taste
        ∙ ap (λ (t : Topology Config). consumers_below t a.provider) same_graph
        ∙ ap (consumers_below s.topo.topology) read_of.provider

-- What is kept

module _ (mid new : State) (holds : Holds mid) (a : Taste) (taste : mid.taste ≡ Some a)
    (out : is_read_out a.asked ≡ true) (nobodys : holding_handle mid.handles.handles a.consumer ≡ None)
    (kind : IsSomeAnd (consumer_at mid.topo.topology a.consumer) (λ x. HoldsGrants mid.topo.topology x.geom))
    (got : BioResult)
    (topo : new.topo ≡ given_back mid.topo mid.taste) (back : new.taste ≡ taste_with got mid.taste)
    (rest : new ≡ record mid { topo = new.topo; taste = new.taste }) (settled : IsSettled new.topo) where
  -- the mesh then
  abbrev given : TopoView Config
  given = with_granted mid.topo a.consumer no_counts

  topo_is : new.topo ≡ given
  topo_is = topo ∙ ap (given_back mid.topo) taste

  -- the taste then
  abbrev later : Taste
  later = record a { asked = read_back got a.asked }

  taste_is : new.taste ≡ Some later
  taste_is = back ∙ ap (taste_with got) taste

  -- what handles are granted
  abbrev handles_have : ℕ → Counts
  handles_have = granted_of mid.handles.handles None

  -- before
  had : (d : ℕ) → granted_by mid.topo d ≡ with_grant handles_have a.consumer one_read d
  had d =
      ap (λ (g : ℕ → Counts). g d) holds.grants
      ∙ ap (λ o. granted_of mid.handles.handles o d) taste
      ∙ grants_follow.reads mid.handles.handles a out nobodys d

  -- the taste's consumer has nothing by them
  none_there : handles_have a.consumer ≡ no_counts
  none_there = ap (λ o. option_map_or (λ (h : Handle). h.grant) o no_counts) nobodys

  -- without the read each has what handles have
  left : (d : ℕ) → with_grant (granted_by mid.topo) a.consumer no_counts d ≡ handles_have d
  left d = by (d == a.consumer) refl
    where
      by : (k : Bool) → (d == a.consumer) ≡ k → (if k then no_counts else granted_by mid.topo d) ≡ handles_have d
      by true e = sym none_there ∙ ap handles_have (sym (eqb-true d a.consumer e))
      by false e = had d ∙ ap (λ k. if k then one_read else handles_have d) e

  grants_back : (d : ℕ) → granted_by given d ≡ granted_of mid.handles.handles (Some later) d
  grants_back d =
      grants_follow.counted mid.topo a.consumer no_counts kind d
      ∙ left d
      ∙ sym (grants_follow.nothing mid.handles.handles later (back_is_in got a.asked) d)

  -- places are owed as after a close
  owed : owed_events given ≤ mid.queue.spare
  owed =
      let less = places_are_owed.closes mid.topo a.consumer holds.counted in
      let room = holds.room in
      let same : owed_events (released_view mid.topo a.consumer) ≡ owed_events given = refl in
      omega (arith, less, room, same)

  settled_given : IsSettled given
  settled_given = subst (λ (t : TopoView Config). IsSettled t) topo_is settled

  holds_given : Holds (record mid { topo = given; taste = Some later })
  holds_given = record {
    counted = settled_given.counted;
    quiet = settled_given.quiet;
    numbers = holds.numbers;
    grants = λ i d. grants_back d i;
    active = holds.active;
    ready = holds.ready;
    own = holds.own;
    read = holds.read;
    seats = holds.seats;
    providers = holds.providers;
    room = owed;
  }

  pub holds_back : Holds new
  holds_back =
      subst Holds
      (sym (rest ∙ (λ i. let z : State = record mid { topo = topo_is i; taste = taste_is i } in z))) holds_given

-- The world

module _ (s mid new : State) (log : List Entry) (b : ℕ) (r : IsReadUp s b) (only : OnlyBios s mid)
    (bios : mid.traffic.bios ≡ after_up (delivered_at log) s.traffic.bios r.bio r.bio.owner)
    (next : mid.traffic.next ≡ s.traffic.next) (got : BioResult)
    (told : got ≡ root_result (told_of_up (delivered_at log) s.traffic.bios r.bio r.bio.owner))
    (topo : new.topo ≡ given_back mid.topo mid.taste) (back : new.taste ≡ taste_with got mid.taste)
    (rest : new ≡ record mid { topo = new.topo; taste = new.taste }) where
  abbrev l : ℕ → Option (List ℕ)
  l = delivered_at log

  result_is : got ≡ resolved l r.bio.result
  result_is = told ∙ ap (λ o. root_result (told_of_up l s.traffic.bios r.bio o)) (taste_owner r.bio.owner r.root)

  -- the graph stays
  graph_stays : (o : Option Taste) → (given_back mid.topo o).topology ≡ mid.topo.topology
  graph_stays None = refl
  graph_stays (Some a) = refl

  same_graph_then : new.topo.topology ≡ mid.topo.topology
  same_graph_then = ap (λ (t : TopoView Config). t.topology) topo ∙ graph_stays mid.taste

  taste_then : new.taste ≡ taste_with (resolved l r.bio.result) s.taste
  taste_then =
      back ∙ (λ i. taste_with (result_is i) (ap (λ (z : State). z.taste) only.rest i))

  rises_back : (w : World) → w.bios ≡ shown_bios l s.traffic.bios
      → up_to w (shown_bio l r.bio) r.bio.owner ≡ (
        record w {
          bios = shown_bios l (after_up l s.traffic.bios r.bio r.bio.owner);
          taste = taste_with (resolved l r.bio.result) w.taste;
        },
        outcomes.TasteBack,
      )
  rises_back w is =
      subst
      (λ (o : Owner). up_to w (shown_bio l r.bio) o ≡ (
        record w {
          bios = shown_bios l (after_up l s.traffic.bios r.bio o);
          taste = taste_with (resolved l r.bio.result) w.taste;
        },
        outcomes.TasteBack,
      )) (sym (taste_owner r.bio.owner r.root)) ((world_shows_bios l s.traffic.bios w is).rises_to_taste r.bio)

  pub makes_back : Makes (λ w. up_of w (bio_at w b)) log s new outcomes.TasteBack
  unfolding up
  makes_back actors =
      let w : World = world actors log s in
      let at_bio : bio_at w b ≡ Some (shown_bio l r.bio) =
      there actors log s b ∙ ap (option_map (shown_bio l)) r.found in
      let made : up_of w (Some (shown_bio l r.bio)) ≡ Ok (up_to w (shown_bio l r.bio) r.bio.owner) = rw r.rises refl in
      let seen : world actors log new
      ≡ record (world actors log mid) { topology = new.topo.topology; taste = new.taste } =
      ap (world actors log) rest in
      let after : (record w {
        bios = shown_bios l (after_up l s.traffic.bios r.bio r.bio.owner);
        taste = taste_with (resolved l r.bio.result) s.taste;
      }) ≡ world actors log new =
      sym (seen
      ∙ (λ i. let u : World = record (world_moved s mid only actors log i) {
        topology = (same_graph_then ∙ ap (λ (z : State). z.topo.topology) only.rest) i;
        taste = taste_then i;
      } in u)
      ∙ (λ i. let u : World = record w {
        bios = shown_bios l (bios i);
        next_bio = next i;
        taste = taste_with (resolved l r.bio.result) s.taste;
      } in u)) in
      ap (up_of w) at_bio ∙ made ∙ ap Ok (rises_back w refl)
      ∙ (λ i. Ok (after i, outcomes.TasteBack))

  pub logged_back : (n : ℕ) → AreLogged n s.traffic.bios → AreLogged n new.traffic.bios
  logged_back n logged =
      subst (AreLogged n) (sym (ap (λ (z : State). z.traffic.bios) rest))
      (logged_risen s mid log b r.bio r.found r.rises only bios next n logged)

-- the steps of its Up
pub read_steps : (s : State) (b : ℕ) (r : IsReadUp s b)
    → steps_up s.topo.topology (bio_among s.traffic.bios b) ≡ consumers_below s.topo.topology r.bio.target
read_steps s b r =
    ap (steps_up s.topo.topology) r.found
    ∙ ap (λ k. if k then consumers_below s.topo.topology r.bio.target else 0) r.root
