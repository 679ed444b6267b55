-- What a Start does to the state it does to the world, by the way that the request goes.
use Rattle.std.specs.Prelude.{◌≡◌, ℕ, ◌≤◌, true, List, length, map, Option, Some, None, Ok, IsSome, ◌+◌, ◌++◌, IfSome, ◌==◌, Result, Err, IsTrue, IfOk, OnErr}
use Rattle.std.specs.List.{AllByRecursion}
use Rattle.std.specs.Option.{option_map}
use Rattle.std.proofs.Common.{refl, sym, ◌∙◌, ap, subst}
use Rattle.geo_base.proofs.AllLists.{all_mapped}
use Rattle.geo_base.specs.declared.errno.Errno.TheVariants.{EIO}
use Rattle.geo_model.specs.declared.step.Entry.{Entry}
use Rattle.geo_model.specs.declared.step.Outcome.{Outcome}
use Rattle.geo_model.specs.declared.step.Phase.TheVariants as phases
use Rattle.geo_model.specs.Topology.{consumer_at, note_started, Topology, Geom}
use Rattle.geo_model.specs.World.{World, BioOf, bio_at, is_down, bio_among, change_number, Config}
use Rattle.geo_model.specs.Bios.{PieceTarget, Way, Bounces, Fails, Sends, Splits, Passes, start, start_by, way_of, up_with}
use Rattle.geo_model.specs.Step.{start_of}
use Rattle.geo_model.proofs.WayLemmas.{starts_in_parts}
use Rattle.geo_model.proofs.DemandLemmas.{all_weaker}
use Rattle.geo_laws_graph.proofs.Numbered.{number_found}
use Rattle.geo_laws_bios.proofs.Starting.{SplitsAt, splits_at}
use Rattle.geo_bio.specs.declared.bio.Held.{Held}
use Rattle.geo_bio.specs.declared.bio.Bio.{Bio}
use Rattle.geo_bio.specs.PieceLaws.{target_in}
use Rattle.geo_bio.specs.Rows.{as_bio}
use Rattle.geo_log.specs.Places.{delivered_at}
use Rattle.geo_handles.specs.Handles.{holding_handle}
use Rattle.geo_state.specs.Shown.{shown_bios, shown_bio, AreLogged}
use Rattle.geo_state.proofs.StepLemmas.{world_shows_bios}
use Rattle.geo_state.proofs.LoggedLemmas.{places_stay_logged}
use Rattle.geo_state.specs.declared.state.State.{State}
use Rattle.geo_state.specs.Bios.{IsNoHandles, OnlyBios}
use Rattle.geo_state.specs.World.{world, HasBytes}
use Rattle.geo_state.specs.Steps.{IsFirm, Makes}
use Rattle.geo_moves.specs.Ways.{CanGoDown, through, IsCut, GoesBy}
use Rattle.geo_moves.specs.Started.{HasStarted, bios_after, next_after, graph_after, outcome_of}
use Rattle.geo_moves.proofs.Ways.{can_be_cut, some_targets, all_through, way_plain}
use Rattle.geo_moves.proofs.Against.{here, there, world_moved}
use Rattle.std.proofs.lemmas.List.{length-map}
use Rattle.geo_base.specs.declared.errno.Errno.{Errno}
use Rattle.geo_model.specs.declared.command.LineCommand.{LineCommand}
use Rattle.geo_model.specs.declared.step.Outcome.TheVariants as outcomes
use Rattle.geo_mesh.specs.Topo.{with_topology}
use Rattle.geo_bio.specs.declared.bio.Held.TheVariants as held
use Rattle.geo_bio.specs.BioTable.{with_phase, has_phase}
use Rattle.geo_bio.specs.Split.{split_into}
use Rattle.geo_moves.specs.declared.cut.Cut.{Cut}
use Rattle.geo_base.proofs.Options.{if-found, if_some_weaker}
use Rattle.geo_laws_counts.proofs.Unseen.{map-changed}
use Rattle.geo_base.specs.declared.kind.Kind.{Kind}
use Rattle.geo_laws_counts.specs.CountWords.{seen_by_counts}
use Rattle.geo_life.proofs.Unseen.{unseen_stays}
use Rattle.geo_state.specs.Holds.{Holds}
use Rattle.geo_state.specs.Parts.{SameParts, disk_row}
use Rattle.geo_state.proofs.LawLemmas.{holds_after_effects}
use Rattle.geo_base.specs.declared.block.NoMemory.{NoMemory}

-- What a Start does to the state it does to the world

-- The world after a way

-- the world once a bio went a way
abbrev world_by : World → (ℕ → Option (List ℕ)) → ℕ → BioOf Held → List (BioOf Held) → Way → World × Outcome
world_by w log b x bios way = (
  record w {
    topology = graph_after w.topology way;
    bios = shown_bios log (bios_after w.topology w.next_bio b x bios way);
    next_bio = next_after w.next_bio way;
  },
  outcome_of w.next_bio way,
)

module _ (log : ℕ → Option (List ℕ)) (bios : List (BioOf Held)) (w : World) (is : w.bios ≡ shown_bios log bios)
    (x : BioOf Held) where
  by_way : (way : Way) → start_by w (shown_bio log x) way ≡ world_by w log x.number x bios way
  by_way (Bounces e) = (world_shows_bios log bios w is).bounces x e
  by_way (Fails g) = (world_shows_bios log bios (record w { topology = note_started w.topology g }) is).bounces x EIO
  by_way (Sends disk) = (world_shows_bios log bios w is).sends x disk
  by_way (Splits zs) = (world_shows_bios log bios w is).splits x zs
  by_way (Passes g zs) = (world_shows_bios log bios (record w { topology = note_started w.topology g }) is).splits x zs

  -- a Start of a bio that is Down
  start_shown : is_down x.phase ≡ true → (way : Way) → way_of w.topology x ≡ way
      → start_of w (Some (shown_bio log x)) ≡ Ok (world_by w log x.number x bios way)
  start_shown down way goes =
      let same : way_of w.topology (shown_bio log x) ≡ way =
      way_plain w.topology (shown_bio log x) ∙ sym (way_plain w.topology x) ∙ goes in
      let made : start w (shown_bio log x) ≡ world_by w log x.number x bios way =
      starts_in_parts w (shown_bio log x) ∙ ap (start_by w (shown_bio log x)) same ∙ by_way way in
      rw (down, made) refl

-- The state after a way

module _ (s new : State) (b : ℕ) (x : BioOf Held) (way : Way) (o : Outcome)
    (found : bio_among s.traffic.bios b ≡ Some x) (started : HasStarted s new b x way o) where
  number : x.number ≡ b
  number = number_found (λ (y : BioOf Held). y.number) s.traffic.bios b x found

  -- the Start makes it
  pub makes_started : is_down x.phase ≡ true → way_of s.topo.topology x ≡ way → (log : List Entry)
      → Makes (λ w. start_of w (bio_at w b)) log s new o
  makes_started down goes log actors =
      let w : World = world actors log s in
      let l = delivered_at log in
      let at_bio : bio_at w b ≡ Some (shown_bio l x) = there actors log s b ∙ ap (option_map (shown_bio l)) found in
      let made : start_of w (Some (shown_bio l x)) ≡ Ok (world_by w l b x s.traffic.bios way) =
      start_shown l s.traffic.bios w refl x down way goes
      ∙ ap (λ n. Ok (world_by w l n x s.traffic.bios way)) number in
      let after : (record w {
        topology = graph_after s.topo.topology way;
        bios = shown_bios l (bios_after s.topo.topology s.traffic.next b x s.traffic.bios way);
        next_bio = next_after s.traffic.next way;
      }) ≡ world actors log new =
      ap (λ ys. let v : World = record w {
        topology = graph_after s.topo.topology way;
        bios = shown_bios l ys;
        next_bio = next_after s.traffic.next way;
      } in v) (sym started.bios) ∙ sym (started.seen actors log) in
      ap (start_of w) at_bio ∙ made ∙ (λ i. Ok (after i, sym started.outcome i))

  -- the bytes that are named stay in the log
  logged_by : (n : ℕ) → AreLogged n s.traffic.bios → (v : Way)
      → AreLogged n (bios_after s.topo.topology s.traffic.next b x s.traffic.bios v)
  logged_by n logged (Bounces e) = (places_stay_logged n s.traffic.bios logged).bounces b e
  logged_by n logged (Fails g) = (places_stay_logged n s.traffic.bios logged).bounces b EIO
  logged_by n logged (Sends disk) = (places_stay_logged n s.traffic.bios logged).moves b phases.Sent
  logged_by n logged (Splits zs) =
      (places_stay_logged n s.traffic.bios logged).splits b s.traffic.next x (map (λ (z : PieceTarget). z.piece) zs)
      (map (target_in s.topo.topology) zs)
  logged_by n logged (Passes g zs) =
      (places_stay_logged n s.traffic.bios logged).splits b s.traffic.next x (map (λ (z : PieceTarget). z.piece) zs)
      (map (target_in s.topo.topology) zs)

  pub logged_started : (n : ℕ) → AreLogged n s.traffic.bios → AreLogged n new.traffic.bios
  logged_started n logged = subst (AreLogged n) (sym started.bios) (logged_by n logged way)

-- What a firm state tells of a bio

-- pieces of which there are some, and each goes through a consumer that lives and is no handle's
pub record SplitsWell (s : State) (zs : List PieceTarget) : Type 0 where
  pub some : 1 ≤ length zs
  pub through : AllByRecursion (λ (z : ℕ × ℕ). IsNoHandles s z.0) (map (target_in s.topo.topology) zs)

module _ (s : State) (firm : IsFirm s) (b : ℕ) (x : BioOf Held) (found : bio_among s.traffic.bios b ≡ Some x) where
  -- it can go down
  pub can_go_down : CanGoDown s.topo.topology x
  can_go_down p g at of_it no_disk =
      can_be_cut (world firm.1.0 firm.0 s) firm.1.1 (shown_bio (delivered_at firm.0) x) (here s firm b x found)
      p at g of_it no_disk

  -- where it is split
  splits_there : (zs : List PieceTarget) → SplitsAt s.topo.topology (shown_bio (delivered_at firm.0) x) zs
      → SplitsWell s zs
  splits_there zs at = record {
    some = subst (λ ys. 1 ≤ length ys) (sym at.are)
        (some_targets (world firm.1.0 firm.0 s) firm.1.1 (shown_bio (delivered_at firm.0) x) (here s firm b x found)
        at.provider at.to_it at.geom at.of_it at.no_disk);
    through = all_mapped (λ (z : ℕ × ℕ). IsNoHandles s z.0) (target_in s.topo.topology) zs
        (all_weaker
        (λ (z : PieceTarget). IsSome (consumer_at s.topo.topology z.consumer)
        × (holding_handle s.handles.handles z.consumer ≡ None))
        (λ (z : PieceTarget). IsNoHandles s z.consumer)
        (λ z facts. record { lives = facts.0; nobodys = facts.1 }) zs
        (subst (AllByRecursion (λ (z : PieceTarget). IsSome (consumer_at s.topo.topology z.consumer)
        × (holding_handle s.handles.handles z.consumer ≡ None))) (sym at.are)
        (all_through (world firm.1.0 firm.0 s) firm.1.1 (shown_bio (delivered_at firm.0) x) (here s firm b x found)
        at.provider at.to_it at.geom at.of_it at.no_disk)));
  }

  -- the way of the bio in the world
  way_there : way_of s.topo.topology (shown_bio (delivered_at firm.0) x) ≡ way_of s.topo.topology x
  way_there = way_plain s.topo.topology (shown_bio (delivered_at firm.0) x) ∙ sym (way_plain s.topo.topology x)

  pub splits_well : (zs : List PieceTarget) → way_of s.topo.topology x ≡ Splits zs → SplitsWell s zs
  splits_well zs is =
      let way : way_of s.topo.topology (shown_bio (delivered_at firm.0) x) ≡ Splits zs = way_there ∙ is in
      splits_there zs (splits_at s.topo.topology (shown_bio (delivered_at firm.0) x) zs (rw way refl))

  pub passes_well : (g : ℕ) (zs : List PieceTarget) → way_of s.topo.topology x ≡ Passes g zs → SplitsWell s zs
  passes_well g zs is =
      let way : way_of s.topo.topology (shown_bio (delivered_at firm.0) x) ≡ Passes g zs = way_there ∙ is in
      splits_there zs (splits_at s.topo.topology (shown_bio (delivered_at firm.0) x) zs (rw way refl))

-- What each way does to the state

-- the state with other bios
abbrev pub with_bios : State → List (BioOf Held) → State
with_bios s ys = record s { traffic = record s.traffic { bios = ys } }

-- its world
module _ (s new : State) (ys : List (BioOf Held)) (is : new ≡ with_bios s ys) where
  bios_are : new.traffic.bios ≡ ys
  bios_are = ap (λ (z : State). z.traffic.bios) is

  pub seen_bios : (actors : List (List LineCommand)) (log : List Entry)
      → world actors log new ≡ record (world actors log s) { bios = shown_bios (delivered_at log) new.traffic.bios }
  seen_bios actors log =
      ap (world actors log) is
      ∙ ap (λ zs. let v : World = record (world actors log s) { bios = shown_bios (delivered_at log) zs } in v)
      (sym bios_are)

-- back with an error
pub bounced_started : (s new : State) (b : ℕ) (x : BioOf Held) (e : Errno)
    → new ≡ with_bios s (change_number b (up_with (held.Failed e)) s.traffic.bios)
    → HasStarted s new b x (Bounces e) outcomes.Bounced
bounced_started s new b x e is = record {
  bios = ap (λ (z : State). z.traffic.bios) is;
  outcome = refl;
  seen = seen_bios s new (change_number b (up_with (held.Failed e)) s.traffic.bios) is;
}

-- to its disk
pub sent_started : (s new : State) (b : ℕ) (x : BioOf Held) (disk : ℕ)
    → new ≡ with_bios s (change_number b (with_phase phases.Sent) s.traffic.bios)
    → HasStarted s new b x (Sends disk) (outcomes.Queued disk)
sent_started s new b x disk is = record {
  bios = ap (λ (z : State). z.traffic.bios) is;
  outcome = refl;
  seen = seen_bios s new (change_number b (with_phase phases.Sent) s.traffic.bios) is;
}

-- the state in which a geom has started one more
abbrev pub noted_at : State → ℕ → State
noted_at s g = record s { topo = with_topology s.topo (note_started s.topo.topology g) }

-- its world
noted_seen : (s mid : State) (g : ℕ) → mid ≡ noted_at s g → (actors : List (List LineCommand)) (log : List Entry)
    → world actors log mid ≡ record (world actors log s) { topology = note_started s.topo.topology g }
noted_seen s mid g is actors log = ap (world actors log) is

-- back with an error from a NOP geom, which counts it
pub failed_started : (s mid new : State) (b : ℕ) (x : BioOf Held) (g : ℕ) → mid ≡ noted_at s g
    → new ≡ with_bios mid (change_number b (up_with (held.Failed EIO)) mid.traffic.bios)
    → HasStarted s new b x (Fails g) outcomes.Bounced
failed_started s mid new b x g noted is = record {
  bios =
      ap (λ (z : State). z.traffic.bios) is
      ∙ ap (λ (z : State). change_number b (up_with (held.Failed EIO)) z.traffic.bios) noted;
  outcome = refl;
  seen = λ actors log.
      seen_bios mid new (change_number b (up_with (held.Failed EIO)) mid.traffic.bios) is actors log
      ∙ ap (λ (w : World). let v : World = record w { bios = shown_bios (delivered_at log) new.traffic.bios } in v)
      (noted_seen s mid g noted actors log);
}

-- in pieces
pub split_started : (s new : State) (b : ℕ) (x : BioOf Held) (cut : Cut) (zs : List PieceTarget) (first count : ℕ)
    → IsCut s.topo.topology cut zs → OnlyBios s new
    → new.traffic.bios ≡ change_number b (with_phase phases.Waiting) s.traffic.bios
    ++ split_into s.traffic.next x 0 cut.pieces.items cut.targets.items
    → new.traffic.next ≡ s.traffic.next + length cut.pieces.items
    → first ≡ s.traffic.next → count ≡ length cut.pieces.items
    → HasStarted s new b x (Splits zs) (outcomes.Split first count)
split_started s new b x cut zs first count is only bios next begins many =
    let len : length cut.pieces.items ≡ length zs =
    ap length is.pieces ∙ length-map zs (λ (z : PieceTarget). z.piece) in
    record {
      bios =
          bios ∙ (λ i. change_number b (with_phase phases.Waiting) s.traffic.bios
          ++ split_into s.traffic.next x 0 (is.pieces i) (is.targets i));
      outcome = λ i. outcomes.Split (begins i) ((many ∙ len) i);
      seen = λ actors log.
          world_moved s new only actors log
          ∙ ap (λ n. let v : World = record (world actors log s) {
            bios = shown_bios (delivered_at log) new.traffic.bios;
            next_bio = n;
          } in v) (next ∙ ap (λ n. s.traffic.next + n) len);
    }

-- so for the bio that is there
pub split_there : (s new : State) (b : ℕ) (cut : Cut) (zs : List PieceTarget) (first count : ℕ)
    → IsCut s.topo.topology cut zs → OnlyBios s new
    → IfSome (bio_among s.traffic.bios b) (λ x.
    new.traffic.bios ≡ change_number b (with_phase phases.Waiting) s.traffic.bios
    ++ split_into s.traffic.next x 0 cut.pieces.items cut.targets.items)
    → new.traffic.next ≡ s.traffic.next + length cut.pieces.items
    → first ≡ s.traffic.next → count ≡ length cut.pieces.items
    → IfSome (bio_among s.traffic.bios b) (λ x. HasStarted s new b x (Splits zs) (outcomes.Split first count))
split_there s new b cut zs first count is only bios next begins many =
    if-found (bio_among s.traffic.bios b) (λ x. HasStarted s new b x (Splits zs) (outcomes.Split first count))
    (λ x e. split_started s new b x cut zs first count is only (rw e at bios) next begins many)

-- in pieces through a NOP geom, which counts it
passed_started : (s mid new : State) (b : ℕ) (x : BioOf Held) (g : ℕ) (zs : List PieceTarget) (o : Outcome)
    → HasStarted s mid b x (Splits zs) o → mid.topo.topology ≡ s.topo.topology → new ≡ noted_at mid g
    → HasStarted s new b x (Passes g zs) o
passed_started s mid new b x g zs o started graph is = record {
  bios = ap (λ (z : State). z.traffic.bios) is ∙ started.bios;
  outcome = started.outcome;
  seen = λ actors log.
      noted_seen mid new g is actors log
      ∙ (λ i. let v : World = record (started.seen actors log i) { topology = note_started (graph i) g } in v)
      ∙ ap (λ ys. let v : World = record (world actors log s) {
        topology = note_started s.topo.topology g;
        bios = shown_bios (delivered_at log) ys;
        next_bio = s.traffic.next + length zs;
      } in v) (sym (ap (λ (z : State). z.traffic.bios) is));
}

pub passed_there : (s mid new : State) (b g : ℕ) (zs : List PieceTarget) (o : Outcome)
    → IfSome (bio_among s.traffic.bios b) (λ x. HasStarted s mid b x (Splits zs) o)
    → mid.topo.topology ≡ s.topo.topology → new ≡ noted_at mid g
    → IfSome (bio_among s.traffic.bios b) (λ x. HasStarted s new b x (Passes g zs) o)
passed_there s mid new b g zs o started graph is =
    if_some_weaker (λ (x : BioOf Held). HasStarted s mid b x (Splits zs) o) (λ x. HasStarted s new b x (Passes g zs) o)
    (λ x has. passed_started s mid new b x g zs o has graph is) (bio_among s.traffic.bios b) started

-- One more started request of a geom is seen by nothing that is kept

-- one more started request
abbrev more_started : Geom Config → Geom Config
more_started x = record x { started = x.started + 1 }

-- counts don't see it
counts_same : (t : Topology Config) (g : ℕ) → seen_by_counts (note_started t g) ≡ seen_by_counts t
counts_same t g =
    ap (λ gs. record (seen_by_counts t) { geoms = gs })
    (map-changed (λ (x : Geom Config). let seen : ℕ × Kind = (x.number, x.kind) in seen) (λ x. x.number == g)
    more_started (λ x. refl) t.geoms)

-- nor do the parts
parts_same : (t : Topology Config) (g : ℕ) → SameParts t (note_started t g)
parts_same t g = record {
  geoms = map-changed disk_row (λ x. x.number == g) more_started (λ x. refl) t.geoms;
  providers = refl;
  consumers = refl;
}

-- all is kept
pub noted_holds : (s : State) (g : ℕ) → Holds s → Holds (noted_at s g)
noted_holds s g h =
    let stay = unseen_stays s.topo (note_started s.topo.topology g) (counts_same s.topo.topology g) in
    holds_after_effects s (with_topology s.topo (note_started s.topo.topology g)) s.queue h
    (parts_same s.topo.topology g) refl stay.granted (stay.counted h.counted) (stay.quiet h.quiet) h.room

-- Pieces that can be split

-- there are some, as many as targets, and each goes through a consumer that lives and is no handle's
pub record CutWell (s : State) (cut : Cut) : Type 0 where
  pub some : 1 ≤ length cut.pieces.items
  pub same_number : length cut.targets.items ≡ length cut.pieces.items
  pub through : AllByRecursion (λ (z : ℕ × ℕ). IsNoHandles s z.0) cut.targets.items

well_cut : (s : State) (cut : Cut) (zs : List PieceTarget) → IsCut s.topo.topology cut zs → SplitsWell s zs
    → CutWell s cut
well_cut s cut zs is well =
    let pieces : length cut.pieces.items ≡ length zs =
    ap length is.pieces ∙ length-map zs (λ (z : PieceTarget). z.piece) in
    let targets : length cut.targets.items ≡ length zs =
    ap length is.targets ∙ length-map zs (target_in s.topo.topology) in
    record {
      some = subst (λ n. 1 ≤ n) (sym pieces) well.some;
      same_number = targets ∙ sym pieces;
      through = subst (AllByRecursion (λ (z : ℕ × ℕ). IsNoHandles s z.0)) (sym is.targets) well.through;
    }

-- A Start of the bio that is there

-- what the step does to the world, and to the bytes that are named
pub record StartIsMade (s new : State) (b : ℕ) (r : Result Outcome NoMemory) : Type 0 where
  pub made : (log : List Entry) → IfOk r (λ out. Makes (λ w. start_of w (bio_at w b)) log s new out)
  pub logged : (log : List Entry) → HasBytes log s → HasBytes log new

module _ (s : State) (b : ℕ) (row : Bio) (found : bio_among s.traffic.bios b ≡ Some (as_bio b row)) where
  -- its number tells nothing of its way
  way_is : (way : Way) → way_of s.topo.topology (as_bio 0 row) ≡ way → way_of s.topo.topology (as_bio b row) ≡ way
  way_is way is =
      way_plain s.topo.topology (as_bio b row) ∙ sym (way_plain s.topo.topology (as_bio 0 row)) ∙ is

  -- pieces into which it can be split
  module _ (firm : IsFirm s) (cut : Cut) where
    pub split_well : GoesBy s.topo.topology cut Splits (way_of s.topo.topology (as_bio 0 row)) → CutWell s cut
    split_well its =
        well_cut s cut its.targets its.cut
        (splits_well s firm b (as_bio b row) found its.targets (way_is (Splits its.targets) its.is))

    pub pass_well : (g : ℕ) → GoesBy s.topo.topology cut (Passes g) (way_of s.topo.topology (as_bio 0 row))
        → CutWell s cut
    pass_well g its =
        well_cut s cut its.targets its.cut
        (passes_well s firm b (as_bio b row) found g its.targets (way_is (Passes g its.targets) its.is))

  module _ (new : State) (down : IsTrue (has_phase is_down s.traffic.bios b)) where
    -- it went its way
    pub went : (way : Way) (out : Outcome) → way_of s.topo.topology (as_bio 0 row) ≡ way
        → HasStarted s new b (as_bio b row) way out → StartIsMade s new b (Ok out)
    went way out is started = record {
      made = makes_started s new b (as_bio b row) way out found started (rw found at down) (way_is way is);
      logged = λ log. logged_started s new b (as_bio b row) way out found started (length log);
    }

    -- it went in pieces, if memory wasn't wanting
    pub went_by : (cut : Cut) (named : List PieceTarget → Way) (r : Result Outcome NoMemory)
        → GoesBy s.topo.topology cut named (way_of s.topo.topology (as_bio 0 row))
        → ((zs : List PieceTarget) → IsCut s.topo.topology cut zs
        → IfSome (bio_among s.traffic.bios b) (λ x. IfOk r (λ o. HasStarted s new b x (named zs) o)))
        → OnErr r (new.traffic.bios ≡ s.traffic.bios) → StartIsMade s new b r
    went_by cut named (Ok out) its started stay =
        went (named its.targets) out its.is (rw found at (started its.targets its.cut))
    went_by cut named (Err m) its started stay = record {
      made = λ log. tt;
      logged = λ log logged. subst (AreLogged (length log)) (sym stay) logged;
    }
