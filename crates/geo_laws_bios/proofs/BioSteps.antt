-- The four steps of bios keep a mesh firm.
use Rattle.std.specs.Prelude.{◌≡◌, ℕ, ◌+◌, ◌==◌, Bool, true, false, List, Option, Some, None, ◌⊎◌, ◌/◌, ◌<◌, ◌≤◌, not, ◌&&◌, [], ◌∷◌, length, map, filter, find, count_by, All, Contains, IsSome, IsSomeAnd, IfSome, IsTrue, unwrap_or}
use Rattle.std.proofs.Common.{refl, sym, ◌∙◌, ap, subst, inl, inr, arith}
use Rattle.std.proofs.lemmas.Bool.{eqb-true, eq-eqb, not_from_false, not-true, and_right, or_left, false_from_ne_true}
use Rattle.std.specs.List.{list_any}
use Rattle.std.specs.Option.{option_map_or, option_map}
use Rattle.std.proofs.lemmas.List.Elements.{All-filter, All-weaker, All-contains, All-contains_itself}
use Rattle.std.proofs.lemmas.List.Kept.{AllPairs-filter}
use Rattle.std.proofs.lemmas.List.Sums.{length-filter}
use Rattle.geo_model.specs.declared.step.Outcome.{Outcome}
use Rattle.geo_model.specs.Topology.{Topology, Geom, Provider, geom_at, provider_at, is_errored, note_started, Consumer, consumer_at, providers_of}
use Rattle.geo_model.specs.World.{World, Bio, Config, Disk, Nop, bio_at, is_down, Handle, Taste, Asked, ReadOut, ReadBack, granted_in, taste_grant, is_root, is_taste_root, is_read_out, is_waiting, is_done, is_up}
use Rattle.geo_model.specs.Place.{disk_of}
use Rattle.geo_model.specs.Bios.{Way, Bounces, Fails, Sends, Splits, Passes, PieceTarget, way_at, way_of, is_hit, piece_targets, start_by, split_bio, up, up_to}
use Rattle.geo_model.specs.Step.{start_of, up_of, step}
use Rattle.geo_model.specs.Log.{world_after}
use Rattle.geo_model.specs.Fitting.{Firm, DemandHolds, IsAskedInOrder, IsOneSector, BiosOf}
use Rattle.geo_model.proofs.WayLemmas.{starts_in_parts}
use Rattle.geo_model.proofs.Options.{some_weaker, some_and_of}
use Rattle.geo_model.proofs.FindLists.{none_passes, any-kept_some, some-passes}
use Rattle.geo_model.specs.Counts.{Counts}
use Rattle.geo_model.specs.Kind.{Kind}
use Rattle.geo_model.specs.Kind.TheVariants as kinds
use Rattle.geo_model.specs.declared.step.BioResult.{BioResult}
use Rattle.geo_model.specs.declared.step.BioResult.TheVariants as results
use Rattle.geo_model.specs.declared.step.Owner.{Owner}
use Rattle.geo_model.specs.declared.step.Owner.TheVariants as owners
use Rattle.geo_model.specs.Words.{is_kind, is_granted_kind, is_read, names_number}
use Rattle.geo_model.specs.Demand.{have, want, is_zero, no_counts}
use Rattle.geo_model.specs.Sound.{IsTasting, HasItsConsumer, LeadsDown, IsPlaced, IsTasteInOrder, HasItsChain, ChainHolds, class_asked, IsOfItsClass}
use Rattle.geo_model.specs.SoundBios.{IsBioInOrder, IsFamilyInOrder, HasCountFor, NotBothBusy}
use Rattle.geo_model.specs.Steady.{HasItsComponents, ComesFromItsOwner, HasItsResult, FitsBio}
use Rattle.geo_laws_graph.proofs.Numbered.{any-contained, number_found}
use Rattle.geo_laws_graph.proofs.Classes.{granted_is}
use Rattle.geo_laws_graph.proofs.Lists.{numbers-kept, filter-filter, found_itself, changed, changed-keeps, find-changed}
use Rattle.geo_laws_graph.proofs.Living.{if_some_weaker}
use Rattle.geo_laws_graph.proofs.Members.{find-Contains, filter-Contains, Contains-filter, Contains-cases, nothing_in, at_contained}
use Rattle.geo_laws_counts.specs.CountWords.{IsAtMost, AreAtMost}
use Rattle.geo_laws_counts.proofs.Sums.{at_most-same, at_most-zero, at_most-under, zero-test}
use Rattle.geo_laws_counts.proofs.Levels.{have-at_most}
use Rattle.geo_laws_counts.proofs.Keeping.{exclusive_less, limit_less}
use Rattle.geo_laws_counts.proofs.Wants.{granted_want}
use Rattle.geo_laws_bios.specs.StartLaws.{StartsStayFirm}
use Rattle.geo_laws_bios.proofs.Restarted.{noted_stays_firm}
use Rattle.geo_laws_bios.proofs.Turned.{found_there, bounces_stay_firm, fails_stay_firm, sends_stay_firm, not_waiting, HasItsDisk, HasItsOwner, ReadsSector, takes_stay_firm, delivers_stay_firm}
use Rattle.geo_laws_bios.proofs.Splitting.{split_firm}
use Rattle.geo_laws_bios.specs.UpLaws.{TasteUpsStayFirm, UpsStayFirm}
use Rattle.geo_laws_bios.proofs.Ascending.{family_kept, has_result, line_ups_stay_firm, child_ups_stay_firm}
use Rattle.geo_laws_bios.specs.PieceLaws.{SourceServes}
use Rattle.geo_laws_bios.proofs.Serving.{all_serve}
use Rattle.geo_laws_bios.specs.BioStepLaws.{BioStepsStayFirm}

-- where a bio is split: a provider, its geom, and the pieces
pub record SplitsAt (t : Topology Config) (x : Bio) (targets : List PieceTarget) : Type 0 where
  pub provider : Provider
  pub geom : Geom Config
  pub to_it : provider_at t x.target ≡ Some provider
  pub of_it : geom_at t provider.geom ≡ Some geom
  pub no_disk : disk_of geom.config ≡ None
  pub are : targets ≡ piece_targets geom.config provider x

-- a way by which a bio is split
abbrev pub splits_by : Way → Option (List PieceTarget)
splits_by (Splits targets) = Some targets
splits_by (Passes geom targets) = Some targets
splits_by _ = None

-- a NOP geom
nop_splits : (x : Bio) (p : Provider) (g : Geom Config) (below : Option ℕ) (offset fail : ℕ)
    (targets : List PieceTarget) (b : Bool)
    → is_hit (g.started + 1) fail ≡ b → splits_by (way_at x p g (Nop below offset fail)) ≡ Some targets
    → targets ≡ piece_targets g.config p x
nop_splits x p g below offset fail targets true e way = let bad : None ≡ Some targets = rw e at way in absurd cc
nop_splits x p g below offset fail targets false e way = let is : Some (piece_targets g.config p x) ≡ Some targets =
    rw e at way in cc

-- the pieces of a way, and that the geom isn't that of a disk
way_splits : (x : Bio) (p : Provider) (g : Geom Config) (targets : List PieceTarget) (config : Config)
    → g.config ≡ config
    → splits_by (way_at x p g config) ≡ Some targets
    → (targets ≡ piece_targets g.config p x) × (disk_of g.config ≡ None)
way_splits x p g targets (Disk disk) is way = absurd (let bad : None ≡ Some targets = way in cc)
way_splits x p g targets (Nop below offset fail) is way =
    (nop_splits x p g below offset fail targets (is_hit (g.started + 1) fail) refl way, ap disk_of is)
way_splits x p g targets config is way = (
  let e : piece_targets config p x ≡ targets = cc in
      sym e ∙ ap (λ (c : Config). piece_targets c p x) (sym is),
  ap disk_of is,
)

module _ (t : Topology Config) (x : Bio) (targets : List PieceTarget) where
  -- by the geom
  splits_geom : (p : Provider) (o : Option (Geom Config)) → is_errored t x.target ≡ false
      → provider_at t x.target ≡ Some p → geom_at t p.geom ≡ o
      → splits_by (way_of t x) ≡ Some targets → SplitsAt t x targets
  splits_geom p None fine e f way = let bad : None ≡ Some targets = rw (fine, e, f) at way in absurd cc
  splits_geom p (Some g) fine e f way =
      let both = way_splits x p g targets g.config refl (rw (fine, e, f) at way) in
      record { provider = p; geom = g; to_it = e; of_it = f; no_disk = both.1; are = both.0 }

  -- by the provider
  splits_provider : (o : Option Provider) → is_errored t x.target ≡ false → provider_at t x.target ≡ o
      → splits_by (way_of t x) ≡ Some targets → SplitsAt t x targets
  splits_provider None fine e way = let bad : None ≡ Some targets = rw (fine, e) at way in absurd cc
  splits_provider (Some p) fine e way = splits_geom p (geom_at t p.geom) fine e refl way

  -- by whether the provider carries an error
  splits_fine : (b : Bool) → is_errored t x.target ≡ b → splits_by (way_of t x) ≡ Some targets → SplitsAt t x targets
  splits_fine true e way = let bad : None ≡ Some targets = rw e at way in absurd cc
  splits_fine false e way = splits_provider (provider_at t x.target) e refl way

  -- a way by which the bio is split
  pub splits_at : splits_by (way_of t x) ≡ Some targets → SplitsAt t x targets
  splits_at way = splits_fine (is_errored t x.target) refl way

-- the bio is split in the mesh as it is
split_here : (w : World) (x : Bio) (targets : List PieceTarget) → bio_at w x.number ≡ Some x
    → is_down x.phase ≡ true → SplitsAt w.topology x targets
    → Firm w → Firm (split_bio w x targets).0
split_here w x targets found down s firm =
    subst (λ (zs : List PieceTarget). Firm (split_bio w x zs).0) (sym s.are)
    (split_firm w firm x found down s.provider s.geom s.to_it s.of_it s.no_disk)

-- where a bio is split, once a request more is counted somewhere
pub counted_elsewhere : (t : Topology Config) (x : Bio) (targets : List PieceTarget) (n : ℕ) → SplitsAt t x targets
    → SplitsAt (note_started t n) x targets
counted_elsewhere t x targets n s =
    let hit : Geom Config → Bool = λ v. v.number == n in
    let count : Geom Config → Geom Config = λ v. record v { started = v.started + 1 } in
    let config : (changed hit count s.geom).config ≡ s.geom.config =
    changed-keeps hit count (λ (v : Geom Config). v.config) (λ v e. refl) s.geom in
    record {
      provider = s.provider;
      geom = changed hit count s.geom;
      to_it = s.to_it;
      of_it = find-changed hit count (λ (v : Geom Config). v.number == s.provider.geom) (λ v e. refl) t.geoms
          ∙ ap (option_map (changed hit count)) s.of_it;
      no_disk = ap disk_of config ∙ s.no_disk;
      are = s.are ∙ ap (λ (c : Config). piece_targets c s.provider x) (sym config);
    }

-- by the way
start_by_way : (w : World) (b : ℕ) (x : Bio) (way : Way) → bio_at w b ≡ Some x → is_down x.phase ≡ true
    → way_of w.topology x ≡ way
    → Firm w → Firm (start_by w x way).0
start_by_way w b x (Bounces e) found down is firm = bounces_stay_firm w b x e found down firm
start_by_way w b x (Fails g) found down is firm = fails_stay_firm w b x g found down firm
start_by_way w b x (Sends disk) found down is firm = sends_stay_firm w b x disk found down is firm
start_by_way w b x (Splits targets) found down is firm =
    split_here w x targets (found_there w b x found) down (splits_at w.topology x targets (ap splits_by is)) firm
start_by_way w b x (Passes n targets) found down is firm =
    let s = splits_at w.topology x targets (ap splits_by is) in
    split_here (record w { topology = note_started w.topology n }) x targets (found_there w b x found) down
    (counted_elsewhere w.topology x targets n s) (noted_stays_firm w n firm)

-- by whether the bio is Down
start_down : (w : World) (b : ℕ) (x : Bio) (down : Bool) → bio_at w b ≡ Some x → is_down x.phase ≡ down → Firm w
    → Firm (world_after w (start_of w (Some x)))
start_down w b x true found e firm =
    rw e (subst (λ (made : World × Outcome). Firm made.0) (sym (starts_in_parts w x))
    (start_by_way w b x (way_of w.topology x) found e refl firm))
start_down w b x false found e firm = rw e firm

-- by the bio
start_at_bio : (w : World) (b : ℕ) (o : Option Bio) → bio_at w b ≡ o → Firm w → Firm (world_after w (start_of w o))
start_at_bio w b None found firm = firm
start_at_bio w b (Some x) found firm = start_down w b x (is_down x.phase) found refl firm

-- a Start keeps a mesh firm
pub starts_stay_firm : StartsStayFirm
starts_stay_firm w b firm = start_at_bio w b (bio_at w b) refl firm

-- The read of a taste comes back: its root goes, the taste has the result, and nothing is granted to it.

-- Lists

-- a list of at most one item that has one, has just that
single : {X : Type 0} (x : X) (xs : List X) → length xs ≤ 1 → Contains xs x → xs ≡ x ∷ []
single x [] short here = absurd (nothing_in x here)
single x (y ∷ []) short here = elim (Contains-cases y x [] here) [
  | inl same ↦ ap (λ z. z ∷ []) same
  | inr rest ↦ absurd (nothing_in x rest)
]
single x (y ∷ z ∷ zs) short here = absurd (omega (arith, short))

-- where nothing is kept, nothing passes
any_none : {X : Type 0} (test : X → Bool) (xs : List X) → filter test xs ≡ [] → list_any test xs ≡ false
any_none test xs none = any-kept_some test xs ∙ ap (λ ys. not (length ys == 0)) none

-- where nothing passes, nothing is kept
filter_none : {X : Type 0} (test : X → Bool) (x : X) → test x ≡ false → filter test (x ∷ []) ≡ []
filter_none test x out = rw out refl

-- Grants

-- a taste's read is out, so it is asked so
record IsOut (a : Asked) : Type 0 where
  kind : Kind
  is : a ≡ ReadOut kind

-- by how far the class is asked
is_out : (a : Asked) → is_read_out a ≡ true → IsOut a
is_out (ReadOut kind) out = record { kind = kind; is = refl }
is_out _ out = absurd cc

module _ (w : World) (x : Bio) (s : Taste) (kind : Kind) where
  -- the result of the read
  abbrev got : BioResult
  got = unwrap_or x.result results.Done

  -- the taste then
  abbrev read : Taste
  read = record s { asked = ReadBack kind got }

  -- whether a bio is the root
  abbrev is_it : Bio → Bool
  is_it z = z.number == x.number

  -- the bios that stay
  abbrev staying : List Bio
  staying = filter (λ z. not (is_it z)) w.bios

  -- the world then
  abbrev pub tasted : World
  tasted = record w { bios = staying; taste = Some read }

  -- the graph
  abbrev t : Topology Config
  t = w.topology

  -- nothing is granted to the taste then
  nothing : (c : ℕ) → taste_grant (Some read) c ≡ no_counts
  nothing c = let out : ((s.consumer == c) && false) ≡ false = and_right (s.consumer == c) false refl in rw out refl

  -- so each grant is at most what it was
  less_by : (c : ℕ) (o : Option Handle)
      → IsAtMost (option_map_or (λ (h : Handle). h.grant) o (taste_grant (Some read) c))
      (option_map_or (λ (h : Handle). h.grant) o (taste_grant w.taste c))
  less_by c None = subst (λ (n : Counts). IsAtMost n (taste_grant w.taste c)) (sym (nothing c))
      (at_most-zero (taste_grant w.taste c))
  less_by c (Some h) = at_most-same h.grant

  -- all grants
  less : AreAtMost (granted_in tasted) (granted_in w)
  less c = less_by c (find (λ (h : Handle). names_number h.consumer c) w.handles)

  -- a provider that has a count then, had one
  count_was : (p : ℕ) → is_zero (have (granted_in tasted) t p) ≡ false → is_zero (have (granted_in w) t p) ≡ false
  count_was p some = false_from_ne_true (is_zero (have (granted_in w) t p)) (λ e.
      let none : have (granted_in w) t p ≡ no_counts = zero-test (have (granted_in w) t p) e in
      let gone : have (granted_in tasted) t p ≡ no_counts =
      at_most-under (have (granted_in tasted) t p) (have (granted_in w) t p)
      (have-at_most (granted_in tasted) (granted_in w) less t p) none in
      let zero : is_zero (have (granted_in tasted) t p) ≡ true = rw gone refl in
      cc)

  -- a geom that is open then, was open
  open_was : (ps : List Provider)
      → list_any (λ (p : Provider). not (is_zero (have (granted_in tasted) t p.number))) ps ≡ true
      → list_any (λ (p : Provider). not (is_zero (have (granted_in w) t p.number))) ps ≡ true
  open_was ps some =
      let p = some-passes (λ (p : Provider). not (is_zero (have (granted_in tasted) t p.number))) ps some in
      any-contained (λ (p : Provider). not (is_zero (have (granted_in w) t p.number))) ps p.item p.here
      (not_from_false (is_zero (have (granted_in w) t p.item.number))
      (count_was p.item.number (not-true (is_zero (have (granted_in tasted) t p.item.number)) p.passes)))

  -- a provider leads down
  leads_down : (p : Provider) → LeadsDown (granted_in w) t p → LeadsDown (granted_in tasted) t p
  leads_down p leads =
      some_weaker
      (λ (g : Geom Config). (is_zero (have (granted_in w) t p.number) ≡ false) ⊎ (g.withering ≡ false)
      → IsSome (disk_of g.config) ⊎ IsPlaced t g p)
      (λ (g : Geom Config). (is_zero (have (granted_in tasted) t p.number) ≡ false) ⊎ (g.withering ≡ false)
      → IsSome (disk_of g.config) ⊎ IsPlaced t g p)
      (λ g so used. so (elim used [ inl has_count ↦ inl (count_was p.number has_count) | inr stands ↦ inr stands ]))
      (geom_at t p.geom) leads

  -- a geom has its components
  components_kept : (g : Geom Config) → HasItsComponents (granted_in w) t g → HasItsComponents (granted_in tasted) t g
  components_kept g has used =
      has (elim used [ inl stands ↦ inl stands | inr is_open ↦ inr (open_was (providers_of t g.number) is_open) ])

  module _ (firm : Firm w) (found : bio_at w x.number ≡ Some x) (up : is_up x.phase ≡ true)
      (owner : x.owner ≡ owners.Taste)
      (is : w.taste ≡ Some s) (asked : s.asked ≡ ReadOut kind) (to_it : s.provider ≡ x.target) where
    -- the bios before
    hold : BiosOf w
    hold = firm.bios

    -- the root stands
    here : Contains w.bios x
    here = find-Contains is_it w.bios x found

    -- the taste's consumer
    tasting : IsTasting t read
    tasting =
        let was : IsTasting t s = rw is at firm.handles.taste in
        record { consumer = was.consumer; alone = was.alone; number = was.number; attached = was.attached }

    -- what is granted then
    demand_kept : DemandHolds (granted_in tasted) t
    demand_kept = record {
      counts = record {
        exclusive = exclusive_less (granted_in tasted) (granted_in w) less t firm.demand.counts.exclusive;
        limited = limit_less (granted_in tasted) (granted_in w) less t firm.demand.counts.limited;
      };
      places = All-weaker (LeadsDown (granted_in w) t) (LeadsDown (granted_in tasted) t) leads_down
          t.providers firm.demand.places;
      components = All-weaker (HasItsComponents (granted_in w) t) (HasItsComponents (granted_in tasted) t)
          components_kept t.geoms firm.demand.components;
    }

    -- the chain
    chain_kept : IsTasteInOrder t s → HasItsChain t read
    chain_kept order ebr =
        let asks : class_asked s.asked ≡ Some kinds.Ebr =
        subst (λ (a : Asked). class_asked a ≡ Some kinds.Ebr) (sym asked) ebr in
        if_some_weaker (λ (p : Provider). ChainHolds (p.size / p.sector) s.asked s.reads s.chain)
        (λ (p : Provider). ChainHolds (p.size / p.sector) (ReadBack kind got) s.reads s.chain)
        (λ p was. let out : ChainHolds (p.size / p.sector) (ReadOut kind) s.reads s.chain =
        subst (λ (a : Asked). ChainHolds (p.size / p.sector) a s.reads s.chain) asked was in
        record {
          reads = out.reads;
          few = out.few;
          parts = out.parts;
          sector = tt;
          zero = out.zero;
          inside = out.inside;
          near = out.near;
          apart = out.apart;
          new = out.new;
        })
        (provider_at t s.provider) (order.chain asks)

    -- the taste is in order
    taste_kept : IsTasteInOrder t read
    taste_kept =
        let order : IsTasteInOrder t s =
        subst (λ (o : Option Taste). IfSome o (IsTasteInOrder t)) is firm.taste.order in
        record { rank = order.rank; reads = rw asked at order.reads; chain = chain_kept order }

    -- the result is one sector, by the result
    sector_by : (p : Provider) (o : Option BioResult) → IsSomeAnd o (FitsBio x) → x.len ≡ p.sector
        → IsOneSector p (unwrap_or o results.Done)
    sector_by p None has len = absurd has
    sector_by p (Some (results.Bytes bytes)) has len = has.1 ∙ len
    sector_by p _ has len = tt

    -- the root read one sector, by the provider
    one_by : (o : Option Provider) → IsSomeAnd o (λ p. x.len ≡ p.sector)
        → IfSome o (λ p. IsAskedInOrder t p (ReadOut kind)) → IfSome o (λ p. IsAskedInOrder t p (ReadBack kind got))
    one_by None len was = tt
    one_by (Some p) len was =
        (was, sector_by p x.result (has_result w x hold found (or_left (is_up x.phase) (is_done x.phase) up)) len)

    -- how far the class is asked
    asked_kept : IfSome (provider_at t s.provider) (λ p. IsAskedInOrder t p (ReadBack kind got))
    asked_kept =
        let was : IfSome (provider_at t s.provider) (λ p. IsAskedInOrder t p s.asked) = rw is at firm.taste.asked in
        let out : IfSome (provider_at t s.provider) (λ p. IsAskedInOrder t p (ReadOut kind)) =
        subst (λ (a : Asked). IfSome (provider_at t s.provider) (λ p. IsAskedInOrder t p a)) asked was in
        let sector : IsSomeAnd (provider_at t x.target) (λ p. x.len ≡ p.sector) =
        All-contains (ReadsSector w) w.bios x hold.read.sector here (rw owner refl) in
        one_by (provider_at t s.provider)
        (subst (λ (n : ℕ). IsSomeAnd (provider_at t n) (λ p. x.len ≡ p.sector)) (sym to_it) sector) out

    -- no other bio reads for the taste
    no_reads : filter (λ (z : Bio). is_taste_root z.owner) staying ≡ []
    no_reads =
        let short : length (filter (λ (z : Bio). is_taste_root z.owner) w.bios) ≤ 1 =
        subst (λ (n : ℕ). n ≤ 1) (sym (length-filter (λ (z : Bio). is_taste_root z.owner) w.bios)) hold.read.one in
        let reads : is_taste_root x.owner ≡ true = rw owner refl in
        let goes : not (is_it x) ≡ false = (let e : is_it x ≡ true = eq-eqb x.number x.number refl in rw e refl) in
        filter-filter (λ (z : Bio). not (is_it z)) (λ (z : Bio). is_taste_root z.owner) w.bios
        ∙ ap (λ (zs : List Bio). filter (λ z. not (is_it z)) zs)
        (single x (filter (λ (z : Bio). is_taste_root z.owner) w.bios) short
        (Contains-filter (λ (z : Bio). is_taste_root z.owner) w.bios x here reads))
        ∙ filter_none (λ (z : Bio). not (is_it z)) x goes

    -- whether any does
    none_reads : list_any (λ (z : Bio). is_taste_root z.owner) staying ≡ false
    none_reads = any_none (λ (z : Bio). is_taste_root z.owner) staying no_reads

    -- what a handle's consumer is granted stays
    grant_by : (h : Handle) (c : ℕ) → Contains w.handles h → h.consumer ≡ Some c → (o : Option Handle)
        → find (λ (v : Handle). names_number v.consumer c) w.handles ≡ o
        → granted_in tasted c ≡ granted_in w c
    grant_by h c stands names None e =
        let named : names_number h.consumer c ≡ true = rw names (eq-eqb c c refl) in
        let not_named : names_number h.consumer c ≡ false =
        at_contained (λ (v : Handle). names_number v.consumer c ≡ false) w.handles h
        (none_passes (λ (v : Handle). names_number v.consumer c) w.handles e) stands in
        absurd cc
    grant_by h c stands names (Some v) e = rw e refl

    -- a consumer of DEV, whose grant stays, wants what it wanted
    dev_wants : (c : Consumer) → c.geom ≡ 1 → granted_in tasted c.number ≡ granted_in w c.number
        → want (granted_in tasted) t c ≡ want (granted_in w) t c
    dev_wants c dev same =
        let g = some_and_of (λ (g : Geom Config). g.withering ≡ false) (geom_at t 1) firm.graph.ranks.dev.stands in
        let class : IsOfItsClass g.0 = All-contains IsOfItsClass t.geoms g.0 firm.graph.numbers.classes
        (find-Contains (λ (v : Geom Config). v.number == 1) t.geoms g.0 g.1) in
        let one : g.0.number ≡ 1 = number_found (λ (v : Geom Config). v.number) t.geoms 1 g.0 g.1 in
        let is_dev : is_kind g.0.kind kinds.Dev ≡ true = class.dev ∙ eq-eqb g.0.number 1 one in
        let geom : geom_at t c.geom ≡ Some g.0 = subst (λ (n : ℕ). geom_at t n ≡ Some g.0) (sym dev) g.1 in
        let grants : is_granted_kind g.0.kind ≡ true = granted_is g.0.kind ∙ rw is_dev refl in
        rw geom (granted_want g.0.kind
        (map (λ (v : Provider). have (granted_in tasted) t v.number) (providers_of t g.0.number))
        (granted_in tasted c.number) grants
        ∙ same ∙ sym
        (granted_want g.0.kind (map (λ (v : Provider). have (granted_in w) t v.number) (providers_of t g.0.number))
        (granted_in w c.number) grants))

    -- the source of a root of a line, by the handle
    line_serves : (z : Bio) → Contains w.bios z → (handle : ℕ)
        → IsSomeAnd (find (λ (h : Handle). h.number == handle) w.handles) (λ h. h.consumer ≡ Some z.source)
        → SourceServes (granted_in tasted) t z
    line_serves z stands handle has =
        let h = some_and_of (λ (h : Handle). h.consumer ≡ Some z.source)
        (find (λ (h : Handle). h.number == handle) w.handles) has in
        let h_stands : Contains w.handles h.0 =
        find-Contains (λ (v : Handle). v.number == handle) w.handles h.0 h.1 in
        let of_it : HasItsConsumer t h.0 =
        All-contains (HasItsConsumer t) w.handles h.0 firm.handles.handles h_stands in
        let dev : IsSomeAnd (consumer_at t z.source) (λ v. v.geom ≡ 1) = rw h.2 at of_it in
        let c = some_and_of (λ (v : Consumer). v.geom ≡ 1) (consumer_at t z.source) dev in
        let order : IsBioInOrder (granted_in w) t z =
        All-contains (IsBioInOrder (granted_in w) t) w.bios z hold.order stands in
        let has : (c.0.provider ≡ Some z.target) × HasCountFor (granted_in w) t z c.0 = rw c.1 at order.source in
        let number : c.0.number ≡ z.source = number_found (λ (v : Consumer). v.number) t.consumers z.source c.0 c.1 in
        let grant : granted_in tasted c.0.number ≡ granted_in w c.0.number =
        subst (λ (n : ℕ). granted_in tasted n ≡ granted_in w n) (sym number)
        (grant_by h.0 z.source h_stands h.2 (find (λ (v : Handle). names_number v.consumer z.source) w.handles) refl) in
        rw c.1 (
          has.0,
          subst (λ (n : Counts). (IsTrue (is_read z.cmd) → 0 < n.r) × (is_read z.cmd ≡ false → 0 < n.w))
              (sym (dev_wants c.0 c.2 grant)) has.1,
        )

    -- the source of a root that stays, by its owner
    root_serves : (z : Bio) → Contains w.bios z → not (is_it z) ≡ true → (o : Owner) → z.owner ≡ o
        → is_root z.owner ≡ true → SourceServes (granted_in tasted) t z
    root_serves z stands kept (owners.Line handle line) e root =
        let comes : HasItsOwner w z = All-contains (HasItsOwner w) w.bios z hold.owners stands in
        line_serves z stands handle (rw e at comes)
    root_serves z stands kept owners.Taste e root =
        let reads : is_taste_root z.owner ≡ true = rw e refl in
        let some : list_any (λ (v : Bio). is_taste_root v.owner) staying ≡ true =
        any-contained (λ (v : Bio). is_taste_root v.owner) staying z
        (Contains-filter (λ (v : Bio). not (is_it v)) w.bios z stands kept) reads in
        let none : list_any (λ (v : Bio). is_taste_root v.owner) staying ≡ false = none_reads in
        absurd cc
    root_serves z stands kept (owners.Child parent index) e root =
        let no_root : is_root z.owner ≡ false = rw e refl in
        absurd cc

    -- what is Waiting stays
    waiting_stays : (z : Bio) → Contains w.bios z → is_waiting z.phase ≡ true → not (is_it z) ≡ true
    waiting_stays z stands waits = not_from_false (is_it z) (false_from_ne_true (is_it z) (λ e.
        let itself : bio_at w z.number ≡ Some z =
        found_itself (λ (v : Bio). v.number) w.next_bio w.bios z hold.numbers stands in
        let there : bio_at w x.number ≡ Some z =
        subst (λ (n : ℕ). bio_at w n ≡ Some z) (eqb-true z.number x.number e) itself in
        let same : z ≡ x = cc in
        let x_waits : is_waiting x.phase ≡ true = subst (λ (v : Bio). is_waiting v.phase ≡ true) same waits in
        let not_it : is_waiting x.phase ≡ false = not_waiting is_up refl x.phase up in
        cc))

    -- so each bio that stays is in order
    order_kept : (z : Bio) → Contains staying z → IsBioInOrder (granted_in tasted) t z
    order_kept z stays =
        let both = filter-Contains (λ (v : Bio). not (is_it v)) w.bios z stays in
        let order : IsBioInOrder (granted_in w) t z =
        All-contains (IsBioInOrder (granted_in w) t) w.bios z hold.order both.0 in
        record {
          source = all_serve w firm (granted_in tasted) (λ (v : Bio). not (is_it v))
              (λ v stands root kept. root_serves v stands kept v.owner refl root)
              waiting_stays z both.0 both.1;
          target = order.target;
          bytes = order.bytes;
        }

    -- an owner stays
    owner_kept : (z : Bio) (o : Owner) → ComesFromItsOwner w.handles w.taste z o
        → ComesFromItsOwner w.handles (Some read) z o
    owner_kept z owners.Taste comes = rw is at comes
    owner_kept z _ comes = comes

    -- a fact of each bio that stays
    each_stays : (P Q : Bio → Type 0) → ((z : Bio) → Q z → P z) → All Q w.bios → All P staying
    each_stays P Q so facts = All-filter (λ (z : Bio). not (is_it z)) P w.bios (All-weaker Q P so w.bios facts)

    -- the bios
    bios_kept : BiosOf tasted
    bios_kept = record {
      numbers = numbers-kept (λ (z : Bio). z.number) (λ (z : Bio). not (is_it z)) w.next_bio w.bios hold.numbers;
      order = All-weaker (Contains staying) (IsBioInOrder (granted_in tasted) t) order_kept
          staying (All-contains_itself staying);
      families = each_stays (IsFamilyInOrder t staying) (IsFamilyInOrder t w.bios)
          (family_kept w x hold found (rw owner refl) (not_waiting is_up refl x.phase up)) hold.families;
      disks = record {
        at_disk = All-filter (λ (z : Bio). not (is_it z)) (HasItsDisk w) w.bios hold.disks.at_disk;
        one_busy = AllPairs-filter (NotBothBusy t) (λ (z : Bio). not (is_it z)) w.bios hold.disks.one_busy;
      };
      read_out = (
        (λ some. let none : list_any (λ (z : Bio). is_taste_root z.owner) staying ≡ false = none_reads in
            absurd cc),
        (λ out. absurd cc),
      );
      owners = each_stays (λ (z : Bio). ComesFromItsOwner w.handles (Some read) z z.owner)
          (HasItsOwner w) (λ z comes. owner_kept z z.owner comes) hold.owners;
      results = All-filter (λ (z : Bio). not (is_it z)) HasItsResult w.bios hold.results;
      read = record {
        one =
            let count : count_by (λ (z : Bio). is_taste_root z.owner) staying ≡ 0 =
            sym (length-filter (λ (z : Bio). is_taste_root z.owner) staying)
            ∙ ap (λ (zs : List Bio). length zs) no_reads in
            omega (arith, count);
        sector = All-filter (λ (z : Bio). not (is_it z)) (ReadsSector w) w.bios hold.read.sector;
      };
    }

    -- so the mesh is firm
    tasted_firm : Firm tasted
    tasted_firm = record {
      graph = firm.graph;
      demand = demand_kept;
      sizes = firm.sizes;
      handles = record {
        numbers = firm.handles.numbers;
        consumers = firm.handles.consumers;
        handles = firm.handles.handles;
        taste = tasting;
      };
      taste = record { living = firm.taste.living; order = taste_kept; asked = asked_kept };
      bios = bios_kept;
      commands = firm.commands;
    }

-- an Up of the root of a taste keeps a mesh firm
pub taste_ups_stay_firm : TasteUpsStayFirm
taste_ups_stay_firm w b x found up owner firm =
    let there : bio_at w x.number ≡ Some x = found_there w b x found in
    let here : Contains w.bios x = find-Contains (λ (v : Bio). v.number == x.number) w.bios x there in
    let comes : HasItsOwner w x = All-contains (HasItsOwner w) w.bios x firm.bios.owners here in
    let has : IsSomeAnd w.taste (λ s. (s.consumer ≡ x.source) × (s.provider ≡ x.target)) = rw owner at comes in
    let s = some_and_of (λ (s : Taste). (s.consumer ≡ x.source) × (s.provider ≡ x.target)) w.taste has in
    let any : list_any (λ (v : Bio). is_taste_root v.owner) w.bios ≡ true =
    any-contained (λ (v : Bio). is_taste_root v.owner) w.bios x here (rw owner refl) in
    let out : is_read_out s.0.asked ≡ true = rw s.1 at (firm.bios.read_out.0 any) in
    let asked = is_out s.0.asked out in
    let asked_is : s.0.asked ≡ ReadOut asked.kind = asked.is in
    let firm_then : Firm (tasted w x s.0 asked.kind) =
    tasted_firm w x s.0 asked.kind firm there up owner s.1 asked_is s.2.1 in
    rw (s.1, asked_is) firm_then

-- An Up keeps a mesh firm, whoever the owner of the bio is.

-- by the owner
up_by_owner : (w : World) (b : ℕ) (x : Bio) → bio_at w b ≡ Some x → is_up x.phase ≡ true → (o : Owner) → x.owner ≡ o
    → Firm w → Firm (up_to w x o).0
up_by_owner w b x found up (owners.Line handle line) e firm = line_ups_stay_firm w b x handle line found up e firm
up_by_owner w b x found up owners.Taste e firm = taste_ups_stay_firm w b x found up e firm
up_by_owner w b x found up (owners.Child parent index) e firm = child_ups_stay_firm w b x parent index found up e firm

-- by whether the bio is Up
up_by_phase : (w : World) (b : ℕ) (x : Bio) (is : Bool) → bio_at w b ≡ Some x → is_up x.phase ≡ is → Firm w
    → Firm (world_after w (up_of w (Some x)))
unfolding up
up_by_phase w b x true found e firm = rw e (up_by_owner w b x found e x.owner refl firm)
up_by_phase w b x false found e firm = rw e firm

-- by the bio
up_at : (w : World) (b : ℕ) (o : Option Bio) → bio_at w b ≡ o → Firm w → Firm (world_after w (up_of w o))
up_at w b None found firm = firm
up_at w b (Some x) found firm = up_by_phase w b x (is_up x.phase) found refl firm

-- an Up keeps a mesh firm
pub ups_stay_firm : UpsStayFirm
ups_stay_firm w b firm = up_at w b (bio_at w b) refl firm

-- The four steps of bios, together.

-- all four
pub bio_steps_stay_firm : BioStepsStayFirm
unfolding step
bio_steps_stay_firm = record {
  start = λ w seat b firm. starts_stay_firm w b firm;
  take = λ w seat disk b firm. takes_stay_firm w seat disk b firm;
  deliver = λ w seat b got firm. delivers_stay_firm w seat b got firm;
  up = λ w seat b firm. ups_stay_firm w b firm;
}
