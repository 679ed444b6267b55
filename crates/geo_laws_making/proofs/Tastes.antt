-- Each change of a taste leaves a firm world firm.
use Rattle.std.specs.Prelude.{◌≡◌, ◌↔◌, ℕ, ◌==◌, Bool, true, false, ◌&&◌, List, find, Option, Some, IsSomeAnd, IfSome, IsTrue, if◌then◌else◌, ◌≢◌, ◌<◌, not, [], filter, None, All, Contains, ◌⊎◌, IsSome, ◌+◌, ◌*◌, ◌/◌, ◌%◌, ◌≤◌, ◌||◌, ◌∷◌, ◌++◌, length, map, count_by}
use Rattle.std.specs.List.{list_any, enumerate_from, list_all}
use Rattle.std.specs.Option.{option_map_or}
use Rattle.std.proofs.Common.{refl, sym, ◌∙◌, ap, subst, inr, arith, inl}
use Rattle.geo_base.specs.declared.kind.Kind.{Kind}
use Rattle.geo_model.specs.declared.step.Owner.{Owner}
use Rattle.geo_model.specs.declared.step.Owner.TheVariants as owners
use Rattle.geo_model.specs.Words.{names_number, is_read}
use Rattle.geo_model.specs.Topology.{Topology, Consumer, consumer_at, consumers_of, remove_consumer, Geom, Provider, geom_at, providers_of, is_errored, is_withering, provider_at}
use Rattle.geo_model.specs.Demand.{no_counts, one_read, want, is_zero, have}
use Rattle.geo_model.specs.Chain.{Chain}
use Rattle.geo_model.specs.World.{World, Config, Handle, Taste, Asked, Bio, granted_in, taste_grant, is_read_out, is_taste_root, ReadOut, bio_at, children_of, is_waiting, is_done, is_busy, is_sent, is_child_of}
use Rattle.geo_model.specs.Sound.{IsTasting, HasTasteConsumer, IsTasteInOrder, IsHandleConsumer, HasItsConsumer, IsPlaced, LeadsDown}
use Rattle.geo_model.specs.Steady.{ComesFromItsOwner, HasItsComponents, HasItsResult}
use Rattle.geo_model.specs.Fitting.{BiosOf, Firm}
use Rattle.geo_laws_life.proofs.Frames.{held-firm, Frame, went, has_its-still, framed-firm}
use Rattle.geo_laws_life.proofs.Killed.{grants-same}
use Rattle.geo_laws_making.specs.TasteLaws.{taste_asking, world_with_taste, IsAsking, IsGranted, TastesStayFirm}
use Rattle.std.proofs.lemmas.Bool.{eq-eqb, eqb-true, ne_eqb, cases_eq, not-false}
use Rattle.std.proofs.lemmas.List.Elements.{All-weaker, All-contains, All-push}
use Rattle.geo_model.specs.Tasting.{abort_taste, submit_read}
use Rattle.geo_model.specs.SoundBios.{HasCountFor, IsRangeInside, IsBioInOrder, IsFamilyInOrder, HasItsParent, shape_of_child, shape_of_piece, NotBothBusy}
use Rattle.geo_laws_graph.proofs.Members.{find-Contains, filter-Contains}
use Rattle.geo_laws_graph.proofs.Numbered.{any-contained, number_found, filter-pushed, filter-pushed_hit, any-pushed}
use Rattle.geo_laws_graph.proofs.Found.{removed-consumer}
use Rattle.geo_laws_graph.proofs.Holding.{sound-ranks}
use Rattle.geo_laws_counts.specs.CountWords.{DemandStays, AreAtMost, IsAtMost, AgreeExcept}
use Rattle.geo_laws_counts.proofs.Quiet.{granted_wants_nothing}
use Rattle.geo_laws_counts.proofs.Openers.{went_quietly, wants_grant}
use Rattle.geo_laws_life.proofs.Found.{one-found, found-with, some-with}
use Rattle.geo_laws_life.proofs.LessBios.{no_count}
use Rattle.geo_laws_making.proofs.Tasters.{order, tasting, taster, taster_here, taster_geom, taster_found, taster_only, taster_holds, taster_grant, none_has}
use Rattle.geo_base.proofs.FindLists.{some-passes, any-kept_some}
use Rattle.geo_base.specs.declared.request.Counts.{Counts}
use Rattle.geo_model.specs.Opens.{below, has_error_below, with_grant}
use Rattle.geo_model.specs.Place.{disk_of}
use Rattle.geo_laws_graph.proofs.Lists.{found_itself, numbers-push}
use Rattle.geo_laws_graph.proofs.Living.{all_members, found-before}
use Rattle.geo_laws_counts.proofs.Sums.{at_most-same, at_most-zero}
use Rattle.geo_laws_counts.proofs.Numbers.{numbers_lead}
use Rattle.geo_laws_counts.proofs.LimitFacts.{all_of}
use Rattle.geo_laws_counts.specs.DemandLaws.{DiffersAt, StaysAround}
use Rattle.geo_laws_counts.specs.AllowedLaws.{IsAllowed}
use Rattle.geo_laws_counts.proofs.Singles.{differing_stays}
use Rattle.geo_laws_counts.proofs.Refusing.{allowed}
use Rattle.std.proofs.Math.Bool.{or-true}
use Rattle.std.proofs.lemmas.List.Quantifiers.{all_pairs_push}
use Rattle.std.proofs.lemmas.List.Sums.{length-filter}
use Rattle.std.proofs.lemmas.List.{nil_from_length}
use Rattle.geo_base.specs.Sectors.{IsSectorSize}
use Rattle.geo_base.specs.declared.request.BioCmd.TheVariants as cmds
use Rattle.geo_base.specs.declared.limits.TheConstants.{MAX_REQUEST_BYTES}
use Rattle.geo_model.specs.Bios.{piece_targets, disk_at, new_bio}
use Rattle.geo_laws_counts.proofs.Levels.{want-at_most}

-- A taste goes on while no read of it is out: a firm world stays firm.

-- a taste of which no read is out has no grant
pub none_granted : (s : Taste) (c : ℕ) → is_read_out s.asked ≡ false → taste_grant (Some s) c ≡ no_counts
none_granted s c none = by (s.consumer == c) (is_read_out s.asked) none where
  -- by the two tests
  by : (a b : Bool) → b ≡ false → (if a && b then one_read else no_counts) ≡ no_counts
  by true true e = absurd (let no : ⊥ = cc in no)
  by true false e = refl
  by false b e = refl

module _ (w : World) (s : Taste) (classes : List Kind) (asked : Asked) (reads : ℕ) (chain : Chain) (firm : Firm w)
    (is : w.taste ≡ Some s) (before : is_read_out s.asked ≡ false) (after : is_read_out asked ≡ false)
    (asks : IsAsking w (taste_asking s classes asked reads chain)) where
  -- the taste then
  abbrev going_on : Taste
  going_on = taste_asking s classes asked reads chain

  -- and the world
  abbrev gone_on : World
  gone_on = world_with_taste w going_on

  -- all grants are as before
  grants_kept : granted_in gone_on ≡ granted_in w
  grants_kept =
      grants-same (granted_in gone_on) (granted_in w) (λ c.
      ap (λ z. option_map_or (λ (h : Handle). h.grant) (find (λ (h : Handle). names_number h.consumer c) w.handles) z)
      (none_granted going_on c after ∙ sym (none_granted s c before) ∙ sym (ap (λ o. taste_grant o c) is)))

  -- the taste was in order
  was_asked : IsTasteInOrder w.topology s
  was_asked = subst (λ (o : Option Taste). IfSome o (IsTasteInOrder w.topology)) is firm.taste.order

  -- it had its consumer
  had : IsTasting w.topology s
  had = subst (HasTasteConsumer w.topology) is firm.handles.taste

  -- a root comes from its owner
  root_kept : (x : Bio) (o : Owner) → ComesFromItsOwner w.handles w.taste x o
      → ComesFromItsOwner w.handles gone_on.taste x o
  root_kept x (owners.Line handle line) fact = fact
  root_kept x owners.Taste fact =
      subst (λ (o : Option Taste). IsSomeAnd o (λ z. (z.consumer ≡ x.source) × (z.provider ≡ x.target))) is fact
  root_kept x (owners.Child parent index) fact = fact

  -- no read is out, before and after
  none_read : IsTrue (list_any (λ (x : Bio). is_taste_root x.owner) w.bios) ↔ IsTrue (is_read_out asked)
  none_read =
      let none : IsTrue (list_any (λ (x : Bio). is_taste_root x.owner) w.bios) ↔ IsTrue (is_read_out s.asked) =
      subst (λ (o : Option Taste). IsTrue (list_any (λ (x : Bio). is_taste_root x.owner) w.bios)
      ↔ IsTrue (option_map_or (λ z. is_read_out z.asked) o false)) is firm.bios.read_out in
      subst (λ b. IsTrue (list_any (λ (x : Bio). is_taste_root x.owner) w.bios) ↔ IsTrue b) (before ∙ sym after) none

  -- so the world is firm
  pub asking-firm : Firm gone_on
  asking-firm =
      held-firm w firm gone_on grants_kept (record {
        numbers = firm.handles.numbers;
        consumers = firm.handles.consumers;
        handles = firm.handles.handles;
        taste = record { consumer = had.consumer; alone = had.alone; number = had.number; attached = had.attached };
      })
      (λ x. root_kept x x.owner) none_read
      (record { rank = was_asked.rank; reads = asks.reads; chain = asks.chain }) asks.asked

-- A taste of which no read is out ends: its consumer goes, and a firm world stays firm.

module _ (w : World) (firm : Firm w) (s : Taste) (is : w.taste ≡ Some s) (none : is_read_out s.asked ≡ false) where
  -- the graph before
  abbrev before : Topology Config
  before = w.topology

  -- the consumer that goes
  abbrev leaver : Consumer
  leaver = taster w firm s is

  -- the graph without it
  abbrev left : Topology Config
  left = remove_consumer before leaver.number

  -- the world without the taste
  abbrev without : World
  without = record w { topology = left; taste = None }

  -- Counts

  -- all grants are as before
  grants_still : (c : ℕ) → granted_in without c ≡ granted_in w c
  grants_still c =
      ap (λ z. option_map_or (λ (h : Handle). h.grant) (find (λ (h : Handle). names_number h.consumer c) w.handles) z)
      (sym (none_granted s c none) ∙ sym (ap (λ (o : Option Taste). taste_grant o c) is))

  -- the consumer wants nothing
  pub wants_none : want (granted_in w) before leaver ≡ no_counts
  wants_none = granted_wants_nothing (granted_in w) before leaver
      (taster_grant w firm s is ∙ none_granted s leaver.number none) (taster_holds w firm s is)

  -- demand stays
  demand_stays : DemandStays (granted_in w) before (granted_in without) left (Contains left.consumers)
  demand_stays = went_quietly (granted_in w) (granted_in without) before leaver (taster_only w firm s is)
      (taster_holds w firm s is)
      (λ n apart. grants_still n) (taster_grant w firm s is ∙ none_granted s leaver.number none)

  -- one consumer of TASTE goes
  one_goes : Frame before left 2
  one_goes = went before (order w firm) 2 leaver (taster_here w firm s is) (taster_geom w firm s is)

  -- TASTE has none
  no_taster : consumers_of left 2 ≡ []
  no_taster =
      removed-consumer.of before leaver.number 2
      ∙ ap (filter (λ (y : Consumer). not (y.number == leaver.number))) (tasting w firm s is).alone
      ∙ (let same : (leaver.number == leaver.number) ≡ true = eq-eqb leaver.number leaver.number refl in rw same refl)

  -- Bios

  -- a bio isn't from the one that goes
  source_apart : (z : Bio) (c : Consumer) → consumer_at before z.source ≡ Some c → HasCountFor (granted_in w) before z c
      → z.source ≢ leaver.number
  source_apart z c e counts same =
      let there : consumer_at before leaver.number ≡ Some c = subst (λ n. consumer_at before n ≡ Some c) same e in
      let one : leaver ≡ c = one-found (consumer_at before leaver.number) leaver c (taster_found w firm s is) there in
      let idle : want (granted_in w) before c ≡ no_counts =
      subst (λ x. want (granted_in w) before x ≡ no_counts) one wants_none in
      no_count (is_read z.cmd) (want (granted_in w) before c).r (want (granted_in w) before c).w (ap (λ a. a.r) idle)
      (ap (λ a. a.w) idle) counts

  -- so each source is found, and serves
  source_serves : (z : Bio) (c : Consumer) → consumer_at before z.source ≡ Some c
      → HasCountFor (granted_in w) before z c
      → (consumer_at left z.source ≡ Some c) × HasCountFor (granted_in without) left z c
  source_serves z c e counts =
      let found : consumer_at left z.source ≡ Some c =
      removed-consumer.others before leaver.number z.source (source_apart z c e counts) ∙ e in
      let same : want (granted_in without) left c ≡ want (granted_in w) before c =
      demand_stays.wants c (find-Contains (λ (x : Consumer). x.number == z.source) left.consumers c found) in
      (found, subst (λ a. (IsTrue (is_read z.cmd) → 0 < a.r) × (is_read z.cmd ≡ false → 0 < a.w)) (sym same) counts)

  -- no bio reads for the taste
  none_reads : list_any (λ (x : Bio). is_taste_root x.owner) w.bios ≡ true → ⊥
  none_reads some =
      let out : is_read_out s.asked ≡ true =
      subst (λ (o : Option Taste). option_map_or (λ z. is_read_out z.asked) o false ≡ true) is
      (firm.bios.read_out.0 some) in
      let no : true ≡ false = sym out ∙ none in cc

  -- so a root comes from its owner
  root_comes : (z : Bio) → Contains w.bios z → (o : Owner) → z.owner ≡ o → ComesFromItsOwner w.handles w.taste z o
      → ComesFromItsOwner w.handles None z o
  root_comes z here (owners.Line handle line) e fact = fact
  root_comes z here owners.Taste e fact =
      absurd (none_reads (any-contained (λ (x : Bio). is_taste_root x.owner) w.bios z here (ap is_taste_root e)))
  root_comes z here (owners.Child parent index) e fact = fact

  -- so the world is firm
  ended-firm : Firm without
  ended-firm = framed-firm w firm without 2 (inr refl) one_goes (record {
    ranks = sound-ranks.consumer_removed before leaver.number firm.graph.ranks firm.graph.parts.consumers;
    counts = record {
      exclusive = demand_stays.exclusive firm.demand.counts.exclusive;
      limited = demand_stays.limit firm.demand.counts.limited;
    };
    closed = λ p g here of withers zero. ap is_zero (demand_stays.haves p.number) ∙ zero;
    handles = record {
      numbers = firm.handles.numbers;
      consumers = subst (All (IsHandleConsumer w.handles)) (sym (one_goes.others 1 (λ e. absurd (omega (arith, e)))))
          firm.handles.consumers;
      handles = All-weaker (HasItsConsumer before) (HasItsConsumer left) (has_its-still before left (λ m c e one.
          one_goes.still m c e (λ two. let no : 1 ≡ 2 = sym one ∙ two in absurd (omega (arith, no))))) w.handles
          firm.handles.handles;
      taste = no_taster;
    };
    sources = λ z here. source_serves z;
    owners = λ z here. root_comes z here z.owner refl;
    read_out = ((λ some. absurd (none_reads some)), (λ out. absurd (let bad : ⊥ = cc in bad)));
    taste = tt;
    asked = tt;
  })

  -- the consumer is named by its number
  pub abort-firm : Firm (abort_taste w s)
  abort-firm =
      subst (λ n. Firm (record w { topology = remove_consumer before n; taste = None })) (tasting w firm s is).number
      ended-firm

-- A taste is granted one read, which is submitted: a firm world stays firm.

-- the range of one sector, by its size
record IsRange (sector offset len size : ℕ) : Type 0 where
  some : 1 ≤ len
  short : len ≤ MAX_REQUEST_BYTES
  first : offset % sector ≡ 0
  whole : len % sector ≡ 0
  inside : offset + len ≤ size

-- a sector of a provider is inside
range_of : (sector n size : ℕ) → IsSectorSize sector → n < size / sector → IsRange sector (n * sector) sector size
range_of sector n size (inl e) below =
    let low : n < size / 512 = subst (λ m. n < size / m) e below in
    subst (λ m. IsRange m (n * m) m size) (sym e)
    (record { some = omega arith; short = omega arith; first = omega arith; whole = refl; inside = omega arith })
range_of sector n size (inr e) below =
    let low : n < size / 4096 = subst (λ m. n < size / m) e below in
    subst (λ m. IsRange m (n * m) m size) (sym e)
    (record { some = omega arith; short = omega arith; first = omega arith; whole = refl; inside = omega arith })

-- who serves a bio, serves it with more counts
more_serve : (b : Bool) (a d : Counts) → IsAtMost a d → (IsTrue b → 0 < a.r) × (b ≡ false → 0 < a.w)
    → (IsTrue b → 0 < d.r) × (b ≡ false → 0 < d.w)
more_serve b a d le serves = (
  (λ reads. let some : 0 < a.r = serves.0 reads in let up : a.r ≤ d.r = le.r in omega arith),
  (λ other. let some : 0 < a.w = serves.1 other in let up : a.w ≤ d.w = le.w in omega arith),
)

module _ (w : World) (firm : Firm w) (s : Taste) (p : Provider) (granted : IsGranted w s p) (classes : List Kind)
    (kind : Kind) (reads : ℕ) (chain : Chain)
    (asks : IsAsking w (taste_asking s classes (ReadOut kind) reads chain)) where
  -- the graph
  abbrev t : Topology Config
  t = w.topology

  -- the taste then
  abbrev later : Taste
  later = taste_asking s classes (ReadOut kind) reads chain

  -- the taste's consumer
  abbrev d : Consumer
  d = taster w firm s granted.taste

  -- its number
  number : d.number ≡ s.consumer
  number = (tasting w firm s granted.taste).number

  -- Without the bios

  module _ (bios : List Bio) (next : ℕ) where
    -- the world then, with whatever bios
    abbrev v : World
    v = record w { bios = bios; next_bio = next; taste = Some later }

    -- Grants

    -- the grant of the taste, by whether its consumer asks
    grant_by : (b : Bool) (c : ℕ) → (s.consumer == c) ≡ b
        → taste_grant (Some later) c ≡ (if b then one_read else no_counts)
    grant_by true c e = rw e refl
    grant_by false c e = rw e refl

    -- no handle has its consumer
    no_handle : find (λ (h : Handle). names_number h.consumer s.consumer) w.handles ≡ None
    no_handle = subst (λ n. find (λ (h : Handle). names_number h.consumer n) w.handles ≡ None) number
        (none_has w firm s granted.taste)

    -- it has one read
    its_grant : granted_in v s.consumer ≡ one_read
    its_grant =
        ap (λ (o : Option Handle).
        option_map_or (λ (h : Handle). h.grant) o (taste_grant (Some later) s.consumer)) no_handle
        ∙ grant_by true s.consumer (eq-eqb s.consumer s.consumer refl)

    -- before it had none
    had_none : granted_in w s.consumer ≡ no_counts
    had_none = subst (λ n. granted_in w n ≡ no_counts) number
        (taster_grant w firm s granted.taste ∙ none_granted s d.number granted.idle)

    -- the others stay
    agree : AgreeExcept s.consumer (granted_in w) (granted_in v)
    agree n apart =
        ap (λ z. option_map_or (λ (h : Handle). h.grant) (find (λ (h : Handle). names_number h.consumer n) w.handles) z)
        (grant_by false n (ne_eqb s.consumer n (λ same. apart (sym same)))
        ∙ sym (none_granted s n granted.idle) ∙ sym (ap (λ (o : Option Taste). taste_grant o n) granted.taste))

    -- so all are as with one read more
    with_read : (n : ℕ) → granted_in v n ≡ with_grant (granted_in w) s.consumer one_read n
    with_read n = by (cases_eq n s.consumer) where
      -- whether it is the taste's consumer
      by : (n ≡ s.consumer) ⊎ (n ≢ s.consumer) → granted_in v n ≡ with_grant (granted_in w) s.consumer one_read n
      by (inl same) = rw (eq-eqb n s.consumer same) (ap (granted_in v) same ∙ its_grant)
      by (inr apart) = rw (ne_eqb n s.consumer apart) (agree n apart)

    -- no grant falls
    more : AreAtMost (granted_in w) (granted_in v)
    more n = by (cases_eq n s.consumer) where
      -- whether it is the taste's consumer
      by : (n ≡ s.consumer) ⊎ (n ≢ s.consumer) → IsAtMost (granted_in w n) (granted_in v n)
      by (inl same) = subst (λ a. IsAtMost a (granted_in v n)) (sym (ap (granted_in w) same ∙ had_none))
          (at_most-zero (granted_in v n))
      by (inr apart) = subst (λ a. IsAtMost (granted_in w n) a) (sym (agree n apart)) (at_most-same (granted_in w n))

    -- its consumer has one read
    taster_reads : granted_in v d.number ≡ one_read
    taster_reads = ap (granted_in v) number ∙ its_grant

    -- so it is allowed
    allows : IsAllowed (granted_in v) t s.provider
    allows = subst (λ (G : ℕ → Counts). IsAllowed G t s.provider)
        (sym (grants-same (granted_in v) (with_grant (granted_in w) s.consumer one_read) with_read))
        ((allowed (with_grant (granted_in w) s.consumer one_read) t s.provider).0 granted.passes)

    -- Counts

    -- the one consumer of the number is at the provider
    place : All (λ (c : Consumer). c.number ≡ s.consumer → c.provider ≡ Some s.provider) t.consumers
    place = all_of (λ (c : Consumer). c.number ≡ s.consumer → c.provider ≡ Some s.provider) t.consumers (λ c here same.
        let found : consumer_at t c.number ≡ Some c =
        found_itself (λ (z : Consumer). z.number) t.next_consumer t.consumers c (order w firm).consumers here in
        let there : consumer_at t d.number ≡ Some c = subst (λ n. consumer_at t n ≡ Some c) (same ∙ sym number) found in
        let one : d ≡ c = one-found (consumer_at t d.number) d c (taster_found w firm s granted.taste) there in
        subst (λ (z : Consumer). z.provider ≡ Some s.provider) one (tasting w firm s granted.taste).attached)

    -- its grant alone differs
    differs : DiffersAt (granted_in w) (granted_in v) t s.consumer s.provider
    differs = record { agree = agree; place = place }

    -- only what is below the provider changes
    around : StaysAround (granted_in w) t (granted_in v) t (below t s.provider)
    around = differing_stays (granted_in w) (granted_in v) t s.consumer s.provider differs firm.graph.ranks.ranked
        (numbers_lead t (order w firm).providers.0)

    -- a provider with an error isn't below
    not_below : (q : Provider) → Contains t.providers q → q.errored ≡ true → Contains (below t s.provider) q.number → ⊥
    not_below q here errored reached =
        let is : is_errored t q.number ≡ true =
        any-contained (λ (y : Provider). (y.number == q.number) && y.errored) t.providers q here
        (rw (eq-eqb q.number q.number refl, errored) refl) in
        let some : has_error_below t s.provider ≡ true =
        any-contained (is_errored t) (below t s.provider) q.number reached is in
        let no_more : true ≡ false = sym some ∙ allows.errors in
        cc

    -- so a provider of a geom that withers has the counts that it had
    same_have : (q : Provider) → Contains t.providers q → (g : Geom Config) → geom_at t q.geom ≡ Some g
        → g.withering ≡ true → have (granted_in v) t q.number ≡ have (granted_in w) t q.number
    same_have q here g of withers =
        let number : g.number ≡ q.geom = number_found (λ (y : Geom Config). y.number) t.geoms q.geom g of in
        let is : is_withering t q.geom ≡ true =
        any-contained (λ (y : Geom Config). (y.number == q.geom) && y.withering) t.geoms g
        (find-Contains (λ (y : Geom Config). y.number == q.geom) t.geoms g of)
        (rw (eq-eqb g.number q.geom number, withers) refl) in
        around.haves q.number (not_below q here
        (All-contains (λ (y : Provider). IsTrue (is_withering t y.geom) → y.errored ≡ true) t.providers q
        firm.graph.providers.withering here is))

    -- each provider leads down
    leads : (q : Provider) → Contains t.providers q → LeadsDown (granted_in w) t q → LeadsDown (granted_in v) t q
    leads q here old =
        let h = found-with (geom_at t q.geom) (λ h. (is_zero (have (granted_in w) t q.number) ≡ false)
        ⊎ (h.withering ≡ false) → IsSome (disk_of h.config) ⊎ IsPlaced t h q) old in
        some-with (geom_at t q.geom) (λ h. (is_zero (have (granted_in v) t q.number) ≡ false)
        ⊎ (h.withering ≡ false) → IsSome (disk_of h.config) ⊎ IsPlaced t h q) h.item h.is
        (λ used. h.fact (before h.item h.is h.item.withering refl used))
      where
        -- it was used so before
        before : (h : Geom Config) → geom_at t q.geom ≡ Some h → (b : Bool) → h.withering ≡ b
            → (is_zero (have (granted_in v) t q.number) ≡ false) ⊎ (h.withering ≡ false)
            → (is_zero (have (granted_in w) t q.number) ≡ false) ⊎ (h.withering ≡ false)
        before h of false stands used = inr stands
        before h of true withers (inl opened) = inl (sym (ap is_zero (same_have q here h of withers)) ∙ opened)
        before h of true withers (inr stands) = inr stands

    -- a geom that withers and is open was open
    open_was : (h : Geom Config) → Contains t.geoms h → h.withering ≡ true
        → list_any (λ (q : Provider). not (is_zero (have (granted_in v) t q.number))) (providers_of t h.number) ≡ true
        → list_any (λ (q : Provider). not (is_zero (have (granted_in w) t q.number))) (providers_of t h.number) ≡ true
    open_was h here withers some =
        let q = some-passes (λ (q : Provider). not (is_zero (have (granted_in v) t q.number)))
        (providers_of t h.number) some in
        let kept = filter-Contains (λ (y : Provider). y.geom == h.number) t.providers q.item q.here in
        let own : q.item.geom ≡ h.number = eqb-true q.item.geom h.number kept.1 in
        let of : geom_at t q.item.geom ≡ Some h = subst (λ n. geom_at t n ≡ Some h) (sym own)
        (found_itself (λ (y : Geom Config). y.number) t.next_geom t.geoms h (order w firm).geoms here) in
        any-contained (λ (q : Provider). not (is_zero (have (granted_in w) t q.number)))
        (providers_of t h.number) q.item
        q.here (sym (ap (λ a. not (is_zero a)) (same_have q.item kept.0 h of withers)) ∙ q.passes)

    -- each geom has its components
    has_components : (h : Geom Config) → Contains t.geoms h → HasItsComponents (granted_in w) t h
        → HasItsComponents (granted_in v) t h
    has_components h here old used = old (before h.withering refl used) where
      -- it was used so before
      before : (b : Bool) → h.withering ≡ b → (h.withering ≡ false)
          ⊎ IsTrue (list_any (λ (q : Provider). not (is_zero (have (granted_in v) t q.number)))
          (providers_of t h.number))
          → (h.withering ≡ false)
          ⊎ IsTrue (list_any (λ (q : Provider). not (is_zero (have (granted_in w) t q.number)))
          (providers_of t h.number))
      before false stands used = inl stands
      before true withers (inl stands) = inl stands
      before true withers (inr is_open) = inr (open_was h here withers is_open)

    -- All but the bios

    -- the taste was in order
    was : IsTasteInOrder t s
    was = subst (λ (o : Option Taste). IfSome o (IsTasteInOrder t)) granted.taste firm.taste.order

    -- a world with these bios is firm where they are in order
    read-firm : BiosOf v → Firm v
    read-firm hold = record {
      graph = firm.graph;
      demand = record {
        counts = record { exclusive = allows.exclusive; limited = allows.limit };
        places = all_members (LeadsDown (granted_in w) t) (LeadsDown (granted_in v) t) t.providers leads
            firm.demand.places;
        components = all_members (HasItsComponents (granted_in w) t) (HasItsComponents (granted_in v) t) t.geoms
            has_components firm.demand.components;
      };
      sizes = firm.sizes;
      handles = record {
        numbers = firm.handles.numbers;
        consumers = firm.handles.consumers;
        handles = firm.handles.handles;
        taste =
            let had = tasting w firm s granted.taste in
            record { consumer = had.consumer; alone = had.alone; number = had.number; attached = had.attached };
      };
      taste = record {
        living = firm.taste.living;
        order = record { rank = was.rank; reads = asks.reads; chain = asks.chain };
        asked = asks.asked;
      };
      bios = hold;
      commands = firm.commands;
    }

  -- With the bio of the read

  module _ (sector : ℕ) (short : sector < p.size / p.sector) where
    -- the read
    abbrev x : Bio
    x = new_bio w.next_bio cmds.Read (sector * p.sector) p.sector [] s.consumer s.provider owners.Taste

    -- the world then
    abbrev after : World
    after = record w { bios = w.bios ++ x ∷ []; next_bio = w.next_bio + 1; taste = Some later }

    -- the bios before
    hold : BiosOf w
    hold = firm.bios

    -- no read of it was out
    none_out : list_any (λ (z : Bio). is_taste_root z.owner) w.bios ≡ false
    none_out = by (list_any (λ (z : Bio). is_taste_root z.owner) w.bios) refl where
      -- by whether one was
      by : (b : Bool) → list_any (λ (z : Bio). is_taste_root z.owner) w.bios ≡ b → b ≡ false
      by false e = refl
      by true e =
          let out : is_read_out s.asked ≡ true =
          subst (λ (o : Option Taste). option_map_or (λ z. is_read_out z.asked) o false ≡ true) granted.taste
          (hold.read_out.0 e) in
          let idle : is_read_out s.asked ≡ false = granted.idle in
          absurd (let no : ⊥ = cc in no)

    -- so each bio has the children that it had
    same_children : (n : ℕ) → children_of after n ≡ children_of w n
    same_children n = filter-pushed (λ (z : Bio). is_child_of z.owner n) w.bios x refl

    -- a bio is in order
    order_kept : (z : Bio) → IsBioInOrder (granted_in w) t z → IsBioInOrder (granted_in after) t z
    order_kept z old =
        let c = found-with (consumer_at t z.source)
        (λ c. (c.provider ≡ Some z.target) × HasCountFor (granted_in w) t z c) old.source in
        record {
          source = some-with (consumer_at t z.source)
              (λ c. (c.provider ≡ Some z.target) × HasCountFor (granted_in after) t z c) c.item c.is (
                c.fact.0,
                more_serve (is_read z.cmd) (want (granted_in w) t c.item) (want (granted_in after) t c.item)
                    (want-at_most (granted_in w) (granted_in after)
                    (more after.bios after.next_bio) t c.item)
                    c.fact.1,
              );
          target = old.target;
          bytes = old.bytes;
        }

    -- its consumer is found
    found_source : consumer_at t s.consumer ≡ Some d
    found_source = subst (λ n. consumer_at t n ≡ Some d) (tasting w firm s granted.taste).number
        (taster_found w firm s granted.taste)

    -- it wants one read
    wants : want (granted_in after) t d ≡ one_read
    wants = wants_grant (granted_in after) t d (taster_holds w firm s granted.taste)
        ∙ taster_reads after.bios after.next_bio

    -- the range of the read
    range : IsRange p.sector (sector * p.sector) p.sector p.size
    range = range_of p.sector sector p.size (All-contains (λ (q : Provider). IsSectorSize q.sector) t.providers p
        firm.sizes.sectors (find-Contains (λ (q : Provider). q.number == s.provider) t.providers p granted.found)) short

    -- the read is in order
    own_order : IsBioInOrder (granted_in after) t x
    own_order = record {
      source = some-with (consumer_at t s.consumer)
          (λ c. (c.provider ≡ Some s.provider) × HasCountFor (granted_in after) t x c) d found_source (
            (tasting w firm s granted.taste).attached,
            subst (λ (a : Counts). (IsTrue true → 0 < a.r) × (true ≡ false → 0 < a.w)) (sym wants) (
              (λ reads. omega arith),
              (λ no. absurd (let bad : ⊥ = cc in bad)),
            ),
          );
      target = some-with (provider_at t s.provider) (λ q. false ≡ false → IsRangeInside x q) p granted.found
          (λ e. record {
            some_byte = range.some;
            not_long = range.short;
            offset_whole = range.first;
            len_whole = range.whole;
            inside = range.inside;
          });
      bytes = λ no. absurd (let bad : ⊥ = cc in bad);
    }

    -- a parent stays
    parent_kept : (o : Owner) → HasItsParent w.bios o → HasItsParent after.bios o
    parent_kept (owners.Line h l) has = tt
    parent_kept owners.Taste has = tt
    parent_kept (owners.Child parent index) has =
        let y = found-with (bio_at w parent) (λ y. IsTrue (is_waiting y.phase)) has in
        some-with (bio_at after parent) (λ y. IsTrue (is_waiting y.phase)) y.item
        (found-before (λ (z : Bio). z.number == parent) w.bios (x ∷ []) y.item y.is) y.fact

    -- and so does a family
    family_kept : (z : Bio) → IsFamilyInOrder t w.bios z → IsFamilyInOrder t after.bios z
    family_kept z is = record {
      parent = parent_kept z.owner is.parent;
      pieces = λ waits. subst (λ cs. IsSomeAnd (provider_at t z.target) (λ p. IsSomeAnd (geom_at t p.geom) (λ g.
          map shape_of_child cs
          ≡ map (λ item. shape_of_piece z item.0 item.1) (enumerate_from 0 (piece_targets g.config p z)))))
          (sym (same_children z.number)) (is.pieces waits);
      not_complete = λ waits. subst (λ (cs : List Bio). list_all (λ c. is_done c.phase) cs ≡ false)
          (sym (same_children z.number)) (is.not_complete waits);
      root = is.root;
    }

    -- its own family
    own_family : IsFamilyInOrder t after.bios x
    own_family = record {
      parent = tt;
      pieces = λ waits. absurd (let bad : ⊥ = cc in bad);
      not_complete = λ waits. absurd (let bad : ⊥ = cc in bad);
      root = λ root. refl;
    }

    -- an owner stays
    owner_kept : (z : Bio) (o : Owner) → ComesFromItsOwner w.handles w.taste z o
        → ComesFromItsOwner w.handles after.taste z o
    owner_kept z (owners.Line h l) comes = comes
    owner_kept z owners.Taste comes =
        subst (λ (o : Option Taste). IsSomeAnd o (λ s. (s.consumer ≡ z.source) × (s.provider ≡ z.target))) granted.taste
        comes
    owner_kept z (owners.Child parent index) comes = comes

    -- one bio reads for the taste
    one_reads : count_by (λ (z : Bio). is_taste_root z.owner) after.bios ≡ 1
    one_reads =
        sym (length-filter (λ (z : Bio). is_taste_root z.owner) after.bios)
        ∙ ap (λ (zs : List Bio). length zs)
        (filter-pushed_hit (λ (z : Bio). is_taste_root z.owner) w.bios x refl
        ∙ ap (λ (zs : List Bio). zs ++ x ∷ [])
        (let none = sym (any-kept_some (λ (z : Bio). is_taste_root z.owner) w.bios) ∙ none_out in
        nil_from_length (filter (λ (z : Bio). is_taste_root z.owner) w.bios) (eqb-true _ 0 (not-false _ none))))

    -- the bios then
    read-bios : BiosOf after
    read-bios = record {
      numbers = numbers-push (λ (z : Bio). z.number) w.next_bio w.bios x refl hold.numbers;
      order = All-push (IsBioInOrder (granted_in after) t) w.bios x
          (All-weaker (IsBioInOrder (granted_in w) t) (IsBioInOrder (granted_in after) t) order_kept w.bios hold.order)
          own_order;
      families = All-push (IsFamilyInOrder t after.bios) w.bios x
          (All-weaker (IsFamilyInOrder t w.bios) (IsFamilyInOrder t after.bios) family_kept w.bios hold.families)
          own_family;
      disks = record {
        at_disk = All-push (λ (z : Bio). IsTrue (is_sent z.phase || is_busy z.phase) → IsSome (disk_at t z.target))
            w.bios x hold.disks.at_disk (λ out. absurd (let bad : ⊥ = cc in bad));
        one_busy = all_pairs_push (NotBothBusy t) w.bios x hold.disks.one_busy
            (λ k d short first second. absurd (let bad : ⊥ = cc in bad));
      };
      read_out = (
        (λ some. refl),
        (λ out. any-pushed (λ (z : Bio). is_taste_root z.owner) w.bios x
            ∙ or-true (list_any (λ (z : Bio). is_taste_root z.owner) w.bios)),
      );
      owners = All-push (λ (z : Bio). ComesFromItsOwner w.handles after.taste z z.owner) w.bios x
          (All-weaker (λ (z : Bio). ComesFromItsOwner w.handles w.taste z z.owner)
          (λ (z : Bio). ComesFromItsOwner w.handles after.taste z z.owner) (λ z. owner_kept z z.owner) w.bios
          hold.owners) (refl, refl);
      results = All-push HasItsResult w.bios x hold.results (λ over. absurd (let bad : ⊥ = cc in bad));
      read = record {
        one = let one = one_reads in omega arith;
        sector = All-push (λ (z : Bio). IsTrue (is_taste_root z.owner)
            → IsSomeAnd (provider_at t z.target) (λ p. z.len ≡ p.sector)) w.bios x hold.read.sector
            (λ is. some-with (provider_at t s.provider) (λ q. p.sector ≡ q.sector) p granted.found refl);
      };
    }

    -- so the world is firm
    all-firm : Firm after
    all-firm = read-firm after.bios after.next_bio read-bios

    -- the sector's size is that of the provider
    pub submitted-firm : Firm (submit_read (world_with_taste w later) later sector)
    submitted-firm = rw granted.found all-firm

-- Tastes go on, are read for and end: a firm world stays firm.

-- what each change of a taste keeps
pub tastes_stay_firm : TastesStayFirm
tastes_stay_firm = record {
  goes_on = λ w s classes asked reads chain is before after asks firm.
      asking-firm w s classes asked reads chain firm is before after asks;
  reads = λ w s p classes kind reads chain sector granted below asks firm.
      submitted-firm w firm s p granted classes kind reads chain asks sector below;
  ends = λ w s is none firm. abort-firm w firm s is none;
}
