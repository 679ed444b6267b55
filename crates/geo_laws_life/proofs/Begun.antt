-- Marks, errors, withering, announcements and what events do keep a firm world firm.
use Rattle.std.specs.Prelude.{◌≡◌, ◌⊎◌, ℕ, ◌==◌, Bool, true, false, ◌&&◌, ◌||◌, List, [], ◌∷◌, ◌++◌, Option, Some, All, if◌then◌else◌, ◌≢◌, not, map, filter, fold, Contains, IsSome, IsTrue, option_and_then, None, ◌↔◌, ◌<◌, nat_le, find, IsSomeAnd, is_some, Err}
use Rattle.std.specs.List.{AllByRecursion, list_any}
use Rattle.std.specs.Option.{option_map_or}
use Rattle.std.proofs.Common.{inl, inr, refl, sym, ◌∙◌, ap, subst, arith}
use Rattle.std.proofs.lemmas.Bool.{eqb-true, or_from, and_right, eq-eqb, cases_eq, and_parts, or_parts, leb-false, cases_Bool, false_from_ne_true}
use Rattle.std.proofs.lemmas.List.Elements.{All-contains, All-weaker, All-push, All-tail, All-from_recursion, All-head, All-map, All-filter}
use Rattle.geo_model.proofs.Tests.{from_false_true}
use Rattle.geo_model.specs.Kind.TheVariants as kinds
use Rattle.geo_model.specs.declared.step.Event.{Event}
use Rattle.geo_model.specs.declared.step.Event.TheVariants as events
use Rattle.geo_model.specs.Words.{change_where, is_kind, names_number, is_read}
use Rattle.geo_model.specs.Topology.{Geom, Consumer, geom_at, consumers_of, set_marks, Topology, Provider, provider_at, providers_of, is_withering, set_error, set_withering, note_started, geom_of_provider, attached_to, is_errored, consumer_at, add_consumer}
use Rattle.geo_model.specs.Demand.{want, have, is_zero, risen, fallen, no_counts, one_read}
use Rattle.geo_model.specs.Events.{provider_of_event, post, mark_spoiled, is_to_spoil, spoil_at, QueuedTopology, orphan_provider, wither, wither_unless_withering, offer_again, announce_risen, announce_fallen, spoil_consumer, spoil, is_of_dev, orphan_consumer, orphan, is_outgrown, outgrow_consumer, resize, tasting_classes, is_not_tasted, dying_consumers}
use Rattle.geo_model.specs.World.{World, Config, granted_in, Handle, Taste, NoClass, Bio, taste_grant, is_taste_root, is_read_out}
use Rattle.geo_model.specs.WorldEvents.{queued_of, with_queued, kill_handle, begin_taste, do_event}
use Rattle.geo_model.specs.Fitting.{Firm, IsAskedInOrder}
use Rattle.geo_model.proofs.DemandLemmas.{all_weaker}
use Rattle.geo_model.proofs.AllLists.{of_each, all_mapped}
use Rattle.geo_model.specs.Sound.{HasTasteConsumer, IsHandleConsumer, HasItsConsumer, IsTasteInOrder}
use Rattle.geo_model.specs.Counts.{Counts}
use Rattle.geo_model.specs.TheConstants.{UNTASTED_RANK}
use Rattle.geo_model.specs.declared.step.Owner.{Owner}
use Rattle.geo_model.specs.declared.step.Owner.TheVariants as owners
use Rattle.geo_model.specs.Rank.{rank}
use Rattle.geo_model.specs.Chain.{no_links}
use Rattle.geo_model.specs.Graph.{IsInOrder}
use Rattle.geo_model.specs.Steady.{ComesFromItsOwner}
use Rattle.geo_model.specs.declared.step.Found.TheVariants as refusals
use Rattle.geo_model.specs.declared.step.Step.TheVariants as steps
use Rattle.geo_model.specs.Laws.{world_by}
use Rattle.geo_model.specs.Log.{world_after}
use Rattle.geo_model.specs.Step.{step, event, event_of}
use Rattle.geo_laws_graph.proofs.Members.{find-Contains, All-from_contained, filter-Contains, Contains-cases, Contains-filter, Contains-map, nothing_in, at_contained}
use Rattle.geo_laws_graph.proofs.Numbered.{number_found}
use Rattle.geo_laws_graph.proofs.Found.{marks-found, withering-found, start-found, added-consumer}
use Rattle.geo_laws_graph.proofs.Lists.{found_itself, all-changed}
use Rattle.geo_laws_graph.proofs.Living.{sound-order, found-before}
use Rattle.geo_laws_graph.proofs.Holding.{sound-ranks}
use Rattle.geo_laws_graph.proofs.Opens.{open-rises}
use Rattle.geo_laws_counts.proofs.LimitFacts.{all_of}
use Rattle.geo_laws_counts.specs.CountWords.{DemandStays, AnyConsumer}
use Rattle.geo_laws_counts.proofs.Quiet.{granted_wants_nothing}
use Rattle.geo_laws_counts.proofs.Stays.{consumer_came}
use Rattle.geo_laws_life.specs.EffectLaws.{Lives, QueuesKeepFirm, KillsKeepFirm, MarksKeepFirm, ErrorsKeepFirm, AnnouncesKeepFirm, EventsKeepFirm}
use Rattle.geo_laws_life.proofs.Frames.{stands-at, class-at, bare_there, not_of_bare, holds_grants, none_holds_next, killed-firm, all_killed-firm, grants-same, Frame, came, has_its-still, framed-firm}
use Rattle.geo_laws_life.proofs.Less.{less-self, less-marks, provider-number, changed-there, less-error, less-withering, less-started}
use Rattle.geo_laws_life.proofs.LessFitting.{less-firm}
use Rattle.geo_laws_life.proofs.Found.{some-there, FoundWith, some-with, if-found}
use Rattle.geo_laws_life.specs.LessLaws.{ComesFrom, IsProviderOf, IsLess}
use Rattle.geo_laws_life.specs.EventLaws.{EventStepKeepsFirm}

-- The queue

-- a firm world with another queue
queue-firm : (w : World) (queue : List Event) → All (λ e. Lives w (provider_of_event e)) queue → Firm w
    → Firm (record w { events = queue })
queue-firm w queue living firm =
    less-firm w w.topology firm (less-self w firm) queue firm.graph.providers.withering firm.graph.unmarked living

-- one event more
posted-firm : (w : World) (e : Event) → Lives w (provider_of_event e) → Firm w
    → Firm (with_queued w (post (queued_of w) e))
posted-firm w e lives firm =
    queue-firm w (w.events ++ e ∷ []) (All-push (λ e. Lives w (provider_of_event e)) w.events e
    firm.taste.living lives) firm

-- queues keep a firm world firm
pub queues_keep : QueuesKeepFirm
queues_keep = record {
  queue = queue-firm;
  posted = posted-firm;
  taken = λ w e rest is firm.
      queue-firm w rest (All-tail (λ e. Lives w (provider_of_event e)) e rest
      (subst (All (λ e. Lives w (provider_of_event e))) is firm.taste.living)) firm;
}

-- handles that die do
pub kills_keep : KillsKeepFirm
kills_keep = record { one = λ w c firm. killed-firm w firm c; all = λ w cs firm. all_killed-firm cs w firm }

-- Marks

-- a consumer has no mark, and is given none
abbrev IsClean : (Consumer → Bool) → Bool → Consumer → Type 0
IsClean test mark x = (x.spoiled ≡ false) × (mark ≡ true → test x ≡ false)

-- marks that are set at no consumer of DEV
marked-firm : (w : World) (test : Consumer → Bool) (mark : Bool)
    → All (λ c. c.geom ≡ 1 → mark ≡ true → test c ≡ false) w.topology.consumers → Firm w
    → Firm (record w { topology = set_marks w.topology test mark })
marked-firm w test mark so firm =
    let set : Consumer → Consumer = λ x. record x { spoiled = mark } in
    less-firm w (set_marks w.topology test mark) firm (less-marks w w.topology (less-self w firm) test mark) w.events
    firm.graph.providers.withering
    (subst (All (λ (c : Consumer). c.spoiled ≡ false)) (sym (marks-found.of w.topology test mark 1))
    (All-from_recursion (λ (c : Consumer). c.spoiled ≡ false) (change_where test set (consumers_of w.topology 1))
    (all_weaker (IsClean test mark) (λ (c : Consumer). c.spoiled ≡ false) (λ c clean. clean.0)
    (change_where test set (consumers_of w.topology 1))
    (all-changed test set (IsClean test mark) (λ x hit clean.
    let unset : mark ≡ false = false_from_ne_true mark (λ is. from_false_true (sym (clean.1 is) ∙ hit)) in
    (unset, λ is. from_false_true (sym unset ∙ is))) (consumers_of w.topology 1)
    (All-from_contained (IsClean test mark) (consumers_of w.topology 1) (λ x here.
    let kept = filter-Contains (λ (z : Consumer). z.geom == 1) w.topology.consumers x here in (
      All-contains (λ (c : Consumer). c.spoiled ≡ false) (consumers_of w.topology 1) x firm.graph.unmarked here,
      All-contains (λ (c : Consumer). c.geom ≡ 1 → mark ≡ true → test c ≡ false) w.topology.consumers x so kept.0
          (eqb-true x.geom 1 kept.1),
    )))))))
    firm.taste.living

-- the geom of DEV or TASTE isn't automatic
made-at : (w : World) → Firm w → (n : ℕ) (g : Geom Config) → (n ≡ 1) ⊎ (n ≡ 2) → geom_at w.topology n ≡ Some g
    → g.automatic ≡ false
made-at w firm n g which found =
    All-contains (λ (x : Geom Config). (x.number ≡ 1) ⊎ (x.number ≡ 2) → x.automatic ≡ false) w.topology.geoms g
    firm.graph.made (find-Contains (λ (x : Geom Config). x.number == n) w.topology.geoms g found) (by which)
  where
    -- it has that number
    by : (n ≡ 1) ⊎ (n ≡ 2) → (g.number ≡ 1) ⊎ (g.number ≡ 2)
    by (inl e) = inl (number_found (λ (x : Geom Config). x.number) w.topology.geoms n g found ∙ e)
    by (inr e) = inr (number_found (λ (x : Geom Config). x.number) w.topology.geoms n g found ∙ e)

-- a consumer of DEV isn't to spoil
not_to_spoil : (w : World) → Firm w → (p : ℕ) (c : Consumer) → c.geom ≡ 1
    → is_to_spoil (granted_in w) w.topology p c ≡ false
not_to_spoil w firm p c own =
    let g = stands-at w firm c.geom (inl own) in
    let class = class-at w firm c.geom g.item g.is in
    let number : g.item.number ≡ 1 = number_found (λ (x : Geom Config). x.number) w.topology.geoms c.geom g.item g.is
    ∙ own in
    let kind : is_kind g.item.kind kinds.Taste ≡ false = class.taste ∙ ap (λ n. n == 2) number in
    and_right (names_number c.provider p)
    (((want (granted_in w) w.topology c).w == 0)
    &&
    (option_map_or (λ (x : Geom Config). x.automatic || is_kind x.kind kinds.Taste) (geom_at w.topology c.geom) false))
    (and_right ((want (granted_in w) w.topology c).w == 0)
    (option_map_or (λ (x : Geom Config). x.automatic || is_kind x.kind kinds.Taste) (geom_at w.topology c.geom) false)
    (ap (λ (o : Option (Geom Config)). option_map_or (λ (x : Geom Config). x.automatic || is_kind x.kind kinds.Taste)
    o false) g.is
    ∙ or_from g.item.automatic (is_kind g.item.kind kinds.Taste) (made-at w firm c.geom g.item (inl own) g.is) kind))

-- the marks of a spoil
spoiled-firm : (w : World) (p : ℕ) → Firm w
    → Firm (record w { topology = mark_spoiled (granted_in w) w.topology p })
spoiled-firm w p firm =
    marked-firm w (is_to_spoil (granted_in w) w.topology p) true
    (all_of (λ (c : Consumer). c.geom ≡ 1 → true ≡ true → is_to_spoil (granted_in w) w.topology p c ≡ false)
    w.topology.consumers (λ c here own set. not_to_spoil w firm p c own))
    firm

-- and with its event
announced-firm : (w : World) (p : ℕ) → Lives w p → Firm w
    → Firm (with_queued w (spoil_at (granted_in w) (queued_of w) p))
announced-firm w p lives firm =
    posted-firm (record w { topology = mark_spoiled (granted_in w) w.topology p }) (events.Spoil p) lives
    (spoiled-firm w p firm)

-- marks keep a firm world firm
pub marks_keep : MarksKeepFirm
marks_keep = record {
  set = λ w test so firm.
      marked-firm w test true (All-weaker (λ (c : Consumer). c.geom ≡ 1 → test c ≡ false)
      (λ (c : Consumer). c.geom ≡ 1 → true ≡ true → test c ≡ false)
      (λ c none own set. none own) w.topology.consumers so) firm;
  taken = λ w test firm.
      marked-firm w test false (all_of (λ (c : Consumer). c.geom ≡ 1 → false ≡ true → test c ≡ false)
      w.topology.consumers (λ c here own set. from_false_true set)) firm;
  spoiled = spoiled-firm;
  announced = announced-firm;
}

-- Errors, and geoms that wither: a firm world stays firm. Between the first error and the last the record doesn't
-- hold, so what a fold of orphans keeps is stated apart.

-- a provider lives with an error too
lives-with_error : (t : Topology Config) (p n : ℕ) → IsSome (provider_at t n)
    → IsSome (provider_at (set_error t p) n)
lives-with_error t p n there = changed-there (λ (x : Provider). x.number == p) (λ x. record x { errored = true })
    (λ (x : Provider). x.number == n) (λ x e. refl) t.providers there

-- what orphans keep: the graph comes to less, and the events are of providers that live
pub record Orphans (w : World) (q : QueuedTopology Config) : Type 0 where
  pub less : IsLess w q.topology
  pub living : All (λ e. IsSome (provider_at q.topology (provider_of_event e))) q.events

-- one orphan more
orphan-more : (w : World) (q : QueuedTopology Config) (p : ℕ) → IsSome (provider_at q.topology p) → Orphans w q
    → Orphans w (orphan_provider q p)
orphan-more w q p there so = record {
  less = less-error w q.topology so.less p;
  living = All-push (λ e. IsSome (provider_at (set_error q.topology p) (provider_of_event e))) q.events
      (events.Orphan p) (All-weaker (λ e. IsSome (provider_at q.topology (provider_of_event e)))
      (λ e. IsSome (provider_at (set_error q.topology p) (provider_of_event e)))
      (λ e. lives-with_error q.topology p (provider_of_event e)) q.events so.living)
      (lives-with_error q.topology p p there);
}

-- so many of them
fold-orphans : (w : World) (ps : List ℕ) (q : QueuedTopology Config)
    → AllByRecursion (λ p. IsSome (provider_at q.topology p)) ps → Orphans w q → Orphans w (fold orphan_provider q ps)
fold-orphans w [] q live so = so
fold-orphans w (p ∷ ps) q live so =
    fold-orphans w ps (orphan_provider q p)
    (all_weaker (λ n. IsSome (provider_at q.topology n)) (λ n. IsSome (provider_at (set_error q.topology p) n))
    (lives-with_error q.topology p) ps live.1) (orphan-more w q p live.0 so)

-- the geoms stay
fold-geoms : (ps : List ℕ) (q : QueuedTopology Config) → (fold orphan_provider q ps).topology.geoms ≡ q.topology.geoms
fold-geoms [] q = refl
fold-geoms (p ∷ ps) q = fold-geoms ps (orphan_provider q p)

-- so do the consumers
fold-consumers : (ps : List ℕ) (q : QueuedTopology Config)
    → (fold orphan_provider q ps).topology.consumers ≡ q.topology.consumers
fold-consumers [] q = refl
fold-consumers (p ∷ ps) q = fold-consumers ps (orphan_provider q p)

-- a provider of that number carries an error
abbrev HasError : ℕ → Provider → Type 0
HasError n y = y.number ≡ n → y.errored ≡ true

-- one that got its error has it
errored_here : (p : ℕ) (xs : List Provider) → AllByRecursion (HasError p)
    (change_where (λ (x : Provider). x.number == p) (λ x. record x { errored = true }) xs)
errored_here p [] = tt
errored_here p (x ∷ xs) = (
  elim (cases_Bool (x.number == p)) [
    | inl e ↦ rw e (λ is. refl)
    | inr e ↦ rw e (λ is. from_false_true (sym e ∙ eq-eqb x.number p is))
  ],
  errored_here p xs,
)

-- and keeps it
still_errored : (ps : List ℕ) (q : QueuedTopology Config) (n : ℕ) → AllByRecursion (HasError n) q.topology.providers
    → AllByRecursion (HasError n) (fold orphan_provider q ps).topology.providers
still_errored [] q n facts = facts
still_errored (p ∷ ps) q n facts =
    still_errored ps (orphan_provider q p) n
    (all-changed (λ (x : Provider). x.number == p) (λ x. record x { errored = true }) (HasError n)
    (λ x e fact is. refl) q.topology.providers facts)

-- each one that is orphaned carries an error
fold-errored : (ps : List ℕ) (q : QueuedTopology Config) (n : ℕ) → Contains ps n
    → AllByRecursion (HasError n) (fold orphan_provider q ps).topology.providers
fold-errored [] q n among = absurd (nothing_in n among)
fold-errored (p ∷ ps) q n among =
    elim (Contains-cases p n ps among) [
      | inl same ↦
          still_errored ps (orphan_provider q p) n
          (subst (λ m. AllByRecursion (HasError m) (orphan_provider q p).topology.providers) same
          (errored_here p q.topology.providers))
      | inr rest ↦ fold-errored ps (orphan_provider q p) n rest
    ]

-- an error at a provider, with its event
orphaned-firm : (w : World) (p : ℕ) → Lives w p → Firm w → Firm (with_queued w (orphan_provider (queued_of w) p))
orphaned-firm w p lives firm =
    let after = orphan-more w (queued_of w) p lives
    (record { less = less-self w firm; living = firm.taste.living }) in
    less-firm w (set_error w.topology p) firm after.less (orphan_provider (queued_of w) p).events
    (all_of (λ (x : Provider). IsTrue (is_withering w.topology x.geom) → x.errored ≡ true)
    (set_error w.topology p).providers (λ y here withers.
    let o = after.less.providers y here in
    o.fact.errored
    (All-contains (λ (x : Provider). IsTrue (is_withering w.topology x.geom) → x.errored ≡ true) w.topology.providers
    o.item firm.graph.providers.withering o.stands
    (subst (λ (x : Provider). IsTrue (is_withering w.topology x.geom)) o.fact.same withers))))
    firm.graph.unmarked after.living

module _ (w : World) (g : ℕ) (firm : Firm w) where
  -- the providers of the geom without an error
  abbrev upright : List Provider
  upright = filter (λ (x : Provider). not x.errored) (providers_of w.topology g)

  -- their numbers
  abbrev orphans : List ℕ
  orphans = map (λ (x : Provider). x.number) upright

  -- the graph and the queue where the geom withers and no provider has got its error yet
  abbrev begun : QueuedTopology Config
  begun = record (queued_of w) { topology = set_withering w.topology g }

  -- each of them lives
  orphans_live : AllByRecursion (λ p. IsSome (provider_at w.topology p)) orphans
  orphans_live =
      all_mapped (λ p. IsSome (provider_at w.topology p)) (λ (x : Provider). x.number) upright
      (All-from_contained (λ (x : Provider). IsSome (provider_at w.topology x.number)) upright (λ x here.
      let kept = filter-Contains (λ (z : Provider). not z.errored) (providers_of w.topology g) x here in
      let in_graph = filter-Contains (λ (z : Provider). z.geom == g) w.topology.providers x kept.0 in
      some-there (provider_at w.topology x.number) x
      (found_itself (λ (z : Provider). z.number) w.topology.next_provider w.topology.providers x
      (sound-order w firm.graph.numbers).providers in_graph.0)))

  module _ (not_dev : g ≢ 1) (not_taste : g ≢ 2) where
    -- what the orphans keep
    after : Orphans w (wither (queued_of w) g)
    after = fold-orphans w orphans begun orphans_live (record {
      less = less-withering w w.topology (less-self w firm) g (not_dev, not_taste);
      living = firm.taste.living;
    })

    -- each provider of a geom that withers carries an error in the end
    all_errored : (y : Provider) → Contains (wither (queued_of w) g).topology.providers y
        → IsTrue (is_withering (wither (queued_of w) g).topology y.geom) → y.errored ≡ true
    all_errored y here withers =
        elim (cases_eq y.geom g) [
          | inl own ↦ of_it (o.item.errored) refl (sym (ap (λ (z : Provider). z.geom) o.fact.same) ∙ own)
          | inr other ↦
              o.fact.errored
              (All-contains (λ (x : Provider). IsTrue (is_withering w.topology x.geom) → x.errored ≡ true)
              w.topology.providers o.item firm.graph.providers.withering o.stands
              (subst (λ (x : Provider). IsTrue (is_withering w.topology x.geom)) o.fact.same
              (sym (withering-found.other_geoms w.topology g y.geom other) ∙ withered)))
        ]
      where
        -- where it was before
        o : ComesFrom IsProviderOf w.topology.providers y
        o = after.less.providers y here

        -- that its geom withers shows before the orphans
        withered : is_withering (set_withering w.topology g) y.geom ≡ true
        withered = sym (ap (list_any (λ (x : Geom Config). (x.number == y.geom) && x.withering))
            (fold-geoms orphans begun)) ∙ withers

        -- one of the geom itself is orphaned, unless it had its error before
        of_it : (b : Bool) → o.item.errored ≡ b → o.item.geom ≡ g → y.errored ≡ true
        of_it true e own = o.fact.errored e
        of_it false e own =
            at_contained (HasError y.number) (wither (queued_of w) g).topology.providers y
            (fold-errored orphans begun y.number (subst (Contains orphans) (sym (provider-number o.item y o.fact))
            (Contains-map (λ (x : Provider). x.number) upright o.item
            (Contains-filter (λ (x : Provider). not x.errored) (providers_of w.topology g) o.item
            (Contains-filter (λ (x : Provider). x.geom == g) w.topology.providers o.item o.stands
            (eq-eqb o.item.geom g own)) (ap not e))))) here refl

    -- a geom that isn't DEV or TASTE withers, and its providers are orphaned
    pub withered-firm : Firm (with_queued w (wither (queued_of w) g))
    withered-firm =
        less-firm w (wither (queued_of w) g).topology firm after.less (wither (queued_of w) g).events
        (all_of (λ (x : Provider). IsTrue (is_withering (wither (queued_of w) g).topology x.geom) → x.errored ≡ true)
        (wither (queued_of w) g).topology.providers all_errored)
        (subst (λ (cs : List Consumer). All (λ (c : Consumer). c.spoiled ≡ false)
        (filter (λ (c : Consumer). c.geom == 1) cs)) (sym (fold-consumers orphans begun)) firm.graph.unmarked)
        after.living

-- one of two, whichever it comes to
whichever-firm : (w : World) (a c : QueuedTopology Config) (b : Bool) → (b ≡ true → Firm (with_queued w a))
    → (b ≡ false → Firm (with_queued w c)) → Firm (with_queued w (if b then a else c))
whichever-firm w a c true so other = so refl
whichever-firm w a c false so other = other refl

-- unless it withers
unless-firm : (w : World) (g : ℕ) → g ≢ 1 → g ≢ 2 → Firm w
    → Firm (with_queued w (wither_unless_withering (queued_of w) g))
unless-firm w g not_dev not_taste firm =
    whichever-firm w (queued_of w) (wither (queued_of w) g) (is_withering w.topology g) (λ e. firm)
    (λ e. withered-firm w g firm not_dev not_taste)

-- a geom that starts a request
started-firm : (w : World) (g : ℕ) → Firm w → Firm (record w { topology = note_started w.topology g })
started-firm w g firm =
    less-firm w (note_started w.topology g) firm (less-started w w.topology (less-self w firm) g) w.events
    (All-weaker (λ (x : Provider). IsTrue (is_withering w.topology x.geom) → x.errored ≡ true)
    (λ (x : Provider). IsTrue (is_withering (note_started w.topology g) x.geom) → x.errored ≡ true)
    (λ x so withers. so (sym (start-found.withering w.topology g x.geom) ∙ withers))
    w.topology.providers firm.graph.providers.withering)
    firm.graph.unmarked firm.taste.living

-- errors and withering keep a firm world firm
pub errors_keep : ErrorsKeepFirm
errors_keep = record {
  orphaned = orphaned-firm;
  withered = λ w g not_dev not_taste firm. withered-firm w g firm not_dev not_taste;
  started = started-firm;
  unless = unless-firm;
}

-- What follows a change of write counts, and what events do: a firm world stays firm.

-- Offers and spoils

-- a provider whose geom is found lives
offered_lives : (t : Topology Config) (o : Option Provider)
    → option_map_or (λ (g : Geom Config). g.withering) (option_and_then (λ (x : Provider). geom_at t x.geom) o)
    true ≡ false → IsSome o
offered_lives t None e = from_false_true (sym e)
offered_lives t (Some x) e = refl

-- an offer
offered-firm : (w : World) (p : ℕ) → Firm w → Firm (with_queued w (offer_again (queued_of w) p))
offered-firm w p firm =
    whichever-firm w (queued_of w) (post (queued_of w) (events.NewProvider p))
    (is_errored w.topology p || option_map_or (λ (g : Geom Config). g.withering) (geom_of_provider w.topology p) true)
    (λ e. firm) (λ e. posted-firm w (events.NewProvider p) (offered_lives w.topology (provider_at w.topology p)
    (or_parts (is_errored w.topology p) (option_map_or (λ (g : Geom Config). g.withering)
    (geom_of_provider w.topology p) true) e).1) firm)

-- offers at some providers
fallen-firm : (ps : List ℕ) (w : World) → Firm w → Firm (with_queued w (announce_fallen ps (queued_of w)))
fallen-firm [] w firm = firm
fallen-firm (p ∷ ps) w firm = fallen-firm ps (with_queued w (offer_again (queued_of w) p)) (offered-firm w p firm)

-- spoils at some that live
risen-firm : (ps : List ℕ) (w : World) → All (Lives w) ps → Firm w
    → Firm (with_queued w (announce_risen (granted_in w) ps (queued_of w)))
risen-firm [] w live firm = firm
risen-firm (p ∷ ps) w live firm =
    risen-firm ps (with_queued w (spoil_at (granted_in w) (queued_of w) p)) (All-tail (Lives w) p ps live)
    (announced-firm w p (All-head (Lives w) p ps live) firm)

-- what follows changes of write counts keeps a firm world firm
pub announces_keep : AnnouncesKeepFirm
announces_keep = record {
  offered = offered-firm;
  fallen = λ w ps firm. fallen-firm ps w firm;
  risen = λ w ps live firm. risen-firm ps w live firm;
  opened = λ w after live firm.
      risen-firm (risen (granted_in w) w.topology (granted_in after) after.topology) after
      (All-map (Lives after) (λ (x : Provider). x.number)
      (filter (λ (x : Provider). ((have (granted_in w) w.topology x.number).w == 0) && not
      ((have (granted_in after) after.topology x.number).w == 0)) w.topology.providers)
      (All-filter (λ (x : Provider). ((have (granted_in w) w.topology x.number).w == 0) && not
      ((have (granted_in after) after.topology x.number).w == 0))
      (λ (x : Provider). Lives after x.number) w.topology.providers live))
      firm;
  closed = λ w after firm. fallen-firm (fallen (granted_in w) w.topology (granted_in after) after.topology) after firm;
}

-- Events

-- a consumer that isn't of DEV or TASTE
abbrev IsOtherConsumer : Consumer → Type 0
IsOtherConsumer c = (c.geom ≢ 1) × (c.geom ≢ 2)

-- one effect after another keeps a firm world firm, where each does
all-firm : {X : Type 0} (w : World) (effect : QueuedTopology Config → X → QueuedTopology Config) (P : X → Type 0)
    → ((q : QueuedTopology Config) (x : X) → P x → Firm (with_queued w q) → Firm (with_queued w (effect q x)))
    → (xs : List X) (q : QueuedTopology Config) → AllByRecursion P xs → Firm (with_queued w q)
    → Firm (with_queued w (fold effect q xs))
all-firm w effect P so [] q facts firm = firm
all-firm w effect P so (x ∷ xs) q facts firm =
    all-firm w effect P so xs (effect q x) facts.1 (so q x facts.0 firm)

-- while nothing is tasted TASTE has no consumer
no_taste : (w : World) → Firm w → w.taste ≡ None → (c : Consumer) → Contains w.topology.consumers c → c.geom ≢ 2
no_taste w firm none c here own =
    let empty : consumers_of w.topology 2 ≡ [] =
    subst (HasTasteConsumer w.topology) none firm.handles.taste in
    nothing_in c (subst (λ cs. Contains cs c) empty
    (Contains-filter (λ (z : Consumer). z.geom == 2) w.topology.consumers c here (eq-eqb c.geom 2 own)))

-- a marked consumer loses its mark and its geom withers
spoil_one : (w : World) (c : Consumer) → IsOtherConsumer c → Firm w
    → Firm (with_queued w (spoil_consumer (queued_of w) c))
spoil_one w c other firm =
    unless-firm (record w { topology = set_marks w.topology (λ x. x.number == c.number) false }) c.geom other.0 other.1
    (marked-firm w (λ x. x.number == c.number) false
    (all_of (λ (d : Consumer). d.geom ≡ 1 → false ≡ true → (d.number == c.number) ≡ false) w.topology.consumers
    (λ d here own set. from_false_true set)) firm)

-- a spoil
spoil-firm : (w : World) (p : ℕ) → w.taste ≡ None → Firm w → Firm (with_queued w (spoil (queued_of w) p))
spoil-firm w p none firm =
    all-firm w spoil_consumer IsOtherConsumer (λ q c other firm. spoil_one (with_queued w q) c other firm)
    (filter (λ (c : Consumer). c.spoiled) (attached_to w.topology p)) (queued_of w)
    (All-from_contained IsOtherConsumer (filter (λ (c : Consumer). c.spoiled) (attached_to w.topology p)) (λ c here.
    let kept = filter-Contains (λ (z : Consumer). z.spoiled) (attached_to w.topology p) c here in
    let in_graph = filter-Contains (λ (z : Consumer). names_number z.provider p) w.topology.consumers c kept.0 in
    ((λ own. of_dev c in_graph.0 own kept.1), no_taste w firm none c in_graph.0)))
    firm
  where
    -- no consumer of DEV is marked
    of_dev : (c : Consumer) → Contains w.topology.consumers c → c.geom ≡ 1 → c.spoiled ≡ true → ⊥
    of_dev c here own marked =
        let clean : c.spoiled ≡ false =
        All-contains (λ (z : Consumer). z.spoiled ≡ false) (consumers_of w.topology 1) c firm.graph.unmarked
        (Contains-filter (λ (z : Consumer). z.geom == 1) w.topology.consumers c here (eq-eqb c.geom 1 own)) in
        from_false_true (sym clean ∙ marked)

-- a consumer whose geom isn't of DEV isn't one of geom 1
not_of_dev : (w : World) → Firm w → (c : Consumer) → is_of_dev w.topology c ≡ false → c.geom ≢ 1
not_of_dev w firm c e own =
    let g = stands-at w firm c.geom (inl own) in
    let class = class-at w firm c.geom g.item g.is in
    let number : g.item.number ≡ 1 = number_found (λ (x : Geom Config). x.number) w.topology.geoms c.geom g.item g.is
    ∙ own in
    let kind : is_kind g.item.kind kinds.Dev ≡ true = class.dev ∙ ap (λ n. n == 1) number in
    from_false_true
    (sym e ∙ ap (λ (o : Option (Geom Config)). option_map_or (λ (x : Geom Config). is_kind x.kind kinds.Dev) o
    false) g.is ∙ kind)

-- a consumer hears that its provider is orphaned
orphan_one : (w : World) (c : Consumer) → c.geom ≢ 2 → Firm w → Firm (with_queued w (orphan_consumer (queued_of w) c))
orphan_one w c other firm =
    whichever-firm w (queued_of w) (wither_unless_withering (queued_of w) c.geom) (is_of_dev w.topology c) (λ e. firm)
    (λ e. unless-firm w c.geom (not_of_dev w firm c e) other firm)

-- an orphan
orphan-firm : (w : World) (p : ℕ) → w.taste ≡ None → Firm w → Firm (with_queued w (orphan (queued_of w) p))
orphan-firm w p none firm =
    all-firm w orphan_consumer (λ (c : Consumer). c.geom ≢ 2)
    (λ q c other firm. orphan_one (with_queued w q) c other firm) (attached_to w.topology p) (queued_of w)
    (All-from_contained (λ (c : Consumer). c.geom ≢ 2) (attached_to w.topology p)
    (λ c here. no_taste w firm none c (filter-Contains (λ (z : Consumer). names_number z.provider p)
    w.topology.consumers c here).0))
    firm

-- a geom that was made by a taste isn't DEV or TASTE
outgrown_other : (w : World) → Firm w → (c : Consumer) → is_outgrown (granted_in w) w.topology c ≡ true → (c.geom ≡ 1)
    ⊎ (c.geom ≡ 2) → ⊥
outgrown_other w firm c e which =
    let g = stands-at w firm c.geom which in
    let automatic : option_map_or (λ (x : Geom Config). x.automatic && not x.withering) (geom_at w.topology c.geom)
    false ≡ true =
    (and_parts (is_zero (want (granted_in w) w.topology c))
    (option_map_or (λ (x : Geom Config). x.automatic && not x.withering) (geom_at w.topology c.geom) false) e).1 in
    let both : (g.item.automatic && not g.item.withering) ≡ true =
    sym (ap (λ (o : Option (Geom Config)). option_map_or (λ (x : Geom Config). x.automatic && not x.withering) o
    false) g.is) ∙ automatic in
    from_false_true
    (sym (made-at w firm c.geom g.item which g.is) ∙ (and_parts g.item.automatic (not g.item.withering) both).0)

-- a geom goes that its provider has outgrown
outgrow_one : (w : World) (c : Consumer) → Firm w
    → Firm (with_queued w (outgrow_consumer (granted_in w) (queued_of w) c))
outgrow_one w c firm =
    whichever-firm w (wither (queued_of w) c.geom) (queued_of w) (is_outgrown (granted_in w) w.topology c)
    (λ e. withered-firm w c.geom firm (λ own. outgrown_other w firm c e (inl own))
    (λ own. outgrown_other w firm c e (inr own))) (λ e. firm)

-- a resize
resize-firm : (w : World) (p : ℕ) → Firm w → Firm (with_queued w (resize (granted_in w) (queued_of w) p))
resize-firm w p firm =
    offered-firm (with_queued w (fold (outgrow_consumer (granted_in w)) (queued_of w) (attached_to w.topology p))) p
    (all-firm w (outgrow_consumer (granted_in w)) (λ (c : Consumer). Unit {0})
    (λ q c any firm. outgrow_one (with_queued w q) c firm) (attached_to w.topology p) (queued_of w)
    (of_each (λ (c : Consumer). Unit {0}) (λ c. tt) (attached_to w.topology p)) firm)

-- handles die and the queue is another
killed_queued : (cs : List ℕ) (w : World) (q : QueuedTopology Config)
    → fold kill_handle (with_queued w q) cs ≡ with_queued (fold kill_handle w cs) q
killed_queued [] w q = refl
killed_queued (c ∷ cs) w q = killed_queued cs (kill_handle w c) q

-- events keep a firm world firm
pub events_keep : EventsKeepFirm
events_keep = record { spoiled = spoil-firm; orphaned = orphan-firm; resized = resize-firm }

-- A taste begins, and the step of an event: a firm world stays firm.

-- what the test of a taste says of the geom
geom_tasted : (t : Topology Config) (o : Option (Geom Config))
    → option_map_or (λ g. g.withering || nat_le UNTASTED_RANK (rank t g.number)) o true ≡ false
    → FoundWith o (λ g. rank t g.number < UNTASTED_RANK)
geom_tasted t None e = from_false_true (sym e)
geom_tasted t (Some g) e = record {
  item = g;
  is = refl;
  fact = leb-false UNTASTED_RANK (rank t g.number) (or_parts g.withering (nat_le UNTASTED_RANK (rank t g.number)) e).1;
}

-- the provider of a geom that is found so is there
provider_of_found : (t : Topology Config) (o : Option Provider) (g : Geom Config)
    → option_and_then (λ (x : Provider). geom_at t x.geom) o ≡ Some g → FoundWith o (λ x. geom_at t x.geom ≡ Some g)
provider_of_found t None g e = absurd (let no : ⊥ = cc in no)
provider_of_found t (Some x) g e = record { item = x; is = refl; fact = e }

-- a grant of nothing, whoever asks
no_grant : (b : Bool) → (if b && false then one_read else no_counts) ≡ no_counts
no_grant true = refl
no_grant false = refl

module _ (w : World) (p : ℕ) (firm : Firm w) (none : w.taste ≡ None) (x : Provider)
    (found : provider_at w.topology p ≡ Some x)
    (g : Geom Config) (of : geom_at w.topology x.geom ≡ Some g) (low : rank w.topology g.number < UNTASTED_RANK) where
  -- the graph before
  abbrev t : Topology Config
  t = w.topology

  -- and the graph with the taste's consumer
  abbrev u : Topology Config
  u = add_consumer t 2 (Some p)

  -- the world in which the taste has begun
  abbrev v : World
  v = begin_taste w p

  -- the taste
  abbrev s : Taste
  s = record {
    provider = p;
    consumer = t.next_consumer;
    classes = tasting_classes;
    asked = NoClass;
    reads = 0;
    chain = no_links;
  }

  -- its consumer
  abbrev new : Consumer
  new = record { number = t.next_consumer; geom = 2; provider = Some p; spoiled = false }

  -- the graph stands in order
  order : IsInOrder t
  order = sound-order w firm.graph.numbers

  -- all grants are as before
  grants : granted_in v ≡ granted_in w
  grants =
      grants-same (granted_in v) (granted_in w) (λ d.
      ap (λ z. option_map_or (λ (h : Handle). h.grant) (find (λ (h : Handle). names_number h.consumer d) w.handles) z)
      (no_grant (t.next_consumer == d) ∙ sym (ap (λ o. taste_grant o d) none)))

  -- the new consumer wants nothing
  wants_none : want (granted_in w) t new ≡ no_counts
  wants_none =
      granted_wants_nothing (granted_in w) t new
      (ap (λ (o : Option Handle). option_map_or (λ (h : Handle). h.grant) o (taste_grant w.taste t.next_consumer))
      (none_holds_next w firm)
      ∙ ap (λ o. taste_grant o t.next_consumer) none)
      (holds_grants w firm 2 (inr refl))

  -- demand stays
  demand : DemandStays (granted_in w) t (granted_in v) u AnyConsumer
  demand =
      subst (λ (G : ℕ → Counts). DemandStays (granted_in w) t G u AnyConsumer) (sym grants)
      (consumer_came (granted_in w) t 2 (Some p) (λ some. wants_none))

  -- one consumer of TASTE comes
  frame : Frame t u 2
  frame = came t order 2 p (some-there (provider_at t p) x found)

  -- a consumer that was found still is
  still : (m : ℕ) (c : Consumer) → consumer_at t m ≡ Some c → consumer_at u m ≡ Some c
  still m c e = found-before (λ (z : Consumer). z.number == m) t.consumers (new ∷ []) c e

  -- no consumer is of TASTE yet
  empty : consumers_of t 2 ≡ []
  empty = subst (HasTasteConsumer t) none firm.handles.taste

  -- the taste is in order
  in_order : IsTasteInOrder u s
  in_order = record {
    rank = some-with (geom_of_provider t p) (λ h. rank u h.number < UNTASTED_RANK) g
        (ap (option_and_then (λ (z : Provider). geom_at t z.geom)) found ∙ of)
        (let rises = open-rises t 2 p x firm.graph.ranks.ranked firm.graph.parts.consumers
        (bare_there w firm 2 (inr refl)) firm.graph.ranks.taste.no_provider found in
        let same : rank u g.number ≡ rank t g.number = rises.0.same g.number (λ e.
        not_of_bare w firm 2 (inr refl) x (find-Contains (λ (z : Provider). z.number == p) t.providers x found)
        (sym (number_found (λ (z : Geom Config). z.number) t.geoms x.geom g of) ∙ e)) in
        omega arith);
    reads = refl;
    chain = λ ebr. absurd (let no : ⊥ = cc in no);
  }

  -- a root comes from its owner; none is of a taste yet
  comes : (b : Bio) (o : Owner) → ComesFromItsOwner w.handles w.taste b o → ComesFromItsOwner w.handles (Some s) b o
  comes b owners.Taste fact =
      absurd (subst (λ (o : Option Taste). IsSomeAnd o (λ z. (z.consumer ≡ b.source) × (z.provider ≡ b.target))) none
      fact)
  comes b _ fact = fact

  -- so the world is firm
  begun-firm : Firm v
  begun-firm = framed-firm w firm v 2 (inr refl) frame (record {
    ranks = sound-ranks.opened t 2 p x (inr refl) firm.graph.ranks firm.graph.parts.consumers found;
    counts = record {
      exclusive = demand.exclusive firm.demand.counts.exclusive;
      limited = demand.limit firm.demand.counts.limited;
    };
    closed = λ q h here at withers zero. ap is_zero (demand.haves q.number) ∙ zero;
    handles = record {
      numbers = firm.handles.numbers;
      consumers = subst (All (IsHandleConsumer w.handles))
          (sym (frame.others 1 (λ e. from_false_true (eq-eqb 1 2 e)))) firm.handles.consumers;
      handles = All-weaker (HasItsConsumer t) (HasItsConsumer u) (has_its-still t u (λ m c e one. still m c e))
          w.handles firm.handles.handles;
      taste = record {
        consumer = new;
        alone = added-consumer.own t 2 (Some p) ∙ ap (λ cs. cs ++ new ∷ []) empty;
        number = refl;
        attached = refl;
      };
    };
    sources = λ b here c e counts. (
      still b.source c e,
      subst (λ a. (IsTrue (is_read b.cmd) → 0 < a.r) × (is_read b.cmd ≡ false → 0 < a.w)) (sym (demand.wants c tt))
          counts,
    );
    owners = λ b here. comes b b.owner;
    read_out = subst (λ (o : Option Taste). IsTrue (list_any (λ b. is_taste_root b.owner) w.bios)
        ↔ IsTrue (option_map_or (λ z. is_read_out z.asked) o false)) none firm.bios.read_out;
    taste = in_order;
    asked = if-found (provider_at t p) (λ q. IsAskedInOrder u q NoClass) (λ q e. tt);
  })

-- a provider that is tasted now: it lives, and its geom has a rank below the limit
tasted-firm : (w : World) (p : ℕ) → w.taste ≡ None → is_not_tasted (granted_in w) w.topology p ≡ false → Firm w
    → Firm (begin_taste w p)
tasted-firm w p none tasted firm =
    let test = option_map_or (λ (g : Geom Config). g.withering || nat_le UNTASTED_RANK (rank w.topology g.number))
    (geom_of_provider w.topology p) true in
    let busy = not ((have (granted_in w) w.topology p).w == 0) in
    let rest : (test || busy) ≡ false = (or_parts (is_errored w.topology p) (test || busy) tasted).1 in
    let g = geom_tasted w.topology (geom_of_provider w.topology p) (or_parts test busy rest).0 in
    let x = provider_of_found w.topology (provider_at w.topology p) g.item g.is in
    begun-firm w p firm none x.item x.is g.item x.fact g.fact

-- an offer
offer-firm : (w : World) (p : ℕ) (b : Bool) → is_not_tasted (granted_in w) w.topology p ≡ b → w.taste ≡ None → Firm w
    → Firm (if is_not_tasted (granted_in w) w.topology p then w else begin_taste w p)
offer-firm w p true e none firm = subst (λ b. Firm (if b then w else begin_taste w p)) (sym e) firm
offer-firm w p false e none firm = subst (λ b. Firm (if b then w else begin_taste w p)) (sym e)
    (tasted-firm w p none e firm)

-- each event
event-firm : (w : World) (e : Event) → w.taste ≡ None → Firm w → Firm (do_event w e)
unfolding do_event
event-firm w (events.NewProvider p) none firm =
    offer-firm w p (is_not_tasted (granted_in w) w.topology p) refl none firm
event-firm w (events.Spoil p) none firm = spoil-firm w p none firm
event-firm w (events.Orphan p) none firm =
    subst Firm (killed_queued (dying_consumers w.topology p) w (orphan (queued_of w) p))
    (all_killed-firm (dying_consumers w.topology p) (with_queued w (orphan (queued_of w) p))
    (orphan-firm w p none firm))
event-firm w (events.Resize p) none firm = resize-firm w p firm

-- the head of a queue is done
head-firm : (w : World) (queue : List Event) → w.events ≡ queue → w.taste ≡ None → Firm w
    → Firm (world_after w (event_of w queue))
head-firm w [] is none firm = firm
head-firm w (e ∷ rest) is none firm = event-firm (record w { events = rest }) e none
    (queues_keep.taken w e rest is firm)

-- a taste that is under way refuses the step
refused-firm : (w : World) (o : Option Taste) → w.taste ≡ o → Firm w
    → Firm (world_after w (if is_some o then Err refusals.TasteUnderWay else event_of w w.events))
refused-firm w (Some s) is firm = firm
refused-firm w None is firm = head-firm w w.events refl is firm

-- the step
event_step-firm : (w : World) (seat : ℕ) → Firm w → Firm (world_by w seat steps.Event)
unfolding step event
event_step-firm w seat firm = refused-firm w w.taste refl firm

-- events, and their step, keep a firm world firm
pub event_step_keeps : EventStepKeepsFirm
event_step_keeps = record { begun = tasted-firm; done = event-firm; step = event_step-firm }
