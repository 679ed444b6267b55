-- A Judge lowers the measure: a taste ends, asks or reads and costs less then; and where a class makes a geom, what the
-- taste could make costs more than what it made.
use Rattle.std.specs.Prelude.{◌≡◌, ◌≢◌, ℕ, ◌+◌, ◌*◌, ◌<◌, ◌≤◌, ◌==◌, Bool, true, false, List, [], ◌∷◌, length, sum_by, Option, Some, None, IsSome, is_some, IfSome, if◌then◌else◌, option_and_then, find, All}
use Rattle.std.specs.Option.{option_map_or}
use Rattle.std.proofs.Common.{refl, sym, ◌∙◌, ap, subst, arith}
use Rattle.std.proofs.lemmas.List.Elements.{All-contains, recursion_from_All}
use Rattle.std.proofs.lemmas.List.Sums.{sum_by-cons}
use Rattle.std.proofs.Math.Nat.{mul-le-mul_right, add-mul, mul-le-mul_left}
use Rattle.geo_base.specs.declared.errno.Errno.{Errno}
use Rattle.geo_base.specs.declared.kind.Kind.{Kind}
use Rattle.geo_base.specs.declared.kind.Kind.TheVariants as kinds
use Rattle.geo_base.specs.declared.request.Counts.{Counts}
use Rattle.geo_model.specs.declared.class.Facts.{Facts}
use Rattle.geo_model.specs.declared.class.Judged.TheVariants.{Read, Next, Made}
use Rattle.geo_model.specs.declared.class.Verdict.{Verdict}
use Rattle.geo_model.specs.declared.class.Verdict.TheVariants.{Decline, More, Accept}
use Rattle.geo_model.specs.declared.step.BioResult.{BioResult}
use Rattle.geo_model.specs.declared.step.BioResult.TheVariants as results
use Rattle.geo_model.specs.Topology.{Provider, Consumer, provider_at, consumer_at, remove_consumer}
use Rattle.geo_model.specs.Rank.{rank, reaches}
use Rattle.geo_model.specs.Demand.{one_read}
use Rattle.geo_model.specs.Opens.{grant_refusal, with_grant}
use Rattle.geo_model.specs.Chain.{no_links}
use Rattle.geo_model.specs.World.{World, Config, Taste, Asked, NoClass, NextSector, ReadOut, ReadBack, granted_in, is_read_out}
use Rattle.geo_model.specs.Events.{QueuedTopology, provider_of_event}
use Rattle.geo_model.specs.WorldEvents.{queued_of, with_queued}
use Rattle.geo_model.specs.Acceptance.{accept, taste_where}
use Rattle.geo_model.specs.Tasting.{Judging, facts_of, is_attached_class, is_ended, end_class, end_taste, read_sector, follow, with_read, verdict_on, take_result, ask_class, next_class, go_on, abort_taste, submit_read, judged_world}
use Rattle.geo_model.specs.Order.{judges_of_class, judges_left, makes_left, can_make, taste_weight, rank_of_provider, taste_left, IsLess, measure, event_weight}
use Rattle.geo_model.specs.Sound.{IsTasteInOrder, AreReadsInOrder}
use Rattle.geo_model.specs.Fitting.{Firm}
use Rattle.geo_model.specs.declared.class.Judged.{Judged}
use Rattle.geo_model.specs.declared.class.Shape.{Shape}
use Rattle.geo_model.specs.declared.step.Event.{Event}
use Rattle.geo_model.specs.StepEffects.{IsJudged}
use Rattle.geo_laws_graph.proofs.Living.{sound-order}
use Rattle.geo_laws_graph.proofs.Members.{has}
use Rattle.geo_laws_graph.proofs.EdgeRanks.{reaches-none}
use Rattle.geo_laws_graph.specs.Attach.{IsAttached}
use Rattle.geo_laws_graph.proofs.RankChanges.{removal-lowers}
use Rattle.geo_laws_life.proofs.Bare.{tasting, taster, taster_here, taster_geom, taster_found}
use Rattle.geo_laws_making.proofs.Offered.{offered}
use Rattle.geo_laws_making.specs.AcceptLaws.{IsAccepted}
use Rattle.geo_laws_making.proofs.Accepted.{has_geom}
use Rattle.geo_laws_rest.proofs.Lowered.{tasting_less, weights_same, left_same, rank_weight, elsewhere}
use Rattle.geo_laws_rest.proofs.Accepting.{at_rank, IsLiving, living_weights, Offering, offers_cost, Makes, accepted-makes}

-- a taste of the same provider that needs fewer Judge steps and can make no more costs less
less_left : (w : World) (a b : Taste) → a.provider ≡ b.provider
    → judges_left a.asked a.reads + judges_of_class * length a.classes
    < judges_left b.asked b.reads + judges_of_class * length b.classes
    → makes_left a.asked + sum_by can_make a.classes ≤ makes_left b.asked + sum_by can_make b.classes
    → taste_left w (Some a) < taste_left w (Some b)
less_left w a b same fewer most =
    let weight : taste_weight (rank_of_provider w a.provider + 1) ≡ taste_weight
    (rank_of_provider w b.provider + 1) =
    ap (λ (p : ℕ). taste_weight (rank_of_provider w p + 1)) same in
    rw weight
    (let times = mul-le-mul_right (taste_weight (rank_of_provider w b.provider + 1)) most in
    omega (arith, times, fewer))

-- the taste is as another, but for its chain
record IsAs (a b : Taste) : Type 0 where
  provider : a.provider ≡ b.provider
  classes : a.classes ≡ b.classes
  asked : a.asked ≡ b.asked
  reads : a.reads ≡ b.reads

-- A Judge by which a class makes a geom lowers the measure: what the taste could make costs more than what it made.

-- Costs

module _ (w : World) (firm : Firm w) (p : ℕ) (r number : ℕ) (rank_is : rank_of_provider w p ≡ r)
    (lives : IsSome (provider_at w.topology p)) (made : QueuedTopology Config)
    (makes : Makes w w.topology made r number) where
  -- the world with what is made
  abbrev grown : World
  grown = with_queued w made

  -- the graph with the geom, before providers are offered
  abbrev begun : QueuedTopology Config
  begun = record { topology = makes.graph; events = w.events }

  -- what an offer above the tasted provider may cost
  abbrev above : ℕ
  above = taste_weight (r + 1)

  -- what lived lives on
  same_lives : (q : ℕ) → IsSome (provider_at w.topology q) → IsSome (provider_at makes.graph q)
  same_lives q there =
      subst (λ (ps : List Provider). IsSome (find (λ (x : Provider). x.number == q) ps)) (sym makes.raised.kept) there

  -- so the events are of what lives
  events_live : All (IsLiving makes.graph) w.events
  events_live =
      subst (λ (ps : List Provider). All (λ (e : Event). IsSome (find (λ (x : Provider). x.number
      == provider_of_event e) ps)) w.events) (sym makes.raised.kept) firm.taste.living

  -- the offers
  offering : Offering w makes.geom makes.sector begun
      (offered makes.geom makes.sector begun makes.slices) (length makes.slices)
  offering = offers_cost w makes.geom makes.sector makes.slices begun makes.raised.can events_live

  -- without them the queue costs what it cost
  begun_costs : sum_by (event_weight (with_queued w begun)) w.events ≡ sum_by (event_weight w) w.events
  begun_costs =
      living_weights (with_queued w begun) w makes.raised.living w.events
      (recursion_from_All (IsLiving w.topology) w.events firm.taste.living)

  -- with them it costs no more than all that the class can make
  queue_most : sum_by (event_weight grown) made.events ≤ sum_by (event_weight w) w.events + number * above
  queue_most =
      let cost : sum_by (event_weight grown) made.events
      ≡ sum_by (event_weight (with_queued w begun)) w.events
      + length makes.slices * taste_weight (rank makes.graph makes.geom) =
      subst (λ (q : QueuedTopology Config). sum_by (event_weight (with_queued w q)) q.events
      ≡ sum_by (event_weight (with_queued w begun)) w.events
      + length makes.slices * taste_weight (rank makes.graph makes.geom)) makes.is offering.cost in
      let each = mul-le-mul_left (length makes.slices)
      (rank_weight (r + 1) (rank makes.graph makes.geom) makes.raised.high) in
      let all = mul-le-mul_right above makes.few in
      omega (arith, cost, begun_costs, each, all)

  -- the tasted provider keeps its rank
  rank_stays : rank_of_provider grown p ≡ r
  rank_stays =
      subst (λ (q : QueuedTopology Config). rank_of_provider (with_queued w q) p
      ≡ rank_of_provider (with_queued w begun) p) makes.is (offering.living p (same_lives p lives))
      ∙ makes.raised.living p lives ∙ rank_is

  -- a taste for which the class is done with costs so much less
  module _ (s a : Taste) (of : s.provider ≡ p) (same : a.provider ≡ p) (classes : a.classes ≡ s.classes)
      (can : makes_left s.asked ≡ number) (some : 1 ≤ judges_left s.asked s.reads) (is : w.taste ≡ Some s) where
    -- the taste then
    abbrev next : Taste
    next = record a { asked = NoClass; reads = 0; chain = no_links }

    -- the world then
    abbrev v : World
    v = record grown { taste = Some next }

    -- what the other classes can make costs
    abbrev others : ℕ
    others = sum_by can_make s.classes * above

    -- what the taste costs then
    now : taste_left v (Some next) ≡ 1 + 0 + judges_of_class * length s.classes + others
    now =
        let weight : taste_weight (rank_of_provider v a.provider + 1) ≡ above =
        ap (λ (q : ℕ). taste_weight (rank_of_provider grown q + 1)) same
        ∙ ap (λ (m : ℕ). taste_weight (m + 1)) rank_stays in
        let makes_now : sum_by can_make a.classes ≡ sum_by can_make s.classes = ap (sum_by can_make) classes in
        let long : length a.classes ≡ length s.classes = ap (λ (ks : List Kind). length ks) classes in
        let none : 0 + sum_by can_make a.classes ≡ sum_by can_make a.classes = omega arith in
        let cost : taste_left v (Some next)
        ≡ 1 + 0 + judges_of_class * length a.classes
        + (0 + sum_by can_make a.classes) * taste_weight (rank_of_provider v a.provider + 1) = refl in
        cost
        ∙ ap (λ (m : ℕ). 1 + 0 + judges_of_class * length a.classes + (0 + sum_by can_make a.classes) * m) weight
        ∙ ap (λ (m : ℕ). 1 + 0 + judges_of_class * length a.classes + m * above) (none ∙ makes_now)
        ∙ ap (λ (m : ℕ). 1 + 0 + judges_of_class * m + others) long

    -- what it cost
    was : taste_left w w.taste
        ≡ 1 + judges_left s.asked s.reads + judges_of_class * length s.classes + (number * above + others)
    was =
        let weight : taste_weight (rank_of_provider w s.provider + 1) ≡ above =
        ap (λ (q : ℕ). taste_weight (rank_of_provider w q + 1)) of ∙ ap (λ (m : ℕ). taste_weight (m + 1)) rank_is in
        ap (taste_left w) is
        ∙ ap (λ (m : ℕ). 1 + judges_left s.asked s.reads + judges_of_class * length s.classes
        + (makes_left s.asked + sum_by can_make s.classes) * m) weight
        ∙ ap (λ (m : ℕ). 1 + judges_left s.asked s.reads + judges_of_class * length s.classes
        + (m + sum_by can_make s.classes) * above) can
        ∙ ap (λ (m : ℕ). 1 + judges_left s.asked s.reads + judges_of_class * length s.classes + m)
        (add-mul number (sum_by can_make s.classes) above)

    -- so the measure falls
    made_less : IsLess (measure v) (measure w)
    made_less =
        let queue = weights_same v grown (λ q. refl) made.events in
        tasting_less v w (omega arith) (omega arith) (omega (arith, queue, queue_most, now, was, some))

-- Each Judge

module _ (w : World) (firm : Firm w) (s : Taste) (is : w.taste ≡ Some s) where
  -- the graph with the queue, and the grants
  abbrev q : QueuedTopology Config
  q = queued_of w

  abbrev g : ℕ → Counts
  g = granted_in w

  -- what the taste costs
  had : taste_left w w.taste ≡ taste_left w (Some s)
  had = ap (taste_left w) is

  -- a taste that costs less lowers the measure
  next_lower : (a : Taste) → taste_left w (Some a) < taste_left w (Some s)
      → IsLess (measure (record (with_queued w q) { taste = Some a })) (measure w)
  next_lower a less =
      let v : World = record (with_queued w q) { taste = Some a } in
      let queue = weights_same v w (λ p. refl) w.events in
      let taste = left_same v w (λ p. refl) (Some a) in
      tasting_less v w (omega arith) (omega arith) (omega (arith, queue, taste, had, less))

  -- so with a read that is submitted
  read_lower : (a : Taste) (sector : ℕ) → taste_left w (Some a) < taste_left w (Some s)
      → IsLess (measure (submit_read (record (with_queued w q) { taste = Some a }) a sector)) (measure w)
  read_lower a sector less =
      let v : World = submit_read (record (with_queued w q) { taste = Some a }) a sector in
      let queue = weights_same v w (λ p. refl) w.events in
      let taste = left_same v w (λ p. refl) (Some a) in
      tasting_less v w (omega arith) (omega arith) (omega (arith, queue, taste, had, less))

  -- The end of the taste

  -- the tasted provider stands
  tasted : IsSome (provider_at w.topology s.provider)
  tasted =
      subst (λ (o : Option ℕ). IsSome (option_and_then (provider_at w.topology) o)) (tasting w firm s is).attached
      (All-contains (λ (x : Consumer). IsSome (option_and_then (provider_at w.topology) x.provider))
      w.topology.consumers (taster w firm s is) firm.graph.attached (taster_here w firm s is))

  -- so the consumer is attached
  attached : IsAttached w.topology s.consumer
  attached =
      let p = has (provider_at w.topology s.provider) tasted in
      record {
        consumer = taster w firm s is;
        stands = subst (λ (n : ℕ). consumer_at w.topology n ≡ Some (taster w firm s is)) (tasting w firm s is).number
            (taster_found w firm s is);
        number = s.provider;
        at = (tasting w firm s is).attached;
        provider = p.item;
        offers = p.is;
      }

  -- without it the ranks of other geoms than TASTE stay
  abort_ranks : (n : ℕ) → n ≢ 2 → rank (remove_consumer w.topology s.consumer) n ≡ rank w.topology n
  unfolding attached
  abort_ranks n apart =
      let lowers = (removal-lowers w.topology s.consumer attached firm.graph.ranks.ranked
      firm.graph.parts.consumers
      (sound-order w firm.graph.numbers)).1 in
      sym (lowers.elsewhere n
      (subst (λ (m : ℕ). reaches (remove_consumer w.topology s.consumer) n m ≡ false) (sym (taster_geom w firm s is))
      (reaches-none (remove_consumer w.topology s.consumer) n 2 firm.graph.ranks.taste.no_provider apart)))

  -- the taste ends
  abort_lower : IsLess (measure (abort_taste w s)) (measure w)
  abort_lower =
      let v : World = abort_taste w s in
      let same = elsewhere v w 2 firm.graph.ranks.taste.no_provider (λ p. refl) abort_ranks in
      let queue = weights_same v w same w.events in
      tasting_less v w (omega arith) (omega arith) (omega (arith, queue, had))

  -- Judgings

  -- what a judging comes to lowers the measure
  abbrev Lower : Judging → Type 0
  Lower x = IsLess (measure (judged_world w x x.judged).0) (measure w)

  -- a class that is done with
  class_lower : (a : Taste) → taste_left w (Some (record a { asked = NoClass; reads = 0; chain = no_links }))
      < taste_left w (Some s) → Lower (end_class g q a Next)
  class_lower a less = next_lower (record a { asked = NoClass; reads = 0; chain = no_links }) less

  -- a read that is granted or not
  sector_lower : (a : Taste) (kind : Kind) (sector : ℕ) (o : Option Errno)
      → taste_left w (Some (record a { asked = NoClass; reads = 0; chain = no_links })) < taste_left w (Some s)
      → taste_left w (Some (record a { asked = ReadOut kind; reads = a.reads + 1 })) < taste_left w (Some s)
      → Lower
      (if is_some o
      then end_class g q a Next
      else record {
        queued = q;
        taste = record a { asked = ReadOut kind; reads = a.reads + 1 };
        judged = Read sector;
      })
  sector_lower a kind sector (Some e) ends reads = class_lower a ends
  sector_lower a kind sector None ends reads =
      read_lower (record a { asked = ReadOut kind; reads = a.reads + 1 }) sector reads

  -- the reads made are few
  few : IsTasteInOrder w.topology s
  few = subst (λ (o : Option Taste). IfSome o (IsTasteInOrder w.topology)) is firm.taste.order

  -- a class that is asked no more costs less, where it still had a step
  ended_less : (a : Taste) (asked : Asked) → s.asked ≡ asked → IsAs a s → 1 ≤ judges_left asked s.reads
      → taste_left w (Some (record a { asked = NoClass; reads = 0; chain = no_links })) < taste_left w (Some s)
  ended_less a asked e like some =
      let judges : judges_left s.asked s.reads ≡ judges_left asked s.reads =
      ap (λ (x : Asked). judges_left x s.reads) e in
      let long : length a.classes ≡ length s.classes = ap (λ (ks : List Kind). length ks) like.classes in
      let makes : sum_by can_make a.classes ≡ sum_by can_make s.classes = ap (sum_by can_make) like.classes in
      less_left w (record a { asked = NoClass; reads = 0; chain = no_links }) s like.provider
      (omega (arith, judges, long, some)) (omega (arith, makes))

  -- a sector that is back, and the taste with its link
  module _ (going : is_ended w.topology s ≡ false) (p : Provider) (found : provider_at w.topology s.provider ≡ Some p)
      (kind : Kind) (bytes : List ℕ) (read : s.asked ≡ ReadBack kind (results.Bytes bytes)) (a : Taste)
      (like : IsAs a s) where
    -- a class that is done with costs less
    declined : taste_left w (Some (record a { asked = NoClass; reads = 0; chain = no_links })) < taste_left w (Some s)
    declined = ended_less a (ReadBack kind (results.Bytes bytes)) read like (omega arith)

    -- by what is made of what is accepted
    accept_lower : (shape : Shape) → verdict_on g s kind bytes (facts_of w.topology p) ≡ Accept shape
        → (o : Option (QueuedTopology Config)) → accept q p shape ≡ o
        → Lower (option_map_or (λ made. end_class g made a Made) o (end_class g q a Next))
    accept_lower shape verdict None e = class_lower a declined
    accept_lower shape verdict (Some made) e =
        let accepted : IsAccepted w s p kind bytes shape made = record {
          taste = is;
          asked = read;
          going = going;
          found = found;
          verdict = verdict;
          makes = e;
        } in
        let geom = has_geom w s p kind bytes shape made firm accepted in
        let rank_is : rank_of_provider w s.provider ≡ rank w.topology p.geom =
        at_rank w s.provider p geom.geom found geom.is in
        let can : makes_left s.asked ≡ can_make kind = ap makes_left read in
        let judges : judges_left s.asked s.reads ≡ judges_left (ReadBack kind (results.Bytes bytes)) s.reads =
        ap (λ (x : Asked). judges_left x s.reads) read in
        made_less w firm s.provider (rank w.topology p.geom) (can_make kind) rank_is tasted made
        (accepted-makes w firm s p bytes shape made kind accepted) s a refl like.provider like.classes can
        (omega (arith, judges)) is

    -- by the verdict
    verdict_lower : (verdict : Verdict) → verdict_on g s kind bytes (facts_of w.topology p) ≡ verdict
        → Lower (follow g q a p kind verdict)
    verdict_lower (Decline cause) e = class_lower a declined
    verdict_lower (More sector) e =
        let judges : judges_left s.asked s.reads ≡ judges_left (ReadBack kind (results.Bytes bytes)) s.reads =
        ap (λ (x : Asked). judges_left x s.reads) read in
        let can : makes_left s.asked ≡ can_make kind = ap makes_left read in
        let long : length a.classes ≡ length s.classes = ap (λ (ks : List Kind). length ks) like.classes in
        let makes : sum_by can_make a.classes ≡ sum_by can_make s.classes = ap (sum_by can_make) like.classes in
        let reads : judges_left (NextSector kind sector) a.reads ≡ judges_left (NextSector kind sector) s.reads =
        ap (judges_left (NextSector kind sector)) like.reads in
        next_lower (record a { asked = NextSector kind sector })
        (less_left w (record a { asked = NextSector kind sector }) s like.provider
        (omega (arith, judges, long, reads)) (omega (arith, makes, can)))
    verdict_lower (Accept shape) e = accept_lower shape e (accept q p shape) refl

  -- EBR's link is kept in the chain alone
  read_as : (kind : Kind) (bytes : List ℕ) (f : Facts) → IsAs (with_read g s kind bytes f) s
  read_as kinds.Ebr bytes f = record { provider = refl; classes = refl; asked = refl; reads = refl }
  read_as _ bytes f = record { provider = refl; classes = refl; asked = refl; reads = refl }

  -- the taste is as itself
  as_itself : IsAs s s
  as_itself = record { provider = refl; classes = refl; asked = refl; reads = refl }

  -- a read that is back
  result_lower : is_ended w.topology s ≡ false → (p : Provider) → provider_at w.topology s.provider ≡ Some p
      → (kind : Kind) (got : BioResult) → s.asked ≡ ReadBack kind got → Lower (take_result g q s p kind got)
  result_lower going p found kind (results.Bytes bytes) e =
      let f : Facts = facts_of w.topology p in
      verdict_lower going p found kind bytes e (with_read g s kind bytes f) (read_as kind bytes f)
      (verdict_on g s kind bytes f) refl
  result_lower going p found kind got e = class_lower s (ended_less s (ReadBack kind got) e as_itself (omega arith))

  -- a sector that is known as next
  known_lower : (kind : Kind) (sector : ℕ) → s.asked ≡ NextSector kind sector → Lower
      (read_sector g q s kind sector)
  known_lower kind sector e =
      let low : AreReadsInOrder (NextSector kind sector) s.reads =
      subst (λ (a : Asked). AreReadsInOrder a s.reads) e few.reads in
      let judges : judges_left s.asked s.reads ≡ judges_left (NextSector kind sector) s.reads =
      ap (λ (x : Asked). judges_left x s.reads) e in
      let can : makes_left s.asked ≡ can_make kind = ap makes_left e in
      sector_lower s kind sector (grant_refusal (with_grant g s.consumer one_read) w.topology s.provider)
      (ended_less s (NextSector kind sector) e as_itself (omega (arith, low)))
      (less_left w (record s { asked = ReadOut kind; reads = s.reads + 1 }) s refl
      (omega (arith, judges, low)) (omega (arith, can)))

  -- the next class
  module _ (p : Provider) (kind : Kind) (rest : List Kind) (e : s.asked ≡ NoClass)
      (left : s.classes ≡ kind ∷ rest) where
    -- the taste with the classes that are left
    abbrev after : Taste
    after = record s { classes = rest; asked = NoClass; reads = 0; chain = no_links }

    -- how many they are
    long : length s.classes ≡ 1 + length rest
    long =
        let more : length (kind ∷ rest) ≡ 1 + length rest = omega arith in
        ap (λ (ks : List Kind). length ks) left ∙ more

    -- what they can make
    makes : sum_by can_make s.classes ≡ can_make kind + sum_by can_make rest
    makes = ap (sum_by can_make) left ∙ sum_by-cons can_make kind rest

    -- how far no class is asked
    idle_judges : judges_left s.asked s.reads ≡ 0
    idle_judges = ap (λ (a : Asked). judges_left a s.reads) e

    -- and what it makes
    idle_makes : makes_left s.asked ≡ 0
    idle_makes = ap makes_left e

    -- passed over
    passed : taste_left w (Some (record after { asked = NoClass; reads = 0; chain = no_links }))
        < taste_left w (Some s)
    passed = less_left w after s refl (omega (arith, long, idle_judges)) (omega (arith, makes, idle_makes))

    -- asked
    asks : taste_left w (Some (record after { asked = ReadOut kind; reads = after.reads + 1 }))
        < taste_left w (Some s)
    asks = less_left w (record after { asked = ReadOut kind; reads = after.reads + 1 }) s refl
        (omega (arith, long, idle_judges)) (omega (arith, makes, idle_makes))

    -- by the sector that is asked for
    where_by : (o : Option ℕ)
        → Lower (option_map_or (λ sector. read_sector g q after kind sector) o (end_class g q after Next))
    where_by None = class_lower after passed
    where_by (Some sector) =
        sector_lower after kind sector
        (grant_refusal (with_grant g s.consumer one_read) w.topology s.provider) passed asks

    -- by whether its geom stands over the provider
    over_by : (b : Bool)
        → Lower
        (if b
        then end_class g q after Next
        else option_map_or (λ sector. read_sector g q after kind sector) (taste_where kind (facts_of w.topology p))
        (end_class g q after Next))
    over_by true = class_lower after passed
    over_by false = where_by (taste_where kind (facts_of w.topology p))

    -- so
    class_asked_lower : Lower (ask_class g q s p kind rest)
    class_asked_lower = over_by (is_attached_class w.topology kind s.provider)

  -- by the classes that are left
  classes_lower : (p : Provider) (ks : List Kind) → s.asked ≡ NoClass → s.classes ≡ ks → Lower
      (next_class g q s p ks)
  classes_lower p [] e left = abort_lower
  classes_lower p (kind ∷ rest) e left = class_asked_lower p kind rest e left

  -- by how far a class is asked
  asked_lower : is_ended w.topology s ≡ false → (p : Provider) → provider_at w.topology s.provider ≡ Some p
      → (a : Asked) → is_read_out a ≡ false → s.asked ≡ a → Lower (go_on g q s p a)
  asked_lower going p found (ReadBack kind got) idle e = result_lower going p found kind got e
  asked_lower going p found (NextSector kind sector) idle e = known_lower kind sector e
  asked_lower going p found (ReadOut kind) idle e = absurd cc
  asked_lower going p found NoClass idle e = classes_lower p s.classes e refl

  -- by the provider
  provider_lower : is_ended w.topology s ≡ false → is_read_out s.asked ≡ false → (o : Option Provider)
      → provider_at w.topology s.provider ≡ o → Lower (option_map_or (λ p. go_on g q s p s.asked) o (end_taste g q s))
  provider_lower going idle None found = abort_lower
  provider_lower going idle (Some p) found = asked_lower going p found s.asked idle refl

  -- by whether the taste can't go on
  step_lower : is_read_out s.asked ≡ false → (b : Bool) → is_ended w.topology s ≡ b
      → Lower
      (if b then end_taste g q s
      else option_map_or (λ p. go_on g q s p s.asked) (provider_at w.topology s.provider) (end_taste g q s))
  step_lower idle true e = abort_lower
  step_lower idle false e = provider_lower e idle (provider_at w.topology s.provider) refl

-- so each lowers the measure
pub judged_lower : (w : World) → Firm w → (s : Taste) (x : Judging) (j : Judged) → IsJudged w s x j
    → IsLess (measure (judged_world w x j).0) (measure w)
judged_lower w firm s x j is =
    let lower = step_lower w firm s is.taste is.back (is_ended w.topology s) refl in
    subst (λ (k : Judged). IsLess (measure (judged_world w x k).0) (measure w)) is.judged
    (subst (λ (z : Judging). IsLess (measure (judged_world w z z.judged).0) (measure w)) is.step lower)
