-- The step of a taste: a firm world stays firm.
use Rattle.std.specs.Prelude.{◌≡◌, ℕ, ◌+◌, ◌/◌, ◌<◌, ◌≤◌, ◌==◌, Bool, true, false, List, [], ◌∷◌, length, Option, Some, None, IsSome, IfSome, is_some, if◌then◌else◌}
use Rattle.std.specs.Option.{option_map_or}
use Rattle.std.proofs.Common.{refl, sym, ◌∙◌, ap, subst, arith}
use Rattle.std.proofs.lemmas.List.Elements.{All-contains, All-nil}
use Rattle.geo_base.specs.Sectors.{IsSectorSize}
use Rattle.geo_base.specs.declared.errno.Errno.{Errno}
use Rattle.geo_base.specs.declared.kind.Kind.{Kind}
use Rattle.geo_base.specs.declared.kind.Kind.TheVariants as kinds
use Rattle.geo_base.specs.declared.request.Counts.{Counts}
use Rattle.geo_model.specs.declared.class.Facts.{Facts}
use Rattle.geo_model.specs.declared.class.Judged.TheVariants.{Read, Next, Made}
use Rattle.geo_model.specs.declared.class.Shape.{Shape}
use Rattle.geo_model.specs.declared.class.Verdict.{Verdict}
use Rattle.geo_model.specs.declared.class.Verdict.TheVariants.{Decline, More, Accept}
use Rattle.geo_model.specs.declared.step.BioResult.{BioResult}
use Rattle.geo_model.specs.declared.step.BioResult.TheVariants as results
use Rattle.geo_model.specs.declared.step.Step.TheVariants as steps
use Rattle.geo_model.specs.Topology.{Topology, Provider, provider_at}
use Rattle.geo_model.specs.Demand.{one_read}
use Rattle.geo_model.specs.Opens.{grant_refusal, with_grant}
use Rattle.geo_model.specs.Order.{reads_limit}
use Rattle.geo_model.specs.Chain.{Chain, no_links, with_link, feed}
use Rattle.geo_model.specs.World.{World, Config, Taste, Asked, NoClass, NextSector, ReadOut, ReadBack, granted_in, is_read_out}
use Rattle.geo_model.specs.Events.{QueuedTopology}
use Rattle.geo_model.specs.WorldEvents.{queued_of, with_queued}
use Rattle.geo_model.specs.Acceptance.{accept, judge, taste_where}
use Rattle.geo_model.specs.Tasting.{Judging, facts_of, is_attached_class, is_ended, end_class, end_taste, read_sector, follow, with_read, verdict_on, take_result, next_class, go_on, judged_world, judge_step}
use Rattle.geo_model.specs.Sound.{AreReadsInOrder, ChainHolds, IsMediaSize, IsTasteInOrder, class_asked}
use Rattle.geo_model.specs.Fitting.{AsksThere, IsAskedInOrder, Firm}
use Rattle.geo_model.specs.Laws.{world_by}
use Rattle.geo_model.specs.Log.{world_after}
use Rattle.geo_model.specs.Step.{step, judge_of, judge_next}
use Rattle.geo_laws_graph.proofs.Members.{find-Contains}
use Rattle.geo_laws_life.proofs.Found.{if-found, at-found}
use Rattle.geo_laws_making.proofs.Accepts.{accepts_stay}
use Rattle.geo_laws_making.specs.TasteLaws.{taste_asking, world_with_taste}
use Rattle.geo_laws_making.specs.ChainSteps.{GoesOnTo}
use Rattle.geo_laws_making.specs.JudgeLaws.{JudgesStayFirm}
use Rattle.geo_laws_making.proofs.Tastes.{asking-firm, submitted-firm, abort-firm}
use Rattle.geo_laws_making.proofs.Firsts.{more_links, first_inside, has_sector, judge_no_more}

-- a class that is asked is one
not_asked : {A : Type 0} (kind : Kind) → None ≡ Some kind → A
not_asked kind e = absurd (let no : ⊥ = cc in no)

-- the sector of a class's read is there, and the read may be made
record CanRead (t : Topology Config) (p : Provider) (kind : Kind) (sector reads : ℕ) (chain : Chain) : Type 0 where
  there : AsksThere t p kind
  inside : sector < p.size / p.sector
  few : reads + 1 ≤ reads_limit
  hold : Some kind ≡ Some kinds.Ebr → ChainHolds (p.size / p.sector) (ReadOut kind) (reads + 1) chain

module _ (w : World) (firm : Firm w) (s : Taste) (is : w.taste ≡ Some s)
    (idle : is_read_out s.asked ≡ false) where
  -- the graph, the grants, the graph with the queue
  abbrev t : Topology Config
  t = w.topology

  abbrev g : ℕ → Counts
  g = granted_in w

  abbrev q : QueuedTopology Config
  q = queued_of w

  -- the world then is firm
  abbrev Kept : Judging → Type 0
  Kept x = Firm (judged_world w x x.judged).0

  -- The end of a class, and of the taste

  -- a class that is done with, in a world with this taste
  class_ends : (v : World) → Firm v → v.taste ≡ Some s → (classes : List Kind)
      → Firm (world_with_taste v (taste_asking s classes NoClass 0 no_links))
  class_ends v firm is classes =
      asking-firm v s classes NoClass 0 no_links firm is idle refl (record {
        reads = refl;
        chain = λ ebr. not_asked kinds.Ebr ebr;
        asked = if-found (provider_at v.topology s.provider) (λ p. IsAskedInOrder v.topology p NoClass) (λ p e. tt);
      })

  -- the taste ends
  taste_ends : Kept (end_taste g q s)
  taste_ends = abort-firm w firm s is idle

  module _ (p : Provider) (found : provider_at t s.provider ≡ Some p) where
    -- the sectors of the provider
    abbrev n : ℕ
    n = p.size / p.sector

    -- what is said of it
    abbrev f : Facts
    f = facts_of t p

    -- the taste was in order
    was : IsTasteInOrder t s
    was = subst (λ (o : Option Taste). IfSome o (IsTasteInOrder t)) is firm.taste.order

    -- so was how far the class was asked
    was_asked : IsAskedInOrder t p s.asked
    was_asked = at-found (provider_at t s.provider) (λ p. IsAskedInOrder t p s.asked) p found
        (subst (λ (o : Option Taste).
        IfSome o (λ s. IfSome (provider_at t s.provider) (λ p. IsAskedInOrder t p s.asked)))
        is firm.taste.asked)

    -- a fact of the provider
    there : (P : Provider → Type 0) → P p → IfSome (provider_at t s.provider) P
    there P fact = subst (λ o. IfSome o P) (sym found) fact

    -- The read of a sector

    -- by what refuses it
    read_kept : (classes : List Kind) (asked : Asked) (reads : ℕ) (chain : Chain) (kind : Kind) (sector : ℕ)
        → CanRead t p kind sector reads chain → (o : Option Errno)
        → grant_refusal (with_grant g s.consumer one_read) t s.provider ≡ o
        → Kept
        (if is_some o
        then end_class g q (taste_asking s classes asked reads chain) Next
        else record {
          queued = q;
          taste = taste_asking s classes (ReadOut kind) (reads + 1) chain;
          judged = Read sector;
        })
    read_kept classes asked reads chain kind sector can (Some e) refused = class_ends w firm is classes
    read_kept classes asked reads chain kind sector can None passes =
        submitted-firm w firm s p (record { taste = is; idle = idle; found = found; passes = passes }) classes kind
        (reads + 1) chain
        (record {
          reads = can.few;
          chain = λ ebr. there (λ p. ChainHolds (p.size / p.sector) (ReadOut kind) (reads + 1) chain) (can.hold ebr);
          asked = there (λ p. IsAskedInOrder t p (ReadOut kind)) can.there;
        })
        sector can.inside

    -- A result

    -- what is made of an accepted sector
    made_kept : (kind : Kind) (bytes : List ℕ) (c : Chain) (shape : Shape)
        → s.asked ≡ ReadBack kind (results.Bytes bytes) → is_ended t s ≡ false
        → verdict_on g s kind bytes f ≡ Accept shape → (o : Option (QueuedTopology Config)) → accept q p shape ≡ o
        → Kept
        (option_map_or (λ made. end_class g made (taste_asking s s.classes s.asked s.reads c) Made) o
        (end_class g q (taste_asking s s.classes s.asked s.reads c) Next))
    made_kept kind bytes c shape asks going verdict None makes = class_ends w firm is s.classes
    made_kept kind bytes c shape asks going verdict (Some made) makes =
        class_ends (with_queued w made)
        (accepts_stay.accept w s p kind bytes shape made firm
        (record { taste = is; asked = asks; going = going; found = found; verdict = verdict; makes = makes }))
        is s.classes

    -- the next link of a chain is known
    more_kept : (kind : Kind) (got : BioResult) (c : Chain) (sector : ℕ) → s.asked ≡ ReadBack kind got
        → kind ≡ kinds.Ebr
        → GoesOnTo n s.reads sector c
        → Firm (world_with_taste w (taste_asking s s.classes (NextSector kind sector) s.reads c))
    more_kept kind got c sector asks ebr goes =
        let back : IsAskedInOrder t p (ReadBack kind got) = subst (IsAskedInOrder t p) asks was_asked in
        asking-firm w s s.classes (NextSector kind sector) s.reads c firm is idle refl (record {
          reads = goes.reads;
          chain = λ asked. there (λ p. ChainHolds (p.size / p.sector) (NextSector kind sector) s.reads c)
              (subst (λ k. ChainHolds n (NextSector k sector) s.reads c) (sym ebr) goes.hold);
          asked = there (λ p. IsAskedInOrder t p (NextSector kind sector)) (back.0, goes.inside);
        })

    -- by the verdict
    follow_kept : (kind : Kind) (bytes : List ℕ) (c : Chain) → s.asked ≡ ReadBack kind (results.Bytes bytes)
        → is_ended t s ≡ false → (verdict : Verdict) → verdict_on g s kind bytes f ≡ verdict
        → ((sector : ℕ) → verdict ≡ More sector → (kind ≡ kinds.Ebr) × GoesOnTo n s.reads sector c)
        → Kept (follow g q (taste_asking s s.classes s.asked s.reads c) p kind verdict)
    follow_kept kind bytes c asks going (Decline cause) e more = class_ends w firm is s.classes
    follow_kept kind bytes c asks going (More sector) e more =
        more_kept kind (results.Bytes bytes) c sector asks (more sector refl).0 (more sector refl).1
    follow_kept kind bytes c asks going (Accept shape) e more =
        made_kept kind bytes c shape asks going e (accept q p shape) refl

    -- a link of EBR that leads on
    link_more : (bytes : List ℕ) (sector : ℕ) → s.asked ≡ ReadBack kinds.Ebr (results.Bytes bytes)
        → feed n s.chain bytes ≡ More sector
        → (kinds.Ebr ≡ kinds.Ebr) × GoesOnTo n s.reads sector (with_link n s.chain bytes)
    link_more bytes sector asks more =
        let ebr : class_asked s.asked ≡ Some kinds.Ebr = ap class_asked asks in
        let hold : ChainHolds n s.asked s.reads s.chain =
        at-found (provider_at t s.provider) (λ p. ChainHolds (p.size / p.sector) s.asked s.reads s.chain) p found
        (was.chain ebr) in (
          refl,
          more_links n s.reads sector s.chain bytes (results.Bytes bytes)
              (subst (λ a. ChainHolds n a s.reads s.chain) asks hold) more,
        )

    -- a sector that is back, by the class
    bytes_kept : (kind : Kind) (bytes : List ℕ) → s.asked ≡ ReadBack kind (results.Bytes bytes) → is_ended t s ≡ false
        → Kept (follow g q (with_read g s kind bytes f) p kind (verdict_on g s kind bytes f))
    bytes_kept kinds.Ebr bytes asks going =
        follow_kept kinds.Ebr bytes (with_link n s.chain bytes) asks going (feed n s.chain bytes) refl
        (λ sector more. link_more bytes sector asks more)
    bytes_kept kind bytes asks going =
        follow_kept kind bytes s.chain asks going (judge kind bytes f) refl
        (λ sector more. judge_no_more kind bytes f sector more)

    -- by the result
    result_kept : (kind : Kind) (got : BioResult) → s.asked ≡ ReadBack kind got → is_ended t s ≡ false
        → Kept (take_result g q s p kind got)
    result_kept kind (results.Bytes bytes) asks going = bytes_kept kind bytes asks going
    result_kept kind results.Done asks going = class_ends w firm is s.classes
    result_kept kind (results.Failed e) asks going = class_ends w firm is s.classes

    -- The next class

    -- the provider has a sector
    some_sector : 1 ≤ n
    some_sector =
        let here = find-Contains (λ (x : Provider). x.number == s.provider) t.providers p found in
        has_sector p.size p.sector
        (All-contains (λ (x : Provider). IsSectorSize x.sector) t.providers p firm.sizes.sectors here)
        (All-contains (λ (x : Provider). IsMediaSize x.size x.sector) t.providers p firm.graph.providers.sizes here)

    -- the first sector of a class may be read
    first_read : (kind : Kind) (sector : ℕ) → taste_where kind f ≡ Some sector → CanRead t p kind sector 0 no_links
    first_read kind sector e = record {
      there = subst (λ o. IsSome o) (sym e) refl;
      inside = first_inside kind f sector some_sector e;
      few = omega arith;
      hold = λ ebr. record {
        reads = refl;
        few = omega arith;
        parts = All-nil _;
        sector = tt;
        zero = refl;
        inside = All-nil _;
        near = some_sector;
        apart = λ i j d less short. absurd (omega (arith, short));
        new = All-nil _;
      };
    }

    -- by the sector for which it asks first
    where_kept : (kind : Kind) (rest : List Kind) (o : Option ℕ) → taste_where kind f ≡ o
        → Kept
        (option_map_or (λ sector. read_sector g q (taste_asking s rest NoClass 0 no_links) kind sector) o
        (end_class g q (taste_asking s rest NoClass 0 no_links) Next))
    where_kept kind rest None e = class_ends w firm is rest
    where_kept kind rest (Some sector) e =
        read_kept rest NoClass 0 no_links kind sector (first_read kind sector e)
        (grant_refusal (with_grant g s.consumer one_read) t s.provider) refl

    -- by whether it is over the provider already
    attached_kept : (kind : Kind) (rest : List Kind) (b : Bool)
        → Kept
        (if b
        then end_class g q (taste_asking s rest NoClass 0 no_links) Next
        else option_map_or (λ sector. read_sector g q (taste_asking s rest NoClass 0 no_links) kind sector)
        (taste_where kind f)
        (end_class g q (taste_asking s rest NoClass 0 no_links) Next))
    attached_kept kind rest true = class_ends w firm is rest
    attached_kept kind rest false = where_kept kind rest (taste_where kind f) refl

    -- by the classes that are left
    class_kept : (classes : List Kind) → Kept (next_class g q s p classes)
    class_kept [] = taste_ends
    class_kept (kind ∷ rest) = attached_kept kind rest (is_attached_class t kind s.provider)

    -- One step

    -- the next sector may be read
    next_read : (kind : Kind) (sector : ℕ) → s.asked ≡ NextSector kind sector → CanRead t p kind sector s.reads s.chain
    next_read kind sector asks =
        let asked : IsAskedInOrder t p (NextSector kind sector) = subst (IsAskedInOrder t p) asks was_asked in
        let few : s.reads < reads_limit = subst (λ a. AreReadsInOrder a s.reads) asks was.reads in
        let same : class_asked s.asked ≡ Some kind = ap class_asked asks in
        record {
          there = asked.0;
          inside = asked.1;
          few = omega (arith, few);
          hold = λ ebr.
              let was_held : ChainHolds n s.asked s.reads s.chain =
              at-found (provider_at t s.provider) (λ p. ChainHolds (p.size / p.sector) s.asked s.reads s.chain) p found
              (was.chain (same ∙ ebr)) in
              let held : ChainHolds n (NextSector kind sector) s.reads s.chain =
              subst (λ a. ChainHolds n a s.reads s.chain) asks was_held in
              let made : s.reads ≡ length s.chain.links + 0 = held.reads in
              record {
                reads = omega (arith, made);
                few = held.few;
                parts = held.parts;
                sector = tt;
                zero = held.zero;
                inside = held.inside;
                near = held.near;
                apart = held.apart;
                new = held.new;
              };
        }

    -- by how far a class has been asked
    asked_kept : is_ended t s ≡ false → (a : Asked) → s.asked ≡ a → Kept (go_on g q s p a)
    asked_kept going NoClass asks = class_kept s.classes
    asked_kept going (NextSector kind sector) asks =
        read_kept s.classes s.asked s.reads s.chain kind sector (next_read kind sector asks)
        (grant_refusal (with_grant g s.consumer one_read) t s.provider) refl
    asked_kept going (ReadOut kind) asks =
        absurd (let out : is_read_out s.asked ≡ true = ap is_read_out asks in let no : ⊥ = cc in no)
    asked_kept going (ReadBack kind got) asks = result_kept kind got asks going

  -- by the provider
  provider_kept : is_ended t s ≡ false → (o : Option Provider) → provider_at t s.provider ≡ o
      → Kept (option_map_or (λ p. go_on g q s p s.asked) o (end_taste g q s))
  provider_kept going None e = taste_ends
  provider_kept going (Some p) e = asked_kept p e going s.asked refl

  -- by whether the taste can go on
  going_kept : (b : Bool) → is_ended t s ≡ b
      → Kept
      (if b
      then end_taste g q s
      else option_map_or (λ p. go_on g q s p s.asked) (provider_at t s.provider) (end_taste g q s))
  going_kept true e = taste_ends
  going_kept false e = provider_kept e (provider_at t s.provider) refl

  -- so a step of the taste
  pub judged-firm : Firm (judge_step w s).0
  unfolding judge_step
  judged-firm = going_kept (is_ended t s) refl

-- a read that is out refuses the step
refused-firm : (w : World) (s : Taste) → w.taste ≡ Some s → Firm w → (b : Bool) → is_read_out s.asked ≡ b
    → Firm (world_after w (judge_of w (Some s)))
refused-firm w s is firm true out = rw out firm
refused-firm w s is firm false idle = rw idle (judged-firm w firm s is idle)

-- by the taste
by_taste : (w : World) → Firm w → (o : Option Taste) → w.taste ≡ o → Firm (world_after w (judge_of w o))
by_taste w firm None is = firm
by_taste w firm (Some s) is = refused-firm w s is firm (is_read_out s.asked) refl

-- a step of a taste, whether it is enabled or not
next-firm : (w : World) → Firm w → Firm (world_after w (judge_next w))
unfolding judge_next
next-firm w firm = by_taste w firm w.taste refl

-- so the step by any seat
step-firm : (w : World) (seat : ℕ) → Firm w → Firm (world_by w seat steps.Judge)
unfolding step
step-firm w seat firm = next-firm w firm

-- steps of tastes keep a firm mesh firm
pub judges_stay_firm : JudgesStayFirm
judges_stay_firm = record { judged = next-firm; step = step-firm }
