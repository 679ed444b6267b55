-- A step of a taste destroys nothing, unless the taste ends by it, and what it offers lives.
use Rattle.std.specs.Prelude.{◌≡◌, ◌⊎◌, ℕ, ◌+◌, Bool, true, false, List, [], ◌∷◌, Option, Some, None, IfSome, is_some, if◌then◌else◌}
use Rattle.std.specs.Option.{option_map_or}
use Rattle.std.proofs.Common.{inl, inr, refl, sym, ◌∙◌, ap, subst}
use Rattle.geo_base.specs.declared.kind.Kind.{Kind}
use Rattle.geo_base.specs.declared.kind.Kind.TheVariants as kinds
use Rattle.geo_base.specs.declared.request.Counts.{Counts}
use Rattle.geo_model.specs.declared.class.Facts.{Facts}
use Rattle.geo_model.specs.declared.class.Judged.{Judged}
use Rattle.geo_model.specs.declared.class.Judged.TheVariants.{Read, Next, Made, Ended}
use Rattle.geo_model.specs.declared.class.Verdict.{Verdict}
use Rattle.geo_model.specs.declared.class.Verdict.TheVariants.{Decline, More, Accept}
use Rattle.geo_model.specs.declared.step.BioResult.{BioResult}
use Rattle.geo_model.specs.declared.step.BioResult.TheVariants as results
use Rattle.geo_model.specs.Topology.{Provider, provider_at, remove_consumer}
use Rattle.geo_model.specs.Demand.{one_read}
use Rattle.geo_model.specs.Opens.{grant_refusal, with_grant}
use Rattle.geo_model.specs.World.{World, Config, Taste, Asked, NoClass, NextSector, ReadOut, ReadBack, granted_in, is_read_out}
use Rattle.geo_model.specs.Events.{QueuedTopology}
use Rattle.geo_model.specs.WorldEvents.{queued_of}
use Rattle.geo_model.specs.Acceptance.{taste_where, accept}
use Rattle.geo_model.specs.Chain.{no_links}
use Rattle.geo_model.specs.Tasting.{Judging, facts_of, is_attached_class, is_ended, end_class, end_taste, read_sector, follow, with_read, verdict_on, take_result, next_class, go_on, taste_step, abort_taste, judged_world}
use Rattle.geo_model.specs.Graph.{IsInOrder}
use Rattle.geo_model.specs.StepEffects.{IsJudged}
use Rattle.geo_laws_offers.specs.OfferingLaws.{OnlyAdds, Adds, EndsTaste}
use Rattle.geo_laws_offers.proofs.Quiet.{quiet-same, quiet-adds}
use Rattle.geo_laws_offers.proofs.Accepts.{accept-adds}

-- what a step of a taste came to: the graph and the queue only gained, and the taste has its consumer
record GoesOn (q : QueuedTopology Config) (s : Taste) (x : Judging) : Type 0 where
  adds : OnlyAdds q x.queued
  consumer : x.taste.consumer ≡ s.consumer

-- with the same graph and queue
stands : (q : QueuedTopology Config) (s : Taste) (x : Judging) → x.queued ≡ q → x.taste.consumer ≡ s.consumer
    → GoesOn q s x
stands q s x same consumer =
    record { adds = subst (OnlyAdds q) (sym same) (quiet-adds q q (quiet-same q)); consumer = consumer }

-- one of two
either-goes : (q : QueuedTopology Config) (s : Taste) (b : Bool) (x y : Judging) → GoesOn q s x → GoesOn q s y
    → GoesOn q s (if b then x else y)
either-goes q s true x y first second = first
either-goes q s false x y first second = second

-- the links that are kept leave the taste's consumer
read-consumer : (granted : ℕ → Counts) (s : Taste) (kind : Kind) (bytes : List ℕ) (f : Facts)
    → (with_read granted s kind bytes f).consumer ≡ s.consumer
read-consumer granted s kinds.Ebr bytes f = refl
read-consumer granted s _ bytes f = refl

module _ (granted : ℕ → Counts) (q : QueuedTopology Config) (order : IsInOrder q.topology) (start : Taste) where
  module _ (s : Taste) (same : s.consumer ≡ start.consumer) where
    -- a sector is read
    sector-goes : (kind : Kind) (sector : ℕ) → GoesOn q start (read_sector granted q s kind sector)
    sector-goes kind sector =
        either-goes q start
        (is_some (grant_refusal (with_grant granted s.consumer one_read) q.topology s.provider))
        (end_class granted q s Next)
        (record { queued = q; taste = record s { asked = ReadOut kind; reads = s.reads + 1 }; judged = Read sector })
        (stands q start (end_class granted q s Next) refl same)
        (stands q start
        (record { queued = q; taste = record s { asked = ReadOut kind; reads = s.reads + 1 }; judged = Read sector })
        refl same)

    -- a shape is accepted, by what it makes
    made-goes : (o : Option (QueuedTopology Config)) → IfSome o (OnlyAdds q)
        → GoesOn q start
        (option_map_or (λ made. end_class granted made s Made) o (end_class granted q s Next))
    made-goes None adds = stands q start (end_class granted q s Next) refl same
    made-goes (Some r) adds = record { adds = adds; consumer = same }

    -- a verdict is followed
    verdict-goes : (p : Provider) (kind : Kind) (v : Verdict) → GoesOn q start (follow granted q s p kind v)
    verdict-goes p kind (Decline cause) = stands q start (end_class granted q s Next) refl same
    verdict-goes p kind (More sector) =
        stands q start
        (record { queued = q; taste = record s { asked = NextSector kind sector }; judged = Next }) refl same
    verdict-goes p kind (Accept shape) = made-goes (accept q p shape) (accept-adds q order p shape)

  -- a read is back
  result-goes : (s : Taste) → s.consumer ≡ start.consumer → (p : Provider) (kind : Kind) (got : BioResult)
      → GoesOn q start (take_result granted q s p kind got)
  result-goes s same p kind (results.Bytes bytes) =
      let f : Facts = facts_of q.topology p in
      verdict-goes (with_read granted s kind bytes f) (read-consumer granted s kind bytes f ∙ same) p kind
      (verdict_on granted s kind bytes f)
  result-goes s same p kind results.Done = stands q start (end_class granted q s Next) refl same
  result-goes s same p kind (results.Failed e) = stands q start (end_class granted q s Next) refl same

  -- a class is asked, by the sector that it wants first
  asks-goes : (s : Taste) → s.consumer ≡ start.consumer → (kind : Kind) (o : Option ℕ)
      → GoesOn q start
      (option_map_or (λ sector. read_sector granted q s kind sector) o (end_class granted q s Next))
  asks-goes s same kind None = stands q start (end_class granted q s Next) refl same
  asks-goes s same kind (Some sector) = sector-goes s same kind sector

  -- the next class
  class-goes : (s : Taste) → s.consumer ≡ start.consumer → (p : Provider) (rest : List Kind)
      → GoesOn q start (next_class granted q s p rest)
  class-goes s same p [] = stands q start (end_taste granted q s) refl same
  class-goes s same p (kind ∷ rest) =
      let left : Taste = record s { classes = rest; asked = NoClass; reads = 0; chain = no_links } in
      either-goes q start (is_attached_class q.topology kind s.provider) (end_class granted q left Next)
      (option_map_or (λ sector. read_sector granted q left kind sector) (taste_where kind (facts_of q.topology p))
      (end_class granted q left Next))
      (stands q start (end_class granted q left Next) refl same)
      (asks-goes left same kind (taste_where kind (facts_of q.topology p)))

  -- by how far the class is asked
  asked-goes : (s : Taste) → s.consumer ≡ start.consumer → (p : Provider) (a : Asked)
      → GoesOn q start (go_on granted q s p a)
  asked-goes s same p (ReadBack kind got) = result-goes s same p kind got
  asked-goes s same p (NextSector kind sector) = sector-goes s same kind sector
  asked-goes s same p (ReadOut kind) = stands q start (record { queued = q; taste = s; judged = Next }) refl same
  asked-goes s same p NoClass = class-goes s same p s.classes

  -- by whether the provider is there
  there-goes : (o : Option Provider)
      → GoesOn q start (option_map_or (λ p. go_on granted q start p start.asked) o (end_taste granted q start))
  there-goes None = stands q start (end_taste granted q start) refl refl
  there-goes (Some p) = asked-goes start refl p start.asked

  -- one step of a taste
  taste-goes : GoesOn q start (taste_step granted q start)
  taste-goes =
      either-goes q start (is_ended q.topology start) (end_taste granted q start)
      (option_map_or (λ p. go_on granted q start p start.asked) (provider_at q.topology start.provider)
      (end_taste granted q start))
      (stands q start (end_taste granted q start) refl refl) (there-goes (provider_at q.topology start.provider))

-- the world after what a taste came to
judged-goes : (w : World) (s : Taste) (x : Judging) → GoesOn (queued_of w) s x → (j : Judged)
    → Adds w (judged_world w x j).0 ⊎ ((judged_world w x j).0 ≡ abort_taste w s)
judged-goes w s x goes (Read sector) = inl goes.adds
judged-goes w s x goes Next = inl goes.adds
judged-goes w s x goes Made = inl goes.adds
judged-goes w s x goes Ended =
    inr (ap (λ c. record w { topology = remove_consumer w.topology c; taste = None }) goes.consumer)

-- so it ends, or not
as-end : (w after : World) (s : Taste) → w.taste ≡ Some s → is_read_out s.asked ≡ false
    → Adds w after ⊎ (after ≡ abort_taste w s) → Adds w after ⊎ EndsTaste w after
as-end w after s is idle (inl adds) = inl adds
as-end w after s is idle (inr ends) = inr (record { taste = s; is = is; idle = idle; ends = ends })

-- a step of a taste in the whole state
pub judges-go : (w : World) (s : Taste) (x : Judging) (j : Judged) → IsJudged w s x j → IsInOrder w.topology
    → Adds w (judged_world w x j).0 ⊎ EndsTaste w (judged_world w x j).0
judges-go w s x j is order =
    as-end w (judged_world w x j).0 s is.taste is.back
    (judged-goes w s x (subst (GoesOn (queued_of w) s) is.step (taste-goes (granted_in w) (queued_of w) order s)) j)
