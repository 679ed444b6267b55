-- A step of a taste: each part of the graph is new or stood before, and each bio stays.
use Rattle.std.specs.Prelude.{◌≡◌, ℕ, ◌+◌, Bool, true, false, List, [], ◌∷◌, Option, Some, None, IfSome, is_some, if◌then◌else◌}
use Rattle.std.specs.Option.{option_map_or}
use Rattle.std.proofs.Common.{refl, sym, subst}
use Rattle.std.proofs.lemmas.List.Elements.{Contains-append_left}
use Rattle.geo_base.specs.declared.kind.Kind.{Kind}
use Rattle.geo_base.specs.declared.request.Counts.{Counts}
use Rattle.geo_model.specs.declared.class.Facts.{Facts}
use Rattle.geo_model.specs.declared.class.Judged.{Judged}
use Rattle.geo_model.specs.declared.class.Judged.TheVariants.{Read, Next, Made, Ended}
use Rattle.geo_model.specs.declared.class.Verdict.{Verdict}
use Rattle.geo_model.specs.declared.class.Verdict.TheVariants.{Decline, More, Accept}
use Rattle.geo_model.specs.declared.step.BioResult.{BioResult}
use Rattle.geo_model.specs.declared.step.BioResult.TheVariants as results
use Rattle.geo_model.specs.Topology.{Provider, provider_at}
use Rattle.geo_model.specs.Demand.{one_read}
use Rattle.geo_model.specs.Opens.{grant_refusal, with_grant}
use Rattle.geo_model.specs.World.{World, Config, Taste, Asked, NoClass, NextSector, ReadOut, ReadBack, granted_in}
use Rattle.geo_model.specs.Events.{QueuedTopology}
use Rattle.geo_model.specs.WorldEvents.{queued_of}
use Rattle.geo_model.specs.Acceptance.{taste_where, accept}
use Rattle.geo_model.specs.Chain.{no_links}
use Rattle.geo_model.specs.Tasting.{Judging, facts_of, is_attached_class, is_ended, end_class, end_taste, read_sector, follow, with_read, verdict_on, take_result, next_class, go_on, taste_step, judged_world}
use Rattle.geo_model.specs.Fitting.{Firm}
use Rattle.geo_laws_steps.specs.Heirs.{IsBare, Follows}
use Rattle.geo_laws_steps.proofs.Heirs.{inherits-same, heir-no_consumer}
use Rattle.geo_laws_steps.proofs.HeirQueues.{Comes}
use Rattle.geo_laws_steps.proofs.HeirAccepts.{accept-comes}

-- so from a mesh to itself
pub follows-same : (w : World) → Follows w w
follows-same w = record { heir = inherits-same (IsBare w.topology) w.topology; bios = λ x here. here }

module _ (w : World) (firm : Firm w) where
  -- the graph with the queue
  abbrev q : QueuedTopology Config
  q = queued_of w

  -- the grants
  abbrev granted : ℕ → Counts
  granted = granted_in w

  -- what a step of a taste came to
  abbrev GoesOn : Judging → Type 0
  GoesOn x = Comes (IsBare w.topology) w.topology x.queued

  -- with the same graph
  stands : (x : Judging) → x.queued ≡ q → GoesOn x
  stands x same =
      subst (Comes (IsBare w.topology) w.topology) (sym same) (inherits-same (IsBare w.topology) w.topology)

  -- one of two
  either-goes : (b : Bool) (x y : Judging) → GoesOn x → GoesOn y → GoesOn (if b then x else y)
  either-goes true x y first second = first
  either-goes false x y first second = second

  module _ (s : Taste) where
    -- a sector is read
    sector-goes : (kind : Kind) (sector : ℕ) → GoesOn (read_sector granted q s kind sector)
    sector-goes kind sector =
        let asked : Taste = record s { asked = ReadOut kind; reads = s.reads + 1 } in
        let out : Judging = record { queued = q; taste = asked; judged = Read sector } in
        either-goes (is_some (grant_refusal (with_grant granted s.consumer one_read) q.topology s.provider))
        (end_class granted q s Next)
        out (stands (end_class granted q s Next) refl) (stands out refl)

    -- a shape is accepted, by what it makes
    made-goes : (o : Option (QueuedTopology Config)) → IfSome o (Comes (IsBare w.topology) w.topology)
        → GoesOn (option_map_or (λ made. end_class granted made s Made) o (end_class granted q s Next))
    made-goes None comes = stands (end_class granted q s Next) refl
    made-goes (Some r) comes = comes

    -- a verdict is followed
    verdict-goes : (p : Provider) (kind : Kind) (v : Verdict) → GoesOn (follow granted q s p kind v)
    verdict-goes p kind (Decline cause) = stands (end_class granted q s Next) refl
    verdict-goes p kind (More sector) =
        stands (record { queued = q; taste = record s { asked = NextSector kind sector }; judged = Next }) refl
    verdict-goes p kind (Accept shape) = made-goes (accept q p shape) (accept-comes w firm p shape)

  -- a read is back
  result-goes : (s : Taste) (p : Provider) (kind : Kind) (got : BioResult)
      → GoesOn (take_result granted q s p kind got)
  result-goes s p kind (results.Bytes bytes) =
      let f : Facts = facts_of q.topology p in
      verdict-goes (with_read granted s kind bytes f) p kind (verdict_on granted s kind bytes f)
  result-goes s p kind results.Done = stands (end_class granted q s Next) refl
  result-goes s p kind (results.Failed e) = stands (end_class granted q s Next) refl

  -- a class is asked, by the sector that it wants first
  asks-goes : (s : Taste) (kind : Kind) (o : Option ℕ)
      → GoesOn (option_map_or (λ sector. read_sector granted q s kind sector) o (end_class granted q s Next))
  asks-goes s kind None = stands (end_class granted q s Next) refl
  asks-goes s kind (Some sector) = sector-goes s kind sector

  -- the next class
  class-goes : (s : Taste) (p : Provider) (rest : List Kind) → GoesOn (next_class granted q s p rest)
  class-goes s p [] = stands (end_taste granted q s) refl
  class-goes s p (kind ∷ rest) =
      let left : Taste = record s { classes = rest; asked = NoClass; reads = 0; chain = no_links } in
      either-goes (is_attached_class q.topology kind s.provider) (end_class granted q left Next)
      (option_map_or (λ sector. read_sector granted q left kind sector) (taste_where kind (facts_of q.topology p))
      (end_class granted q left Next))
      (stands (end_class granted q left Next) refl)
      (asks-goes left kind (taste_where kind (facts_of q.topology p)))

  -- by how far the class is asked
  asked-goes : (s : Taste) (p : Provider) (a : Asked) → GoesOn (go_on granted q s p a)
  asked-goes s p (ReadBack kind got) = result-goes s p kind got
  asked-goes s p (NextSector kind sector) = sector-goes s kind sector
  asked-goes s p (ReadOut kind) = stands (record { queued = q; taste = s; judged = Next }) refl
  asked-goes s p NoClass = class-goes s p s.classes

  -- by whether the provider is there
  there-goes : (s : Taste) (o : Option Provider)
      → GoesOn (option_map_or (λ p. go_on granted q s p s.asked) o (end_taste granted q s))
  there-goes s None = stands (end_taste granted q s) refl
  there-goes s (Some p) = asked-goes s p s.asked

  -- one step of a taste
  taste-goes : (s : Taste) → GoesOn (taste_step granted q s)
  taste-goes s =
      either-goes (is_ended q.topology s) (end_taste granted q s)
      (option_map_or (λ p. go_on granted q s p s.asked) (provider_at q.topology s.provider) (end_taste granted q s))
      (stands (end_taste granted q s) refl) (there-goes s (provider_at q.topology s.provider))

  -- the mesh after what a taste came to
  judged-goes : (x : Judging) → GoesOn x → (j : Judged) → Follows w (judged_world w x j).0
  judged-goes x goes (Read sector) =
      record { heir = goes; bios = λ y here. Contains-append_left w.bios _ y here }
  judged-goes x goes Next = record { heir = goes; bios = λ y here. here }
  judged-goes x goes Made = record { heir = goes; bios = λ y here. here }
  judged-goes x goes Ended = record {
    heir = heir-no_consumer (IsBare w.topology) w.topology w.topology
        (inherits-same (IsBare w.topology) w.topology) x.taste.consumer;
    bios = λ y here. here;
  }

  -- a step of a taste in the whole state
  pub judges-follow : (s : Taste) (x : Judging) → taste_step granted q s ≡ x → (j : Judged)
      → Follows w (judged_world w x j).0
  judges-follow s x is = judged-goes x (subst GoesOn is (taste-goes s))
