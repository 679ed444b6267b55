-- What a step of a taste makes of the taste, and which sector it reads.
use Rattle.std.specs.Prelude.{◌≡◌, ℕ, ◌/◌, ◌<◌, ◌≤◌, Bool, true, false, List, [], ◌∷◌, Option, Some, None, IsSomeAnd, IfSome, if◌then◌else◌}
use Rattle.std.specs.Option.{option_map_or}
use Rattle.std.proofs.Common.{refl, rules}
use Rattle.geo_base.specs.declared.kind.Kind.{Kind}
use Rattle.geo_base.specs.declared.kind.Kind.TheVariants as kinds
use Rattle.geo_base.specs.declared.request.Counts.{Counts}
use Rattle.geo_model.specs.declared.class.Facts.{Facts}
use Rattle.geo_model.specs.declared.class.Judged.{Judged}
use Rattle.geo_model.specs.declared.class.Judged.TheVariants.{Read, Next, Made, Ended}
use Rattle.geo_model.specs.declared.class.Verdict.{Verdict}
use Rattle.geo_model.specs.declared.class.Verdict.TheVariants.{Decline, More, Accept}
use Rattle.geo_model.specs.declared.step.BioResult.{BioResult}
use Rattle.geo_model.specs.declared.step.BioResult.TheVariants as results
use Rattle.geo_model.specs.Topology.{Topology, Provider, provider_at}
use Rattle.geo_model.specs.Chain.{no_links}
use Rattle.geo_model.specs.World.{Config, Taste, Asked, NoClass, NextSector, ReadOut, ReadBack, is_read_out}
use Rattle.geo_model.specs.Events.{QueuedTopology}
use Rattle.geo_model.specs.Acceptance.{accept, taste_where}
use Rattle.geo_model.specs.Tasting.{Judging, facts_of, is_attached_class, is_ended, end_class, end_taste, read_sector, follow, with_read, verdict_on, take_result, next_class, go_on, taste_step}

-- whether a step came to a read
abbrev pub reads : Judged → Bool
reads (Read sector) = true
reads judged = false

-- the sector is one of the provider's
abbrev pub IsInside : ℕ → Provider → Type 0
IsInside sector p = sector < p.size / p.sector

-- the taste after a step that came to this: it is by the same consumer and of the same provider; its read is out just
-- where the step came to one, of a sector of the provider; and where it ended the taste is as it was
pub record IsNextTaste (t : Topology Config) (s z : Taste) (j : Judged) : Type 0 where
  pub consumer : z.consumer ≡ s.consumer
  pub provider : z.provider ≡ s.provider
  pub out : is_read_out z.asked ≡ reads j
  pub ended : j ≡ Ended → z ≡ s
  pub inside : (sector : ℕ) → j ≡ Read sector → IsSomeAnd (provider_at t s.provider) (IsInside sector)

-- what is asked of the tasted provider: it has a sector, and the one that is known as next is one of it
pub record IsReadable (s : Taste) (p : Provider) : Type 0 where
  pub some : 1 ≤ p.size / p.sector
  pub next : (kind : Kind) (sector : ℕ) → s.asked ≡ NextSector kind sector → IsInside sector p

module _ (granted : ℕ → Counts) (q : QueuedTopology Config) (s : Taste) (idle : is_read_out s.asked ≡ false) where
  abbrev t : Topology Config
  t = q.topology

  -- the taste after a step is as it should be
  abbrev Steps : Judging → Type 0
  Steps x = IsNextTaste t s x.taste x.judged

  -- the taste goes on, and no read of it is out
  goes_on : (r : QueuedTopology Config) (z : Taste) → z.consumer ≡ s.consumer → z.provider ≡ s.provider
      → is_read_out z.asked ≡ false → Steps (record { queued = r; taste = z; judged = Next })
  goes_on r z consumer provider out = search rules

  -- the taste ends
  ends : Steps (end_taste granted q s)
  ends = search rules

  module _ (p : Provider) (found : provider_at t s.provider ≡ Some p) where
    abbrev f : Facts
    f = facts_of t p

    -- what is made, if anything is
    made_on : (z : Taste) → z.consumer ≡ s.consumer → z.provider ≡ s.provider → (o : Option (QueuedTopology Config))
        → Steps (option_map_or (λ made. end_class granted made z Made) o (end_class granted q z Next))
    made_on z consumer provider None = search rules
    made_on z consumer provider (Some made) = search rules

    -- a verdict
    follows : (z : Taste) (kind : Kind) → z.consumer ≡ s.consumer → z.provider ≡ s.provider → (v : Verdict)
        → Steps (follow granted q z p kind v)
    follows z kind consumer provider (Decline cause) = search rules
    follows z kind consumer provider (More sector) = search rules
    follows z kind consumer provider (Accept shape) = made_on z consumer provider (accept q p shape)

    -- a sector that was read leaves the taste its consumer and its provider
    read_consumer : (kind : Kind) (bytes : List ℕ) → (with_read granted s kind bytes f).consumer ≡ s.consumer
    read_consumer kinds.Ebr bytes = refl
    read_consumer _ bytes = refl

    -- and its provider
    read_provider : (kind : Kind) (bytes : List ℕ) → (with_read granted s kind bytes f).provider ≡ s.provider
    read_provider kinds.Ebr bytes = refl
    read_provider _ bytes = refl

    -- a result
    takes : (kind : Kind) (got : BioResult) → Steps (take_result granted q s p kind got)
    takes kind (results.Bytes bytes) =
        follows (with_read granted s kind bytes f) kind (read_consumer kind bytes) (read_provider kind bytes)
        (verdict_on granted s kind bytes f)
    takes kind results.Done = goes_on q (record s { asked = NoClass; reads = 0; chain = no_links }) refl refl refl
    takes kind (results.Failed e) =
        goes_on q (record s { asked = NoClass; reads = 0; chain = no_links }) refl refl refl

    module _ (some : 1 ≤ p.size / p.sector) where
      -- the first sector of a class, if it asks for one
      where_on : (kind : Kind) (rest : List Kind) (o : Option ℕ) → taste_where kind f ≡ o
          → Steps
          (option_map_or
          (λ sector. read_sector granted q (record s { classes = rest; asked = NoClass; reads = 0; chain = no_links })
          kind sector) o
          (end_class granted q (record s { classes = rest; asked = NoClass; reads = 0; chain = no_links }) Next))
      where_on kind rest None e = search rules
      where_on kind rest (Some sector) e = search rules

      -- the next class, unless it is over the provider already
      asks_on : (kind : Kind) (rest : List Kind) (b : Bool)
          → Steps
          (if b
          then end_class granted q (record s { classes = rest; asked = NoClass; reads = 0; chain = no_links }) Next
          else option_map_or
          (λ sector. read_sector granted q (record s { classes = rest; asked = NoClass; reads = 0; chain = no_links })
          kind sector) (taste_where kind f)
          (end_class granted q (record s { classes = rest; asked = NoClass; reads = 0; chain = no_links }) Next))
      asks_on kind rest true = search rules
      asks_on kind rest false = where_on kind rest (taste_where kind f) refl

      -- so with the classes that are left
      classes_on : (classes : List Kind) → Steps (next_class granted q s p classes)
      classes_on [] = ends
      classes_on (kind ∷ rest) = asks_on kind rest (is_attached_class t kind s.provider)

      -- by how far a class has been asked
      asked_on : ((kind : Kind) (sector : ℕ) → s.asked ≡ NextSector kind sector → IsInside sector p)
          → (a : Asked) → s.asked ≡ a → Steps (go_on granted q s p a)
      asked_on next NoClass e = classes_on s.classes
      asked_on next (NextSector kind sector) e = search rules
      asked_on next (ReadOut kind) e = goes_on q s refl refl idle
      asked_on next (ReadBack kind got) e = takes kind got

  module _ (readable : IfSome (provider_at t s.provider) (IsReadable s)) where
    provider_on : (o : Option Provider) → provider_at t s.provider ≡ o → IfSome o (IsReadable s)
        → Steps (option_map_or (λ p. go_on granted q s p s.asked) o (end_taste granted q s))
    provider_on None e can = ends
    provider_on (Some p) e can = asked_on p e can.some can.next s.asked refl

    -- the taste goes on, or it ends
    going_on : (b : Bool)
        → Steps
        (if b
        then end_taste granted q s
        else option_map_or (λ p. go_on granted q s p s.asked) (provider_at t s.provider) (end_taste granted q s))
    going_on true = ends
    going_on false = provider_on (provider_at t s.provider) refl readable

    -- so a step of the taste
    pub steps_on : Steps (taste_step granted q s)
    steps_on = going_on (is_ended t s)
