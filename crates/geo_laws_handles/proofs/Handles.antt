-- Other handles of the same consumers: a firm world stays firm.
use Rattle.std.specs.Prelude.{◌≡◌, ℕ, ◌==◌, List, map, find, count_by, Option, Some, All, IsSomeAnd}
use Rattle.std.specs.Option.{option_map_or}
use Rattle.std.proofs.Common.{◌∙◌, ap}
use Rattle.std.proofs.lemmas.List.Elements.{All-weaker}
use Rattle.geo_model.specs.declared.step.Owner.{Owner}
use Rattle.geo_model.specs.declared.step.Owner.TheVariants as owners
use Rattle.geo_model.specs.Words.{names_number}
use Rattle.geo_model.specs.Topology.{Consumer, consumers_of}
use Rattle.geo_model.specs.World.{World, Handle, Bio, granted_in, taste_grant}
use Rattle.geo_model.specs.Graph.{AreNumbers}
use Rattle.geo_model.specs.Sound.{IsHandleConsumer, HasItsConsumer}
use Rattle.geo_model.specs.Steady.{ComesFromItsOwner}
use Rattle.geo_model.specs.Fitting.{Firm}
use Rattle.geo_laws_life.proofs.Frames.{held-firm}
use Rattle.geo_laws_life.proofs.Killed.{grants-same}

-- the handles of a world in which none holds another consumer than before: each consumer has the handles that it
-- had, each handle has its consumer, and a line's handle has the consumer that it had
pub record AreSteady (w : World) (hs : List Handle) : Type 0 where
  pub numbers : AreNumbers (map (λ h. h.number) hs) w.next_handle
  pub found : (d : ℕ) → find (λ h. names_number h.consumer d) hs ≡ find (λ h. names_number h.consumer d) w.handles
  pub count : (d : ℕ) → count_by (λ h. names_number h.consumer d) hs
      ≡ count_by (λ h. names_number h.consumer d) w.handles
  pub each : All (HasItsConsumer w.topology) hs
  pub of_line : (handle source : ℕ)
      → IsSomeAnd (find (λ h. h.number == handle) w.handles) (λ h. h.consumer ≡ Some source)
      → IsSomeAnd (find (λ h. h.number == handle) hs) (λ h. h.consumer ≡ Some source)

module _ (w : World) (firm : Firm w) (hs : List Handle) (steady : AreSteady w hs) where
  -- the world with these handles
  abbrev v : World
  v = record w { handles = hs }

  -- all grants are as before
  grants : granted_in v ≡ granted_in w
  grants =
      grants-same (granted_in v) (granted_in w) (λ d.
      ap (λ (o : Option Handle). option_map_or (λ (h : Handle). h.grant) o (taste_grant w.taste d))
      (steady.found d))

  -- each consumer of DEV is that of one handle
  consumer_of_handle : (d : Consumer) → IsHandleConsumer w.handles d → IsHandleConsumer hs d
  consumer_of_handle d is = record {
    attached = is.attached;
    one_handle = steady.count d.number ∙ is.one_handle;
  }

  -- a root comes from its owner
  comes : (x : Bio) (o : Owner) → ComesFromItsOwner w.handles w.taste x o → ComesFromItsOwner hs w.taste x o
  comes x (owners.Line handle line) fact = steady.of_line handle x.source fact
  comes x owners.Taste fact = fact
  comes x (owners.Child parent index) fact = fact

  -- so the world is firm
  pub handles-firm : Firm v
  handles-firm =
      held-firm w firm v grants (record {
        numbers = steady.numbers;
        consumers = All-weaker (IsHandleConsumer w.handles) (IsHandleConsumer hs) consumer_of_handle
            (consumers_of w.topology 1) firm.handles.consumers;
        handles = steady.each;
        taste = firm.handles.taste;
      })
      (λ x. comes x x.owner) firm.bios.read_out firm.taste.order firm.taste.asked
