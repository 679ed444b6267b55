-- Each of what a step of the taste may come to.
use Rattle.std.specs.Prelude.{◌≡◌, ℕ, ◌+◌, ◌-◌, ◌*◌, ◌≤◌, false, List, length, Option, Some, None, IsSomeAnd, IfSome}
use Rattle.std.proofs.Common.{refl, sym, ◌∙◌, ap, subst, rules}
use Rattle.geo_base.specs.declared.limits.TheConstants.{MAX_LINKS}
use Rattle.geo_model.specs.declared.class.Judged.{Judged}
use Rattle.geo_model.specs.declared.class.Judged.TheVariants.{Read, Next, Made, Ended}
use Rattle.geo_model.specs.declared.step.Entry.{Entry}
use Rattle.geo_model.specs.declared.step.Event.{Event}
use Rattle.geo_model.specs.declared.step.Outcome.{Outcome}
use Rattle.geo_model.specs.declared.step.Outcome.TheVariants as outcomes
use Rattle.geo_model.specs.Demand.{one_read}
use Rattle.geo_model.specs.World.{World, Config, Taste, is_read_out}
use Rattle.geo_model.specs.Step.{judge_next}
use Rattle.geo_access.specs.Access.{consumers_below}
use Rattle.geo_event.specs.EventQueue.{Queued}
use Rattle.geo_slots.specs.Slots.{value_at}
use Rattle.geo_mesh.specs.Graph.{IsSoundGraph}
use Rattle.geo_mesh.specs.Topo.{TopoView, IsButForRoom, without_consumer}
use Rattle.geo_taste.specs.Making.{both, AreBoth}
use Rattle.geo_taste.specs.Judging.{IsJudged, IsKnownWith, MayJudge, making}
use Rattle.geo_taste.specs.Taster.{IsTasteOf, with_granted, IsSettled as IsTasteSettled}
use Rattle.geo_state.specs.declared.state.State.{State}
use Rattle.geo_state.specs.Bios.{IsNoHandles}
use Rattle.geo_state.specs.Holds.{Holds}
use Rattle.geo_state.specs.Steps.{Stands, IsAgainst, Makes}
use Rattle.geo_state.specs.World.{world}
use Rattle.geo_moves.specs.Judging.{HasSector, HasSubmitted}
use Rattle.geo_moves.proofs.EventStepping.{IsNextTaste}
use Rattle.geo_moves.proofs.Tasted.{nobodys, none-out, taster-at}
use Rattle.geo_moves.proofs.Deciding.{taste-idle}
use Rattle.geo_moves.proofs.Judged.{Ready, may-judge, next-taste, judged-makes, next-kept, read-kept, made-kept, came-first, came-all, ended-kept}

-- a step came to this, with the mesh, the queue and the taste after it, from a state that was ready for it
pub record Stepped (s : State) (a : Taste) (u : TopoView Config) (q : Queued) (z : Taste) (j : Judged) : Type 0 where
  pub ready : Ready s a
  pub judged : IsJudged (both s.topo s.queue) a u q z j
  pub settled : IsKnownWith j (MayJudge (both s.topo s.queue) a) (IsTasteSettled u)
  pub tasting : IsKnownWith j (MayJudge (both s.topo s.queue) a) (IsTasteOf u z)
  pub spare : s.queue.spare ≤ q.spare + MAX_LINKS

-- a step that ran leaves this state, which keeps all, and is the world's
pub record Leaves (old new : State) : Type 0 where
  pub kept : Holds new
  pub made : (log : List Entry) → Makes judge_next log old new outcomes.Ran

-- nothing is against a Judge, and the taste was taken out of the state
module _ {s : State} {a : Taste} {o : Option Taste} (stands : Stands s)
    (due : IsAgainst judge_next s None) (taken : o ≡ s.taste) (some : o ≡ Some a)
    (sound : IsSoundGraph s.topo.topology) (room : 3 * length s.topo.topology.providers + 128 ≤ s.queue.spare) where
  -- so the state was ready for a step
  pub ready-of : Ready s a
  ready-of = search (rules, taste-idle s stands.kept due a (sym taken ∙ some))

  module _ {u : TopoView Config} {q : Queued} {z : Taste} {j k : Judged} (same : j ≡ k)
      (judged : IsJudged (both s.topo s.queue) a u q z j)
      (settled : IsKnownWith j (MayJudge (both s.topo s.queue) a) (IsTasteSettled u))
      (tasting : IsKnownWith j (MayJudge (both s.topo s.queue) a) (IsTasteOf u z))
      (spare : s.queue.spare ≤ q.spare + MAX_LINKS) where
    -- and what the step came to, by another name for it
    pub stepped : Stepped s a u q z k
    stepped = search (rules, ready-of)

-- however a step ends, it took few turns, by the taste that was taken out of the state
module _ (s : State) (before after : ℕ) {a : Taste} {o : Option Taste} (taken : o ≡ s.taste) (some : o ≡ Some a) where
  pub few-turns : after ≤ before + consumers_below s.topo.topology a.provider
      → IfSome s.taste (λ x. after ≤ before + consumers_below s.topo.topology x.provider)
  few-turns few = search rules

-- what a step came to, by the taste, the mesh and the queue after it
module _ {s : State} {a : Taste} {u : TopoView Config} {q : Queued} {z : Taste} where
  -- The taste goes on

  module _ (step : Stepped s a u q z Next) where
    -- all is kept, and the step is the world's
    pub next : Leaves s (record s { topo = u; queue = q; taste = Some z })
    next = record {
      kept =
          next-kept s a step.ready u q z step.spare step.settled step.judged.mesh.mesh
          (next-taste s a step.ready u q z Next step.judged).out;
      made =
          λ log. judged-makes s a step.ready u q z Next step.judged (record s { topo = u; queue = q; taste = Some z })
          outcomes.Ran log (λ actors. refl);
    }

  -- A read is granted

  module _ {sector : ℕ} (step : Stepped s a u q z (Read sector)) where
    -- the taste then
    after : IsNextTaste s.topo.topology a z (Read sector)
    after = next-taste s a step.ready u q z (Read sector) step.judged

    -- the mesh with the grant
    mesh : IsButForRoom u (with_granted s.topo a.consumer one_read)
    mesh = step.judged.mesh.mesh

    -- all is kept
    pub read-holds : Holds (record s { topo = u; queue = q; taste = Some z })
    read-holds =
        read-kept s a step.ready u q z step.spare step.settled mesh after.consumer after.out

    -- its consumer lives, and no handle has it
    pub read-through : (o : Option Taste) → IsNoHandles (record s { topo = u; queue = q; taste = o }) z.consumer
    read-through o =
        search (
          rules,
          taster-at s step.ready.stands a step.ready.is step.ready.sound,
          nobodys s step.ready.stands a step.ready.is step.ready.sound,
        )

    -- nothing is out through it
    pub read-idle : value_at u.active z.consumer ≡ Some 0
    read-idle = search (rules, none-out s step.ready.stands a step.ready.is step.ready.sound step.ready.idle)

    -- the sector is one of the provider
    pub read-inside : (o : Option Taste) → HasSector (record s { topo = u; queue = q; taste = o }) z sector
    read-inside o = search (rules, after.inside sector)

    -- the read is submitted
    pub read-made : (o : Option Taste) (new : State) (out : Outcome) → out ≡ outcomes.Reading s.traffic.next
        → HasSubmitted (record s { topo = u; queue = q; taste = o }) new z sector → (log : List Entry)
        → Makes judge_next log s new out
    read-made o new out told submitted log =
        judged-makes s a step.ready u q z (Read sector) step.judged new out log
        (λ actors. sym (λ i. let r : World × Outcome = (submitted actors log i, told i) in r))

  -- Something is made of the provider

  module _ (step : Stepped s a u q z Made) where
    -- what can be made is made
    made : IsSomeAnd (making (both s.topo s.queue) a) (AreBoth u q)
    made = step.judged.mesh (may-judge s a step.ready)

    -- the mesh is settled
    settled : IsTasteSettled u
    settled = step.settled (may-judge s a step.ready)

    -- providers that came have numbers from the next one on
    pub made-first : s.topo.topology.next_provider ≤ u.topology.next_provider
    made-first = came-first s a step.ready u q z step.spare settled made

    -- with them all are counted
    pub made-all : s.providers + (u.topology.next_provider - s.topo.topology.next_provider)
        ≡ length u.topology.providers
    made-all = came-all s a step.ready u q z step.spare settled made

    -- all is kept
    pub made-holds : Holds (record s {
      topo = u;
      queue = q;
      taste = Some z;
      providers = s.providers + (u.topology.next_provider - s.topo.topology.next_provider);
    })
    made-holds =
        made-kept s a step.ready u q z step.spare settled made
        (next-taste s a step.ready u q z Made step.judged).out

    -- and the step is the world's
    pub made-made : (n : ℕ) (log : List Entry)
        → Makes judge_next log s (record s { topo = u; queue = q; taste = Some z; providers = n }) outcomes.Ran
    made-made n log =
        judged-makes s a step.ready u q z Made step.judged
        (record s { topo = u; queue = q; taste = Some z; providers = n }) outcomes.Ran log (λ actors. refl)

  -- The taste ends

  module _ (step : Stepped s a u q z Ended) where
    -- the taste then
    over : IsNextTaste s.topo.topology a z Ended
    over = next-taste s a step.ready u q z Ended step.judged

    -- no read of it is out
    pub ended-idle : is_read_out z.asked ≡ false
    ended-idle = over.out

    -- nothing is out through its consumer
    pub ended-out : value_at u.active z.consumer ≡ Some 0
    ended-out = search (rules, none-out s step.ready.stands a step.ready.is step.ready.sound step.ready.idle)

    module _ {v : TopoView Config} {o : Option Taste} (gone : v ≡ without_consumer u z.consumer)
        (settled : IsTasteSettled v) (none : o ≡ None) where
      -- all is kept
      ended-holds : Holds (record s { topo = v; queue = q; taste = o })
      ended-holds =
          subst (λ (x : Option Taste). Holds (record s { topo = v; queue = q; taste = x })) (sym none)
          (ended-kept s a step.ready u q z step.spare step.judged.mesh.mesh (over.ended refl)
          step.tasting v gone settled)

      -- and the step is the world's
      ended-made : (log : List Entry)
          → Makes judge_next log s (record s { topo = v; queue = q; taste = o }) outcomes.Ran
      ended-made log =
          let graph : IsButForRoom v (without_consumer s.topo a.consumer) =
          search rules in
          search (
            rules,
            judged-makes s a step.ready u q z Ended step.judged (record s { topo = v; queue = q; taste = o })
                outcomes.Ran log
                (λ actors. ap
                (λ (x : Taste). let r : World × Outcome = (
                  record (world actors log s)
                      { topology = (without_consumer s.topo x.consumer).topology; taste = None },
                  outcomes.Ran,
                ) in r)
                (over.ended refl) ∙ ap
                (λ (x : TopoView Config). let r : World × Outcome =
                (record (world actors log s) { topology = x.topology; taste = None }, outcomes.Ran) in r)
                (sym graph) ∙ ap
                (λ (es : List Event). let r : World × Outcome =
                (record (world actors log s) { topology = v.topology; events = es; taste = None }, outcomes.Ran) in
                r) (sym step.judged.mesh.events) ∙ ap
                (λ (x : Option Taste). let r : World × Outcome =
                (record (world actors log s) { topology = v.topology; events = q.events; taste = x }, outcomes.Ran)
                in r) (sym none)),
          )

      -- once its consumer is gone
      pub ended : Leaves s (record s { topo = v; queue = q; taste = o })
      ended = record { kept = ended-holds; made = ended-made }

  -- Memory is wanting

  module _ (ready : Ready s a) (same : AreBoth u q (both s.topo s.queue)) (still : z ≡ a) (settled : IsTasteSettled u)
      (spare : s.queue.spare ≤ q.spare + MAX_LINKS) where
    -- all is kept
    pub refused-holds : Holds (record s { topo = u; queue = q; taste = Some z })
    refused-holds =
        next-kept s a ready u q z spare settled same.mesh
        (ap (λ (x : Taste). is_read_out x.asked) still ∙ ready.idle)
