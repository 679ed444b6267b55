-- What comes of a step of the taste, and that all is kept then.
use Rattle.std.specs.Prelude.{◌≡◌, ℕ, ◌+◌, ◌-◌, ◌*◌, ◌<◌, ◌≤◌, ◌^◌, Bool, true, false, List, [], ◌∷◌, length, map, Option, Some, None, Ok, Err, IsSome, IsSomeAnd, if◌then◌else◌}
use Rattle.std.specs.List.{AllByRecursion}
use Rattle.std.specs.Option.{option_map, option_and_then}
use Rattle.std.proofs.Common.{refl, sym, ◌∙◌, ap, subst, arith, rules}
use Rattle.std.proofs.lemmas.List.{append-nil, length-append, length-map}
use Rattle.geo_base.proofs.AllLists.{all_mapped}
use Rattle.geo_base.specs.declared.kind.Kind.TheVariants as kinds
use Rattle.geo_base.specs.declared.request.Counts.{Counts}
use Rattle.geo_base.specs.declared.limits.TheConstants.{MAX_LINKS}
use Rattle.geo_model.specs.declared.class.Judged.{Judged}
use Rattle.geo_model.specs.declared.class.Shape.{Shape}
use Rattle.geo_model.specs.declared.class.Verdict.{Verdict}
use Rattle.geo_model.specs.declared.class.Verdict.TheVariants.{Decline, More, Accept}
use Rattle.geo_model.specs.declared.command.LineCommand.{LineCommand}
use Rattle.geo_model.specs.declared.step.Entry.{Entry}
use Rattle.geo_model.specs.declared.step.Found.TheVariants as found
use Rattle.geo_model.specs.declared.step.Outcome.{Outcome}
use Rattle.geo_model.specs.Graph.{IsInOrder}
use Rattle.geo_model.specs.Topology.{Topology, Provider, Consumer, consumer_at, provider_at}
use Rattle.geo_model.specs.Demand.{no_counts, one_read}
use Rattle.geo_model.specs.Opens.{with_grant}
use Rattle.geo_model.specs.World.{World, Config, Taste, is_read_out, granted_of}
use Rattle.geo_model.specs.WorldEvents.{queued_of}
use Rattle.geo_model.specs.Tasting.{Judging, facts_of, judged_world, judge_step, taste_step}
use Rattle.geo_model.specs.Step.{Answer, judge_of, judge_next, taste_bio}
use Rattle.geo_model.specs.Sound.{class_asked}
use Rattle.geo_event.specs.EventQueue.{Queued}
use Rattle.geo_slots.specs.Slots.{value_at}
use Rattle.geo_mesh.specs.Graph.{IsSoundGraph}
use Rattle.geo_mesh.specs.Topo.{TopoView, IsButForRoom, without_consumer}
use Rattle.geo_laws_graph.proofs.Lists.{Rise, rise-from, found_fresh}
use Rattle.geo_access.specs.Access.{IsHolder, granted_by}
use Rattle.geo_handles.specs.Handles.{holding_handle}
use Rattle.geo_life.specs.Life.{CountsStay}
use Rattle.geo_life.proofs.Loose.{dropped_kept}
use Rattle.geo_taste.specs.Making.{QueuedMesh, both, queued, AreBoth}
use Rattle.geo_taste.specs.Going.{going}
use Rattle.geo_taste.specs.Judging.{IsJudged, MayJudge, making, made_by, verdict_at}
use Rattle.geo_taste.specs.Taster.{IsTasteOf, judging, with_granted, IsSettled as IsTasteSettled}
use Rattle.geo_taste.proofs.Firm.{firm_meshes_judge}
use Rattle.geo_taste.proofs.Reading.{taster_found, taster_holds}
use Rattle.geo_taste.proofs.Taking.{goes_found}
use Rattle.geo_state.specs.declared.state.State.{State}
use Rattle.geo_state.specs.Changes.{IsSettled}
use Rattle.geo_state.specs.Holds.{Holds, owed_events}
use Rattle.geo_state.specs.Parts.{owner_row}
use Rattle.geo_state.specs.Sites.{AreFresh}
use Rattle.geo_state.specs.Steps.{Stands, Makes}
use Rattle.geo_state.specs.Trips.{trips, out_through}
use Rattle.geo_state.specs.World.{world}
use Rattle.geo_state.proofs.GrantLaws.{grants_follow, tastes_grant_nothing, tastes_grant_reads}
use Rattle.geo_state.proofs.OwedLemmas.{places_are_owed}
use Rattle.geo_state.proofs.SiteLemmas.{kept_after_comers, kept_after_consumer}
use Rattle.geo_moves.proofs.Growing.{GrowsFew, IsShort, AllGrow, accepted-grows, few-roomed, number_of}
use Rattle.geo_moves.proofs.EventGrown.{comers, has-comers, no-disks, grown-granted}
use Rattle.geo_moves.proofs.Offering.{none-stored}
use Rattle.geo_moves.proofs.Shapes.{verdict-short}
use Rattle.geo_moves.proofs.EventStepping.{IsNextTaste, steps_on}
use Rattle.geo_moves.proofs.Tasted.{tasting-of, readable-of, nobodys}

-- The numbers of providers

-- rising numbers are no more than the highest
rises-few : (low high : ℕ) (ns : List ℕ) → low ≤ high → Rise low ns high → low + length ns ≤ high
rises-few low high [] less up = omega (arith, less)
rises-few low high (n ∷ ns) less up = search (rules, rises-few (n + 1) high ns)

-- so there are fewer providers than numbers
pub providers-few : {C : Type 0} (t : Topology C) → IsSoundGraph t → length t.providers < 2 ^ 64
providers-few t sound =
    search (
      rules,
      rises-few 0 t.next_provider (map (λ (p : Provider). p.number) t.providers) (omega arith)
          (rise-from t.next_provider (map (λ (p : Provider). p.number) t.providers) sound.orderly.order.providers),
      length-map t.providers (λ (p : Provider). p.number),
    )

-- A mesh in which the taste is made of a provider

-- what is made, by the verdict
verdict-grows : (m : QueuedMesh) (p : Provider) (order : IsInOrder m.mesh.topology)
    (o : Option Verdict) → ((shape : Shape) → o ≡ Some (Accept shape) → IsShort shape)
    → AllGrow m.mesh (made_by o m p)
verdict-grows m p order None short = tt
verdict-grows m p order (Some (Decline cause)) short = tt
verdict-grows m p order (Some (More sector)) short = tt
verdict-grows m p order (Some (Accept shape)) short = accepted-grows m order p shape (short shape refl)

-- what may be made, by the tasted provider
going-grows : (m : QueuedMesh) (a : Taste) (order : IsInOrder m.mesh.topology)
    → ((p : Provider) (shape : Shape) → going m.mesh.topology a ≡ Some p → verdict_at m a p ≡ Some (Accept shape)
    → IsShort shape) → AllGrow m.mesh (making m a)
going-grows m a order short = on (going m.mesh.topology a) refl
  where
    on : (o : Option Provider) → going m.mesh.topology a ≡ o
        → AllGrow m.mesh (option_and_then (λ p. made_by (verdict_at m a p) m p) o)
    on None e = tt
    on (Some p) e = verdict-grows m p order (verdict_at m a p) (λ shape is. short p shape e is)

-- so where something is made
some-grows : (t u : TopoView Config) (q : Queued) (o : Option QueuedMesh) → AllGrow t o → IsSomeAnd o (AreBoth u q)
    → GrowsFew t u
some-grows t u q None grown never = absurd never
some-grows t u q (Some m) grown are = few-roomed t m.mesh u are.mesh grown

-- the state is firm, has this taste, of which no read is out, and has room for the events of a step
pub record Ready (s : State) (a : Taste) : Type 0 where
  pub stands : Stands s
  pub is : s.taste ≡ Some a
  pub idle : is_read_out a.asked ≡ false
  pub sound : IsSoundGraph s.topo.topology
  pub room : 3 * length s.topo.topology.providers + 128 ≤ s.queue.spare

module _ (s : State) (a : Taste) (ready : Ready s a) where
  abbrev t : Topology Config
  t = s.topo.topology

  -- the mesh with its events
  abbrev m : QueuedMesh
  m = both s.topo s.queue

  -- what a class accepts may be made
  pub may-judge : MayJudge (both s.topo s.queue) a
  may-judge =
      firm_meshes_judge (world ready.stands.firm.1.0 ready.stands.firm.0 s) (both s.topo s.queue) a
      ready.stands.firm.1.1 ready.is refl

  -- grants of the handles alone, as long as no read is out
  idle-grants : (c : ℕ) → granted_by s.topo c ≡ granted_of s.handles.handles None c
  idle-grants c = search (rules, tastes_grant_nothing s.handles.handles a ready.idle c)

  module _ (u : TopoView Config) (q : Queued) (z : Taste) where
    -- The step

    module _ (j : Judged) (judged : IsJudged (both s.topo s.queue) a u q z j) where
      -- the taste after it
      pub next-taste : IsNextTaste t a z j
      next-taste =
          subst (λ (x : Judging). IsNextTaste t a x.taste x.judged) (judged.step may-judge)
          (steps_on (granted_by s.topo) (queued (both s.topo s.queue)) a ready.idle
          (readable-of s ready.stands a ready.is))

      -- it is the world's
      pub judged-makes : (new : State) (o : Outcome) (log : List Entry)
          → ((actors : List (List LineCommand))
          → judged_world (world actors log s) (judging u q.events z j) j ≡ (world actors log new, o))
          → Makes judge_next log s new o
      unfolding judge_next judge_step
      judged-makes new o log same actors =
          let w : World = world actors log s in
          ap (λ (x : Option Taste). judge_of w x) ready.is
          ∙ ap (λ (b : Bool).
          let r : Answer = if b then Err (found.ReadOut (taste_bio w)) else Ok (judge_step w a) in r)
          ready.idle
          ∙ ap (λ (g : ℕ → Counts). let x : Judging = taste_step g (queued_of w) a in
          let r : Answer = Ok (judged_world w x x.judged) in r) (sym ready.stands.kept.grants)
          ∙ ap (λ (x : Judging). let r : Answer = Ok (judged_world w x x.judged) in r) (judged.step may-judge)
          ∙ ap (λ (r : World × Outcome). let x : Answer = Ok r in x) (same actors)

    -- What is kept

    module _ (spare : s.queue.spare ≤ q.spare + MAX_LINKS) where
      -- where few providers came the queue has the places that are owed
      owed-kept : (v : TopoView Config) → IsTasteSettled v → (n : ℕ) → n ≤ MAX_LINKS
          → length v.topology.providers ≡ length t.providers + n → IsSettled v q
      owed-kept v settled n few all = record {
        counted = settled.counted;
        quiet = settled.quiet;
        room =
            let owed : owed_events v ≤ 2 * length v.topology.providers = places_are_owed.few v settled.counted in
            search rules;
      }

      module _ (settled : IsTasteSettled u) where
        -- nothing came, and all is granted for
        same-kept : u.topology ≡ t → u.active ≡ s.topo.active
            → ((c : ℕ) → granted_by u c ≡ granted_of s.handles.handles (Some z) c)
            → Holds (record s { topo = u; queue = q; taste = Some z })
        same-kept graph active grants =
            search (
              rules,
              ap (λ (v : Topology Config). map owner_row v.providers) graph,
              append-nil (map owner_row t.providers),
              owed-kept u settled 0 (omega arith),
            )

        -- The taste goes on

        pub next-kept : IsButForRoom u s.topo → is_read_out z.asked ≡ false
            → Holds (record s { topo = u; queue = q; taste = Some z })
        next-kept mesh out =
            same-kept (ap (λ (v : TopoView Config). v.topology) mesh) (ap (λ (v : TopoView Config). v.active) mesh)
            (λ c.
            ap (λ (v : TopoView Config). granted_by v c) mesh
            ∙ idle-grants c
            ∙ sym (tastes_grant_nothing s.handles.handles z out c))

        -- A read is granted

        pub read-kept : IsButForRoom u (with_granted s.topo a.consumer one_read)
            → z.consumer ≡ a.consumer → is_read_out z.asked ≡ true
            → Holds (record s { topo = u; queue = q; taste = Some z })
        read-kept mesh consumer out =
            let holder : IsHolder t a.consumer =
            taster_holds t ready.sound a (tasting-of s ready.stands a ready.is) in
            let free = nobodys s ready.stands a ready.is ready.sound in
            same-kept (ap (λ (v : TopoView Config). v.topology) mesh) (ap (λ (v : TopoView Config). v.active) mesh)
            (λ c.
            ap (λ (v : TopoView Config). granted_by v c) mesh
            ∙ grants_follow.counted s.topo a.consumer one_read holder.kind c
            ∙ ap (λ (g : ℕ → Counts). with_grant g a.consumer one_read c) (λ i d. idle-grants d i)
            ∙ ap (λ n. with_grant (granted_of s.handles.handles None) n one_read c) (sym consumer)
            ∙ sym (tastes_grant_reads s.handles.handles z out
            (ap (λ n. holding_handle s.handles.handles n) consumer ∙ free) c))

        -- Something is made of the provider

        module _ (made : IsSomeAnd (making m a) (AreBoth u q)) where
          -- which parts came
          few-links : class_asked a.asked ≡ Some kinds.Ebr → (p : Provider) → provider_at t a.provider ≡ Some p
              → length a.chain.links < MAX_LINKS
          few-links ebr p found = search rules

          pub parts-come : GrowsFew s.topo u
          parts-come =
              some-grows s.topo u q (making m a)
              (going-grows m a ready.sound.orderly.order (λ p shape goes verdict.
              verdict-short (granted_by s.topo) a (facts_of t p) shape
              (λ ebr. few-links ebr p (goes_found t a p goes).1) verdict)) made

          -- they are counted by their numbers
          pub came-first : t.next_provider ≤ u.topology.next_provider
          came-first = let up = parts-come.grows.next_provider in omega (arith, up)

          came-count : u.topology.next_provider - t.next_provider ≡ length (map owner_row parts-come.grows.providers)
          came-count =
              let up : u.topology.next_provider ≡ t.next_provider + length parts-come.grows.providers =
              parts-come.grows.next_provider in
              search (rules, length-map parts-come.grows.providers owner_row)

          all-providers : length u.topology.providers ≡ length t.providers + length parts-come.grows.providers
          all-providers =
              ap length parts-come.grows.with_providers ∙ length-append t.providers parts-come.grows.providers

          pub came-all : s.providers + (u.topology.next_provider - t.next_provider) ≡ length u.topology.providers
          came-all = search (rules, came-count, length-map parts-come.grows.providers owner_row, all-providers)

          -- none of the consumers was there
          came-fresh : AreFresh s.topo (map number_of parts-come.grows.consumers)
          came-fresh =
              all_mapped (λ (c : ℕ). value_at s.topo.active c ≡ None) number_of parts-come.grows.consumers
              (fresh-each parts-come.grows.consumers parts-come.grows.fresh)
            where
              fresh-each : (cs : List Consumer) → AllByRecursion (λ (c : Consumer). t.next_consumer ≤ c.number) cs
                  → AllByRecursion (λ (c : Consumer). value_at s.topo.active c.number ≡ None) cs
              fresh-each [] above = tt
              fresh-each (c ∷ cs) above = (
                ap (λ rows. value_at rows c.number) ready.stands.kept.active
                    ∙ ap (option_map (λ (row : ℕ × ℕ). row.1))
                    (none-stored (λ (x : Consumer). out_through (trips s.traffic.bios) x.number) c.number t.consumers
                    (found_fresh (λ (x : Consumer). x.number) t.next_consumer c.number t.consumers
                    ready.stands.firm.1.1.graph.numbers.consumers above.0)),
                fresh-each cs above.1,
              )

          pub made-kept : is_read_out z.asked ≡ false
              → Holds (record s {
                topo = u;
                queue = q;
                taste = Some z;
                providers = s.providers + (u.topology.next_provider - t.next_provider);
              })
          made-kept out =
              subst (λ n. Holds (record s { topo = u; queue = q; taste = Some z; providers = s.providers + n }))
              (sym came-count)
              (kept_after_comers ready.stands.firm.0 s u q (Some z) (comers s.topo u parts-come.grows) ready.stands.kept
              ready.stands.firm.1
              (has-comers s.topo u parts-come.grows) came-fresh (no-disks s.topo u parts-come.grows)
              (λ c.
              grown-granted s.topo u parts-come.grows ready.stands.kept.counted
              ready.stands.firm.1.1.graph.parts.consumers c
              ∙ idle-grants c
              ∙ sym (tastes_grant_nothing s.handles.handles z out c))
              (owed-kept u settled (length parts-come.grows.providers) parts-come.few all-providers))

      -- The taste ends

      module _ (mesh : IsButForRoom u s.topo) (same : z ≡ a) (tasting : IsTasteOf u z)
          (v : TopoView Config) (gone : v ≡ without_consumer u z.consumer) (settled : IsTasteSettled v) where
        -- the mesh without the taste's consumer
        pub ended-mesh : IsButForRoom v (without_consumer s.topo a.consumer)
        ended-mesh = search rules

        -- nobody else is granted more or less by it
        ended-granted : (c : ℕ) → granted_by v c ≡ granted_by s.topo c
        ended-granted c =
            (CountsStay.granted (dropped_kept u v z.consumer sound_u lives nothing gone) c)
            ∙ ap (λ (x : TopoView Config). granted_by x c) mesh
          where
            sound_u : IsSoundGraph u.topology
            sound_u = subst (λ (x : TopoView Config). IsSoundGraph x.topology) (sym mesh) ready.sound

            lives : IsSome (consumer_at u.topology z.consumer)
            lives = subst (λ o. IsSome o) (sym (taster_found u.topology sound_u z tasting.tasting)) refl

            nothing : value_at u.wants z.consumer ≡ Some no_counts
            nothing = search rules

        pub ended-kept : Holds (record s { topo = v; queue = q; taste = None })
        ended-kept =
            kept_after_consumer s v q None a.consumer ready.stands.kept ended-mesh
            (λ c. ended-granted c ∙ idle-grants c)
            (owed-kept v settled 0 (omega arith)
            (ap (λ (x : TopoView Config). length x.topology.providers) ended-mesh
            ∙ (let none : length t.providers ≡ length t.providers + 0 = omega arith in none)))
