-- Notes that are taken in order, and one step of the loops over them.
use Rattle.std.specs.Prelude.{◌≡◌, ℕ, ◌+◌, ◌<◌, ◌==◌, Bool, true, false, List, [], ◌∷◌, map, Some, None, fold}
use Rattle.std.proofs.Common.{refl, sym, ap, ◌∙◌, arith, subst, rules}
use Rattle.std.proofs.lemmas.Simd.{map-map}
use Rattle.geo_model.specs.Topology.{Topology, Provider}
use Rattle.geo_model.specs.Graph.{AreNumbers}
use Rattle.geo_laws_graph.proofs.Lists.{Rise, rise-from}
use Rattle.geo_slots.specs.Slots.{with_value}
use Rattle.geo_access.specs.Access.{noted, first_noted, is_noted, granted_by, without_risen, without_fallen, IsCounted}
use Rattle.geo_life.specs.Life.{notes, queued, IsDevMade, AreStored, without_rises, without_falls}
use Rattle.geo_base.specs.declared.request.Counts.{Counts}
use Rattle.geo_model.specs.Events.{QueuedTopology, spoil_at, is_to_spoil, offer_again, announce_risen, announce_fallen}
use Rattle.geo_event.specs.EventQueue.{Queued}
use Rattle.geo_mesh.specs.Topo.{TopoView, with_topology}
use Rattle.geo_mesh.specs.Graph.{IsSoundGraph}
use Rattle.geo_laws_counts.specs.CountWords.{seen_by_counts}
use Rattle.geo_life.proofs.Unseen.{seen_marks, provider_rows}
use Rattle.geo_life.proofs.MarkWalk.{stored_still}

-- the number of a row
abbrev key : ℕ × Bool → ℕ
key row = row.0

-- a value put at a number below all
put_below : (n low high : ℕ) (v : Bool) (rows : List (ℕ × Bool)) → Rise low (map key rows) high → n < low
    → with_value rows n v ≡ rows
put_below n low high v [] rise below = refl
put_below n low high v (row ∷ rows) rise below =
    search (rules, put_below n (row.0 + 1) high v rows rise.2 (omega (arith, rise.0, below)))

-- the value that stood, put again
put_again : (n low high : ℕ) (rows : List (ℕ × Bool)) → Rise low (map key rows) high
    → with_value rows n (is_noted rows n) ≡ rows
put_again n low high [] rise = refl
put_again n low high (row ∷ rows) rise =
    search (rules, put_again n (row.0 + 1) high rows rise.2, put_below n (row.0 + 1) high row.1 rows rise.2)

-- the least note comes first, and without it the others are noted
next_note : (n low high : ℕ) (rows : List (ℕ × Bool)) → Rise low (map key rows) high → first_noted rows ≡ Some n
    → noted rows ≡ n ∷ noted (with_value rows n false)
next_note n low high [] rise never = absurd (cc)
next_note n low high (row ∷ rows) rise first =
    by row.1 (row.0 == n) refl refl (λ later. next_note n (row.0 + 1) high rows rise.2 later)
  where
    by : (a b : Bool) → row.1 ≡ a → (row.0 == n) ≡ b
        → (first_noted rows ≡ Some n → noted rows ≡ n ∷ noted (with_value rows n false))
        → noted (row ∷ rows) ≡ n ∷ noted (with_value (row ∷ rows) n false)
    by true b is e so = search (rules, put_below n (row.0 + 1) high false rows rise.2)
    by false true is e so = let later : first_noted rows ≡ Some n = rw is at first in rw (e, is) (so later)
    by false false is e so = let later : first_noted rows ≡ Some n = rw is at first in rw (e, is) (so later)

-- where no note is first, none is set
no_note : (rows : List (ℕ × Bool)) → first_noted rows ≡ None
    → (noted rows ≡ []) × (rows ≡ map (λ n. (n, false)) (map key rows))
no_note [] none = (refl, refl)
no_note (row ∷ rows) none = search (rules, no_note rows)

module _ (rows : List (ℕ × Bool)) (next n : ℕ) (order : AreNumbers (map key rows) next) where
  -- the least note comes first, and without it the others are noted
  pub note_next : first_noted rows ≡ Some n → noted rows ≡ n ∷ noted (with_value rows n false)
  note_next first = next_note n 0 next rows (rise-from next (map key rows) order) first

  -- there is one note less
  pub note_less : first_noted rows ≡ Some n → notes rows ≡ notes (with_value rows n false) + 1
  note_less first = search (rules, note_next first)

  -- the note that stood, put again
  pub note_again : with_value rows n (is_noted rows n) ≡ rows
  note_again = put_again n 0 next rows (rise-from next (map key rows) order)

module _ (rows : List (ℕ × Bool)) (none : first_noted rows ≡ None) where
  -- where no note is first, none is set
  pub note_none : noted rows ≡ []
  note_none = (no_note rows none).0

  -- and all rows say so
  pub note_rows : (xs : List Provider) → map key rows ≡ map (λ (x : Provider). x.number) xs
      → rows ≡ map (λ (x : Provider). (x.number, false)) xs
  note_rows xs same = search (rules, no_note rows none, map-map)

-- One step

module _ {C : Type 0} (rows after : List (ℕ × Bool)) (p : ℕ) (first : noted rows ≡ p ∷ noted after)
    (q new : QueuedTopology C) where
  -- a spoil more
  pub rise_step : (granted : ℕ → Counts) → new ≡ spoil_at granted q p
      → announce_risen granted (noted after) new ≡ announce_risen granted (noted rows) q
  rise_step granted is = search rules

  -- an offer more
  pub fall_step : new ≡ offer_again q p → announce_fallen (noted after) new ≡ announce_fallen (noted rows) q
  fall_step is = ap (λ r. fold offer_again r (noted after)) is ∙ sym (ap (fold offer_again q) first)

-- the mesh without the least note, as it is taken: the other notes stand, and come in order
pub record IsTaken {C : Type 0} (now mid after : TopoView C) (rows new : List (ℕ × Bool)) (p : ℕ) : Type 0 where
  pub is : mid ≡ after
  pub next : noted rows ≡ p ∷ noted new
  pub less : notes rows ≡ notes new + 1

-- the rows of notes stand in order
in_order : {C : Type 0} {t : Topology C} → IsSoundGraph t → (rows : List (ℕ × Bool))
    → map (λ (row : ℕ × Bool). row.0) rows ≡ map (λ (x : Provider). x.number) t.providers
    → AreNumbers (map (λ (row : ℕ × Bool). row.0) rows) t.next_provider
in_order {C} {t} sound rows same = subst (λ ns. AreNumbers ns t.next_provider) (sym same) sound.orderly.order.providers

module _ {C : Type 0} {now mid : TopoView C} {p : ℕ} (counted : IsCounted now) (sound : IsSoundGraph now.topology) where
  -- a note of a rise
  pub rise_taken : first_noted now.risen ≡ Some p → mid ≡ without_risen now (Some p)
      → IsTaken now mid (record now { risen = with_value now.risen p false }) now.risen (with_value now.risen p false) p
  rise_taken first dropped =
      search (
        rules,
        note_again now.fallen now.topology.next_provider p (in_order sound now.fallen counted.fallen),
        note_next now.risen now.topology.next_provider p (in_order sound now.risen counted.risen) first,
        note_less now.risen now.topology.next_provider p (in_order sound now.risen counted.risen) first,
      )

  -- and of a fall
  pub fall_taken : first_noted now.fallen ≡ Some p → mid ≡ without_fallen now (Some p)
      → IsTaken now mid (record now { fallen = with_value now.fallen p false }) now.fallen
      (with_value now.fallen p false) p
  fall_taken first dropped =
      search (
        rules,
        note_again now.risen now.topology.next_provider p (in_order sound now.risen counted.risen),
        note_next now.fallen now.topology.next_provider p (in_order sound now.fallen counted.fallen) first,
        note_less now.fallen now.topology.next_provider p (in_order sound now.fallen counted.fallen) first,
      )

-- The notes of a rise

module _ {C : Type 0} (start : TopoView C) {now : TopoView C}
    (mesh : now ≡ record start { topology = now.topology; risen = now.risen })
    (same : seen_by_counts now.topology ≡ seen_by_counts start.topology) where
  -- grants whose counts are stored
  pub rise_stored : (granted : ℕ → Counts) → AreStored granted start → AreStored granted now
  rise_stored granted stored =
      subst (AreStored granted) (sym mesh)
      (stored_still granted start (with_topology start now.topology) refl same stored)

  -- no note is left at the end
  pub rise_end : IsCounted now → first_noted now.risen ≡ None → now ≡ with_topology (without_rises start) now.topology
  rise_end counted none =
      mesh
      ∙ ap (λ rows. record start { topology = now.topology; risen = rows })
      (note_rows now.risen none now.topology.providers counted.risen
      ∙ provider_rows start now.topology same (λ n. false))

module _ {C : Type 0} {now mid new : TopoView C} {p : ℕ}
    (taken : IsTaken now mid (record now { risen = with_value now.risen p false }) now.risen
    (with_value now.risen p false) p) (rest : new ≡ with_topology mid new.topology) where
  -- the others are noted after a spoil
  pub rise_notes : new.risen ≡ with_value now.risen p false
  rise_notes = ap (λ (v : TopoView C). v.risen) rest ∙ ap (λ (v : TopoView C). v.risen) taken.is

  -- and nothing else has changed since the start
  pub rise_mesh : (start : TopoView C) → now ≡ record start { topology = now.topology; risen = now.risen }
      → new ≡ record start { topology = new.topology; risen = new.risen }
  rise_mesh start mesh = search rules

-- The notes of a fall

module _ {C : Type 0} (start : TopoView C) {now : TopoView C} (mesh : now ≡ record start { fallen = now.fallen }) where
  -- no note is left at the end
  pub fall_end : IsCounted now → first_noted now.fallen ≡ None → now ≡ without_falls start
  fall_end counted none =
      mesh
      ∙ ap (λ rows. record start { fallen = rows })
      (note_rows now.fallen none now.topology.providers counted.fallen
      ∙ ap (λ (v : TopoView C). map (λ (x : Provider). (x.number, false)) v.topology.providers) mesh)

  -- nothing but notes has changed since the start
  pub fall_mesh : {mid : TopoView C} {p : ℕ}
      → IsTaken now mid (record now { fallen = with_value now.fallen p false }) now.fallen
      (with_value now.fallen p false) p
      → mid ≡ record start { fallen = mid.fallen }
  fall_mesh {mid} {p} taken = search rules

-- a spoil isn't seen by counts
pub rise_unseen : {C : Type 0} (mid : TopoView C) (queue : Queued) (new : QueuedTopology C) (p : ℕ) → IsCounted mid
    → ((granted : ℕ → Counts) → AreStored granted mid → new ≡ spoil_at granted (queued mid queue) p)
    → seen_by_counts new.topology ≡ seen_by_counts mid.topology
rise_unseen {C} mid queue new p counted so =
    search (rules, seen_marks mid.topology (is_to_spoil (granted_by mid) mid.topology p) true)

-- and leaves how DEV was made
pub rise_made : {C : Type 0} (mid : TopoView C) (queue : Queued) (new : QueuedTopology C) (p : ℕ) → IsCounted mid
    → ((granted : ℕ → Counts) → AreStored granted mid → new ≡ spoil_at granted (queued mid queue) p)
    → IsDevMade mid.topology → IsDevMade new.topology
rise_made {C} mid queue new p counted so made = search (rules, so (granted_by mid) counted.wants)

-- the mesh at the end
pub rise_out : {C : Type 0} (start now new : TopoView C) → now ≡ with_topology (without_rises start) now.topology
    → new ≡ now
    → new ≡ with_topology (without_rises start) new.topology
rise_out {C} start now new is same = search rules
