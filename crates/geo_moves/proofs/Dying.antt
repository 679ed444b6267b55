-- Handles that become dead where their provider is orphaned, one after another.
use Rattle.std.specs.Prelude.{◌≡◌, ℕ, nat_le, List, ◌∷◌, filter, fold, Contains, IsSome}
use Rattle.std.proofs.Common.{refl, sym, subst, rules}
use Rattle.geo_model.specs.Words.{names_number}
use Rattle.geo_model.specs.Topology.{Topology, Consumer, consumer_at, attached_to}
use Rattle.geo_model.specs.Events.{is_of_dev, dying_consumers}
use Rattle.geo_model.specs.World.{Config}
use Rattle.geo_laws_graph.specs.LookupLaws.{left_from}
use Rattle.geo_laws_graph.proofs.Lists.{found_itself}
use Rattle.geo_laws_graph.proofs.Members.{Origin, filter-Contains, map-Contains, Contains-here}
use Rattle.geo_laws_graph.proofs.Walks.{walk-begin}
use Rattle.geo_handles.specs.Handles.{killed}
use Rattle.geo_state.specs.declared.state.State.{State}
use Rattle.geo_state.specs.Steps.{IsFirm}
use Rattle.geo_moves.specs.Killing.{killed_at}

-- those that are still to become dead, from a number on
abbrev pub dying_left : Topology Config → ℕ → ℕ → List ℕ
dying_left t p from_number = left_from (λ n. n) from_number (dying_consumers t p)

-- how far it is: what is left makes of these handles what all make of the first ones, and nothing else is other
pub record KilledSoFar (s now : State) (p from_number : ℕ) : Type 0 where
  pub left : fold killed now.handles.handles (dying_left s.topo.topology p from_number)
      ≡ killed_at s.topo.topology p s.handles.handles
  pub rest : now ≡ record s {
    handles = record s.handles { handles = now.handles.handles; ready = now.handles.ready };
  }

-- at first none is dead
pub killing-begins : (s : State) (p : ℕ) → KilledSoFar s s p 0
killing-begins s p = search (rules, walk-begin (λ n. n) (dying_consumers s.topo.topology p))

-- the next one is a consumer of the mesh
pub dying-lives : (s : State) → IsFirm s → (p from_number c : ℕ) (cs : List ℕ)
    → dying_left s.topo.topology p from_number ≡ c ∷ cs → IsSome (consumer_at s.topo.topology c)
dying-lives s firm p from_number c cs left =
    let t : Topology Config = s.topo.topology in
    let first : Contains (dying_left t p from_number) c =
    subst (λ ns. Contains ns c) (sym left) (Contains-here c cs) in
    let dying = filter-Contains (λ n. nat_le from_number n) (dying_consumers t p) c first in
    let origin : Origin (λ (x : Consumer). x.number ≡ c) (filter (is_of_dev t) (attached_to t p)) =
    map-Contains (λ (x : Consumer). x.number) (filter (is_of_dev t) (attached_to t p)) c dying.0 in
    let attached = filter-Contains (is_of_dev t) (attached_to t p) origin.item origin.stands in
    let here = filter-Contains (λ (x : Consumer). names_number x.provider p) t.consumers origin.item attached.0 in
    subst (λ n. IsSome (consumer_at t n)) origin.fact
    (subst (λ o. IsSome o)
    (sym (found_itself (λ (x : Consumer). x.number) t.next_consumer t.consumers origin.item
    firm.1.1.graph.numbers.consumers here.0)) refl)
