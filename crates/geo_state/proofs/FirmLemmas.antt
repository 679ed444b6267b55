-- What a sound world says of the requests on their way, of consumers and of handles.
use Rattle.std.specs.Prelude.{◌≡◌, ℕ, ◌≤◌, ◌==◌, Bool, true, false, List, [], ◌∷◌, map, find, Option, Some, None, IsSome}
use Rattle.std.specs.List.{AllByRecursion}
use Rattle.std.proofs.Common.{refl, sym, ◌∙◌, ap, subst, inr, rules}
use Rattle.std.proofs.lemmas.List.Elements.{recursion_from_All}
use Rattle.geo_base.proofs.AllLists.{all_weaker, two_facts}
use Rattle.geo_base.specs.declared.request.Counts.{Counts}
use Rattle.geo_model.specs.declared.command.LineCommand.{LineCommand}
use Rattle.geo_model.specs.declared.step.Entry.{Entry}
use Rattle.geo_model.specs.declared.step.Owner.{Owner}
use Rattle.geo_model.specs.declared.step.Owner.TheVariants as owners
use Rattle.geo_model.specs.Graph.{AreNumbers, IsInOrder}
use Rattle.geo_model.specs.Topology.{Topology, Consumer, consumer_at}
use Rattle.geo_model.specs.World.{Bio, BioOf, Config, Handle, is_of_handle, granted_of}
use Rattle.geo_model.specs.Fitting.{Firm}
use Rattle.geo_model.specs.Sound.{HasItsConsumer}
use Rattle.geo_model.specs.SoundBios.{IsBioInOrder, IsFamilyInOrder}
use Rattle.geo_model.specs.Steady.{ComesFromItsOwner}
use Rattle.geo_bio.specs.declared.bio.Held.{Held}
use Rattle.geo_handles.specs.Handles.{handle_at}
use Rattle.geo_log.specs.Places.{delivered_at}
use Rattle.geo_state.specs.Shown.{shown_bio, shown_bios}
use Rattle.geo_laws_graph.proofs.Lists.{rise-from, none_outside}
use Rattle.geo_state.specs.declared.state.State.{State}
use Rattle.geo_state.specs.Parts.{IsUnderWay, AreUnderWay}
use Rattle.geo_state.specs.Trips.{Trip, trip_of, trips, is_out, out_through}
use Rattle.geo_state.specs.World.{world, StandsFirm}
use Rattle.geo_state.proofs.Lists.{count-none, find-none}
use Rattle.geo_state.proofs.TripLemmas.{none-counted}

module _ (log : List Entry) (s : State) (actors : List (List LineCommand)) where
  -- what was granted to a consumer of DEV or TASTE
  abbrev granted : ℕ → Counts
  granted = granted_of s.handles.handles s.taste

  one : (x : BioOf Held)
      → IsBioInOrder granted s.topo.topology (shown_bio (delivered_at log) x)
      → ComesFromItsOwner s.handles.handles s.taste (shown_bio (delivered_at log) x) x.owner
      → IsFamilyInOrder s.topo.topology (world actors log s).bios (shown_bio (delivered_at log) x)
      → IsUnderWay s.topo.topology s.handles.handles (trip_of x)
  one x order owner family = search rules

  each : (bios : List (BioOf Held))
      → AllByRecursion (IsBioInOrder granted s.topo.topology) (shown_bios (delivered_at log) bios)
      → AllByRecursion (λ (x : Bio). ComesFromItsOwner s.handles.handles s.taste x x.owner)
      (shown_bios (delivered_at log) bios)
      → AllByRecursion (IsFamilyInOrder s.topo.topology (world actors log s).bios) (shown_bios (delivered_at log) bios)
      → AreUnderWay s.topo.topology s.handles.handles (trips bios)
  each [] order owners_are families = tt
  each (x ∷ xs) order owners_are families = search (rules, each xs order.1 owners_are.1 families.1)

  pub under-way_in : Firm (world actors log s) → AreUnderWay s.topo.topology s.handles.handles (trips s.traffic.bios)
  under-way_in firm =
      each s.traffic.bios
      (recursion_from_All (IsBioInOrder granted s.topo.topology) (world actors log s).bios firm.bios.order)
      (recursion_from_All (λ (x : Bio). ComesFromItsOwner s.handles.handles s.taste x x.owner) (world actors log s).bios
      firm.bios.owners)
      (recursion_from_All (IsFamilyInOrder s.topo.topology (world actors log s).bios) (world actors log s).bios
      firm.bios.families)

  -- each handle's consumer lives
  pub holders-live : Firm (world actors log s)
      → AllByRecursion (λ (h : Handle). (c : ℕ) → h.consumer ≡ Some c → IsSome (consumer_at s.topo.topology c))
      s.handles.handles
  holders-live firm =
      search (
        rules,
        all_weaker (HasItsConsumer s.topo.topology)
            (λ h. (c : ℕ) → h.consumer ≡ Some c → IsSome (consumer_at s.topo.topology c)),
        recursion_from_All (HasItsConsumer s.topo.topology) s.handles.handles firm.handles.handles,
      )

-- where some commands are left
module _ (log : List Entry) (s : State) (firm : StandsFirm log s) where
  pub under-way : AreUnderWay s.topo.topology s.handles.handles (trips s.traffic.bios)
  under-way = under-way_in log s firm.0 firm.1

  pub holders : AllByRecursion (λ (h : Handle). (c : ℕ) → h.consumer ≡ Some c → IsSome (consumer_at s.topo.topology c))
      s.handles.handles
  holders = holders-live log s firm.0 firm.1

  pub consumer-numbers : AreNumbers (map (λ (x : Consumer). x.number) s.topo.topology.consumers)
      s.topo.topology.next_consumer
  consumer-numbers = firm.1.graph.numbers.consumers

-- a number that isn't given yet is nobody's
pub unknown : {X : Type 0} (number : X → ℕ) (next n : ℕ) (xs : List X) → AreNumbers (map number xs) next → next ≤ n
    → find (λ x. number x == n) xs ≡ None
unknown number next n xs are past =
    find-none (λ x. number x == n) xs (none_outside number 0 next n xs (rise-from next (map number xs) are) (inr past))

module _ (t : Topology Config) (handles : List Handle) (xs : List Trip) where
  -- nothing is out through a consumer that isn't there
  pub none-out : (c : ℕ) → consumer_at t c ≡ None → AreUnderWay t handles xs → out_through xs c ≡ 0
  none-out c none are = search (rules, count-none (is_out c) xs, all_weaker (IsUnderWay t handles))

  -- no request is of a handle that isn't there
  pub none-of : (n : ℕ) → handle_at handles n ≡ None → AreUnderWay t handles xs
      → AllByRecursion (λ (x : Trip). is_of_handle x.owner n ≡ false) xs
  none-of n none are = search (rules, all_weaker (IsUnderWay t handles))

  -- nor of one through whose consumer nothing is out, or that has none
  pub idle-of : (n : ℕ) (h : Handle) → handle_at handles n ≡ Some h
      → ((c : ℕ) → h.consumer ≡ Some c → out_through xs c ≡ 0) → AreUnderWay t handles xs
      → AllByRecursion (λ (x : Trip). is_of_handle x.owner n ≡ false) xs
  idle-of n h found idle are =
      all_weaker (λ (x : Trip). IsUnderWay t handles x × ((c : ℕ) → h.consumer ≡ Some c → is_out c x ≡ false))
      (λ (x : Trip). is_of_handle x.owner n ≡ false)
      (λ x facts. of x x.owner refl facts.0 facts.1) xs
      (two_facts (IsUnderWay t handles) (λ (x : Trip). (c : ℕ) → h.consumer ≡ Some c → is_out c x ≡ false) xs are quiet)
    where
      quiet : AllByRecursion (λ (x : Trip). (c : ℕ) → h.consumer ≡ Some c → is_out c x ≡ false) xs
      quiet = by h.consumer refl
        where
          fill : (ys : List Trip) → h.consumer ≡ None
              → AllByRecursion (λ (x : Trip). (c : ℕ) → h.consumer ≡ Some c → is_out c x ≡ false) ys
          fill [] none = tt
          fill (y ∷ ys) none = ((λ c is. let never : None ≡ Some c = sym none ∙ is in absurd cc), fill ys none)

          by : (o : Option ℕ) → h.consumer ≡ o
              → AllByRecursion (λ (x : Trip). (c : ℕ) → h.consumer ≡ Some c → is_out c x ≡ false) xs
          by None is = fill xs is
          by (Some d) is =
              all_weaker (λ (x : Trip). is_out d x ≡ false) (λ x. (c : ℕ) → h.consumer ≡ Some c → is_out c x ≡ false)
              (λ x no c has.
              let e : Some d ≡ Some c = sym is ∙ has in
              let same : d ≡ c = cc in
              subst (λ m. is_out m x ≡ false) same no) xs
              (none-counted (is_out d) xs (idle d is))

      -- a root that is out
      out : (x : Trip) (line : ℕ) → x.owner ≡ owners.Line n line → IsUnderWay t handles x
          → h.consumer ≡ Some x.source → is_out x.source x ≡ true
      out x line is way has = search rules

      on : (x : Trip) (hd line : ℕ) → x.owner ≡ owners.Line hd line → IsUnderWay t handles x
          → ((c : ℕ) → h.consumer ≡ Some c → is_out c x ≡ false) → (b : Bool) → (hd == n) ≡ b → (hd == n) ≡ false
      on x hd line is way none true e = search (rules, out x line)
      on x hd line is way none false e = e

      of : (x : Trip) (o : Owner) → x.owner ≡ o → IsUnderWay t handles x
          → ((c : ℕ) → h.consumer ≡ Some c → is_out c x ≡ false) → is_of_handle x.owner n ≡ false
      of x (owners.Line hd line) is way none = search (rules, on x hd line is way none (hd == n))
      of x owners.Taste is way none = ap (λ w. is_of_handle w n) is
      of x (owners.Child parent index) is way none = ap (λ w. is_of_handle w n) is

-- the graph is in order
pub firm-order : (log : List Entry) (s : State) → StandsFirm log s → IsInOrder s.topo.topology
firm-order log s firm = search rules
