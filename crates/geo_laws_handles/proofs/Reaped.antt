-- The consumer of a dead handle is reaped: a firm mesh stays firm.
use Rattle.std.specs.Prelude.{◌≡◌, ◌≢◌, ℕ, ◌==◌, Bool, true, false, not, List, length, find, Option, Some, None, Ok, Err, Contains, IsSomeAnd, MatchOption, option_map, if◌then◌else◌}
use Rattle.std.specs.List.{AllByRecursion}
use Rattle.std.specs.Option.{option_map_or}
use Rattle.std.proofs.Common.{refl, sym, ◌∙◌, ap, subst}
use Rattle.std.proofs.lemmas.Bool.{eq-eqb, ne_eqb, and_parts, not-true}
use Rattle.std.proofs.lemmas.List.Elements.{All-contains, All-map}
use Rattle.std.proofs.lemmas.List.Sums.{length-filter}
use Rattle.geo_model.specs.declared.step.Found.TheVariants as refusals
use Rattle.geo_model.specs.declared.step.Outcome.TheVariants as outcomes
use Rattle.geo_model.specs.declared.step.Step.TheVariants as steps
use Rattle.geo_model.specs.Words.{names_number, change_where}
use Rattle.geo_model.specs.Topology.{Topology, Consumer, consumer_at, remove_consumer}
use Rattle.geo_model.specs.World.{World, Config, Handle, is_active}
use Rattle.geo_model.specs.Freeing.{is_to_reap, reap_work, reap_consumer, reap_handle, reap}
use Rattle.geo_model.specs.Step.{step, reap_next}
use Rattle.geo_model.specs.Log.{world_after}
use Rattle.geo_model.specs.Laws.{world_by}
use Rattle.geo_model.specs.Sound.{HasItsConsumer}
use Rattle.geo_model.specs.Fitting.{Firm}
use Rattle.geo_model.proofs.DemandLemmas.{find_passes}
use Rattle.geo_laws_graph.proofs.Members.{All-from_contained, find-Contains}
use Rattle.geo_laws_graph.proofs.Lists.{changed, find-changed, numbers-changed}
use Rattle.geo_laws_graph.proofs.Found.{removed-consumer}
use Rattle.geo_laws_graph.proofs.Spared.{IsUntouched, find-untouched, filter-untouched}
use Rattle.geo_laws_counts.proofs.LimitFacts.{all_of}
use Rattle.geo_laws_counts.proofs.Upward.{names_some}
use Rattle.geo_laws_life.proofs.Announced.{announces_keep}
use Rattle.geo_laws_life.proofs.Found.{found-with, some-with}
use Rattle.geo_laws_handles.specs.CloseLaws.{ReapsStayFirm}
use Rattle.geo_laws_handles.proofs.Released.{AreReleased, without-firm}
use Rattle.geo_laws_handles.proofs.Closed.{one_holder, has_dev}

module _ (w : World) (firm : Firm w) (h : Handle) (here : Contains w.handles h) (dead : h.dead ≡ true)
    (d : Consumer)
    (names : h.consumer ≡ Some d.number) where
  -- the graph
  abbrev t : Topology Config
  t = w.topology

  -- whether a handle has the consumer
  abbrev hit : Handle → Bool
  hit x = names_number x.consumer d.number

  -- a handle without one
  abbrev change : Handle → Handle
  change x = record x { consumer = None }

  -- the handles then
  abbrev pub after : List Handle
  after = change_where hit change w.handles

  -- a handle of another consumer isn't touched
  not_touched : (n : ℕ) → n ≢ d.number → (x : Handle)
      → IsUntouched hit (λ (y : Handle). names_number y.consumer n) change x
  not_touched n apart x e =
      let is : x.consumer ≡ Some d.number = names_some x.consumer d.number e in
      (rw is (ne_eqb d.number n (λ same. apart (sym same))), refl)

  -- so are all
  none_touched : (n : ℕ) → n ≢ d.number
      → AllByRecursion (IsUntouched hit (λ (y : Handle). names_number y.consumer n) change) w.handles
  none_touched n apart =
      All-from_contained (IsUntouched hit (λ (y : Handle). names_number y.consumer n) change) w.handles
      (λ x x_here. not_touched n apart x)

  -- a handle with its consumer, or dead
  has_its : (x : Handle) → Contains w.handles x → (b : Bool) → hit x ≡ b
      → HasItsConsumer (remove_consumer t d.number) (if hit x then change x else x)
  has_its x x_here true e =
      let one : x ≡ h = one_holder w firm h x d.number here x_here names (names_some x.consumer d.number e) in
      let is_dead : x.dead ≡ true = ap (λ (y : Handle). y.dead) one ∙ dead in
      rw e is_dead
  has_its x x_here false e =
      rw e (by x.consumer refl (All-contains (HasItsConsumer t) w.handles x firm.handles.handles x_here))
    where
      -- by the consumer
      by : (o : Option ℕ) → x.consumer ≡ o
          → MatchOption o (x.dead ≡ true) (λ c. IsSomeAnd (consumer_at t c) (λ y. y.geom ≡ 1))
          → MatchOption o (x.dead ≡ true)
          (λ c. IsSomeAnd (consumer_at (remove_consumer t d.number) c) (λ y. y.geom ≡ 1))
      by None is fact = fact
      by (Some n) is fact =
          let apart : n ≢ d.number =
          (λ same. let hits : hit x ≡ true = rw is (eq-eqb n d.number same) in
          let no : true ≡ false = sym hits ∙ e in absurd (let bad : ⊥ = cc in bad)) in
          subst (λ o. IsSomeAnd o (λ (y : Consumer). y.geom ≡ 1))
          (sym (removed-consumer.others t d.number n apart)) fact

  -- the handle of a line has its consumer
  line_kept : (handle source : ℕ) → source ≢ d.number
      → IsSomeAnd (find (λ x. x.number == handle) w.handles) (λ x. x.consumer ≡ Some source)
      → IsSomeAnd (find (λ x. x.number == handle) after) (λ x. x.consumer ≡ Some source)
  line_kept handle source apart fact =
      let x = found-with (find (λ (x : Handle). x.number == handle) w.handles)
      (λ x. x.consumer ≡ Some source) fact in
      let missed : hit x.item ≡ false =
      subst (λ o. names_number o d.number ≡ false) (sym x.fact) (ne_eqb source d.number apart) in
      let same : changed hit change x.item ≡ x.item = rw missed refl in
      some-with (find (λ (x : Handle). x.number == handle) after) (λ x. x.consumer ≡ Some source)
      (changed hit change x.item)
      (find-changed hit change (λ (x : Handle). x.number == handle) (λ x e. refl) w.handles
      ∙ ap (option_map (changed hit change)) x.is)
      (ap (λ (y : Handle). y.consumer) same ∙ x.fact)

  -- so the handles are released
  pub after_released : AreReleased w d.number after
  after_released = record {
    numbers = numbers-changed (λ (x : Handle). x.number) hit change (λ x e. refl) w.next_handle w.handles
        firm.handles.numbers;
    found = λ n apart. find-untouched hit (λ (x : Handle). names_number x.consumer n) change w.handles
        (none_touched n apart);
    count = λ n apart.
        sym (length-filter (λ (x : Handle). names_number x.consumer n) after)
        ∙ ap (λ (ys : List Handle). length ys)
        (filter-untouched hit (λ (x : Handle). names_number x.consumer n) change w.handles (none_touched n apart))
        ∙ length-filter (λ (x : Handle). names_number x.consumer n) w.handles;
    each = All-map (HasItsConsumer (remove_consumer t d.number)) (λ x. if hit x then change x else x) w.handles
        (all_of (λ x. HasItsConsumer (remove_consumer t d.number) (if hit x then change x else x)) w.handles
        (λ x x_here. has_its x x_here (hit x) refl));
    of_line = line_kept;
  }

  -- the world then
  reaped : Contains t.consumers d → d.geom ≡ 1 → is_active w d.number ≡ false → Firm (reap_handle w (Some d.number))
  reaped d_here dev idle =
      announces_keep.closed w (reap_consumer w d.number)
      (without-firm w firm d d_here dev after after_released idle)

-- what isn't active by its test is idle
pub idle_by : (w : World) (o : Option ℕ) (n : ℕ) → o ≡ Some n
    → option_map_or (λ c. not (is_active w c)) o false ≡ true
    → is_active w n ≡ false
idle_by w o n is passes = not-true (is_active w n) (rw is at passes)

-- by the consumer of the handle
reap_by : (w : World) (h : Handle) (o : Option ℕ) → h.consumer ≡ o → reap_work w ≡ Some h → Firm w
    → Firm (reap_handle w h.consumer)
reap_by w h None is work firm = rw is firm
reap_by w h (Some n) is work firm =
    let here : Contains w.handles h = find-Contains (is_to_reap w) w.handles h work in
    let passes : is_to_reap w h ≡ true = find_passes (is_to_reap w) w.handles h work in
    let parts = and_parts h.dead (option_map_or (λ c. not (is_active w c)) h.consumer false) passes in
    let c = has_dev w firm h n here is in
    rw c.names (reaped w firm h here parts.0 c.consumer c.names c.here c.dev
    (idle_by w h.consumer c.consumer.number c.names parts.1))

-- a reap
reap-firm : (w : World) (h : Handle) → reap_work w ≡ Some h → Firm w → Firm (reap w h)
unfolding reap
reap-firm w h work firm = reap_by w h h.consumer refl work firm

-- what is found to reap
found-firm : (w : World) (o : Option Handle) → reap_work w ≡ o → Firm w
    → Firm (world_after w (option_map_or (λ h. Ok (reap w h, outcomes.Ran)) o (Err refusals.NothingToReap)))
found-firm w None is firm = firm
found-firm w (Some h) is firm = reap-firm w h is firm

-- the step of a reap
step-firm : (w : World) (seat : ℕ) → Firm w → Firm (world_by w seat steps.Reap)
unfolding step reap_next
step-firm w seat firm = found-firm w (reap_work w) refl firm

-- reaps keep a firm mesh firm
pub reaps_stay_firm : ReapsStayFirm
reaps_stay_firm = record { reaped = reap-firm; step = step-firm }
