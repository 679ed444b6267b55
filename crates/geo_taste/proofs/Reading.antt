-- The taste's consumer, and its read that is granted and given back.
use Rattle.std.specs.Prelude.{◌≡◌, ℕ, zero, suc, ◌+◌, ◌==◌, false, not, ◌&&◌, List, [], ◌∷◌, length, map, Some, true, Contains, if◌then◌else◌}
use Rattle.std.proofs.Common.{refl, ◌∙◌, ap, sym, subst, rules}
use Rattle.std.proofs.Math.Bool.{and-not_self, not-and_self}
use Rattle.geo_base.specs.declared.request.Counts.{Counts}
use Rattle.geo_base.specs.declared.kind.Kind.{Kind}
use Rattle.geo_base.specs.declared.kind.Kind.TheVariants as kinds
use Rattle.geo_model.specs.Topology.{Topology, Provider, Consumer, attached_to, consumer_at}
use Rattle.geo_model.specs.Demand.{no_counts, sum_counts, want_of_kind, want_given, have_within, have, one_read, want}
use Rattle.geo_access.specs.Access.{leaves_zero, comes_to_zero, granted_by, counted_view, granted_view, released_view, place_of, IsQuiet, IsHolder, IsCounted}
use Rattle.std.proofs.lemmas.Bool.{eqb-true}
use Rattle.geo_model.specs.Opens.{grant_refusal, with_grant}
use Rattle.geo_model.specs.World.{Config, Taste, is_read_out}
use Rattle.geo_model.specs.Sound.{IsTasting}
use Rattle.geo_slots.specs.Slots.{value_at}
use Rattle.geo_mesh.specs.Topo.{TopoView}
use Rattle.geo_mesh.specs.Graph.{IsSoundGraph}
use Rattle.geo_laws_graph.proofs.Members.{Contains-here}
use Rattle.geo_laws_counts.specs.CountWords.{HoldsGrants}
use Rattle.geo_laws_counts.proofs.LimitFacts.{of_filter}
use Rattle.geo_laws_counts.proofs.Openers.{wants_grant}
use Rattle.geo_access.proofs.Decided.{item_at}
use Rattle.geo_taste.specs.Taster.{held_by_taste, with_granted, IsTasteOf, IsSettled}
use Rattle.geo_taste.proofs.Coming.{taste_holds}
use Rattle.geo_access.proofs.Clearing.{rows-same_on}
use Rattle.geo_laws_graph.proofs.Lists.{found_itself}

-- Grants that differ in reads and exclusive counts alone leave all write counts as they are

-- the write counts of sums are the same where those of the parts are
sum_writes : {X : Type 0} (f g : X → Counts) (xs : List X) → ((x : X) → (f x).w ≡ (g x).w)
    → (sum_counts (map f xs)).w ≡ (sum_counts (map g xs)).w
sum_writes f g [] same = refl
sum_writes f g (x ∷ xs) same = search (rules, ap (λ n. (g x).w + n) (sum_writes f g xs same))

-- so what a consumer of any class wants to write
want_writes : (kind : Kind) (f g : Provider → Counts) (ys : List Provider) (a b : Counts)
    → ((y : Provider) → (f y).w ≡ (g y).w) → a.w ≡ b.w
    → (want_of_kind kind (map f ys) a).w ≡ (want_of_kind kind (map g ys) b).w
want_writes kinds.Dev f g ys a b same grants = grants
want_writes kinds.Taste f g ys a b same grants = grants
want_writes kinds.Disk f g ys a b same grants = refl
want_writes _ f g ys a b same grants = ap (λ n. n + 0) (sum_writes f g ys same)

module _ {C : Type 0} (t : Topology C) (granted other : ℕ → Counts) (same : (n : ℕ) → (granted n).w ≡ (other n).w) where
  -- a consumer wants to write as much, where providers have as much
  given_writes : (H K : ℕ → Counts) → ((n : ℕ) → (H n).w ≡ (K n).w) → (c : Consumer)
      → (want_given granted H t c).w ≡ (want_given other K t c).w
  given_writes H K agree c = search (rules, want_writes)

  -- the write counts over so many levels
  within_writes : (levels p : ℕ) → (have_within granted levels t p).w ≡ (have_within other levels t p).w
  within_writes zero p = refl
  within_writes (suc levels) p =
      sum_writes (want_given granted (have_within granted levels t) t) (want_given other (have_within other levels t) t)
      (attached_to t p)
      (given_writes (have_within granted levels t) (have_within other levels t) (within_writes levels))

  -- the write counts
  pub have_writes : (p : ℕ) → (have granted t p).w ≡ (have other t p).w
  have_writes = within_writes (length t.geoms)

-- a write count that stays leaves no zero
pub leaves_none : (a b : Counts) → a.w ≡ b.w → leaves_zero a b ≡ false
leaves_none a b same = ap (λ n. (n == 0) && not (b.w == 0)) same ∙ and-not_self (b.w == 0)

-- nor does it come to one
pub comes_none : (a b : Counts) → a.w ≡ b.w → comes_to_zero a b ≡ false
comes_none a b same = ap (λ n. not (n == 0) && (b.w == 0)) same ∙ not-and_self (b.w == 0)

-- The consumer

module _ (t : Topology Config) (sound : IsSoundGraph t) (s : Taste) (is : IsTasting t s) where
  -- it stands, and is one of TASTE
  taster_stands : Contains t.consumers is.consumer × ((is.consumer.geom == 2) ≡ true)
  taster_stands =
      of_filter (λ (x : Consumer). x.geom == 2) t.consumers is.consumer
      (subst (λ xs. Contains xs is.consumer) (sym is.alone) (Contains-here is.consumer []))

  -- it is found
  pub taster_found : consumer_at t s.consumer ≡ Some is.consumer
  taster_found =
      subst (λ n. consumer_at t n ≡ Some is.consumer) is.number
      (found_itself (λ (x : Consumer). x.number) t.next_consumer t.consumers is.consumer sound.orderly.order.consumers
      taster_stands.0)

  -- its geom holds grants
  taster_granted : HoldsGrants t is.consumer.geom
  taster_granted = subst (HoldsGrants t) (sym (eqb-true is.consumer.geom 2 taster_stands.1)) (taste_holds t sound)

  -- it holds what it is granted
  pub taster_holds : IsHolder t s.consumer
  taster_holds = search (rules, taster_found, taster_granted)

  -- at the tasted provider
  pub taster_place : place_of t s.consumer ≡ s.provider
  taster_place = search (rules, taster_found)

-- The read

-- what a taste holds writes nothing
pub held_reads : (s : Taste) → (held_by_taste s).w ≡ 0
held_reads s = search rules

-- while its read isn't out it holds nothing, and while it is out, one read
pub held_idle : (s : Taste) → is_read_out s.asked ≡ false → held_by_taste s ≡ no_counts
held_idle s idle = ap (λ b. if b then one_read else no_counts) idle

module _ {C : Type 0} (t : TopoView C) (c : ℕ) where
  -- a consumer whose stored counts write nothing is granted nothing to write
  pub granted_reads : (a : Counts) → value_at t.wants c ≡ Some a → a.w ≡ 0 → (granted_by t c).w ≡ 0
  granted_reads a stored reads = search rules

  module _ (quiet : IsQuiet t) (reads : (granted_by t c).w ≡ 0) (add : Counts) (less : add.w ≡ 0) where
    -- with another grant that writes nothing
    abbrev after : ℕ → Counts
    after = with_grant (granted_by t) c add

    -- as much is written
    same_writes : (n : ℕ) → (granted_by t n).w ≡ (after n).w
    same_writes n = search rules

    -- and no note is set by it
    pub granted_quietly : granted_view t c add ≡ with_granted t c add
    granted_quietly =
        ap (λ rows. record (counted_view t after) { risen = rows })
        (rows-same_on (λ (p : Provider). p.number)
        (λ n. leaves_zero (have (granted_by t) t.topology n) (have after t.topology n)) (λ n. false)
        t.topology.providers
        (λ p there. leaves_none (have (granted_by t) t.topology p.number) (have after t.topology p.number)
        (have_writes t.topology (granted_by t) after same_writes p.number))
        ∙ sym quiet.risen)

  pub released_quietly : IsQuiet t → (granted_by t c).w ≡ 0 → released_view t c ≡ with_granted t c no_counts
  released_quietly quiet reads =
      let none_after : ℕ → Counts = with_grant (granted_by t) c no_counts in
      ap (λ rows. record (counted_view t none_after) { fallen = rows })
      (rows-same_on (λ (p : Provider). p.number)
      (λ n. comes_to_zero (have (granted_by t) t.topology n) (have none_after t.topology n)) (λ n. false)
      t.topology.providers
      (λ p there. comes_none (have (granted_by t) t.topology p.number) (have none_after t.topology p.number)
      (have_writes t.topology (granted_by t) none_after (same_writes quiet reads no_counts refl) p.number))
      ∙ sym quiet.fallen)

-- so the taste's consumer is granted nothing to write
pub taster_reads : (t : TopoView Config) (s : Taste) → IsTasteOf t s → (granted_by t s.consumer).w ≡ 0
taster_reads t s is = granted_reads t s.consumer (held_by_taste s) is.holds (held_reads s)

-- other grants, by which the counts are kept, leave the mesh settled
pub settled_granted : {C : Type 0} (t u : TopoView C) (c : ℕ) (add : Counts) → u ≡ with_granted t c add → IsCounted u
    → IsSettled t → IsSettled u
settled_granted {C} t u c add is counted settled = search rules

-- what refuses the taste's read, seen from its consumer
pub refusal_told : (t : TopoView Config) (s : Taste) (cons : ℕ) → cons ≡ s.consumer
    → place_of t.topology cons ≡ s.provider
    → grant_refusal (with_grant (granted_by t) s.consumer one_read) t.topology s.provider
    ≡ grant_refusal (with_grant (granted_by t) cons one_read) t.topology (place_of t.topology cons)
refusal_told t s cons number place = search rules

-- With another grant

module _ (t : TopoView Config) (sound : IsSoundGraph t.topology) (s : Taste) (is : IsTasteOf t s) (add : Counts) where
  -- the grants after it
  abbrev given : ℕ → Counts
  given = with_grant (granted_by t) s.consumer add

  -- the taste's consumer wants what it is granted
  wants_given : want given t.topology is.tasting.consumer ≡ add
  wants_given =
      search (rules, wants_grant given t.topology is.tasting.consumer (taster_granted t.topology sound s is.tasting))

  -- so it is the consumer of a taste of which it is
  pub given_tasting : (u : TopoView Config) → u ≡ with_granted t s.consumer add → (z : Taste)
      → z.consumer ≡ s.consumer → z.provider ≡ s.provider → held_by_taste z ≡ add → IsTasteOf u z
  given_tasting u granted z consumer provider held =
      search (
        rules,
        item_at (λ (x : Consumer). x.number) (want given t.topology) s.consumer t.topology.consumers is.tasting.consumer
            (taster_found t.topology sound s is.tasting),
        ap (λ a. Some a) (wants_given ∙ sym held),
        wants_given,
        held,
      )
