-- An append keeps all that bios use: the concat that grows isn't below any of them.
use Rattle.std.specs.Prelude.{◌≡◌, ℕ, ◌+◌, ◌==◌, true, false, List, [], ◌∷◌, length, Option, Some, None, Contains, option_and_then}
use Rattle.std.specs.List.{list_any}
use Rattle.std.specs.Option.{option_map_or}
use Rattle.std.proofs.Common.{inr, refl, sym, ◌∙◌, ap, subst}
use Rattle.std.proofs.lemmas.Bool.{eqb-true, eq-eqb, or_parts}
use Rattle.geo_model.proofs.RefusalLemmas.{none_refused}
use Rattle.geo_base.specs.declared.errno.Errno.{Errno}
use Rattle.geo_base.specs.declared.errno.Errno.TheVariants.{EBUSY, EINVAL}
use Rattle.geo_model.specs.Words.{first_error}
use Rattle.geo_model.specs.Topology.{Topology, Geom, Provider, Consumer, geom_at, provider_at, add_consumer, set_config}
use Rattle.geo_model.specs.Demand.{risen}
use Rattle.geo_model.specs.Opens.{below, is_below}
use Rattle.geo_model.specs.World.{World, Config, Bio, Taste, granted_in}
use Rattle.geo_model.specs.WorldEvents.{queued_of}
use Rattle.geo_model.specs.Acceptance.{add_place}
use Rattle.geo_model.specs.Place.{components}
use Rattle.geo_model.specs.GeomCommands.{found_provider}
use Rattle.geo_model.specs.Append.{Growing, growing_concat, is_invalid_append, is_growth_busy, append_tests, component_refusal, with_component, appended, append_joined, append_tested, do_append}
use Rattle.geo_model.specs.Fitting.{Firm}
use Rattle.geo_laws_graph.proofs.Members.{find-Contains}
use Rattle.geo_laws_graph.proofs.Lists.{found_itself}
use Rattle.geo_laws_graph.proofs.Numbered.{any-contained, number_found}
use Rattle.geo_laws_graph.proofs.Living.{sound-order}
use Rattle.geo_laws_counts.proofs.Reach.{below_self, below_closed}
use Rattle.geo_laws_life.proofs.Found.{some-with, one-found}
use Rattle.geo_laws_making.proofs.Concats.{IsStanding, growing_stands}
use Rattle.geo_laws_making.proofs.Rises.{own_only}
use Rattle.geo_laws_maps.specs.Ways.{IsNextUnder, IsWay, Used, GoesDown, LeadsInto}
use Rattle.geo_laws_maps.proofs.Opened.{used-down, next-inside}
use Rattle.geo_laws_steps.specs.Heirs.{Inherits}
use Rattle.geo_laws_steps.proofs.Heirs.{inherits-same, heir-consumer, heir-config, heir-size}
use Rattle.geo_laws_steps.proofs.HeirQueues.{comes-risen}
use Rattle.geo_laws_steps.proofs.HeirJudges.{follows-same}
use Rattle.geo_laws_steps.proofs.HeirCommands.{follows-number}
use Rattle.geo_laws_steps.proofs.Kept.{used-kept}
use Rattle.geo_laws_steps.proofs.Followed.{Keeps, follows-keep}

-- What is reached downwards by components is reached downwards by consumers

module _ (w : World) (firm : Firm w) (top : ℕ) where
  -- the graph
  abbrev t : Topology Config
  t = w.topology

  -- one provider further
  next_below : (p q : ℕ) → Used w p → Contains (below t top) p → IsNextUnder t p q → Contains (below t top) q
  next_below p q used reached next =
      let down : GoesDown t (Used w) p = used-down w firm p used in
      let x : down.provider ≡ next.provider =
      one-found (provider_at t p) down.provider next.provider down.found next.found in
      let same : down.geom ≡ next.geom =
      one-found (geom_at t next.provider.geom) down.geom next.geom
      (subst (λ (z : Provider). geom_at t z.geom ≡ Some down.geom) x down.of) next.of in
      let leads : LeadsInto t (Used w) down.geom next.component =
      down.below next.component
      (subst (λ (z : Geom Config). Contains (components z.config) next.component) (sym same) next.is) in
      let attached : leads.consumer.provider ≡ Some q =
      sym (ap (option_and_then (λ (z : Consumer). z.provider)) leads.found) ∙ next.attached in
      let number : down.geom.number ≡ down.provider.geom =
      number_found (λ (z : Geom Config). z.number) t.geoms down.provider.geom down.geom down.of in
      below_closed t firm.graph.ranks.ranked top p q leads.consumer
      (find-Contains (λ (z : Consumer). z.number == next.component) t.consumers leads.consumer leads.found) attached
      (some-with (provider_at t p) (λ z. z.geom ≡ leads.consumer.geom) down.provider down.found
      (sym (leads.own ∙ number))) reached

  -- so along a way
  way_below : (p : ℕ) (over : List ℕ) (q : ℕ) → Used w p → Contains (below t top) p → IsWay t p over q
      → Contains (below t top) q
  way_below p [] q used reached way = subst (Contains (below t top)) way reached
  way_below p (n ∷ over) q used reached way =
      way_below n over q (next-inside t (Used w) (used-down w firm) p n used way.0)
      (next_below p n used reached way.0)
      way.1

-- The concat that grows

module _ (w : World) (x : Growing) (q : Provider) (firm : Firm w) (is : IsStanding w.topology x)
    (busy : is_growth_busy w x.provider.number ≡ false) where
  -- what is told of bios
  bios_away : list_any (λ (b : Bio). is_below w.topology x.provider.number b.target) w.bios ≡ false
  bios_away =
      (or_parts (list_any (λ (b : Bio). is_below w.topology x.provider.number b.target) w.bios)
      (option_map_or (λ (s : Taste). is_below w.topology x.provider.number s.provider) w.taste false) busy).0

  -- no used provider is of its geom
  grows_elsewhere : (p : ℕ) (y : Provider) → Used w p → provider_at w.topology p ≡ Some y
      → y.geom ≡ x.geom.number → ⊥
  grows_elsewhere p y used found own =
      let one : y ≡ x.provider = own_only w x firm is y
      (find-Contains (λ (z : Provider). z.number == p) w.topology.providers y found) own in
      let number : p ≡ x.provider.number =
      sym (number_found (λ (z : Provider). z.number) w.topology.providers p y found)
      ∙ ap (λ (z : Provider). z.number) one in
      let top : ℕ = used.bio.target in
      let reached : Contains (below w.topology top) p =
      way_below w firm top top used.under.over p
      (record { bio = used.bio; stands = used.stands; under = record { over = []; way = refl } })
      (below_self (length w.topology.geoms) w.topology top) used.under.way in
      let told : is_below w.topology x.provider.number top ≡ true =
      any-contained (λ z. z == x.provider.number) (below w.topology top) p reached
      (eq-eqb p x.provider.number number) in
      let some : list_any (λ (b : Bio). is_below w.topology x.provider.number b.target) w.bios ≡ true =
      any-contained (λ (b : Bio). is_below w.topology x.provider.number b.target) w.bios used.bio used.stands told in
      let no : false ≡ true = sym bios_away ∙ some in
      cc

  -- the geom that is touched
  abbrev T : ℕ → Type 0
  T n = n ≡ x.geom.number

  -- the graph after comes from the graph before
  append_comes : Inherits T w.topology (appended w x q).topology
  append_comes =
      let t : Topology Config = w.topology in
      let v : World = with_component w x q in
      let config : Config = add_place x.geom.config t.next_consumer q.size in
      let one : Topology Config = add_consumer t x.geom.number (Some q.number) in
      comes-risen T t (granted_in v) (risen (granted_in w) t (granted_in v) v.topology) (queued_of v)
      (heir-size T t (set_config one x.geom.number config)
      (heir-config T t one
      (heir-consumer T t t (inherits-same T t) x.geom.number (Some q.number)) x.geom.number config
      (λ y here e. inr (λ untouched. absurd (untouched (eqb-true y.number x.geom.number e)))))
      x.provider.number (x.provider.size + q.size) (λ y here e.
      let at : provider_at t x.provider.number ≡ Some y =
      subst (λ n. provider_at t n ≡ Some y) (eqb-true y.number x.provider.number e)
      (found_itself (λ (z : Provider). z.number) t.next_provider t.providers y
      (sound-order w firm.graph.numbers).providers here) in
      ap (λ (z : Provider). z.geom) (one-found (provider_at t x.provider.number) y x.provider at is.found.provider)
      ∙ is.found.own))

  -- so it keeps what is used
  append_keeps : Keeps w (appended w x q)
  append_keeps after =
      used-kept w (appended w x q) firm after T append_comes (λ b here. here)
      (λ p y used found touched. grows_elsewhere p y used found touched)

module _ (w : World) (firm : Firm w) (line : ℕ) (x : Growing) (q : Provider) (is : IsStanding w.topology x) where
  -- the consumer is refused, or not
  joined_keeps : is_growth_busy w x.provider.number ≡ false → (e : Option Errno)
      → Keeps w (append_joined w line x q e).0
  joined_keeps busy None = append_keeps w x q firm is busy
  joined_keeps busy (Some e) = follows-keep w _ firm (follows-number w)

  -- the append is refused before, or not
  tested_keeps : (e : Option Errno) → first_error (append_tests w x q) ≡ e → Keeps w (append_tested w line x q e).0
  tested_keeps None none =
      let a = none_refused (is_invalid_append w.topology x q) EINVAL
      ((is_growth_busy w x.provider.number, EBUSY) ∷ []) none in
      let b = none_refused (is_growth_busy w x.provider.number) EBUSY [] a.1 in
      joined_keeps b.0 (component_refusal w x q)
  tested_keeps (Some e) some = follows-keep w w firm (follows-same w)

-- an append, by what is found
append_by : (w : World) (firm : Firm w) (line : ℕ) (o : Option Growing) (r : Option Provider)
    → ((x : Growing) → o ≡ Some x → IsStanding w.topology x) → Keeps w (do_append w line o r).0
append_by w firm line None r stands = follows-keep w w firm (follows-same w)
append_by w firm line (Some x) None stands = follows-keep w w firm (follows-same w)
append_by w firm line (Some x) (Some q) stands =
    tested_keeps w firm line x q (stands x refl) (first_error (append_tests w x q)) refl

-- an append keeps what is used
pub appends-keep : (w : World) (firm : Firm w) (line : ℕ) (name prov : List ℕ)
    → Keeps w (do_append w line (growing_concat w.topology name) (found_provider w prov)).0
appends-keep w firm line name prov =
    append_by w firm line (growing_concat w.topology name) (found_provider w prov)
    (λ x e. growing_stands w.topology name x (sound-order w firm.graph.numbers) e)
