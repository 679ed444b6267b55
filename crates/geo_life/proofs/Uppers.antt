-- Walks over the consumers at a provider that aren't DEV's, and why the others don't count.
use Rattle.std.specs.Prelude.{◌≡◌, ◌≢◌, ℕ, ◌==◌, nat_le, Bool, true, false, not, ◌&&◌, List, [], ◌∷◌, map, filter, find, fold, Option, Some, None, Contains, IsSomeAnd}
use Rattle.std.specs.Option.{option_map}
use Rattle.std.proofs.Common.{refl, sym, ap, ◌∙◌, subst, rules}
use Rattle.std.proofs.lemmas.Bool.{eqb-true, eq-eqb, not-false}
use Rattle.std.proofs.lemmas.List.Elements.{All-contains}
use Rattle.geo_base.specs.declared.request.Counts.{Counts}
use Rattle.geo_base.specs.declared.kind.Kind.TheVariants as kinds
use Rattle.geo_model.specs.Words.{names_number, change_where}
use Rattle.geo_model.specs.Topology.{Topology, Geom, Consumer, geom_at, consumer_at, providers_of, consumers_of, attached_to, set_withering, set_marks}
use Rattle.geo_model.specs.Events.{QueuedTopology, orphan_provider, wither, wither_unless_withering, is_to_spoil, orphan_consumer, orphan, outgrow_consumer}
use Rattle.geo_mesh.specs.declared.records.ConsRec.{ConsRec}
use Rattle.geo_mesh.specs.Cells.{consumer_seen}
use Rattle.geo_mesh.specs.Graph.{IsSoundGraph}
use Rattle.geo_mesh.proofs.IndexLemmas.{filter-both}
use Rattle.geo_laws_graph.specs.LookupLaws.{WitheringIsFound, MarksAreFound}
use Rattle.geo_laws_graph.proofs.Found.{withering-found, marks-found}
use Rattle.geo_laws_graph.proofs.Lists.{filter-changed}
use Rattle.geo_laws_graph.proofs.Members.{Contains-there, Contains-filter, filter-Contains}
use Rattle.geo_access.specs.Views.{IsNextConsumer}
use Rattle.geo_access.proofs.Walking.{consumer_next, consumer_some}
use Rattle.geo_life.specs.Life.{consumers_above, IsDevMade, AreHandlesUnmarked}

module _ {C : Type 0} (t : Topology C) (p : ℕ) where
  -- whether a consumer is at the provider and isn't DEV's
  abbrev is_above : Consumer → Bool
  is_above c = names_number c.provider p && not (c.geom == 1)

  -- these are the ones above
  above_is : filter is_above t.consumers ≡ consumers_above t p
  above_is =
      filter-both (λ (c : Consumer). names_number c.provider p) (λ (c : Consumer). not (c.geom == 1)) t.consumers

  module _ (sound : IsSoundGraph t) (from_number n : ℕ)
      (first : option_map (λ (y : Consumer). y.number) (find (λ y. nat_le from_number y.number) (consumers_above t p))
      ≡ Some n) where
    -- the same by the one test
    first_is : option_map (λ (y : Consumer). y.number)
        (find (λ y. nat_le from_number y.number) (filter is_above t.consumers)) ≡ Some n
    first_is = search (rules, above_is)

    -- the next one of a walk, as the look-up gives it
    pub above_next : (x : ConsRec) → consumer_at t n ≡ Some (consumer_seen n x)
        → IsNextConsumer t (consumers_above t p) from_number n x
    above_next x found = search (rules, above_is, consumer_next t sound is_above from_number n x first_is found)

    -- and there is one
    pub above_some : consumer_at t n ≡ None → ⊥
    above_some none = consumer_some t sound is_above from_number n first_is none

module _ {X : Type 0} (keep test : X → Bool) where
  -- where none of those that go passes, those that pass are the same
  pub filter_spared : (xs : List X) → ((x : X) → Contains xs x → keep x ≡ false → test x ≡ false)
      → filter test (filter keep xs) ≡ filter test xs
  filter_spared [] so = refl
  filter_spared (x ∷ xs) so = search (rules, filter_spared xs (λ y there. so y (Contains-there x y xs there)))

module _ {S X : Type 0} (keep : X → Bool) (f : S → X → S) (Fine : S → Type 0)
    (stays : (s : S) (x : X) → Fine s → Fine (f s x))
    (idle : (s : S) (x : X) → Fine s → keep x ≡ false → f s x ≡ s) where
  -- one item more of the list
  fold_step : (s : S) (x : X) (xs : List X) (b : Bool) → keep x ≡ b → Fine s
      → fold f (f s x) (filter keep xs) ≡ fold f (f s x) xs
      → fold f s (filter keep xs) ≡ fold f s xs
      → fold f s (filter keep (x ∷ xs)) ≡ fold f s (x ∷ xs)
  fold_step s x xs true e fine done idly = rw e done
  fold_step s x xs false e fine done idly =
      rw e (idly ∙ sym (ap (λ r. fold f r xs) (idle s x fine e)))

  -- where those that go change nothing, all comes to the same without them
  pub fold_spared : (s : S) → Fine s → (xs : List X) → fold f s (filter keep xs) ≡ fold f s xs
  fold_spared s fine [] = refl
  fold_spared s fine (x ∷ xs) =
      fold_step s x xs (keep x) refl fine (fold_spared (f s x) (stays s x fine) xs) (fold_spared s fine xs)

-- What geom 1 is stays where geoms wither
module _ {C : Type 0} (Is : Geom C → Type 0) (same : (x : Geom C) → Is x → Is (record x { withering = true })) where
  -- geom 1 is one of these
  abbrev pub DevIs : Topology C → Type 0
  DevIs t = IsSomeAnd (geom_at t 1) Is

  -- through one geom that is noted to wither
  dev_withering : (t : Topology C) (g : ℕ) → DevIs t → DevIs (set_withering t g)
  dev_withering t g dev = by (geom_at t 1) refl dev (g == 1) refl
    where
      by : (o : Option (Geom C)) → geom_at t 1 ≡ o → IsSomeAnd o Is → (b : Bool) → (g == 1) ≡ b
          → DevIs (set_withering t g)
      by None found never b e = absurd never
      by (Some x) found its true e =
          let is : g ≡ 1 = eqb-true g 1 e in
          let here : geom_at (set_withering t g) 1 ≡ Some (record x { withering = true }) =
          ap (λ n. geom_at (set_withering t n) 1) is ∙ WitheringIsFound.here withering-found t 1 x found in
          subst (λ o. IsSomeAnd o Is) (sym here) (same x its)
      by (Some x) found its false e =
          let apart : 1 ≢ g = search rules in
          subst (λ o. IsSomeAnd o Is) (sym (WitheringIsFound.others withering-found t g 1 apart ∙ found)) its

  -- through providers that are orphaned
  dev_orphans : (q : QueuedTopology C) (ps : List ℕ) → DevIs q.topology → DevIs (fold orphan_provider q ps).topology
  dev_orphans q [] dev = dev
  dev_orphans q (p ∷ ps) dev = dev_orphans (orphan_provider q p) ps dev

  -- through a geom that withers
  pub dev_wither : (q : QueuedTopology C) (g : ℕ) → DevIs q.topology → DevIs (wither q g).topology
  dev_wither q g dev =
      dev_orphans (record q { topology = set_withering q.topology g })
      (map (λ x. x.number) (filter (λ x. not x.errored) (providers_of q.topology g))) (dev_withering q.topology g dev)

  -- unless it does so already
  pub dev_unless : (q : QueuedTopology C) (g : ℕ) → DevIs q.topology → DevIs (wither_unless_withering q g).topology
  dev_unless q g dev = search (rules, dev_wither q g dev)

-- a consumer that isn't above is of geom 1
of_dev : (c : Consumer) → not (c.geom == 1) ≡ false → c.geom ≡ 1
of_dev c e = eqb-true c.geom 1 (not-false (c.geom == 1) e)

module _ {C : Type 0} where
  -- An orphan

  -- geom 1 is DEV
  abbrev IsDev : Geom C → Type 0
  IsDev x = x.kind ≡ kinds.Dev

  abbrev HasDev : QueuedTopology C → Type 0
  HasDev q = DevIs IsDev (λ x is. is) q.topology

  -- which hear nothing
  orphan_stays : (q : QueuedTopology C) (c : Consumer) → HasDev q → HasDev (orphan_consumer q c)
  orphan_stays q c dev = search (rules, dev_unless IsDev (λ x is. is) q c.geom dev)

  orphan_idle : (q : QueuedTopology C) (c : Consumer) → HasDev q → not (c.geom == 1) ≡ false
      → orphan_consumer q c ≡ q
  orphan_idle q c dev e = search rules

  -- so the consumers above are enough
  pub orphan_above : (q : QueuedTopology C) (p : ℕ) → IsSoundGraph q.topology
      → fold orphan_consumer q (consumers_above q.topology p) ≡ orphan q p
  orphan_above q p sound =
      fold_spared (λ (c : Consumer). not (c.geom == 1)) orphan_consumer HasDev orphan_stays orphan_idle q
      sound.orderly.first.dev (attached_to q.topology p)

  -- A growth

  -- geom 1 was made by hand
  abbrev IsMade : Geom C → Type 0
  IsMade x = x.automatic ≡ false

  abbrev HasMadeDev : QueuedTopology C → Type 0
  HasMadeDev q = DevIs IsMade (λ x is. is) q.topology

  outgrow_stays : (granted : ℕ → Counts) (q : QueuedTopology C) (c : Consumer) → HasMadeDev q
      → HasMadeDev (outgrow_consumer granted q c)
  outgrow_stays granted q c dev = search (rules, dev_wither IsMade (λ x is. is) q c.geom dev)

  outgrow_idle : (granted : ℕ → Counts) (q : QueuedTopology C) (c : Consumer) → HasMadeDev q
      → not (c.geom == 1) ≡ false
      → outgrow_consumer granted q c ≡ q
  outgrow_idle granted q c dev e = search rules

  -- so the consumers above are enough
  pub outgrow_above : (granted : ℕ → Counts) (q : QueuedTopology C) (p : ℕ) → IsDevMade q.topology
      → fold (outgrow_consumer granted) q (consumers_above q.topology p)
      ≡ fold (outgrow_consumer granted) q (attached_to q.topology p)
  outgrow_above granted q p made =
      fold_spared (λ (c : Consumer). not (c.geom == 1)) (outgrow_consumer granted) HasMadeDev (outgrow_stays granted)
      (outgrow_idle granted) q made (attached_to q.topology p)

  -- A spoil

  -- those above are enough where no handle's consumer is marked
  pub spoil_above : (t : Topology C) (p : ℕ) → AreHandlesUnmarked t
      → filter (λ (c : Consumer). c.spoiled) (consumers_above t p) ≡ filter (λ c. c.spoiled) (attached_to t p)
  spoil_above t p unmarked =
      filter_spared (λ (c : Consumer). not (c.geom == 1)) (λ (c : Consumer). c.spoiled) (attached_to t p)
      (λ c there e.
      All-contains (λ (x : Consumer). x.spoiled ≡ false) (consumers_of t 1) c unmarked
      (Contains-filter (λ (x : Consumer). x.geom == 1) t.consumers c
      (filter-Contains (λ (x : Consumer). names_number x.provider p) t.consumers c there).0
      (eq-eqb c.geom 1 (of_dev c e))))

  -- marks leave which consumers are above
  pub above_marked : (t : Topology C) (test : Consumer → Bool) (mark : Bool) (p : ℕ)
      → consumers_above (set_marks t test mark) p
      ≡ change_where test (λ x. record x { spoiled = mark }) (consumers_above t p)
  above_marked t test mark p =
      ap (filter (λ (c : Consumer). not (c.geom == 1))) (MarksAreFound.attached marks-found t test mark p)
      ∙ filter-changed test (λ (x : Consumer). record x { spoiled = mark }) (λ (c : Consumer). not (c.geom == 1))
      (λ x hit. refl) (attached_to t p)

  -- A mark

  -- a consumer that has to go is of another geom than DEV
  pub goes_above : (granted : ℕ → Counts) (t : Topology C) (p : ℕ) → IsSoundGraph t → IsDevMade t → (c : Consumer)
      → is_to_spoil granted t p c ≡ true
      → not (c.geom == 1) ≡ true
  goes_above granted t p sound made c goes = search rules
