-- What of a geom is free to go, by the rows, after each change of them.
use Rattle.std.specs.Prelude.{◌≡◌, ◌≢◌, ℕ, suc, ◌+◌, ◌<◌, ◌==◌, Bool, true, false, not, ◌&&◌, ◌||◌, List, [], ◌∷◌, ◌++◌, Option, Some, None, IfSome, filter, length, map, IsSome, option_map, if◌then◌else◌, nat_le, MatchOption, find, is_none, is_some}
use Rattle.std.specs.List.{list_any, AllByRecursion}
use Rattle.std.proofs.Common.{refl, sym, ◌∙◌, ap, arith, rules}
use Rattle.std.proofs.lemmas.Bool.{eq-eqb, ne_eqb, le-leb}
use Rattle.geo_model.specs.Words.{names_number}
use Rattle.geo_slots.specs.Slots.{IsRising, value_at, with_value, without, SlotsView}
use Rattle.geo_mesh.specs.declared.records.ProvCell.{ProvCell}
use Rattle.geo_mesh.specs.declared.records.ConsCell.{ConsCell}
use Rattle.geo_mesh.specs.Going.{has_consumer, is_idle_cell, is_free_by, is_consumer_of, is_idle_at, is_lone, is_on, is_provider_of, is_unattached, is_unused, is_bare, is_free, is_free_in, going_rows}
use Rattle.geo_mesh.proofs.RowLemmas.{OnlyValue, only_value, map-bare, map-with_value_same, map-without, value_at-rows_with}
use Rattle.std.specs.Option.{option_map_or}
use Rattle.std.proofs.lemmas.List.{map-append}
use Rattle.geo_model.specs.Demand.{is_zero}
use Rattle.geo_model.specs.Topology.{Geom, Provider, Consumer, providers_of, consumers_of}
use Rattle.geo_mesh.specs.declared.records.GeomCell.{GeomCell}
use Rattle.geo_mesh.specs.declared.tables.Tables.{Tables}
use Rattle.geo_mesh.specs.Rows.{passes, rows_with}
use Rattle.geo_mesh.specs.Marks.{first_marked}
use Rattle.geo_mesh.specs.Notes.{withering_of}
use Rattle.geo_mesh.specs.Topo.{first_geom}
use Rattle.geo_mesh.specs.Cells.{geom_row, provider_row, consumer_row, want_of, active_of, graph, topo_view}
use Rattle.geo_mesh.specs.Ranks.{bare}
use Rattle.geo_model.specs.Graph.{AreNumbers}
use Rattle.geo_family.specs.Family.{first_child}
use Rattle.geo_laws_graph.specs.LookupLaws.{left_from, IsStep, WalksMeetAll}
use Rattle.geo_laws_graph.proofs.Walks.{walks-meet}
use Rattle.geo_mesh.specs.Index.{IsIndexed}
use Rattle.geo_mesh.specs.Whole.{IsWhole, IsWholeBut}
use Rattle.geo_mesh.proofs.IndexLemmas.{offered_first, owned_first}
use Rattle.geo_mesh.proofs.NoteLemmas.{set_mark}
use Rattle.geo_mesh.proofs.RankFirst.{kin-of}

-- Whether any passes

module _ {X : Type 0} where
  -- tests that agree at each item
  pub any-same : (one two : X → Bool) (xs : List X) → AllByRecursion (λ x. one x ≡ two x) xs
      → list_any one xs ≡ list_any two xs
  any-same one two [] same = refl
  any-same one two (x ∷ xs) same = λ i. same.0 i || any-same one two xs same.1 i

  -- among those that are kept
  pub any-filter : (keep test : X → Bool) (xs : List X)
      → list_any test (filter keep xs) ≡ list_any (λ x. keep x && test x) xs
  any-filter keep test [] = refl
  any-filter keep test (x ∷ xs) = grind (arith, any-filter keep test xs)

  -- none is kept just where none passes
  pub none-kept : (test : X → Bool) (xs : List X) → (length (filter test xs) == 0) ≡ not (list_any test xs)
  none-kept test [] = refl
  none-kept test (x ∷ xs) =
      grind (arith, ne_eqb (suc (length (filter test xs))) 0 (λ same. omega (arith, same)), none-kept test xs)

-- what is seen of the items
pub any-map : {X Y : Type 0} (seen : X → Y) (test : Y → Bool) (xs : List X)
    → list_any test (map seen xs) ≡ list_any (λ x. test (seen x)) xs
any-map seen test [] = refl
any-map seen test (x ∷ xs) = ap (λ b. test (seen x) || b) (any-map seen test xs)

module _ {T : Type 0} (test : ℕ × T → Bool) (n : ℕ) where
  -- with another value under a number, that passes where the one before did
  pub any-with_value : (v w : T) → test (n, w) ≡ test (n, v) → (rows : List (ℕ × T)) → OnlyValue n v rows
      → list_any test (with_value rows n w) ≡ list_any test rows
  any-with_value v w so [] is = refl
  any-with_value v w so (row ∷ rows) is = grind (arith, is.0, so, any-with_value v w so rows is.1)

  -- without a number whose value doesn't pass
  pub any-without : (v : T) → test (n, v) ≡ false → (rows : List (ℕ × T)) → OnlyValue n v rows
      → list_any test (without rows n) ≡ list_any test rows
  any-without v so [] is = refl
  any-without v so (row ∷ rows) is = grind (arith, is.0, so, any-without v so rows is.1)

  -- with one row more, which doesn't pass
  pub any-push : (v : T) → test (n, v) ≡ false → (rows : List (ℕ × T))
      → list_any test (rows ++ (n, v) ∷ []) ≡ list_any test rows
  any-push v so [] = rw so refl
  any-push v so (row ∷ rows) = ap (λ b. test row || b) (any-push v so rows)

-- Rows under a number

module _ {T : Type 0} (n : ℕ) (P : T → Type 0) where
  -- what holds of the only value under a number holds of each
  only-each : (v : T) → P v → (rows : List (ℕ × T)) → OnlyValue n v rows
      → AllByRecursion (λ row. (row.0 == n) ≡ true → P row.1) rows
  only-each v holds [] is = tt
  only-each v holds (row ∷ rows) is = search (rules, only-each v holds rows is.1)

  -- where nothing is under the number, anything holds
  none-each : (rows : List (ℕ × T)) → value_at rows n ≡ None
      → AllByRecursion (λ row. (row.0 == n) ≡ true → P row.1) rows
  none-each [] none = tt
  none-each (row ∷ rows) none = search (rules, none-each rows)

  -- so for what may be there
  pub under-each : (low high : ℕ) (rows : List (ℕ × T)) → IsRising low rows high → IfSome (value_at rows n) P
      → AllByRecursion (λ row. (row.0 == n) ≡ true → P row.1) rows
  under-each low high rows rising holds = at (value_at rows n) refl holds where
    at : (o : Option T) → value_at rows n ≡ o → IfSome o P → AllByRecursion (λ row. (row.0 == n) ≡ true → P row.1) rows
    at None e holds = none-each rows e
    at (Some v) e holds = only-each v holds rows (only_value n low high v rows rising e)

module _ {T : Type 0} where
  -- later ones are found behind a smaller number too
  found-behind : (row : ℕ × T) (rows : List (ℕ × T)) (low high : ℕ) (rest : List (ℕ × T)) → IsRising low rest high
      → row.0 < low → AllByRecursion (λ r. value_at rows r.0 ≡ Some r.1) rest
      → AllByRecursion (λ r. value_at (row ∷ rows) r.0 ≡ Some r.1) rest
  found-behind row rows low high [] rising below there = tt
  found-behind row rows low high (r ∷ rest) rising below there =
      search (rules, found-behind row rows (r.0 + 1) high rest rising.1 (omega (arith, rising.0, below)) there.1)

  -- in rising rows each is found at its number
  pub each-found : (low high : ℕ) (rows : List (ℕ × T)) → IsRising low rows high
      → AllByRecursion (λ row. value_at rows row.0 ≡ Some row.1) rows
  each-found low high [] rising = tt
  each-found low high (row ∷ rows) rising = (
    rw (eq-eqb row.0 row.0 refl) refl,
    found-behind row rows (row.0 + 1) high rows rising.1 (omega arith)
        (each-found (row.0 + 1) high rows rising.1),
  )

-- Frees

-- a geom that isn't the one of a number
other : (g n : ℕ) → g ≢ n → (n == g) ≡ false
other g n apart = ne_eqb n g (λ same. apart (sym same))

module _ (ps : List (ℕ × ProvCell)) (cs : List (ℕ × ConsCell)) (g : ℕ) where
  -- the same is free where the tests find the same
  free-same : (qs : List (ℕ × ProvCell)) (ds : List (ℕ × ConsCell))
      → list_any (is_lone ds g) qs ≡ list_any (is_lone cs g) ps
      → list_any (is_idle_at g) ds ≡ list_any (is_idle_at g) cs
      → list_any (is_provider_of g) qs ≡ list_any (is_provider_of g) ps
      → list_any (is_consumer_of g) ds ≡ list_any (is_consumer_of g) cs
      → is_free_by qs ds g ≡ is_free_by ps cs g
  unfolding is_free_by
  free-same qs ds a b c d = λ i. a i || (b i || (not (c i) && not (d i)))

  -- providers are unattached as before, where to each the same is attached
  attached-same : (ds : List (ℕ × ConsCell)) → ((p : ℕ) → has_consumer ds p ≡ has_consumer cs p)
      → list_any (is_lone ds g) ps ≡ list_any (is_lone cs g) ps
  attached-same ds same = λ i. list_any (λ row. (row.1.provider.geom == g) && not (same row.0 i)) ps

  -- another cell of a provider of the same geom
  pub free-provider_cell : (n : ℕ) (v w : ProvCell) → w.provider.geom ≡ v.provider.geom → OnlyValue n v ps
      → is_free_by (with_value ps n w) cs g ≡ is_free_by ps cs g
  free-provider_cell n v w same only =
      free-same (with_value ps n w) cs
      (any-with_value (is_lone cs g) n v w (ap (λ k. (k == g) && not (has_consumer cs n)) same) ps only)
      refl
      (any-with_value (is_provider_of g) n v w (ap (λ k. k == g) same) ps only)
      refl

  -- another cell of a consumer of the same geom, attached as before, if what is idle at this geom stays
  consumer_cell : (n : ℕ) (v w : ConsCell) → w.consumer.geom ≡ v.consumer.geom → w.consumer.prov ≡ v.consumer.prov
      → OnlyValue n v cs
      → ((w.consumer.geom == g) && is_idle_cell w) ≡ ((v.consumer.geom == g) && is_idle_cell v)
      → is_free_by ps (with_value cs n w) g ≡ is_free_by ps cs g
  consumer_cell n v w same stays only idle =
      free-same ps (with_value cs n w)
      (attached-same (with_value cs n w)
      (λ p. any-with_value (is_on p) n v w (ap (λ o. names_number o p) stays) cs only))
      (any-with_value (is_idle_at g) n v w idle cs only)
      refl
      (any-with_value (is_consumer_of g) n v w (ap (λ k. k == g) same) cs only)

  -- one that is idle as before
  pub free-consumer_kept : (n : ℕ) (v w : ConsCell) → w.consumer.geom ≡ v.consumer.geom
      → w.consumer.prov ≡ v.consumer.prov → is_idle_cell w ≡ is_idle_cell v → OnlyValue n v cs
      → is_free_by ps (with_value cs n w) g ≡ is_free_by ps cs g
  free-consumer_kept n v w same stays idle only =
      consumer_cell n v w same stays only (λ i. (same i == g) && idle i)

  -- one of another geom
  pub free-consumer_cell : (n : ℕ) (v w : ConsCell) → w.consumer.geom ≡ v.consumer.geom
      → w.consumer.prov ≡ v.consumer.prov → OnlyValue n v cs → g ≢ v.consumer.geom
      → is_free_by ps (with_value cs n w) g ≡ is_free_by ps cs g
  free-consumer_cell n v w same stays only apart =
      consumer_cell n v w same stays only
      (ap (λ b. b && is_idle_cell w) (ap (λ k. k == g) same ∙ other g v.consumer.geom apart)
      ∙ sym (ap (λ b. b && is_idle_cell v) (other g v.consumer.geom apart)))

  -- providers of other geoms are unattached as before, where to each but one the same is attached
  switched_rows : (ds : List (ℕ × ConsCell)) (p o : ℕ) → g ≢ o
      → ((q : ℕ) → q ≢ p → has_consumer ds q ≡ has_consumer cs q) → (rows : List (ℕ × ProvCell))
      → AllByRecursion (λ row. (row.0 == p) ≡ true → row.1.provider.geom ≡ o) rows
      → AllByRecursion (λ (row : ℕ × ProvCell). ((row.1.provider.geom == g) && not (has_consumer ds row.0))
      ≡ ((row.1.provider.geom == g) && not (has_consumer cs row.0))) rows
  switched_rows ds p o apart same [] owned = tt
  switched_rows ds p o apart same (row ∷ rows) owned = search (rules, switched_rows ds p o apart same rows owned.1)

  -- a consumer that is attached to one provider of another geom, or no more, and else as before
  pub free-switched : (n : ℕ) (v w : ConsCell) (p o : ℕ) → w.consumer.geom ≡ v.consumer.geom
      → is_idle_cell w ≡ is_idle_cell v
      → ((q : ℕ) → q ≢ p → names_number w.consumer.prov q ≡ names_number v.consumer.prov q) → OnlyValue n v cs
      → AllByRecursion (λ row. (row.0 == p) ≡ true → row.1.provider.geom ≡ o) ps → g ≢ o
      → is_free_by ps (with_value cs n w) g ≡ is_free_by ps cs g
  free-switched n v w p o same idle names only owned apart =
      free-same ps (with_value cs n w)
      (any-same (is_lone (with_value cs n w) g) (is_lone cs g) ps
      (switched_rows (with_value cs n w) p o apart
      (λ q elsewhere. any-with_value (is_on q) n v w (names q elsewhere) cs only) ps owned))
      (any-with_value (is_idle_at g) n v w (λ i. (same i == g) && idle i) cs only)
      refl
      (any-with_value (is_consumer_of g) n v w (ap (λ k. k == g) same) cs only)

  -- a new provider of another geom
  pub free-new_provider : (n : ℕ) (v : ProvCell) → g ≢ v.provider.geom
      → is_free_by (ps ++ (n, v) ∷ []) cs g ≡ is_free_by ps cs g
  free-new_provider n v apart =
      free-same (ps ++ (n, v) ∷ []) cs
      (any-push (is_lone cs g) n v (ap (λ b. b && not (has_consumer cs n)) (other g v.provider.geom apart)) ps)
      refl
      (any-push (is_provider_of g) n v (other g v.provider.geom apart) ps)
      refl

  -- a new consumer of another geom, attached to nothing
  pub free-new_consumer : (n : ℕ) (v : ConsCell) → v.consumer.prov ≡ None → g ≢ v.consumer.geom
      → is_free_by ps (cs ++ (n, v) ∷ []) g ≡ is_free_by ps cs g
  free-new_consumer n v free apart =
      free-same ps (cs ++ (n, v) ∷ [])
      (attached-same (cs ++ (n, v) ∷ [])
      (λ p. any-push (is_on p) n v (ap (λ o. names_number o p) free) cs))
      (any-push (is_idle_at g) n v (ap (λ b. b && is_idle_cell v) (other g v.consumer.geom apart)) cs)
      refl
      (any-push (is_consumer_of g) n v (other g v.consumer.geom apart) cs)

  -- without a provider of another geom
  pub free-without_provider : (n : ℕ) (v : ProvCell) → OnlyValue n v ps → g ≢ v.provider.geom
      → is_free_by (without ps n) cs g ≡ is_free_by ps cs g
  free-without_provider n v only apart =
      free-same (without ps n) cs
      (any-without (is_lone cs g) n v
      (ap (λ b. b && not (has_consumer cs n)) (other g v.provider.geom apart)) ps only)
      refl
      (any-without (is_provider_of g) n v (other g v.provider.geom apart) ps only)
      refl

  -- without a consumer of another geom, attached to nothing
  pub free-without_consumer : (n : ℕ) (v : ConsCell) → v.consumer.prov ≡ None → OnlyValue n v cs
      → g ≢ v.consumer.geom → is_free_by ps (without cs n) g ≡ is_free_by ps cs g
  free-without_consumer n v free only apart =
      free-same ps (without cs n)
      (attached-same (without cs n)
      (λ p. any-without (is_on p) n v (ap (λ o. names_number o p) free) cs only))
      (any-without (is_idle_at g) n v (ap (λ b. b && is_idle_cell v) (other g v.consumer.geom apart)) cs only)
      refl
      (any-without (is_consumer_of g) n v (other g v.consumer.geom apart) cs only)

-- The marks of the geoms of which something can go, after each change of the geoms.

module _ {C : Type 0} where
  -- the same is free
  pub going-free : (old new : ℕ → Bool) → ((g : ℕ) → old g ≡ new g) → (rows : List (ℕ × GeomCell C))
      → going_rows old rows ≡ going_rows new rows
  going-free old new same rows = λ i. going_rows (λ g. same g i) rows

  -- another cell of a geom that withers as before
  pub going-cell : (free : ℕ → Bool) (n : ℕ) (v w : GeomCell C) → w.geom.withering ≡ v.geom.withering
      → (rows : List (ℕ × GeomCell C)) → OnlyValue n v rows
      → going_rows free (with_value rows n w) ≡ going_rows free rows
  going-cell free n v w same rows only =
      map-with_value_same (λ (row : ℕ × GeomCell C). (row.0, row.1.geom.withering && free row.0)) n v w
      (ap (λ (b : Bool). (n, b && free n)) same) rows only

  -- free as before, but at a geom that did not wither
  abbrev pub free_once : (ℕ → Bool) → ℕ → GeomCell C → ℕ → Bool
  free_once free n v g = if g == n then v.geom.withering && free n else free g

  -- a geom withers from now on
  pub going-withers : (free : ℕ → Bool) (n : ℕ) (v w : GeomCell C) → w.geom.withering ≡ true
      → (rows : List (ℕ × GeomCell C)) → OnlyValue n v rows
      → going_rows free rows ≡ going_rows (free_once free n v) (with_value rows n w)
  going-withers free n v w withers [] only = refl
  going-withers free n v w withers (row ∷ rows) only =
      grind (arith, only.0, eq-eqb n n refl, withers, going-withers free n v w withers rows only.1)

  -- without a geom
  pub going-without : (free : ℕ → Bool) (n : ℕ) (rows : List (ℕ × GeomCell C))
      → going_rows free (without rows n) ≡ without (going_rows free rows) n
  going-without free n rows =
      map-without (λ (row : ℕ × GeomCell C). (row.0, row.1.geom.withering && free row.0)) n
      (λ (row : ℕ × Bool). row.0 == n) (λ row. refl) rows

  -- with a new geom, which doesn't wither
  pub going-push : (free : ℕ → Bool) (n : ℕ) (v : GeomCell C) → v.geom.withering ≡ false
      → (rows : List (ℕ × GeomCell C))
      → going_rows free (rows ++ (n, v) ∷ []) ≡ going_rows free rows ++ (n, false) ∷ []
  going-push free n v stays rows =
      map-append (λ (row : ℕ × GeomCell C). (row.0, row.1.geom.withering && free row.0)) rows ((n, v) ∷ [])
      ∙ ap (λ (b : Bool). going_rows free rows ++ (n, b && free n) ∷ []) stays

  -- other ranks leave the marks
  pub going-bare : (free : ℕ → Bool) (gs ns : SlotsView (GeomCell C)) → bare ns ≡ bare gs
      → going_rows free ns.rows ≡ going_rows free gs.rows
  going-bare free = map-bare (λ row. (row.0, row.1.0.withering && free row.0))

  -- a geom that is there has a mark or none
  pub going-there : (free : ℕ → Bool) (n : ℕ) (rows : List (ℕ × GeomCell C))
      → passes (withering_of {C = C}) (value_at rows n) ≡ true → IsSome (value_at (going_rows free rows) n)
  going-there free n [] withers = absurd (cc)
  going-there free n (row ∷ rows) withers = grind (arith, going-there free n rows)

  -- what is free changed at a geom that doesn't wither: no mark changes
  pub going-unseen : (old new : ℕ → Bool) (n : ℕ) → ((g : ℕ) → g ≢ n → old g ≡ new g)
      → (rows : List (ℕ × GeomCell C))
      → AllByRecursion (λ row. (row.0 == n) ≡ true → row.1.geom.withering ≡ false) rows
      → going_rows old rows ≡ going_rows new rows
  going-unseen old new n same [] stays = refl
  going-unseen old new n same (row ∷ rows) stays = search (rules, going-unseen old new n same rows stays.1)

  -- what is free changed at a withering geom, whose mark is set by it
  pub going-set : (old new : ℕ → Bool) (n : ℕ) → ((g : ℕ) → g ≢ n → old g ≡ new g)
      → (rows : List (ℕ × GeomCell C))
      → AllByRecursion (λ row. (row.0 == n) ≡ true → row.1.geom.withering ≡ true) rows
      → with_value (going_rows old rows) n (new n) ≡ going_rows new rows
  going-set old new n same [] withers = refl
  going-set old new n same (row ∷ rows) withers =
      grind (arith, withers.0, same row.0, going-set old new n same rows withers.1)

  -- The first

  -- the first number with a mark is the first geom that passes
  pub first-going : (from_number : ℕ) (test : Geom C → Bool) (free : ℕ → Bool)
      → ((row : ℕ × GeomCell C) → test (geom_row row) ≡ (row.1.geom.withering && free row.0))
      → (rows : List (ℕ × GeomCell C))
      → first_marked (going_rows free rows) from_number ≡ first_geom (filter test (map geom_row rows)) from_number
  first-going from_number test free same [] = refl
  first-going from_number test free same (row ∷ rows) =
      grind (arith, same row, first-going from_number test free same rows)

-- What is free, as the rows tell it

-- what is told of a consumer of a number
pub unused-cell : (cs : List (ℕ × ConsCell)) (n : ℕ)
    → (option_map_or is_zero (value_at (rows_with want_of cs) n) true
    && option_map_or (λ m. m == 0) (value_at (rows_with active_of cs) n) true)
    ≡ option_map_or is_idle_cell (value_at cs n) true
unused-cell cs n = search (rules, value_at-rows_with want_of n cs, value_at-rows_with active_of n cs)

module _ {C : Type 0} (t : Tables C) (rising : IsRising 1 t.edges.consumers.rows t.edges.consumers.next) (g : ℕ) where
  -- providers without a consumer
  unattached-rows : list_any (λ (p : Provider). is_unattached (topo_view t) p.number) (providers_of (graph t) g)
      ≡ list_any (is_lone t.edges.consumers.rows g)
      t.edges.providers.rows
  unattached-rows =
      search (
        rules,
        any-filter (λ (p : Provider). p.geom == g) (λ p. is_unattached (topo_view t) p.number) (graph t).providers,
        any-map provider_row (λ (p : Provider). (p.geom == g) && is_unattached (topo_view t) p.number)
            t.edges.providers.rows,
        none-kept,
        any-map consumer_row,
      )

  -- each consumer by its row
  unused_each : (rows : List (ℕ × ConsCell))
      → AllByRecursion (λ row. value_at t.edges.consumers.rows row.0 ≡ Some row.1) rows
      → AllByRecursion (λ (row : ℕ × ConsCell). ((row.1.consumer.geom == g) && is_unused (topo_view t) row.0)
      ≡ ((row.1.consumer.geom == g) && is_idle_cell row.1)) rows
  unused_each [] there = tt
  unused_each (row ∷ rows) there = search (rules, unused-cell t.edges.consumers.rows row.0, unused_each rows there.1)

  -- consumers that are idle
  unused-rows : list_any (λ (c : Consumer). is_unused (topo_view t) c.number) (consumers_of (graph t) g)
      ≡ list_any (is_idle_at g) t.edges.consumers.rows
  unused-rows =
      any-filter (λ (c : Consumer). c.geom == g) (λ c. is_unused (topo_view t) c.number) (graph t).consumers
      ∙ any-map consumer_row (λ (c : Consumer). (c.geom == g) && is_unused (topo_view t) c.number)
      t.edges.consumers.rows
      ∙ any-same (λ (row : ℕ × ConsCell). (row.1.consumer.geom == g) && is_unused (topo_view t) row.0)
      (is_idle_at g) t.edges.consumers.rows
      (unused_each t.edges.consumers.rows (each-found 1 t.edges.consumers.next t.edges.consumers.rows rising))

  -- a geom without parts
  bare-rows : is_bare (topo_view t) g
      ≡ (not (list_any (is_provider_of g) t.edges.providers.rows)
      && not (list_any (is_consumer_of g) t.edges.consumers.rows))
  bare-rows =
      let none_offered = none-kept (λ (p : Provider). p.geom == g) (graph t).providers
      ∙ ap not (any-map provider_row (λ (p : Provider). p.geom == g) t.edges.providers.rows) in
      let none_owned = none-kept (λ (c : Consumer). c.geom == g) (graph t).consumers
      ∙ ap not (any-map consumer_row (λ (c : Consumer). c.geom == g) t.edges.consumers.rows) in
      λ i. none_offered i && none_owned i

  -- so the rows tell what is free
  pub free-rows : is_free (topo_view t) g ≡ is_free_in t g
  unfolding is_free_by
  free-rows = λ i. unattached-rows i || (unused-rows i || bare-rows i)

-- A look at what of a geom is free to go, and the mark that it sets.

-- what is told of a geom that may be there
told : {C : Type 0} (b : Bool) (o : Option (GeomCell C)) → passes (withering_of {C = C}) o ≡ b
    → IfSome o (λ x. x.geom.withering ≡ b)
told b None e = tt
told b (Some x) e = e

module _ {C : Type 0} (t : Tables C) (n : ℕ) (but : IsWholeBut n t)
    (rising : IsRising 1 t.geoms.rows t.geoms.next) where
  -- the mark of a geom that doesn't wither is right already
  pub settled : passes (withering_of {C = C}) (value_at t.geoms.rows n) ≡ false → IsWhole t
  settled stays =
      search (
        rules,
        going-unseen but.going.free (is_free_in t) n but.going.others t.geoms.rows
            (under-each n (λ x. x.geom.withering ≡ false) 1 t.geoms.next t.geoms.rows rising
            (told false (value_at t.geoms.rows n) stays)),
      )

  -- a withering geom has a mark or none
  pub mark-there : passes (withering_of {C = C}) (value_at t.geoms.rows n) ≡ true
      → IsSome (value_at t.notes.going.rows n)
  mark-there withers = search (rules, going-there but.going.free n t.geoms.rows withers)

  -- the mark of a withering geom is right once it is set by what is free
  pub marked : passes (withering_of {C = C}) (value_at t.geoms.rows n) ≡ true → (free : Bool)
      → free ≡ is_free (topo_view t) n
      → IsWhole (record t { notes = record t.notes { going = set_mark t.notes.going n free } })
  marked withers free is =
      let kin = kin-of t.geoms t.edges but.graph but.tables.indexed in
      let right : free ≡ is_free_in t n = is ∙ free-rows t kin.consumers_rise n in
      search (
        rules,
        going-set but.going.free (is_free_in t) n but.going.others t.geoms.rows
            (under-each n (λ x. x.geom.withering ≡ true) 1 t.geoms.next t.geoms.rows rising
            (told true (value_at t.geoms.rows n) withers)),
      )

-- Walks

module _ {X : Type 0} (number : X → ℕ) (xs : List X) where
  -- what a look-up gives of the next
  pub walk-next : (next from_number : ℕ) (o : Option ℕ) → AreNumbers (map number xs) next
      → o ≡ option_map number (find (λ x. nat_le from_number (number x)) xs)
      → MatchOption o (left_from number from_number xs ≡ []) (λ n. IsStep number xs next from_number n)
  walk-next next from_number None order first = WalksMeetAll.rest walks-meet number xs from_number (sym first)
  walk-next next from_number (Some n) order first =
      WalksMeetAll.step walks-meet number xs next from_number n order (sym first)

  -- nothing comes first just where there is nothing
  pub none-first : is_none (option_map number (find (λ x. nat_le 0 (number x)) xs)) ≡ (length xs == 0)
  none-first = at xs where
    at : (ys : List X) → is_none (option_map number (find (λ x. nat_le 0 (number x)) ys)) ≡ (length ys == 0)
    at [] = refl
    at (x ∷ ys) = rw (le-leb 0 (number x) (omega arith)) (sym (ne_eqb (suc (length ys)) 0 (λ e. omega (arith, e))))

  module _ (test : ℕ → Bool) where
    -- at the beginning all is left
    pub any-begin : list_any (λ x. test (number x)) (left_from number 0 xs) ≡ list_any (λ x. test (number x)) xs
    any-begin = ap (list_any (λ x. test (number x))) (WalksMeetAll.begin walks-meet number xs)

-- what says that there is something says that there isn't nothing
pub told_none : {X : Type 0} (o : Option X) (b : Bool) → is_some o ≡ not b → b ≡ is_none o
told_none None true e = refl
told_none None false never = absurd (cc)
told_none (Some x) true never = absurd (cc)
told_none (Some x) false e = refl

module _ {C : Type 0} (t : Tables C) (indexed : IsIndexed (graph t) t.edges.index) (geom : ℕ) (first : Option ℕ)
    (none : Bool) (told_of : is_some first ≡ not none) where
  -- the index finds no provider of the geom just where it has none
  pub offers-none : first ≡ first_child t.edges.index.offered.children geom 0
      → none ≡ (length (providers_of (graph t) geom) == 0)
  offers-none is =
      told_none first none told_of
      ∙ ap is_none (is ∙ offered_first (graph t) t.edges.index indexed geom 0)
      ∙ none-first (λ (x : Provider). x.number) (providers_of (graph t) geom)

  -- and no consumer where it has none
  pub owns-none : first ≡ first_child t.edges.index.owned.children geom 0
      → none ≡ (length (consumers_of (graph t) geom) == 0)
  owns-none is =
      told_none first none told_of
      ∙ ap is_none (is ∙ owned_first (graph t) t.edges.index indexed geom 0)
      ∙ none-first (λ (x : Consumer). x.number) (consumers_of (graph t) geom)
