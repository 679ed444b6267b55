-- The walks over a mesh whose scratch is told by functions of the numbers.
use Rattle.std.specs.Prelude.{◌≡◌, ℕ, ◌-◌, ◌==◌, ◌≤◌, ◌^◌, min, Bool, true, false, not, ◌||◌, cond, List, [], ◌∷◌, length, map, find, Some, IsSome, Contains, option_map, if◌then◌else◌}
use Rattle.std.specs.List.{IsDistinct}
use Rattle.std.proofs.Common.{refl, sym, ◌∙◌, ap, subst, eq-eqb, eqb, rules}
use Rattle.std.proofs.lemmas.Bool.{eqb-true, ne_eqb}
use Rattle.geo_base.specs.declared.request.Counts.{Counts}
use Rattle.geo_base.proofs.MemberLists.{Contains-there, Contains-here}
use Rattle.geo_model.specs.Topology.{Topology, Geom, Provider, geom_at, provider_at}
use Rattle.geo_model.specs.Demand.{no_counts}
use Rattle.geo_slots.specs.Slots.{value_at, with_value}
use Rattle.geo_mesh.specs.declared.records.Scratch.{Scratch}
use Rattle.geo_mesh.specs.Topo.{TopoView, with_geom_scratch, with_provider_scratch}
use Rattle.geo_laws_counts.specs.WalkWords.{has_number, IsOrder, set_at}
use Rattle.geo_laws_counts.proofs.Flows.{each_of}
use Rattle.geo_access.specs.declared.order.Order.{Order}
use Rattle.geo_access.specs.Access.{clear_scratches}
use Rattle.geo_access.specs.Views.{numbers_along, mark_at, made_at, gain_at}
use Rattle.geo_access.proofs.Folding.{links_same}

-- Rows that a function tells

-- each item's number with what the function says of it
abbrev pub rows_of : {X V : Type 0} → (X → ℕ) → (ℕ → V) → List X → List (ℕ × V)
rows_of key f xs = map (λ x. (key x, f (key x))) xs

-- a value that is set is a value of the function that is set
pub rows-set : {X V : Type 0} (key : X → ℕ) (f : ℕ → V) (n : ℕ) (v : V) (xs : List X)
    → with_value (rows_of key f xs) n v ≡ rows_of key (set_at f n v) xs
rows-set key f n v [] = refl
rows-set key f n v (x ∷ xs) = search (rules, ap (λ rows. (key x, set_at f n v (key x)) ∷ rows) (rows-set key f n v xs))

-- functions that agree tell the same rows
pub rows-same : {X V : Type 0} (key : X → ℕ) (f g : ℕ → V) (xs : List X) → ((n : ℕ) → f n ≡ g n)
    → rows_of key f xs ≡ rows_of key g xs
rows-same {X} {V} key f g xs same = search rules

-- the same over one row more
at_step : {X V : Type 0} (key : X → ℕ) (f : ℕ → V) (n : ℕ) (x : X) (xs : List X) (y : X)
    → (find (λ z. key z == n) xs ≡ Some y → value_at (rows_of key f xs) n ≡ Some (f n))
    → (b : Bool) → (key x == n) ≡ b → cond b (Some x) (find (λ z. key z == n) xs) ≡ Some y
    → option_map (λ row. row.1) (cond b (Some (key x, f (key x))) (find (λ row. row.0 == n) (rows_of key f xs)))
    ≡ Some (f n)
at_step key f n x xs y so true e found = ap (λ m. Some (f m)) (eqb-true (key x) n e)
at_step key f n x xs y so false e found = so found

-- where an item is found, its row is
pub rows-at : {X V : Type 0} (key : X → ℕ) (f : ℕ → V) (n : ℕ) (xs : List X) (y : X)
    → find (λ z. key z == n) xs ≡ Some y
    → value_at (rows_of key f xs) n ≡ Some (f n)
rows-at key f n [] y never = absurd (cc)
rows-at key f n (x ∷ xs) y found = at_step key f n x xs y (rows-at key f n xs y) (key x == n) refl found

-- Scratch that functions tell

-- the marks of geoms, what their consumers gain, what providers gain
pub record Tries : Type 0 where
  pub marks : ℕ → ℕ
  pub made : ℕ → Counts
  pub gains : ℕ → Counts

-- the scratch of a geom, and of a provider
abbrev pub geom_tries : Tries → ℕ → Scratch
geom_tries s n = record { mark = s.marks n; trial = s.made n }

abbrev pub provider_tries : Tries → ℕ → Scratch
provider_tries s n = record { mark = 0; trial = s.gains n }

-- nothing is tried
abbrev pub no_tries : Tries
no_tries = record { marks = λ n. 0; made = λ n. no_counts; gains = λ n. no_counts }

module _ {C : Type 0} where
  -- the mesh with this scratch
  abbrev pub trying : TopoView C → Tries → TopoView C
  trying t s = record t {
    scratches = record t.scratches {
      geoms = rows_of (λ (x : Geom C). x.number) (geom_tries s) t.topology.geoms;
      providers = rows_of (λ (y : Provider). y.number) (provider_tries s) t.topology.providers;
    };
  }

  -- a mesh in which nothing is tried
  pub trying-none : (t : TopoView C) → t.scratches ≡ clear_scratches t.topology → trying t no_tries ≡ t
  trying-none t clear = search rules

  -- look-ups
  pub trying-mark : (t : TopoView C) (s : Tries) (x : ℕ) → IsSome (geom_at t.topology x)
      → mark_at (trying t s) x ≡ s.marks x
  trying-mark t s x lives = search (rules, rows-at (λ (y : Geom C). y.number) (geom_tries s) x t.topology.geoms)

  -- what the consumers of a geom gain
  pub trying-made : (t : TopoView C) (s : Tries) (x : ℕ) → IsSome (geom_at t.topology x)
      → made_at (trying t s) x ≡ s.made x
  trying-made t s x lives = search (rules, rows-at (λ (y : Geom C). y.number) (geom_tries s) x t.topology.geoms)

  -- what a provider gains
  pub trying-gain : (t : TopoView C) (s : Tries) (q : ℕ) → IsSome (provider_at t.topology q)
      → gain_at (trying t s) q ≡ s.gains q
  trying-gain t s q lives =
      search (rules, rows-at (λ (z : Provider). z.number) (provider_tries s) q t.topology.providers)

  -- a geom's scratch that is set
  pub trying-geom : (t : TopoView C) (s : Tries) (x mark : ℕ) (gain : Counts)
      → with_geom_scratch (trying t s) x (record { mark = mark; trial = gain })
      ≡ trying t (record s { marks = set_at s.marks x mark; made = set_at s.made x gain })
  trying-geom t s x mark gain =
      ap (λ rows. record (trying t s) { scratches = record (trying t s).scratches { geoms = rows } })
      (rows-set (λ (y : Geom C). y.number) (geom_tries s) x (record { mark = mark; trial = gain }) t.topology.geoms
      ∙ rows-same (λ (y : Geom C). y.number) (set_at (geom_tries s) x (record { mark = mark; trial = gain }))
      (geom_tries (record s { marks = set_at s.marks x mark; made = set_at s.made x gain })) t.topology.geoms
      (λ n. both (n == x) n))
    where
      both : (b : Bool) (n : ℕ)
          → ◌≡◌ {A = Scratch} (if b then record { mark = mark; trial = gain } else geom_tries s n)
          (record { mark = (if b then mark else s.marks n); trial = (if b then gain else s.made n) })
      both true n = refl
      both false n = refl

  -- a provider's scratch that is set
  pub trying-provider : (t : TopoView C) (s : Tries) (q : ℕ) (gain : Counts)
      → with_provider_scratch (trying t s) q (record { mark = 0; trial = gain })
      ≡ trying t (record s { gains = set_at s.gains q gain })
  trying-provider t s q gain =
      ap (λ rows. record (trying t s) { scratches = record (trying t s).scratches { providers = rows } })
      (rows-set (λ (y : Provider). y.number) (provider_tries s) q (record { mark = 0; trial = gain })
      t.topology.providers
      ∙ rows-same (λ (y : Provider). y.number) (set_at (provider_tries s) q (record { mark = 0; trial = gain }))
      (provider_tries (record s { gains = set_at s.gains q gain })) t.topology.providers
      (λ n. both (n == q) n))
    where
      both : (b : Bool) (n : ℕ)
          → ◌≡◌ {A = Scratch} (if b then record { mark = 0; trial = gain } else provider_tries s n)
          (record { mark = 0; trial = (if b then gain else s.gains n) })
      both true n = refl
      both false n = refl

-- Orders that stand in marks

-- the first geom, or the end
abbrev pub head_or : ℕ → List ℕ → ℕ
head_or end [] = end
head_or end (x ∷ xs) = x

-- the mark of each geom of an order: the next one
abbrev pub link_in : ℕ → List ℕ → ℕ → ℕ
link_in end [] n = 0
link_in end (x ∷ xs) n = if n == x then head_or end xs else link_in end xs n

-- the order as it is kept
abbrev pub kept_order : ℕ → List ℕ → Order
kept_order end xs = record { head = head_or end xs; count = min (length xs) (2 ^ 64 - 1) }

-- the tries while the order is made
abbrev pub order_tries : ℕ → List ℕ → Tries
order_tries end xs = record no_tries { marks = link_in end xs }

-- the same over one geom more
zero_step : (end x : ℕ) (xs : List ℕ) (h : ℕ) → 1 ≤ head_or end xs
    → (link_in end xs h == 0) ≡ not (has_number xs h) → (b : Bool) → (h == x) ≡ b
    → ((if b then head_or end xs else link_in end xs h) == 0) ≡ not ((x == h) || has_number xs h)
zero_step end x xs h some so true e = search rules
zero_step end x xs h some so false e = search rules

-- a geom isn't marked just where it isn't in the order
pub link_zero : (end : ℕ) (xs : List ℕ) (h : ℕ) → 1 ≤ end → ((y : ℕ) → Contains xs y → 1 ≤ y)
    → (link_in end xs h == 0) ≡ not (has_number xs h)
link_zero end [] h some each = refl
link_zero end (x ∷ xs) h some each =
    zero_step end x xs h (first xs (λ y there. each y (Contains-there x y xs there)))
    (link_zero end xs h some (λ y there. each y (Contains-there x y xs there))) (h == x) refl
  where
    first : (ys : List ℕ) → ((y : ℕ) → Contains ys y → 1 ≤ y) → 1 ≤ head_or end ys
    first [] positive = some
    first (y ∷ ys) positive = positive y (Contains-here y ys)

-- the marks lead through the order
pub links_order : {C : Type 0} (t : Topology C) (end : ℕ) (xs : List ℕ) → IsOrder t xs
    → numbers_along (link_in end xs) (length xs) (head_or end xs) ≡ xs
links_order t end [] order = refl
links_order t end (x ∷ xs) order =
    ap (λ ys. x ∷ ys)
    (ap (numbers_along (link_in end (x ∷ xs)) (length xs))
    (ap (λ b. if b then head_or end xs else link_in end xs x) (eq-eqb x x refl))
    ∙ links_same (link_in end xs) (link_in end (x ∷ xs)) (length xs) (head_or end xs)
    (λ y there.
    ap (λ b. if b then head_or end xs else link_in end xs y)
    (ne_eqb y x (λ same.
    order.0 (subst (Contains xs) same (subst (λ ys. Contains ys y) (links_order t end xs order.2) there)))))
    ∙ links_order t end xs order.2)

-- the geoms of an order differ
pub order_distinct : {C : Type 0} (t : Topology C) (xs : List ℕ) → IsOrder t xs → IsDistinct eqb xs
unfolding IsDistinct
order_distinct t [] order = tt
order_distinct t (x ∷ xs) order = (
  each_of (λ y. eqb x y ≡ false) xs (λ y there. ne_eqb x y (λ same. order.0 (subst (Contains xs) (sym same) there))),
  order_distinct t xs order.2,
)
