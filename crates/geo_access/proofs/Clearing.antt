-- The end of a walk that keeps nothing: nothing is left to try.
use Rattle.std.specs.Prelude.{◌≡◌, ◌≢◌, ℕ, ◌==◌, Bool, true, false, ◌||◌, List, [], ◌∷◌, map, fold, None, Contains, if◌then◌else◌}
use Rattle.std.proofs.Common.{refl, sym, ◌∙◌, ap, subst, inl, inr, eq-eqb, rules}
use Rattle.std.proofs.lemmas.Bool.{eqb-true, cases_eq, ne_eqb}
use Rattle.geo_base.specs.declared.request.Counts.{Counts}
use Rattle.geo_base.proofs.MemberLists.{Contains-there, Contains-cases, nothing_in, Contains-here, Contains-filter, Contains-map}
use Rattle.geo_model.specs.Topology.{Geom, Provider, providers_of}
use Rattle.geo_model.specs.Demand.{no_counts}
use Rattle.geo_model.proofs.DemandLemmas.{map_same}
use Rattle.geo_mesh.specs.declared.records.Scratch.{Scratch}
use Rattle.geo_mesh.specs.Topo.{TopoView, no_scratch, with_geom_scratch}
use Rattle.geo_laws_counts.proofs.LimitFacts.{of_filter}
use Rattle.geo_laws_counts.specs.WalkWords.{has_number, set_at}
use Rattle.geo_laws_counts.proofs.Flows.{each_of}
use Rattle.geo_access.specs.Tries.{Apart}
use Rattle.geo_access.specs.Access.{clear_scratches}
use Rattle.geo_access.specs.Views.{finish_provider, finish_geom}
use Rattle.geo_access.proofs.Trying.{rows_of, geom_tries, provider_tries, Tries, no_tries, trying, trying-geom, trying-provider, head_or, link_in}
use Rattle.geo_access.proofs.TryOut.{trying-same}

-- functions that agree at the items give the same rows
pub rows_agree : {X V : Type 0} (key : X → ℕ) (f g : X → V) (xs : List X)
    → ((x : X) → Contains xs x → f x ≡ g x)
    → map {B = ℕ × V} (λ x. (key x, f x)) xs ≡ map {B = ℕ × V} (λ x. (key x, g x)) xs
rows_agree {X} {V} key f g xs same =
    map_same {Y = ℕ × V} (λ x. (key x, f x)) (λ x. (key x, g x)) xs
    (search (rules, each_of))

-- so do functions of numbers
pub rows-same_on : {X V : Type 0} (key : X → ℕ) (f g : ℕ → V) (xs : List X)
    → ((x : X) → Contains xs x → f (key x) ≡ g (key x)) → rows_of key f xs ≡ rows_of key g xs
rows-same_on key f g xs same = rows_agree key (λ x. f (key x)) (λ x. g (key x)) xs same

-- each item's value, changed
abbrev pub sets : {X V : Type 0} → (X → ℕ) → (V → V) → (ℕ → V) → List X → ℕ → V
sets key change f xs = fold (λ g x. set_at g (key x) (change (g (key x)))) f xs

-- a number of none of the items keeps its value
pub sets-other : {X V : Type 0} (key : X → ℕ) (change : V → V) (xs : List X) (f : ℕ → V) (n : ℕ)
    → ((x : X) → Contains xs x → key x ≢ n)
    → sets key change f xs n ≡ f n
sets-other key change [] f n apart = refl
sets-other key change (x ∷ xs) f n apart =
    sets-other key change xs (set_at f (key x) (change (f (key x)))) n
    (λ y there. apart y (Contains-there x y xs there))
    ∙ ap (λ b. if b then change (f (key x)) else f n) (ne_eqb n (key x) (λ e. apart x (Contains-here x xs) (sym e)))

-- one of an item has the changed value, where items differ
pub sets-here : {X V : Type 0} (key : X → ℕ) (change : V → V) (xs : List X) (f : ℕ → V) → Apart (map key xs)
    → (x : X) → Contains xs x
    → sets key change f xs (key x) ≡ change (f (key x))
sets-here key change [] f apart x there = absurd (nothing_in x there)
sets-here key change (y ∷ ys) f apart x there =
    elim (Contains-cases y x ys there) [
      | inl same ↦
          subst (λ z. sets key change f (y ∷ ys) (key z) ≡ change (f (key z))) same
          (sets-other key change ys (set_at f (key y) (change (f (key y)))) (key y)
          (λ z inside e. apart.0 (subst (Contains (map key ys)) e (Contains-map key ys z inside)))
          ∙ ap (λ b. if b then change (f (key y)) else f (key y)) (eq-eqb (key y) (key y) refl))
      | inr rest ↦
          sets-here key change ys (set_at f (key y) (change (f (key y)))) apart.1 x rest
          ∙ ap (λ b. change (if b then change (f (key y)) else f (key x)))
          (ne_eqb (key x) (key y) (λ e. apart.0 (subst (Contains (map key ys)) e (Contains-map key ys x rest))))
    ]

-- what isn't among the rest any more
pub has_step : (x : ℕ) (xs : List ℕ) (n : ℕ) → n ≢ x → has_number (x ∷ xs) n ≡ has_number xs n
has_step x xs n other = ap (λ b. b || has_number xs n) (ne_eqb x n (λ e. other (sym e)))

-- the first is there
pub has_first : (x : ℕ) (xs : List ℕ) (n : ℕ) → n ≡ x → has_number (x ∷ xs) n ≡ true
has_first x xs n same = ap (λ b. b || has_number xs n) (eq-eqb x n (sym same))

-- a geom that isn't in the order has no mark
pub link_outside : (end : ℕ) (xs : List ℕ) (n : ℕ) → has_number xs n ≡ false → link_in end xs n ≡ 0
link_outside end [] n away = refl
link_outside end (x ∷ xs) n away =
    elim (cases_eq n x) [
      | inl same ↦ let no : true ≡ false = sym (has_first x xs n same) ∙ away in absurd (cc)
      | inr other ↦
          ap (λ b. if b then head_or end xs else link_in end xs n) (ne_eqb n x other)
          ∙ link_outside end xs n (sym (has_step x xs n other) ∙ away)
    ]

-- over one geom more
value_step : {V : Type 0} (x : ℕ) (xs : List ℕ) (n : ℕ) (none old mid new : V)
    → new ≡ (if has_number xs n then none else mid)
    → (n ≡ x → mid ≡ none) → (n ≢ x → mid ≡ old) → new ≡ (if has_number (x ∷ xs) n then none else old)
value_step x xs n none old mid new so here away = search rules

-- a value that is put at each geom of an order, over one more
pub put_step : {V : Type 0} (x : ℕ) (xs : List ℕ) (n : ℕ) (none old new : V)
    → new ≡ (if has_number xs n then none else (if n == x then none else old))
    → new ≡ (if has_number (x ∷ xs) n then none else old)
put_step x xs n none old new so = search rules

module _ {C : Type 0} (t : TopoView C) where
  -- nothing is left to try at some providers
  clear_providers : (ys : List Provider) (s : Tries)
      → fold (finish_provider None) (trying t s) ys
      ≡ trying t (record s { gains = sets (λ (y : Provider). y.number) (λ a. no_counts) s.gains ys })
  clear_providers [] s = refl
  clear_providers (y ∷ ys) s =
      ap (λ v. fold (finish_provider None) v ys) (trying-provider t s y.number no_counts)
      ∙ clear_providers ys (record s { gains = set_at s.gains y.number no_counts })

  -- nor at a geom
  abbrev cleared : Tries → ℕ → Tries
  cleared s x = record {
    marks = set_at s.marks x 0;
    made = set_at s.made x no_counts;
    gains = sets (λ (y : Provider). y.number) (λ a. no_counts) s.gains (providers_of t.topology x);
  }

  clear_geom : (s : Tries) (x : ℕ) → finish_geom None (trying t s) x ≡ trying t (cleared s x)
  clear_geom s x =
      ap (λ v. with_geom_scratch v x no_scratch) (clear_providers (providers_of t.topology x) s)
      ∙ trying-geom t
      (record s {
        gains =
            sets (λ (y : Provider). y.number) (λ a. no_counts) s.gains (providers_of t.topology x);
      }) x 0 no_counts

  module _ (apart : (x : ℕ) → Apart (map (λ (y : Provider). y.number) (providers_of t.topology x)))
      (unique : (y z : Provider) → Contains t.topology.providers y → Contains t.topology.providers z
      → y.number ≡ z.number → y ≡ z) where
    -- what is tried once the geoms of the list are cleared
    pub record Cleared (xs : List ℕ) (s : Tries) : Type 0 where
      pub tries : Tries
      pub is : fold (finish_geom None) (trying t s) xs ≡ trying t tries
      pub marks : (n : ℕ) → tries.marks n ≡ (if has_number xs n then 0 else s.marks n)
      pub made : (n : ℕ) → tries.made n ≡ (if has_number xs n then no_counts else s.made n)
      pub gains : (z : Provider) → Contains t.topology.providers z
          → tries.gains z.number ≡ (if has_number xs z.geom then no_counts else s.gains z.number)

    -- the gains at one provider once a geom is cleared
    gain_here : (s : Tries) (x : ℕ) (z : Provider) → Contains t.topology.providers z → z.geom ≡ x
        → (cleared s x).gains z.number ≡ no_counts
    gain_here s x z there same =
        sets-here (λ (y : Provider). y.number) (λ a. no_counts) (providers_of t.topology x) s.gains (apart x) z
        (Contains-filter (λ (y : Provider). y.geom == x) t.topology.providers z there (eq-eqb z.geom x same))

    gain_other : (s : Tries) (x : ℕ) (z : Provider) → Contains t.topology.providers z → z.geom ≢ x
        → (cleared s x).gains z.number ≡ s.gains z.number
    gain_other s x z there other =
        sets-other (λ (y : Provider). y.number) (λ a. no_counts) (providers_of t.topology x) s.gains z.number
        (λ y inside e.
        let kept = of_filter (λ (w : Provider). w.geom == x) t.topology.providers y inside in
        other (ap (λ (w : Provider). w.geom) (sym (unique y z kept.0 there e)) ∙ eqb-true y.geom x kept.1))

    pub clear_all : (xs : List ℕ) (s : Tries) → Cleared xs s
    clear_all [] s = record { tries = s; is = refl; marks = λ n. refl; made = λ n. refl; gains = λ z there. refl }
    clear_all (x ∷ xs) s =
        let rest : Cleared xs (cleared s x) = clear_all xs (cleared s x) in
        record {
          tries = rest.tries;
          is = ap (λ v. fold (finish_geom None) v xs) (clear_geom s x) ∙ rest.is;
          marks = λ n. put_step x xs n 0 (s.marks n) (rest.tries.marks n) (rest.marks n);
          made = λ n. put_step x xs n no_counts (s.made n) (rest.tries.made n) (rest.made n);
          gains = λ z there.
              value_step x xs z.geom no_counts (s.gains z.number) ((cleared s x).gains z.number)
              (rest.tries.gains z.number) (rest.gains z there)
              (λ same. gain_here s x z there same) (λ other. gain_other s x z there other);
        }

    -- where only these geoms and their providers were tried, the mesh is as before
    pub clear_whole : (xs : List ℕ) (s : Tries) → t.scratches ≡ clear_scratches t.topology
        → ((n : ℕ) → has_number xs n ≡ false → s.marks n ≡ 0)
        → ((n : ℕ) → has_number xs n ≡ false → s.made n ≡ no_counts)
        → ((z : Provider) → Contains t.topology.providers z → has_number xs z.geom ≡ false
        → s.gains z.number ≡ no_counts)
        → fold (finish_geom None) (trying t s) xs ≡ t
    clear_whole xs s clear marks made gains =
        let all : Cleared xs s = clear_all xs s in
        search (
          rules,
          trying-same t all.tries (record no_tries { gains = all.tries.gains })
              (λ n. all.marks n ∙ none (has_number xs n) 0 (s.marks n) (marks n))
              (λ n. all.made n ∙ none (has_number xs n) no_counts (s.made n) (made n)) (λ n. refl),
          ap
              (λ rows. record t {
                scratches = record t.scratches {
                  geoms = rows_of (λ (x : Geom C). x.number) (geom_tries no_tries) t.topology.geoms;
                  providers = rows;
                };
              })
              (rows-same_on (λ (y : Provider). y.number) (provider_tries (record no_tries { gains = all.tries.gains }))
              (provider_tries no_tries) t.topology.providers
              (λ z there. let P : Counts → Scratch = λ a. record { mark = 0; trial = a } in ap P
              (all.gains z there ∙ none (has_number xs z.geom) no_counts (s.gains z.number) (gains z there)))),
        )
      where
        none : {V : Type 0} (b : Bool) (zero old : V) → (b ≡ false → old ≡ zero) → (if b then zero else old) ≡ zero
        none true zero old so = refl
        none false zero old so = so refl
