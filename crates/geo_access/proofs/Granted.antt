-- The end of a walk that is kept: what is gained or lost comes into the counts, once each; and new counts are kept.
use Rattle.std.specs.Prelude.{◌⊎◌, ◌≡◌, ◌≢◌, ℕ, ◌==◌, Bool, true, false, List, [], ◌∷◌, map, fold, Some, IsSome, Contains, unwrap_or, if◌then◌else◌, filter, All}
use Rattle.std.specs.Option.{option_map_or}
use Rattle.std.proofs.Common.{refl, sym, ◌∙◌, ap, subst, eq-eqb, arith, rules}
use Rattle.std.proofs.lemmas.Bool.{eqb-true, cases_eq, ne_eqb}
use Rattle.std.proofs.lemmas.List.Kept.{AllPairs-from_increasing}
use Rattle.geo_base.proofs.Options.{some_of}
use Rattle.geo_base.specs.declared.request.Counts.{Counts}
use Rattle.geo_base.proofs.MemberLists.{Contains-there, Contains-here, Contains-filter}
use Rattle.geo_model.specs.Topology.{Geom, Provider, Consumer, geom_at, provider_at, consumer_at, providers_of, consumers_of}
use Rattle.geo_model.specs.Demand.{no_counts, have, want, is_exclusive, fits_limit}
use Rattle.geo_slots.specs.Slots.{with_value, value_at}
use Rattle.geo_mesh.specs.declared.records.Scratch.{Scratch}
use Rattle.geo_mesh.specs.Topo.{TopoView, no_scratch, with_geom_scratch, with_want, Scratches}
use Rattle.geo_mesh.specs.Graph.{IsSoundGraph}
use Rattle.geo_laws_counts.proofs.LimitFacts.{of_filter, all_of}
use Rattle.geo_laws_counts.specs.WalkWords.{has_number, set_at, cap}
use Rattle.geo_access.specs.declared.counts.Way.{Way}
use Rattle.geo_access.specs.declared.counts.Way.TheVariants.{Rises, Falls}
use Rattle.geo_laws_counts.proofs.Orders.{not-has}
use Rattle.geo_access.specs.Tries.{shifted, Apart}
use Rattle.geo_access.specs.Views.{have_at, gain_at, made_at, raise_want, finish_provider, finish_geom}
use Rattle.geo_access.proofs.Trying.{rows_of, rows-set, rows-same, rows-at}
use Rattle.geo_access.proofs.Clearing.{sets, sets-other, sets-here, has_step, has_first, rows-same_on, rows_agree, put_step}
use Rattle.geo_access.proofs.Decided.{part_apart, item_at, consumer_known, granted_found, holds_is}
use Rattle.geo_model.specs.Words.{is_granted_kind}
use Rattle.geo_laws_counts.specs.CountWords.{IsAtMost}
use Rattle.geo_laws_counts.specs.LimitLaws.{greatest_counts}
use Rattle.geo_laws_counts.proofs.Sums.{counts-same}
use Rattle.geo_laws_counts.proofs.Stays.{grants_agree}
use Rattle.geo_laws_counts.proofs.Openers.{wants_grant}
use Rattle.geo_access.specs.Access.{granted_by, holds_grants, clear_scratches, IsCounted, noted, comes_to_zero, leaves_zero}
use Rattle.geo_access.proofs.Walking.{provider_known}

-- the counts of a provider, its notes, and what it gains
pub record Cell : Type 0 where
  pub have : Counts
  pub risen : Bool
  pub fallen : Bool
  pub gain : Counts

-- whether a write count left zero, where counts rise, and whether it came to zero, where they fall
abbrev pub rise_of : Way → Counts → Counts → Bool
rise_of Rises old new = leaves_zero old new
rise_of Falls old new = false

abbrev pub fall_of : Way → Counts → Counts → Bool
fall_of Rises old new = false
fall_of Falls old new = comes_to_zero old new

-- the same once what it gains is kept
abbrev pub kept_cell : Way → Cell → Cell
kept_cell way c = record {
  have = shifted way c.have c.gain;
  risen = rise_of way c.have (shifted way c.have c.gain);
  fallen = fall_of way c.have (shifted way c.have c.gain);
  gain = no_counts;
}

-- all that a walk reads and changes, by numbers
pub record Parts : Type 0 where
  pub marks : ℕ → ℕ
  pub made : ℕ → Counts
  pub cells : ℕ → Cell
  pub wants : ℕ → Counts

module _ {C : Type 0} (t : TopoView C) where
  -- the mesh with these parts
  abbrev pub with_parts : Parts → TopoView C
  with_parts f = record t {
    haves = rows_of (λ (y : Provider). y.number) (λ n. (f.cells n).have) t.topology.providers;
    risen = rows_of (λ (y : Provider). y.number) (λ n. (f.cells n).risen) t.topology.providers;
    fallen = rows_of (λ (y : Provider). y.number) (λ n. (f.cells n).fallen) t.topology.providers;
    wants = rows_of (λ (c : Consumer). c.number) f.wants t.topology.consumers;
    scratches = record t.scratches {
      geoms = rows_of (λ (x : Geom C). x.number) (λ n. record { mark = f.marks n; trial = f.made n }) t.topology.geoms;
      providers = rows_of (λ (y : Provider). y.number) (λ n. record { mark = 0; trial = (f.cells n).gain })
          t.topology.providers;
    };
  }

  -- a part of a cell that is set
  cell_row : {V : Type 0} (see : Cell → V) (cells : ℕ → Cell) (n : ℕ) (c : Cell)
      → with_value (rows_of (λ (y : Provider). y.number) (λ m. see (cells m)) t.topology.providers) n (see c)
      ≡ rows_of (λ (y : Provider). y.number) (λ m. see (set_at cells n c m)) t.topology.providers
  cell_row see cells n c =
      search (rules, rows-set (λ (y : Provider). y.number) (λ m. see (cells m)) n (see c) t.topology.providers)

  -- with other rows for the providers
  abbrev rows_put : Parts → List (ℕ × Counts) → List (ℕ × Bool) → List (ℕ × Bool) → List (ℕ × Scratch) → TopoView C
  rows_put f haves risen fallen scratches = record (with_parts f) {
    haves = haves;
    risen = risen;
    fallen = fallen;
    scratches = record (with_parts f).scratches { providers = scratches };
  }

  -- the rows of one cell that is set
  cell_put : (f : Parts) (n : ℕ) (c : Cell) → c.gain ≡ no_counts
      → rows_put f (with_value (with_parts f).haves n c.have) (with_value (with_parts f).risen n c.risen)
      (with_value (with_parts f).fallen n c.fallen)
      (with_value (with_parts f).scratches.providers n no_scratch)
      ≡ with_parts (record f { cells = set_at f.cells n c })
  cell_put f n c none =
      λ i. rows_put f (cell_row (λ (x : Cell). x.have) f.cells n c i) (cell_row (λ (x : Cell). x.risen) f.cells n c i)
      (cell_row (λ (x : Cell). x.fallen) f.cells n c i)
      ((ap (λ a. with_value (with_parts f).scratches.providers n (record { mark = 0; trial = a })) (sym none)
      ∙ cell_row (λ (x : Cell). record { mark = 0; trial = x.gain }) f.cells n c) i)

  -- the look-ups of a provider's counts
  have_is : (f : Parts) (y : Provider) → provider_at t.topology y.number ≡ Some y
      → have_at (with_parts f) y.number ≡ (f.cells y.number).have
  have_is f y found =
      search (rules, rows-at (λ (z : Provider). z.number) (λ n. (f.cells n).have) y.number t.topology.providers y found)

  gain_is : (f : Parts) (y : Provider) → provider_at t.topology y.number ≡ Some y
      → gain_at (with_parts f) y.number ≡ (f.cells y.number).gain
  gain_is f y found =
      ap (λ o. option_map_or (λ (z : Scratch). z.trial) o no_counts)
      (rows-at (λ (z : Provider). z.number) (λ n. record { mark = 0; trial = (f.cells n).gain }) y.number
      t.topology.providers y found)

  -- with what a provider that had these counts gains
  abbrev kept_put : Parts → ℕ → Way → Counts → Counts → TopoView C
  kept_put f n way had gain =
      rows_put f (with_value (with_parts f).haves n (shifted way had gain))
      (with_value (with_parts f).risen n (rise_of way had (shifted way had gain)))
      (with_value (with_parts f).fallen n (fall_of way had (shifted way had gain)))
      (with_value (with_parts f).scratches.providers n no_scratch)

  -- what is gained at a provider is kept
  keep_provider : (way : Way) (f : Parts) (y : Provider) → provider_at t.topology y.number ≡ Some y
      → finish_provider (Some way) (with_parts f) y
      ≡ with_parts (record f { cells = set_at f.cells y.number (kept_cell way (f.cells y.number)) })
  keep_provider way f y found =
      let n : ℕ = y.number in
      finished way ∙ ap (λ h. kept_put f n way h (gain_at (with_parts f) n)) (have_is f y found)
      ∙ ap (kept_put f n way (f.cells n).have) (gain_is f y found) ∙ cell_put f n (kept_cell way (f.cells n)) refl
    where
      finished : (by : Way) → finish_provider (Some by) (with_parts f) y
          ≡ kept_put f y.number by (have_at (with_parts f) y.number) (gain_at (with_parts f) y.number)
      finished Rises = refl
      finished Falls = refl

  -- at some providers
  keep_providers : (way : Way) (ys : List Provider) (f : Parts)
      → ((y : Provider) → Contains ys y → provider_at t.topology y.number ≡ Some y)
      → fold (finish_provider (Some way)) (with_parts f) ys
      ≡ with_parts (record f { cells = sets (λ (y : Provider). y.number) (kept_cell way) f.cells ys })
  keep_providers way [] f found = refl
  keep_providers way (y ∷ ys) f found =
      ap (λ v. fold (finish_provider (Some way)) v ys) (keep_provider way f y (found y (Contains-here y ys)))
      ∙ keep_providers way ys (record f { cells = set_at f.cells y.number (kept_cell way (f.cells y.number)) })
      (λ z there. found z (Contains-there y z ys there))

  -- what a consumer gains is kept
  keep_want : (way : Way) (m : Counts) (f : Parts) (c : Consumer) → consumer_at t.topology c.number ≡ Some c
      → raise_want way m (with_parts f) c
      ≡ with_parts (record f { wants = set_at f.wants c.number (shifted way (f.wants c.number) m) })
  keep_want way m f c found =
      ap (λ w. with_want (with_parts f) c.number (shifted way w m))
      (ap (λ o. unwrap_or o no_counts)
      (rows-at (λ (d : Consumer). d.number) f.wants c.number t.topology.consumers c found))
      ∙ ap (λ rows. record (with_parts f) { wants = rows })
      (rows-set (λ (d : Consumer). d.number) f.wants c.number (shifted way (f.wants c.number) m)
      t.topology.consumers)

  -- by some consumers
  keep_wants : (way : Way) (m : Counts) (cs : List Consumer) (f : Parts)
      → ((c : Consumer) → Contains cs c → consumer_at t.topology c.number ≡ Some c)
      → fold (raise_want way m) (with_parts f) cs
      ≡ with_parts (record f { wants = sets (λ (c : Consumer). c.number) (λ w. shifted way w m) f.wants cs })
  keep_wants way m [] f found = refl
  keep_wants way m (c ∷ cs) f found =
      ap (λ v. fold (raise_want way m) v cs) (keep_want way m f c (found c (Contains-here c cs)))
      ∙ keep_wants way m cs (record f { wants = set_at f.wants c.number (shifted way (f.wants c.number) m) })
      (λ d there. found d (Contains-there c d cs there))

  -- nothing is left to try at a geom
  keep_mark : (f : Parts) (x : ℕ)
      → with_geom_scratch (with_parts f) x no_scratch
      ≡ with_parts (record f { marks = set_at f.marks x 0; made = set_at f.made x no_counts })
  keep_mark f x =
      search (
        rules,
        rows-set (λ (y : Geom C). y.number) (λ n. record { mark = f.marks n; trial = f.made n }) x no_scratch
            t.topology.geoms,
        rows-same (λ (y : Geom C). y.number) (set_at (λ n. record { mark = f.marks n; trial = f.made n }) x no_scratch)
            (λ n. record { mark = set_at f.marks x 0 n; trial = set_at f.made x no_counts n }) t.topology.geoms,
      )

  -- once a geom is passed
  abbrev pub passed : Way → Parts → ℕ → Parts
  passed way f x = record {
    marks = set_at f.marks x 0;
    made = set_at f.made x no_counts;
    cells = sets (λ (y : Provider). y.number) (kept_cell way) f.cells (providers_of t.topology x);
    wants = sets (λ (c : Consumer). c.number) (λ w. shifted way w (f.made x)) f.wants (consumers_of t.topology x);
  }

  module _ (sound : IsSoundGraph t.topology) where
    -- with what its consumers gain
    keep_geom_wants : (way : Way) (f : Parts) (x : ℕ) (m : Counts) → made_at (with_parts f) x ≡ m
        → finish_geom (Some way) (with_parts f) x
        ≡ with_geom_scratch
        (fold (finish_provider (Some way)) (fold (raise_want way m) (with_parts f) (consumers_of t.topology x))
        (providers_of t.topology x)) x no_scratch
    keep_geom_wants way f x m same = search rules

    -- what is kept at a geom
    keep_geom : (way : Way) (f : Parts) (x : ℕ) → IsSome (geom_at t.topology x)
        → finish_geom (Some way) (with_parts f) x ≡ with_parts (passed way f x)
    keep_geom way f x lives =
        let g = some_of (geom_at t.topology x) lives in
        let wanted : Parts =
        record f {
          wants =
              sets (λ (c : Consumer). c.number) (λ w. shifted way w (f.made x)) f.wants
              (consumers_of t.topology x);
        } in
        let same : made_at (with_parts f) x ≡ f.made x =
        ap (λ o. option_map_or (λ (z : Scratch). z.trial) o no_counts)
        (rows-at (λ (y : Geom C). y.number) (λ n. record { mark = f.marks n; trial = f.made n }) x
        t.topology.geoms g.0 g.1) in
        let first : finish_geom (Some way) (with_parts f) x
        ≡ with_geom_scratch
        (fold (finish_provider (Some way))
        (fold (raise_want way (f.made x)) (with_parts f) (consumers_of t.topology x))
        (providers_of t.topology x)) x no_scratch =
        keep_geom_wants way f x (f.made x) same in
        first
        ∙ ap (λ v. with_geom_scratch (fold (finish_provider (Some way)) v (providers_of t.topology x)) x no_scratch)
        (keep_wants way (f.made x) (consumers_of t.topology x) f
        (λ c there. consumer_known t sound c
        (of_filter (λ (d : Consumer). d.geom == x) t.topology.consumers c there).0))
        ∙ ap (λ v. with_geom_scratch v x no_scratch)
        (keep_providers way (providers_of t.topology x) wanted
        (λ y there. provider_known t sound y
        (of_filter (λ (z : Provider). z.geom == x) t.topology.providers y there).0))
        ∙ keep_mark (record wanted {
          cells =
              sets (λ (y : Provider). y.number) (kept_cell way) f.cells (providers_of t.topology x);
        }) x

    -- Over an order

    -- over one geom more
    keep_step : {V : Type 0} (x : ℕ) (xs : List ℕ) (n : ℕ) (change : V → V) (old mid new : V)
        → (n ≡ x → has_number xs n ≡ false) → new ≡ (if has_number xs n then change mid else mid)
        → (n ≡ x → mid ≡ change old) → (n ≢ x → mid ≡ old)
        → new ≡ (if has_number (x ∷ xs) n then change old else old)
    keep_step x xs n change old mid new apart so here away = search rules

    -- the parts of a provider once a geom is passed
    cell_here : (way : Way) (f : Parts) (x : ℕ) (z : Provider) → Contains t.topology.providers z → z.geom ≡ x
        → (passed way f x).cells z.number ≡ kept_cell way (f.cells z.number)
    cell_here way f x z there same =
        sets-here (λ (y : Provider). y.number) (kept_cell way) (providers_of t.topology x) f.cells
        (part_apart (λ (y : Provider). y.number) (λ (y : Provider). y.geom == x) t.topology.providers
        (AllPairs-from_increasing (map (λ (y : Provider). y.number) t.topology.providers)
        sound.orderly.order.providers.0)) z
        (Contains-filter (λ (y : Provider). y.geom == x) t.topology.providers z there (eq-eqb z.geom x same))

    cell_other : (way : Way) (f : Parts) (x : ℕ) (z : Provider) → Contains t.topology.providers z → z.geom ≢ x
        → (passed way f x).cells z.number ≡ f.cells z.number
    cell_other way f x z there other =
        sets-other (λ (y : Provider). y.number) (kept_cell way) (providers_of t.topology x) f.cells z.number
        (λ y inside e.
        let is = of_filter (λ (w : Provider). w.geom == x) t.topology.providers y inside in
        let same : Some y ≡ Some z = sym (provider_known t sound y is.0) ∙ ap (provider_at t.topology) e
        ∙ provider_known t sound z there in
        let one : y ≡ z = cc in
        other (ap (λ (w : Provider). w.geom) (sym one) ∙ eqb-true y.geom x is.1))

    -- and what a consumer wants
    want_here : (way : Way) (f : Parts) (x : ℕ) (c : Consumer) → Contains t.topology.consumers c → c.geom ≡ x
        → (passed way f x).wants c.number ≡ shifted way (f.wants c.number) (f.made x)
    want_here way f x c there same =
        sets-here (λ (d : Consumer). d.number) (λ w. shifted way w (f.made x)) (consumers_of t.topology x) f.wants
        (part_apart (λ (d : Consumer). d.number) (λ (d : Consumer). d.geom == x) t.topology.consumers
        (AllPairs-from_increasing (map (λ (d : Consumer). d.number) t.topology.consumers)
        sound.orderly.order.consumers.0)) c
        (Contains-filter (λ (d : Consumer). d.geom == x) t.topology.consumers c there (eq-eqb c.geom x same))

    want_other : (way : Way) (f : Parts) (x : ℕ) (c : Consumer) → Contains t.topology.consumers c → c.geom ≢ x
        → (passed way f x).wants c.number ≡ f.wants c.number
    want_other way f x c there other =
        sets-other (λ (d : Consumer). d.number) (λ w. shifted way w (f.made x)) (consumers_of t.topology x)
        f.wants c.number
        (λ d inside e.
        let is = of_filter (λ (w : Consumer). w.geom == x) t.topology.consumers d inside in
        let same : Some d ≡ Some c = sym (consumer_known t sound d is.0) ∙ ap (consumer_at t.topology) e
        ∙ consumer_known t sound c there in
        let one : d ≡ c = cc in
        other (ap (λ (w : Consumer). w.geom) (sym one) ∙ eqb-true d.geom x is.1))

    -- what is kept once all geoms of an order are passed
    pub record Kept (way : Way) (xs : List ℕ) (f : Parts) : Type 0 where
      pub parts : Parts
      pub is : fold (finish_geom (Some way)) (with_parts f) xs ≡ with_parts parts
      pub marks : (n : ℕ) → parts.marks n ≡ (if has_number xs n then 0 else f.marks n)
      pub made : (n : ℕ) → parts.made n ≡ (if has_number xs n then no_counts else f.made n)
      pub cells : (z : Provider) → Contains t.topology.providers z
          → parts.cells z.number ≡ (if has_number xs z.geom then kept_cell way (f.cells z.number) else f.cells z.number)
      pub wants : (c : Consumer) → Contains t.topology.consumers c
          → parts.wants c.number
          ≡ (if has_number xs c.geom then shifted way (f.wants c.number) (f.made c.geom) else f.wants c.number)

    -- what a want comes to
    wants_step : (way : Way) (x : ℕ) (xs : List ℕ) (f : Parts) (c : Consumer) → Contains t.topology.consumers c
        → (c.geom ≡ x → has_number xs c.geom ≡ false) → (new : Counts)
        → new ≡ (if has_number xs c.geom then shifted way ((passed way f x).wants c.number)
        (set_at f.made x no_counts c.geom) else (passed way f x).wants c.number)
        → new ≡ (if has_number (x ∷ xs) c.geom then shifted way (f.wants c.number) (f.made c.geom) else
        f.wants c.number)
    wants_step way x xs f c there apart new so =
        search (
          rules,
          cases_eq c.geom x,
          want_here way f x c there,
          f.wants c.number,
          f.made c.geom,
          has_first x xs c.geom,
          want_other way f x c there,
          ne_eqb c.geom x,
          has_step x xs c.geom,
        )

    pub keep_all : (way : Way) (xs : List ℕ) (f : Parts) → Apart xs
        → ((x : ℕ) → Contains xs x → IsSome (geom_at t.topology x)) → Kept way xs f
    keep_all way [] f apart lives =
        record {
          parts = f;
          is = refl;
          marks = λ n. refl;
          made = λ n. refl;
          cells = λ z there. refl;
          wants =
              λ c there. refl;
        }
    keep_all way (x ∷ xs) f apart lives =
        let rest : Kept way xs (passed way f x) =
        keep_all way xs (passed way f x) apart.1 (λ y there. lives y (Contains-there x y xs there)) in
        let gone : (n : ℕ) → n ≡ x → has_number xs n ≡ false =
        λ n is. not-has xs n (λ there. apart.0 (subst (Contains xs) is there)) in
        record {
          parts = rest.parts;
          is =
              ap (λ v. fold (finish_geom (Some way)) v xs) (keep_geom way f x (lives x (Contains-here x xs))) ∙ rest.is;
          marks = λ n. put_step x xs n 0 (f.marks n) (rest.parts.marks n) (rest.marks n);
          made = λ n. put_step x xs n no_counts (f.made n) (rest.parts.made n) (rest.made n);
          cells = λ z there.
              keep_step x xs z.geom (kept_cell way) (f.cells z.number) ((passed way f x).cells z.number)
              (rest.parts.cells z.number) (gone z.geom) (rest.cells z there)
              (λ is. cell_here way f x z there is) (λ other. cell_other way f x z there other);
          wants = λ c there. wants_step way x xs f c there (gone c.geom) (rest.parts.wants c.number)
              (rest.wants c there);
        }

-- Rows

-- the numbers of rows
pub numbers_of : {X V : Type 0} (key : X → ℕ) (h : X → V) (xs : List X)
    → map (λ row. row.0) (map (λ x. let row : ℕ × V = (key x, h x) in row) xs) ≡ map key xs
numbers_of key h [] = refl
numbers_of key h (x ∷ xs) = ap (λ ns. key x ∷ ns) (numbers_of key h xs)

-- the numbers of the rows with a note
pub noted_is : {X : Type 0} (key : X → ℕ) (test : X → Bool) (xs : List X)
    → noted (map (λ x. (key x, test x)) xs) ≡ map key (filter test xs)
noted_is key test [] = refl
noted_is {X} key test (x ∷ xs) = search (rules, noted_is key test xs)

-- counts within the limit aren't stopped
pub capped_is : (a : Counts) → IsAtMost a greatest_counts → cap a ≡ a
capped_is a most = counts-same (cap a) a (omega (arith, most.r)) (omega (arith, most.w)) (omega (arith, most.e))

-- where the parts of the mesh are told by items, so are its rows, with nothing left to try
pub parts_rows : {C : Type 0} (t : TopoView C) → t.scratches ≡ clear_scratches t.topology
    → (counts : Provider → Counts) (wanted : Consumer → Counts)
    (cons : ℕ) (add : Counts) (f : Parts) (rises falls : Provider → Bool)
    → ((z : Provider) → Contains t.topology.providers z → (f.cells z.number).have ≡ counts z)
    → ((z : Provider) → Contains t.topology.providers z → (f.cells z.number).risen ≡ rises z)
    → ((z : Provider) → Contains t.topology.providers z → (f.cells z.number).fallen ≡ falls z)
    → ((z : Provider) → Contains t.topology.providers z → (f.cells z.number).gain ≡ no_counts)
    → ((c : Consumer) → Contains t.topology.consumers c → set_at f.wants cons add c.number ≡ wanted c)
    → ((n : ℕ) → f.marks n ≡ 0) → ((n : ℕ) → f.made n ≡ no_counts)
    → with_want (with_parts t f) cons add
    ≡ record t {
      haves = map (λ (z : Provider). (z.number, counts z)) t.topology.providers;
      wants = map (λ (c : Consumer). (c.number, wanted c)) t.topology.consumers;
      risen = map (λ (z : Provider). (z.number, rises z)) t.topology.providers;
      fallen = map (λ (z : Provider). (z.number, falls z)) t.topology.providers;
    }
parts_rows {C} t clear counts wanted cons add f rises falls haves risens fallens gains wants marks made =
    let geoms =
    rows-same_on (λ (x : Geom C). x.number) (λ n. record { mark = f.marks n; trial = f.made n }) (λ n. no_scratch)
    t.topology.geoms (λ x there i. record { mark = marks x.number i; trial = made x.number i }) in
    let providers =
    rows-same_on (λ (z : Provider). z.number) (λ n. record { mark = 0; trial = (f.cells n).gain }) (λ n. no_scratch)
    t.topology.providers (λ z there i. record { mark = 0; trial = gains z there i }) in
    search (
      rules,
      ap
          (λ (u : Scratches). record u
          { geoms = (clear_scratches t.topology).geoms; providers = (clear_scratches t.topology).providers }) clear,
      rows_agree (λ (z : Provider). z.number) (λ (z : Provider). (f.cells z.number).have) counts t.topology.providers
          haves,
      rows_agree (λ (z : Provider). z.number) (λ (z : Provider). (f.cells z.number).risen) rises t.topology.providers
          risens,
      rows_agree (λ (z : Provider). z.number) (λ (z : Provider). (f.cells z.number).fallen) falls t.topology.providers
          fallens,
      rows-set (λ (c : Consumer). c.number) f.wants cons add t.topology.consumers,
      rows_agree (λ (c : Consumer). c.number) (λ (c : Consumer). set_at f.wants cons add c.number) wanted
          t.topology.consumers wants,
    )

-- New counts

-- a mesh whose stored counts are those that these grants make is counted, where nothing is granted to a consumer of
-- another class than DEV and TASTE
module _ {C : Type 0} (m : TopoView C) (after : ℕ → Counts)
    (found : (c : Consumer) → Contains m.topology.consumers c → consumer_at m.topology c.number ≡ Some c)
    (none : (c : Consumer) → Contains m.topology.consumers c → holds_grants m.topology c.geom ≡ false
    → after c.number ≡ no_counts)
    (haves : m.haves ≡ map (λ (z : Provider). (z.number, have after m.topology z.number)) m.topology.providers)
    (wants : m.wants ≡ map (λ (c : Consumer). (c.number, want after m.topology c)) m.topology.consumers) where
  -- its grants are these, at each consumer
  grants_are : (c : Consumer) → Contains m.topology.consumers c → granted_by m c.number ≡ after c.number
  grants_are c there = granted_found m c.number c (found c there) ∙ by (holds_grants m.topology c.geom) refl
    where
      by : (b : Bool) → holds_grants m.topology c.geom ≡ b
          → (if b then unwrap_or (value_at m.wants c.number) no_counts else no_counts) ≡ after c.number
      by true e =
          ap (λ rows. unwrap_or (value_at rows c.number) no_counts) wants
          ∙ ap (λ o. unwrap_or o no_counts)
          (item_at (λ (x : Consumer). x.number) (want after m.topology) c.number m.topology.consumers c (found c there))
          ∙ wants_grant after m.topology c (holds_is (geom_at m.topology c.geom) e)
      by false e = sym (none c there e)

  -- so it is counted
  pub counted_by : All (λ g. is_granted_kind g.kind ≡ true → (g.number ≡ 1) ⊎ (g.number ≡ 2)) m.topology.geoms
      → is_exclusive after m.topology ≡ true → fits_limit after m.topology ≡ true
      → map (λ row. row.0) m.risen ≡ map (λ (p : Provider). p.number) m.topology.providers
      → map (λ row. row.0) m.fallen ≡ map (λ (p : Provider). p.number) m.topology.providers
      → m.scratches ≡ clear_scratches m.topology → IsCounted m
  counted_by kinds exclusive limit risen fallen clear =
      search (
        rules,
        grants_agree after (granted_by m) m.topology
            (all_of (λ (c : Consumer). granted_by m c.number ≡ after c.number) m.topology.consumers grants_are),
        rows-same_on (λ (z : Provider). z.number) (have after m.topology) (have (granted_by m) m.topology)
            m.topology.providers,
        rows_agree (λ (c : Consumer). c.number) (want after m.topology) (want (granted_by m) m.topology)
            m.topology.consumers,
      )
